-- The contracts of `level` and `tunnel` over the rooms: L and Q, the choice and the step room, become L' and Q'.
-- g is the network, W and C are the tables, c is the course of the unfolding. Assumes nothing: these are definitions.
use Rattle.std.specs.Prelude.{ℕ, zero, suc, ◌-◌, ◌*◌, ◌<◌, ◌≤◌, ◌≡◌, List, length}
use Rattle.paper.specs.Net.{Key}
use Rattle.paper.specs.Rooms.{laid}
use Rattle.paper.specs.Route.{flat}
use Rattle.paper.specs.declared.place.Place.{Place}
use Rattle.laws.specs.Unfold.{Frame, Moved, Levelled}
use Rattle.network.specs.Network.{nodes, protocols, places, hop_in}
use Rattle.unfold_tries.specs.declared.trial.Spot.{Spot}
use Rattle.unfold_picks.specs.Contract.{table_in, level_in, beneath_in, KeptIn, Stands}
use Rattle.unfold.specs.declared.course.Course.{Course}

-- where level k leaves the unfolding: the bottom at the route's end with nothing left, another with what it hid on top
unfoldable pub Left : ℕ → Place → Frame → Spot → Type 0
Left zero end f r = (r.node ≡ end.node) × (r.protocol ≡ end.protocol) × (r.weight ≡ 0) × (r.left ≡ 0)
Left (suc k) end f r = r.protocol ≡ f.hidden

module _ (g W C : List ℕ) (c : Course) where
  -- where both are called
  pub record Asks (L Q : List ℕ) (at : Spot) : Type 0 where
    pub stands : Stands g W C c.end L c.level at
    pub fits : at.left ≤ c.total
    pub choices : 8 * (places g * places g) ≤ length L
    pub steps : 4 * c.total ≤ length Q

  -- from `at` to `r` in the level: the steps between are written, and the records that are open are as they were
  pub record Went (L L' Q Q' : List ℕ) (at r : Spot) : Type 0 where
    pub ks : List Key
    pub wrote : Q' ≡ laid Q (4 * (c.total - at.left)) (flat ks)
    pub kept : KeptIn g c.level L L'
    pub moved : Moved (hop_in g) (nodes g) (protocols g) (table_in g W C) c.end.node c.end.protocol (level_in g L c.level) (beneath_in g L c.level) at.node at.protocol at.weight at.left ks (level_in g L c.level) (beneath_in g L c.level) r.node r.protocol r.weight r.left

  -- a wrap, an inner level and its unwrap are written
  pub record TunnelEnsures (L L' Q Q' : List ℕ) (at r : Spot) : Type 0 where
    pub went : Went L L' Q Q' at r
    pub less : r.left < at.left
    pub leaves : r.protocol ≡ at.protocol

  -- the level is closed, or at the bottom the whole rest is written
  pub record LevelEnsures (L L' Q Q' : List ℕ) (at r : Spot) : Type 0 where
    pub ks : List Key
    pub wrote : Q' ≡ laid Q (4 * (c.total - at.left)) (flat ks)
    pub kept : KeptIn g c.level L L'
    pub does : Levelled (hop_in g) (nodes g) (protocols g) (table_in g W C) c.end.node c.end.protocol (level_in g L c.level) (beneath_in g L c.level) at.node at.protocol at.weight at.left ks r.node r.weight r.left
    pub leaves : Left c.level c.end (level_in g L c.level) r
