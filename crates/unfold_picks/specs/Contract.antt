-- Where the unfolding stands, over the rooms: the network g, the tables W and C, the open levels in the choice room L, and the spot that is reached.
-- Assumes nothing: these are definitions.
use Prim.Native.Nat.{ℕ, suc, ◌+◌, ◌*◌, ◌<◌, ◌≤◌}
use Rattle.std.specs.Prelude.{◌≡◌, ◌↔◌, T}
use mathlib.Core.List.{List, [], ◌∷◌}
use Rattle.std.proofs.Math.ListN.{length}
use Rattle.paper.specs.Net.{Key}
use Rattle.paper.specs.Route.{flat}
use Rattle.paper.specs.declared.place.Place.{Place}
use Rattle.laws.specs.Value.{Value}
use Rattle.laws.specs.Unfold.{Frame, Exact, Opens, Picked, State}
use Rattle.network.specs.Network.{nodes, protocols, places, hop_in}
use Rattle.unfold_frames.specs.Frames.{words_for, held, below, Kept}
use Rattle.tables_costs.specs.Cells.{table}
use Rattle.unfold_tries.specs.declared.trial.Spot.{Spot}
use Rattle.unfold_tries.specs.declared.trial.Step.{Step}

-- the table that the rooms hold
abbrev pub table_in : (g W C : List ℕ) → (S a D b : ℕ) → Value
table_in g W C = table (nodes g) (protocols g) W C

-- record k of the choice room, and those before it, the last first
abbrev pub level_in : (g L : List ℕ) → ℕ → Frame
level_in g L k = held (protocols g) (words_for (places g)) L k

abbrev pub beneath_in : (g L : List ℕ) → ℕ → List Frame
beneath_in g L k = below (protocols g) (words_for (places g)) L k

-- the records up to number k are the same
abbrev pub KeptIn : (g : List ℕ) (k : ℕ) (L L' : List ℕ) → Type 0
KeptIn g k L L' = Kept (protocols g) (words_for (places g)) k L L'

module _ (g W C : List ℕ) where
  -- level k is the inmost that is open, and the unfolding of a route to `end` has come to `at`
  pub record Stands (end : Place) (L : List ℕ) (k : ℕ) (at : Spot) : Type 0 where
    pub exact : Exact (hop_in g) (nodes g) (protocols g) (table_in g W C)
    pub room : (words_for (places g) + 5) * suc k ≤ length L
    pub state : State (hop_in g) (nodes g) (protocols g) (table_in g W C) end.node end.protocol (level_in g L k) (beneath_in g L k) at.node at.protocol at.weight at.left

  -- of the steps from `at` that pass there, the one of least key, which leads to `to`
  abbrev pub PickedIn : (L : List ℕ) (k : ℕ) (at : Spot) → Key → (to : Spot) → Type 0
  PickedIn L k at j to = Picked (hop_in g) (nodes g) (protocols g) (table_in g W C) (level_in g L k) (beneath_in g L k) at.node at.protocol at.weight at.left j to.node to.protocol to.weight to.left

  -- the step picked, by its key as the step room spells it
  pub record Taken (L : List ℕ) (k : ℕ) (at : Spot) (s : Step) : Type 0 where
    pub key : Key
    pub spelled : s.key ≡ flat (key ∷ [])
    pub picked : PickedIn L k at key s.to

  -- record k + 1 is that of the tunnel over x from level k that begins at `to`
  pub record Records (L : List ℕ) (k x : ℕ) (to : Spot) : Type 0 where
    pub node : (level_in g L (suc k)).node ≡ to.node
    pub protocol : (level_in g L (suc k)).protocol ≡ to.protocol
    pub hidden : (level_in g L (suc k)).hidden ≡ x
    pub weighs : (level_in g L (suc k)).weighs ≡ to.weight
    pub counts : (level_in g L (suc k)).counts ≡ to.left
    pub exits : (i j : ℕ) → i < nodes g → j < protocols g
        → T ((level_in g L (suc k)).exits i j) ↔ Opens (hop_in g) (nodes g) (protocols g) (table_in g W C) (level_in g L k) x to.node to.protocol to.weight to.left i j
