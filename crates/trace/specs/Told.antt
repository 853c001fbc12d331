-- What is asked for a trace, and what is told of it. Assumes nothing: these are definitions.
use Rattle.std.specs.Prelude.{ℕ, ◌*◌, ◌≤◌, ◌≡◌, cond, List, leb, length, Option, Some, None}
use Rattle.paper.specs.Limits.{longest}
use Rattle.paper.specs.Route.{Feasible}
use Rattle.paper.specs.Rooms.{laid}
use Rattle.paper.specs.declared.place.Place.{Place}
use Rattle.network.specs.Network.{hop_in, Within}
use Rattle.network.specs.Arranged.{Arranged}
use Rattle.trace_replay.specs.Keys.{keys_at}

-- the first k steps of the step room q are a feasible route of weight w in the network, from `start` to some place
pub record Traceable (g : List ℕ) (start : Place) (q : List ℕ) (k w : ℕ) : Type 0 where
  pub arranged : Arranged g
  pub within : Within g start
  pub few : k ≤ longest
  pub room : 4 * k ≤ length q
  pub end : Place
  pub route : Feasible (hop_in g) start.node start.protocol end.node end.protocol (keys_at q k) w

-- the text t goes over the text room d, which becomes e, if it is not longer; r tells how many bytes were written, if it did
pub record Told (d e t : List ℕ) (r : Option ℕ) : Type 0 where
  pub fits : r ≡ cond (leb (length t) (length d)) (Some (length t)) None
  pub text : e ≡ cond (leb (length t) (length d)) (laid d 0 t) d
