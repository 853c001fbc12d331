-- Where a packet is during a replay, and where it goes. Assumes nothing: these are definitions.
use Rattle.std.specs.Prelude.{ℕ, ◌+◌, ◌*◌, ◌<◌, ◌≤◌, ◌≡◌, List, [], ◌∷◌, length}
use Rattle.std.proofs.Math.Option.{Option, none, some}
use Rattle.paper.specs.Limits.{longest}
use Rattle.paper.specs.Net.{Key, key}
use Rattle.paper.specs.Route.{At, at, replay}
use Rattle.paper.specs.declared.place.Place.{Place}
use Rattle.laws.specs.Peak.{peak}
use Rattle.trace_stack.specs.Items.{below, highest, height_after}
use Rattle.network.specs.Network.{nodes, hop_in, Within}
use Rattle.network.specs.Arranged.{Arranged}
use Rattle.trace_replay.specs.Keys.{keys_at}
use Rattle.trace_replay.specs.declared.packet.Packet.{Packet}
use Rattle.trace_replay.specs.declared.steps.Steps.{Steps}

-- ## One step

-- no step weighs more than this, nor does a route
abbrev pub most_step : ℕ
most_step = 2000000000

abbrev pub most_spent : ℕ
most_spent = 8192000000000

-- the packet's node is one of the network's, its stack has a top and the cells hold it, and what it has spent is that of a route
pub record Here (g : List ℕ) (p : Packet) : Type 0 where
  pub inside : p.node < nodes g
  pub some_top : 1 ≤ p.height
  pub held : p.height ≤ highest
  pub spent : p.spent ≤ most_spent

unfoldable pub arrived : ℕ → Packet → Option (ℕ × ℕ) → Packet
arrived h p none = p
arrived h p (some r) = record { node = r.0; height = h; spent = p.spent + r.1 }

-- the packet p after the step k, or p itself where k leads nowhere
unfoldable pub after : List ℕ → Key → Packet → Packet
after g (key l c x y) p = arrived (height_after c p.height) p (hop_in g (key l c x y) p.node)

-- ## A route

-- a packet at its start, and where it is: its stack holds only the start's protocol
abbrev pub origin : Place → Packet
origin start = record { node = start.node; height = 1; spent = 0 }

abbrev pub source : Place → At
source start = at start.node (start.protocol ∷ []) 0

-- where the packet is, its stack in the cells cs
unfoldable pub whereabouts : Packet → List ℕ → At
whereabouts p cs = at p.node (below cs p.height) p.spent

-- the steps ks are allowed one after another from c on, and no stack on the way is higher than the cells
pub record Runs (hop : Key → ℕ → Option (ℕ × ℕ)) (ks : List Key) (c : At) : Type 0 where
  pub last : At
  pub goes : replay hop ks c ≡ some last
  pub low : peak hop ks c ≤ highest

-- the packet p, with the stack s, has ks still to go
pub record Underway (g : List ℕ) (ks : List Key) (p : Packet) (s : List ℕ) : Type 0 where
  pub runs : Runs (hop_in g) ks (at p.node s p.spent)
  pub inside : p.node < nodes g
  pub tall : p.height ≡ length s
  pub spent : p.spent + most_step * length ks ≤ most_spent

-- the first k steps of the step room q are a route from `start`
pub record Route (g : List ℕ) (start : Place) (q : List ℕ) (k : ℕ) : Type 0 where
  pub arranged : Arranged g
  pub within : Within g start
  pub few : k ≤ longest
  pub room : 4 * k ≤ length q
  pub runs : Runs (hop_in g) (keys_at q k) (source start)

abbrev pub IsRoute : List ℕ → Steps → Type 0
IsRoute g s = Route g s.start s.room.now s.count
