-- The link and the function that a step key names, and where the step leads as an option. Assumes nothing: these are definitions.
use Rattle.std.specs.Prelude.{ℕ, Bool, ◌&&◌, List, eqb, Some, None}
use Rattle.std.specs.Prelude as std
use Rattle.std.proofs.Math.Option.{Option, none, some}
use Rattle.network.specs.Network.{number, y_of}
use Rattle.network.specs.Next.{leaves, suits}
use Rattle.trace_replay.specs.declared.hops.Reached.{Reached}

-- link i leaves node v and has the number l
abbrev pub numbered : (g : List ℕ) (v l i : ℕ) → Bool
numbered g v l i = leaves g v i && eqb (number g i) l

-- function j is that of node v, kind k, x and y
abbrev pub known : (g : List ℕ) (v k x y j : ℕ) → Bool
known g v k x y j = suits g v k x j && eqb (y_of g j) y

abbrev pub hopped : std.Option Reached → Option (ℕ × ℕ)
hopped None = none
hopped (Some r) = some (r.node, r.weight)
