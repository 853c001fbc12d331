-- What looking for a step hands on. Assumes nothing.
use Prim.Native.Nat.{ℕ, ◌<◌}
use mathlib.Core.Path.{◌≡◌}
use mathlib.Core.Bool.{true, false}
use mathlib.Core.List.{List, []}
use native.Mathlib.Omega.{arith}
use borrow.Author.Tests.{eq-eqb}
use Rattle.network.specs.Network.{places, funs, node, kind, x_of}
use Rattle.std.specs.Prelude.{Some, None}
use Rattle.std.specs.Prelude as std
use Rattle.std.specs.Option.{is_some}
use Rattle.network.specs.Next.{suits, First}
use Rattle.unfold_exits.specs.Cost.{Square}
use Rattle.unfold_exits.specs.Lists.{Lists, Ranged}
use Rattle.unfold_exits.specs.declared.lists.Exit.{Exit}
use Rattle.unfold_exits.specs.Exits.{Leaves, Reading, Crossing}
use Rattle.unfold_tries.specs.Trial.{Trying, Serves, top_of}
use Rattle.unfold_tries.specs.declared.trial.Spot.{Spot}
use Rattle.unfold_tries.specs.declared.trial.Step.{Step}
use Rattle.unfold_tries.proofs.Better.{better_none}
use Rattle.unfold_picks.specs.Look.{Looking, ByTunnel}

module _ {g L : List ℕ} {o : ℕ} {at : Spot} (k : Looking g L o at) where
  -- over the number of places, as it was read
  module _ {size : ℕ} (e : size ≡ places g) where
    pub looked_reading : {W C : List ℕ} → Square (places g) W C → Reading size W C L o
    looked_reading q = rw e (record { square = q; record_room = k.record_room; begins = k.begins })

    pub looked_lists : {W C : List ℕ} {E : List Exit} → Lists (Leaves size W C L o) E → Lists (Leaves (places g) W C L o) E
    looked_lists l = rw e at l

    pub looked_trying : {E : List Exit} → Ranged size E → Trying g E at
    looked_trying r = record { ranged = rw e at r; inside = k.node; some_left = k.some_left; few_left = k.few_left }

    pub looked_crossing : {E : List Exit} → Ranged size E → Crossing g E at.protocol
    looked_crossing r = record { protocol = k.protocol; ranged = rw e at r }

-- where nothing wraps, there is nothing to try
pub no_wraps : (g : List ℕ) {W C L : List ℕ} {o : ℕ} (at : Spot) (r : std.Option ℕ) {b : Step} → First (suits g at.node 1 at.protocol) (funs g) r → is_some r ≡ false → ByTunnel g W C L o at b b
unfolding suits top_of
no_wraps g at (Some i) first e = absurd (let z : ◌≡◌ {A = ℕ} 0 1 = cc in omega arith)
no_wraps g at None next e = record { O = []; outward = λ j h s. absurd (none j h s); better = better_none (λ s q. none q.at q.below q.is.serving) }
  where
    none : (j : ℕ) → j < funs g → Serves g at.node 1 at.protocol 0 j → ⊥
    none j h y =
        let yes : suits g at.node 1 at.protocol j ≡ true = rw (eq-eqb (node g j) at.node y.at_node, eq-eqb (kind g j) 1 y.of_kind, eq-eqb (x_of g j) at.protocol y.on_top) in
        let not : suits g at.node 1 at.protocol j ≡ false = next.none_before j (omega arith) h in
        let z : ◌≡◌ {A = ℕ} 0 1 = cc (yes, not) in
        omega arith
