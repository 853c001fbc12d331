-- A loop over the records of a node does what the loop over all records does. Assumes nothing.
use Prim.Native.Nat.{ℕ, ◌+◌, ◌-◌, ◌<◌, ◌≤◌}
use mathlib.Core.Path.{◌≡◌, refl, sym, ◌∙◌}
use mathlib.Core.Bool.{Bool, true, false}
use native.Mathlib.Omega.{arith}
use Rattle.std.specs.declared.ops.Range.{Range}
use Rattle.tables_costs.specs.Loop.{upto}
use Rattle.network.specs.Next.{Stretch}
use Rattle.tables_sweeps.proofs.Loops.{turn, upto_skip}

-- of n records those of which the test holds are those of a; a walk over a is at b, and s₀ has become s with the records before it done
pub record Walk {S : Type 0} (test : ℕ → Bool) (f : ℕ → S → S) (n : ℕ) (a b : Range ℕ) (s₀ s : S) : Type 0 where
  pub own : Stretch test n a.start a.end
  pub end : b.end ≡ a.end
  pub begun : a.start ≤ b.start
  pub until : b.start ≤ b.end
  pub done : s ≡ upto f b.start s₀

-- the walk at b yields i, and is at d then
abbrev pub Yields : Range ℕ → ℕ → Range ℕ → Type 0
Yields b i d = (d.end ≡ b.end) × ((0 < b.end - b.start) × (i ≡ b.start) × (d.start ≡ b.start + 1))

-- the other records do nothing
module _ {S : Type 0} {test : ℕ → Bool} {f : ℕ → S → S} {n : ℕ} {a : Range ℕ} (none : (k : ℕ) (s : S) → test k ≡ false → f k s ≡ s) where
  pub walk_on : (s : S) → Stretch test n a.start a.end → Walk test f n a a s s
  unfolding upto
  walk_on s own =
      record { own = own; end = refl; begun = omega arith; until = own.order; done = sym (upto_skip f 0 a.start s (omega arith) (λ k _ h t. none k t (own.before k h))) }

  pub walk_end : {b : Range ℕ} {s₀ s : S} → Walk test f n a b s₀ s → b.end - b.start ≡ 0 → s ≡ upto f n s₀
  walk_end {b} {s₀} so e =
      so.done ∙ sym (upto_skip f b.start n s₀ (omega (arith, so.end, so.until, so.own.within)) (λ k h l t. none k t (so.own.behind k (omega (arith, so.end)) l)))

module _ {S : Type 0} {test : ℕ → Bool} {f : ℕ → S → S} {n : ℕ} {a b : Range ℕ} {s₀ s : S} (so : Walk test f n a b s₀ s) {i : ℕ} {d : Range ℕ} (y : Yields b i d) where
  pub own_here : (i < n) × (test i ≡ true)
  own_here = (omega (arith, so.own.within, so.end, y.1), so.own.inside i (omega (arith, so.begun, y.1)) (omega (arith, so.end, y.1)))

  pub further : (t : S) → t ≡ f i s → Walk test f n a d s₀ t
  further t e =
      record {
        own = so.own;
        end = omega (arith, so.end, y.0);
        begun = omega (arith, so.begun, y.1);
        until = omega (arith, y.0, y.1);
        done = rw y.1.2 (turn f b.start s₀ s t so.done (rw y.1.1 at e));
      }
