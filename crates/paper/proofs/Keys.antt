-- The order of step keys, compared place by place from place i on. Assumes nothing.
use mathlib.Core.Path.{◌≡◌, refl, ◌∙◌}
use mathlib.Core.Bool.{Bool, true, false, ◌&&◌, ◌||◌}
use mathlib.Core.List.{List}
use Prim.Native.Nat.{ℕ, ◌+◌, ◌<◌}
use native.Mathlib.Numerals.{add-one}
use native.Mathlib.Omega.{arith}
use lib.Dec.{ltb, eqb}
use lib.ListN.{length, get_or, drop}
use lib.Seq.{drop-cons, drop-length}
use borrow.Author.Tests.{eq-eqb, ne_eqb, le-ltb}
use Rattle.paper.specs.Net.{before}

or_false : (b : Bool) → b || false ≡ b
or_false true = refl
or_false false = refl

at : (a b : List ℕ) (i : ℕ) → i < length a → i < length b
    → before (drop i a) (drop i b) ≡ ltb (get_or a i 0) (get_or b i 0) || (eqb (get_or a i 0) (get_or b i 0) && before (drop (i + 1) a) (drop (i + 1) b))
unfolding before
at a b i h g = rw (drop-cons a i 0 h, drop-cons b i 0 g, add-one)

pub same_at : (a b : List ℕ) (i : ℕ) → i < length a → i < length b → get_or a i 0 ≡ get_or b i 0 → before (drop i a) (drop i b) ≡ before (drop (i + 1) a) (drop (i + 1) b)
same_at a b i h g e = at a b i h g ∙ rw (eq-eqb (get_or a i 0) (get_or b i 0) e, le-ltb (get_or a i 0) (get_or b i 0) (omega arith))

pub differ_at : (a b : List ℕ) (i : ℕ) → i < length a → i < length b → (get_or a i 0 ≡ get_or b i 0 → ⊥) → before (drop i a) (drop i b) ≡ ltb (get_or a i 0) (get_or b i 0)
differ_at a b i h g e = at a b i h g ∙ rw (ne_eqb (get_or a i 0) (get_or b i 0) e) (or_false (ltb (get_or a i 0) (get_or b i 0)))

pub ended : (a b : List ℕ) (i : ℕ) → i ≡ length b → before (drop i a) (drop i b) ≡ false
unfolding before
ended a b i e = rw (e, drop-length b)
