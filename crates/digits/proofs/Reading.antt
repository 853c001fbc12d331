-- Numbers that are read digit by digit, and cut down as they grow. Assumes nothing.
use mathlib.Core.Path.{◌≡◌, refl, sym, ap, ◌∙◌}
use mathlib.Core.Bool.{Bool, true, false, not, cond, ◌&&◌, ◌||◌}
use mathlib.Core.List.{List, [], ◌∷◌}
use mathlib.Core.Option as maths
use Prim.Native.Nat.{ℕ, suc, ◌+◌, ◌*◌, ◌-◌, ◌≤◌, ◌<◌}
use native.Mathlib.Omega.{arith}
use native.Mathlib.Numerals.{add-one}
use lib.Dec.{eqb}
use lib.ListN.{length, get_or, drop}
use lib.Seq.{drop-cons, drop-length}
use borrow.Author.Tests.{ne_eqb, eq-eqb}
use Rattle.std.specs.Prelude.{Some, None}
use Rattle.paper.specs.Text.{digit, digits, empty, spelled, value_from, number}
use Rattle.laws.proofs.Spelling.{digit_range}
use Rattle.laws.proofs.Before.{Test, holds, fails, test}
use Rattle.digits.specs.Read.{few, told, told_from, digit_of}

digit_cases : (b d : ℕ) → Some d ≡ digit_of b → (digit b ≡ true) × (d ≡ b - 48)
unfolding digit_of
digit_cases b d e = go (test (digit b))
  where
    go : Test (digit b) → (digit b ≡ true) × (d ≡ b - 48)
    go (holds a) = let k : Some d ≡ Some (b - 48) = e ∙ rw a in (a, cc)
    go (fails a) = let k : Some d ≡ None = e ∙ rw a in absurd (cc)

pub digit_most : (b d : ℕ) → Some d ≡ digit_of b → d ≤ 9
digit_most b d e = let s = digit_cases b d e in omega (arith, digit_range b s.0)

told_digit : (v b : ℕ) (bs : List ℕ) → digit b ≡ true → told_from v (b ∷ bs) ≡ told_from (v * 10 + (b - 48)) bs
unfolding told_from digits value_from
told_digit v b bs e = rw e

told_other : (v b : ℕ) (bs : List ℕ) → None ≡ digit_of b → told_from v (b ∷ bs) ≡ None
unfolding told_from digits value_from digit_of
told_other v b bs e = go (test (digit b))
  where
    go : Test (digit b) → told_from v (b ∷ bs) ≡ None
    go (holds a) = let k : None ≡ Some (b - 48) = e ∙ rw a in absurd (cc)
    go (fails a) = rw a

-- a value that is too large may be cut down at any digit
cut_down : (bs : List ℕ) (v : ℕ) → few (value_from v bs) ≡ few (value_from (few v) bs)
unfolding value_from
cut_down [] v = omega arith
cut_down (b ∷ bs) v =
    let e : few (v * 10 + (b - 48)) ≡ few (few v * 10 + (b - 48)) = omega arith in
    cut_down bs (v * 10 + (b - 48)) ∙ (ap (λ (k : ℕ). few (value_from k bs)) e) ∙ sym (cut_down bs (few v * 10 + (b - 48)))

told_cut : (v : ℕ) (bs : List ℕ) → told_from v bs ≡ told_from (few v) bs
unfolding told_from
told_cut v bs = ap (λ (k : ℕ). cond (digits bs) (Some k) None) (cut_down bs v)

-- ## A turn of the loop that reads digits

pub told_more : (l : List ℕ) (i v d w : ℕ) → i < length l → Some d ≡ digit_of (get_or l i 0) → w ≡ few (v * 10 + d) → told_from v (drop i l) ≡ told_from w (drop (i + 1) l)
told_more l i v d w h e f =
    let s = digit_cases (get_or l i 0) d e in
    rw (drop-cons l i 0 h, add-one i)
    (told_digit v (get_or l i 0) (drop (suc i) l) s.0 ∙ told_cut (v * 10 + (get_or l i 0 - 48)) (drop (suc i) l)
    ∙ ap (λ (n : ℕ). told_from n (drop (suc i) l)) (rw (← s.1) (sym f)))

pub told_stop : (l : List ℕ) (i v : ℕ) → i < length l → None ≡ digit_of (get_or l i 0) → told_from v (drop i l) ≡ None
told_stop l i v h e = rw (drop-cons l i 0 h) (told_other v (get_or l i 0) (drop (suc i) l) e)

pub told_all : (l : List ℕ) (i v : ℕ) → i ≡ length l → v ≤ 1000000001 → told_from v (drop i l) ≡ Some v
unfolding told_from digits value_from
told_all l i v e h = let k : few v ≡ v = omega arith in rw (e, drop-length l) (ap Some k)

-- ## The first digit

plain : (b : ℕ) (bs : List ℕ) → empty bs || not (eqb b 48) ≡ true → told_from 0 (b ∷ bs) ≡ told (number (b ∷ bs))
unfolding number spelled told told_from digits
plain b bs e = rw e (go (digit b && digits bs))
  where
    go : (c : Bool) → cond c (Some (few (value_from 0 (b ∷ bs)))) None ≡ told (cond (c && true) (maths.some (value_from 0 (b ∷ bs))) maths.none)
    go true = refl
    go false = refl

pub told_none : (l : List ℕ) → length l < 1 → None ≡ told (number l)
unfolding number spelled told
told_none [] h = refl
told_none (b ∷ bs) h = absurd (omega arith)

-- a zero with more behind it
pub told_zero : (l : List ℕ) → 2 ≤ length l → get_or l 0 0 ≡ 48 → None ≡ told (number l)
unfolding number spelled told empty
told_zero [] h z = absurd (omega arith)
told_zero (a ∷ []) h z = absurd (omega arith)
told_zero (a ∷ b ∷ bs) h z = rw (eq-eqb a 48 z) (go (digit a && digits (b ∷ bs)))
  where
    go : (c : Bool) → None ≡ told (cond (c && false) (maths.some (value_from 0 (a ∷ b ∷ bs))) maths.none)
    go true = refl
    go false = refl

pub told_one : (l : List ℕ) → 1 ≤ length l → length l < 2 → told_from 0 l ≡ told (number l)
unfolding empty
told_one [] h g = absurd (omega arith)
told_one (b ∷ []) h g = plain b [] refl
told_one (a ∷ b ∷ bs) h g = absurd (omega arith)

pub told_plain : (l : List ℕ) → 1 ≤ length l → (get_or l 0 0 ≡ 48 → ⊥) → told_from 0 l ≡ told (number l)
told_plain [] h z = absurd (omega arith)
told_plain (b ∷ bs) h z = plain b bs (rw (ne_eqb b 48 z) (or_true (empty bs)))
  where
    or_true : (b : Bool) → b || true ≡ true
    or_true true = refl
    or_true false = refl

-- ## What a turn of the loop and the first byte come to

pub ruleset turns = (digit_most, told_more, told_stop, told_all)

pub ruleset first_byte = (told_none, told_zero, told_one, told_plain)
