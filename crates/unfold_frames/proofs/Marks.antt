-- Marking a place in a record marks that place and no other. Assumes nothing.
use Prim.Native.Nat.{ℕ, suc, ◌+◌, ◌*◌, ◌-◌, ◌/◌, ◌%◌, ◌^◌, ◌<◌, max}
use mathlib.Core.Path.{◌≡◌, refl, sym, ap, ◌∙◌}
use mathlib.Core.Bool.{Bool, true, false, ◌&&◌}
use mathlib.Core.List.{List}
use mathlib.Core.Logic.{◌⊎◌, inl, inr}
use native.Mathlib.Omega.{arith}
use native.Mathlib.Decide.{ℕ_discrete}
use native.Mathlib.Nat.{div-eq_of_lt, div_self, pow-suc, div-add-mod, zero-div}
use lib.Bits.{bit_or, or_shr, or_step}
use lib.Dec.{T, eqb, ltb, eqb→eq, ltb→lt}
use lib.ListN.{length, get_or}
use lib.Pow.{pow-lt, pow_pos, pow-add, shl-shr}
use lib.Seq.{get_or-set_same, get_or-set_other}
use borrow.Author.Tests.{lt-ltb}
use Rattle.laws.proofs.Order.{Three, three, less, same, more}
use Rattle.unfold_frames.specs.Frames.{words_for, bit, with_mark, mark}

-- ## Digits of a word

or_digit : (a b c : ℕ) → bit_or a b / 2 ^ c % 2 ≡ max (a / 2 ^ c % 2) (b / 2 ^ c % 2)
or_digit a b c = rw (or_shr a b c, or_step (a / 2 ^ c) (b / 2 ^ c)) (omega arith)

own_digit : (b : ℕ) → 2 ^ b / 2 ^ b % 2 ≡ 1
own_digit b = rw (div_self (pow_pos b))

other_digit : (b c : ℕ) → (b ≡ c → ⊥) → 2 ^ b / 2 ^ c % 2 ≡ 0
other_digit b c h = go (three b c)
  where
    go : Three b c → 2 ^ b / 2 ^ c % 2 ≡ 0
    go (less i) = rw (div-eq_of_lt (pow-lt i))
    go (same i) = absurd (h i)
    go (more i) =
        let e : b ≡ suc (b - suc c) + c = omega arith in
        let f : 2 ^ b ≡ 2 ^ suc (b - suc c) * 2 ^ c = ap (λ (k : ℕ). 2 ^ k) e ∙ pow-add 2 (suc (b - suc c)) c in
        rw (f, shl-shr (2 ^ suc (b - suc c)) c, pow-suc 2 (b - suc c)) (omega arith)

-- ## Marks of a record

module _ (words : ℕ) where
  -- a place's digit, told by its word
  mark_is : (L : List ℕ) (o i w : ℕ) → get_or L (o + 5 + i / 16) 0 ≡ w → i < 16 * words → w / 2 ^ (i % 16) % 2 ≡ 1 → T (mark words L o i)
  unfolding mark bit
  mark_is L o i w e h d = rw (e, d, lt-ltb i (16 * words) h) tt

  mark_digit : (L : List ℕ) (o i : ℕ) → T (mark words L o i) → get_or L (o + 5 + i / 16) 0 / 2 ^ (i % 16) % 2 ≡ 1
  unfolding mark bit
  mark_digit L o i t = go (ltb i (16 * words)) t
    where
      go : (b : Bool) → T (b && eqb (get_or L (o + 5 + i / 16) 0 / 2 ^ (i % 16) % 2) 1) → get_or L (o + 5 + i / 16) 0 / 2 ^ (i % 16) % 2 ≡ 1
      go true t = eqb→eq _ 1 t
      go false t = absurd t

  pub mark_below : (L : List ℕ) (o i : ℕ) → T (mark words L o i) → i < 16 * words
  unfolding mark
  mark_below L o i t = go (ltb i (16 * words)) (ltb→lt i (16 * words)) t
    where
      go : (b : Bool) → (T b → i < 16 * words) → T (b && bit (get_or L (o + 5 + i / 16) 0) (i % 16)) → i < 16 * words
      go true f t = f tt
      go false f t = absurd t

  module _ (L : List ℕ) (o i : ℕ) (h : o + 5 + i / 16 < length L) where
    -- the word of place i, and those of the others
    word_set : (j : ℕ) → j / 16 ≡ i / 16 → get_or (with_mark L o i) (o + 5 + j / 16) 0 ≡ bit_or (get_or L (o + 5 + j / 16) 0) (2 ^ (i % 16))
    unfolding with_mark
    word_set j e = rw e (get_or-set_same L (o + 5 + i / 16) _ 0 h)

    word_other : (j : ℕ) → (j / 16 ≡ i / 16 → ⊥) → get_or (with_mark L o i) (o + 5 + j / 16) 0 ≡ get_or L (o + 5 + j / 16) 0
    unfolding with_mark
    word_other j e = get_or-set_other L (o + 5 + i / 16) (o + 5 + j / 16) _ 0 (λ f. e (omega arith))

    pub mark_new : i < 16 * words → T (mark words (with_mark L o i) o i)
    mark_new k = mark_is (with_mark L o i) o i _ (word_set i refl) k (or_digit (get_or L (o + 5 + i / 16) 0) (2 ^ (i % 16)) (i % 16) ∙ rw (own_digit (i % 16)) (omega arith))

    pub mark_stays : (j : ℕ) → T (mark words L o j) → T (mark words (with_mark L o i) o j)
    mark_stays j t = go (ℕ_discrete (j / 16) (i / 16))
      where
        go : Dec (j / 16 ≡ i / 16) → T (mark words (with_mark L o i) o j)
        go (yes e) =
            mark_is (with_mark L o i) o j _ (word_set j e) (mark_below L o j t)
            (or_digit (get_or L (o + 5 + j / 16) 0) (2 ^ (i % 16)) (j % 16) ∙ rw (mark_digit L o j t) (omega arith))
        go (no e) = mark_is (with_mark L o i) o j _ (word_other j e) (mark_below L o j t) (mark_digit L o j t)

    pub mark_old : (j : ℕ) → T (mark words (with_mark L o i) o j) → (j ≡ i) ⊎ T (mark words L o j)
    mark_old j t = go (ℕ_discrete (j / 16) (i / 16)) (ℕ_discrete (i % 16) (j % 16))
      where
        go : Dec (j / 16 ≡ i / 16) → Dec (i % 16 ≡ j % 16) → (j ≡ i) ⊎ T (mark words L o j)
        go (no e) d = inr (mark_is L o j _ refl (mark_below (with_mark L o i) o j t) (ap (λ (w : ℕ). w / 2 ^ (j % 16) % 2) (sym (word_other j e)) ∙ mark_digit (with_mark L o i) o j t))
        go (yes e) (yes d) = inl (omega (arith, div-add-mod j 16, div-add-mod i 16))
        go (yes e) (no d) =
            let f = ap (λ (w : ℕ). w / 2 ^ (j % 16) % 2) (sym (word_set j e)) ∙ mark_digit (with_mark L o i) o j t in
            inr (mark_is L o j _ refl (mark_below (with_mark L o i) o j t)
            (omega (arith, f, or_digit (get_or L (o + 5 + j / 16) 0) (2 ^ (i % 16)) (j % 16), other_digit (i % 16) (j % 16) d)))

  -- a word of zeros marks nothing
  pub mark_none : (L : List ℕ) (o i : ℕ) → get_or L (o + 5 + i / 16) 0 ≡ 0 → T (mark words L o i) → ⊥
  mark_none L o i e t = let f = ap (λ (w : ℕ). w / 2 ^ (i % 16) % 2) (sym e) ∙ mark_digit L o i t in omega (arith, f, zero-div (2 ^ (i % 16)))

-- a place's bit is its digit in its word
pub bit_mark : (size : ℕ) (L : List ℕ) (o e w b : ℕ) (r : Bool) → e < size → w ≡ get_or L (o + 5 + e / 16) 0 → b ≡ e % 16 → r ≡ bit w b → r ≡ mark (words_for size) L o e
unfolding mark
bit_mark size L o e w b r h f g k = rw (lt-ltb e (16 * words_for size) (omega arith), ← f, ← g) k
