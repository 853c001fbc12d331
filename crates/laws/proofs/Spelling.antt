-- A number has one spelling, a line one division into fields, and text that holds no LF is one line.
-- Assumes nothing.
use mathlib.Core.Path.{◌≡◌, refl, sym, ap, ◌∙◌}
use mathlib.Core.Bool.{Bool, true, false, not, ◌&&◌, ◌||◌}
use mathlib.Core.List.{List, [], ◌∷◌, ◌++◌, append_assoc, append-nil}
use mathlib.Core.Option.{some, none-ne-some, some-injective}
use mathlib.Core.Logic.{◌⊎◌, inl, inr}
use Prim.Native.Nat.{ℕ, suc, ◌+◌, ◌*◌, ◌-◌, ◌/◌, ◌%◌, ◌^◌, ◌<◌, ◌≤◌, zero-le, suc-le-suc}
use native.Mathlib.Omega.{arith}
use native.Mathlib.Nat.{pow-suc, pow-le-pow_right, add-zero, mul_comm, mul_assoc, mul-le-mul_right, le-add_right, le_trans, one-mul}
use native.Mathlib.Decide.{dec_lt}
use lib.Dec.{eqb, leb}
use lib.ListN.{length}
use borrow.Author.Tests.{lt-ltb, le-ltb, leb-true, le-leb, eqb-true, eqb-false}
use Rattle.paper.specs.Text.{ended, lines, lines_on, fields, fields_on, digit, digits, empty, spelled, value_from, number, decimal_to, decimal, tabbed}
use Rattle.laws.proofs.Before.{Test, holds, fails, test, and_left, and_right}

-- ## Numbers

pub digit_range : (b : ℕ) → digit b ≡ true → (48 ≤ b) × (b ≤ 57)
unfolding digit
digit_range b e = (leb-true 48 b (and_left (leb 48 b) (leb b 57) e), leb-true b 57 (and_right (leb 48 b) (leb b 57) e))

pub range_digit : (b : ℕ) → 48 ≤ b → b ≤ 57 → digit b ≡ true
unfolding digit
range_digit b h g = rw (le-leb 48 b h, le-leb b 57 g)

last_digit : (m n v b : ℕ) → 10 ≤ n → n / 10 ≡ v → 48 + n % 10 ≡ b → decimal_to (suc m) n ≡ decimal_to m v ++ (b ∷ [])
unfolding decimal_to
last_digit m n v b big top low = rw (le-ltb n 10 big, top, low)

one_digit : (m n : ℕ) → n < 10 → decimal_to (suc m) n ≡ (48 + n) ∷ []
unfolding decimal_to
one_digit m n h = rw (lt-ltb n 10 h)

-- the digits bs, read on from v, spell what stands before them as v's spelling
valued : (bs : List ℕ) (v m : ℕ) → 0 < v → digits bs ≡ true → decimal_to (m + length bs) (value_from v bs) ≡ decimal_to m v ++ bs
unfolding digits value_from
valued [] v m h e = rw (add-zero m, append-nil)
valued (b ∷ bs) v m h e =
    let r = digit_range b (and_left (digit b) (digits bs) e) in
    let w : 0 < v * 10 + (b - 48) = omega arith in
    let big : 10 ≤ v * 10 + (b - 48) = omega (arith, r) in
    let top : (v * 10 + (b - 48)) / 10 ≡ v = omega (arith, r) in
    let low : 48 + (v * 10 + (b - 48)) % 10 ≡ b = omega (arith, r) in
    let one : decimal_to (suc m) (v * 10 + (b - 48)) ≡ decimal_to m v ++ (b ∷ []) = last_digit m (v * 10 + (b - 48)) v b big top low in
    let f : m + suc (length bs) ≡ suc m + length bs = omega arith in
    rw f (valued bs (v * 10 + (b - 48)) (suc m) w (and_right (digit b) (digits bs) e) ∙ rw one (append_assoc (decimal_to m v) (b ∷ []) bs))

pub not_eq : (a : Bool) → not a ≡ true → a ≡ false
not_eq true e = sym e
not_eq false e = refl

under : (k n : ℕ) → 10 ^ k ≤ n → n < 100000000000000000000 → k ≤ 19
under k n h g = go (dec_lt 19 k)
  where
    go : Dec (19 < k) → k ≤ 19
    go (yes l) = absurd (omega (arith, pow-le-pow_right {n = 10} (suc-le-suc zero-le) {i = 20} {j = k} l))
    go (no l) = omega arith

-- more digits, more value
large : (bs : List ℕ) (v : ℕ) → v * 10 ^ length bs ≤ value_from v bs
unfolding value_from
large [] v = omega arith
large (b ∷ bs) v = go (large bs (v * 10 + (b - 48))) (pow-suc 10 (length bs))
  where
    go : (v * 10 + (b - 48)) * 10 ^ length bs ≤ value_from (v * 10 + (b - 48)) bs → 10 ^ suc (length bs) ≡ 10 ^ length bs * 10 → v * 10 ^ suc (length bs) ≤ value_from (v * 10 + (b - 48)) bs
    go h e = omega (arith, h, ap (λ (k : ℕ). v * k) e, mul_comm (10 ^ length bs) 10, mul_assoc v 10 (10 ^ length bs), mul-le-mul_right {m = v * 10} {n = v * 10 + (b - 48)} (10 ^ length bs) (le-add_right (v * 10) (b - 48)), ap (λ (k : ℕ). v * k) (mul_comm (10 ^ length bs) 10))

-- the value of a number that starts with the digit b
from_first : (b : ℕ) (bs : List ℕ) → 48 ≤ b → b ≤ 57 → digits bs ≡ true → (length bs ≡ 0) ⊎ (48 < b) → value_from 0 (b ∷ bs) < 100000000000000000000
    → b ∷ bs ≡ decimal_to 20 (value_from 0 (b ∷ bs))
unfolding value_from
from_first b [] lo hi e z h = sym (one_digit 19 (0 * 10 + (b - 48)) (omega arith) ∙ (let f : 48 + (0 * 10 + (b - 48)) ≡ b = omega arith in rw f))
from_first b (c ∷ bs) lo hi e (inl z) h = absurd (omega arith)
from_first b (c ∷ bs) lo hi e (inr z) h =
    let v = 0 * 10 + (b - 48) in
    let pos : 0 < v = omega arith in
    let up : 10 ^ length (c ∷ bs) ≤ value_from v (c ∷ bs) =
    le_trans (rw one-mul at (mul-le-mul_right {m = 1} {n = v} (10 ^ length (c ∷ bs)) pos)) (large (c ∷ bs) v) in
    let short : length (c ∷ bs) ≤ 19 = under (length (c ∷ bs)) (value_from v (c ∷ bs)) up h in
    let f : 20 ≡ suc (19 - length (c ∷ bs)) + length (c ∷ bs) = omega arith in
    let g : 48 + v ≡ b = omega arith in
    let whole : decimal_to 20 (value_from v (c ∷ bs)) ≡ decimal_to (suc (19 - length (c ∷ bs))) v ++ (c ∷ bs) =
    ap (λ (k : ℕ). decimal_to k (value_from v (c ∷ bs))) f ∙ valued (c ∷ bs) v (suc (19 - length (c ∷ bs))) pos e in
    let front : decimal_to (suc (19 - length (c ∷ bs))) v ≡ b ∷ [] = one_digit (19 - length (c ∷ bs)) v (omega arith) ∙ ap (λ (k : ℕ). k ∷ []) g in
    sym (whole ∙ ap (λ (k : List ℕ). k ++ (c ∷ bs)) front)

pub one_spelling : (f : List ℕ) (n : ℕ) → number f ≡ some n → n < 100000000000000000000 → f ≡ decimal n
unfolding number spelled decimal empty
one_spelling [] n e h = absurd (none-ne-some n e)
one_spelling (b ∷ bs) n e h = go (test (digit b && digits bs && (empty bs || not (eqb b 48))))
  where
    none_long : (bs : List ℕ) → empty bs || not (eqb b 48) ≡ true → 48 ≤ b → (length bs ≡ 0) ⊎ (48 < b)
    none_long [] t g = inl refl
    none_long (c ∷ cs) t g = inr (let ne = eqb-false b 48 (not_eq (eqb b 48) t) in over (dec_lt 48 b) ne)
      where
        over : Dec (48 < b) → (b ≡ 48 → ⊥) → 48 < b
        over (yes k) ne = k
        over (no k) ne = absurd (ne (omega arith))

    go : Test (digit b && digits bs && (empty bs || not (eqb b 48))) → b ∷ bs ≡ decimal_to 20 n
    go (holds t) =
        let d = and_left (digit b) (digits bs) (and_left (digit b && digits bs) (empty bs || not (eqb b 48)) t) in
        let r = digit_range b d in
        let v : value_from 0 (b ∷ bs) ≡ n = some-injective (value_from 0 (b ∷ bs)) n (rw t at e) in
        (from_first b bs r.0 r.1 (and_right (digit b) (digits bs) (and_left (digit b && digits bs) (empty bs || not (eqb b 48)) t))
        (none_long bs (and_right (digit b && digits bs) (empty bs || not (eqb b 48)) t) r.0) (rw v h)) ∙ ap (λ (k : ℕ). decimal_to 20 k) v
    go (fails t) = absurd (none-ne-some n (rw t at e))

-- ## Fields

-- a line is its fields, with tabs between
pub data Parted (l : List ℕ) : List (List ℕ) → Type 0 where
  parted : (w : List ℕ) (fs : List (List ℕ)) → l ≡ w ++ tabbed fs → Parted l (w ∷ fs)

tab_front : (b : ℕ) (bs w : List ℕ) (fs : List (List ℕ)) → b ≡ 9 → bs ≡ w ++ tabbed fs → Parted (b ∷ bs) (fields_on true b (w ∷ fs))
unfolding fields_on
tab_front b bs w fs h e = parted [] (w ∷ fs) (unfold tabbed in (cc))

byte_front : (b : ℕ) (bs w : List ℕ) (fs : List (List ℕ)) → bs ≡ w ++ tabbed fs → Parted (b ∷ bs) (fields_on false b (w ∷ fs))
unfolding fields_on
byte_front b bs w fs e = parted (b ∷ w) fs (cc)

pub fields_parted : (l : List ℕ) → Parted l (fields l)
unfolding fields
fields_parted [] = parted [] [] (unfold tabbed in refl)
fields_parted (b ∷ bs) = go (test (eqb b 9)) (fields_parted bs)
  where
    go : Test (eqb b 9) → {fs : List (List ℕ)} → Parted bs fs → Parted (b ∷ bs) (fields_on (eqb b 9) b fs)
    go (holds t) (parted w fs e) = rw t (tab_front b bs w fs (eqb-true b 9 t) e)
    go (fails t) (parted w fs e) = rw t (byte_front b bs w fs e)

-- ## Lines

unfoldable pub free : ℕ → List ℕ → Bool
free c [] = true
free c (b ∷ bs) = not (eqb b c) && free c bs

pub free_append : (c : ℕ) (f g : List ℕ) → free c f ≡ true → free c g ≡ true → free c (f ++ g) ≡ true
unfolding free
free_append c [] g p q = q
free_append c (b ∷ f) g p q = rw (and_left (not (eqb b c)) (free c f) p) (free_append c f g (and_right (not (eqb b c)) (free c f) p) q)

pub lines_text : (l rest : List ℕ) → free 10 l ≡ true → lines (l ++ 10 ∷ rest) ≡ ended l ∷ lines rest
unfolding free lines
lines_text [] rest e = unfold lines_on in refl
lines_text (b ∷ l) rest e =
    let f : eqb b 10 ≡ false = not_eq (eqb b 10) (and_left (not (eqb b 10)) (free 10 l) e) in
    rw (f, lines_text l rest (and_right (not (eqb b 10)) (free 10 l) e)) (unfold lines_on in refl)
