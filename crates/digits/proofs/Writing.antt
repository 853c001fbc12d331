-- One writer after another, and a text written piece by piece. Assumes nothing.
use mathlib.Core.Path.{◌≡◌, refl, sym, ap, ◌∙◌}
use mathlib.Core.List.{List, [], ◌∷◌, ◌++◌, map}
use Prim.Native.Nat.{ℕ, suc, ◌+◌, ◌-◌, ◌<◌, ◌≤◌}
use native.Mathlib.Numerals.{add-one}
use native.Mathlib.Nat.{add-zero}
use native.Mathlib.Omega.{arith}
use lib.ListN.{length, get_or, set, drop, length-append}
use lib.Seq.{drop-cons, drop-length}
use borrow.Rule.Slice.PartMut.{put_mid}
use Rattle.paper.specs.Text.{decimal, tabbed}
use Rattle.laws.proofs.Laid.{laid_none, laid_one, laid_then, laid_seq, length_laid, laid_part}
use Rattle.digits.specs.declared.write.Writer.{Writer}
use Rattle.digits.specs.Digits.{digit_byte, last_digits}
use Rattle.digits.specs.Write.{Put, Left, Holds, Wrote, Leaves}
use Rattle.digits.proofs.Digits.{digits_first, decimal_digits}

pub then : {d e f : List ℕ} {i j k : ℕ} {s t : List ℕ} → Put d e i j s → Put e f j k t → Put d f i k (s ++ t)
then {d} {e} {f} {i} {j} {k} {s} {t} p q =
    record { next = omega (arith, p.next, q.next, length-append s t); text = laid_seq d e f s t i j p.text p.next q.text }

pub none_put : (d : List ℕ) (i : ℕ) → Put d d i i []
none_put d i = record { next = sym (add-zero i); text = sym (laid_none d i) }

-- ## Piece by piece

pub whole_left : (d : List ℕ) (i : ℕ) (s : List ℕ) → Left d i s d i s
whole_left d i s = record { ends = refl; same = refl; size = refl }

pub less_left : {d e f : List ℕ} {i j k : ℕ} {s u t : List ℕ} → Left d i s e j (u ++ t) → Put e f j k u → Left d i s f k t
less_left {e} {f} {j} {k} {u} {t} l p =
    record {
      ends = omega (arith, l.ends, p.next, length-append u t);
      same = (rw (p.text, p.next) (sym (laid_then e j u t))) ∙ l.same;
      size = ap length p.text ∙ length_laid e j u ∙ l.size;
    }

-- there is room for the next piece u
pub left_room : {d e : List ℕ} {i j : ℕ} {s : List ℕ} (u t : List ℕ) → i + length s ≤ length d → Left d i s e j (u ++ t) → j + length u ≤ length e
left_room u t h l = omega (arith, l.ends, l.size, length-append u t)

pub none_left : {d e : List ℕ} {i j : ℕ} {s : List ℕ} → Left d i s e j [] → Put d e i j s
none_left {e} {j} l = record { next = omega (arith, l.ends); text = sym (laid_none e j) ∙ l.same }

-- ## The same of a writer

-- a text after another
pub wrote_then : {w v x : Writer} {s t : List ℕ} → Wrote w v s → Wrote v x t → Wrote w x (s ++ t)
wrote_then p q = record { room = q.room ∙ p.room; size = q.size ∙ p.size; put = then p.put q.put }

pub byte_then : {w v x : Writer} {b : ℕ} {s : List ℕ} → Wrote w v (b ∷ []) → Wrote v x s → Wrote w x (b ∷ s)
byte_then p q = wrote_then p q

pub leaves_all : (w : Writer) (s : List ℕ) → Leaves w w s s
leaves_all w s = record { room = refl; left = whole_left w.out.now w.at s }

pub leaves_less : {w v x : Writer} {s u t : List ℕ} → Leaves w v s (u ++ t) → Wrote v x u → Leaves w x s t
leaves_less l p = record { room = p.room ∙ l.room; left = less_left l.left p.put }

-- there is room for the next piece u
pub leaves_room : {w v : Writer} {s : List ℕ} (u t : List ℕ) → Holds w s → Leaves w v s (u ++ t) → Holds v u
leaves_room u t h l = left_room u t h l.left

pub leaves_none : {w v : Writer} {s : List ℕ} → Leaves w v s [] → Wrote w v s
leaves_none l = record { room = l.room; size = l.left.size; put = none_left l.left }

-- ## A byte and a word

pub byte_put : (d : List ℕ) (i v : ℕ) → Put d (set d i v) i (i + 1) (v ∷ [])
byte_put d i v = record { next = refl; text = sym (laid_one d i v) }

pub word_put : (d : List ℕ) (i : ℕ) (w v : List ℕ) → i + length w ≤ length d → v ≡ w → Put d (put_mid i (i + length w - i) d v) i (i + length w) w
word_put d i w v h e = record { next = refl; text = laid_part d v w i (length w) refl h e }

-- ## A number: its last k digits are left

pub number_leaves : (w : Writer) (n k : ℕ) → k ≡ length (decimal n) → Leaves w w (decimal n) (last_digits k n)
number_leaves w n k e = rw (e, ← decimal_digits n) (leaves_all w (decimal n))

pub digit_leaves : {w v x : Writer} {s : List ℕ} (n k b : ℕ) → 0 < k → Leaves w v s (last_digits k n) → b ≡ digit_byte n (k - 1) → Wrote v x (b ∷ [])
    → Leaves w x s (last_digits (k - 1) n)
digit_leaves n k b h l q p = leaves_less (rw (digits_first k n h) at l) (rw q at p)

pub number_wrote : {w v : Writer} {s : List ℕ} (n k : ℕ) → k ≡ 0 → Leaves w v s (last_digits k n) → Wrote w v s
unfolding last_digits
number_wrote n k h l = leaves_none (rw h at l)

-- ## Fields: the numbers from the one at k on are left

fields_first : (ns : List ℕ) (k : ℕ) → k < length ns
    → tabbed (map decimal (drop k ns)) ≡ (9 ∷ decimal (get_or ns k 0)) ++ tabbed (map decimal (drop (suc k) ns))
unfolding tabbed
fields_first ns k h = rw (drop-cons ns k 0 h)

pub field_room : {w v : Writer} {s : List ℕ} (ns : List ℕ) (k : ℕ) → k < length ns → Holds w s → Leaves w v s (tabbed (map decimal (drop k ns)))
    → Holds v (9 ∷ decimal (get_or ns k 0))
field_room ns k h g l = leaves_room (9 ∷ decimal (get_or ns k 0)) (tabbed (map decimal (drop (suc k) ns))) g (rw (fields_first ns k h) at l)

pub field_leaves : {w v x : Writer} {s : List ℕ} (ns : List ℕ) (k : ℕ) → k < length ns → Leaves w v s (tabbed (map decimal (drop k ns)))
    → Wrote v x (9 ∷ decimal (get_or ns k 0)) → Leaves w x s (tabbed (map decimal (drop (k + 1) ns)))
field_leaves ns k h l p = rw (add-one k) (leaves_less (rw (fields_first ns k h) at l) p)

pub fields_wrote : {w v : Writer} {s : List ℕ} (ns : List ℕ) (k : ℕ) → k ≡ length ns → Leaves w v s (tabbed (map decimal (drop k ns))) → Wrote w v s
unfolding tabbed
fields_wrote ns k h l = leaves_none (rw (h, drop-length ns) at l)
