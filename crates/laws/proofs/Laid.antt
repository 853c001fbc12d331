-- Laying one text over a room after another: what every writer's proof is made of. Assumes nothing.
use mathlib.Core.Path.{◌≡◌, refl, sym, ◌∙◌}
use mathlib.Core.List.{List, [], ◌∷◌, ◌++◌}
use Prim.Native.Nat.{ℕ, zero, suc, ◌+◌, ◌-◌, ◌<◌, ◌≤◌}
use native.Mathlib.Nat.{add-zero}
use native.Mathlib.Omega.{arith}
use lib.ListN.{length, get_or, set, length-set}
use native.Mathlib.Decide.{dec_lt}
use lib.Seq.{length-sets, get_or-set_same, get_or-set_other, ext_get_or}
use Rattle.std.proofs.Common.{append_assoc}
use Rattle.std.proofs.lemmas.List.Edits.{sets-eq}
use borrow.Rule.Slice.PartMut.{put_mid, Post-is}
use Rattle.paper.specs.Rooms.{laid}

pub laid_none : (d : List ℕ) (i : ℕ) → laid d i [] ≡ d
unfolding laid
laid_none d i = refl

pub laid_one : (d : List ℕ) (i v : ℕ) → laid d i (v ∷ []) ≡ set d i v
unfolding laid
laid_one d i v = refl

pub laid_first : (d : List ℕ) (i v : ℕ) (s : List ℕ) → laid d i (v ∷ s) ≡ laid (set d i v) (suc i) s
unfolding laid
laid_first d i v s = refl

pub length_laid : (d : List ℕ) (i : ℕ) (s : List ℕ) → length (laid d i s) ≡ length d
unfolding laid
length_laid d i s = length-sets d i s

pub laid_then : (d : List ℕ) (i : ℕ) (s t : List ℕ) → laid d i (s ++ t) ≡ laid (laid d i s) (i + length s) t
unfolding laid
laid_then d i [] t = rw (add-zero i)
laid_then d i (v ∷ s) t = let e : i + suc (length s) ≡ suc i + length s = omega arith in rw e (laid_then (set d i v) (suc i) s t)

-- one writer after another
pub laid_seq : (d d₁ d₂ s t : List ℕ) (i j : ℕ) → d₁ ≡ laid d i s → j ≡ i + length s → d₂ ≡ laid d₁ j t → d₂ ≡ laid d i (s ++ t)
laid_seq d d₁ d₂ s t i j p q r = r ∙ (rw (p, q) (sym (laid_then d i s t)))

-- one entry more
pub laid_last : (d : List ℕ) (i : ℕ) (s : List ℕ) (v : ℕ) → laid d i (s ++ (v ∷ [])) ≡ set (laid d i s) (i + length s) v
laid_last d i s v = laid_then d i s (v ∷ []) ∙ laid_one (laid d i s) (i + length s) v

-- entries before and past what is laid stay
pub laid_before : (d : List ℕ) (i : ℕ) (s : List ℕ) (k : ℕ) → k < i → get_or (laid d i s) k 0 ≡ get_or d k 0
unfolding laid
laid_before d i [] k h = refl
laid_before d i (v ∷ s) k h = laid_before (set d i v) (suc i) s k (omega arith) ∙ get_or-set_other d i k v 0 (omega arith)

pub laid_past : (d : List ℕ) (i : ℕ) (s : List ℕ) (k : ℕ) → i + length s ≤ k → get_or (laid d i s) k 0 ≡ get_or d k 0
unfolding laid
laid_past d i [] k h = refl
laid_past d i (v ∷ s) k h = laid_past (set d i v) (suc i) s k (omega arith) ∙ get_or-set_other d i k v 0 (omega arith)

-- what is laid is there
pub laid_there : (d : List ℕ) (i : ℕ) (s : List ℕ) (k : ℕ) → k < length s → i + length s ≤ length d → get_or (laid d i s) (i + k) 0 ≡ get_or s k 0
unfolding laid
laid_there d i [] k h g = absurd (omega arith)
laid_there d i (v ∷ s) zero h g = rw (add-zero i) (laid_before (set d i v) (suc i) s i (omega arith) ∙ get_or-set_same d i v 0 (omega arith))
laid_there d i (v ∷ s) (suc k) h g =
    let e : i + suc k ≡ suc i + k = omega arith in
    rw e (laid_there (set d i v) (suc i) s k (omega arith) (rw (length-set d i v) (omega arith)))

-- laying the same text again changes nothing
pub laid_again : (d : List ℕ) (s : List ℕ) → length s ≤ length d → laid (laid d 0 s) 0 s ≡ laid d 0 s
laid_again d s h =
    ext_get_or 0 (laid (laid d 0 s) 0 s) (laid d 0 s) (length_laid (laid d 0 s) 0 s) (λ k g. go k (dec_lt k (length s)))
  where
    go : (k : ℕ) → Dec (k < length s) → get_or (laid (laid d 0 s) 0 s) k 0 ≡ get_or (laid d 0 s) k 0
    go k (yes l) =
        let z : 0 + k ≡ k = omega arith in
        rw z at (laid_there (laid d 0 s) 0 s k l (omega (arith, length_laid d 0 s)) ∙ sym (laid_there d 0 s k l (omega arith)))
    go k (no l) = laid_past (laid d 0 s) 0 s k (omega arith)

-- a part of the room, from entry o up to entry e, with the text in its place: what copying over a part leaves
pub part_laid : (d s : List ℕ) (o e : ℕ) → o ≤ e → e ≤ length d → length s ≡ e - o → put_mid o (e - o) d s ≡ laid d o s
unfolding laid
part_laid d s o e h k f =
    let g : o + length s ≡ e = omega arith in
    rw (Post-is o e d h, sets-eq s d o (omega arith), g, append_assoc)

-- the same of n entries from a on, with the text under another name
pub laid_part : (d e s : List ℕ) (a n : ℕ) → n ≡ length s → a + n ≤ length d → e ≡ s → put_mid a (a + n - a) d e ≡ laid d a s
laid_part d e s a n l h q = rw q (part_laid d s a (a + n) (omega arith) h (omega arith))
