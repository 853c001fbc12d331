-- The first line of what is left of a file: it ends at the first LF, or is cut. Assumes nothing.
use Rattle.std.proofs.Common.{◌≡◌, ◌∙◌, sym, ap, true, false, List, [], ◌∷◌, length, get_or, take, drop, ℕ, zero, suc, ◌+◌, ◌-◌, ◌<◌, ◌≤◌, eqb, Some, None, position, arith}
use Rattle.std.specs.List.{slice_range}
use Rattle.std.proofs.lemmas.List.Quantifiers.{position-Some}
use Rattle.std.proofs.Math.Seq.{take-length}
use Rattle.std.proofs.lemmas.List.{length-take-le, drop-drop}
use Rattle.std.proofs.Math.ListN.{length-drop}
use Rattle.file_fields.proofs.Cutting.{none_found}
use Rattle.paper.specs.Text.{ended, cut, lines, lines_on}
use Rattle.file_cursor.specs.Line.{Whole, Cut}

ends_at : (l : List ℕ) (e : ℕ) → e < length l → eqb (get_or l e 0) 10 ≡ true → ((k : ℕ) → k < e → eqb (get_or l k 0) 10 ≡ false) → lines l ≡ ended (take e l) ∷ lines (drop (suc e) l)
unfolding lines lines_on
ends_at [] e h t f = absurd (omega arith)
ends_at (b ∷ l) zero h t f = rw t
ends_at (b ∷ l) (suc e) h t f = rw (f 0 (omega arith), ends_at l e (omega arith) t (λ k g. f (suc k) (omega arith)))

never_ends : (l : List ℕ) → 0 < length l → ((k : ℕ) → k < length l → eqb (get_or l k 0) 10 ≡ false) → lines l ≡ cut l ∷ []
unfolding lines lines_on
never_ends [] h f = absurd (omega arith)
never_ends (b ∷ []) h f = rw (f 0 (omega arith))
never_ends (b ∷ c ∷ l) h f = rw (never_ends (c ∷ l) (omega arith) (λ k g. f (suc k) (omega arith)), f 0 (omega arith))

rest_is : (l r : List ℕ) (a : ℕ) → r ≡ slice_range l a (length l) → r ≡ drop a l
rest_is l r a e = e ∙ rw (← length-drop a l, take-length (drop a l))

pub is_cut : (l r : List ℕ) (a : ℕ) → r ≡ slice_range l a (length l) → None ≡ position (λ b. eqb b 10) r → Cut l a
is_cut l r a q e h = rw (← rest_is l r a q) (never_ends r (rw (rest_is l r a q) (omega (arith, length-drop a l))) (none_found 10 r e))

pub is_whole : (l r : List ℕ) (a e : ℕ) → a ≤ length l → r ≡ slice_range l a (length l) → Some e ≡ position (λ b. eqb b 10) r → Whole l a (take e r) (a + e + 1)
is_whole l r a e g q p =
    let f = position-Some (λ b. eqb b 10) r e 0 (sym p) in
    let d : r ≡ drop a l = rest_is l r a q in
    let n : length r ≡ length l - a = ap length d ∙ length-drop a l in
    let t : length (take e r) ≡ e = length-take-le e r (omega arith) in
    let k : drop (suc e) (drop a l) ≡ drop (a + e + 1) l = drop-drop (suc e) a l ∙ ap (λ (i : ℕ). drop i l) (omega arith) in
    record { after = omega (arith, t); within = omega arith; first = rw (← k, ← d) (ends_at r e f.0 f.1 f.2) }
