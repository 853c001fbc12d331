-- A line cut at its first tab, and the fields that are left behind it. Assumes nothing.
use Rattle.std.proofs.Common.{◌≡◌, ◌∙◌, refl, sym, ap, Bool, true, false, not, List, [], ◌∷◌, length, get_or, take, drop, ℕ, zero, suc, ◌+◌, ◌-◌, ◌<◌, ◌≤◌, eqb, ltb, Option, Some, None, Bor, position, slice_get, arith}
use Rattle.std.specs.List.{position_or_len}
use Rattle.std.specs.Option.{is_some}
use Rattle.std.proofs.lemmas.List.Quantifiers.{position-Some}
use Rattle.std.proofs.lemmas.List.Sums.{fails_before_first}
use borrow.Author.Tests.{ltb-false, eq-eqb, ne_eqb}
use Rattle.std.proofs.Math.Seq.{take-length}
use Rattle.std.proofs.Math.ListN.{length-drop}
use Rattle.paper.specs.Text.{number, spelled, fields, fields_on}
use Rattle.paper.specs.File.{field}
use Rattle.digits.specs.Read.{told}
use Rattle.file_fields.specs.Fields.{field_of, left}

-- a byte that is found nowhere stands nowhere
pub none_found : (c : ℕ) (l : List ℕ) → None ≡ position (λ b. eqb b c) l → (k : ℕ) → k < length l → eqb (get_or l k 0) c ≡ false
none_found c l e k h = fails_before_first (λ b. eqb b c) l k 0 (go (ltb (position_or_len (λ b. eqb b c) l) (length l)) refl)
  where
    go : (t : Bool) → ltb (position_or_len (λ b. eqb b c) l) (length l) ≡ t → k < position_or_len (λ b. eqb b c) l
    go true t = let n : ◌≡◌ {A = Option ℕ} None (Some (position_or_len (λ b. eqb b c) l)) = e ∙ rw t in absurd (cc)
    go false t = omega (arith, ltb-false _ _ t)

ends_at : (l : List ℕ) (e : ℕ) → e < length l → eqb (get_or l e 0) 9 ≡ true → ((k : ℕ) → k < e → eqb (get_or l k 0) 9 ≡ false) → fields l ≡ take e l ∷ fields (drop (suc e) l)
unfolding fields fields_on
ends_at [] e h t f = absurd (omega arith)
ends_at (b ∷ l) zero h t f = rw t
ends_at (b ∷ l) (suc e) h t f = rw (f 0 (omega arith), ends_at l e (omega arith) t (λ k g. f (suc k) (omega arith)))

never_ends : (l : List ℕ) → ((k : ℕ) → k < length l → eqb (get_or l k 0) 9 ≡ false) → fields l ≡ l ∷ []
unfolding fields fields_on
never_ends [] f = refl
never_ends (b ∷ l) f = rw (never_ends l (λ k g. f (suc k) (omega arith)), f 0 (omega arith))

pub first_cut : (l : List ℕ) (e : ℕ) → Some e ≡ position (λ b. eqb b 9) l → fields l ≡ take e l ∷ fields (take (length l - (e + 1)) (drop (e + 1) l))
first_cut l e p =
    let f = position-Some (λ b. eqb b 9) l e 0 (sym p) in
    let q : e + 1 ≡ suc e = omega arith in
    rw (q, ← length-drop (suc e) l, take-length (drop (suc e) l)) (ends_at l e f.0 f.1 f.2)

pub only_cut : (l : List ℕ) → None ≡ position (λ b. eqb b 9) l → fields l ≡ l ∷ []
only_cut l p = never_ends l (none_found 9 l p)

-- ## The fields from the n-th on

next_in : (n : ℕ) (fs : List (List ℕ)) (f : List ℕ) (gs : List (List ℕ)) → drop n fs ≡ f ∷ gs → (get_or fs n [] ≡ f) × (drop (suc n) fs ≡ gs)
next_in zero [] f gs e = absurd (cc)
next_in zero (g ∷ fs) f gs e = (cc, cc)
next_in (suc n) [] f gs e = absurd (cc)
next_in (suc n) (g ∷ fs) f gs e = next_in n fs f gs e

none_in : (n : ℕ) (fs : List (List ℕ)) → drop n fs ≡ [] → get_or fs n [] ≡ []
none_in zero [] e = refl
none_in zero (g ∷ fs) e = absurd (cc)
none_in (suc n) [] e = refl
none_in (suc n) (g ∷ fs) e = none_in n fs e

none_behind : (n m : ℕ) (fs : List (List ℕ)) → n ≤ m → drop n fs ≡ [] → drop m fs ≡ []
none_behind n zero [] h e = refl
none_behind n (suc m) [] h e = refl
none_behind zero m (g ∷ fs) h e = absurd (cc)
none_behind (suc n) zero (g ∷ fs) h e = absurd (omega arith)
none_behind (suc n) (suc m) (g ∷ fs) h e = none_behind n m fs (omega arith) e

slice_in : (n : ℕ) (fs : List (List ℕ)) (f : List ℕ) (gs : List (List ℕ)) → drop n fs ≡ f ∷ gs → Some f ≡ slice_get fs n
slice_in zero [] f gs e = absurd (cc)
slice_in zero (g ∷ fs) f gs e = cc
slice_in (suc n) [] f gs e = absurd (cc)
slice_in (suc n) (g ∷ fs) f gs e = slice_in n fs f gs e

no_slice : (n : ℕ) (fs : List (List ℕ)) → drop n fs ≡ [] → None ≡ slice_get fs n
no_slice zero [] e = refl
no_slice zero (g ∷ fs) e = absurd (cc)
no_slice (suc n) [] e = refl
no_slice (suc n) (g ∷ fs) e = no_slice n fs e

-- no line is without a field
some_fields : (l : List ℕ) → 0 < length (fields l)
unfolding fields fields_on
some_fields [] = omega arith
some_fields (b ∷ l) = go (eqb b 9) (fields l)
  where
    go : (t : Bool) (fs : List (List ℕ)) → 0 < length (fields_on t b fs)
    go true fs = omega arith
    go false [] = omega arith
    go false (f ∷ fs) = omega arith

module _ (l : List ℕ) (n : ℕ) (rest : Option (Bor (List ℕ))) (is : left rest ≡ drop n (fields l)) where
  -- the field there, and what is left behind it
  pub there : (part : List ℕ) (behind : Option (Bor (List ℕ))) (r : Bor (List ℕ)) → rest ≡ Some r → fields r.now ≡ part ∷ left behind → (field_of l n ≡ part) × (left behind ≡ drop (n + 1) (fields l))
  unfolding field
  there part behind r s e =
      let d : drop n (fields l) ≡ part ∷ left behind = sym is ∙ ap left s ∙ e in
      let k = next_in n (fields l) part (left behind) d in
      let q : n + 1 ≡ suc n = omega arith in
      (k.0, rw q (sym k.1))

  nothing_there : rest ≡ None → field_of l n ≡ []
  unfolding field
  nothing_there s = none_in n (fields l) (sym is ∙ ap left s)

  pub nothing_behind : (m : ℕ) → rest ≡ None → n ≤ m → left None ≡ drop m (fields l)
  nothing_behind m s h = sym (none_behind n m (fields l) h (sym is ∙ ap left s))

  pub told_there : (part : List ℕ) (behind : Option (Bor (List ℕ))) (r : Bor (List ℕ)) → rest ≡ Some r → fields r.now ≡ part ∷ left behind → told (number part) ≡ told (number (field_of l n))
  told_there part behind r s e = ap (λ (f : List ℕ). told (number f)) (sym (there part behind r s e).0)

  pub none_told : rest ≡ None → None ≡ told (number (field_of l n))
  unfolding told number spelled
  none_told s = ap (λ (f : List ℕ). told (number f)) (sym (nothing_there s))

  pub field_there : (part : List ℕ) (behind : Option (Bor (List ℕ))) (r : Bor (List ℕ)) → rest ≡ Some r → fields r.now ≡ part ∷ left behind → Some part ≡ slice_get (fields l) n
  field_there part behind r s e = slice_in n (fields l) part (left behind) (sym is ∙ ap left s ∙ e)

  pub no_field : rest ≡ None → None ≡ slice_get (fields l) n
  no_field s = no_slice n (fields l) (sym is ∙ ap left s)

  pub last_there : (part : List ℕ) (behind : Option (Bor (List ℕ))) (r : Bor (List ℕ)) (b : Bool) → rest ≡ Some r → fields r.now ≡ part ∷ left behind → is_some behind ≡ not b → b ≡ eqb (length (fields l)) (n + 1)
  last_there part behind r b s e t = go behind b (ap length (sym is ∙ ap left s ∙ e)) t
    where
      go : (o : Option (Bor (List ℕ))) (b : Bool) → length (drop n (fields l)) ≡ suc (length (left o)) → is_some o ≡ not b → b ≡ eqb (length (fields l)) (n + 1)
      go None true h t = let q : length (fields l) ≡ n + 1 = omega (arith, h, length-drop n (fields l)) in sym (eq-eqb _ _ q)
      go None false h t = absurd (cc)
      go (Some x) true h t = absurd (cc)
      go (Some x) false h t = sym (ne_eqb _ _ (λ (q : length (fields l) ≡ n + 1). omega (arith, h, length-drop n (fields l), some_fields x.now)))

  pub fewer : rest ≡ None → false ≡ eqb (length (fields l)) (n + 1)
  fewer s = let h : length (drop n (fields l)) ≡ 0 = ap length (sym is ∙ ap left s) in sym (ne_eqb _ _ (λ (q : length (fields l) ≡ n + 1). omega (arith, h, length-drop n (fields l))))

pub not_none : (l : List ℕ) → false ≡ eqb (length (fields l)) 0
not_none l = sym (ne_eqb _ _ (λ (q : length (fields l) ≡ 0). omega (arith, some_fields l)))
