-- A line is its word, its fields and an LF, one after another; and so long. Assumes nothing.
use mathlib.Core.Path.{◌≡◌, refl, sym, ap, ◌∙◌}
use mathlib.Core.List.{List, [], ◌∷◌, ◌++◌, map, append_assoc, append-nil}
use Prim.Native.Nat.{ℕ, zero, suc, ◌+◌, ◌*◌, ◌-◌, ◌≤◌}
use native.Mathlib.Nat.{add-zero, add-suc}
use native.Mathlib.Omega.{arith}
use lib.ListN.{length, get_or, take, drop, length-append}
use lib.Seq.{drop-cons}
use Rattle.paper.specs.Text.{decimal, tabbed, written, net_word, link_word, fun_word}
use Rattle.paper.specs.Normal.{kind_word, net_text, link_text, fun_text, texts, normal}
use Rattle.network_records.specs.declared.Size.{Size}
use Rattle.network_records.specs.Columns.{node, kind, x_of, y_of, fee, kind_of_code, link_at, fun_at, rows, link_rows, fun_rows, net_of}
use Rattle.digits.specs.declared.write.Writer.{Writer}
use Rattle.digits.specs.Write.{Wrote}
use Rattle.digits.proofs.Writing.{wrote_then}

-- ## Any line

-- the word, the first two fields by themselves, the other fields, the LF
two_fields : (w f g : List ℕ) (fs : List (List ℕ)) → written w (f ∷ g ∷ fs) ≡ w ++ (9 ∷ f) ++ (9 ∷ g) ++ tabbed fs ++ (10 ∷ [])
unfolding written
two_fields w f g fs = ap (λ (t : List ℕ). t ++ (10 ∷ [])) (field_then w f (g ∷ fs) ∙ field_then (w ++ (9 ∷ f)) g fs)
  where
    field_then : (w f : List ℕ) (fs : List (List ℕ)) → w ++ tabbed (f ∷ fs) ≡ w ++ (9 ∷ f) ++ tabbed fs
    field_then w f fs = unfold tabbed in (sym (append_assoc w (9 ∷ f) (tabbed fs)))

-- ## The net line

module _ (n p : ℕ) where
  pub net_parts : net_text n p ≡ (110 ∷ 101 ∷ 116 ∷ []) ++ (9 ∷ decimal n) ++ (9 ∷ decimal p) ++ (10 ∷ [])
  unfolding net_text net_word tabbed
  net_parts = two_fields net_word (decimal n) (decimal p) [] ∙ ap (λ (t : List ℕ). t ++ (10 ∷ [])) (append-nil (net_word ++ (9 ∷ decimal n) ++ (9 ∷ decimal p)))

  pub net_length : length (net_text n p) ≡ 6 + length (decimal n) + length (decimal p)
  net_length = ap length net_parts ∙ simp length-append (omega arith)

-- ## The numbers of a record, as they stand in their room

taken_from : (k : ℕ) (l : List ℕ) (a i : ℕ) → a + i + k ≤ length l → take k (drop (a + i) l) ≡ rows (λ j. get_or l (a + j) 0) i k
unfolding rows
taken_from zero l a i h = refl
taken_from (suc k) l a i h =
    rw (drop-cons l (a + i) 0 (omega arith), ← add-suc a i) (ap (λ (t : List ℕ). get_or l (a + i) 0 ∷ t) (taken_from k l a (suc i) (omega arith)))

-- the k numbers from a on, up to e
taken : (k : ℕ) (l : List ℕ) (a e : ℕ) → e - a ≡ k → a + k ≤ length l → take (e - a) (drop a l) ≡ rows (λ j. get_or l (a + j) 0) 0 k
taken k l a e q h = rw q (rw (add-zero a) at (taken_from k l a 0 (omega arith)))

-- the numbers from a up to e, as a line's fields
abbrev pub fields_in : List ℕ → ℕ → ℕ → List ℕ
fields_in l a e = tabbed (map decimal (take (e - a) (drop a l)))

-- ## A link's line

module _ (ls : List ℕ) (i : ℕ) (h : i * 4 + 4 ≤ length ls) where
  pub link_parts : link_text (link_at ls i) ≡ (108 ∷ 105 ∷ 110 ∷ 107 ∷ []) ++ fields_in ls (i * 4) (i * 4 + 4) ++ (10 ∷ [])
  unfolding link_text link_at written link_word rows
  link_parts = rw (taken 4 ls (i * 4) (i * 4 + 4) (omega arith) h, add-zero (i * 4))

  pub link_length : length (link_text (link_at ls i)) ≡ 5 + length (fields_in ls (i * 4) (i * 4 + 4))
  link_length = ap length link_parts ∙ simp length-append (omega arith)

-- ## A function's line

module _ (fs : List ℕ) (j : ℕ) (h : j * 5 + 5 ≤ length fs) where
  last_numbers : take (j * 5 + 5 - (j * 5 + 2)) (drop (j * 5 + 2) fs) ≡ x_of fs j ∷ y_of fs j ∷ fee fs j ∷ []
  unfolding rows
  last_numbers =
      let y : j * 5 + 2 + 1 ≡ j * 5 + 3 = omega arith in
      let w : j * 5 + 2 + 2 ≡ j * 5 + 4 = omega arith in
      taken 3 fs (j * 5 + 2) (j * 5 + 5) (omega arith) (omega arith) ∙ rw (add-zero (j * 5 + 2), y, w)

  pub fun_parts : fun_text (fun_at fs j)
      ≡ (102 ∷ 117 ∷ 110 ∷ []) ++ (9 ∷ decimal (node fs j)) ++ (9 ∷ kind_word (kind_of_code (kind fs j))) ++ fields_in fs (j * 5 + 2) (j * 5 + 5) ++ (10 ∷ [])
  unfolding fun_text fun_at fun_word
  fun_parts =
      rw last_numbers
      (two_fields fun_word (decimal (node fs j)) (kind_word (kind_of_code (kind fs j))) (decimal (x_of fs j) ∷ decimal (y_of fs j) ∷ decimal (fee fs j) ∷ []))

  pub fun_length : length (fun_text (fun_at fs j))
      ≡ 6 + length (decimal (node fs j)) + length (kind_word (kind_of_code (kind fs j))) + length (fields_in fs (j * 5 + 2) (j * 5 + 5))
  fun_length = ap length fun_parts ∙ simp length-append (omega arith)

-- ## The whole file

module _ (z : Size) (ls fs : List ℕ) where
  file_parts : normal (net_of z ls fs) ≡ net_text z.nodes z.protocols ++ texts link_text (link_rows z.links ls) ++ texts fun_text (fun_rows z.funs fs)
  unfolding normal net_of
  file_parts = refl

  pub file_length : length (normal (net_of z ls fs)) ≡ length (net_text z.nodes z.protocols) + length (texts link_text (link_rows z.links ls)) + length (texts fun_text (fun_rows z.funs fs))
  file_length = ap length file_parts ∙ simp length-append

  -- the three parts, written one after another
  pub file_wrote : {u v w x : Writer} → Wrote u v (net_text z.nodes z.protocols) → Wrote v w (texts link_text (link_rows z.links ls)) → Wrote w x (texts fun_text (fun_rows z.funs fs))
      → Wrote u x (normal (net_of z ls fs))
  file_wrote a b e = rw file_parts (wrote_then (wrote_then a b) e)
