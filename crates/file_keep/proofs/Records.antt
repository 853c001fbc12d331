-- A record added as a row is the record inserted: one law over the width and the reader of a row, and links and functions by it. Assumes nothing.
use mathlib.Core.Path.{◌≡◌, refl, sym, ap, ◌∙◌}
use mathlib.Core.Bool.{Bool, true, false, cond}
use mathlib.Core.List.{List, [], ◌∷◌, map}
use mathlib.Core.Logic.{◌⊎◌, inl, inr}
use Prim.Native.Nat.{ℕ, zero, suc, ◌+◌, ◌*◌, ◌≤◌, ◌<◌}
use native.Mathlib.Omega.{arith}
use native.Mathlib.Nat.{add-zero}
use lib.Dec.{leb}
use lib.ListN.{length, get_or}
use borrow.Author.Tests.{leb-false}
use Rattle.std.specs.Prelude.{Result, Ok, Err, OnOk}
use Rattle.paper.specs.declared.fault.Fault.{Fault}
use Rattle.paper.specs.declared.fault.Fault.TheVariants.{GivenAlready, TooMany}
use Rattle.paper.specs.Net as net
use Rattle.paper.specs.Net.{before, code, Net, net}
use Rattle.paper.specs.File.{link_key, fun_key, insert, given, link_fits, fun_fits, link_line, fun_line, bad, good, put}
use Rattle.laws.specs.Sets.{Mem}
use Rattle.laws.proofs.Before.{Test, holds, fails, test}
use Rattle.laws.proofs.Insert.{Sorted, insert_first, insert_later, insert_nil, sorted_insert, mem_insert}
use Rattle.network_records.specs.Columns.{rows, kind_of_code, link_at, fun_at, link_rows, fun_rows}
use Rattle.network_records.specs.Kinds.{named, link_of, fun_of}
use Rattle.network_records.specs.declared.kind.Kind.{Kind}
use Rattle.network_records.specs.declared.kind.Kind.TheVariants.{Conv, Wrap, Unwrap}
use Rattle.network_records.specs.declared.record.Link.{Link}
use Rattle.network_records.specs.declared.record.Fun.{Fun}
use Rattle.network_records.proofs.Rows.{length_rows}
use Rattle.file_rows.specs.Rows.{entries, row_at, rows_of, key_of, Addition}
use Rattle.file_rows.proofs.Entries.{get_d_entries}
use Rattle.file_keep.specs.Keep.{after, InOrder, Coded, Past}

-- ## Rows read as records

map_rows : {A B : Type 0} (h : A → B) (g : ℕ → B) (k i : ℕ) (f : ℕ → A) → ((j : ℕ) → h (f j) ≡ g j) → map h (rows f i k) ≡ rows g i k
unfolding rows
map_rows h g zero i f e = refl
map_rows h g (suc k) i f e = cc (e i, map_rows h g k (suc i) f e)

-- h reads each row of ss as a record of the same key
module _ {A B : Type 0} (h : A → B) (own : A → List ℕ) (key : B → List ℕ) (r : A) (e : key (h r) ≡ own r) where
  given_map : (ss : List A) → ((s : A) → Mem s ss → key (h s) ≡ own s) → given key (h r) (map h ss) ≡ given own r ss
  unfolding given Mem
  given_map [] f = refl
  given_map (s ∷ ss) f = rw (e, f s (inl refl), given_map ss (λ t m. f t (inr m)))

  insert_map : (ss : List A) → ((s : A) → Mem s ss → key (h s) ≡ own s) → insert key (h r) (map h ss) ≡ map h (insert own r ss)
  unfolding Mem
  insert_map [] f = insert_nil key (h r) ∙ ap (λ (l : List A). map h l) (sym (insert_nil own r))
  insert_map (s ∷ ss) f = go (test (before (own r) (own s))) (insert_map ss (λ t m. f t (inr m)))
    where
      same_test : before (key (h r)) (key (h s)) ≡ before (own r) (own s)
      same_test = rw (e, f s (inl refl))

      go : Test (before (own r) (own s)) → insert key (h r) (map h ss) ≡ map h (insert own r ss) → insert key (h r) (h s ∷ map h ss) ≡ map h (insert own r (s ∷ ss))
      go (holds t) rec = insert_first key (h r) (h s) (map h ss) (same_test ∙ t) ∙ ap (λ (l : List A). map h l) (sym (insert_first own r s ss t))
      go (fails t) rec =
          insert_later key (h r) (h s) (map h ss) (same_test ∙ t) ∙ ap (λ (l : List B). h s ∷ l) rec ∙ ap (λ (l : List A). map h l) (sym (insert_later own r s ss t))

-- ## The row s on top of n rows of d, which becomes e

laid_in : (a b : Bool) (r : Result (Unit {0}) Fault) → r ≡ cond a (Err GivenAlready) (cond b (Err TooMany) (Ok tt)) → r ≡ Ok tt → (a ≡ false) × (b ≡ false)
laid_in true b r e z = absurd (cc)
laid_in false true r e z = absurd (cc)
laid_in false false r e z = (refl, refl)

-- 4 and 5 as `put` gives them, where the range is right
staged : (a b : Bool) (r : Result (Unit {0}) Fault) (m j : Net) → r ≡ cond a (Err GivenAlready) (cond b (Err TooMany) (Ok tt)) → (r ≡ Ok tt → j ≡ m)
    → cond a (bad 4) (cond b (bad 5) (good j)) ≡ after r m
staged true b r m j e h = rw e
staged false true r m j e h = rw e
staged false false r m j e h = rw e (ap good (h e))

pub on_laid : (r : Result (Unit {0}) Fault) (P : Type 0) → (r ≡ Ok tt → P) → OnOk r P
on_laid (Ok u) P h = h refl
on_laid (Err f) P h = tt

pub past_none : (w n : ℕ) (d : List ℕ) → Past w n d d
past_none w n d = record { untouched = λ j h. refl }

module _ (w k n : ℕ) (d s e : List ℕ) (r : Result (Unit {0}) Fault) (add : Addition w k n d s e r) where
  pub added_order : InOrder w k n d → length e ≡ length d → r ≡ Ok tt → InOrder w k (n + 1) e
  added_order o l z =
      let b = laid_in (given (key_of k) s (rows_of w n d)) (leb 1024 n) r add.fault z in
      record {
        room = rw l o.room;
        few = omega (arith, leb-false 1024 n b.1);
        rising = rw (add.inserted z) (sorted_insert (key_of k) s (rows_of w n d) b.0 o.rising);
      }

  pub added_past : Past w (n + 1) d e
  added_past = record { untouched = add.past }

  -- of reads a row as a record, at reads row j of a room as one
  module _ {A : Type 0} (of : List ℕ → A) (at : List ℕ → ℕ → A) (is : (l : List ℕ) (j : ℕ) → of (row_at w l j) ≡ at l j)
      (key : A → List ℕ) (new : key (of s) ≡ key_of k s) (old : (t : List ℕ) → Mem t (rows_of w n d) → key (of t) ≡ key_of k t) where
    read_rows : (m : ℕ) (l : List ℕ) → rows (at l) 0 m ≡ map of (rows_of w m l)
    unfolding rows_of
    read_rows m l = sym (map_rows of (at l) m 0 (row_at w l) (is l))

    pub added_kept : (j m : Net) → (rows (at e) 0 (n + 1) ≡ insert key (of s) (rows (at d) 0 n) → j ≡ m)
        → cond (given key (of s) (rows (at d) 0 n)) (bad 4) (cond (leb 1024 (length (rows (at d) 0 n))) (bad 5) (good j)) ≡ after r m
    added_kept j m f =
        let g : given key (of s) (rows (at d) 0 n) ≡ given (key_of k) s (rows_of w n d) = rw (read_rows n d) (given_map of (key_of k) key s new (rows_of w n d) old) in
        let i : r ≡ Ok tt → rows (at e) 0 (n + 1) ≡ insert key (of s) (rows (at d) 0 n) =
        λ z. read_rows (n + 1) e ∙ ap (λ (l : List (List ℕ)). map of l) (add.inserted z) ∙ sym (insert_map of (key_of k) key s new (rows_of w n d) old)
        ∙ ap (λ (l : List A). insert key (of s) l) (sym (read_rows n d)) in
        rw (g, length_rows (at d) 0 n) (staged (given (key_of k) s (rows_of w n d)) (leb 1024 n) r m j add.fault (λ z. f (i z)))

-- ## Links

link_is : (d : List ℕ) (j : ℕ) → link_at (row_at 4 d j) 0 ≡ link_at d j
unfolding link_at row_at
link_is d j =
    let z : j * 4 + 0 ≡ j * 4 = add-zero (j * 4) in
    cc
    (get_d_entries 4 d (j * 4) 0 (omega arith), get_d_entries 4 d (j * 4) 1 (omega arith), get_d_entries 4 d (j * 4) 2 (omega arith), get_d_entries 4 d (j * 4) 3 (omega arith), z)

link_key_lem : (t : List ℕ) → link_key (link_at t 0) ≡ key_of 1 t
unfolding link_key link_at key_of entries rows
link_key_lem t = refl

abbrev pub link_row : Link → List ℕ
link_row l = l.number ∷ l.from ∷ l.to ∷ l.weight ∷ []

module _ (n c : ℕ) (l : Link) (d : List ℕ) (p : ℕ) (fs : List net.Fun) where
  pub link_wide : link_fits n (link_of l) ≡ false → put (net n p (link_rows c d) fs) (link_line (link_of l)) ≡ bad 3
  unfolding put
  link_wide f = rw f

  pub link_added : (e : List ℕ) (r : Result (Unit {0}) Fault) → link_fits n (link_of l) ≡ true → Addition 4 1 c d (link_row l) e r
      → put (net n p (link_rows c d) fs) (link_line (link_of l)) ≡ after r (net n p (link_rows (c + 1) e) fs)
  unfolding put link_rows link_at
  link_added e r f add =
      rw f
      (added_kept 4 1 c d (link_row l) e r add (λ t. link_at t 0) link_at link_is link_key (link_key_lem (link_row l)) (λ t m. link_key_lem t)
      (net n p (insert link_key (link_of l) (rows (link_at d) 0 c)) fs) (net n p (rows (link_at e) 0 (c + 1)) fs) (λ q. cc))

-- ## Functions

fun_is : (d : List ℕ) (j : ℕ) → fun_at (row_at 5 d j) 0 ≡ fun_at d j
unfolding fun_at row_at
fun_is d j =
    let z : j * 5 + 0 ≡ j * 5 = add-zero (j * 5) in
    let k : kind_of_code (get_or (entries d (j * 5) 5) 1 0) ≡ kind_of_code (get_or d (j * 5 + 1) 0) = ap kind_of_code (get_d_entries 5 d (j * 5) 1 (omega arith)) in
    cc
    (get_d_entries 5 d (j * 5) 0 (omega arith), k, get_d_entries 5 d (j * 5) 2 (omega arith), get_d_entries 5 d (j * 5) 3 (omega arith), get_d_entries 5 d (j * 5) 4 (omega arith), z)

code_at : (k : ℕ) → k < 3 → code (kind_of_code k) ≡ k
unfolding kind_of_code
code_at zero h = refl
code_at (suc zero) h = refl
code_at (suc (suc zero)) h = refl
code_at (suc (suc (suc k))) h = absurd (omega arith)

fun_key_lem : (t : List ℕ) → get_or t 1 0 < 3 → fun_key (fun_at t 0) ≡ key_of 4 t
unfolding fun_key fun_at key_of entries rows
fun_key_lem t h = cc (code_at (get_or t 1 0) h)

pub coded_none : (d : List ℕ) → Coded 0 d
coded_none d = record { kinds = λ r m. absurd (unfold rows_of rows Mem in m) }

pub in_order_none : (w k : ℕ) (d : List ℕ) → 1024 * w ≤ length d → InOrder w k 0 d
in_order_none w k d h = record { room = h; few = omega arith; rising = unfold rows_of rows Sorted in tt }

kind_code : (q : Kind) → kind_of_code (code (named q)) ≡ named q
unfolding kind_of_code
kind_code Conv = refl
kind_code Wrap = refl
kind_code Unwrap = refl

code_low : (q : Kind) → code (named q) < 3
code_low Conv = omega arith
code_low Wrap = omega arith
code_low Unwrap = omega arith

abbrev pub fun_row : Fun → List ℕ
fun_row f = f.node ∷ code (named f.kind) ∷ f.x ∷ f.y ∷ f.weight ∷ []

-- the row is read as the function again
row_fun : (f : Fun) → fun_at (fun_row f) 0 ≡ fun_of f
unfolding fun_at
row_fun f = rw (kind_code f.kind)

module _ (c : ℕ) (f : Fun) (d : List ℕ) where
  pub fun_wide : (n p : ℕ) (ls : List net.Link) → fun_fits n p (fun_of f) ≡ false → put (net n p ls (fun_rows c d)) (fun_line (fun_of f)) ≡ bad 3
  unfolding put
  fun_wide n p ls h = rw h

  module _ (e : List ℕ) (r : Result (Unit {0}) Fault) (coded : Coded c d) (add : Addition 5 4 c d (fun_row f) e r) where
    pub fun_added : (n p : ℕ) (ls : List net.Link) → fun_fits n p (fun_of f) ≡ true
        → put (net n p ls (fun_rows c d)) (fun_line (fun_of f)) ≡ after r (net n p ls (fun_rows (c + 1) e))
    unfolding put fun_rows
    fun_added n p ls h =
        rw (h, ← row_fun f)
        (added_kept 5 4 c d (fun_row f) e r add (λ t. fun_at t 0) fun_at fun_is fun_key (fun_key_lem (fun_row f) (code_low f.kind)) (λ t m. fun_key_lem t (coded.kinds t m))
        (net n p ls (insert fun_key (fun_at (fun_row f) 0) (rows (fun_at d) 0 c))) (net n p ls (rows (fun_at e) 0 (c + 1))) (λ q. cc))

    pub fun_coded : r ≡ Ok tt → Coded (c + 1) e
    fun_coded z = record { kinds = λ t m. go t (mem_insert (key_of 4) t (fun_row f) (rows_of 5 c d) (rw (add.inserted z) at m)) }
      where
        go : (t : List ℕ) → (t ≡ fun_row f) ⊎ Mem t (rows_of 5 c d) → get_or t 1 0 < 3
        go t (inl q) = rw q (code_low f.kind)
        go t (inr m) = coded.kinds t m
