-- The whole file: valid records, and that no second answer fits. Assumes nothing.
use mathlib.Core.Path.{◌≡◌, refl, sym, ap, ◌∙◌}
use mathlib.Core.Bool.{cond}
use mathlib.Core.List.{List, [], ◌∷◌}
use Prim.Native.Nat.{ℕ, ◌*◌, ◌<◌, ◌≤◌}
use native.Mathlib.Omega.{arith}
use native.Mathlib.Nat.{mul-le-mul_right, le_trans}
use lib.Dec.{eqb}
use lib.ListN.{length, get_or}
use borrow.Author.Tests.{lt-ltb, le-ltb}
use Rattle.std.specs.Prelude.{Result, Ok, Err, IfOk}
use Rattle.paper.specs.Limits.{most_bytes, most_records}
use Rattle.paper.specs.Text.{lines}
use Rattle.paper.specs.File.{from_top, refused, accepted, judge}
use Rattle.paper.specs.Faults.{number_of}
use Rattle.paper.specs.declared.fault.Fault.{Fault}
use Rattle.paper.specs.declared.fault.Fault.TheVariants.{TooLong, Misshapen, OutOfRange, GivenAlready, TooMany}
use Rattle.paper.specs.declared.fault.Refusal.{Refusal}
use Rattle.network_records.specs.declared.Size.{Size}
use Rattle.network_records.specs.Columns.{link_width, fun_width, kind_at, kind, link_at, fun_at, link_rows, fun_rows, net_of}
use Rattle.network_records.specs.Valid.{Valid}
use Rattle.network_records.proofs.Rows.{length_rows, rows_mem}
use Rattle.network_records.proofs.Accepted.{valid}
use Rattle.file_rows.specs.Rows.{entries, row_at, rows_of}
use Rattle.file_rows.proofs.Entries.{get_d_entries}
use Rattle.file_read.specs.Judge.{judged_of, Held, Untouched}

pub file_large : (l : List ℕ) → most_bytes < length l → refused 1 0 ≡ judge l
unfolding judge
file_large l h = sym (rw (lt-ltb 65536 (length l) h))

pub file_small : (l : List ℕ) → length l ≤ most_bytes → from_top (lines l) ≡ judge l
unfolding judge
file_small l h = sym (rw (le-ltb 65536 (length l) h))

pub file_empty : (l : List ℕ) → length l ≡ 0 → refused 2 1 ≡ judge l
unfolding judge lines from_top
file_empty [] h = refl
file_empty (b ∷ l) h = absurd (omega arith)

-- ## The records are valid

codes : (z : Size) (ls fs : List ℕ) → Held z ls fs → (j : ℕ) → j < z.funs → kind fs j < 3
unfolding rows_of row_at
codes z ls fs h j l =
    let m : get_or (entries fs (j * fun_width) fun_width) kind_at 0 < 3 = h.codes.kinds (row_at fun_width fs j) (rows_mem z.funs 0 j (row_at fun_width fs) (omega arith) (omega arith)) in
    rw (get_d_entries fun_width fs (j * fun_width) kind_at (omega arith)) at m

pub read_valid : (file : List ℕ) (z : Size) (ls fs : List ℕ) → accepted (net_of z ls fs) ≡ judge file → Held z ls fs → Valid z ls fs
read_valid file z ls fs e h =
    valid file z ls fs (sym e)
    (le_trans (mul-le-mul_right {m = z.links} {n = most_records} link_width h.links.few) h.links.room)
    (le_trans (mul-le-mul_right {m = z.funs} {n = most_records} fun_width h.funs.few) h.funs.room)
    (codes z ls fs h)

pub valid_if : (file : List ℕ) (t : Result Size Refusal) (ls ms fs gs : List ℕ) → judged_of t ms gs ≡ judge file → IfOk t (λ z. Held z ms gs × Untouched z ls ms fs gs)
    → IfOk t (λ z. Valid z ms gs)
valid_if file (Ok z) ls ms fs gs e h = read_valid file z ms gs e h.0
valid_if file (Err r) ls ms fs gs e h = tt

-- ## One answer

length_links : (c : ℕ) (ls : List ℕ) → length (link_rows c ls) ≡ c
unfolding link_rows
length_links c ls = length_rows (link_at ls) 0 c

length_funs : (d : ℕ) (fs : List ℕ) → length (fun_rows d fs) ≡ d
unfolding fun_rows
length_funs d fs = length_rows (fun_at fs) 0 d

-- both refuse alike, or both accept the same network
pub data Alike : Result Size Refusal → (ls fs : List ℕ) → Result Size Refusal → (ms gs : List ℕ) → Type 0 where
  both_refuse : {r : Refusal} {ls fs ms gs : List ℕ} → Alike (Err r) ls fs (Err r) ms gs
  both_accept : {z : Size} {ls fs ms gs : List ℕ} → link_rows z.links ls ≡ link_rows z.links ms → fun_rows z.funs fs ≡ fun_rows z.funs gs → Alike (Ok z) ls fs (Ok z) ms gs

same_size : (y z : Size) → y.nodes ≡ z.nodes → y.protocols ≡ z.protocols → y.links ≡ z.links → y.funs ≡ z.funs → y ≡ z
same_size y z a b c d = λ i. record { nodes = a i; protocols = b i; links = c i; funs = d i }

named_by : ℕ → Fault
named_by n = cond (eqb n 1) TooLong (cond (eqb n 2) Misshapen (cond (eqb n 3) OutOfRange (cond (eqb n 4) GivenAlready TooMany)))

fault_named : (f : Fault) → f ≡ named_by (number_of f)
unfolding named_by
fault_named TooLong = refl
fault_named Misshapen = refl
fault_named OutOfRange = refl
fault_named GivenAlready = refl
fault_named TooMany = refl

same_fault : (f g : Fault) → number_of f ≡ number_of g → f ≡ g
same_fault f g e = fault_named f ∙ rw e (sym (fault_named g))

-- no second answer fits
pub one_answer : (file : List ℕ) (j k : Result Size Refusal) (ls fs ms gs : List ℕ) → judged_of j ls fs ≡ judge file → judged_of k ms gs ≡ judge file → Alike j ls fs k ms gs
unfolding net_of
one_answer file (Ok y) (Ok z) ls fs ms gs e f =
    let g = e ∙ sym f in
    let u : link_rows y.links ls ≡ link_rows z.links ms = cc in
    let v : fun_rows y.funs fs ≡ fun_rows z.funs gs = cc in
    let c : y.links ≡ z.links = sym (length_links y.links ls) ∙ ap length u ∙ length_links z.links ms in
    let d : y.funs ≡ z.funs = sym (length_funs y.funs fs) ∙ ap length v ∙ length_funs z.funs gs in
    let same : y ≡ z = same_size y z (cc) (cc) c d in
    rw same (both_accept (rw same at u) (rw same at v))
one_answer file (Ok y) (Err r) ls fs ms gs e f = absurd (let g = e ∙ sym f in cc)
one_answer file (Err r) (Ok z) ls fs ms gs e f = absurd (let g = e ∙ sym f in cc)
one_answer file (Err q) (Err r) ls fs ms gs e f =
    let g = e ∙ sym f in
    let n : number_of q.fault ≡ number_of r.fault = cc in
    let l : q.line ≡ r.line = cc in
    let same : q ≡ r = same_refusal q r (same_fault q.fault r.fault n) l in
    rw same both_refuse
  where
    same_refusal : (q r : Refusal) → q.fault ≡ r.fault → q.line ≡ r.line → q ≡ r
    same_refusal q r a b = λ i. record { fault = a i; line = b i }
