-- A file is refused with 1 to 5 only. Assumes nothing.
use mathlib.Core.Path.{◌≡◌}
use mathlib.Core.Bool.{Bool, true, false, not, cond}
use mathlib.Core.List.{List, [], ◌∷◌}
use Prim.Native.Nat.{ℕ, suc, ◌≤◌}
use native.Mathlib.Omega.{arith}
use lib.Dec.{leb, ltb}
use lib.ListN.{length}
use Rattle.paper.specs.Net.{Net, net}
use Rattle.paper.specs.Text.{Line, lines}
use Rattle.paper.specs.Limits.{most_bytes, most_records}
use Rattle.paper.specs.File.{link_key, fun_key, insert, given, net_fits, link_fits, fun_fits, Shape, misshapen, net_line, link_line, fun_line, shape, Kept, bad, good, header, put, Judged, refused, accepted, onward, from_top, judge}

Kept_fair : Kept → Type 0
Kept_fair (bad d) = (1 ≤ d) × (d ≤ 5)
Kept_fair (good k) = Unit {0}

Fair : Judged → Type 0
Fair (refused d i) = (1 ≤ d) × (d ≤ 5)
Fair (accepted m) = Unit {0}

either : {A : Type 0} (P : A → Type 0) (b : Bool) (x y : A) → P x → P y → P (cond b x y)
either P true x y p q = p
either P false x y p q = q

header_fair : (s : Shape) → Kept_fair (header s)
unfolding Kept_fair header
header_fair misshapen = omega arith
header_fair (net_line n p) = either Kept_fair (net_fits n p) (good (net n p [] [])) (bad 3) tt (omega arith)
header_fair (link_line r) = omega arith
header_fair (fun_line r) = omega arith

-- 3, 4, 5 or kept
record_fair : (outside again full : Bool) (k : Net) → Kept_fair (cond outside (bad 3) (cond again (bad 4) (cond full (bad 5) (good k))))
unfolding Kept_fair
record_fair true again full k = omega arith
record_fair false true full k = omega arith
record_fair false false true k = omega arith
record_fair false false false k = tt

put_fair : (k : Net) (s : Shape) → Kept_fair (put k s)
unfolding Kept_fair put
put_fair k misshapen = omega arith
put_fair k (net_line a b) = omega arith
put_fair (net n p ls fs) (link_line r) =
    record_fair (not (link_fits n r)) (given link_key r ls) (leb most_records (length ls)) (net n p (insert link_key r ls) fs)
put_fair (net n p ls fs) (fun_line r) =
    record_fair (not (fun_fits n p r)) (given fun_key r fs) (leb most_records (length fs)) (net n p ls (insert fun_key r fs))

onward_fair : (i : ℕ) (ls : List Line) (k : Kept) → Kept_fair k → Fair (onward i ls k)
unfolding onward Kept_fair Fair
onward_fair i [] (bad d) h = h
onward_fair i [] (good k) h = tt
onward_fair i (l ∷ ls) (bad d) h = h
onward_fair i (l ∷ ls) (good k) h = onward_fair (suc i) ls (put k (shape l)) (put_fair k (shape l))

top_fair : (ls : List Line) → Fair (from_top ls)
unfolding from_top Fair
top_fair [] = omega arith
top_fair (l ∷ ls) = onward_fair 1 ls (header (shape l)) (header_fair (shape l))

judge_fair : (file : List ℕ) → Fair (judge file)
unfolding judge Fair
judge_fair file = either Fair (ltb most_bytes (length file)) (refused 1 0) (from_top (lines file)) (omega arith) (top_fair (lines file))

pub one_to_five : (file : List ℕ) (d i : ℕ) → judge file ≡ refused d i → (1 ≤ d) × (d ≤ 5)
unfolding Fair
one_to_five file d i j = rw j at (judge_fair file)
