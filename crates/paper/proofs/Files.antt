-- The definitions of the file, run: one table of small files, each with what it is judged to be, and one computed test.
-- Assumes nothing.
use mathlib.Core.Bool.{Bool, true, false, ◌&&◌}
use mathlib.Core.List.{List, [], ◌∷◌}
use Prim.Native.Nat.{ℕ, zero, suc}
use Prim.Native.String.{String}
use lib.Dec.{eqb, T}
use Rattle.paper.specs.Net.{Link, link, net, before}
use Rattle.paper.specs.Text.{lines, lines_on, fields, fields_on, digit, digits, empty, spelled, value_from, number, decimal_to, decimal, tabbed, written, same, bytes, net_word, link_word, fun_word, conv_word, wrap_word, unwrap_word}
use Rattle.paper.specs.File.{kind_of, net_of, link_of, fun_of, field, shaped, shape, link_line, link_key, fun_key, insert, given, net_fits, link_fits, fun_fits, Kept, bad, good, header, put, onward, from_top, Judged, refused, accepted, judge}
use Rattle.paper.specs.Normal.{kind_word, link_text, fun_text, net_text, texts, normal}

-- refuses FILE NUMBER LINE, or normalises FILE to NORMAL
data Case : Type 0 where
  refuses : String → ℕ → ℕ → Case
  normalises : String → String → Case

is_refused : ℕ → ℕ → Judged → Bool
is_refused d i (refused e j) = eqb d e && eqb i j
is_refused d i (accepted m) = false

is_normal : List ℕ → Judged → Bool
is_normal t (refused d i) = false
is_normal t (accepted m) = same t (normal m)

right : Case → Bool
right (refuses f d i) = is_refused d i (judge (bytes f))
right (normalises f t) = is_normal (bytes t) (judge (bytes f))

all_right : List Case → Bool
all_right [] = true
all_right (c ∷ cs) = right c && all_right cs

cases : List Case
cases =
    normalises "net\t4\t2\nlink\t10\t0\t1\t5\nlink\t11\t1\t2\t5\nlink\t12\t2\t3\t5\nfun\t0\tconv\t0\t0\t0\nfun\t1\tconv\t0\t1\t1\nfun\t1\twrap\t0\t1\t2\nfun\t2\tunwrap\t0\t1\t3\n"
    "net\t4\t2\nlink\t10\t0\t1\t5\nlink\t11\t1\t2\t5\nlink\t12\t2\t3\t5\nfun\t0\tconv\t0\t0\t0\nfun\t1\tconv\t0\t1\t1\nfun\t1\twrap\t0\t1\t2\nfun\t2\tunwrap\t0\t1\t3\n" ∷
    normalises "net\t4\t2\nfun\t2\tunwrap\t0\t1\t3\nlink\t12\t2\t3\t5\nfun\t1\twrap\t0\t1\t2\nlink\t10\t0\t1\t5\nfun\t1\tconv\t0\t1\t1\nfun\t0\tconv\t0\t0\t0\nlink\t11\t1\t2\t5\n"
    "net\t4\t2\nlink\t10\t0\t1\t5\nlink\t11\t1\t2\t5\nlink\t12\t2\t3\t5\nfun\t0\tconv\t0\t0\t0\nfun\t1\tconv\t0\t1\t1\nfun\t1\twrap\t0\t1\t2\nfun\t2\tunwrap\t0\t1\t3\n" ∷
    normalises "net\t64\t16\n" "net\t64\t16\n" ∷
    refuses "net\t205\t5\n" 3 1 ∷
    normalises "net\t256\t4\n" "net\t256\t4\n" ∷
    refuses "net\t257\t1\n" 3 1 ∷
    refuses "net\t1\t17\n" 3 1 ∷
    refuses "net\t0\t1\n" 3 1 ∷
    refuses "" 2 1 ∷
    refuses "net\t1\t1" 2 1 ∷
    refuses "net\t05\t1\n" 2 1 ∷
    refuses "net\t+5\t1\n" 2 1 ∷
    refuses "net\t5 \t1\n" 2 1 ∷
    refuses "net\t1\t1\r\n" 2 1 ∷
    refuses "net\t\t1\n" 2 1 ∷
    refuses "net\t1\n" 2 1 ∷
    refuses "net\t1\t1\t\n" 2 1 ∷
    refuses "\tnet\t1\t1\n" 2 1 ∷
    refuses "NET\t1\t1\n" 2 1 ∷
    refuses "\n" 2 1 ∷
    refuses "link\t1\t0\t0\t1\nnet\t1\t1\n" 2 1 ∷
    refuses "net\t99999999999999999999999999999999999999\t1\n" 3 1 ∷
    refuses "net\t4294967297\t1\n" 3 1 ∷
    refuses "net\t18446744073709551617\t1\n" 3 1 ∷
    refuses "net\t1\t1\nnet\t1\t1\n" 2 2 ∷
    refuses "net\t1\t1\nnet\t999\t1\n" 2 2 ∷
    refuses "net\t1\t1\n\n" 2 2 ∷
    refuses "net\t1\t1\n\t\n" 2 2 ∷
    normalises "net\t1\t1\nlink\t65535\t0\t0\t1000000000\n" "net\t1\t1\nlink\t65535\t0\t0\t1000000000\n" ∷
    refuses "net\t1\t1\nlink\t65536\t0\t0\t1\n" 3 2 ∷
    refuses "net\t1\t1\nlink\t1\t0\t0\t1000000001\n" 3 2 ∷
    refuses "net\t1\t1\nlink\t1\t1\t0\t1\n" 3 2 ∷
    refuses "net\t1\t1\nlink\t1\t0\t1\t1\n" 3 2 ∷
    refuses "net\t1\t1\nlink\t99999\t9\t09\t0\n" 2 2 ∷
    refuses "net\t1\t1\nlink\t1\t0\t0\t9999999999" 2 2 ∷
    refuses "net\t2\t1\nlink\t1\t0\t1\t1\nlink\t1\t1\t0\t2\n" 4 3 ∷
    refuses "net\t2\t1\nlink\t1\t0\t1\t1\nlink\t1\t1\t2\t2\n" 3 3 ∷
    refuses "net\t2\t1\nlink\t1\t0\t1\t1\nlink\t1\t1\t0\t2\nnet\n" 4 3 ∷
    refuses "net\t2\t1\nfun\t2\tconv\t0\t0\t0\n" 3 2 ∷
    refuses "net\t2\t1\nfun\t0\tconv\t1\t0\t0\n" 3 2 ∷
    refuses "net\t2\t1\nfun\t0\tconv\t0\t1\t0\n" 3 2 ∷
    refuses "net\t2\t1\nfun\t0\tCONV\t0\t0\t0\n" 2 2 ∷
    refuses "net\t2\t1\nfun\t9\tconvert\t0\t0\t0\n" 2 2 ∷
    refuses "net\t2\t1\nfun\t0\tconv\t0\t0\t1\nfun\t0\tconv\t0\t0\t2\n" 4 3 ∷
    normalises "net\t1\t1\nfun\t0\tunwrap\t0\t0\t1\nfun\t0\twrap\t0\t0\t1\nfun\t0\tconv\t0\t0\t1\n" "net\t1\t1\nfun\t0\tconv\t0\t0\t1\nfun\t0\twrap\t0\t0\t1\nfun\t0\tunwrap\t0\t0\t1\n" ∷
    []

cases_hold : T (all_right cases)
unfolding all_right right cases is_refused is_normal judge from_top onward put header shape shaped field fun_of link_of net_of kind_of lines lines_on fields fields_on number spelled value_from digits digit empty same given insert before fun_fits link_fits net_fits fun_key link_key net_word link_word fun_word conv_word wrap_word unwrap_word normal net_text link_text fun_text texts written tabbed kind_word decimal decimal_to
cases_hold = tt

-- ## The 1,024th link is kept; the 1,025th is 5, with a used number 4

-- links numbered from k - 1 down to 0
links : ℕ → List Link
links zero = []
links (suc k) = link k 0 0 0 ∷ links k

-- 0 where the line is kept, else the number that it is bad by
number_of : Kept → ℕ
number_of (bad d) = d
number_of (good m) = 0

after_links : ℕ → ℕ → ℕ
after_links k l = number_of (put (net 1 1 (links k) []) (link_line (link l 0 0 0)))

too_many : T (eqb (after_links 1023 1023) 0 && eqb (after_links 1024 1024) 5 && eqb (after_links 1024 1023) 4)
unfolding after_links links number_of put link_fits given same link_key insert before
too_many = tt
