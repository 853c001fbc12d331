-- Bytes, lines, fields, numbers and words: how the file is spelled, and every line that is written.
-- Assumes nothing: these are definitions.
use Rattle.std.specs.Prelude.{Bool, true, false, not, cond, ◌&&◌, ◌||◌, List, [], ◌∷◌, ◌++◌, ℕ, zero, suc, ◌+◌, ◌*◌, ◌-◌, ◌/◌, ◌%◌, eqb, leb, ltb}
use Rattle.std.proofs.Math.Option.{Option, none, some}
use Prim.Native.Char.{code}
use Prim.Native.String.{String, [] as none_left, ◌∷◌ as front}

-- ## Lines

-- a line, without its LF; only the last one can be cut: it lacks the LF
pub data Line : Type 0 where
  ended : List ℕ → Line
  cut : List ℕ → Line

-- the byte b comes before the lines ls; is it an LF?
unfoldable pub lines_on : Bool → ℕ → List Line → List Line
lines_on true b ls = ended [] ∷ ls
lines_on false b [] = cut (b ∷ []) ∷ []
lines_on false b (ended l ∷ ls) = ended (b ∷ l) ∷ ls
lines_on false b (cut l ∷ ls) = cut (b ∷ l) ∷ ls

unfoldable pub lines : List ℕ → List Line
lines [] = []
lines (b ∷ bs) = lines_on (eqb b 10) b (lines bs)

-- ## Fields

-- the byte b comes before the fields fs; is it a tab?
unfoldable pub fields_on : Bool → ℕ → List (List ℕ) → List (List ℕ)
fields_on true b fs = [] ∷ fs
fields_on false b [] = (b ∷ []) ∷ []
fields_on false b (f ∷ fs) = (b ∷ f) ∷ fs

unfoldable pub fields : List ℕ → List (List ℕ)
fields [] = [] ∷ []
fields (b ∷ bs) = fields_on (eqb b 9) b (fields bs)

-- ## Numbers, of any length

unfoldable pub digit : ℕ → Bool
digit b = leb 48 b && leb b 57

unfoldable pub digits : List ℕ → Bool
digits [] = true
digits (b ∷ bs) = digit b && digits bs

unfoldable pub empty : List ℕ → Bool
empty [] = true
empty (b ∷ bs) = false

-- decimal, without sign or leading zero
unfoldable pub spelled : List ℕ → Bool
spelled [] = false
spelled (b ∷ bs) = digit b && digits bs && (empty bs || not (eqb b 48))

-- the value of the digits, read on from v
unfoldable pub value_from : ℕ → List ℕ → ℕ
value_from v [] = v
value_from v (b ∷ bs) = value_from (v * 10 + (b - 48)) bs

unfoldable pub number : List ℕ → Option ℕ
number f = cond (spelled f) (some (value_from 0 f)) none

-- the digits of n, the highest first, with no leading zero; at most m of them
unfoldable pub decimal_to : ℕ → ℕ → List ℕ
decimal_to zero n = []
decimal_to (suc m) n = cond (ltb n 10) ((48 + n) ∷ []) (decimal_to m (n / 10) ++ ((48 + n % 10) ∷ []))

-- a number of 64 bits has at most 20 digits
unfoldable pub decimal : ℕ → List ℕ
decimal n = decimal_to 20 n

-- ## Lines that are written

-- the fields, each with a tab before it
unfoldable pub tabbed : List (List ℕ) → List ℕ
tabbed [] = []
tabbed (f ∷ fs) = (9 ∷ f) ++ tabbed fs

-- a line: its word and its fields parted by one tab, ended by one LF
unfoldable pub written : List ℕ → List (List ℕ) → List ℕ
written w fs = w ++ tabbed fs ++ (10 ∷ [])

-- ## Words

-- the bytes of a text
abbrev pub bytes : String → List ℕ
bytes none_left = []
bytes (front c s) = code c ∷ bytes s

unfoldable pub same : List ℕ → List ℕ → Bool
same [] [] = true
same [] (c ∷ cs) = false
same (b ∷ bs) [] = false
same (b ∷ bs) (c ∷ cs) = eqb b c && same bs cs

unfoldable pub net_word : List ℕ
net_word = bytes "net"

unfoldable pub link_word : List ℕ
link_word = bytes "link"

unfoldable pub fun_word : List ℕ
fun_word = bytes "fun"

unfoldable pub conv_word : List ℕ
conv_word = bytes "conv"

unfoldable pub wrap_word : List ℕ
wrap_word = bytes "wrap"

unfoldable pub unwrap_word : List ℕ
unwrap_word = bytes "unwrap"

unfoldable pub path_word : List ℕ
path_word = bytes "path"

unfoldable pub step_word : List ℕ
step_word = bytes "step"
