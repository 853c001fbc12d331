-- The route program's input lines, and the lines that it writes besides traces. Assumes nothing: these are definitions.
use Rattle.std.specs.Prelude.{◌≡◌, Bool, true, false, cond, ◌&&◌, List, [], ◌∷◌, ℕ, eqb, length}
use Rattle.std.proofs.Math.Option.{Option, none, some}
use Rattle.paper.specs.Text.{Line, ended, cut, fields, number, decimal, written, same, bytes}
use Rattle.paper.specs.Net.{Key}
use Rattle.paper.specs.File.{field}
use Rattle.paper.specs.Outcome.{Outcome, refusal, known, Ends}

-- what an input line asks: an enquiry, or nothing (refused with 2)
pub data Asked : Type 0 where
  misshapen : Asked
  asks : (S a D b : ℕ) → Asked

unfoldable pub asks_of : Option ℕ → Option ℕ → Option ℕ → Option ℕ → Asked
asks_of none a D b = misshapen
asks_of (some S) none D b = misshapen
asks_of (some S) (some a) none b = misshapen
asks_of (some S) (some a) (some D) none = misshapen
asks_of (some S) (some a) (some D) (some b) = asks S a D b

-- the word ask and S, a, D, b
unfoldable pub asked_by : List (List ℕ) → Asked
asked_by fs =
    cond (same (field fs 0) (bytes "ask") && eqb (length fs) 5)
    (asks_of (number (field fs 1)) (number (field fs 2)) (number (field fs 3)) (number (field fs 4)))
    misshapen

unfoldable pub asked : Line → Asked
asked (ended l) = asked_by (fields l)
asked (cut l) = misshapen

-- an enquiry of an accepted network, which is tabled where the program lends room for its places: its outcome, and what is left in the step room Q and the text room T
pub data Replies (hop : Key → ℕ → Option (ℕ × ℕ)) (n p S a D b : ℕ) (tabled : Bool) (Q T : List ℕ) : Outcome → List ℕ → List ℕ → Type 0 where
  six : known n p S a D b ≡ false → Replies hop n p S a D b tabled Q T (refusal 6 0) Q T
  seven : known n p S a D b ≡ true → tabled ≡ false → Replies hop n p S a D b tabled Q T (refusal 7 0) Q T
  on : {o : Outcome} {Q' T' : List ℕ} → known n p S a D b ≡ true → tabled ≡ true → Ends hop n p S a D b Q T o Q' T' → Replies hop n p S a D b tabled Q T o Q' T'

-- a refused network, an input that is too long, a refused enquiry: number and line
unfoldable pub badnet_line : ℕ → ℕ → List ℕ
badnet_line d i = written (bytes "badnet") (decimal d ∷ decimal i ∷ [])

unfoldable pub badask_line : List ℕ
badask_line = written (bytes "badask") (decimal 1 ∷ decimal 0 ∷ [])

unfoldable pub refused_line : ℕ → ℕ → List ℕ
refused_line d i = written (bytes "refused") (decimal d ∷ decimal i ∷ [])
