-- How a number that is read stands for what the paper defines. Assumes nothing: these are definitions.
use Rattle.std.specs.Prelude.{Option as Read, Some, None, cond, List, ℕ, ◌-◌, min}
use Rattle.std.proofs.Math.Option.{Option, none, some}
use Rattle.paper.specs.Text.{digit, digits, value_from}

-- a value as it is told: 1,000,000,001 for all above 1,000,000,000, which are in no range
abbrev pub few : ℕ → ℕ
few n = min n 1000000001

-- a number as the reader tells it
unfoldable pub told : Option ℕ → Read ℕ
told none = None
told (some n) = Some (few n)

-- the same of the digits bs, read on from v
unfoldable pub told_from : ℕ → List ℕ → Read ℕ
told_from v bs = cond (digits bs) (Some (few (value_from v bs))) None

-- the value of a digit
unfoldable pub digit_of : ℕ → Read ℕ
digit_of b = cond (digit b) (Some (b - 48)) None
