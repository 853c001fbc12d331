-- The table's rule is a test at each of its ten entries, which antt computes. Assumes nothing.
use mathlib.Core.List.{List, [], ◌∷◌}
use mathlib.Core.Bool.{Bool}
use Prim.Native.Nat.{ℕ, ◌^◌}
use lib.Dec.{eqb, eqb→eq}
use lib.ListN.{get_or}
use Rattle.digits.proofs.Table.{at}
use borrow.Author.Rules.{rules}
use Rattle.digits.proofs.tens.ten.Goals as goal

tens : List ℕ
tens = 1 ∷ 10 ∷ 100 ∷ 1000 ∷ 10000 ∷ 100000 ∷ 1000000 ∷ 10000000 ∷ 100000000 ∷ 1000000000 ∷ []

right : ℕ → ℕ → Bool
right k x = eqb x (10 ^ k)

pub returns : goal.returns
unfolding tens right
returns c = eqb→eq (get_or tens c.args.k 0) (10 ^ c.args.k) (at right tens tt c.args.k (search rules))
