-- What a pair's entries in the weight and count rooms stand for: one value, least first, with a sum that stops at the limits.
-- Assumes nothing.
use Rattle.std.specs.Prelude.{ℕ, ◌+◌, ◌<◌, ◌≤◌, min, ◌≡◌, cond, List, ◌⊎◌, leb, length}
use Rattle.std.proofs.Math.Option.{Option}
use Rattle.paper.specs.Limits.{over_mark, never_mark}
use Rattle.paper.specs.Net.{Key}
use Rattle.paper.specs.Route.{Feasible}

-- within WEIGHT STEPS; over: routes exist, all too heavy; never: no route
pub data Value : Type 0 where
  within : ℕ → ℕ → Value
  over never : Value

-- the two entries that stand for a value
unfoldable pub heft : Value → ℕ
heft (within w s) = w
heft over = over_mark
heft never = never_mark

unfoldable pub count : Value → ℕ
count (within w s) = s
count over = 0
count never = 0

-- what a route of weight w and s steps counts as
unfoldable pub cap : ℕ → ℕ → Value
cap w s = cond (leb w 4000000000) (within w (min s 4097)) over

-- least weight first, then fewest steps; anything before `over`, and that before `never`
unfoldable pub Le : Value → Value → Type 0
Le (within w s) (within v r) = (w < v) ⊎ ((w ≡ v) × (s ≤ r))
Le (within w s) over = Unit {0}
Le (within w s) never = Unit {0}
Le over (within v r) = ⊥
Le over over = Unit {0}
Le over never = Unit {0}
Le never (within v r) = ⊥
Le never over = ⊥
Le never never = Unit {0}

-- one route after another
unfoldable pub plus : Value → Value → Value
plus (within w s) (within v r) = cap (w + v) (s + r)
plus (within w s) over = over
plus (within w s) never = never
plus over (within v r) = over
plus over over = over
plus over never = never
plus never b = never

-- the entry for (S, a) and (D, b): the least of what its feasible routes count as, `never` if there are none
pub record Entry (hop : Key → ℕ → Option (ℕ × ℕ)) (S a D b : ℕ) (e : Value) : Type 0 where
  pub attained : (e ≡ never) ⊎ ((ks : List Key) × (w : ℕ) × Feasible hop S a D b ks w × (e ≡ cap w (length ks)))
  pub least : (ks : List Key) (w : ℕ) → Feasible hop S a D b ks w → Le e (cap w (length ks))
