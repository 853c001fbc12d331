-- A cost is one number, weight × 65,536 + steps: so its order is least weight first, then fewest steps, and one route after another is a sum.
-- From `far` on it says that there is no route. Assumes nothing: these are definitions.
use Rattle.std.specs.Prelude.{ℕ, ◌+◌, ◌*◌, ◌/◌, ◌%◌, min, cond, List, leb, eqb, get_or, set, replicate}
use Rattle.paper.specs.Limits.{never_mark}
use Rattle.laws.specs.Value.{Value, never, cap}

abbrev pub far : ℕ
far = 1152921504606846976

-- what a cost counts as
unfoldable pub worth : ℕ → Value
worth k = cond (leb far k) never (cap (k / 65536) (k % 65536))

-- the cost that two entries stand for
unfoldable pub cost_of : (w s : ℕ) → ℕ
cost_of w s = cond (eqb w never_mark) far (w * 65536 + s)

unfoldable pub cost_at : (W C : List ℕ) (i : ℕ) → ℕ
cost_at W C i = cost_of (get_or W i 0) (get_or C i 0)

-- cost i lowered to k
unfoldable pub lower_to : (i k : ℕ) → List ℕ → List ℕ
lower_to i k l = set l i (min k (get_or l i 0))

-- m places that no route leads to
unfoldable pub blank : ℕ → List ℕ
blank m = replicate m far
