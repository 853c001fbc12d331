-- What the tables tell: as a cost it is far, or it is the cost of the value that the two entries stand for. Assumes nothing.
use Prim.Native.Nat.{ℕ, ◌*◌, ◌<◌, ◌≤◌}
use mathlib.Core.Path.{◌≡◌, refl}
use mathlib.Core.Bool.{Bool, true, false, cond, ◌&&◌}
use mathlib.Core.List.{List}
use native.Mathlib.Omega.{arith}
use native.Mathlib.Nat.{mul-le-mul}
use lib.Dec.{leb}
use borrow.Author.Tests.{le-leb, lt-leb, leb-true}
use Rattle.paper.specs.Limits.{heaviest, longest, over_mark}
use Rattle.laws.specs.Value.{within, over, never}
use Rattle.tables_costs.specs.Cells.{value}
use Rattle.tables_costs.specs.Costs.{far}
use Rattle.unfold_exits.specs.Cost.{cost, told, Square}

pub told_heavy : (w s : ℕ) → heaviest < w → far ≡ told w s
unfolding told
told_heavy w s h = rw (lt-leb w heaviest h)

pub told_long : (w s : ℕ) → w ≤ heaviest → longest < s → far ≡ told w s
unfolding told
told_long w s h k = rw (le-leb w heaviest h, lt-leb s longest k)

pub told_light : (w s : ℕ) → w ≤ heaviest → s ≤ longest → cost w s ≡ told w s
unfolding told
told_light w s h k = rw (le-leb w heaviest h, le-leb s longest k)

-- entries that stand for a route of at most 4,096 steps tell its cost, and only those tell a cost
pub value_told : (w s a k : ℕ) → value w s ≡ within a k → k ≤ longest → told w s ≡ cost a k
unfolding value told
value_told w s a k e h = go (leb w heaviest) (leb w over_mark) e
  where
    go : (b c : Bool) → cond b (within w s) (cond c over never) ≡ within a k → cond (b && leb s longest) (cost w s) far ≡ cost a k
    go true c f = let i : w ≡ a = cc in let j : s ≡ k = cc in rw (i, j, le-leb k longest h)
    go false true f = absurd (let z : ◌≡◌ {A = ℕ} 0 1 = cc in omega arith)
    go false false f = absurd (let z : ◌≡◌ {A = ℕ} 0 1 = cc in omega arith)

-- w and s spell a cost
pub record Near (w s : ℕ) : Type 0 where
  pub light : w ≤ heaviest
  pub short : s ≤ longest
  pub is : value w s ≡ within w s
  pub costs : told w s ≡ cost w s

pub told_near : (w s : ℕ) → told w s < far → Near w s
unfolding value told
told_near w s = go (leb w heaviest) (leb s longest) (leb-true w heaviest) (leb-true s longest) refl refl
  where
    go : (b c : Bool) → (b ≡ true → w ≤ heaviest) → (c ≡ true → s ≤ longest) → leb w heaviest ≡ b → leb s longest ≡ c → cond (b && c) (cost w s) far < far → Near w s
    go true true f g i j h = record { light = f refl; short = g refl; is = rw i; costs = rw (i, j) }
    go true false f g i j h = absurd (omega arith)
    go false c f g i j h = absurd (omega arith)

-- the rooms' entries can be counted
pub few_entries : {size : ℕ} {W C : List ℕ} → Square size W C → size * size ≤ 1048576
few_entries q = mul-le-mul q.small q.small
