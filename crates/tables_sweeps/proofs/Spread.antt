-- On from places that are reached, by the rows of the rooms: what comes of it, and what it comes down to.
-- Assumes nothing.
use Prim.Native.Nat.{ℕ, ◌+◌, ◌*◌, ◌<◌, ◌≤◌}
use mathlib.Core.Path.{◌≡◌, refl}
use mathlib.Core.Bool.{Bool, true, false, cond}
use mathlib.Core.List.{List}
use native.Mathlib.Omega.{arith}
use borrow.Author.Tests.{leb-true}
use lib.Dec.{leb, eqb}
use lib.ListN.{get_or}
use Rattle.paper.specs.Limits.{never_mark}
use Rattle.laws.specs.Value.{Value, plus}
use Rattle.tables_costs.specs.Costs.{far, worth, cost_of, cost_at, lower_to}
use Rattle.tables_costs.specs.Cells.{value_at}
use Rattle.tables_costs.proofs.Worth.{Sized, sized_plus, worth_plus, Costs}
use Rattle.tables_sweeps.specs.Row.{carried, composed, onward, onwards, idle, going, goings}
use Rattle.tables_costs.proofs.Corners.{begin_le}
use Rattle.tables_sweeps.proofs.Falls.{Local, Fall, fall_none, lower_fall, lower_hit, upto_fall, upto_low}

-- the rooms W and C hold a cost for each pair of `size` places; the places are reached as A says, at costs of at most m parts; what follows is as B says
module _ (W C : List ℕ) (size : ℕ) (costs : (i : ℕ) → i < size * size → Costs (cost_at W C i) (value_at W C i))
    (m : ℕ) (few : m + 1 ≤ 8) (A B : ℕ → Value → Type 0) (joins : (r q : ℕ) → r < size → q < size → (e : Value) → A r e → B q (plus e (value_at W C (r * size + q))))
    (a : List ℕ) (la : Local size m A a) where
  -- one cost more
  on_at : (r q : ℕ) → r < size → q < size → Costs (cost_at W C (r * size + q)) (value_at W C (r * size + q))
  on_at r q hr hq = costs (r * size + q) (omega (arith, begin_le size r hr))

  on_sized : (r q : ℕ) → r < size → q < size → Sized (m + 1) (get_or a r 0 + cost_at W C (r * size + q))
  on_sized r q hr hq = sized_plus m 1 _ _ few (la.sized r hr) (on_at r q hr hq).sized

  pub on_worth : (r q : ℕ) → r < size → q < size → worth (get_or a r 0 + cost_at W C (r * size + q)) ≡ plus (worth (get_or a r 0)) (value_at W C (r * size + q))
  on_worth r q hr hq = let c = on_at r q hr hq in rw (worth_plus m 1 _ _ few (la.sized r hr) c.sized, c.is)

  on_is : (r q : ℕ) → r < size → q < size → B q (worth (get_or a r 0 + cost_at W C (r * size + q)))
  on_is r q hr hq = rw (on_worth r q hr hq) (joins r q hr hq (worth (get_or a r 0)) (la.is r hr))

  -- ## By one row

  carried_fall : (r : ℕ) → r < size → (q : ℕ) → q < size → (y : List ℕ) → Local size (m + 1) B y
      → Fall size (m + 1) B y (carried W C (get_or a r 0) (r * size + q) q y)
  unfolding carried
  carried_fall r hr q hq y ly = go (eqb (get_or W (r * size + q) 0) never_mark)
    where
      go : (b : Bool) → Fall size (m + 1) B y (cond b y (lower_to q (get_or a r 0 + cost_at W C (r * size + q)) y))
      go true = fall_none size (m + 1) B y ly
      go false = lower_fall size (m + 1) B q _ hq (on_sized r q hr hq) (on_is r q hr hq) y ly

  carried_low : (r q : ℕ) → r < size → q < size → (y : List ℕ) → Local size (m + 1) B y
      → get_or (carried W C (get_or a r 0) (r * size + q) q y) q 0 ≤ get_or a r 0 + cost_at W C (r * size + q)
  unfolding carried cost_at cost_of
  carried_low r q hr hq y ly = go (eqb (get_or W (r * size + q) 0) never_mark) refl
    where
      never : eqb (get_or W (r * size + q) 0) never_mark ≡ true → cost_at W C (r * size + q) ≡ far
      never e = rw e

      go : (b : Bool) → eqb (get_or W (r * size + q) 0) never_mark ≡ b
          → get_or (cond b y (lower_to q (get_or a r 0 + cost_at W C (r * size + q)) y)) q 0 ≤ get_or a r 0 + cost_at W C (r * size + q)
      go true e = omega (arith, never e, ly.near q hq)
      go false e = lower_hit size (m + 1) B q _ hq (on_sized r q hr hq) (on_is r q hr hq) y ly

  composed_fall : (r : ℕ) → r < size → (y : List ℕ) → Local size (m + 1) B y → Fall size (m + 1) B y (composed W C size (r * size) (get_or a r 0) y)
  unfolding composed
  composed_fall r hr = upto_fall size (m + 1) B _ size (carried_fall r hr)

  composed_low : (r q : ℕ) → r < size → q < size → (y : List ℕ) → Local size (m + 1) B y
      → get_or (composed W C size (r * size) (get_or a r 0) y) q 0 ≤ get_or a r 0 + cost_at W C (r * size + q)
  unfolding composed
  composed_low r q hr hq =
      upto_low size (m + 1) B _ size (carried_fall r hr) q q _ hq hq (carried_low r q hr hq)

  onward_fall : (r : ℕ) → r < size → (y : List ℕ) → Local size (m + 1) B y → Fall size (m + 1) B y (onward W C size a r y)
  unfolding onward
  onward_fall r hr y ly = go (leb far (get_or a r 0))
    where
      go : (b : Bool) → Fall size (m + 1) B y (cond b y (composed W C size (r * size) (get_or a r 0) y))
      go true = fall_none size (m + 1) B y ly
      go false = composed_fall r hr y ly

  onward_low : (r q : ℕ) → r < size → q < size → (y : List ℕ) → Local size (m + 1) B y → get_or (onward W C size a r y) q 0 ≤ get_or a r 0 + cost_at W C (r * size + q)
  unfolding onward
  onward_low r q hr hq y ly = go (leb far (get_or a r 0)) refl
    where
      go : (b : Bool) → leb far (get_or a r 0) ≡ b → get_or (cond b y (composed W C size (r * size) (get_or a r 0) y)) q 0 ≤ get_or a r 0 + cost_at W C (r * size + q)
      go true e = omega (arith, leb-true far (get_or a r 0) e, ly.near q hq)
      go false e = composed_low r q hr hq y ly

  -- ## By all rows

  pub onwards_fall : (y : List ℕ) → Local size (m + 1) B y → Fall size (m + 1) B y (onwards W C size a y)
  unfolding onwards
  onwards_fall = upto_fall size (m + 1) B _ size onward_fall

  pub onwards_low : (r q : ℕ) → r < size → q < size → (y : List ℕ) → Local size (m + 1) B y → get_or (onwards W C size a y) q 0 ≤ get_or a r 0 + cost_at W C (r * size + q)
  unfolding onwards
  onwards_low r q hr hq = upto_low size (m + 1) B _ size onward_fall r q _ hr hq (onward_low r q hr hq)

  -- ## By those that have something to gain

  module _ (H : List ℕ) (since base : ℕ) where
    going_fall : (r : ℕ) → r < size → (y : List ℕ) → Local size (m + 1) B y → Fall size (m + 1) B y (going W C size H since base a r y)
    unfolding going
    going_fall r hr y ly = go (idle W C (base + r) (get_or a r 0) (get_or H r 0) since)
      where
        go : (b : Bool) → Fall size (m + 1) B y (cond b y (onward W C size a r y))
        go true = fall_none size (m + 1) B y ly
        go false = onward_fall r hr y ly

    pub goings_fall : (y : List ℕ) → Local size (m + 1) B y → Fall size (m + 1) B y (goings W C size H since base a y)
    unfolding goings
    goings_fall = upto_fall size (m + 1) B _ size going_fall

    pub goings_low : (r q : ℕ) → r < size → q < size → idle W C (base + r) (get_or a r 0) (get_or H r 0) since ≡ false → (y : List ℕ) → Local size (m + 1) B y
        → get_or (goings W C size H since base a y) q 0 ≤ get_or a r 0 + cost_at W C (r * size + q)
    unfolding goings going
    goings_low r q hr hq e = upto_low size (m + 1) B _ size going_fall r q _ hr hq (λ y ly. rw e (onward_low r q hr hq y ly))
