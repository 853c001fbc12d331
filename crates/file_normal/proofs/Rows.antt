-- The lines of a room's records, one after another: those from the record at i on are left. Assumes nothing.
use mathlib.Core.Path.{◌≡◌}
use mathlib.Core.List.{List, ◌++◌}
use Prim.Native.Nat.{ℕ, suc, ◌+◌, ◌-◌, ◌<◌}
use native.Mathlib.Numerals.{add-one}
use native.Mathlib.Omega.{arith}
use Rattle.paper.specs.Normal.{texts}
use Rattle.network_records.specs.Columns.{rows}
use Rattle.digits.specs.declared.write.Writer.{Writer}
use Rattle.digits.specs.Write.{Holds, Wrote, Leaves}
use Rattle.digits.proofs.Writing.{leaves_all, leaves_less, leaves_room, leaves_none}

pub all_rows : {A : Type 0} (text : A → List ℕ) (f : ℕ → A) (c : ℕ) (w : Writer) → Leaves w w (texts text (rows f 0 c)) (texts text (rows f 0 (c - 0)))
all_rows text f c w = let e : c - 0 ≡ c = omega arith in rw e (leaves_all w (texts text (rows f 0 c)))

module _ {A : Type 0} (text : A → List ℕ) (f : ℕ → A) (i c : ℕ) where
  row_first : i < c → texts text (rows f i (c - i)) ≡ text (f i) ++ texts text (rows f (i + 1) (c - (i + 1)))
  unfolding texts rows
  row_first h = let e : c - i ≡ suc (c - (i + 1)) = omega arith in rw (e, add-one i)

  module _ {w v : Writer} {s : List ℕ} (l : Leaves w v s (texts text (rows f i (c - i)))) where
    pub row_room : i < c → Holds w s → Holds v (text (f i))
    row_room h g = leaves_room (text (f i)) (texts text (rows f (i + 1) (c - (i + 1)))) g (rw (row_first h) at l)

    pub row_leaves : {x : Writer} → i < c → Wrote v x (text (f i)) → Leaves w x s (texts text (rows f (i + 1) (c - (i + 1))))
    row_leaves h p = leaves_less (rw (row_first h) at l) p

    pub rows_wrote : i ≡ c → Wrote w v s
    unfolding texts rows
    rows_wrote h = let z : c - i ≡ 0 = omega arith in leaves_none (rw z at l)
