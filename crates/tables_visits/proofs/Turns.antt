-- What the proofs of the code cite: one law for each function, over plain variables. Assumes nothing.
use Prim.Native.Nat.{ℕ, ◌-◌}
use mathlib.Core.Path.{◌≡◌, refl, sym, ◌∙◌}
use mathlib.Core.Bool.{Bool, true, false, cond, ◌||◌}
use mathlib.Core.List.{List}
use lib.ListN.{length, set}
use Rattle.network.specs.Network.{place_in}
use Rattle.tables_costs.specs.Cells.{cells}
use Rattle.tables_sweeps.specs.Row.{row}
use Rattle.tables_sweeps.specs.Sweep.{Stage, stage, stamped, visited, node_rows, turned, Passing}
use Rattle.tables_sweeps.proofs.Quiet.{not_both}
use Rattle.tables_sweeps.proofs.Passes.{passing_over}
use Rattle.tables_ways.specs.Asked.{Sweeping}

pub marked : (H : List ℕ) (r stamp : ℕ) (b : Bool) → b ≡ true → set H r stamp ≡ cond b (set H r stamp) H
marked H r stamp true e = refl
marked H r stamp false e = cc

pub unmarked : (H : List ℕ) (r stamp : ℕ) (b : Bool) → b ≡ false → H ≡ cond b (set H r stamp) H
unmarked H r stamp true e = cc
unmarked H r stamp false e = refl

pub visiting : (g : List ℕ) (stamp since v x at : ℕ) (W C H W' C' H' : List ℕ) (b r : Bool) → cells W' C' r ≡ row g H since v x (cells W C false)
    → at ≡ place_in g v x → H' ≡ cond r (set H at stamp) H → stage W' C' H' (b || r) ≡ visited g stamp since v x (stage W C H b)
unfolding visited stamped
visiting g stamp since v x at W C H W' C' H' b r e f h = rw (← e, ← f, h)

-- a row that leans on nothing new
pub passed_by : (g : List ℕ) (stamp since : ℕ) (f : Stage → Stage) (s : Stage) (b : Bool) → (since ≡ 0 → b ≡ false) → b ≡ true
    → Passing g stamp since s f s
passed_by g stamp since f s b h t = passing_over g stamp since f s (λ z. not_both (sym t ∙ h z))

pub still_sweeping : {g W C H : List ℕ} (W' C' H' : List ℕ) → Sweeping g W C H → length W' ≡ length W → length C' ≡ length C → length H' ≡ length H
    → Sweeping g W' C' H'
still_sweeping W' C' H' s a b c =
    record {
      roomy = record { few = s.roomy.few; weights = rw a s.roomy.weights; counts = rw b s.roomy.counts };
      stamps = rw c s.stamps;
    }

-- the order of the nodes
pub turned_back : (b : Bool) (n k : ℕ) → b ≡ true → n - 1 - k ≡ turned b n k
unfolding turned
turned_back b n k e = rw e

pub turned_on : (b : Bool) (n k : ℕ) → b ≡ false → k ≡ turned b n k
unfolding turned
turned_on b n k e = rw e

pub turning : (g : List ℕ) (stamp since : ℕ) (back : Bool) (n k v : ℕ) (s t : Stage) → v ≡ turned back n k → Passing g stamp since s (node_rows g stamp since v) t
    → Passing g stamp since s (node_rows g stamp since (turned back n k)) t
turning g stamp since back n k v s t e h = rw e at h
