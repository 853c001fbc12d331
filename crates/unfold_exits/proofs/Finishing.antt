-- Finishing over a list of exits costs no more than over any of them, and as much as over one of them unless it is far. Assumes nothing.
use Prim.Native.Nat.{ℕ, ◌+◌, ◌<◌, ◌≤◌}
use mathlib.Core.Path.{◌≡◌, ap}
use mathlib.Core.List.{List}
use native.Mathlib.Omega.{arith}
use lib.ListN.{length}
use Rattle.tables_costs.specs.Costs.{far}
use Rattle.unfold_exits.specs.Cost.{told_at}
use Rattle.unfold_exits.specs.Lists.{exit_of, cost_of, Lists, over_exit, finishing}
use Rattle.unfold_exits.specs.declared.lists.Exit.{Exit}
use Rattle.unfold_exits.proofs.Least.{least_low, least_met}

-- the exit e, at cost c, is of Q, and the way over it costs d
pub record Over (Q : ℕ → ℕ → Type 0) (W C : List ℕ) (row d : ℕ) : Type 0 where
  pub e : ℕ
  pub c : ℕ
  pub is : Q e c
  pub sum : told_at W C (row + e) + c ≡ d

module _ (Q : ℕ → ℕ → Type 0) (W C : List ℕ) {E : List Exit} (l : Lists Q E) (row : ℕ) where
  pub finish_low : {e c : ℕ} → Q e c → finishing W C E row ≤ told_at W C (row + e) + c
  unfolding finishing
  finish_low {e} {c} q =
      let h = l.all e c q in
      let f = ap (λ (k : ℕ). told_at W C (row + k)) h.is in
      omega (arith, f, h.most, least_low (over_exit W C E row) (length E) h.at h.below)

  pub finish_met : finishing W C E row < far → Over Q W C row (finishing W C E row)
  unfolding finishing
  finish_met h =
      let g = least_met (over_exit W C E row) (length E) h in
      record { e = exit_of E g.at; c = cost_of E g.at; is = l.each g.at g.below; sum = g.is }
