-- The parts of a sweep, one after another. Assumes nothing.
use Prim.Native.Nat.{ℕ, ◌+◌, ◌<◌}
use mathlib.Core.Path.{◌≡◌, refl}
use mathlib.Core.List.{List}
use Rattle.network.specs.Network.{nodes, protocols}
use Rattle.tables_costs.specs.Loop.{upto}
use Rattle.tables_sweeps.specs.Sweep.{Stage, visited, Visits, none, more, Passing}
use Rattle.tables_sweeps.proofs.Loops.{turn}

module _ (g : List ℕ) (stamp since : ℕ) where
  visits_then : {s t u : Stage} → Visits g stamp since s t → Visits g stamp since t u → Visits g stamp since s u
  visits_then a none = a
  visits_then a (more v x hv hx b) = more v x hv hx (visits_then a b)

  -- a part that is passed over, and a row that is visited
  pub passing_over : (f : Stage → Stage) (s : Stage) → (since ≡ 0 → ⊥) → Passing g stamp since s f s
  passing_over f s h = record { visits = none; full = λ z. absurd (h z) }

  pub passing_row : (v x : ℕ) (s t : Stage) → v < nodes g → x < protocols g → t ≡ visited g stamp since v x s
      → Passing g stamp since s (visited g stamp since v x) t
  passing_row v x s t hv hx e = record { visits = rw e (more v x hv hx none); full = λ z. e }

  -- a loop of parts
  module _ (f : ℕ → Stage → Stage) where
    pub passing_start : (s : Stage) → Passing g stamp since s (upto f 0) s
    unfolding upto
    passing_start s = record { visits = none; full = λ z. refl }

    pub passing_turn : (i : ℕ) (s₀ s t : Stage) → Passing g stamp since s₀ (upto f i) s → Passing g stamp since s (f i) t
        → Passing g stamp since s₀ (upto f (i + 1)) t
    passing_turn i s₀ s t a b = record { visits = visits_then a.visits b.visits; full = λ z. turn f i s₀ s t (a.full z) (b.full z) }
