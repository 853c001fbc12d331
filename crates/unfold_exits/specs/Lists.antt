-- Lists of exits. Assumes nothing: these are definitions.
use Rattle.std.specs.Prelude.{ℕ, ◌+◌, ◌<◌, ◌≤◌, ◌≡◌, List, length, slice_index_or}
use Rattle.tables_costs.specs.Costs.{far}
use Rattle.unfold_exits.specs.Cost.{told_at, least}
use Rattle.unfold_exits.specs.declared.lists.Exit.{Exit}

-- exit i of a list: its place, and the cost of finishing from it
abbrev pub exit_at : List Exit → ℕ → Exit
exit_at E i = slice_index_or E i (record { place = 0; cost = 0 })

abbrev pub exit_of : List Exit → ℕ → ℕ
exit_of E i = (exit_at E i).place

abbrev pub cost_of : List Exit → ℕ → ℕ
cost_of E i = (exit_at E i).cost

-- the exit e stands in the list, at a cost of at most c
pub record Has (E : List Exit) (e c : ℕ) : Type 0 where
  pub at : ℕ
  pub below : at < length E
  pub is : exit_of E at ≡ e
  pub most : cost_of E at ≤ c

-- each exit listed is one of Q, at its cost; and each of Q is listed, at no greater cost
pub record Lists (Q : ℕ → ℕ → Type 0) (E : List Exit) : Type 0 where
  pub each : (i : ℕ) → i < length E → Q (exit_of E i) (cost_of E i)
  pub all : (e c : ℕ) → Q e c → Has E e c

-- an exit e at cost c that one of the first m brings
pub record Some (Q : ℕ → ℕ → ℕ → Type 0) (m e c : ℕ) : Type 0 where
  pub at : ℕ
  pub below : at < m
  pub is : Q at e c

-- what the first m bring is listed
pub record Gathered (Q : ℕ → ℕ → ℕ → Type 0) (m : ℕ) (E : List Exit) : Type 0 where
  pub few : length E ≤ m
  pub lists : Lists (Some Q m) E

-- the exits of the list are places and their costs can be added
pub record Ranged (size : ℕ) (E : List Exit) : Type 0 where
  pub place_below : (i : ℕ) → i < length E → exit_of E i < size
  pub cost_below : (i : ℕ) → i < length E → cost_of E i ≤ far

-- from the place whose row of the tables begins at entry `row`, over exit i
abbrev pub over_exit : (W C : List ℕ) (E : List Exit) (row i : ℕ) → ℕ
over_exit W C E row i = told_at W C (row + exit_of E i) + cost_of E i

-- the same, over the best of the exits
unfoldable pub finishing : (W C : List ℕ) (E : List Exit) (row : ℕ) → ℕ
finishing W C E row = least (over_exit W C E row) (length E)
