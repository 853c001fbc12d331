-- What the proofs of the steps cite: one law for each function, over plain variables. Assumes nothing.
use Prim.Native.Nat.{ℕ}
use mathlib.Core.Path.{◌≡◌}
use mathlib.Core.Bool.{Bool, true, false, ◌&&◌}
use mathlib.Core.List.{List}
use lib.Dec.{eqb}
use Rattle.network.specs.Network.{links, to, kind, x_of, y_of, place_in}
use Rattle.network.specs.Next.{leaves, stands, suits}
use Rattle.tables_costs.specs.Loop.{upto}
use Rattle.tables_costs.specs.Costs.{lower_to}
use Rattle.tables_sweeps.specs.Row.{step_cost, crossing, serving}

module _ (g : List ℕ) (v j i : ℕ) (a : List ℕ) where
  pub crossed : (a' : List ℕ) → leaves g v i ≡ true → a' ≡ lower_to (place_in g (to g i) (y_of g j)) (step_cost g j i) a → a' ≡ crossing g v j i a
  unfolding crossing
  crossed a' e h = rw e h

  pub not_crossed : leaves g v i ≡ false → crossing g v j i a ≡ a
  unfolding crossing
  not_crossed e = rw e

-- of a function of v, its kind and what it is for decide
module _ (g : List ℕ) (v k x j : ℕ) (a : List ℕ) where
  pub not_served : suits g v k x j ≡ false → serving g v k x j a ≡ a
  unfolding serving
  not_served e = rw e

  pub not_standing : stands g v j ≡ false → serving g v k x j a ≡ a
  unfolding serving suits stands
  not_standing e = rw e

  module _ (b : Bool) (here : stands g v j ≡ true) (t : b ≡ (eqb (kind g j) k && eqb (x_of g j) x)) where
    pub served : (a' : List ℕ) → b ≡ true → a' ≡ upto (crossing g v j) (links g) a → a' ≡ serving g v k x j a
    unfolding serving suits stands
    served a' e h = rw (here, ← t, e) h

    pub passed_by : b ≡ false → a ≡ serving g v k x j a
    unfolding serving suits stands
    passed_by e = rw (here, ← t, e)
