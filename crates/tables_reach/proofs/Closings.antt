-- What the proof of `close` cites: a law for each way out of it, over plain variables. Assumes nothing.
use Prim.Native.Nat.{ℕ, ◌+◌, ◌*◌, ◌<◌, ◌≤◌}
use mathlib.Core.Path.{◌≡◌}
use mathlib.Core.Bool.{Bool, true, false, ◌&&◌}
use mathlib.Core.List.{List}
use borrow.Author.Tests.{le-leb, lt-leb}
use lib.Dec.{eqb}
use lib.ListN.{get_or}
use Rattle.network.specs.Network.{node, kind, x_of, y_of, fee, place_in}
use Rattle.tables_costs.specs.Costs.{far, lower_to}
use Rattle.tables_sweeps.specs.Row.{closing}

module _ (g : List ℕ) (x : ℕ) (exits : List ℕ) (j : ℕ) (e : List ℕ) (b : Bool) (t : b ≡ (eqb (kind g j) 2 && eqb (x_of g j) x)) where
  pub no_unwrap : b ≡ false → e ≡ closing g x exits j e
  unfolding closing
  no_unwrap h = rw (← t, h)

  module _ (q k : ℕ) (u : q ≡ place_in g (node g j) (y_of g j)) (i : k ≡ get_or exits q 0) (h : b ≡ true) where
    pub no_exit : far ≤ k → e ≡ closing g x exits j e
    unfolding closing
    no_exit f = rw (← t, h, ← u, ← i, le-leb far k f)

    pub closed : (r m w : ℕ) (e' : List ℕ) → k < far → r ≡ node g j → w ≡ fee g j → m ≡ w * 65536 + 1 → e' ≡ lower_to r (k + m) e → e' ≡ closing g x exits j e
    unfolding closing
    closed r m w e' f a c d l = rw (← t, h, ← u, ← i, lt-leb far k f, ← c, ← d, ← a) l
