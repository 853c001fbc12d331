-- Places, functions, links, networks and step keys: document 01, "Routes" and "The network file".
-- Assumes nothing: these are definitions.
use Rattle.std.specs.Prelude.{Bool, true, false, ◌&&◌, ◌||◌, cond, List, [], ◌∷◌, ℕ, ◌+◌, ◌*◌, eqb, ltb}
use Rattle.std.proofs.Math.Option.{Option, none, some}

-- the number of the place of node v and protocol x, of p protocols
abbrev pub place : ℕ → ℕ → ℕ → ℕ
place p v x = v * p + x

pub data Kind : Type 0 where
  conv wrap unwrap : Kind

abbrev pub code : Kind → ℕ
code conv = 0
code wrap = 1
code unwrap = 2

-- link NUMBER FROM TO WEIGHT
pub data Link : Type 0 where
  link : ℕ → ℕ → ℕ → ℕ → Link

-- fun NODE KIND X Y WEIGHT
pub data Fun : Type 0 where
  fun : ℕ → Kind → ℕ → ℕ → ℕ → Fun

-- net N P, with its links and its functions
pub data Net : Type 0 where
  net : ℕ → ℕ → List Link → List Fun → Net

-- ## The step key: link number, kind, x, y

pub data Key : Type 0 where
  key : ℕ → Kind → ℕ → ℕ → Key

-- a comes before b: it is smaller at the first place at which they differ
unfoldable pub before : List ℕ → List ℕ → Bool
before a [] = false
before [] (y ∷ b) = true
before (x ∷ a) (y ∷ b) = ltb x y || (eqb x y && before a b)

-- ## Where a step leads and what it weighs

-- the far end and the weight of the link numbered l that leaves v
unfoldable pub across : List Link → ℕ → ℕ → Option (ℕ × ℕ)
across [] l v = none
across (link m u t w ∷ ls) l v = cond (eqb m l && eqb u v) (some (t, w)) (across ls l v)

-- the weight of the function that node v, kind c, x and y are known by
unfoldable pub charge : List Fun → ℕ → Kind → ℕ → ℕ → Option ℕ
charge [] v c x y = none
charge (fun u d r s w ∷ fs) v c x y =
    cond (eqb u v && eqb (code d) (code c) && eqb r x && eqb s y) (some w) (charge fs v c x y)

unfoldable pub both : Option ℕ → Option (ℕ × ℕ) → Option (ℕ × ℕ)
both none r = none
both (some f) none = none
both (some f) (some a) = some (a.0, f + a.1)

-- a step from v uses one function of v and one link leaving v: the node reached, and both weights together
unfoldable pub hop : Net → Key → ℕ → Option (ℕ × ℕ)
hop (net n p ls fs) (key l c x y) v = both (charge fs v c x y) (across ls l v)
