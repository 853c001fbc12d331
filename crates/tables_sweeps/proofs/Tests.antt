-- What the tests of the records say. Assumes nothing.
use Prim.Native.Nat.{ℕ}
use mathlib.Core.Path.{◌≡◌, refl}
use mathlib.Core.Bool.{Bool, true, false, ◌&&◌}
use mathlib.Core.List.{List}
use borrow.Author.Tests.{eqb-true, eq-eqb}
use lib.Dec.{eqb}
use Rattle.network.specs.Network.{from, node, kind, x_of}
use Rattle.network.specs.Next.{leaves, suits}

pub and_true : (a b : Bool) → (a && b) ≡ true → (a ≡ true) × (b ≡ true)
and_true true b e = (refl, e)
and_true false b e = cc

pub leaves_true : (g : List ℕ) (v i : ℕ) → leaves g v i ≡ true → from g i ≡ v
unfolding leaves
leaves_true g v i e = eqb-true _ _ e

pub leaves_yes : (g : List ℕ) (v i : ℕ) → from g i ≡ v → leaves g v i ≡ true
unfolding leaves
leaves_yes g v i e = eq-eqb _ _ e

pub suits_true : (g : List ℕ) (v k x j : ℕ) → suits g v k x j ≡ true → (node g j ≡ v) × (kind g j ≡ k) × (x_of g j ≡ x)
unfolding suits
suits_true g v k x j e =
    let a = and_true _ _ e in
    let b = and_true _ _ a.1 in
    (eqb-true _ _ a.0, eqb-true _ _ b.0, eqb-true _ _ b.1)

pub suits_yes : (g : List ℕ) (v k x j : ℕ) → node g j ≡ v → kind g j ≡ k → x_of g j ≡ x → suits g v k x j ≡ true
unfolding suits
suits_yes g v k x j a b c = rw (eq-eqb _ _ a, eq-eqb _ _ b, eq-eqb _ _ c)

-- an unwrap of what hides x
pub unwraps_true : (g : List ℕ) (x j : ℕ) → (eqb (kind g j) 2 && eqb (x_of g j) x) ≡ true → (kind g j ≡ 2) × (x_of g j ≡ x)
unwraps_true g x j e = let a = and_true _ _ e in (eqb-true _ _ a.0, eqb-true _ _ a.1)

pub unwraps_yes : (g : List ℕ) (x j : ℕ) → kind g j ≡ 2 → x_of g j ≡ x → (eqb (kind g j) 2 && eqb (x_of g j) x) ≡ true
unwraps_yes g x j a b = rw (eq-eqb _ _ a, eq-eqb _ _ b)
