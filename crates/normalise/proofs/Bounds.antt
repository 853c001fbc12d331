-- What the normal writer counts is in its room. Assumes nothing.
use mathlib.Core.Path.{◌≡◌, refl, ap}
use mathlib.Core.Bool.{Bool, true, false, cond}
use mathlib.Core.List.{List}
use Prim.Native.Nat.{ℕ, ◌≤◌}
use native.Mathlib.Omega.{arith}
use lib.Dec.{leb}
use lib.ListN.{length}
use borrow.Author.Tests.{leb-true}
use Rattle.paper.specs.File.{Judged, refused, accepted}
use Rattle.paper.specs.Normal.{normal}
use Rattle.paper.specs.Rooms.{laid}
use Rattle.paper.specs.Outcome.{outcome, Told, told, normally}
use Rattle.laws.proofs.Laid.{length_laid}

none : (d i e j w s l : ℕ) (T T' : List ℕ) → told (outcome d i w s l) T' ≡ told (outcome e j 0 0 0) T → l ≤ length T'
none d i e j w s l T T' h = let z : l ≡ 0 = cc in omega arith

pub in_room : (J : Judged) (T T' : List ℕ) (d i w s l : ℕ) → told (outcome d i w s l) T' ≡ normally J T → l ≤ length T'
unfolding normally
in_room (refused e j) T T' d i w s l h = none d i e j w s l T T' h
in_room (accepted m) T T' d i w s l h = go (leb (length (normal m)) (length T)) (leb-true (length (normal m)) (length T)) h
  where
    go : (b : Bool) → (b ≡ true → length (normal m) ≤ length T)
        → told (outcome d i w s l) T' ≡ cond {A = Told} b (told (outcome 0 0 0 0 (length (normal m))) (laid T 0 (normal m))) (told (outcome 11 0 0 0 0) T) → l ≤ length T'
    go true f e =
        let k : l ≡ length (normal m) = cc in
        let t : T' ≡ laid T 0 (normal m) = cc in
        omega (arith, k, f refl, ap length t, length_laid T 0 (normal m))
    go false f e = none d i 11 0 w s l T T' e
