-- Filling the first entries lays zeros over them. Assumes nothing.
use Prim.Native.Nat.{ℕ, ◌+◌, ◌≤◌}
use mathlib.Core.Path.{◌≡◌, refl, sym}
use mathlib.Core.List.{List, ◌++◌}
use native.Mathlib.Omega.{arith}
use lib.ListN.{length, drop, replicate, length-replicate}
use Rattle.std.proofs.lemmas.List.Edits.{sets-eq}
use Rattle.paper.specs.Rooms.{laid}

pub zeroed : (m : ℕ) (X : List ℕ) → m ≤ length X → replicate m 0 ++ drop m X ≡ laid X 0 (replicate m 0)
unfolding laid
zeroed m X h =
    let z : 0 + m ≡ m = omega arith in
    sym (rw (sets-eq (replicate m 0) X 0 (rw (length-replicate {A = ℕ} m 0, z) h), length-replicate {A = ℕ} m 0, z) refl)
