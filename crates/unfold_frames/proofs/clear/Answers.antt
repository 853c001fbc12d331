use mathlib.Core.Path.{◌≡◌, ap, ◌∙◌}
use lib.ListN.{replicate, length-replicate}
use native.Mathlib.Omega.{arith}
use Prim.Native.Nat.{ℕ, ◌+◌, ◌-◌}
use borrow.Rule.Slice.PartMut.{mid_len}
use Rattle.laws.proofs.Laid.{part_laid}
use Rattle.unfold_frames.proofs.clear.Goals as goal

pub returns : goal.returns
returns c =
    let a = c.args in
    let m : a.o + a.m - a.o ≡ a.m = omega arith in
    let zeros = c.fill.ensures.after (λ y h. h) ∙ ap (λ (k : ℕ). replicate {A = ℕ} k 0) (mid_len a.o (a.o + a.m) a.choice.now c.requires ∙ m) in
    rw zeros (part_laid a.choice.now (replicate a.m 0) a.o (a.o + a.m) (omega arith) c.requires (omega (arith, length-replicate {A = ℕ} a.m 0)))
