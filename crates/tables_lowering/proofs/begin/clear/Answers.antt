use Prim.Native.Nat.{◌≤◌}
use native.Mathlib.Omega.{arith}
use mathlib.Core.Path.{◌≡◌}
use lib.ListN.{length, replicate}
use Rattle.std.proofs.lemmas.List.{length-take-le}
use Rattle.tables_lowering.proofs.Clearing.{cleared_is}
use Rattle.tables_lowering.proofs.begin.clear.Goals as goal

pub returns : goal.returns
returns c =
    let a = c.args in
    let in_weight : a.m ≤ length a.weight.now = omega arith in
    let in_count : a.m ≤ length a.count.now = omega arith in
    let w : c.fill.new.self ≡ replicate a.m 4294967295 = rw length-take-le at (c.fill.ensures.after (λ y e. e)) in
    let s : c.fill-2.new.self ≡ replicate a.m 0 = rw length-take-le at (c.fill-2.ensures.after (λ y e. e)) in
    rw (w, s, cleared_is)
