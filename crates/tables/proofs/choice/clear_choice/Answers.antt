use Prim.Native.Nat.{◌*◌, ◌≤◌}
use mathlib.Core.Path.{◌≡◌}
use lib.ListN.{length, replicate}
use Rattle.std.proofs.lemmas.List.{length-take-le}
use Rattle.tables.proofs.Turns.{zeroed}
use Rattle.tables.proofs.choice.clear_choice.Goals as goal

pub returns : goal.returns
returns c =
    let a = c.args in
    let inside : 8 * (a.size * a.size) ≤ length a.choice.now = c.requires.1 in
    let zeros : c.fill.new.self ≡ replicate (8 * (a.size * a.size)) 0 = rw length-take-le at (c.fill.ensures.after (λ y e. e)) in
    rw zeros (zeroed _ _ inside)
