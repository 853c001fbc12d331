use mathlib.Core.Path.{ap, ◌∙◌}
use Prim.Native.Nat.{ℕ}
use native.Mathlib.Omega.{arith}
use lib.ListN.{get_or}
use Rattle.unfold_exits.proofs.Telling.{few_entries}
use Rattle.unfold.proofs.Enquiry.{entry_below, entry_is}
use Rattle.unfold.proofs.bottom.entry_of.Goals as goal

pub overflow_add-row : goal.overflow_add-row
overflow_add-row c = omega (arith, entry_below c.places.ensures.0 _ _ c.row_of-row.ensures.1 c.number_of-2.ensures.1, few_entries c.args.solved.now.square)

pub read-requires : goal.read-requires
read-requires c =
    let l = entry_below c.places.ensures.0 _ _ c.row_of-row.ensures.1 c.number_of-2.ensures.1 in
    let q = c.args.solved.now.square in
    (omega (arith, l, q.weights), omega (arith, l, q.counts))

pub returns : goal.returns
returns c =
    let t = c.args.solved.now.tables in
    let e = entry_is c.places.ensures.0 _ _ c.number_of.ensures.0 c.row_of-row.ensures.0 c.number_of-2.ensures.0 in
    (c.read.ensures.0 ∙ ap (λ (i : ℕ). get_or t.weight.now i 0) e, c.read.ensures.1 ∙ ap (λ (i : ℕ). get_or t.count.now i 0) e)
