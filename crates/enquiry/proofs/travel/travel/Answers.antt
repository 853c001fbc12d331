use mathlib.Core.Path.{ap, ◌∙◌}
use Prim.Native.Nat.{ℕ}
use lib.ListN.{get_or}
use Rattle.enquiry.proofs.Handing.{ends_8, ends_9, ends_10, fit}
use Rattle.enquiry.proofs.travel.travel.Goals as goal

pub returns-then-best-clause-ends_in : goal.returns-then-best-clause-ends_in
returns-then-best-clause-ends_in c =
    let p = c.requires in
    let w = c.read-best.ensures.0 ∙ ap (λ (i : ℕ). get_or c.args.tables.now.weight.now i 0) c.pair.ensures.0 in
    let k = c.read-best.ensures.1 ∙ ap (λ (i : ℕ). get_or c.args.tables.now.count.now i 0) c.pair.ensures.0 in
    ends_8 _ _ _ _ _ _ p.0 p.1 p.2 _ _ w k _ _ c.if-best.true

pub returns-then-best-2-clause-ends_in : goal.returns-then-best-2-clause-ends_in
returns-then-best-2-clause-ends_in c =
    let p = c.requires in
    let w = c.read-best.ensures.0 ∙ ap (λ (i : ℕ). get_or c.args.tables.now.weight.now i 0) c.pair.ensures.0 in
    let k = c.read-best.ensures.1 ∙ ap (λ (i : ℕ). get_or c.args.tables.now.count.now i 0) c.pair.ensures.0 in
    ends_9 _ _ _ _ _ _ p.0 p.1 p.2 _ _ w k _ _ c.if-best-2.true

pub returns-then-most-from-clause-ends_in : goal.returns-then-most-from-clause-ends_in
returns-then-most-from-clause-ends_in c =
    let p = c.requires in
    let w = c.read-best.ensures.0 ∙ ap (λ (i : ℕ). get_or c.args.tables.now.weight.now i 0) c.pair.ensures.0 in
    let k = c.read-best.ensures.1 ∙ ap (λ (i : ℕ). get_or c.args.tables.now.count.now i 0) c.pair.ensures.0 in
    ends_10 _ _ _ _ _ _ p.0 p.1 p.2 _ _ w k _ _ _ c.if-best.false c.if-best-2.false c.most.ensures (rw c.from.ensures at c.if-most-from.true)

pub hand_out-requires : goal.hand_out-requires
hand_out-requires c =
    let p = c.requires in
    let w = c.read-best.ensures.0 ∙ ap (λ (i : ℕ). get_or c.args.tables.now.weight.now i 0) c.pair.ensures.0 in
    let k = c.read-best.ensures.1 ∙ ap (λ (i : ℕ). get_or c.args.tables.now.count.now i 0) c.pair.ensures.0 in
    (p.0, fit _ _ _ _ _ _ p.0 p.1 p.2 _ _ w k _ _ c.if-best.false c.if-best-2.false c.most.ensures (rw c.from.ensures at c.if-most-from.false))
