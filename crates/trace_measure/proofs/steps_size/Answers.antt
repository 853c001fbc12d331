-- The loop keeps: however many bytes the lines have, what is counted and the lines left make them up. Assumes nothing.
use Rattle.trace_measure.proofs.Tallies.{total, total_most, none_counted, turn_countable, turn_counted, all_counted}
use Rattle.trace_measure.proofs.steps_size.Goals as goal

pub loop-i-init : goal.loop-i-init
loop-i-init c = λ n a. a

pub counted-t-requires : goal.counted-t-requires
counted-t-requires c = let r = c.requires in (r.arranged, turn_countable r c.loop-i.i (total r) _ _ c.loop-i-test.true c.key.ensures (c.loop-i.invariant (total r) (none_counted r _ _ c.begin.ensures c.width.ensures.value)) (total_most r))

pub loop-i-preserved : goal.loop-i-preserved
loop-i-preserved c = let l = c.loop-i in λ n a. turn_counted c.requires l.i n _ _ c.loop-i-test.true c.key.ensures (l.invariant n a) _ c.counted-t.ensures

pub returns : goal.returns
returns c = let r = c.requires in all_counted r c.loop-i.i (total r) _ c.loop-i-test.false (c.loop-i.invariant (total r) (none_counted r _ _ c.begin.ensures c.width.ensures.value))
