use mathlib.Core.Path.{refl}
use native.Mathlib.Omega.{arith}
use Rattle.unfold_picks.proofs.Opened.{open_room, open_look, open_writing, open_kept, open_records}
use Rattle.unfold_picks.proofs.opens.open.Goals as goal

pub overflow_mul-o : goal.overflow_mul-o
overflow_mul-o c = omega (arith, open_room c.args.solved.now.arranged c.requires _ _ c.record_length-length.ensures.0 refl)

pub list_outward-requires : goal.list_outward-requires
list_outward-requires c = open_look c.args.solved.now.arranged c.requires _ _ c.record_length-length.ensures.0 refl

pub overflow_add-o : goal.overflow_add-o
overflow_add-o c = omega (arith, open_room c.args.solved.now.arranged c.requires _ _ c.record_length-length.ensures.0 refl)

pub write_record-requires : goal.write_record-requires
write_record-requires c = open_writing c.args.solved.now.arranged c.requires _ _ c.record_length-length.ensures.0 refl (rw c.listed.ensures c.list_outward.ensures.ranged)

pub returns : goal.returns
returns c =
    let o = c.args.solved.now.arranged in
    let p = c.requires in
    let l = c.list_outward.ensures in
    let w = rw c.listed.ensures at c.write_record.ensures in
    (open_kept o p _ _ c.record_length-length.ensures.0 refl l w, open_records o p _ _ c.record_length-length.ensures.0 refl l w)
