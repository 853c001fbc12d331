use Rattle.std.proofs.Common.{sym}
use Rattle.std.proofs.lemmas.List.{length-take-le}
use Rattle.route.proofs.Enquiries.{in_room}
use Rattle.route.proofs.respond.Goals as goal

pub slice_bounds-write_all-end : goal.slice_bounds-write_all-end
slice_bounds-write_all-end g c = in_room _ c.from-o.ensures c.enquire.ensures.replies

pub slice_bounds-write_all-end-2 : goal.slice_bounds-write_all-end-2
slice_bounds-write_all-end-2 g c = sym (length-take-le _ _ (in_room _ c.from-o.ensures c.enquire.ensures.replies))
