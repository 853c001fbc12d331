use Rattle.unfold.proofs.Enquiry.{bottom_room, route_asks, route_done}
use Rattle.unfold.proofs.bottom.write_route.Goals as goal

pub entry_of-entry-requires : goal.entry_of-entry-requires
entry_of-entry-requires c = let p = c.requires in (p.from, p.to)

pub write_bottom-requires : goal.write_bottom-requires
write_bottom-requires c = let p = c.requires in (p.from, p.to, bottom_room c.args.solved.now.arranged p)

pub level-requires : goal.level-requires
level-requires c = let e = c.entry_of-entry.ensures in let b = c.write_bottom in route_asks c.args.solved.now.arranged c.requires _ _ e.0 e.1 b.ensures b.auto.choice

pub returns : goal.returns
returns c = let e = c.entry_of-entry.ensures in route_done c.args.solved.now.arranged c.requires _ _ e.0 e.1 c.write_bottom.ensures c.level.ensures
