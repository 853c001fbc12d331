use Rattle.route.proofs.judge.Goals as goal

pub new-requires : goal.new-requires
new-requires g c = c.in-Ok.ensures.arranged
