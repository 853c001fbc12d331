use Rattle.unfold_tries.proofs.Crossings.{way_is, weight_left, link_behind, link_fails, link_passes}
use Rattle.unfold_tries.proofs.links.try_link.Goals as goal

pub returns-then-not-key_before : goal.returns-then-not-key_before
returns-then-not-key_before c = link_behind _ _ _ _ _ _ _ _ _ c.key_over-key.ensures c.key_before.ensures c.if-not-key_before.true

pub returns-then-way-step_cost : goal.returns-then-way-step_cost
returns-then-way-step_cost c = link_fails _ _ _ _ _ _ _ _ _ (way_is c.args.solved.now.net.now _ _ _ c.args.f c.args.i _ c.over_link-way.ensures) c.step_cost.ensures.0 c.if-way-step_cost.true

pub overflow_sub-to : goal.overflow_sub-to
overflow_sub-to c = weight_left _ _ _ _ c.args.at _ c.args.i _ _ _ (way_is c.args.solved.now.net.now _ _ _ c.args.f c.args.i _ c.over_link-way.ensures) c.step_cost.ensures.0 c.if-way-step_cost.false c.link_weight.ensures.0 c.requires.2.few_left

pub returns : goal.returns
returns c =
    link_passes _ _ _ _ _ _ _ _ _ _ _ _ _ c.requires.1 c.key_over-key.ensures c.key_before.ensures c.if-not-key_before.false
    (way_is c.args.solved.now.net.now _ _ _ c.args.f c.args.i _ c.over_link-way.ensures) c.step_cost.ensures.0 c.if-way-step_cost.false c.link_to.ensures.0 c.link_weight.ensures.0
