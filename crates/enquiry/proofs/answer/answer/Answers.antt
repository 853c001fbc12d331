use Rattle.enquiry.proofs.Answering.{in_ranges, answers_6, answers_7, long_enough, made_ready, answers_on}
use Rattle.enquiry.proofs.answer.answer.Goals as goal

pub returns-then-not-in_range : goal.returns-then-not-in_range
returns-then-not-in_range c = answers_6 c.args.net.now c.args.enquiry.start c.args.enquiry.end _ _ c.in_range.ensures c.if-not-in_range.true

pub returns-then-not-enough : goal.returns-then-not-enough
returns-then-not-enough c = answers_7 c.args.net.now c.args.enquiry.start c.args.enquiry.end _ _ _ _ _ _ _ _ c.in_range.ensures c.if-not-in_range.false c.places.ensures.0 c.enough.ensures c.if-not-enough.true

pub fill-requires : goal.fill-requires
fill-requires c = long_enough _ _ _ _ _ _ c.places.ensures.0 c.enough.ensures c.if-not-enough.false

pub travel-requires : goal.travel-requires
travel-requires c =
    let filled = c.fill.ensures in
    let within = in_ranges c.args.net.now c.args.enquiry.start c.args.enquiry.end _ c.in_range.ensures c.if-not-in_range.false in
    let lent = long_enough _ _ c.args.weight.now c.args.count.now c.args.choice.now _ c.places.ensures.0 c.enough.ensures c.if-not-enough.false in
    (made_ready _ _ _ _ _ _ _ c.places.ensures.3 lent filled.tabled filled.filled, within.0, within.1)

pub returns : goal.returns
returns c =
    let filled = c.fill.ensures in
    let lent = long_enough _ _ c.args.weight.now c.args.count.now c.args.choice.now _ c.places.ensures.0 c.enough.ensures c.if-not-enough.false in
    answers_on c.args.net.now _ _ _ _ _ _ c.places.ensures.3 lent filled.tabled filled.filled c.args.enquiry.start c.args.enquiry.end _ _ _ _ _ _ _ _ _ c.in_range.ensures c.if-not-in_range.false c.places.ensures.0
    c.enough.ensures c.if-not-enough.false c.travel.ensures.ends_in c.travel.ensures.choice_after
