use Rattle.std.proofs.Common.{ap}
use Rattle.enquiry.proofs.Answering.{in_ranges}
use Rattle.route.specs.Serving.{tabled}
use Rattle.route.proofs.Enquiries.{is_6, is_7, goes_on}
use Rattle.route.proofs.enquire.Goals as goal

pub returns-then-not-in_range-clause-replies : goal.returns-then-not-in_range-clause-replies
returns-then-not-in_range-clause-replies c = is_6 _ c.in_range.ensures c.if-not-in_range.true

pub travel-requires : goal.travel-requires
travel-requires c =
    let within = in_ranges c.args.served.now.net.now c.args.enquiry.start c.args.enquiry.end _ c.in_range.ensures c.if-not-in_range.false in
    (rw c.in-Some.is at c.requires, within.0, within.1)

pub returns-in-Some-clause-replies : goal.returns-in-Some-clause-replies
returns-in-Some-clause-replies c = goes_on _ c.in_range.ensures c.if-not-in_range.false (ap tabled c.in-Some.is) c.travel.ensures.ends_in

pub returns-in-None-clause-replies : goal.returns-in-None-clause-replies
returns-in-None-clause-replies c = is_7 _ c.in_range.ensures c.if-not-in_range.false (ap tabled c.in-None.is)
