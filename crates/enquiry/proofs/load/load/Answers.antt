use Rattle.enquiry.proofs.Routing.{loaded_good}
use Rattle.enquiry.proofs.load.load.Goals as goal

pub returns : goal.returns
returns c = let a = c.arrange.ensures in loaded_good _ _ _ _ _ c.in_ok-size.ensures.judged a.laid a.arranged a.leads
