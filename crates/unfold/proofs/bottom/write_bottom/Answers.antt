use Rattle.unfold.proofs.Enquiry.{bottomed}
use Rattle.unfold.proofs.bottom.write_bottom.Goals as goal

pub returns : goal.returns
returns c = bottomed c.args.choice.now _ _ _ _ c.requires.1 c.requires.2 c.places.ensures.0 c.words_for.ensures.0 c.number_of.ensures.0 c.number_of-2.ensures.0 c.begin.ensures c.add_mark.ensures
