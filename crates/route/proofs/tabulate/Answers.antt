use mathlib.Core.Path.{refl}
use Rattle.enquiry.proofs.Answering.{made_ready}
use Rattle.route.proofs.Enquiries.{small}
use Rattle.route.proofs.tabulate.Goals as goal

pub fill-requires : goal.fill-requires
fill-requires g c = small _ _ _ _ _ c.places.ensures.0 c.if-places-gt-PLACES.false refl refl refl

pub serve-requires-2-clause-ready : goal.serve-requires-2-clause-ready
serve-requires-2-clause-ready g c =
    let filled = c.fill.ensures in
    made_ready _ _ _ _ _ _ _ c.places.ensures.3 (small _ _ _ _ _ c.places.ensures.0 c.if-places-gt-PLACES.false refl refl refl) filled.tabled filled.filled
