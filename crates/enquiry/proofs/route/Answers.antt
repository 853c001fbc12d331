use mathlib.Core.Path.{refl}
use Rattle.enquiry.proofs.Routing.{routed_bad, routed_good}
use Rattle.enquiry.proofs.route.Goals as goal

pub new-net-requires : goal.new-net-requires
new-net-requires c = c.in-Ok.ensures.arranged

pub returns-in-Err : goal.returns-in-Err
returns-in-Err c = routed_bad _ _ _ _ _ _ _ _ c.in-Err.ensures c.from-in-Err.ensures

pub returns-in-Ok : goal.returns-in-Ok
returns-in-Ok c =
    routed_good _ _ _ _ _ _ _ _ _ _ _ c.in-Ok.ensures refl refl refl refl (rw c.new-net.ensures at c.answer.ensures) c.from.ensures
