use mathlib.Core.Path.{refl}
use native.Mathlib.Nat.{div-add-mod', mod-lt}
use Rattle.paper.proofs.place.Place.of.Goals as goal

pub returns : goal.returns
returns c = (refl, refl, div-add-mod' c.args.number c.args.p, mod-lt c.args.number c.requires)
