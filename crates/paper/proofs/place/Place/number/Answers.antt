use mathlib.Core.Path.{refl}
use native.Mathlib.Omega.{arith}
use Rattle.paper.proofs.Places.{place_lt}
use Rattle.paper.proofs.place.Place.number.Goals as goal

pub overflow_mul-result : goal.overflow_mul-result
overflow_mul-result c = omega (arith, place_lt c.args.n c.args.p c.args.self.node c.args.self.protocol c.requires.0 c.requires.1)

pub overflow_add-result : goal.overflow_add-result
overflow_add-result c = omega (arith, place_lt c.args.n c.args.p c.args.self.node c.args.self.protocol c.requires.0 c.requires.1)

pub returns : goal.returns
returns c = (refl, place_lt c.args.n c.args.p c.args.self.node c.args.self.protocol c.requires.0 c.requires.1)
