use Rattle.std.proofs.Common.{rules, tests, arith, ◌≡◌, ℕ, Bool, true, false}
use mathlib.Core.Bool.{◌&&◌}
use lib.Dec.{eqb}
use Rattle.std.proofs.lemmas.Iterator.{first_from_Range}
use Rattle.paper.specs.Net.{code}
use Rattle.network_records.specs.Kinds.{named}
use Rattle.network.specs.Network.{kind, x_of, y_of}
use Rattle.trace_replay.proofs.Finding.{first_of, known_is}
use Rattle.trace_replay.proofs.hops.fun_of.Goals as goal

pub returns : goal.returns
returns c =
    let g = c.args.net.now in
    let found : ℕ → Bool = λ j. (eqb (kind g j) (code (named c.args.kind)) && eqb (x_of g j) c.args.x) && eqb (y_of g j) c.args.y in
    first_of found c.funs_of.ensures.stretch (λ j. known_is g c.args.v (code (named c.args.kind)) c.args.x c.args.y j) c.find.result
    (first_from_Range _ _ _ _ (λ j. found j ≡ true) (λ j. found j ≡ false) c.find.ensures.ran (λ x q k. search (rules, tests)) (λ x q k. (search rules, grind (arith, tests))))
