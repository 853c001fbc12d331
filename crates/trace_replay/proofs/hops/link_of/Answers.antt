use Rattle.std.proofs.Common.{rules, tests, arith, ◌≡◌, ℕ, Bool, true, false}
use mathlib.Core.Path.{refl}
use lib.Dec.{eqb}
use Rattle.std.proofs.lemmas.Iterator.{first_from_Range}
use Rattle.network.specs.Network.{number}
use Rattle.trace_replay.proofs.Finding.{first_of}
use Rattle.trace_replay.proofs.hops.link_of.Goals as goal

pub returns-clause-first : goal.returns-clause-first
returns-clause-first c =
    let g = c.args.net.now in
    let found : ℕ → Bool = λ i. eqb (number g i) c.args.l in
    first_of found c.links_of.ensures.stretch (λ k. refl) c.find.result
    (first_from_Range _ _ _ _ (λ i. found i ≡ true) (λ i. found i ≡ false) c.find.ensures.ran (λ x q k. grind (arith, tests)) (λ x q k. (search rules, grind (arith, tests))))
