-- The steps that pass, kind by kind, are those that are tried; so the better of them all is the step picked. Assumes nothing.
use Prim.Native.Nat.{ℕ, suc, ◌+◌, ◌-◌, ◌*◌, ◌<◌, ◌≤◌}
use mathlib.Core.Path.{◌≡◌}
use mathlib.Core.List.{List, [], ◌∷◌}
use native.Mathlib.Omega.{arith}
use Rattle.paper.specs.Net.{code}
use Rattle.network_records.specs.Kinds.{named}
use Rattle.network_records.specs.declared.kind.Kind.{Kind}
use Rattle.network.specs.Network.{links, funs, places, number, from, to, toll, x_of, y_of, fee, place_in}
use Rattle.unfold_exits.specs.Cost.{cost}
use Rattle.unfold_exits.specs.Lists.{finishing}
use Rattle.unfold_exits.specs.declared.lists.Exit.{Exit}
use Rattle.unfold_tries.specs.declared.trial.Spot.{Spot}
use Rattle.unfold_tries.specs.declared.trial.Step.{Step}
use Rattle.unfold_tries.specs.Trial.{Any, ByFun, Serves, next_of, way_over}

module _ (g W C : List ℕ) (E : List Exit) (at : Spot) (k : Kind) (h : ℕ) where
  -- a step that is tried and passes: u and q are left where it leads
  pub record Tried (s : Step) : Type 0 where
    pub j : ℕ
    pub i : ℕ
    pub u : ℕ
    pub q : ℕ
    pub of_fun : j < funs g
    pub of_link : i < links g
    pub serving : Serves g at.node (code (named k)) at.protocol h j
    pub leaves : from g i ≡ at.node
    pub weighs : at.weight ≡ fee g j + toll g i + u
    pub counts : at.left ≡ suc q
    pub finishes : finishing W C E (place_in g (to g i) (next_of g (code (named k)) j) * places g) ≡ cost u q
    pub is : s ≡ record { key = number g i ∷ code (named k) ∷ x_of g j ∷ y_of g j ∷ []; to = record { node = to g i; protocol = next_of g (code (named k)) j; weight = u; left = q } }

  pub any_tried : {s : Step} → 0 < at.left → at.left ≤ 4096 → Any (ByFun g W C E at k h) (funs g) s → Tried s
  unfolding way_over
  any_tried {s} some_left few_left a =
      let o = a.is.over in
      let le : fee g a.at + toll g o.at ≤ at.weight = omega (arith, o.is.pays) in
      record {
        j = a.at;
        i = o.at;
        u = at.weight - (fee g a.at + toll g o.at);
        q = at.left - 1;
        of_fun = a.below;
        of_link = o.below;
        serving = a.is.serving;
        leaves = o.is.leaves;
        weighs = omega arith;
        counts = omega arith;
        finishes = omega (arith, o.is.pays);
        is = o.is.is;
      }

  pub tried_any : {s : Step} → Tried s → Any (ByFun g W C E at k h) (funs g) s
  unfolding way_over
  tried_any {s} t =
      let eu : t.u ≡ at.weight - (fee g t.j + toll g t.i) = omega (arith, t.weighs) in
      let eq : t.q ≡ at.left - 1 = omega (arith, t.counts) in
      record {
        at = t.j;
        below = t.of_fun;
        is = record {
          serving = t.serving;
          over = record { at = t.i; below = t.of_link; is = record { leaves = t.leaves; pays = omega (arith, t.finishes, t.weighs, t.counts); is = rw (eu, eq) at t.is } };
        };
      }
