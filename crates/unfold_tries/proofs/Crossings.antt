-- One function tried over one link: it is passed over, or it is the better step. Assumes nothing.
use Prim.Native.Nat.{ℕ, ◌+◌, ◌-◌, ◌*◌, ◌≤◌}
use mathlib.Core.Path.{◌≡◌, sym, ◌∙◌}
use mathlib.Core.Bool.{Bool, true, false}
use mathlib.Core.List.{List, [], ◌∷◌}
use native.Mathlib.Omega.{arith}
use Rattle.paper.specs.Net.{code, before}
use Rattle.network_records.specs.Kinds.{named}
use Rattle.network.specs.Network.{places, number, from, to, toll, place_in}
use Rattle.network.specs.Next.{leaves}
use Rattle.unfold_exits.specs.Cost.{cost}
use Rattle.unfold_exits.specs.Lists.{finishing}
use borrow.Author.Tests.{eqb-true, eqb-false}
use Rattle.unfold_exits.specs.declared.lists.Exit.{Exit}
use Rattle.unfold_tries.specs.declared.trial.Spot.{Spot}
use Rattle.unfold_tries.specs.declared.trial.Step.{Step}
use Rattle.unfold_tries.specs.declared.trial.Use.{Use}
use Rattle.unfold_tries.specs.Trial.{Better, OverLink, step_over, way_over}
use Rattle.unfold_tries.proofs.Better.{before_lex, not_before_lex, better_same, better_none, better_new}

-- the sum that is tested
pub way_is : (g W C : List ℕ) (E : List Exit) (f : Use) (i k : ℕ) → k ≡ finishing W C E (place_in g (to g i) f.onto * places g) + cost (f.weight + toll g i) 1 → k ≡ way_over g W C E f i
unfolding way_over
way_is g W C E f i k e = e

-- a link that the walk yields leaves the node, and no other does
pub leaves_from : (g : List ℕ) (v i : ℕ) → leaves g v i ≡ true → from g i ≡ v
unfolding leaves
leaves_from g v i e = eqb-true (from g i) v e

module _ (g W C : List ℕ) (E : List Exit) (at : Spot) (f : Use) (i : ℕ) where
  pub link_elsewhere : (s : Step) → leaves g at.node i ≡ false → OverLink g W C E at f i s → ⊥
  unfolding leaves
  link_elsewhere s e o = eqb-false (from g i) at.node e o.leaves

  -- what passes leaves a weight
  pub weight_left : (a q w : ℕ) → a ≡ way_over g W C E f i → q ≡ cost at.weight at.left → a ≡ q → w ≡ toll g i → at.left ≤ 4096 → f.weight + w ≤ at.weight
  unfolding way_over
  weight_left a q w ea eq h ew few = omega arith

  module _ {best : Step} where
    pub link_behind : (k : List ℕ) (r : Bool) → k ≡ number g i ∷ code (named f.kind) ∷ f.x ∷ f.y ∷ [] → r ≡ before k best.key → r ≡ false → Better (OverLink g W C E at f i) best best
    link_behind k r e l h = better_same (λ s q. rw (q.is, ← e) (not_before_lex k best.key (sym l ∙ h)))

    pub link_fails : (a q : ℕ) → a ≡ way_over g W C E f i → q ≡ cost at.weight at.left → (a ≡ q → ⊥) → Better (OverLink g W C E at f i) best best
    link_fails a q e l h = better_none (λ s o. h (e ∙ o.pays ∙ sym l))

    pub link_passes : (a q t w : ℕ) (k : List ℕ) (r : Bool) → from g i ≡ at.node → k ≡ number g i ∷ code (named f.kind) ∷ f.x ∷ f.y ∷ [] → r ≡ before k best.key → r ≡ true
        → a ≡ way_over g W C E f i → q ≡ cost at.weight at.left → a ≡ q → t ≡ to g i → w ≡ toll g i
        → Better (OverLink g W C E at f i) best (record { key = k; to = record { node = t; protocol = f.onto; weight = at.weight - (f.weight + w); left = at.left - 1 } })
    link_passes a q t w k r leaves ek er hr ea eq h et ew =
        let is : ◌≡◌ {A = Step} (record { key = k; to = record { node = t; protocol = f.onto; weight = at.weight - (f.weight + w); left = at.left - 1 } }) (step_over g at f i) = rw (ek, et, ew) in
        better_new (record { leaves = leaves; pays = sym ea ∙ h ∙ eq; is = is }) (before_lex k best.key (sym er ∙ hr)) (λ s b. b.is ∙ sym is)
