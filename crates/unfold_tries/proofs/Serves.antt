-- Functions that serve at a place: those that the walk yields, an unwrap if its y is on top. Assumes nothing.
use Prim.Native.Nat.{ℕ, ◌<◌}
use mathlib.Core.Path.{◌≡◌, refl, sym, ◌∙◌}
use mathlib.Core.Bool.{Bool, true, false, cond, ◌&&◌}
use mathlib.Core.List.{List}
use mathlib.Core.Logic.{inl, inr, ⊎_elim}
use native.Mathlib.Omega.{arith}
use lib.Dec.{eqb}
use denote.Enum.Bare.{sameb}
use borrow.Author.Tests.{eqb-true, eqb-false, eq-eqb}
use Rattle.laws.proofs.Before.{and_left, and_right}
use Rattle.paper.specs.Net.{code}
use Rattle.network_records.specs.Kinds.{named}
use Rattle.network_records.specs.contracts.kind.Kind.{the_type}
use Rattle.network_records.specs.declared.kind.Kind.{Kind}
use Rattle.network_records.specs.declared.kind.Kind.TheVariants.{Conv, Wrap, Unwrap}
use Rattle.network.specs.Network.{protocols, links, funs, node, kind, x_of, y_of}
use Rattle.network.specs.Arranged.{Arranged}
use Rattle.network.specs.Next.{stands}
use Rattle.unfold_exits.specs.declared.lists.Exit.{Exit}
use Rattle.unfold_tries.specs.declared.trial.Spot.{Spot}
use Rattle.unfold_tries.specs.declared.trial.Step.{Step}
use Rattle.unfold_tries.specs.declared.trial.Use.{Use}
use Rattle.unfold_tries.specs.Trial.{Better, Any, OverLink, ByFun, Serves, Usable, sought_by, top_of, next_of, use_of}
use Rattle.unfold_tries.proofs.Better.{better_none}

next_lt : (g : List ℕ) (k j p : ℕ) → x_of g j < p → y_of g j < p → next_of g k j < p
unfolding next_of
next_lt g k j p hx hy = go (eqb k 2)
  where
    go : (b : Bool) → cond b (x_of g j) (y_of g j) < p
    go true = hx
    go false = hy

pub usable : (g : List ℕ) (k : Kind) (j : ℕ) (f : Use) → Arranged g → j < funs g → f ≡ use_of g k j → Usable g f
usable g k j f o h e = rw e (record { light = o.valid.fun_weight j h; protocol = next_lt g (code (named k)) j (protocols g) (o.valid.fun_x j h) (o.valid.fun_y j h) })

pub stands_at : (g : List ℕ) (v j : ℕ) → stands g v j ≡ true → node g j ≡ v
unfolding stands
stands_at g v j e = eqb-true (node g j) v e

-- a kind that is tested for an unwrap
unwrap_tested : (k : Kind) → sameb the_type k Unwrap ≡ eqb (code (named k)) 2
unwrap_tested Conv = refl
unwrap_tested Wrap = refl
unwrap_tested Unwrap = refl

module _ (k : Kind) {r : Bool} (q : r ≡ sameb the_type k Unwrap) where
  pub is_unwrap : r ≡ true → code (named k) ≡ 2
  is_unwrap h = eqb-true (code (named k)) 2 (sym (unwrap_tested k) ∙ sym q ∙ h)

  pub no_unwrap : r ≡ false → code (named k) ≡ 2 → ⊥
  no_unwrap h = eqb-false (code (named k)) 2 (sym (unwrap_tested k) ∙ sym q ∙ h)

module _ (g : List ℕ) (k j : ℕ) where
  pub unwrap_top : k ≡ 2 → y_of g j ≡ top_of g k j
  unfolding top_of
  unwrap_top e = rw e

  -- what is sought is for x on top, an unwrap if its y is
  pub sought_top : (x h : ℕ) → (eqb (kind g j) k && eqb (x_of g j) (sought_by k x h)) ≡ true → (k ≡ 2 → y_of g j ≡ x) → top_of g k j ≡ x
  unfolding sought_by top_of
  sought_top x h t y = go (eqb k 2) refl (eqb-true (x_of g j) (cond (eqb k 2) h x) (and_right (eqb (kind g j) k) _ t))
    where
      go : (b : Bool) → eqb k 2 ≡ b → x_of g j ≡ cond b h x → cond b (y_of g j) (x_of g j) ≡ x
      go true e i = y (eqb-true k 2 e)
      go false e i = i

  -- what is sought serves
  module _ (v x h : ℕ) where
    pub serves_sought : Serves g v k x h j → (eqb (kind g j) k && eqb (x_of g j) (sought_by k x h)) ≡ true
    unfolding sought_by top_of
    serves_sought s = rw (eq-eqb (kind g j) k s.of_kind) (eq-eqb (x_of g j) (cond (eqb k 2) h x) (go (eqb k 2) refl s.on_top))
      where
        go : (b : Bool) → eqb k 2 ≡ b → cond b (y_of g j) (x_of g j) ≡ x → x_of g j ≡ cond b h x
        go true e t = s.beneath (eqb-true k 2 e)
        go false e t = t

    sought_serves : node g j ≡ v → (eqb (kind g j) k && eqb (x_of g j) (sought_by k x h)) ≡ true → top_of g k j ≡ x → Serves g v k x h j
    unfolding sought_by
    sought_serves n t y = record {
      at_node = n;
      of_kind = eqb-true (kind g j) k (and_left (eqb (kind g j) k) _ t);
      on_top = y;
      beneath = λ e. eqb-true (x_of g j) (cond (eqb k 2) h x) (and_right (eqb (kind g j) k) _ t) ∙ rw e;
    }

module _ (g W C : List ℕ) (E : List Exit) (at : Spot) (k : Kind) (h j : ℕ) where
  abbrev c : ℕ
  c = code (named k)

  pub fun_elsewhere : (s : Step) → stands g at.node j ≡ false → ByFun g W C E at k h j s → ⊥
  unfolding stands
  fun_elsewhere s e b = eqb-false (node g j) at.node e b.serving.at_node

  -- a function of another kind or for another protocol, one that asks for another on top, and what is tried
  pub fun_other : {b : Step} (t : Bool) → t ≡ (eqb (kind g j) c && eqb (x_of g j) (sought_by c at.protocol h)) → t ≡ false → Better (ByFun g W C E at k h j) b b
  fun_other t e f = better_none (λ s b. let z : ◌≡◌ {A = ℕ} 0 1 = cc (e, f, serves_sought g c j at.node at.protocol h b.serving) in omega arith)

  pub fun_passed : {b : Step} (y : ℕ) → y ≡ top_of g c j → (y ≡ at.protocol → ⊥) → Better (ByFun g W C E at k h j) b b
  fun_passed y e n = better_none (λ s q. n (e ∙ q.serving.on_top))

  pub fun_tried : {b r : Step} (t : Bool) (y : ℕ) (f : Use) → node g j ≡ at.node → t ≡ (eqb (kind g j) c && eqb (x_of g j) (sought_by c at.protocol h)) → t ≡ true → y ≡ top_of g c j → y ≡ at.protocol → f ≡ use_of g k j
      → Better (Any (OverLink g W C E at f) (links g)) b r → Better (ByFun g W C E at k h j) b r
  fun_tried {b} {r} t y f n et ht ey hy e q =
      let serves = sought_serves g c j at.node at.protocol h n (sym et ∙ ht) (sym ey ∙ hy) in
      let q' : Better (Any (OverLink g W C E at (use_of g k j)) (links g)) b r = rw e at q in
      record {
        one_of = ⊎_elim (λ i. inl i) (λ i. inr (record { serving = serves; over = i })) q'.one_of;
        keeps = q'.keeps;
        beats = λ s i. q'.beats s i.over;
      }
