-- From a tunnel's exit on: over the links that leave it, and for each function that unwraps there. Assumes nothing.
use Prim.Native.Nat.{ℕ, suc, ◌+◌, ◌*◌, ◌<◌, ◌≤◌, min}
use mathlib.Core.Path.{subst, ◌≡◌, refl, sym, ap, ◌∙◌}
use mathlib.Core.Bool.{Bool, true, false, cond, ◌&&◌}
use mathlib.Core.List.{List, [], ◌∷◌, ◌++◌}
use native.Mathlib.Omega.{arith}
use native.Mathlib.Decide.{ℕ_discrete}
use native.Mathlib.Numerals.{add-one}
use lib.Dec.{eqb}
use lib.ListN.{get_or, set, replicate, length-set, length-replicate, get_or-replicate}
use lib.Seq.{get_or-set_same, get_or-set_other}
use borrow.Author.Tests.{eq-eqb, ne_eqb, eqb-true}
use Rattle.paper.proofs.Places.{place_lt}
use Rattle.network.specs.Network.{nodes, protocols, links, funs, places, from, to, toll, node, kind, x_of, y_of, fee, place_in}
use Rattle.network.specs.Arranged.{Arranged}
use Rattle.tables_costs.specs.Costs.{far}
use Rattle.unfold_exits.specs.Cost.{cost, least}
use Rattle.unfold_exits.specs.Lists.{Gathered, Ranged, finishing}
use Rattle.unfold_exits.specs.Exits.{crossed, landing, lands, Landed, Unwrapping, Unwraps}
use Rattle.unfold_exits.specs.declared.lists.Exit.{Exit}
use Rattle.unfold_exits.proofs.Least.{least_far, least_low, least_met}
use Rattle.unfold_exits.proofs.Listing.{lists_as, gathered_past, gathered_one}

both : (a b : Bool) → (a && b) ≡ true → (a ≡ true) × (b ≡ true)
both true b e = (refl, e)
both false b e = absurd (let z : ◌≡◌ {A = ℕ} 0 1 = cc in omega arith)

not_both : (a b : Bool) → (a && b) ≡ false → a ≡ true → b ≡ true → ⊥
not_both a b e f h = let z : ◌≡◌ {A = Bool} true false = rw (f, h) at e in absurd (let y : ◌≡◌ {A = ℕ} 0 1 = cc in omega arith)

module _ (g W C : List ℕ) (E : List Exit) (x : ℕ) where
  pub crossed_is : (i k : ℕ) → k ≡ finishing W C E (place_in g (to g i) x * places g) + cost (0 + toll g i) 1 → k ≡ crossed g W C E x i
  unfolding crossed
  crossed_is i k e = omega (arith, e)

  -- ## A number for each node

  -- before the first link nothing leads on
  pub landed_none : (m : ℕ) → nodes g ≤ m → Landed g W C E x 0 (replicate m far)
  unfolding least
  landed_none m h = record { some = rw (length-replicate {A = ℕ} m far) h; each = λ u k. get_or-replicate {A = ℕ} m u far 0 (omega arith) }

  -- link i lowers what stands for the node that it leaves, and no other
  pub landed_more : {G G' : List ℕ} (i a k : ℕ) → Landed g W C E x i G → a ≡ from g i → from g i < nodes g → k ≡ crossed g W C E x i → G' ≡ set G a (min k (get_or G a 0))
      → Landed g W C E x (i + 1) G'
  unfolding least landing
  landed_more {G} {G'} i a k l ea ha ek eG = rw eG (record { some = rw (length-set G a (min k (get_or G a 0))) l.some; each = λ u h. rw (add-one i) (go u h (ℕ_discrete a u)) })
    where
      go : (u : ℕ) → u < nodes g → Dec (a ≡ u) → get_or (set G a (min k (get_or G a 0))) u 0 ≡ least (landing g W C E x u) (suc i)
      go u h (yes e) =
          let here : eqb (from g i) a ≡ true = eq-eqb (from g i) a (sym ea) in
          subst (λ (v : ℕ). get_or (set G a (min k (get_or G a 0))) v 0 ≡ least (landing g W C E x v) (suc i)) e
          (rw (get_or-set_same G a (min k (get_or G a 0)) 0 (omega (arith, l.some, ea)), l.each a (rw e h), here, ek) (omega arith))
      go u h (no e) =
          let away : eqb (from g i) u ≡ false = ne_eqb (from g i) u (λ f. e (ea ∙ f)) in
          rw (get_or-set_other G a u (min k (get_or G a 0)) 0 (λ f. e (sym f)), l.each u h, away) (omega (arith, least_far (landing g W C E x u) i))

  pub landed_most : {G : List ℕ} → Landed g W C E x (links g) G → (u : ℕ) → u < nodes g → get_or G u 0 ≤ far
  landed_most l u h = rw (l.each u h) (least_far (landing g W C E x u) (links g))

-- ## The functions that unwrap

module _ {g : List ℕ} {x : ℕ} {land : ℕ → ℕ} {O : List Exit} {j : ℕ} (before : Gathered (Unwrapping g x land) j O) where
  none_by : ((e k : ℕ) → Unwrapping g x land j e k → ⊥) → Gathered (Unwrapping g x land) (j + 1) O
  none_by none = gathered_past _ before (omega arith) (λ i e k h l s. let f : i ≡ j = omega arith in none e k (rw f at s))

  -- a function of another kind or one that lays another protocol bare, and one from which nothing leads on
  pub fun_other : (b : Bool) → b ≡ (eqb (kind g j) 2 && eqb (x_of g j) x) → b ≡ false → Gathered (Unwrapping g x land) (j + 1) O
  fun_other b e h = none_by (λ f k s. not_both (eqb (kind g j) 2) (eqb (x_of g j) x) (sym e ∙ h) (eq-eqb (kind g j) 2 s.unwraps) (eq-eqb (x_of g j) x s.hides))

  module _ (u w a l : ℕ) (eu : u ≡ node g j) (ew : w ≡ fee g j) (ea : a ≡ cost w 0) (el : l ≡ land u) where
    costs : (e k : ℕ) → Unwrapping g x land j e k → k ≡ a + l
    costs e k s = s.cost_is ∙ rw (el, ea, ew, eu)

    pub fun_far : far ≤ a + l → Gathered (Unwrapping g x land) (j + 1) O
    fun_far h = none_by (λ e k s. omega (arith, costs e k s, s.near))

    pub fun_listed : {O' : List Exit} (b : Bool) (y q : ℕ) → a + l < far → b ≡ (eqb (kind g j) 2 && eqb (x_of g j) x) → b ≡ true → y ≡ y_of g j → q ≡ place_in g u y
        → O' ≡ O ++ record { place = q; cost = a + l } ∷ [] → Gathered (Unwrapping g x land) (j + 1) O'
    fun_listed b y q near eb hb ey eq eO =
        let same : q ≡ place_in g (node g j) (y_of g j) = rw (eu, ey) at eq in
        let (ek, ex) = both (eqb (kind g j) 2) (eqb (x_of g j) x) (sym eb ∙ hb) in
        rw eO
        (gathered_one _ (record { place = q; cost = a + l }) before
        (record { unwraps = eqb-true (kind g j) 2 ek; hides = eqb-true (x_of g j) x ex; place_is = same; cost_is = rw (← eu, ← ew, ← ea, ← el); near = near })
        (λ e k s. (s.place_is ∙ sym same, omega (arith, costs e k s))))

-- the same exits, where the costs from the nodes stand in G; and they are in range
module _ {g W C : List ℕ} {E : List Exit} {x : ℕ} {G : List ℕ} {O : List Exit} (o : Arranged g) (l : Landed g W C E x (links g) G) (all : Gathered (Unwrapping g x (λ u. get_or G u 0)) (funs g) O) where
  same_cost : (j : ℕ) → j < funs g → get_or G (node g j) 0 ≡ lands g W C E x (node g j)
  unfolding lands
  same_cost j h = l.each (node g j) (o.valid.fun_node j h)

  there : (j e k : ℕ) → j < funs g → Unwrapping g x (λ u. get_or G u 0) j e k → Unwraps g W C E x j e k
  there j e k h s = record { unwraps = s.unwraps; hides = s.hides; place_is = s.place_is; cost_is = rw (← same_cost j h) s.cost_is; near = s.near }

  back : (j e k : ℕ) → j < funs g → Unwraps g W C E x j e k → Unwrapping g x (λ u. get_or G u 0) j e k
  back j e k h s = record { unwraps = s.unwraps; hides = s.hides; place_is = s.place_is; cost_is = rw (same_cost j h) s.cost_is; near = s.near }

  pub tunnel_listed : Ranged (places g) O × Gathered (Unwraps g W C E x) (funs g) O
  tunnel_listed = (
    record {
      place_below = λ i h.
          let s = all.lists.each i h in
          rw s.is.place_is (place_lt (nodes g) (protocols g) (node g s.at) (y_of g s.at) (o.valid.fun_node s.at s.below) (o.valid.fun_y s.at s.below));
      cost_below = λ i h. omega (arith, (all.lists.each i h).is.near);
    },
    record {
      few = all.few;
      lists = lists_as _ _
          (λ e k s. record { at = s.at; below = s.below; is = there s.at e k s.below s.is })
          (λ e k s. record { at = s.at; below = s.below; is = back s.at e k s.below s.is })
          all.lists;
    },
  )

-- ## What the least way on from a node says

module _ (g W C : List ℕ) (E : List Exit) (x u : ℕ) where
  -- over link i
  abbrev after : ℕ → ℕ
  after i = cost (toll g i) 1 + finishing W C E (place_in g (to g i) x * places g)

  pub lands_low : (i : ℕ) → i < links g → from g i ≡ u → lands g W C E x u ≤ after i
  unfolding lands landing crossed
  lands_low i h e = omega (arith, least_low (landing g W C E x u) (links g) i h, ap (λ (b : Bool). cond b (after i) far) (eq-eqb (from g i) u e))

  -- the best link
  pub record Lands : Type 0 where
    pub i : ℕ
    pub below : i < links g
    pub leaves : from g i ≡ u
    pub is : lands g W C E x u ≡ after i

  pub lands_met : lands g W C E x u < far → Lands
  unfolding lands landing crossed
  lands_met h = let b = least_met (landing g W C E x u) (links g) h in go b.at b.below b.is (eqb (from g b.at) u) (eqb-true (from g b.at) u) refl
    where
      go : (i : ℕ) → i < links g → landing g W C E x u i ≡ least (landing g W C E x u) (links g) → (b : Bool) → (b ≡ true → from g i ≡ u) → eqb (from g i) u ≡ b → Lands
      go i k e true f q = record { i = i; below = k; leaves = f refl; is = sym e ∙ rw q }
      go i k e false f q = absurd (omega (arith, (ap (λ (b : Bool). cond b (after i) far) (sym q)) ∙ e))
