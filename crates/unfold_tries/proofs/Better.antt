-- The better of what was found and what is tried: laws of the order of keys, and of scans. Assumes nothing.
use Prim.Native.Nat.{ℕ, ◌+◌, ◌-◌, ◌<◌, ◌≤◌}
use mathlib.Core.Path.{◌≡◌, refl, sym, ap, ◌∙◌}
use mathlib.Core.Bool.{Bool, true, false, ◌&&◌, ◌||◌}
use mathlib.Core.List.{List, [], ◌∷◌}
use mathlib.Core.Logic.{◌⊎◌, inl, inr}
use native.Mathlib.Omega.{arith}
use native.Mathlib.Decide.{dec_lt}
use lib.Dec.{eqb, ltb}
use borrow.Author.Tests.{ltb-true, ltb-false, eqb-true, eqb-false}
use Rattle.paper.specs.Net.{before}
use Rattle.paper.specs.Route.{Lex}
use Rattle.laws.proofs.Order.{lex_refl, lex_trans}
use Rattle.std.specs.declared.ops.Range.{Range}
use Rattle.network.specs.Next.{Stretch}
use Rattle.unfold_tries.specs.declared.trial.Step.{Step}
use Rattle.unfold_tries.specs.Trial.{Better, Any}

-- ## The order of keys, as it is tested

pub before_lex : (a b : List ℕ) → before a b ≡ true → Lex a b
unfolding before Lex
before_lex a [] e = absurd (let z : ◌≡◌ {A = ℕ} 0 1 = cc in omega arith)
before_lex [] (y ∷ b) e = tt
before_lex (x ∷ a) (y ∷ b) e = go (ltb x y) (eqb x y) (before a b) (ltb-true x y) (eqb-true x y) (before_lex a b) e
  where
    go : (i j k : Bool) → (i ≡ true → x < y) → (j ≡ true → x ≡ y) → (k ≡ true → Lex a b) → i || (j && k) ≡ true → (x < y) ⊎ ((x ≡ y) × Lex a b)
    go true j k p q r e = inl (p refl)
    go false true true p q r e = inr (q refl, r refl)
    go false true false p q r e = absurd (let z : ◌≡◌ {A = ℕ} 0 1 = cc in omega arith)
    go false false k p q r e = absurd (let z : ◌≡◌ {A = ℕ} 0 1 = cc in omega arith)

pub not_before_lex : (a b : List ℕ) → before a b ≡ false → Lex b a
unfolding before Lex
not_before_lex a [] e = tt
not_before_lex [] (y ∷ b) e = absurd (let z : ◌≡◌ {A = ℕ} 0 1 = cc in omega arith)
not_before_lex (x ∷ a) (y ∷ b) e = go (ltb x y) (eqb x y) (before a b) (ltb-false x y) (eqb-true x y) (eqb-false x y) (not_before_lex a b) e
  where
    go : (i j k : Bool) → (i ≡ false → y ≤ x) → (j ≡ true → x ≡ y) → (j ≡ false → x ≡ y → ⊥) → (k ≡ false → Lex b a) → i || (j && k) ≡ false → (y < x) ⊎ ((y ≡ x) × Lex b a)
    go true j k p q q' r e = absurd (let z : ◌≡◌ {A = ℕ} 0 1 = cc in omega arith)
    go false true true p q q' r e = absurd (let z : ◌≡◌ {A = ℕ} 0 1 = cc in omega arith)
    go false true false p q q' r e = inr (sym (q refl), r refl)
    go false false k p q q' r e = let i = p refl in inl (other i (q' refl))
      where
        other : y ≤ x → (x ≡ y → ⊥) → y < x
        other i j = pick (dec_lt y x)
          where
            pick : Dec (y < x) → y < x
            pick (yes k) = k
            pick (no k) = absurd (j (omega arith))

-- ## Scans

-- what is tried comes no earlier than what was found
pub better_same : {P : Step → Type 0} {b : Step} → ((s : Step) → P s → Lex b.key s.key) → Better P b b
better_same {b = b} h = record { one_of = inl refl; keeps = lex_refl b.key; beats = h }

pub better_none : {P : Step → Type 0} {b : Step} → ((s : Step) → P s → ⊥) → Better P b b
better_none h = better_same (λ s q. absurd (h s q))

-- the one that is tried comes first
pub better_new : {P : Step → Type 0} {b r : Step} → P r → Lex r.key b.key → ((s : Step) → P s → s ≡ r) → Better P b r
better_new {r = r} p k only = record { one_of = inr p; keeps = k; beats = λ s q. let e : s.key ≡ r.key = ap (λ t. t.key) (only s q) in rw e (lex_refl r.key) }

-- one scan after another
pub better_then : {P Q R : Step → Type 0} {a b c : Step} → ((s : Step) → R s → P s ⊎ Q s) → ((s : Step) → P s → R s) → ((s : Step) → Q s → R s) → Better P a b → Better Q b c → Better R a c
better_then {P} {Q} {R} {a} {b} {c} split left right x y =
    record { one_of = go x.one_of y.one_of; keeps = lex_trans c.key b.key a.key y.keeps x.keeps; beats = λ s r. beat s (split s r) }
  where
    go : (b ≡ a) ⊎ P b → (c ≡ b) ⊎ Q c → (c ≡ a) ⊎ R c
    go (inl e) (inl f) = inl (f ∙ e)
    go (inr p) (inl f) = inr (rw f (left b p))
    go e (inr q) = inr (right c q)

    beat : (s : Step) → P s ⊎ Q s → Lex c.key s.key
    beat s (inl p) = lex_trans c.key b.key s.key y.keeps (x.beats s p)
    beat s (inr q) = y.beats s q

-- ## Loops over the records of a node

module _ (P : ℕ → Step → Type 0) where
  -- from the first m to the first r, where those between bring what Q has
  any_to : {Q : Step → Type 0} {a b c : Step} {m r : ℕ} → m ≤ r → ((k : ℕ) (s : Step) → m ≤ k → k < r → P k s → Q s) → ((s : Step) → Q s → Any P r s) → Better (Any P m) a b → Better Q b c
      → Better (Any P r) a c
  any_to {Q} {m = m} {r = r} h between back x y = better_then split (λ s q. record { at = q.at; below = omega (arith, q.below); is = q.is }) back x y
    where
      split : (s : Step) → Any P r s → Any P m s ⊎ Q s
      split s q = go (dec_lt q.at m)
        where
          go : Dec (q.at < m) → Any P m s ⊎ Q s
          go (yes l) = inl (record { at = q.at; below = l; is = q.is })
          go (no l) = inr (between q.at s (omega arith) q.below q.is)

  any_past : {a b : Step} {m r : ℕ} → Better (Any P m) a b → m ≤ r → ((k : ℕ) (s : Step) → m ≤ k → k < r → P k s → ⊥) → Better (Any P r) a b
  any_past x h none = any_to h none (λ s q. absurd q) x (better_none (λ s q. q))

  any_more : {a b c : Step} (m : ℕ) → Better (Any P m) a b → Better (P m) b c → Better (Any P (m + 1)) a c
  any_more m x y = any_to (omega arith) (λ k s l h q. let e : k ≡ m = omega arith in rw e at q) (λ s q. record { at = m; below = omega arith; is = q }) x y

  -- those before and behind the node's bring nothing
  module _ {test : ℕ → Bool} {n lo hi : ℕ} (none : (k : ℕ) (s : Step) → test k ≡ false → P k s → ⊥) (own : Stretch test n lo hi) where
    scan_start : {a : Step} → Better (Any P lo) a a
    scan_start = any_past {m = 0} (better_none (λ s q. omega (arith, q.below))) (omega arith) (λ k s l h. none k s (own.before k h))

    scan_end : {a b : Step} (i : ℕ) → hi ≤ i → i ≤ n → Better (Any P i) a b → Better (Any P n) a b
    scan_end i h m x = any_past x m (λ k s l g. none k s (own.behind k (omega arith) g))

-- of n records those of which the test holds are those of a; a walk over a is at b, and s is the better of s₀ and what the records before it bring
pub record Walk (test : ℕ → Bool) (P : ℕ → Step → Type 0) (n : ℕ) (a b : Range ℕ) (s₀ s : Step) : Type 0 where
  pub own : Stretch test n a.start a.end
  pub end : b.end ≡ a.end
  pub begun : a.start ≤ b.start
  pub until : b.start ≤ b.end
  pub done : Better (Any P b.start) s₀ s

-- the walk at b yields i, and is at d then
abbrev pub Yields : Range ℕ → ℕ → Range ℕ → Type 0
Yields b i d = (d.end ≡ b.end) × ((0 < b.end - b.start) × (i ≡ b.start) × (d.start ≡ b.start + 1))

module _ {test : ℕ → Bool} {P : ℕ → Step → Type 0} {n : ℕ} {a : Range ℕ} (none : (k : ℕ) (s : Step) → test k ≡ false → P k s → ⊥) where
  pub walk_on : {s : Step} → Stretch test n a.start a.end → Walk test P n a a s s
  walk_on own = record { own = own; end = refl; begun = omega arith; until = own.order; done = scan_start P none own }

  pub walk_end : {b : Range ℕ} {s₀ s : Step} → Walk test P n a b s₀ s → b.end - b.start ≡ 0 → Better (Any P n) s₀ s
  walk_end {b} w e = scan_end P none w.own b.start (omega (arith, w.end)) (omega (arith, w.end, w.until, w.own.within)) w.done

module _ {test : ℕ → Bool} {P : ℕ → Step → Type 0} {n : ℕ} {a b : Range ℕ} {s₀ s : Step} (w : Walk test P n a b s₀ s) {i : ℕ} {d : Range ℕ} (y : Yields b i d) where
  pub own_here : (i < n) × (test i ≡ true)
  own_here = (omega (arith, w.own.within, w.end, y.1), w.own.inside i (omega (arith, w.begun, y.1)) (omega (arith, w.end, y.1)))

  pub further : {t : Step} → Better (P i) s t → Walk test P n a d s₀ t
  further x =
      record {
        own = w.own;
        end = omega (arith, w.end, y.0);
        begun = omega (arith, w.begun, y.1);
        until = omega (arith, y.0, y.1);
        done = rw y.1.2 (any_more P b.start w.done (rw y.1.1 at x));
      }
