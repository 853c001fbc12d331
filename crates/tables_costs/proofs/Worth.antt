-- What costs count as: their order and their sums are those of values, while they are sums of few parts.
-- Main results: `worth_le`, `worth_plus`, `worth-entry`. Assumes nothing.
use Prim.Native.Nat.{ℕ, ◌+◌, ◌*◌, ◌/◌, ◌%◌, ◌<◌, ◌≤◌, min}
use mathlib.Core.Path.{◌≡◌, refl, sym, ◌∙◌}
use mathlib.Core.Logic.{◌⊎◌, inl, inr}
use native.Mathlib.Omega.{arith}
use native.Mathlib.Decide.{dec_le, dec_lt}
use borrow.Author.Tests.{le-leb, lt-leb, eq-eqb, ne_eqb}
use Rattle.laws.specs.Value.{Value, within, over, never, heft, count, cap, Le, plus}
use Rattle.laws.proofs.Cap.{le_never, cap_light, cap_heavy, cap_mono, cap_plus, plus_never}
use Rattle.tables_costs.specs.Cells.{Spells}
use Rattle.tables_costs.specs.Costs.{far, worth, cost_of}
use Rattle.tables_costs.proofs.Values.{Good, cap_good}

pub worth_far : (k : ℕ) → far ≤ k → worth k ≡ never
unfolding worth
worth_far k h = rw (le-leb far k h)

worth_near : (k : ℕ) → k < far → worth k ≡ cap (k / 65536) (k % 65536)
unfolding worth
worth_near k h = rw (lt-leb far k h)

pub worth_good : (k : ℕ) → Good (worth k)
unfolding Good
worth_good k = go (dec_le far k)
  where
    go : Dec (far ≤ k) → Good (worth k)
    go (yes f) = rw (worth_far k f) tt
    go (no f) = rw (worth_near k (omega arith)) (cap_good (k / 65536) (k % 65536))

-- ## The order

pub worth_le : (k l : ℕ) → k ≤ l → Le (worth k) (worth l)
worth_le k l h = go (dec_le far l)
  where
    go : Dec (far ≤ l) → Le (worth k) (worth l)
    go (yes f) = rw (worth_far l f) (le_never (worth k))
    go (no f) = rw (worth_near k (omega arith), worth_near l (omega arith)) (cap_mono _ _ _ _ (more (dec_lt (k / 65536) (l / 65536))))
      where
        more : Dec (k / 65536 < l / 65536) → (k / 65536 < l / 65536) ⊎ ((k / 65536 ≡ l / 65536) × (k % 65536 ≤ l % 65536))
        more (yes g) = inl g
        more (no g) = inr (omega arith, omega arith)

-- ## The sum

-- k is the cost of at most m steps or pairs, unless there is no route
pub record Sized (m k : ℕ) : Type 0 where
  pub weighs : k < far → k / 65536 ≤ m * 4294967296
  pub counts : k < far → k % 65536 ≤ m * 4098

pub sized_far : (m k : ℕ) → far ≤ k → Sized m k
sized_far m k h = record { weighs = λ l. absurd (omega arith); counts = λ l. absurd (omega arith) }

pub sized_more : (m r k : ℕ) → m ≤ r → Sized m k → Sized r k
sized_more m r k h s = record { weighs = λ l. omega (arith, s.weighs l); counts = λ l. omega (arith, s.counts l) }

no_carry : (k l : ℕ) → k % 65536 + l % 65536 < 65536 → ((k + l) / 65536 ≡ k / 65536 + l / 65536) × ((k + l) % 65536 ≡ k % 65536 + l % 65536)
no_carry k l h = (omega arith, omega arith)

light_near : (k : ℕ) → k / 65536 ≤ 34359738368 → k < far
light_near k h = omega arith

-- the sum of two costs that are short of `far`
module _ (m r k l : ℕ) (few : m + r ≤ 8) (s : Sized m k) (t : Sized r l) (hk : k < far) (hl : l < far) where
  sum_parts : ((k + l) / 65536 ≡ k / 65536 + l / 65536) × ((k + l) % 65536 ≡ k % 65536 + l % 65536)
  sum_parts = no_carry k l (carry (k % 65536) (l % 65536) (s.counts hk) (t.counts hl))
    where
      carry : (a b : ℕ) → a ≤ m * 4098 → b ≤ r * 4098 → a + b < 65536
      carry a b p q = omega arith

  sum_near : worth (k + l) ≡ plus (worth k) (worth l)
  sum_near =
      let p = sum_parts in
      worth_near (k + l) (light_near (k + l) (light (k / 65536) (l / 65536) p.0 (s.weighs hk) (t.weighs hl)))
      ∙ (rw (p.0, p.1, worth_near k hk, worth_near l hl) (sym (cap_plus _ _ _ _)))
    where
      light : (a b : ℕ) → (k + l) / 65536 ≡ a + b → a ≤ m * 4294967296 → b ≤ r * 4294967296 → (k + l) / 65536 ≤ 34359738368
      light a b p q o = rw p (omega arith)

pub sized_plus : (m r k l : ℕ) → m + r ≤ 8 → Sized m k → Sized r l → Sized (m + r) (k + l)
sized_plus m r k l few s t =
    record {
      weighs = λ h. let p = sum_parts m r k l few s t (omega arith) (omega arith) in omega (arith, p.0, s.weighs (omega arith), t.weighs (omega arith));
      counts = λ h. let p = sum_parts m r k l few s t (omega arith) (omega arith) in omega (arith, p.1, s.counts (omega arith), t.counts (omega arith));
    }

pub worth_plus : (m r k l : ℕ) → m + r ≤ 8 → Sized m k → Sized r l → worth (k + l) ≡ plus (worth k) (worth l)
unfolding plus
worth_plus m r k l few s t = go (dec_le far k) (dec_le far l)
  where
    go : Dec (far ≤ k) → Dec (far ≤ l) → worth (k + l) ≡ plus (worth k) (worth l)
    go (yes f) g = rw (worth_far k f) (worth_far (k + l) (omega arith))
    go (no f) (yes g) = rw (worth_far l g, plus_never (worth k)) (worth_far (k + l) (omega arith))
    go (no f) (no g) = sum_near m r k l few s t (omega arith) (omega arith)

-- ## Steps and entries

module _ (w s : ℕ) (hw : w ≤ 4294967296) (hs : s ≤ 4098) where
  near : w * 65536 + s < far
  near = omega arith

  pub sized_one : Sized 1 (w * 65536 + s)
  sized_one = record { weighs = λ l. omega arith; counts = λ l. omega arith }

  pub worth_one : worth (w * 65536 + s) ≡ cap w s
  worth_one =
      let a : (w * 65536 + s) / 65536 ≡ w = omega arith in
      let b : (w * 65536 + s) % 65536 ≡ s = omega arith in
      rw (worth_near (w * 65536 + s) near, a, b)

-- the cost of two entries that stand for a value
pub cost_marked : (w s : ℕ) → w ≡ 4294967295 → cost_of w s ≡ far
unfolding cost_of
cost_marked w s h = rw (eq-eqb w 4294967295 h)

pub cost_plain : (w s : ℕ) → (w ≡ 4294967295 → ⊥) → cost_of w s ≡ w * 65536 + s
unfolding cost_of
cost_plain w s h = rw (ne_eqb w 4294967295 h)

pub record Costs (k : ℕ) (e : Value) : Type 0 where
  pub sized : Sized 1 k
  pub is : worth k ≡ e

costs_within : (w s k : ℕ) → w ≤ 4000000000 → s ≤ 4097 → k ≡ w * 65536 + s → Costs k (within w s)
costs_within w s k hw hs e =
    let m : min s 4097 ≡ s = omega arith in
    rw e (record { sized = sized_one w s (omega arith) (omega arith); is = worth_one w s (omega arith) (omega arith) ∙ (rw (cap_light w s hw, m)) })

costs_over : (k : ℕ) → k ≡ 4294967294 * 65536 + 0 → Costs k over
costs_over k e = rw e (record { sized = sized_one 4294967294 0 (omega arith) (omega arith); is = worth_one 4294967294 0 (omega arith) (omega arith) ∙ cap_heavy 4294967294 0 (omega arith) })

costs_never : (k : ℕ) → k ≡ far → Costs k never
costs_never k e = rw e (record { sized = sized_far 1 far (omega arith); is = worth_far far (omega arith) })

pub costs_entry : (e : Value) (w s : ℕ) → Good e → Spells w s e → Costs (cost_of w s) e
unfolding Good heft count
costs_entry (within v r) w s g t =
    let a : w ≡ v = t.of_weight in
    let b : s ≡ r = t.of_count in
    costs_within v r (cost_of w s) g.0 g.1 (cost_plain w s (λ z. omega (arith, a, z, g.0)) ∙ (rw (a, b)))
costs_entry over w s g t =
    let a : w ≡ 4294967294 = t.of_weight in
    let b : s ≡ 0 = t.of_count in
    costs_over (cost_of w s) (cost_plain w s (λ z. omega (arith, a, z)) ∙ (rw (a, b)))
costs_entry never w s g t = costs_never (cost_of w s) (cost_marked w s t.of_weight)

-- the two entries that stand for what a cost counts as
pub spells_never : (k : ℕ) → far ≤ k → Spells 4294967295 0 (worth k)
unfolding heft count
spells_never k h = rw (worth_far k h) (record { of_weight = refl; of_count = refl })

pub spells_over : (k : ℕ) → k < far → 4000000000 < k / 65536 → Spells 4294967294 0 (worth k)
unfolding heft count
spells_over k h g = rw (worth_near k h, cap_heavy (k / 65536) (k % 65536) g) (record { of_weight = refl; of_count = refl })

pub spells_within : (k s : ℕ) → k < far → k / 65536 ≤ 4000000000 → s ≡ min (k % 65536) 4097 → Spells (k / 65536) s (worth k)
unfolding heft count
spells_within k s h g e = rw (worth_near k h, cap_light (k / 65536) (k % 65536) g) (record { of_weight = refl; of_count = e })
