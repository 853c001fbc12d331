-- Values and the two entries that spell them: their order, their sum.
-- Assumes nothing.
use Prim.Native.Nat.{ℕ, ◌+◌, ◌<◌, ◌≤◌, min}
use mathlib.Core.Path.{◌≡◌, refl, sym, ◌∙◌}
use mathlib.Core.Bool.{Bool, true, false, ◌&&◌, ◌||◌}
use mathlib.Core.Logic.{◌⊎◌, inl, inr}
use native.Mathlib.Omega.{arith}
use native.Mathlib.Decide.{dec_le}
use borrow.Author.Tests.{le-leb, ltb-true, ltb-false, eqb-true, eqb-false}
use lib.Dec.{ltb, eqb}
use Rattle.laws.specs.Value.{Value, within, over, never, cap, Le, plus, heft, count}
use Rattle.laws.proofs.Cap.{cap_light, cap_heavy, plus_never}
use Rattle.tables_costs.specs.Cells.{value, less}

pub value_light : (w s : ℕ) → w ≤ 4000000000 → value w s ≡ within w s
unfolding value
value_light w s h = rw (le-leb w 4000000000 h)

-- what two entries can spell
unfoldable pub Good : Value → Type 0
Good (within w s) = (w ≤ 4000000000) × (s ≤ 4097)
Good over = Unit {0}
Good never = Unit {0}

pub value_good : (e : Value) → Good e → value (heft e) (count e) ≡ e
unfolding Good heft count value
value_good (within w s) g = value_light w s g.0
value_good over g = refl
value_good never g = refl

pub cap_good : (w s : ℕ) → Good (cap w s)
unfolding Good
cap_good w s = go (dec_le w 4000000000)
  where
    go : Dec (w ≤ 4000000000) → Good (cap w s)
    go (yes h) = rw (cap_light w s h) (h, omega arith)
    go (no h) = rw (cap_heavy w s (omega arith)) tt

pub count_small : (e : Value) → Good e → count e ≤ 4097
unfolding Good count
count_small (within w s) g = g.1
count_small over g = omega arith
count_small never g = omega arith

-- what the test of two spellings says
pub less_true : (w s v r : ℕ) → less w s v r ≡ true → (w < v) ⊎ ((w ≡ v) × (s < r))
unfolding less
less_true w s v r = go (ltb w v) (eqb w v) (ltb s r) refl refl refl
  where
    go : (a b c : Bool) → ltb w v ≡ a → eqb w v ≡ b → ltb s r ≡ c → (a || (b && c)) ≡ true → (w < v) ⊎ ((w ≡ v) × (s < r))
    go true b c e f g h = inl (ltb-true w v e)
    go false true true e f g h = inr (eqb-true w v f, ltb-true s r g)
    go false true false e f g h = cc
    go false false c e f g h = cc

pub less_false : (w s v r : ℕ) → less w s v r ≡ false → (v < w) ⊎ ((v ≡ w) × (r ≤ s))
unfolding less
less_false w s v r = go (ltb w v) (eqb w v) (ltb s r) refl refl refl
  where
    go : (a b c : Bool) → ltb w v ≡ a → eqb w v ≡ b → ltb s r ≡ c → (a || (b && c)) ≡ false → (v < w) ⊎ ((v ≡ w) × (r ≤ s))
    go true b c e f g h = cc
    go false true true e f g h = cc
    go false true false e f g h = inr (sym (eqb-true w v f), ltb-false s r g)
    go false false c e f g h = let k = ltb-false w v e in let l = eqb-false w v f in inl (omega arith)

-- the order of the spellings is that of the values
pub spelt_le : (e f : Value) → Good e → Good f → (heft e < heft f) ⊎ ((heft e ≡ heft f) × (count e ≤ count f)) → Le e f
unfolding Good heft count Le
spelt_le (within w s) (within v r) a b h = h
spelt_le (within w s) over a b h = tt
spelt_le (within w s) never a b h = tt
spelt_le over (within v r) a b (inl h) = absurd (omega arith)
spelt_le over (within v r) a b (inr h) = absurd (omega arith)
spelt_le over over a b h = tt
spelt_le over never a b h = tt
spelt_le never (within v r) a b (inl h) = absurd (omega arith)
spelt_le never (within v r) a b (inr h) = absurd (omega arith)
spelt_le never over a b (inl h) = absurd (omega arith)
spelt_le never over a b (inr h) = absurd (omega arith)
spelt_le never never a b h = tt

pub less_le : (e f : Value) → Good e → Good f → less (heft e) (count e) (heft f) (count f) ≡ true → Le e f
less_le e f a b h = spelt_le e f a b (go (less_true _ _ _ _ h))
  where
    go : (heft e < heft f) ⊎ ((heft e ≡ heft f) × (count e < count f)) → (heft e < heft f) ⊎ ((heft e ≡ heft f) × (count e ≤ count f))
    go (inl k) = inl k
    go (inr k) = inr (k.0, omega arith)

pub not_less_le : (e f : Value) → Good e → Good f → less (heft e) (count e) (heft f) (count f) ≡ false → Le f e
not_less_le e f a b h = spelt_le f e b a (less_false _ _ _ _ h)

pub le_spelt : (e f : Value) → Good e → Good f → Le e f → (heft e < heft f) ⊎ ((heft e ≡ heft f) × (count e ≤ count f))
unfolding Good heft count Le
le_spelt (within w s) (within v r) a b h = h
le_spelt (within w s) over a b h = inl (omega arith)
le_spelt (within w s) never a b h = inl (omega arith)
le_spelt over (within v r) a b h = absurd h
le_spelt over over a b h = inr (refl, omega arith)
le_spelt over never a b h = inl (omega arith)
le_spelt never (within v r) a b h = absurd h
le_spelt never over a b h = absurd h
le_spelt never never a b h = inr (refl, omega arith)

pub less_strict : (e f : Value) → Good e → Good f → less (heft e) (count e) (heft f) (count f) ≡ true → Le f e → ⊥
less_strict e f a b h l = go (less_true _ _ _ _ h) (le_spelt f e b a l)
  where
    go : (heft e < heft f) ⊎ ((heft e ≡ heft f) × (count e < count f)) → (heft f < heft e) ⊎ ((heft f ≡ heft e) × (count f ≤ count e)) → ⊥
    go (inl x) (inl y) = omega arith
    go (inl x) (inr y) = omega arith
    go (inr x) (inl y) = omega arith
    go (inr x) (inr y) = omega arith

-- only the mark spells `never`
pub never_heft : (w s : ℕ) → w ≡ 4294967295 → value w s ≡ never
unfolding value
never_heft w s h = rw h

pub le_never : (e : Value) → Le never e → e ≡ never
unfolding Le
le_never (within w s) h = absurd h
le_never over h = absurd h
le_never never h = refl

-- the sum of three
plus_cap : (w s v r : ℕ) → plus (cap w s) (within v r) ≡ cap (w + v) (s + r)
unfolding plus
plus_cap w s v r = go (dec_le w 4000000000) (dec_le (w + v) 4000000000)
  where
    go : Dec (w ≤ 4000000000) → Dec (w + v ≤ 4000000000) → plus (cap w s) (within v r) ≡ cap (w + v) (s + r)
    go (yes a) (yes b) =
        let e : min (min s 4097 + r) 4097 ≡ min (s + r) 4097 = omega arith in
        rw (cap_light w s a, cap_light (w + v) (min s 4097 + r) b, cap_light (w + v) (s + r) b, e)
    go (yes a) (no b) = rw (cap_light w s a, cap_heavy (w + v) (min s 4097 + r) (omega arith), cap_heavy (w + v) (s + r) (omega arith))
    go (no a) b = rw (cap_heavy w s (omega arith), cap_heavy (w + v) (s + r) (omega arith))

plus_cap_right : (w s v r : ℕ) → plus (within v r) (cap w s) ≡ cap (v + w) (r + s)
unfolding plus
plus_cap_right w s v r = go (dec_le w 4000000000) (dec_le (v + w) 4000000000)
  where
    go : Dec (w ≤ 4000000000) → Dec (v + w ≤ 4000000000) → plus (within v r) (cap w s) ≡ cap (v + w) (r + s)
    go (yes a) (yes b) =
        let e : min (r + min s 4097) 4097 ≡ min (r + s) 4097 = omega arith in
        rw (cap_light w s a, cap_light (v + w) (r + min s 4097) b, cap_light (v + w) (r + s) b, e)
    go (yes a) (no b) = rw (cap_light w s a, cap_heavy (v + w) (r + min s 4097) (omega arith), cap_heavy (v + w) (r + s) (omega arith))
    go (no a) b = rw (cap_heavy w s (omega arith), cap_heavy (v + w) (r + s) (omega arith))

cap_over : (w s : ℕ) → plus (cap w s) over ≡ over
unfolding plus
cap_over w s = go (dec_le w 4000000000)
  where
    go : Dec (w ≤ 4000000000) → plus (cap w s) over ≡ over
    go (yes a) = rw (cap_light w s a)
    go (no a) = rw (cap_heavy w s (omega arith))

over_cap : (w s : ℕ) → plus over (cap w s) ≡ over
unfolding plus
over_cap w s = go (dec_le w 4000000000)
  where
    go : Dec (w ≤ 4000000000) → plus over (cap w s) ≡ over
    go (yes a) = rw (cap_light w s a)
    go (no a) = rw (cap_heavy w s (omega arith))

pub plus_assoc : (a b c : Value) → plus (plus a b) c ≡ plus a (plus b c)
unfolding plus
plus_assoc (within w s) (within v r) (within u t) =
    let e : w + v + u ≡ w + (v + u) = omega arith in let f : s + r + t ≡ s + (r + t) = omega arith in
    plus_cap (w + v) (s + r) u t ∙ (rw (e, f)) ∙ sym (plus_cap_right (v + u) (r + t) w s)
plus_assoc (within w s) (within v r) over = cap_over (w + v) (s + r)
plus_assoc (within w s) (within v r) never = plus_never (cap (w + v) (s + r))
plus_assoc (within w s) over (within u t) = refl
plus_assoc (within w s) over over = refl
plus_assoc (within w s) over never = refl
plus_assoc (within w s) never c = refl
plus_assoc over (within v r) (within u t) = sym (over_cap (v + u) (r + t))
plus_assoc over (within v r) over = refl
plus_assoc over (within v r) never = refl
plus_assoc over over (within u t) = refl
plus_assoc over over over = refl
plus_assoc over over never = refl
plus_assoc over never c = refl
plus_assoc never b c = refl
