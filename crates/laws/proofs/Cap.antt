-- The order of values and their sum: what a table's relaxation rests on.
-- Assumes nothing.
use Prim.Native.Nat.{ℕ, suc, ◌+◌, ◌<◌, ◌≤◌, min}
use mathlib.Core.Path.{◌≡◌, refl}
use mathlib.Core.Bool.{Bool, true, false, cond, not}
use mathlib.Core.Logic.{◌⊎◌, inl, inr}
use native.Mathlib.Omega.{arith}
use native.Mathlib.Nat.{le_refl}
use lib.Dec.{leb, leb→le, nleb→lt, T}
use Rattle.laws.specs.Value.{Value, within, over, never, cap, Le, plus}

-- a test of order, with what it says
pub data Tested (m n : ℕ) : Bool → Type 0 where
  holds : m ≤ n → Tested m n true
  fails : n < m → Tested m n false

pub tested : (m n : ℕ) → Tested m n (leb m n)
tested m n = go (leb m n) (leb→le m n) (nleb→lt m n)
  where
    go : (b : Bool) → (T b → m ≤ n) → (T (not b) → n < m) → Tested m n b
    go true f g = holds (f tt)
    go false f g = fails (g tt)

pub le_refl_v : (a : Value) → Le a a
unfolding Le
le_refl_v (within w s) = inr (refl, le_refl s)
le_refl_v over = tt
le_refl_v never = tt

pub le_never : (a : Value) → Le a never
unfolding Le
le_never (within w s) = tt
le_never over = tt
le_never never = tt

-- the ways in which one value is at most another
data View : Value → Value → Type 0 where
  top : {a : Value} → View a never
  bottom : {w s : ℕ} → View (within w s) over
  both : View over over
  light : {w s v r : ℕ} → w < v → View (within w s) (within v r)
  equal : {w s v r : ℕ} → w ≡ v → s ≤ r → View (within w s) (within v r)

view : (a b : Value) → Le a b → View a b
unfolding Le
view a never p = top
view (within w s) over p = bottom
view over over p = both
view never over p = absurd p
view (within w s) (within v r) (inl h) = light h
view (within w s) (within v r) (inr h) = equal h.0 h.1
view over (within v r) p = absurd p
view never (within v r) p = absurd p

pub le_trans_v : (a b c : Value) → Le a b → Le b c → Le a c
unfolding Le
le_trans_v a b c p q = go (view a b p) (view b c q)
  where
    go : {a b c : Value} → View a b → View b c → Le a c
    go {a} x top = le_never a
    go (light h) bottom = tt
    go (equal h k) bottom = tt
    go bottom both = tt
    go both both = tt
    go (light h) (light g) = inl (omega arith)
    go (light h) (equal g l) = inl (omega arith)
    go (equal h k) (light g) = inl (omega arith)
    go (equal h k) (equal g l) = inr (omega arith, omega arith)

pub le_antisym_v : (a b : Value) → Le a b → Le b a → a ≡ b
le_antisym_v a b p q = go (view a b p) (view b a q)
  where
    go : {a b : Value} → View a b → View b a → a ≡ b
    go top top = refl
    go both both = refl
    go (bottom {w = w} {s = s}) x4 = elim x4 [ ]
    go (light h) (light g) = absurd (omega arith)
    go (light h) (equal g l) = absurd (omega arith)
    go (equal h k) (light g) = absurd (omega arith)
    go (equal {w} {s} {v} {r} h k) (equal g l) = let e : s ≡ r = omega arith in cc

-- `cap` by its two cases
pub cap_light : (w s : ℕ) → w ≤ 4000000000 → cap w s ≡ within w (min s 4097)
unfolding cap
cap_light w s h = go (leb w 4000000000) (tested w 4000000000)
  where
    go : (b : Bool) → Tested w 4000000000 b → cond {A = Value} b (within w (min s 4097)) over ≡ within w (min s 4097)
    go true t = refl
    go false (fails g) = absurd (omega arith)

pub cap_heavy : (w s : ℕ) → 4000000000 < w → cap w s ≡ over
unfolding cap
cap_heavy w s h = go (leb w 4000000000) (tested w 4000000000)
  where
    go : (b : Bool) → Tested w 4000000000 b → cond {A = Value} b (within w (min s 4097)) over ≡ over
    go true (holds g) = absurd (omega arith)
    go false t = refl

pub cap_le_over : (w s : ℕ) → Le (cap w s) over
unfolding Le cap
cap_le_over w s = go (leb w 4000000000)
  where
    go : (b : Bool) → Le (cond {A = Value} b (within w (min s 4097)) over) over
    go true = tt
    go false = tt

pub cap_mono : (w s v r : ℕ) → (w < v) ⊎ ((w ≡ v) × (s ≤ r)) → Le (cap w s) (cap v r)
unfolding Le cap
cap_mono w s v r o = go (leb w 4000000000) (leb v 4000000000) (tested w 4000000000) (tested v 4000000000) o
  where
    go : (b c : Bool) → Tested w 4000000000 b → Tested v 4000000000 c → (w < v) ⊎ ((w ≡ v) × (s ≤ r))
        → Le (cond {A = Value} b (within w (min s 4097)) over) (cond {A = Value} c (within v (min r 4097)) over)
    go true true x y (inl h) = inl h
    go true true x y (inr h) = inr (h.0, omega arith)
    go true false x y q = tt
    go false true (fails f) (holds g) (inl h) = absurd (omega arith)
    go false true (fails f) (holds g) (inr h) = absurd (omega arith)
    go false false x y q = tt

-- the sum of what two routes count as is what their join counts as
pub cap_plus : (w s v r : ℕ) → plus (cap w s) (cap v r) ≡ cap (w + v) (s + r)
unfolding plus
cap_plus w s v r = go (tested w 4000000000) (tested v 4000000000) (tested (w + v) 4000000000)
  where
    go : {a b c : Bool} → Tested w 4000000000 a → Tested v 4000000000 b → Tested (w + v) 4000000000 c → plus (cap w s) (cap v r) ≡ cap (w + v) (s + r)
    go (holds f) (holds g) (holds h) =
        let e : min (min s 4097 + min r 4097) 4097 ≡ min (s + r) 4097 = omega arith in
        rw (cap_light w s, cap_light v r, cap_light (w + v) (s + r), cap_light (w + v) (min s 4097 + min r 4097), e)
    go (holds f) (holds g) (fails h) = rw (cap_light w s, cap_light v r, cap_heavy (w + v) (s + r), cap_heavy (w + v) (min s 4097 + min r 4097))
    go (holds f) (fails g) (holds h) = absurd (omega arith)
    go (holds f) (fails g) (fails h) = rw (cap_light w s, cap_heavy v r, cap_heavy (w + v) (s + r))
    go (fails f) b (holds h) = absurd (omega arith)
    go (fails f) (holds g) (fails h) = rw (cap_heavy w s, cap_light v r, cap_heavy (w + v) (s + r))
    go (fails f) (fails g) (fails h) = rw (cap_heavy w s, cap_heavy v r, cap_heavy (w + v) (s + r))

pub plus_comm : (a b : Value) → plus a b ≡ plus b a
unfolding plus
plus_comm (within w s) (within v r) = let e : w + v ≡ v + w = omega arith in let f : s + r ≡ r + s = omega arith in rw (e, f)
plus_comm (within w s) over = refl
plus_comm (within w s) never = refl
plus_comm over (within w s) = refl
plus_comm over over = refl
plus_comm over never = refl
plus_comm never (within w s) = refl
plus_comm never over = refl
plus_comm never never = refl

pub plus_never : (a : Value) → plus a never ≡ never
unfolding plus
plus_never (within w s) = refl
plus_never over = refl
plus_never never = refl

pub plus_mono : (a b c : Value) → Le b c → Le (plus a b) (plus a c)
unfolding plus cap Le
plus_mono a b c p = go a (view b c p)
  where
    go : {b c : Value} (a : Value) → View b c → Le (plus a b) (plus a c)
    go {b} a top = rw (plus_never a) (le_never (plus a b))
    go (within w s) (bottom {w = v} {s = r}) = cap_le_over (w + v) (s + r)
    go over bottom = tt
    go never bottom = tt
    go (within w s) both = tt
    go over both = tt
    go never both = tt
    go (within w s) (light {w = v} {s = r} {v = v'} {r = r'} h) = cap_mono (w + v) (s + r) (w + v') (s + r') (inl (omega arith))
    go over (light h) = tt
    go never (light h) = tt
    go (within w s) (equal {w = v} {s = r} {v = v'} {r = r'} h k) = cap_mono (w + v) (s + r) (w + v') (s + r') (inr (omega arith, omega arith))
    go over (equal h k) = tt
    go never (equal h k) = tt

pub plus_mono_left : (a b c : Value) → Le b c → Le (plus b a) (plus c a)
plus_mono_left a b c p = rw (plus_comm b a, plus_comm c a) (plus_mono a b c p)

-- one route after another counts as at most the sum of what each counts at most
pub join : (a b : Value) (w s v r : ℕ) → Le a (cap w s) → Le b (cap v r) → Le (plus a b) (cap (w + v) (s + r))
join a b w s v r p q =
    le_trans_v (plus a b) (plus a (cap v r)) (cap (w + v) (s + r)) (plus_mono a b (cap v r) q)
    (rw (← cap_plus w s v r) (plus_mono_left (cap v r) a (cap w s) p))

pub step_join : (b : Value) (w v r : ℕ) → Le b (cap v r) → Le (plus (cap w 1) b) (cap (w + v) (suc r))
step_join b w v r q = let e : suc r ≡ 1 + r = omega arith in rw e (join (cap w 1) b w 1 v r (le_refl_v (cap w 1)) q)
