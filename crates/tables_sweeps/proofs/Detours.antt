-- A table whose entries are attained, and in which each step and each tunnel is relaxed or passed over for a shorter way, is exact.
-- A shorter way and what follows make a lighter route than the one that it replaces; so the proof goes by weight, then by steps.
-- Main result: `exact`. Assumes nothing.
use Prim.Native.Nat.{ℕ, zero, suc, ◌+◌, ◌<◌, ◌≤◌}
use mathlib.Core.Path.{◌≡◌, refl}
use mathlib.Core.List.{List, ◌∷◌}
use mathlib.Core.Option.{Option, some}
use mathlib.Core.Logic.{◌⊎◌, inl, inr}
use native.Mathlib.Omega.{arith}
use native.Mathlib.Nat.{not-suc-le-zero}
use native.Mathlib.Decide.{dec_lt}
use lib.ListN.{length, length-append}
use Rattle.paper.specs.Net.{conv, wrap, unwrap, Key, key}
use Rattle.paper.specs.Route.{Feasible}
use Rattle.laws.specs.Level.{Level, stay, carry, tunnel, keys, weight}
use Rattle.laws.specs.Value.{Value, never, cap, Le, plus}
use Rattle.laws.specs.Unfold.{Exact}
use Rattle.laws.proofs.Cap.{le_never, le_refl_v, le_trans_v, cap_mono, join}
use Rattle.laws.proofs.Fixpoint.{Valid, Attained, ends}
use Rattle.laws.proofs.Parse.{parse, sound_feasible}
use Rattle.tables_sweeps.proofs.Reach.{after, after_weight, after_steps}

-- less weight, or the same in fewer steps
abbrev Less : (w s v r : ℕ) → Type 0
Less w s v r = (w < v) ⊎ ((w ≡ v) × (s < r))

compare : (w s v r : ℕ) → Less w s v r ⊎ ((v < w) ⊎ ((v ≡ w) × (r ≤ s)))
compare w s v r = go (dec_lt w v) (dec_lt v w) (dec_lt s r)
  where
    go : Dec (w < v) → Dec (v < w) → Dec (s < r) → Less w s v r ⊎ ((v < w) ⊎ ((v ≡ w) × (r ≤ s)))
    go (yes a) b c = inl (inl a)
    go (no a) (yes b) c = inr (inl b)
    go (no a) (no b) (yes c) = inl (inr (omega arith, c))
    go (no a) (no b) (no c) = inr (inr (omega arith, omega arith))

less_le : (w s v r : ℕ) → Less w s v r → (w < v) ⊎ ((w ≡ v) × (s ≤ r))
less_le w s v r (inl h) = inl h
less_le w s v r (inr h) = inr (h.0, omega arith)

less_then : (w s v r a b : ℕ) → Less w s v r → Less (w + a) (s + b) (v + a) (r + b)
less_then w s v r a b (inl h) = inl (omega arith)
less_then w s v r a b (inr h) = inr (omega arith, omega arith)

-- a part is less than the whole
part_less : {w s v r : ℕ} → w ≤ v → s < r → Less w s v r
part_less {w} {s} {v} {r} h g = go (dec_lt w v)
  where
    go : Dec (w < v) → Less w s v r
    go (yes l) = inl l
    go (no l) = inr (omega arith, g)

module _ (hop : Key → ℕ → Option (ℕ × ℕ)) (n p : ℕ) (t : ℕ → ℕ → ℕ → ℕ → Value) where
  -- a way from (v, x) to (r, z) at e
  pub data Edge (v x r z : ℕ) (e : Value) : Type 0 where
    relaxed : ((u y : ℕ) → u < n → y < p → Le (t v x u y) (plus e (t r z u y))) → Edge v x r z e
    passed_over : (Le e (t v x r z) → ⊥) → Edge v x r z e

  pub record Settled : Type 0 where
    pub here : (v x : ℕ) → v < n → x < p → Le (t v x v x) (cap 0 0)
    pub by_conv : (v x l z r w : ℕ) → v < n → x < p → hop (key l conv x z) v ≡ some (r, w) → Edge v x r z (cap w 1)
    pub by_tunnel : (v x l z r w q o m s e : ℕ) → v < n → x < p → q < n → o < p
        → hop (key l wrap x z) v ≡ some (r, w) → hop (key m unwrap x o) q ≡ some (s, e)
        → Edge v x s x (plus (cap w 1) (plus (t r z q o) (cap e 1)))

  module _ (valid : Valid hop n p) (settled : Settled) (attained : Attained hop n p t) where
    abbrev steps : {v x u y : ℕ} → Level hop v x u y → ℕ
    steps d = length (keys hop d)

    -- the table has no more than a level's count
    abbrev Fits : {v x u y : ℕ} → Level hop v x u y → Type 0
    Fits {v} {x} {u} {y} d = Le (t v x u y) (cap (weight hop d) (steps d))

    -- a way at no more than a and b, and a level after it: w and s in all
    module _ (v x r z u y a b w s : ℕ) (hv : v < n) (hx : x < p) (hr : r < n) (hz : z < p) (hu : u < n) (hy : y < p) (rest : Level hop r z u y) (known : Fits rest)
        (weighs : a + weight hop rest ≡ w) (counts : b + steps rest ≡ s) (lighter : (d : Level hop v x u y) → Less (weight hop d) (steps d) w s → Fits d) where
      over : (e : Value) → Le e (cap a b) → Edge v x r z e → Le (t v x u y) (cap w s)
      over e l (relaxed f) = le_trans_v _ (plus e (t r z u y)) _ (f u y hu hy) (rw (weighs, counts) at (join e (t r z u y) a b (weight hop rest) (steps rest) l known))
      over e l (passed_over g) = go (attained.attains v x r z hv hx hr hz)
        where
          shorter : (d : Level hop v x r z) → Less (weight hop d) (steps d) a b → Le (t v x u y) (cap w s)
          shorter d o =
              let m = rw (← after_weight hop d rest, ← after_steps hop d rest, weighs, counts) at (less_then (weight hop d) (steps d) a b (weight hop rest) (steps rest) o) in
              le_trans_v _ (cap (weight hop (after hop d rest)) (steps (after hop d rest))) _ (lighter (after hop d rest) m) (cap_mono _ _ _ _ (less_le _ _ _ _ m))

          go : (t v x r z ≡ never) ⊎ ((d : Level hop v x r z) × (t v x r z ≡ cap (weight hop d) (steps d))) → Le (t v x u y) (cap w s)
          go (inl i) = absurd (g (rw i (le_never e)))
          go (inr (d, i)) = more (compare (weight hop d) (steps d) a b)
            where
              more : Less (weight hop d) (steps d) a b ⊎ ((a < weight hop d) ⊎ ((a ≡ weight hop d) × (b ≤ steps d))) → Le (t v x u y) (cap w s)
              more (inl o) = shorter d o
              more (inr o) = absurd (g (rw i (le_trans_v e (cap a b) _ l (cap_mono a b (weight hop d) (steps d) o))))

    -- ## One level, where lighter ones fit

    abbrev Lighter : (w s : ℕ) → Type 0
    Lighter w s = (v x u y : ℕ) (d : Level hop v x u y) → v < n → x < p → Less (weight hop d) (steps d) w s → Fits d

    fits : {v x u y : ℕ} (d : Level hop v x u y) → v < n → x < p → Lighter (weight hop d) (steps d) → Fits d
    unfolding weight keys
    fits (stay {v} {x}) hv hx rec = settled.here v x hv hx
    fits {v} {x} {u} {y} (carry {t = r} {z = z} l w h d) hv hx rec =
        let i = valid.inside _ _ _ _ _ _ _ h in
        let j = ends hop n p valid d i.0 i.1 in
        over v x r z u y w 1 _ _ hv hx i.0 i.1 j.0 j.1 d (rec r z u y d i.0 i.1 (part_less (omega arith) (omega arith))) refl (omega arith) (λ e m. rec v x u y e hv hx m)
        (cap w 1) (le_refl_v (cap w 1)) (settled.by_conv v x l z r w hv hx h)
    fits {v} {x} {u} {y} (tunnel {t = r} {z = z} {r = q} {q = o} {s = s} l w m e h i k d) hv hx rec =
        let a = valid.inside _ _ _ _ _ _ _ h in
        let b = valid.inside _ _ _ _ _ _ _ k in
        let c = ends hop n p valid i a.0 a.1 in
        let j = ends hop n p valid d b.0 hx in
        let g = length-append (keys hop i) (key m unwrap x o ∷ keys hop d) in
        over v x s x u y (w + (weight hop i + e)) (1 + (steps i + 1)) _ _ hv hx b.0 hx j.0 j.1 d
        (rec s x u y d b.0 hx (part_less (omega arith) (omega arith))) (omega arith) (omega arith) (λ f o. rec v x u y f hv hx o)
        (plus (cap w 1) (plus (t r z q o) (cap e 1)))
        (join (cap w 1) _ w 1 _ _ (le_refl_v (cap w 1)) (join (t r z q o) (cap e 1) (weight hop i) (steps i) e 1 (rec r z q o i a.0 a.1 (part_less (omega arith) (omega arith))) (le_refl_v (cap e 1))))
        (settled.by_tunnel v x l z r w q o m s e hv hx c.0 c.1 h k)

    -- ## By weight, then by steps

    by_steps : (w : ℕ) → ((v x u y : ℕ) (d : Level hop v x u y) → v < n → x < p → weight hop d < w → Fits d)
        → (s v x u y : ℕ) (d : Level hop v x u y) → v < n → x < p → weight hop d ≡ w → steps d < s → Fits d
    by_steps w small zero v x u y d hv hx e l = absurd (not-suc-le-zero l)
    by_steps w small (suc s) v x u y d hv hx e l = fits d hv hx (λ v' x' u' y' d' hv' hx' m. go v' x' u' y' d' hv' hx' m (by_steps w small s v' x' u' y' d' hv' hx'))
      where
        go : (v' x' u' y' : ℕ) (d' : Level hop v' x' u' y') → v' < n → x' < p → Less (weight hop d') (steps d') (weight hop d) (steps d)
            → (weight hop d' ≡ w → steps d' < s → Fits d') → Fits d'
        go v' x' u' y' d' hv' hx' (inl m) rec = small v' x' u' y' d' hv' hx' (omega arith)
        go v' x' u' y' d' hv' hx' (inr m) rec = rec (omega arith) (omega arith)

    by_weight : (w v x u y : ℕ) (d : Level hop v x u y) → v < n → x < p → weight hop d < w → Fits d
    by_weight zero v x u y d hv hx l = absurd (not-suc-le-zero l)
    by_weight (suc w) v x u y d hv hx l = go (dec_lt (weight hop d) w) (λ m. by_weight w v x u y d hv hx m) (λ v' x' u' y' d'. by_weight w v' x' u' y' d')
      where
        go : Dec (weight hop d < w) → (weight hop d < w → Fits d) → ((v' x' u' y' : ℕ) (d' : Level hop v' x' u' y') → v' < n → x' < p → weight hop d' < w → Fits d') → Fits d
        go (yes m) rec small = rec m
        go (no m) rec small = by_steps w small (suc (steps d)) v x u y d hv hx (omega arith) (omega arith)

    pub exact : Exact hop n p t
    exact = record { entry = λ v x u y hv hx hu hy. record { attained = go v x u y (attained.attains v x u y hv hx hu hy); least = λ ks w f. least v x u y hv hx ks w f } }
      where
        least : (v x u y : ℕ) → v < n → x < p → (ks : List Key) (w : ℕ) → Feasible hop v x u y ks w → Le (t v x u y) (cap w (length ks))
        least v x u y hv hx ks w f =
            let g = parse hop u y v x ks w f in
            rw (g.1, g.2) at (by_weight (suc (weight hop g.0)) v x u y g.0 hv hx (omega arith))

        go : (v x u y : ℕ) → (t v x u y ≡ never) ⊎ ((d : Level hop v x u y) × (t v x u y ≡ cap (weight hop d) (steps d)))
            → (t v x u y ≡ never) ⊎ ((ks : List Key) × (w : ℕ) × Feasible hop v x u y ks w × (t v x u y ≡ cap w (length ks)))
        go v x u y (inl i) = inl i
        go v x u y (inr i) = inr (keys hop i.0, weight hop i.0, sound_feasible hop i.0, i.1)
