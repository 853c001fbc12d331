-- Values that routes have: of a level, of a tunnel that is still open, and how they join.
-- Assumes nothing.
use Prim.Native.Nat.{ℕ, suc, ◌+◌}
use mathlib.Core.Path.{◌≡◌, refl, sym}
use mathlib.Core.List.{[], ◌∷◌}
use mathlib.Core.Option.{Option, some}
use mathlib.Core.Logic.{◌⊎◌, inl, inr}
use native.Mathlib.Omega.{arith}
use lib.ListN.{length, length-append}
use Rattle.paper.specs.Net.{conv, wrap, unwrap, Key, key}
use Rattle.laws.specs.Level.{Level, stay, carry, tunnel, keys, weight}
use Rattle.laws.specs.Value.{Value, never, cap, plus}
use Rattle.laws.proofs.Cap.{cap_plus, plus_never}

-- what a route counts as, by its two numbers
cap_as : (w s v r : ℕ) (e : Value) → e ≡ cap w s → w ≡ v → s ≡ r → e ≡ cap v r
cap_as w s v r e h p q = rw (← p, ← q) h

module _ (hop : Key → ℕ → Option (ℕ × ℕ)) where
  -- one level after another
  unfoldable pub after : {v x t z u y : ℕ} → Level hop v x t z → Level hop t z u y → Level hop v x u y
  after stay e = e
  after (carry l w h d) e = carry l w h (after d e)
  after (tunnel l w m c h i k d) e = tunnel l w m c h i k (after d e)

  pub after_weight : {v x t z u y : ℕ} (d : Level hop v x t z) (e : Level hop t z u y) → weight hop (after d e) ≡ weight hop d + weight hop e
  unfolding weight after
  after_weight stay e = omega arith
  after_weight (carry l w h d) e = omega (arith, after_weight d e)
  after_weight (tunnel l w m c h i k d) e = omega (arith, after_weight d e)

  pub after_steps : {v x t z u y : ℕ} (d : Level hop v x t z) (e : Level hop t z u y) → length (keys hop (after d e)) ≡ length (keys hop d) + length (keys hop e)
  unfolding keys after
  after_steps stay e = omega arith
  after_steps (carry l w h d) e = omega (arith, after_steps d e)
  after_steps {x = x} (tunnel {q = q} l w m c h i k d) e =
      omega (arith, after_steps d e, length-append (keys hop i) (key m unwrap x q ∷ keys hop d), length-append (keys hop i) (key m unwrap x q ∷ keys hop (after d e)))

  -- a value that some level has, or `never`
  unfoldable pub Reached : (v x u y : ℕ) → Value → Type 0
  Reached v x u y e = (e ≡ never) ⊎ ((d : Level hop v x u y) × (e ≡ cap (weight hop d) (length (keys hop d))))

  pub reached_never : (v x u y : ℕ) → Reached v x u y never
  unfolding Reached
  reached_never v x u y = inl refl

  pub reached_here : (v x : ℕ) → Reached v x v x (cap 0 0)
  unfolding Reached weight keys
  reached_here v x = inr (stay, refl)

  pub reached_conv : (v x l z t w : ℕ) → hop (key l conv x z) v ≡ some (t, w) → Reached v x t z (cap w 1)
  unfolding Reached weight keys
  reached_conv v x l z t w h = inr (carry l w h stay, cap_as w 1 _ _ _ refl (omega arith) refl)

  pub reached_then : (v x t z u y : ℕ) (c e : Value) → Reached v x t z c → Reached t z u y e → Reached v x u y (plus c e)
  unfolding Reached plus
  reached_then v x t z u y c e (inl i) r = inl (rw i)
  reached_then v x t z u y c e (inr i) (inl j) = inl (rw j (plus_never c))
  reached_then v x t z u y c e (inr (d, i)) (inr (f, j)) =
      inr (
        after d f,
        cap_as (weight hop d + weight hop f) (length (keys hop d) + length (keys hop f)) _ _ _
            (rw (i, j) (cap_plus (weight hop d) (length (keys hop d)) (weight hop f) (length (keys hop f)))) (sym (after_weight d f)) (sym (after_steps d f)),
      )

  -- a wrap and a level under it, from v with x on top to u with y on top and x beneath
  pub record Open (v x u y : ℕ) (e : Value) : Type 0 where
    pub l : ℕ
    pub z : ℕ
    pub t : ℕ
    pub w : ℕ
    pub wraps : hop (key l wrap x z) v ≡ some (t, w)
    pub inner : Level hop t z u y
    pub counts : e ≡ cap (w + weight hop inner) (suc (length (keys hop inner)))

  unfoldable pub Opened : (v x u y : ℕ) → Value → Type 0
  Opened v x u y e = (e ≡ never) ⊎ Open v x u y e

  pub opened_never : (v x u y : ℕ) → Opened v x u y never
  unfolding Opened
  opened_never v x u y = inl refl

  -- a wrap, with nothing inside yet
  pub opened_wrap : (v x l z t w : ℕ) → hop (key l wrap x z) v ≡ some (t, w) → Opened v x t z (cap w 1)
  unfolding Opened weight keys
  opened_wrap v x l z t w h = inr (record { l = l; z = z; t = t; w = w; wraps = h; inner = stay; counts = cap_as w 1 _ _ _ refl (omega arith) refl })

  -- on inside it
  pub opened_then : (v x t z u y : ℕ) (c e : Value) → Opened v x t z c → Reached t z u y e → Opened v x u y (plus c e)
  unfolding Opened Reached plus
  opened_then v x t z u y c e (inl i) r = inl (rw i)
  opened_then v x t z u y c e (inr o) (inl j) = inl (rw j (plus_never c))
  opened_then v x t z u y c e (inr o) (inr (d, j)) =
      inr (
      record {
        l = o.l;
        z = o.z;
        t = o.t;
        w = o.w;
        wraps = o.wraps;
        inner = after o.inner d;
        counts =
            cap_as (o.w + weight hop o.inner + weight hop d) (suc (length (keys hop o.inner)) + length (keys hop d)) _ _ _
            (rw (o.counts, j) (cap_plus (o.w + weight hop o.inner) (suc (length (keys hop o.inner))) (weight hop d) (length (keys hop d))))
            (omega (arith, after_weight o.inner d)) (omega (arith, after_steps o.inner d));
      }
      )

  -- the unwrap that closes it
  pub landed : (v x r q m t c : ℕ) (e : Value) → hop (key m unwrap x q) r ≡ some (t, c) → Opened v x r q e → Reached v x t x (plus (cap c 1) e)
  unfolding Opened Reached weight keys
  landed v x r q m t c e k (inl i) = inl (rw i (plus_never (cap c 1)))
  landed v x r q m t c e k (inr o) =
      inr (
        tunnel o.l o.w m c o.wraps o.inner k stay,
        cap_as (c + (o.w + weight hop o.inner)) (1 + suc (length (keys hop o.inner))) _ _ _
            (rw o.counts (cap_plus c 1 (o.w + weight hop o.inner) (suc (length (keys hop o.inner)))))
            (omega arith) (omega (arith, length-append (keys hop o.inner) (key m unwrap x q ∷ []))),
      )
