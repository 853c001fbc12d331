-- A table whose entries are attained, and which no relaxation lowers, holds at every pair of places the least of what the routes between them count as.
-- Assumes nothing.
use Prim.Native.Nat.{ℕ, suc, ◌+◌, ◌<◌}
use mathlib.Core.Path.{◌≡◌}
use mathlib.Core.List.{List, ◌∷◌}
use mathlib.Core.Option.{Option, some}
use mathlib.Core.Logic.{◌⊎◌, inl, inr}
use lib.ListN.{length, length-append}
use Rattle.paper.specs.Net.{Kind, conv, wrap, unwrap, Key, key}
use Rattle.paper.specs.Route.{Feasible}
use Rattle.laws.specs.Level.{Level, stay, carry, tunnel, keys, weight}
use Rattle.laws.specs.Value.{Value, never, cap, Le, plus, Entry}
use Rattle.laws.proofs.Parse.{parse, sound_feasible}
use Rattle.laws.proofs.Cap.{le_trans_v, join, step_join}

module _ (hop : Key → ℕ → Option (ℕ × ℕ)) (n p : ℕ) where
  -- every step leads to a place: node below n, protocols below p
  pub record Valid : Type 0 where
    pub inside : (l : ℕ) (c : Kind) (x y v u w : ℕ) → hop (key l c x y) v ≡ some (u, w) → (u < n) × (y < p)

  -- no relaxation lowers the table
  pub record Relaxed (t : ℕ → ℕ → ℕ → ℕ → Value) : Type 0 where
    pub here : (v x : ℕ) → v < n → x < p → Le (t v x v x) (cap 0 0)
    pub by_conv : (v x u y l z r w : ℕ) → v < n → x < p → u < n → y < p → hop (key l conv x z) v ≡ some (r, w)
        → Le (t v x u y) (plus (cap w 1) (t r z u y))
    pub by_tunnel : (v x u y l z r w q o m s e : ℕ) → v < n → x < p → u < n → y < p → q < n → o < p
        → hop (key l wrap x z) v ≡ some (r, w) → hop (key m unwrap x o) q ≡ some (s, e)
        → Le (t v x u y) (plus (cap w 1) (plus (t r z q o) (plus (cap e 1) (t s x u y))))

  pub record Attained (t : ℕ → ℕ → ℕ → ℕ → Value) : Type 0 where
    pub attains : (v x u y : ℕ) → v < n → x < p → u < n → y < p
        → (t v x u y ≡ never) ⊎ ((d : Level hop v x u y) × (t v x u y ≡ cap (weight hop d) (length (keys hop d))))

  module _ (valid : Valid) where
    -- a level ends at a place
    pub ends : {v x u y : ℕ} → Level hop v x u y → v < n → x < p → (u < n) × (y < p)
    ends stay hv hx = (hv, hx)
    ends (carry l w e d) hv hx = let i = valid.inside _ _ _ _ _ _ _ e in ends d i.0 i.1
    ends (tunnel l w m f e i g d) hv hx = ends d (valid.inside _ _ _ _ _ _ _ g).0 hx

    module _ (t : ℕ → ℕ → ℕ → ℕ → Value) (rel : Relaxed t) where
      below : {v x u y : ℕ} (d : Level hop v x u y) → v < n → x < p → Le (t v x u y) (cap (weight hop d) (length (keys hop d)))
      unfolding weight keys
      below (stay {v} {x}) hv hx = rel.here v x hv hx
      below {v} {x} {u} {y} (carry {t = r} {z = z} l w e d) hv hx =
          let i = valid.inside _ _ _ _ _ _ _ e in
          let j = ends d i.0 i.1 in
          le_trans_v (t v x u y) (plus (cap w 1) (t r z u y)) (cap (w + weight hop d) (suc (length (keys hop d))))
          (rel.by_conv v x u y l z r w hv hx j.0 j.1 e)
          (step_join (t r z u y) w (weight hop d) (length (keys hop d)) (below d i.0 i.1))
      below {v} {x} {u} {y} (tunnel {t = r} {z = z} {r = q} {q = o} {s = s} l w m f e i g d) hv hx =
          let a = valid.inside _ _ _ _ _ _ _ e in
          let b = valid.inside _ _ _ _ _ _ _ g in
          let c = ends i a.0 a.1 in
          let j = ends d b.0 hx in
          rw (length-append (keys hop i) (key m unwrap x o ∷ keys hop d))
          (le_trans_v (t v x u y) (plus (cap w 1) (plus (t r z q o) (plus (cap f 1) (t s x u y))))
          (cap (w + (weight hop i + (f + weight hop d))) (suc (length (keys hop i) + suc (length (keys hop d)))))
          (rel.by_tunnel v x u y l z r w q o m s f hv hx j.0 j.1 c.0 c.1 e g)
          (step_join (plus (t r z q o) (plus (cap f 1) (t s x u y))) w (weight hop i + (f + weight hop d)) (length (keys hop i) + suc (length (keys hop d)))
          (join (t r z q o) (plus (cap f 1) (t s x u y)) (weight hop i) (length (keys hop i)) (f + weight hop d) (suc (length (keys hop d)))
          (below i a.0 a.1)
          (step_join (t s x u y) f (weight hop d) (length (keys hop d)) (below d b.0 hx)))))

      -- the same of routes: no feasible route counts as less than the entry
      pub lower : (S a D b : ℕ) → S < n → a < p → (ks : List Key) (w : ℕ) → Feasible hop S a D b ks w → Le (t S a D b) (cap w (length ks))
      lower S a D b hS ha ks w e =
          let g = parse hop D b S a ks w e in
          rw (g.1, g.2) at (below g.0 hS ha)

      module _ (att : Attained t) where
        pub entry : (S a D b : ℕ) → S < n → a < p → D < n → b < p → Entry hop S a D b (t S a D b)
        entry S a D b hS ha hD hb = record { attained = go (att.attains S a D b hS ha hD hb); least = lower S a D b hS ha }
          where
            go : (t S a D b ≡ never) ⊎ ((d : Level hop S a D b) × (t S a D b ≡ cap (weight hop d) (length (keys hop d))))
                → (t S a D b ≡ never) ⊎ ((ks : List Key) × (w : ℕ) × Feasible hop S a D b ks w × (t S a D b ≡ cap w (length ks)))
            go (inl h) = inl h
            go (inr h) = inr (keys hop h.0, weight hop h.0, sound_feasible hop h.0, h.1)
