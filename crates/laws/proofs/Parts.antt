-- The parts of a best route's level are best for their own pairs of places.
-- Assumes nothing.
use Prim.Native.Nat.{ℕ, ◌+◌, ◌*◌}
use mathlib.Core.Path.{◌≡◌, refl, ap}
use mathlib.Core.List.{List, [], ◌∷◌, ◌++◌, append_assoc, append-nil}
use mathlib.Core.Option.{Option, some}
use mathlib.Core.Logic.{inl, inr}
use native.Mathlib.Omega.{arith}
use lib.ListN.{length, length-append}
use Rattle.paper.specs.Net.{conv, wrap, unwrap, code, Key, key}
use Rattle.paper.specs.Route.{Lex, flat, rank, Best}
use Rattle.laws.specs.Level.{Level, carry, tunnel, keys, weight}
use Rattle.laws.proofs.Parse.{parse, sound_feasible}

-- a common front, and a common rest behind lists of one length, do not matter to the order
lex_front : (p a b : List ℕ) → Lex (p ++ a) (p ++ b) → Lex a b
unfolding Lex
lex_front [] a b h = h
lex_front (n ∷ p) a b (inl h) = absurd (omega arith)
lex_front (n ∷ p) a b (inr h) = lex_front p a b h.1

lex_back : (a b c : List ℕ) → length a ≡ length b → Lex (a ++ c) (b ++ c) → Lex a b
unfolding Lex
lex_back [] b c e h = tt
lex_back (n ∷ a) [] c e h = absurd (omega arith)
lex_back (n ∷ a) (m ∷ b) c e (inl h) = inl h
lex_back (n ∷ a) (m ∷ b) c e (inr h) = inr (h.0, lex_back a b c (omega arith) h.1)

pub flat_append : (ks js : List Key) → flat (ks ++ js) ≡ flat ks ++ flat js
unfolding flat
flat_append [] js = refl
flat_append (key l c x y ∷ ks) js = ap (λ (r : List ℕ). l ∷ code c ∷ x ∷ y ∷ r) (flat_append ks js)

pub flat_length : (ks : List Key) → length (flat ks) ≡ 4 * length ks
unfolding flat
flat_length [] = refl
flat_length (key l c x y ∷ ks) = omega (arith, flat_length ks)

-- the same of routes and their ranks
pub rank_part : (p a b c : List Key) (W w u : ℕ) → Lex (rank (p ++ (a ++ c)) (W + w)) (rank (p ++ (b ++ c)) (W + u)) → Lex (rank a w) (rank b u)
unfolding Lex rank
rank_part p a b c W w u (inl h) = inl (omega arith)
rank_part p a b c W w u (inr (e, inl h)) = inr (omega arith, inl (omega (arith, simp length-append at h)))
rank_part p a b c W w u (inr (e, inr (n, h))) =
    let m : length a ≡ length b = omega (arith, simp length-append at n) in
    inr (omega arith, inr (m, lex_back (flat a) (flat b) (flat c) (omega (arith, flat_length a, flat_length b)) (lex_front (flat p) _ _ (simp flat_append at h))))

module _ (hop : Key → ℕ → Option (ℕ × ℕ)) where
  -- what a level is best for, as a level: no level between its places has a smaller rank
  unfoldable pub Top : {v x u y : ℕ} → Level hop v x u y → Type 0
  Top {v} {x} {u} {y} d = (e : Level hop v x u y) → Lex (rank (keys hop d) (weight hop d)) (rank (keys hop e) (weight hop e))

  pub top_best : {v x u y : ℕ} (d : Level hop v x u y) → Top d → Best hop v x u y (keys hop d) (weight hop d)
  unfolding Top
  top_best {v} {x} {u} {y} d t = record { feasible = sound_feasible hop d; first = λ js w f. let g = parse hop u y v x js w f in rw (g.1, g.2) at (t g.0) }

  pub best_top : {v x u y : ℕ} (d : Level hop v x u y) → Best hop v x u y (keys hop d) (weight hop d) → Top d
  unfolding Top
  best_top d b e = b.first (keys hop e) (weight hop e) (sound_feasible hop e)

  -- the rest behind a conversion
  pub top_carry : {v x t z u y : ℕ} (l w : ℕ) (h : hop (key l conv x z) v ≡ some (t, w)) (d : Level hop t z u y) → Top (carry l w h d) → Top d
  unfolding Top keys weight
  top_carry {x = x} {z = z} l w h d t e =
      rank_part (key l conv x z ∷ []) (keys hop d) (keys hop e) [] w (weight hop d) (weight hop e)
      (rw (append-nil (keys hop d), append-nil (keys hop e)) (t (carry l w h e)))

  -- the inside of a tunnel
  pub top_inside : {v x t z r q s u y : ℕ} (l w m e : ℕ) (h : hop (key l wrap x z) v ≡ some (t, w)) (i : Level hop t z r q)
      (k : hop (key m unwrap x q) r ≡ some (s, e)) (d : Level hop s x u y) → Top (tunnel l w m e h i k d) → Top i
  unfolding Top keys weight
  top_inside {x = x} {z = z} {q = q} l w m e h i k d t j =
      let a : w + (weight hop i + (e + weight hop d)) ≡ w + e + weight hop d + weight hop i = omega arith in
      let b : w + (weight hop j + (e + weight hop d)) ≡ w + e + weight hop d + weight hop j = omega arith in
      rank_part (key l wrap x z ∷ []) (keys hop i) (keys hop j) (key m unwrap x q ∷ keys hop d) (w + e + weight hop d) (weight hop i) (weight hop j)
      (rw (← a, ← b) (t (tunnel l w m e h j k d)))

  -- the rest behind a tunnel
  pub top_rest : {v x t z r q s u y : ℕ} (l w m e : ℕ) (h : hop (key l wrap x z) v ≡ some (t, w)) (i : Level hop t z r q)
      (k : hop (key m unwrap x q) r ≡ some (s, e)) (d : Level hop s x u y) → Top (tunnel l w m e h i k d) → Top d
  unfolding Top keys weight
  top_rest {x = x} {z = z} {q = q} l w m e h i k d t j =
      let a : w + (weight hop i + (e + weight hop d)) ≡ w + weight hop i + e + weight hop d = omega arith in
      let b : w + (weight hop i + (e + weight hop j)) ≡ w + weight hop i + e + weight hop j = omega arith in
      rank_part (key l wrap x z ∷ (keys hop i ++ key m unwrap x q ∷ [])) (keys hop d) (keys hop j) [] (w + weight hop i + e) (weight hop d) (weight hop j)
      (rw (← a, ← b, append-nil (keys hop d), append-nil (keys hop j), append_assoc (keys hop i) (key m unwrap x q ∷ []) (keys hop d), append_assoc (keys hop i) (key m unwrap x q ∷ []) (keys hop j))
      (t (tunnel l w m e h i k j)))
