-- A route of least weight and then fewest steps has at most N² tunnels open at once, N the number of places; and any route half as many as it has steps.
-- Assumes nothing.
use Prim.Native.Nat.{ℕ, suc, ◌+◌, ◌*◌, ◌<◌, ◌≤◌, max}
use mathlib.Core.Path.{◌≡◌, refl, sym, ap, ◌∙◌}
use mathlib.Core.List.{List, [], ◌∷◌, ◌++◌, append_assoc, append-nil}
use mathlib.Core.Option.{Option, some}
use mathlib.Core.Logic.{◌⊎◌, inl, inr}
use native.Mathlib.Omega.{arith}
use native.Mathlib.Nat.{mul-le-mul_right, le_refl, add-zero, add_assoc}
use native.Mathlib.Decide.{dec_le}
use lib.ListN.{length, length-append}
use Rattle.paper.specs.Net.{conv, wrap, unwrap, Key, key}
use Rattle.paper.specs.Route.{at, step, Feasible}
use Rattle.laws.specs.Level.{Level, stay, carry, tunnel, keys, weight}
use Rattle.laws.specs.Peak.{height, onward, peak}
use Rattle.laws.proofs.Order.{Three, three, less, same, more}
use Rattle.laws.proofs.Parse.{parse, sound_feasible, eqb_same}
use Rattle.laws.proofs.Fixpoint.{Valid, ends}
use Rattle.laws.proofs.Pigeon.{All, Distinct, all_map, all_mem, pigeon}

-- two numbers below p, each behind a multiple of p: the one is the other only if both parts are
pub digits : (p v x u y : ℕ) → x < p → y < p → v * p + x ≡ u * p + y → (v ≡ u) × (x ≡ y)
digits p v x u y hx hy e = go (three v u)
  where
    go : Three v u → (v ≡ u) × (x ≡ y)
    go (less h) = absurd (omega (arith, mul-le-mul_right p h))
    go (more h) = absurd (omega (arith, mul-le-mul_right p h))
    go (same h) = (h, omega (arith, ap (λ (k : ℕ). k * p) h))

-- heights over a tunnel
over_in : (a i A B C : ℕ) → A ≡ max (suc a + i) B → B ≡ max (suc a) C → max a A ≡ max (suc a + i) C
over_in a i A B C p q = omega arith

over_out : (a i d C P : ℕ) → C ≡ max (a + d) P → max (suc a + i) C ≡ max (a + max (suc i) d) P
over_out a i d C P p = omega arith

module _ (hop : Key → ℕ → Option (ℕ × ℕ)) where
  -- how many tunnels of a level are open at once
  unfoldable pub depth : {v x u y : ℕ} → Level hop v x u y → ℕ
  depth stay = 0
  depth (carry l w h d) = depth d
  depth (tunnel l w m e h i k d) = max (suc (depth i)) (depth d)

  peak_height : (ks : List Key) (v : ℕ) (s : List ℕ) (h : ℕ) → length s ≤ peak hop ks (at v s h)
  unfolding peak height
  peak_height [] v s h = le_refl (length s)
  peak_height (k ∷ ks) v s h = omega arith

  -- the stack's greatest height on a level's keys
  peak_level : {v x u y : ℕ} (d : Level hop v x u y) (H : List ℕ) (h : ℕ) (rest : List Key)
      → peak hop (keys hop d ++ rest) (at v (x ∷ H) h) ≡ max (suc (length H) + depth d) (peak hop rest (at u (y ∷ H) (h + weight hop d)))
  unfolding depth peak keys weight height onward step Rattle.paper.specs.Route.move Rattle.paper.specs.Route.act
  peak_level (stay {v} {x}) H h rest = rw (add-zero h) (omega (arith, peak_height rest v (x ∷ H) h))
  peak_level {u = u} {y = y} (carry {t = t} {z = z} l w e d) H h rest =
      rw (eqb_same, e, ← add_assoc h w (weight hop d)) (omega (arith, peak_level d H (h + w) rest))
  peak_level {x = x} {u = u} {y = y} (tunnel {t = t} {z = z} {r = r} {q = q} {s = s} l w m f e i g d) H h rest =
      let a : h + (w + (weight hop i + (f + weight hop d))) ≡ h + w + weight hop i + f + weight hop d = omega arith in
      let j : peak hop (key m unwrap x q ∷ (keys hop d ++ rest)) (at r (q ∷ x ∷ H) (h + w + weight hop i)) ≡ max (suc (suc (length H))) (peak hop (keys hop d ++ rest) (at s (x ∷ H) (h + w + weight hop i + f))) =
      simp (eqb_same, g) in
      rw (eqb_same x, e, append_assoc (keys hop i) (key m unwrap x q ∷ keys hop d) rest, a)
      (over_in (suc (length H)) (depth i) _ _ _ (peak_level i (x ∷ H) (h + w) (key m unwrap x q ∷ (keys hop d ++ rest))) j
      ∙ over_out (suc (length H)) (depth i) (depth d) _ _ (peak_level d H (h + w + weight hop i + f) rest))

  pub peak_is : {v x u y : ℕ} (d : Level hop v x u y) → peak hop (keys hop d) (at v (x ∷ []) 0) ≡ suc (depth d)
  unfolding peak height
  peak_is {v} {x} d = omega (arith, rw (append-nil (keys hop d)) at (peak_level d [] 0 []))

  -- half as deep as long
  pub half : {v x u y : ℕ} (d : Level hop v x u y) → depth d + depth d ≤ length (keys hop d)
  unfolding depth keys
  half stay = omega arith
  half (carry l w h d) = omega (arith, half d)
  half {x = x} (tunnel {q = q} l w m e h i k d) = omega (arith, half i, half d, length-append (keys hop i) (key m unwrap x q ∷ keys hop d))

  -- least weight, then fewest steps
  unfoldable pub Cheapest : {v x u y : ℕ} → Level hop v x u y → Type 0
  Cheapest {v} {x} {u} {y} d = (e : Level hop v x u y) → (weight hop d < weight hop e) ⊎ ((weight hop d ≡ weight hop e) × (length (keys hop d) ≤ length (keys hop e)))

  -- the parts of a cheapest level are cheapest
  cheap_part : (W L a b e f c d g h : ℕ) → c ≡ W + a → d ≡ W + b → g ≡ L + e → h ≡ L + f
      → (c < d) ⊎ ((c ≡ d) × (g ≤ h)) → (a < b) ⊎ ((a ≡ b) × (e ≤ f))
  cheap_part W L a b e f c d g h p q r s (inl k) = inl (omega arith)
  cheap_part W L a b e f c d g h p q r s (inr k) = inr (omega arith, omega arith)

  pub cheap_carry : {v x t z u y : ℕ} (l w : ℕ) (h : hop (key l conv x z) v ≡ some (t, w)) (d : Level hop t z u y) → Cheapest (carry l w h d) → Cheapest d
  unfolding Cheapest keys weight
  cheap_carry l w h d c e =
      cheap_part w 1 (weight hop d) (weight hop e) (length (keys hop d)) (length (keys hop e)) _ _ _ _
      refl refl (omega arith) (omega arith) (c (carry l w h e))

  module _ {v x t z r q s u y : ℕ} (l w m e : ℕ) (h : hop (key l wrap x z) v ≡ some (t, w)) (i : Level hop t z r q)
      (k : hop (key m unwrap x q) r ≡ some (s, e)) (d : Level hop s x u y) where
    pub cheap_inside : Cheapest (tunnel l w m e h i k d) → Cheapest i
    unfolding Cheapest keys weight
    cheap_inside c j =
        cheap_part (w + e + weight hop d) (2 + length (keys hop d)) (weight hop i) (weight hop j) (length (keys hop i)) (length (keys hop j)) _ _ _ _
        (omega arith) (omega arith)
        (omega (arith, length-append (keys hop i) (key m unwrap x q ∷ keys hop d))) (omega (arith, length-append (keys hop j) (key m unwrap x q ∷ keys hop d)))
        (c (tunnel l w m e h j k d))

    pub cheap_rest : Cheapest (tunnel l w m e h i k d) → Cheapest d
    unfolding Cheapest keys weight
    cheap_rest c j =
        cheap_part (w + e + weight hop i) (2 + length (keys hop i)) (weight hop d) (weight hop j) (length (keys hop d)) (length (keys hop j)) _ _ _ _
        (omega arith) (omega arith)
        (omega (arith, length-append (keys hop i) (key m unwrap x q ∷ keys hop d))) (omega (arith, length-append (keys hop i) (key m unwrap x q ∷ keys hop j)))
        (c (tunnel l w m e h i k j))

-- the number of a place, and of a pair of places
abbrev pub place : (p v x : ℕ) → ℕ
place p v x = v * p + x

pub place_lt : (n p v x : ℕ) → v < n → x < p → place p v x < n * p
place_lt n p v x hv hx = omega (arith, mul-le-mul_right p hv)

abbrev pub pair : (n p v x u y : ℕ) → ℕ
pair n p v x u y = place (n * p) (place p v x) (place p u y)

module _ (hop : Key → ℕ → Option (ℕ × ℕ)) (n p : ℕ) (valid : Valid hop n p) where
  -- a level between two places, of weight at most w and with fewer than l steps, whose pair of places has the number c
  record Sub (w l c : ℕ) : Type 0 where
    t : ℕ
    z : ℕ
    r : ℕ
    q : ℕ
    ht : t < n
    hz : z < p
    hr : r < n
    hq : q < p
    j : Level hop t z r q
    is : c ≡ pair n p t z r q
    light : weight hop j ≤ w
    short : length (keys hop j) < l

  sub_more : {w l : ℕ} (w' l' : ℕ) → w ≤ w' → l ≤ l' → (c : ℕ) → Sub w l c → Sub w' l' c
  sub_more w' l' p q c s =
      record { t = s.t; z = s.z; r = s.r; q = s.q; ht = s.ht; hz = s.hz; hr = s.hr; hq = s.hq; j = s.j; is = s.is; light = omega (arith, s.light); short = omega (arith, s.short) }

  moved : {t z r q t' z' r' q' : ℕ} (j : Level hop t' z' r' q') → t' ≡ t → z' ≡ z → r' ≡ r → q' ≡ q
      → (k : Level hop t z r q) × (weight hop k ≡ weight hop j) × (length (keys hop k) ≡ length (keys hop j))
  moved j a b c d = rw (← a, ← b, ← c, ← d) (j, refl, refl)

  -- a cheapest level has no smaller level between its own places
  no_smaller : {t z r q : ℕ} (i : Level hop t z r q) → t < n → z < p → r < n → q < p → Cheapest hop i → Sub (weight hop i) (length (keys hop i)) (pair n p t z r q) → ⊥
  unfolding Cheapest
  no_smaller {t} {z} {r} {q} i ht hz hr hq c s =
      let a = digits (n * p) (place p t z) (place p r q) (place p s.t s.z) (place p s.r s.q) (place_lt n p r q hr hq) (place_lt n p s.r s.q s.hr s.hq) s.is in
      let b = digits p t z s.t s.z hz s.hz a.0 in
      let d = digits p r q s.r s.q hq s.hq a.1 in
      let k = moved s.j (sym b.0) (sym b.1) (sym d.0) (sym d.1) in
      smaller (weight hop i) (weight hop k.0) (length (keys hop i)) (length (keys hop k.0)) (c k.0) (omega (arith, k.1, s.light)) (omega (arith, k.2, s.short))
    where
      smaller : (a b e f : ℕ) → (a < b) ⊎ ((a ≡ b) × (e ≤ f)) → b ≤ a → f < e → ⊥
      smaller a b e f (inl h) p q = omega arith
      smaller a b e f (inr h) p q = omega arith

  -- the pairs of a chain of nested tunnels as long as the level is deep, all different
  record Deep (w l k : ℕ) : Type 0 where
    cs : List ℕ
    many : length cs ≡ k
    apart : Distinct cs
    subs : All (λ c. Sub w l c) cs

  deep_more : (w l k w' l' k' : ℕ) → w ≤ w' → l ≤ l' → k ≡ k' → Deep w l k → Deep w' l' k'
  deep_more w l k w' l' k' p q r g = record { cs = g.cs; many = g.many ∙ r; apart = g.apart; subs = all_map (sub_more w' l' p q) g.cs g.subs }

  -- one tunnel more around
  deep_in : {t z r q : ℕ} (i : Level hop t z r q) → t < n → z < p → r < n → q < p → Cheapest hop i → (w' l' k : ℕ) → weight hop i ≤ w' → length (keys hop i) < l'
      → Deep (weight hop i) (length (keys hop i)) k → Deep w' l' (suc k)
  deep_in {t} {z} {r} {q} i ht hz hr hq c w' l' k a b g =
      record {
        cs = pair n p t z r q ∷ g.cs;
        many = ap suc g.many;
        apart = (λ m. no_smaller i ht hz hr hq c (all_mem (λ c. Sub (weight hop i) (length (keys hop i)) c) g.cs g.subs (pair n p t z r q) m), g.apart);
        subs = (
          record { t = t; z = z; r = r; q = q; ht = ht; hz = hz; hr = hr; hq = hq; j = i; is = refl; light = a; short = b },
          all_map (sub_more w' l' a (omega arith)) g.cs g.subs,
        );
      }

  deeper : (w l w' l' i k : ℕ) → w ≤ w' → l ≤ l' → Deep w' l' (suc i) → Deep w l k → Deep w' l' (max (suc i) k)
  deeper w l w' l' i k a b g h = go (dec_le k (suc i))
    where
      go : Dec (k ≤ suc i) → Deep w' l' (max (suc i) k)
      go (yes p) = deep_more w' l' (suc i) w' l' (max (suc i) k) (le_refl w') (le_refl l') (omega arith) g
      go (no p) = deep_more w l k w' l' (max (suc i) k) a b (omega arith) h

  deep : {v x u y : ℕ} (d : Level hop v x u y) → v < n → x < p → Cheapest hop d → Deep (weight hop d) (length (keys hop d)) (depth hop d)
  unfolding depth weight keys
  deep stay hv hx c = record { cs = []; many = refl; apart = tt; subs = tt }
  deep (carry l w e d) hv hx c =
      let a = valid.inside _ _ _ _ _ _ _ e in
      deep_more (weight hop d) (length (keys hop d)) (depth hop d) (w + weight hop d) (suc (length (keys hop d))) (depth hop d) (omega arith) (omega arith) refl
      (deep d a.0 a.1 (cheap_carry hop l w e d c))
  deep {x = x} (tunnel {q = q} l w m f e i g d) hv hx c =
      let a = valid.inside _ _ _ _ _ _ _ e in
      let b = valid.inside _ _ _ _ _ _ _ g in
      let o = ends hop n p valid i a.0 a.1 in
      let L = length-append (keys hop i) (key m unwrap x q ∷ keys hop d) in
      deeper (weight hop d) (length (keys hop d)) (w + (weight hop i + (f + weight hop d))) (suc (length (keys hop i ++ key m unwrap x q ∷ keys hop d)))
      (depth hop i) (depth hop d) (omega arith) (omega (arith, L))
      (deep_in i a.0 a.1 o.0 o.1 (cheap_inside hop l w m f e i g d c) (w + (weight hop i + (f + weight hop d))) (suc (length (keys hop i ++ key m unwrap x q ∷ keys hop d))) (depth hop i)
      (omega arith) (omega (arith, L)) (deep i a.0 a.1 (cheap_inside hop l w m f e i g d c)))
      (deep d b.0 hx (cheap_rest hop l w m f e i g d c))

  sub_below : {w l : ℕ} (c : ℕ) → Sub w l c → c < n * p * (n * p)
  sub_below c s =
      let a = place_lt n p s.t s.z s.ht s.hz in
      let b = place_lt n p s.r s.q s.hr s.hq in
      omega (arith, s.is, place_lt (n * p) (n * p) (place p s.t s.z) (place p s.r s.q) a b)

  pub depth_bound : {v x u y : ℕ} (d : Level hop v x u y) → v < n → x < p → Cheapest hop d → depth hop d ≤ n * p * (n * p)
  depth_bound d hv hx c =
      let g = deep d hv hx c in
      omega (arith, g.many, pigeon (n * p * (n * p)) g.cs (all_map sub_below g.cs g.subs) g.apart)

  -- the level itself counted in
  pub levels_bound : {v x u y : ℕ} (d : Level hop v x u y) → v < n → x < p → Cheapest hop d → suc (depth hop d) ≤ n * p * (n * p)
  levels_bound d hv hx c =
      let o = ends hop n p valid d hv hx in
      let g = deep_in d hv hx o.0 o.1 c (weight hop d) (suc (length (keys hop d))) (depth hop d) (le_refl (weight hop d)) (le_refl (suc (length (keys hop d)))) (deep d hv hx c) in
      omega (arith, g.many, pigeon (n * p * (n * p)) g.cs (all_map sub_below g.cs g.subs) g.apart)

  -- no feasible route of least weight and then fewest steps meets a stack of more than N² + 1 protocols
  pub peak_bound : (S a D b : ℕ) → S < n → a < p → (ks : List Key) (w : ℕ) → Feasible hop S a D b ks w
      → ((js : List Key) (u : ℕ) → Feasible hop S a D b js u → (w < u) ⊎ ((w ≡ u) × (length ks ≤ length js)))
      → peak hop ks (at S (a ∷ []) 0) ≤ suc (n * p * (n * p))
  unfolding Cheapest
  peak_bound S a D b hS ha ks w f least = go (parse hop D b S a ks w f)
    where
      go : (d : Level hop S a D b) × (keys hop d ≡ ks) × (weight hop d ≡ w) → peak hop ks (at S (a ∷ []) 0) ≤ suc (n * p * (n * p))
      go (d, e, g) =
          let c : Cheapest hop d = λ j. rw (e, g) (least (keys hop j) (weight hop j) (sound_feasible hop j)) in
          rw e at (omega' (peak_is hop d) (depth_bound d hS ha c))
        where
          omega' : {a b c : ℕ} → a ≡ suc b → b ≤ c → a ≤ suc c
          omega' h k = omega arith

-- and no route of at most 4,096 steps meets one of more than 2,049
pub peak_half : (hop : Key → ℕ → Option (ℕ × ℕ)) (S a D b : ℕ) (ks : List Key) (w : ℕ) → Feasible hop S a D b ks w → length ks ≤ 4096 → peak hop ks (at S (a ∷ []) 0) ≤ 2049
peak_half hop S a D b ks w f h = go (parse hop D b S a ks w f)
  where
    go : (d : Level hop S a D b) × (keys hop d ≡ ks) × (weight hop d ≡ w) → peak hop ks (at S (a ∷ []) 0) ≤ 2049
    go (d, e, g) = omega (arith, rw e at (peak_is hop d), rw e at (half hop d))
