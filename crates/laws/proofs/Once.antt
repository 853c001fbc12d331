-- An enquiry has one outcome: no second number, line, weight, steps, length or entry of a room fits the outcome table.
-- Main results: `entries_once` (a pair's two numbers), `tabled_once` (the tables), `answers_once`, `routed_once` (the table's rows).
-- Assumes nothing.
use Prim.Native.Nat.{ℕ, zero, suc, ◌+◌, ◌*◌, ◌/◌, ◌%◌, ◌<◌, ◌≤◌}
use mathlib.Core.Path.{◌≡◌, refl, sym, ◌∙◌}
use mathlib.Core.Bool.{true≢false}
use mathlib.Core.List.{List, ◌∷◌}
use mathlib.Core.Logic.{◌⊎◌, inl, inr}
use mathlib.Core.Option.{Option}
use native.Mathlib.Omega.{arith}
use native.Mathlib.Decide.{dec_lt}
use native.Mathlib.Nat.{div-add-mod', mod-lt, div-lt_iff_lt-mul, mul_comm}
use lib.ListN.{length, get_or}
use lib.Seq.{ext_get_or}
use Rattle.paper.specs.Net.{Link, Fun, Net, net, Key, hop, place}
use Rattle.paper.specs.Route.{Feasible, Best, Lex, rank, flat}
use Rattle.paper.specs.File.{refused, accepted}
use Rattle.paper.specs.Trace.{trace}
use Rattle.paper.specs.Rooms.{laid, LeastWeight, FewestSteps, MoreSteps, Entries, least, long, heavy, nowhere, Tabled}
use Rattle.paper.specs.Outcome.{Outcome, outcome, Rooms, most_steps, Found, Ends, eight, nine, ten, eleven, zero as found, Answers, six, seven, on, Routed, bad_file, good_file}
use Rattle.laws.proofs.Order.{best_unique}
use Rattle.laws.proofs.Unique.{not_8_9, not_8_light, not_9_light, same_least, not_10_0}

-- ## A pair's entries

module _ (hop : Key → ℕ → Option (ℕ × ℕ)) (S a D b : ℕ) where
  pub entries_once : {w s v r : ℕ} → Entries hop S a D b w s → Entries hop S a D b v r → (w ≡ v) × (s ≡ r)
  entries_once (least {w = w} {s = s} p f h) (least {w = v} {s = r} q g i) =
      let e : v ≡ w = same_least hop S a D b v w q p in
      let g' : FewestSteps hop S a D b w r = rw e at g in
      (sym e, omega (arith, f.fewest g'.of_steps.0 g'.of_steps.1, g'.of_steps.2, g'.fewest f.of_steps.0 f.of_steps.1, f.of_steps.2))
  entries_once (least {w = w} {s = s} p f h) (long {w = v} q g) = absurd (not_10_0 hop S a D b 4096 w s (rw (same_least hop S a D b v w q p) at g) f h)
  entries_once (least {w = w} p f h) (heavy q) = absurd (not_9_light hop S a D b w q p)
  entries_once (least {w = w} p f h) (nowhere q) = absurd (not_8_light hop S a D b w q p)
  entries_once (long {w = w} p f) (least {w = v} {s = r} q g i) = absurd (not_10_0 hop S a D b 4096 v r (rw (same_least hop S a D b w v p q) at f) g i)
  entries_once (long {w = w} p f) (long {w = v} q g) = (same_least hop S a D b w v p q, refl)
  entries_once (long {w = w} p f) (heavy q) = absurd (not_9_light hop S a D b w q p)
  entries_once (long {w = w} p f) (nowhere q) = absurd (not_8_light hop S a D b w q p)
  entries_once (heavy p) (least {w = v} q g i) = absurd (not_9_light hop S a D b v p q)
  entries_once (heavy p) (long {w = v} q g) = absurd (not_9_light hop S a D b v p q)
  entries_once (heavy p) (heavy q) = (refl, refl)
  entries_once (heavy p) (nowhere q) = absurd (not_8_9 hop S a D b q p)
  entries_once (nowhere p) (least {w = v} q g i) = absurd (not_8_light hop S a D b v p q)
  entries_once (nowhere p) (long {w = v} q g) = absurd (not_8_light hop S a D b v p q)
  entries_once (nowhere p) (heavy q) = absurd (not_8_9 hop S a D b p q)
  entries_once (nowhere p) (nowhere q) = (refl, refl)

-- ## The tables

-- every entry of the first N² is that of a pair of places
pub record Paired (n p i : ℕ) : Type 0 where
  pub S : ℕ
  pub a : ℕ
  pub D : ℕ
  pub b : ℕ
  pub S_below : S < n
  pub a_below : a < p
  pub D_below : D < n
  pub b_below : b < p
  pub is : place p S a * (n * p) + place p D b ≡ i

split : (n p k : ℕ) → k < n * p → (k / p < n) × (k % p < p) × (k / p * p + k % p ≡ k)
split n zero k h = absurd (omega (arith, mul_comm n 0))
split n (suc p) k h = ((div-lt_iff_lt-mul {k = suc p} {x = k} {y = n} (omega arith)).1 h, mod-lt k (omega arith), div-add-mod' k (suc p))

pub paired : (n p i : ℕ) → i < n * p * (n * p) → Paired n p i
paired n p i h =
    let o = split (n * p) (n * p) i h in
    let u = split n p (i / (n * p)) o.0 in
    let v = split n p (i % (n * p)) o.1 in
    record {
      S = i / (n * p) / p;
      a = i / (n * p) % p;
      D = i % (n * p) / p;
      b = i % (n * p) % p;
      S_below = u.0;
      a_below = u.1;
      D_below = v.0;
      b_below = v.1;
      is = rw (u.2, v.2) o.2;
    }

module _ (hop : Key → ℕ → Option (ℕ × ℕ)) (n p : ℕ) where
  pub tabled_once : (W C X W' C' X' W'' C'' X'' : List ℕ) → Tabled hop n p W C X W' C' X' → Tabled hop n p W C X W'' C'' X'' → (W' ≡ W'') × (C' ≡ C'') × (X' ≡ X'')
  tabled_once W C X W' C' X' W'' C'' X'' s t = (
    ext_get_or 0 W' W'' (s.weights_length ∙ sym t.weights_length) (λ i h. (both i (dec_lt i (n * p * (n * p)))).0),
    ext_get_or 0 C' C'' (s.counts_length ∙ sym t.counts_length) (λ i h. (both i (dec_lt i (n * p * (n * p)))).1),
    s.choices ∙ sym t.choices,
  )
    where
      both : (i : ℕ) → Dec (i < n * p * (n * p)) → (get_or W' i 0 ≡ get_or W'' i 0) × (get_or C' i 0 ≡ get_or C'' i 0)
      both i (yes h) =
          let q = paired n p i h in
          rw q.is at (entries_once hop q.S q.a q.D q.b
          (s.pairs q.S q.a q.D q.b q.S_below q.a_below q.D_below q.b_below)
          (t.pairs q.S q.a q.D q.b q.S_below q.a_below q.D_below q.b_below))
      both i (no h) =
          (s.later_weights i (omega arith) ∙ sym (t.later_weights i (omega arith)), s.later_counts i (omega arith) ∙ sym (t.later_counts i (omega arith)))

-- ## The rows of the outcome table

best_least : (hop : Key → ℕ → Option (ℕ × ℕ)) (S a D b : ℕ) (ks : List Key) (w : ℕ) (js : List Key) (u : ℕ) → Best hop S a D b ks w → Feasible hop S a D b js u → w ≤ u
unfolding Lex rank
best_least hop S a D b ks w js u p g = go (p.first js u g)
  where
    go : (w < u) ⊎ ((w ≡ u) × Lex (length ks ∷ flat ks) (length js ∷ flat js)) → w ≤ u
    go (inl h) = omega arith
    go (inr h) = omega arith

module _ (hop : Key → ℕ → Option (ℕ × ℕ)) (n p S a D b : ℕ) where
  -- a found route's weight is the least, and its steps the fewest
  pub found_least : (Q : List ℕ) (ks : List Key) (w : ℕ) → Found hop n p S a D b Q ks w → LeastWeight hop S a D b w
  found_least Q ks w f = record { limit = f.light; of_route = (ks, f.best.feasible); least = λ js u g. best_least hop S a D b ks w js u f.best g }

  not_10_found : (Q : List ℕ) (ks : List Key) (w v : ℕ) → Found hop n p S a D b Q ks w → LeastWeight hop S a D b v → MoreSteps hop S a D b v (most_steps (length Q)) → ⊥
  not_10_found Q ks w v f l m =
      let e : v ≡ w = same_least hop S a D b v w l (found_least Q ks w f) in
      omega (arith, f.short, (rw e at m).long ks f.best.feasible)

  same_keys : {Q : List ℕ} {ks js : List Key} {w v : ℕ} → Found hop n p S a D b Q ks w → Found hop n p S a D b Q js v → (ks ≡ js) × (w ≡ v)
  same_keys {ks = ks} {js = js} {w = w} {v = v} f g = best_unique hop S a D b ks js w v f.best g.best

  eleven_zero : {Q : List ℕ} {ks js : List Key} {w v t : ℕ} → Found hop n p S a D b Q ks w → Found hop n p S a D b Q js v
      → t < length (trace hop S a ks w) → length (trace hop S a js v) ≤ t → ⊥
  eleven_zero f g h i = let e = same_keys f g in let j = rw (e.0, e.1) at h in omega arith

  same_route : {Q T : List ℕ} {ks js : List Key} {w v : ℕ} → Found hop n p S a D b Q ks w → Found hop n p S a D b Q js v
      → (outcome 11 0 w (length ks) 0 ≡ outcome 11 0 v (length js) 0) × (laid Q 0 (flat ks) ≡ laid Q 0 (flat js)) × (T ≡ T)
  same_route f g = let e = same_keys f g in rw (e.0, e.1) (refl, refl, refl)

  same_text : {Q : List ℕ} {ks js : List Key} {w v : ℕ} (T : List ℕ) → Found hop n p S a D b Q ks w → Found hop n p S a D b Q js v
      → (outcome 0 0 w (length ks) (length (trace hop S a ks w)) ≡ outcome 0 0 v (length js) (length (trace hop S a js v))) × (laid Q 0 (flat ks) ≡ laid Q 0 (flat js))
      × (laid T 0 (trace hop S a ks w) ≡ laid T 0 (trace hop S a js v))
  same_text T f g = let e = same_keys f g in rw (e.0, e.1) (refl, refl, refl)

  pub ends_once : {Q T Q' T' Q'' T'' : List ℕ} {o u : Outcome} → Ends hop n p S a D b Q T o Q' T' → Ends hop n p S a D b Q T u Q'' T'' → (o ≡ u) × (Q' ≡ Q'') × (T' ≡ T'')
  ends_once (eight P) (eight R) = (refl, refl, refl)
  ends_once (eight P) (nine R) = absurd (not_8_9 hop S a D b P R)
  ends_once (eight P) (ten {w = v} R M) = absurd (not_8_light hop S a D b v P R)
  ends_once (eight P) (eleven {ks = js} {w = v} R M) = absurd (not_8_light hop S a D b v P (found_least _ js v R))
  ends_once (eight P) (found {ks = js} {w = v} R M) = absurd (not_8_light hop S a D b v P (found_least _ js v R))
  ends_once (nine P) (eight R) = absurd (not_8_9 hop S a D b R P)
  ends_once (nine P) (nine R) = (refl, refl, refl)
  ends_once (nine P) (ten {w = v} R M) = absurd (not_9_light hop S a D b v P R)
  ends_once (nine P) (eleven {ks = js} {w = v} R M) = absurd (not_9_light hop S a D b v P (found_least _ js v R))
  ends_once (nine P) (found {ks = js} {w = v} R M) = absurd (not_9_light hop S a D b v P (found_least _ js v R))
  ends_once (ten {w = w} P L) (eight R) = absurd (not_8_light hop S a D b w R P)
  ends_once (ten {w = w} P L) (nine R) = absurd (not_9_light hop S a D b w R P)
  ends_once (ten {w = w} P L) (ten {w = v} R M) = (refl, refl, refl)
  ends_once (ten {w = w} P L) (eleven {ks = js} {w = v} R M) = absurd (not_10_found _ js v w R P L)
  ends_once (ten {w = w} P L) (found {ks = js} {w = v} R M) = absurd (not_10_found _ js v w R P L)
  ends_once (eleven {ks = ks} {w = w} P L) (eight R) = absurd (not_8_light hop S a D b w R (found_least _ ks w P))
  ends_once (eleven {ks = ks} {w = w} P L) (nine R) = absurd (not_9_light hop S a D b w R (found_least _ ks w P))
  ends_once (eleven {ks = ks} {w = w} P L) (ten {w = v} R M) = absurd (not_10_found _ ks w v P R M)
  ends_once (eleven {ks = ks} {w = w} P L) (eleven {ks = js} {w = v} R M) = same_route P R
  ends_once (eleven {ks = ks} {w = w} P L) (found {ks = js} {w = v} R M) = absurd (eleven_zero P R L M)
  ends_once (found {ks = ks} {w = w} P L) (eight R) = absurd (not_8_light hop S a D b w R (found_least _ ks w P))
  ends_once (found {ks = ks} {w = w} P L) (nine R) = absurd (not_9_light hop S a D b w R (found_least _ ks w P))
  ends_once (found {ks = ks} {w = w} P L) (ten {w = v} R M) = absurd (not_10_found _ ks w v P R M)
  ends_once (found {ks = ks} {w = w} P L) (eleven {ks = js} {w = v} R M) = absurd (eleven_zero R P M L)
  ends_once (found {ks = ks} {w = w} P L) (found {ks = js} {w = v} R M) = same_text _ P R

  pub answers_once : {r s t : Rooms} {o u : Outcome} → Answers hop n p S a D b r o s → Answers hop n p S a D b r u t → (o ≡ u) × (s ≡ t)
  answers_once (six h) (six g) = (refl, refl)
  answers_once (six h) (seven g i) = absurd (true≢false (sym g ∙ h))
  answers_once (six h) (on q e) = absurd (true≢false (sym q.in_range ∙ h))
  answers_once (seven g i) (six h) = absurd (true≢false (sym g ∙ h))
  answers_once (seven g i) (seven h j) = (refl, refl)
  answers_once (seven g i) (on q e) = absurd (true≢false (sym q.enough ∙ i))
  answers_once (on q e) (six h) = absurd (true≢false (sym q.in_range ∙ h))
  answers_once (on q e) (seven h j) = absurd (true≢false (sym q.enough ∙ j))
  answers_once (on q e) (on q' e') =
      let t = tabled_once hop n p _ _ _ _ _ _ _ _ _ q.tabled q'.tabled in
      let f = ends_once e e' in
      (f.0, cc (t.0, t.1, t.2, f.1, f.2))

not_both : {d i : ℕ} {m : Net} → refused d i ≡ accepted m → ⊥
not_both e = let z : ◌≡◌ {A = ℕ} 0 1 = cc in omega arith

module _ (S a D b : ℕ) where
  same_network : {n p m q : ℕ} {ls ms : List Link} {fs gs : List Fun} {r s t : Rooms} {o u : Outcome} → accepted (net n p ls fs) ≡ accepted (net m q ms gs)
      → Answers (hop (net n p ls fs)) n p S a D b r o s → Answers (hop (net m q ms gs)) m q S a D b r u t → (o ≡ u) × (s ≡ t)
  same_network {n} {p} {m} {q} {ls} {ms} {fs} {gs} e x y =
      let i : n ≡ m = cc in
      let j : p ≡ q = cc in
      let k : ls ≡ ms = cc in
      let l : fs ≡ gs = cc in
      answers_once (hop (net m q ms gs)) m q S a D b (rw (i, j, k, l) at x) y

  pub routed_once : (file : List ℕ) {r s t : Rooms} {o u : Outcome} → Routed file S a D b r o s → Routed file S a D b r u t → (o ≡ u) × (s ≡ t)
  routed_once file (bad_file h) (bad_file g) = let e = sym h ∙ g in (cc, refl)
  routed_once file (bad_file h) (good_file g q) = absurd (not_both (sym h ∙ g))
  routed_once file (good_file h q) (bad_file g) = absurd (not_both (sym g ∙ h))
  routed_once file (good_file h q) (good_file g r) = same_network (sym h ∙ g) q r
