-- Taking the least key after which there is a rest of just what is left gives the first rest; at the least cost that is the best route.
-- Assumes nothing.
use Prim.Native.Nat.{ℕ, suc, ◌+◌, ◌<◌, ◌≤◌, min}
use mathlib.Core.Path.{◌≡◌, refl, subst, sym, ap, ◌∙◌}
use mathlib.Core.List.{List, [], ◌∷◌, ◌++◌, append_assoc, append-nil}
use mathlib.Core.Option.{Option, some, some-injective}
use mathlib.Core.Logic.{◌⊎◌, inl, inr}
use native.Mathlib.Omega.{arith}
use native.Mathlib.Nat.{add-zero}
use lib.ListN.{length, length-append}
use Rattle.paper.specs.Net.{conv, wrap, unwrap, Key, key}
use Rattle.paper.specs.Route.{Lex, flat, rank, Best, Feasible}
use Rattle.laws.specs.Level.{stay, carry, tunnel, keys, weight}
use Rattle.laws.specs.Value.{within, Entry}
use Rattle.laws.specs.Rest.{AtMost, Step, by_conv, by_wrap, by_unwrap, Exit, end, out, trail, toll, Rest, rest, path, price, Goes, Least, First, Leads, Fits, Chosen}
use Rattle.laws.proofs.Order.{code_inj, Three, three, less, same as equal, more}
use Rattle.laws.proofs.Parse.{parse, sound_feasible}
use Rattle.laws.proofs.Outcome.{fewer, is_0}

-- keys in front decide unless they are the same
lex_key : (k j : Key) (ks js : List Key) → Lex (flat (k ∷ [])) (flat (j ∷ [])) → (k ≡ j → Lex (flat ks) (flat js)) → Lex (flat (k ∷ ks)) (flat (j ∷ js))
unfolding Lex flat
lex_key (key l c x y) (key m d r s) ks js (inl h) f = inl h
lex_key (key l c x y) (key m d r s) ks js (inr (e, inl h)) f = inr (e, inl h)
lex_key (key l c x y) (key m d r s) ks js (inr (e, inr (e', inl h))) f = inr (e, inr (e', inl h))
lex_key (key l c x y) (key m d r s) ks js (inr (e, inr (e', inr (e'', inl h)))) f = inr (e, inr (e', inr (e'', inl h)))
lex_key (key l c x y) (key m d r s) ks js (inr (e, inr (e', inr (e'', inr (e''', h))))) f = inr (e, inr (e', inr (e'', inr (e''', f (cc (code_inj c d e'))))))

module _ (hop : Key → ℕ → Option (ℕ × ℕ)) (D b : ℕ) where
  -- a step before a rest
  pub record Before {v x : ℕ} {H : List ℕ} (k : Key) (c : ℕ) {t z : ℕ} {G : List ℕ} (r : Rest hop D b t z G) (s : Rest hop D b v x H) : Type 0 where
    pub steps : path hop D b s ≡ k ∷ path hop D b r
    pub weighs : price hop D b s ≡ c + price hop D b r

  pub prepend : {v x c t z : ℕ} {H G : List ℕ} {k : Key} → Step hop v x H k c t z G → (r : Rest hop D b t z G) → (s : Rest hop D b v x H) × Before k c r s
  unfolding path price keys weight trail toll
  prepend (by_conv l c h) (rest d o) = (rest (carry l c h d) o, record { steps = refl; weighs = omega arith })
  prepend (by_wrap {x = x} {z = z} l c h) (rest {u = u} {y = y} i (out m e g d o)) =
      (rest (tunnel l c m e h i g d) o, record { steps = ap (λ (ks : List Key). key l wrap x z ∷ ks) (append_assoc (keys hop i) (key m unwrap x y ∷ keys hop d) (trail hop D b o)); weighs = omega arith })
  prepend (by_unwrap l c h) (rest d o) = (rest stay (out l c h d o), record { steps = refl; weighs = omega arith })

  -- a rest is at its end, or begins with a step
  pub data Seen : (v x : ℕ) (H : List ℕ) → Rest hop D b v x H → Type 0 where
    ended : Seen D b [] (rest stay end)
    began : {v x c t z : ℕ} {H G : List ℕ} {k : Key} (s : Rest hop D b v x H) → Step hop v x H k c t z G → (r : Rest hop D b t z G) → Before k c r s → Seen v x H s

  pub seen : {v x : ℕ} {H : List ℕ} (s : Rest hop D b v x H) → Seen v x H s
  unfolding path price keys weight trail toll
  seen (rest stay end) = ended
  seen (rest stay (out m c h d o)) = began (rest stay (out m c h d o)) (by_unwrap m c h) (rest d o) (record { steps = refl; weighs = omega arith })
  seen (rest (carry l c h d) o) = began (rest (carry l c h d) o) (by_conv l c h) (rest d o) (record { steps = refl; weighs = omega arith })
  seen (rest {x = x} (tunnel {z = z} {q = q} l c m e h i g d) o) =
      began (rest (tunnel l c m e h i g d) o) (by_wrap l c h) (rest i (out m e g d o))
      (record { steps = ap (λ (ks : List Key). key l wrap x z ∷ ks) (append_assoc (keys hop i) (key m unwrap x q ∷ keys hop d) (trail hop D b o)); weighs = omega arith })

  -- a key leads to one place over one hidden stack, at one weight
  pub data Same (t z : ℕ) (G : List ℕ) (c : ℕ) : ℕ → ℕ → List ℕ → ℕ → Type 0 where
    same : Same t z G c t z G c

  same_by : {t z t' z' c c' : ℕ} (G : List ℕ) (o : Option (ℕ × ℕ)) → o ≡ some (t, c) → o ≡ some (t', c') → z ≡ z' → Same t z G c t' z' G c'
  same_by {t} {z} {t'} {z'} {c} {c'} G o p q e =
      let f : ◌≡◌ {A = ℕ × ℕ} (t, c) (t', c') = some-injective (t, c) (t', c') (sym p ∙ q) in
      let g : t ≡ t' = ap (λ (i : ℕ × ℕ). i.0) f in
      let h : c ≡ c' = ap (λ (i : ℕ × ℕ). i.1) f in
      rw (g, h, e) same

  once_at : {v x x' t z c t' z' c' : ℕ} {H H' G G' : List ℕ} {k k' : Key} → Step hop v x H k c t z G → Step hop v x' H' k' c' t' z' G' → x ≡ x' → H ≡ H' → k ≡ k' → Same t z G c t' z' G' c'
  once_at (by_conv {v = v} {x = x} {t = t} {z = z} {H = H} l c h) (by_conv {t = t'} {z = z'} l' c' h') p q e =
      subst (λ (L : List ℕ). Same t z H c t' z' L c') q (same_by H (hop (key l conv x z) v) h (ap (λ (j : Key). hop j v) e ∙ h') cc)
  once_at (by_wrap {v = v} {x = x} {t = t} {z = z} {H = H} l c h) (by_wrap {x = x'} {t = t'} {z = z'} {H = H'} l' c' h') p q e =
      let f : x ∷ H ≡ x' ∷ H' = cc in
      subst (λ (L : List ℕ). Same t z (x ∷ H) c t' z' L c') f (same_by (x ∷ H) (hop (key l wrap x z) v) h (ap (λ (j : Key). hop j v) e ∙ h') cc)
  once_at (by_unwrap {v = v} {x = x} {t = t} {z = z} {H = H} l c h) (by_unwrap {t = t'} {z = z'} {H = H'} l' c' h') p q e =
      let f : H ≡ H' = cc in
      subst (λ (L : List ℕ). Same t z H c t' z' L c') f (same_by H (hop (key l unwrap z x) v) h (ap (λ (j : Key). hop j v) e ∙ h') cc)
  once_at (by_conv l c h) (by_wrap l' c' h') p q e = absurd (cc)
  once_at (by_conv l c h) (by_unwrap l' c' h') p q e = absurd (cc)
  once_at (by_wrap l c h) (by_conv l' c' h') p q e = absurd (cc)
  once_at (by_wrap l c h) (by_unwrap l' c' h') p q e = absurd (cc)
  once_at (by_unwrap l c h) (by_conv l' c' h') p q e = absurd (cc)
  once_at (by_unwrap l c h) (by_wrap l' c' h') p q e = absurd (cc)

  pub once : {v x t z c t' z' c' : ℕ} {H G G' : List ℕ} {k : Key} → Step hop v x H k c t z G → Step hop v x H k c' t' z' G' → Same t z G c t' z' G' c'
  once s r = once_at s r refl refl refl

  same_first : {t z u m c t' z' c' : ℕ} {G G' : List ℕ} {js : List Key} → First hop D b t z G u m js → Same t z G c t' z' G' c' → (r : Rest hop D b t' z' G')
      → c' + price hop D b r ≡ c + u → length (path hop D b r) ≡ m → Lex (flat js) (flat (path hop D b r))
  same_first f same r p q = f.first r (omega arith) q

  -- a first rest behind the chosen step
  chosen_first : {v x w n t z u m : ℕ} {H G : List ℕ} {k : Key} {js : List Key} → Chosen hop D b v x H w n k t z G u m → First hop D b t z G u m js
      → (s : Rest hop D b v x H) → price hop D b s ≡ w → length (path hop D b s) ≡ n → Seen v x H s → Lex (flat (k ∷ js)) (flat (path hop D b s))
  unfolding path keys trail
  chosen_first c f s p q ended = absurd (omega (arith, c.fits.counts))
  chosen_first {v} {x} {H = H} {k = k} {js = js} c f s p q (began {c = e} {t = t'} {z = z'} {G = G'} {k = j} _ g r i) =
      let n : length (path hop D b s) ≡ suc (length (path hop D b r)) = ap (λ (ks : List Key). length ks) i.steps in
      let a = c.least j t' z' G' (price hop D b r) (length (path hop D b r))
      (record { cost = e; goes_by = g; weighs = sym p ∙ i.weighs; counts = sym q ∙ n; goes = record { by = r; weighs = refl; counts = refl } }) in
      rw i.steps (lex_key k j js (path hop D b r) a
      (λ o. same_first f (once c.fits.goes_by (rw (← o) at g)) r (omega (arith, i.weighs, c.fits.weighs)) (omega (arith, c.fits.counts))))

  pub chosen_leads : {v x w n t z u m : ℕ} {H G : List ℕ} {k : Key} → Chosen hop D b v x H w n k t z G u m → Leads hop D b v x H w n (k ∷ []) t z G u m
  chosen_leads {k = k} c = record {
    counts = omega (arith, c.fits.counts);
    on = λ js f.
        let s = prepend c.fits.goes_by f.by in
        record {
          by = s.0;
          is = s.1.steps ∙ ap (λ (ks : List Key). k ∷ ks) f.is;
          weighs = omega (arith, s.1.weighs, f.weighs, c.fits.weighs);
          counts = omega (arith, f.counts, c.fits.counts);
          first = λ r p q. chosen_first c f r p q (seen r);
        };
  }

  pub leads_none : {v x w n : ℕ} {H : List ℕ} → Leads hop D b v x H w n [] v x H w n
  leads_none = record { counts = omega arith; on = λ js f. f }

  pub leads_then : {v x w n t z u m r q i j : ℕ} {H G F : List ℕ} {ks js : List Key} → Leads hop D b v x H w n ks t z G u m → Leads hop D b t z G u m js r q F i j
      → Leads hop D b v x H w n (ks ++ js) r q F i j
  leads_then {ks = ks} {js = js} a c =
      record { counts = omega (arith, a.counts, c.counts, length-append ks js); on = λ is f. rw (append_assoc ks js is) (a.on (js ++ is) (c.on is f)) }

  -- with no step left there is nothing more to write
  pub finished : {v x w : ℕ} {H : List ℕ} → Goes hop D b v x H w 0 → First hop D b v x H w 0 []
  unfolding Lex flat
  finished g = record { by = g.by; is = none_left (path hop D b g.by) g.counts; weighs = g.weighs; counts = refl; first = λ r p q. tt }
    where
      none_left : (ks : List Key) → length ks ≡ 0 → ks ≡ []
      none_left [] e = refl
      none_left (k ∷ ks) e = absurd (omega arith)

  -- over nothing hidden the rests are the feasible routes
  pub rest_feasible : {S a : ℕ} (r : Rest hop D b S a []) → Feasible hop S a D b (path hop D b r) (price hop D b r)
  unfolding path price trail toll
  rest_feasible (rest d end) = rw (append-nil (keys hop d), add-zero (weight hop d)) (sound_feasible hop d)

  pub feasible_rest : {S a u : ℕ} {js : List Key} → Feasible hop S a D b js u → (r : Rest hop D b S a []) × (path hop D b r ≡ js) × (price hop D b r ≡ u)
  unfolding path price trail toll
  feasible_rest {S} {a} {u} {js} f =
      let g = parse hop D b S a js u f in
      (rest g.0 end, append-nil (keys hop g.0) ∙ g.1, add-zero (weight hop g.0) ∙ g.2)

  -- the first rest of least cost is the best route
  pub first_best : {S a w n : ℕ} {ks : List Key} → First hop D b S a [] w n ks → Least hop D b S a [] w n → Best hop S a D b ks w
  unfolding Lex rank
  first_best {S} {a} {w} {n} {ks} f l = record {
    feasible = rw (f.is, f.weighs) at (rest_feasible f.by);
    first = λ js u g. let r = feasible_rest g in rw (r.1, r.2) at (go r.0 (l.least r.0) (three n (length (path hop D b r.0))));
  }
    where
      go : (r : Rest hop D b S a []) → AtMost w n (price hop D b r) (length (path hop D b r)) → Three n (length (path hop D b r)) → Lex (rank ks w) (rank (path hop D b r) (price hop D b r))
      go r (inl h) t = inl h
      go r (inr h) (less i) = inr (h.0, inl (omega (arith, f.counts)))
      go r (inr h) (equal i) = inr (h.0, inr (f.counts ∙ i, f.first r (sym h.0) (sym i)))
      go r (inr h) (more i) = absurd (omega arith)

  -- what is least and gone on from a place, at the first of a table entry
  pub entry_least : {S a w n : ℕ} → Entry hop S a D b (within w n) → n ≤ 4096 → Least hop D b S a [] w n
  entry_least {S} {a} {w} {n} e h = record { least = λ r. go (fewer hop S a D b w n e _ _ (rest_feasible r)) }
    where
      go : {u m : ℕ} → (w < u) ⊎ ((w ≡ u) × (n ≤ min m 4097)) → AtMost w n u m
      go (inl i) = inl i
      go (inr i) = inr (i.0, omega arith)

  pub entry_goes : {S a w n : ℕ} → Entry hop S a D b (within w n) → n ≤ 4096 → Goes hop D b S a [] w n
  entry_goes {S} {a} {w} {n} e h =
      let g = (is_0 hop S a D b w n e (omega arith)).of_steps in
      let r = feasible_rest g.1 in
      record { by = r.0; weighs = r.2; counts = ap (λ (ks : List Key). length ks) r.1 ∙ g.2 }

  -- while a step is left, some step fits
  pub data Onward (v x : ℕ) (H : List ℕ) (w n : ℕ) : Type 0 where
    onward : {k : Key} {t z u m : ℕ} {G : List ℕ} → Fits hop D b v x H w n k t z G u m → Onward v x H w n

  began_on : {v x w n : ℕ} {H : List ℕ} (s : Rest hop D b v x H) → price hop D b s ≡ w → length (path hop D b s) ≡ suc n → Seen v x H s → Onward v x H w (suc n)
  unfolding path keys trail
  began_on s p q ended = absurd (omega arith)
  began_on s p q (began {c = c} _ i r e) =
      let a : length (path hop D b s) ≡ suc (length (path hop D b r)) = ap (λ (ks : List Key). length ks) e.steps in
      onward (record { cost = c; goes_by = i; weighs = sym p ∙ e.weighs; counts = sym q ∙ a; goes = record { by = r; weighs = refl; counts = refl } })

  pub goes_on : {v x w n : ℕ} {H : List ℕ} → Goes hop D b v x H w (suc n) → Onward v x H w (suc n)
  goes_on g = began_on g.by g.weighs g.counts (seen g.by)

  -- over something hidden a step is left, at least one for each hidden protocol
  trail_long : {u y : ℕ} {H : List ℕ} (o : Exit hop D b u y H) → length H ≤ length (trail hop D b o)
  unfolding trail
  trail_long end = omega arith
  trail_long (out {H = H} m c h d o) = omega (arith, trail_long o, length-append (keys hop d) (trail hop D b o))

  pub goes_long : {v x w n : ℕ} {H : List ℕ} → Goes hop D b v x H w n → length H ≤ n
  unfolding path
  goes_long {H = H} g = omega (arith, g.counts, long g.by)
    where
      long : {v x : ℕ} (r : Rest hop D b v x H) → length H ≤ length (path hop D b r)
      long (rest d o) = omega (arith, trail_long o, length-append (keys hop d) (trail hop D b o))
