-- The unfolding: a picked step leads on, and the functions `level` and `tunnel` meet their contracts if the calls that they make do.
-- Assumes nothing.
use Prim.Native.Nat.{ℕ, suc, ◌+◌, ◌<◌, ◌≤◌}
use mathlib.Core.Path.{◌≡◌, refl, sym}
use mathlib.Core.Bool.{Bool}
use mathlib.Core.List.{List, [], ◌∷◌, ◌++◌, append-nil}
use mathlib.Core.Option.{Option, some}
use mathlib.Core.Logic.{◌↔◌}
use native.Mathlib.Omega.{arith}
use lib.Dec.{T}
use lib.ListN.{length}
use Rattle.paper.specs.Net.{conv, wrap, unwrap, Key, key}
use Rattle.paper.specs.Route.{Best}
use Rattle.laws.specs.Value.{Value, within, Entry}
use Rattle.laws.specs.Rest.{Step, by_conv, by_wrap, by_unwrap, Goes, Chosen, Exit, end, trail, toll}
use Rattle.laws.specs.Unfold.{Exact, Opens, Passes, conv_passes, wrap_passes, unwrap_passes, Picked, Begun, Tight, Frame, frame, hides, Nest, base, over, State, Moved, Levelled, bottom, closed, Tunnelled}
use Rattle.laws.proofs.Fixpoint.{Valid, Relaxed, Attained, entry}
use Rattle.laws.proofs.Greedy.{chosen_leads, leads_none, leads_then, finished, first_best, entry_least, entry_goes, Onward, onward, goes_on, goes_long}
use Rattle.laws.proofs.Outcome.{least_weight}
use Rattle.laws.proofs.Nest.{way_none, way_conv, nest_way, nest_unwrap, nest_wrap, test_ok, test_open}

-- a table that the relaxation has closed is exact
pub closed_exact : (hop : Key → ℕ → Option (ℕ × ℕ)) (N P : ℕ) (t : ℕ → ℕ → ℕ → ℕ → Value) → Valid hop N P → Relaxed hop N P t → Attained hop N P t → Exact hop N P t
closed_exact hop N P t valid rel att = record { entry = entry hop N P valid t rel att }

module _ (hop : Key → ℕ → Option (ℕ × ℕ)) (N P : ℕ) (t : ℕ → ℕ → ℕ → ℕ → Value) (D b : ℕ) (valid : Valid hop N P) (exact : Exact hop N P t) where
  -- a step that fits passes its test
  step_passes : {f : Frame} {fs : List Frame} {v x w n c r z u m : ℕ} {H G : List ℕ} {k : Key} → Nest hop N P t D b f fs v x w n → hides f fs ≡ H → Step hop v x H k c r z G → w ≡ c + u → n ≡ suc m
      → Goes hop D b r z G u m → Passes hop N P t f fs v x w n k r z u m
  unfolding hides
  step_passes k e (by_conv l c h) p q g = conv_passes l c h p q ((test_ok hop N P t D b valid exact (nest_way hop N P t D b k (way_conv hop N P t l c h p q))).1 (rw e g))
  step_passes k e (by_wrap l c h) p q g = wrap_passes l c h p q ((test_open hop N P t D b valid exact l c k h p q).1 (rw e g))
  step_passes (base i m j) e (by_unwrap l c h) p q g = absurd (let z : ◌≡◌ {A = ℕ} 0 1 = cc in omega arith)
  step_passes {f} (over {g = f'} {fs = fs} l' c' k h' p' q' m j) e (by_unwrap {z = z} {H = H} l c h) p q g =
      let i : f.hidden ≡ z = cc in
      let y : hides f' fs ≡ H = cc in
      unwrap_passes l c i h p q ((test_ok hop N P t D b valid exact (nest_unwrap hop N P t D b l c (over {f = f} l' c' k h' p' q' m j) i h p q)).1 (rw y g))

  -- a step of least key among those that pass is chosen, if it fits
  picked_chosen : {f : Frame} {fs : List Frame} {v x w n c r z u m : ℕ} {G : List ℕ} {k : Key} → Nest hop N P t D b f fs v x w n → Picked hop N P t f fs v x w n k r z u m
      → Step hop v x (hides f fs) k c r z G → w ≡ c + u → n ≡ suc m → Goes hop D b r z G u m → Chosen hop D b v x (hides f fs) w n k r z G u m
  picked_chosen {c = c} k i s p q g = record {
    fits = record { cost = c; goes_by = s; weighs = p; counts = q; goes = g };
    least = λ j r' z' G' u' m' e. i.least j r' z' u' m' (step_passes k refl e.goes_by e.weighs e.counts e.goes);
  }

  -- a step that passes is a function and a link of the node (`Check.behind`): the scan need look at no other
  pub passes_hop : {f : Frame} {fs : List Frame} {v x w n r z u m : ℕ} {k : Key} → Passes hop N P t f fs v x w n k r z u m → (c : ℕ) × (hop k v ≡ some (r, c)) × (w ≡ c + u)
  passes_hop (conv_passes l c h p q o) = (c, h, p)
  passes_hop (wrap_passes l c h p q o) = (c, h, p)
  passes_hop (unwrap_passes l c e h p q o) = (c, h, p)

  -- a step leaves one step less
  pub passes_falls : {f : Frame} {fs : List Frame} {v x w n r z u m : ℕ} {k : Key} → Passes hop N P t f fs v x w n k r z u m → n ≡ suc m
  passes_falls (conv_passes l c h p q o) = q
  passes_falls (wrap_passes l c h p q o) = q
  passes_falls (unwrap_passes l c e h p q o) = q

  -- while something is left to write, some step passes
  pub some_passes : {f : Frame} {fs : List Frame} {v x w n : ℕ} → State hop N P t D b f fs v x w (suc n) → (k : Key) × (r z u m : ℕ) × Passes hop N P t f fs v x w (suc n) k r z u m
  some_passes {f} {fs} {v} {x} {w} {n} s = go (goes_on hop D b s.goes)
    where
      go : Onward hop D b v x (hides f fs) w (suc n) → (k : Key) × (r z u m : ℕ) × Passes hop N P t f fs v x w (suc n) k r z u m
      go (onward {k = k} {t = r} {z = z} {u = u} {m = m} e) = (k, r, z, u, m, step_passes s.nest refl e.goes_by e.weighs e.counts e.goes)

  -- an inner level has a step left
  pub inner_left : {f g : Frame} {fs : List Frame} {v x w n : ℕ} → State hop N P t D b f (g ∷ fs) v x w n → 0 < n
  unfolding hides
  inner_left {g = g} {fs = fs} s = omega (arith, goes_long hop D b s.goes)

  -- the picked step, by its kind
  conv_moves : {f : Frame} {fs : List Frame} {v x w n l y z r s u m : ℕ} → State hop N P t D b f fs v x w n → Picked hop N P t f fs v x w n (key l conv y z) r s u m
      → Passes hop N P t f fs v x w n (key l conv y z) r s u m → Moved hop N P t D b f fs v x w n (key l conv y z ∷ []) f fs r s u m
  conv_moves s i (conv_passes l c h p q o) =
      let k = nest_way hop N P t D b s.nest (way_conv hop N P t l c h p q) in
      let g = (test_ok hop N P t D b valid exact k).0 o in
      record { leads = chosen_leads hop D b (picked_chosen s.nest i (by_conv l c h) p q g); state = record { nest = k; goes = g } }

  unwrap_moves : {f g : Frame} {fs : List Frame} {v x w n l y z r s u m : ℕ} → State hop N P t D b f (g ∷ fs) v x w n → Picked hop N P t f (g ∷ fs) v x w n (key l unwrap y z) r s u m
      → Passes hop N P t f (g ∷ fs) v x w n (key l unwrap y z) r s u m → Moved hop N P t D b f (g ∷ fs) v x w n (key l unwrap y z ∷ []) g fs r s u m
  unfolding hides
  unwrap_moves s i (unwrap_passes l c e h p q o) =
      let k = nest_unwrap hop N P t D b l c s.nest e h p q in
      let g = (test_ok hop N P t D b valid exact k).0 o in
      record { leads = chosen_leads hop D b (picked_chosen s.nest i (rw e (by_unwrap l c h)) p q g); state = record { nest = k; goes = g } }

  wrap_moves : {f : Frame} {fs : List Frame} {v x w n l y z r s u m : ℕ} (E : ℕ → ℕ → Bool) → ((i j : ℕ) → i < N → j < P → T (E i j) ↔ Opens hop N P t f x r s u m i j)
      → State hop N P t D b f fs v x w n → Picked hop N P t f fs v x w n (key l wrap y z) r s u m
      → Passes hop N P t f fs v x w n (key l wrap y z) r s u m → Moved hop N P t D b f fs v x w n (key l wrap y z ∷ []) (frame r s x u m E) (f ∷ fs) r s u m
  unfolding hides
  wrap_moves E e s i (wrap_passes l c h p q o) =
      let g = (test_open hop N P t D b valid exact l c s.nest h p q).0 o in
      record { leads = chosen_leads hop D b (picked_chosen s.nest i (by_wrap l c h) p q g); state = record { nest = nest_wrap hop N P t D b valid exact l c s.nest h p q E e; goes = g } }

  -- `level`: where it begins, a step of its own, a tunnel, the step that closes it, and the end at the bottom
  pub level_enter : {f : Frame} {fs : List Frame} {v x w n : ℕ} → State hop N P t D b f fs v x w n → Moved hop N P t D b f fs v x w n [] f fs v x w n
  level_enter s = record { leads = leads_none hop D b; state = s }

  moved_then : {f g h : Frame} {fs gs hs : List Frame} {v x w n r z u m r' z' u' m' : ℕ} {ks js : List Key} → Moved hop N P t D b f fs v x w n ks g gs r z u m
      → Moved hop N P t D b g gs r z u m js h hs r' z' u' m' → Moved hop N P t D b f fs v x w n (ks ++ js) h hs r' z' u' m'
  moved_then a c = record { leads = leads_then hop D b a.leads c.leads; state = c.state }

  module _ {f : Frame} {fs : List Frame} {v₀ x₀ w₀ n₀ v x w n : ℕ} {ks : List Key} (so_far : Moved hop N P t D b f fs v₀ x₀ w₀ n₀ ks f fs v x w n) where
    pub level_conv : {l y z r s u m : ℕ} → Picked hop N P t f fs v x w n (key l conv y z) r s u m → Moved hop N P t D b f fs v₀ x₀ w₀ n₀ (ks ++ key l conv y z ∷ []) f fs r s u m
    level_conv i = moved_then so_far (conv_moves so_far.state i i.passes)

    pub level_tunnel : {js : List Key} {r u m : ℕ} → Tunnelled hop N P t D b f fs v x w n js r u m → Moved hop N P t D b f fs v₀ x₀ w₀ n₀ (ks ++ js) f fs r x u m
    level_tunnel i = moved_then so_far i

  to_hidden : {f g : Frame} {fs : List Frame} {v x w n l y z r s u m : ℕ} → Passes hop N P t f (g ∷ fs) v x w n (key l unwrap y z) r s u m → s ≡ f.hidden
  to_hidden (unwrap_passes l c e h p q o) = sym e

  pub level_close : {f g : Frame} {fs : List Frame} {v₀ x₀ w₀ n₀ v x w n l y z r s u m : ℕ} {ks : List Key} → Moved hop N P t D b f (g ∷ fs) v₀ x₀ w₀ n₀ ks f (g ∷ fs) v x w n
      → Picked hop N P t f (g ∷ fs) v x w n (key l unwrap y z) r s u m → Levelled hop N P t D b f (g ∷ fs) v₀ x₀ w₀ n₀ (ks ++ key l unwrap y z ∷ []) r u m
  level_close k i = closed (rw (to_hidden i.passes) at (moved_then k (unwrap_moves k.state i i.passes)))

  pub level_end : {f : Frame} {v₀ x₀ w₀ n₀ v x w r u m : ℕ} {ks : List Key} → Moved hop N P t D b f [] v₀ x₀ w₀ n₀ ks f [] v x w 0 → Levelled hop N P t D b f [] v₀ x₀ w₀ n₀ ks r u m
  unfolding hides
  level_end {ks = ks} k = bottom (rw (append-nil ks) at (k.leads.on [] (finished hop D b k.state.goes)))

  -- the same in one piece: what a level does after some of its steps, it does from their beginning
  pub level_on : {f : Frame} {fs : List Frame} {v x w n v' x' w' n' r u m : ℕ} {ks js : List Key} → Moved hop N P t D b f fs v x w n ks f fs v' x' w' n'
      → Levelled hop N P t D b f fs v' x' w' n' js r u m → Levelled hop N P t D b f fs v x w n (ks ++ js) r u m
  unfolding hides
  level_on {js = js} k (bottom l) = bottom (k.leads.on js l)
  level_on k (closed l) = closed (moved_then k l)

  -- the bottom level picks no unwrap
  pub bottom_unwrap : {f : Frame} {v x w n l y z r s u m : ℕ} → Passes hop N P t f [] v x w n (key l unwrap y z) r s u m → ⊥
  bottom_unwrap = elim [ ]

  -- `tunnel`: the inner level's call, and what it leaves
  module _ {f : Frame} {fs : List Frame} {v x w n l y z r s u m : ℕ} (E : ℕ → ℕ → Bool) (found : (i j : ℕ) → i < N → j < P → T (E i j) ↔ Opens hop N P t f x r s u m i j)
      (st : State hop N P t D b f fs v x w n) (i : Picked hop N P t f fs v x w n (key l wrap y z) r s u m) where
    pub tunnel_enter : State hop N P t D b (frame r s x u m E) (f ∷ fs) r s u m
    tunnel_enter = (wrap_moves E found st i i.passes).state

    pub tunnel_close : {js : List Key} {r' u' m' : ℕ} → Levelled hop N P t D b (frame r s x u m E) (f ∷ fs) r s u m js r' u' m'
        → Tunnelled hop N P t D b f fs v x w n (key l wrap y z ∷ js) r' u' m'
    tunnel_close (closed k) = moved_then (wrap_moves E found st i i.passes) k

  -- the enquiry: the bottom level's call, and what it leaves
  at_end : {u y : ℕ} → Exit hop D b u y [] → (u ≡ D) × (y ≡ b)
  at_end end = (refl, refl)

  module _ {S a W C : ℕ} (h : ℕ) (E : ℕ → ℕ → Bool) (only : (i j : ℕ) → i < N → j < P → T (E i j) ↔ ((i ≡ D) × (j ≡ b))) (hS : S < N) (ha : a < P) (hD : D < N) (hb : b < P)
      (is : t S a D b ≡ within W C) (fits : C ≤ 4096) where
    exists : Entry hop S a D b (within W C)
    exists = rw is at (exact.entry S a D b hS ha hD hb)

    pub enquiry : Begun hop N P t D b S a [] W C
    enquiry = record { node = hS; protocol = ha; light = (least_weight hop S a D b W C exists).limit; short = fits; least = entry_least hop D b exists fits }

    pub start : State hop N P t D b (frame S a h W C E) [] S a W C
    unfolding hides trail toll
    start =
        record {
          nest = base enquiry (record { says = λ i j hi hj. (λ k. there ((only i j hi hj).0 k), λ k. (only i j hi hj).1 (at_end k.exit)) }) (way_none hop N P t);
          goes = entry_goes hop D b exists fits;
        }
      where
        there : {i j : ℕ} → (i ≡ D) × (j ≡ b) → Tight hop N P t D b S a [] W C i j
        there e = rw (e.0, e.1) (record { a = W; s = C; is = is; exit = end; weighs = omega arith; counts = omega arith })

    pub unfold_best : {ks : List Key} {r u m : ℕ} → Levelled hop N P t D b (frame S a h W C E) [] S a W C ks r u m → Best hop S a D b ks W × (length ks ≡ C)
    unfold_best (bottom k) = (first_best hop D b k enquiry.least, k.counts)
