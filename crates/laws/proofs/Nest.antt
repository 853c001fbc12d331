-- The records of the open levels, and the state of the unfolding: each kind of step keeps them, and each test tells whether its step fits.
-- Assumes nothing.
use Prim.Native.Nat.{ℕ, suc, ◌+◌, ◌<◌}
use mathlib.Core.Path.{◌≡◌, refl}
use mathlib.Core.Bool.{Bool}
use mathlib.Core.List.{List, [], ◌∷◌}
use mathlib.Core.Option.{Option, some}
use mathlib.Core.Logic.{◌↔◌}
use native.Mathlib.Omega.{arith}
use lib.Dec.{T}
use lib.ListN.{length-append}
use Rattle.paper.specs.Net.{conv, wrap, unwrap, Key, key}
use Rattle.laws.specs.Level.{stay, carry, tunnel, keys, weight}
use Rattle.laws.specs.Value.{Value, within}
use Rattle.laws.specs.Rest.{by_wrap, Goes}
use Rattle.laws.specs.Unfold.{Exact, Way, Ok, Opens, Opened, Begun, Tight, Marks, Frame, frame, hides, Nest, base, over}
use Rattle.laws.proofs.Fixpoint.{Valid}
use Rattle.laws.proofs.Tight.{join, join_weight, join_steps, least_step, begun_way, goes_exit, exit_goes, tight_goes, goes_tight, ok_goes, goes_ok, table_way}

module _ (hop : Key → ℕ → Option (ℕ × ℕ)) (N P : ℕ) (t : ℕ → ℕ → ℕ → ℕ → Value) where
  pub way_none : {v x w n : ℕ} → Way hop N P t v x w n v x w n
  unfolding keys weight
  way_none = record { by = stay; weighs = omega arith; counts = omega arith }

  pub way_then : {v x w n r q u m z y i j : ℕ} → Way hop N P t v x w n r q u m → Way hop N P t r q u m z y i j → Way hop N P t v x w n z y i j
  way_then a c =
      record {
        by = join hop a.by c.by;
        weighs = omega (arith, a.weighs, c.weighs, join_weight hop a.by c.by);
        counts = omega (arith, a.counts, c.counts, join_steps hop a.by c.by);
      }

  pub way_conv : {v x w n u m r z : ℕ} (l c : ℕ) → hop (key l conv x z) v ≡ some (r, c) → w ≡ c + u → n ≡ suc m → Way hop N P t v x w n r z u m
  unfolding keys weight
  way_conv l c h p q = record { by = carry l c h stay; weighs = omega arith; counts = omega arith }

  -- a whole tunnel: the wrap, the way inside, the unwrap
  pub way_tunnel : {v x w n o z w₂ n₂ u y w₃ n₃ s w' n' : ℕ} (l c m e : ℕ) → hop (key l wrap x z) v ≡ some (o, c) → w ≡ c + w₂ → n ≡ suc n₂ → Way hop N P t o z w₂ n₂ u y w₃ n₃
      → hop (key m unwrap x y) u ≡ some (s, e) → w₃ ≡ e + w' → n₃ ≡ suc n' → Way hop N P t v x w n s x w' n'
  unfolding keys weight
  way_tunnel {x = x} {y = y} l c m e h p q i k f g =
      record { by = tunnel l c m e h i.by k stay; weighs = omega (arith, i.weighs); counts = omega (arith, i.counts, length-append (keys hop i.by) (key m unwrap x y ∷ [])) }

  module _ (D b : ℕ) where
    pub nest_way : {f : Frame} {fs : List Frame} {v x w n r q u m : ℕ} → Nest hop N P t D b f fs v x w n → Way hop N P t v x w n r q u m → Nest hop N P t D b f fs r q u m
    nest_way (base e m i) j = base e m (way_then i j)
    nest_way (over l c k h p q m i) j = over l c k h p q m (way_then i j)

    pub nest_unwrap : {f g : Frame} {fs : List Frame} {v x w n z s u m : ℕ} (l e : ℕ) → Nest hop N P t D b f (g ∷ fs) v x w n → f.hidden ≡ z
        → hop (key l unwrap z x) v ≡ some (s, e) → w ≡ e + u → n ≡ suc m → Nest hop N P t D b g fs s z u m
    nest_unwrap {f} {v = v} {x = x} {s = s} l e (over l' c k h p q m i) j g a d =
        let g' : hop (key l unwrap f.hidden x) v ≡ some (s, e) = rw j g in
        rw j at (nest_way k (way_tunnel l' c l e h p q i g' a d))

    come : {f : Frame} {fs : List Frame} {v x w n : ℕ} → Nest hop N P t D b f fs v x w n → Way hop N P t f.node f.protocol f.weighs f.counts v x w n
    come (base e m i) = i
    come (over l c k h p q m i) = i

    pub marks : {f : Frame} {fs : List Frame} {v x w n : ℕ} → Nest hop N P t D b f fs v x w n → Marks hop N P t D b f (hides f fs)
    unfolding hides
    marks (base e m i) = m
    marks (over l c k h p q m i) = m

    module _ (valid : Valid hop N P) (exact : Exact hop N P t) where
      pub begun_wrap : {r q w n o z u m : ℕ} {H : List ℕ} (l c : ℕ) → Begun hop N P t D b r q H w n → hop (key l wrap q z) r ≡ some (o, c) → w ≡ c + u → n ≡ suc m → Begun hop N P t D b o z (q ∷ H) u m
      begun_wrap l c f h p q =
          let i = valid.inside _ _ _ _ _ _ _ h in
          record { node = i.0; protocol = i.1; light = omega (arith, f.light); short = omega (arith, f.short); least = least_step hop D b f.least (by_wrap l c h) p q }

      -- nothing costs less than what is left, where the inmost level began and where it stands
      pub inmost : {f : Frame} {fs : List Frame} {v x w n : ℕ} → Nest hop N P t D b f fs v x w n → Begun hop N P t D b f.node f.protocol (hides f fs) f.weighs f.counts
      unfolding hides
      inmost (base e m i) = e
      inmost (over l c k h p q m i) = begun_wrap l c (begun_way hop N P t valid exact D b (inmost k) (come k)) h p q

      pub nest_begun : {f : Frame} {fs : List Frame} {v x w n : ℕ} → Nest hop N P t D b f fs v x w n → Begun hop N P t D b v x (hides f fs) w n
      nest_begun k = begun_way hop N P t valid exact D b (inmost k) (come k)

      -- the test at a place of the inmost level: is there a rest of just what is left?
      pub test_ok : {f : Frame} {fs : List Frame} {r q u m : ℕ} → Nest hop N P t D b f fs r q u m → Ok hop N P t f r q u m ↔ Goes hop D b r q (hides f fs) u m
      test_ok k = (ok_goes hop N P t valid exact D b (inmost k) (marks k) (come k), goes_ok hop N P t valid exact D b (inmost k) (marks k) (come k))

      -- before a tunnel is opened
      module _ {f : Frame} {fs : List Frame} {v x w n r z u m : ℕ} (l c : ℕ) (k : Nest hop N P t D b f fs v x w n) (h : hop (key l wrap x z) v ≡ some (r, c)) (p : w ≡ c + u) (q : n ≡ suc m) where
        opened : Begun hop N P t D b r z (x ∷ hides f fs) u m
        opened = begun_wrap l c (nest_begun k) h p q

        -- the tests find the tight exits
        pub opens_iff : {i j : ℕ} → i < N → j < P → Opens hop N P t f x r z u m i j ↔ Tight hop N P t D b r z (x ∷ hides f fs) u m i j
        opens_iff {i} {j} hi hj = (there, back)
          where
            -- the level below, where the tunnel ends
            after : {a s w' n' o e to : ℕ} → t r z i j ≡ within a s → a + (e + w') ≡ u → s + suc n' ≡ m → hop (key o unwrap x j) i ≡ some (to, e) → Nest hop N P t D b f fs to x w' n'
            after {o = o} {e} y pw pn g = nest_way k (way_tunnel l c o e h p q (table_way hop N P t valid exact D b opened.node opened.protocol hi hj y opened.short pw pn) g refl refl)

            there : Opens hop N P t f x r z u m i j → Tight hop N P t D b r z (x ∷ hides f fs) u m i j
            there o =
                let e = goes_exit hop D b o.closes ((test_ok (after o.through o.weighs o.counts o.closes)).0 o.ok) in
                record { a = o.a; s = o.s; is = o.through; exit = e.0; weighs = omega (arith, e.1, o.weighs); counts = omega (arith, e.2, o.counts) }

            back : Tight hop N P t D b r z (x ∷ hides f fs) u m i j → Opens hop N P t f x r z u m i j
            back y =
                let (o, to, c', w', n', g, e, pw, pn) = exit_goes hop D b y.exit in
                let pw' : y.a + (c' + w') ≡ u = omega (arith, y.weighs) in
                let pn' : y.s + suc n' ≡ m = omega (arith, y.counts) in
                record { m = o; to = to; c = c'; a = y.a; s = y.s; w' = w'; n' = n'; closes = g; through = y.is; weighs = pw'; counts = pn'; ok = (test_ok (after y.is pw' pn' g)).1 e }

        -- the test of a tunnel: has it an exit?
        pub test_open : Opened hop N P t f x r z u m ↔ Goes hop D b r z (x ∷ hides f fs) u m
        test_open = (
          λ i. tight_goes hop N P t valid exact D b opened i.node i.protocol ((opens_iff i.node i.protocol).0 i.opens),
          λ i.
              let s = goes_tight hop N P t valid exact D b opened i in
              record { u = s.u; y = s.y; node = s.node; protocol = s.protocol; opens = (opens_iff s.node s.protocol).1 s.tight },
        )

        -- a record that holds the exits found opens the level
        pub nest_wrap : (E : ℕ → ℕ → Bool) → ((i j : ℕ) → i < N → j < P → T (E i j) ↔ Opens hop N P t f x r z u m i j)
            → Nest hop N P t D b (frame r z x u m E) (f ∷ fs) r z u m
        nest_wrap E e = over l c k h p q (record { says = λ i j hi hj. (λ y. (opens_iff hi hj).0 ((e i j hi hj).0 y), λ y. (e i j hi hj).1 ((opens_iff hi hj).1 y)) }) way_none
