-- A place's cheapest level stands in the exact table; so the tests made with a level's record tell whether there is a rest of just what is left.
-- Assumes nothing.
use Prim.Native.Nat.{ℕ, suc, ◌+◌, ◌<◌, ◌≤◌, min}
use mathlib.Core.Path.{◌≡◌, refl, ap, ◌∙◌}
use mathlib.Core.List.{List, ◌∷◌, ◌++◌}
use mathlib.Core.Option.{Option, some}
use mathlib.Core.Logic.{◌⊎◌, inl, inr}
use native.Mathlib.Omega.{arith}
use lib.ListN.{length, length-append}
use Rattle.paper.specs.Net.{unwrap, Key, key}
use Rattle.paper.specs.Route.{Feasible}
use Rattle.laws.specs.Level.{Level, stay, carry, tunnel, keys, weight}
use Rattle.laws.specs.Value.{Value, within, never, cap, Entry}
use Rattle.laws.specs.Rest.{AtMost, Step, Exit, out, trail, toll, Rest, rest, path, price, Goes, Least}
use Rattle.laws.specs.Unfold.{Exact, Way, Ok, Tight, Begun, Marks, Frame}
use Rattle.laws.proofs.Parse.{parse, sound_feasible}
use Rattle.laws.proofs.Cap.{le_antisym_v, cap_light, cap_mono}
use Rattle.laws.proofs.Outcome.{never_cap, is_0}
use Rattle.laws.proofs.Fixpoint.{Valid, ends}
use Rattle.laws.proofs.Depth.{Cheapest}
use Rattle.laws.proofs.Greedy.{prepend}

module _ (hop : Key → ℕ → Option (ℕ × ℕ)) where
  -- one level after another
  unfoldable pub join : {v x r q u y : ℕ} → Level hop v x r q → Level hop r q u y → Level hop v x u y
  join stay e = e
  join (carry l w h d) e = carry l w h (join d e)
  join (tunnel l w m f h i k d) e = tunnel l w m f h i k (join d e)

  pub join_weight : {v x r q u y : ℕ} (d : Level hop v x r q) (e : Level hop r q u y) → weight hop (join d e) ≡ weight hop d + weight hop e
  unfolding join weight
  join_weight stay e = omega arith
  join_weight (carry l w h d) e = omega (arith, join_weight d e)
  join_weight (tunnel l w m f h i k d) e = omega (arith, join_weight d e)

  pub join_steps : {v x r q u y : ℕ} (d : Level hop v x r q) (e : Level hop r q u y) → length (keys hop (join d e)) ≡ length (keys hop d) + length (keys hop e)
  unfolding join keys
  join_steps stay e = omega arith
  join_steps (carry l w h d) e = omega (arith, join_steps d e)
  join_steps {x = x} (tunnel {q = q} l w m f h i k d) e =
      omega (arith, join_steps d e, length-append (keys hop i) (key m unwrap x q ∷ keys hop d), length-append (keys hop i) (key m unwrap x q ∷ keys hop (join d e)))

  -- a cheapest level's cost is its pair's entry
  pub cheapest_entry : {v x u y : ℕ} (d : Level hop v x u y) (e : Value) → Cheapest hop d → Entry hop v x u y e → weight hop d ≤ 4000000000 → length (keys hop d) ≤ 4096
      → e ≡ within (weight hop d) (length (keys hop d))
  unfolding Cheapest
  cheapest_entry {v} {x} {u} {y} d e c p hw hn =
      let n : min (length (keys hop d)) 4097 ≡ length (keys hop d) = omega arith in
      go p.attained ∙ cap_light (weight hop d) (length (keys hop d)) hw ∙ ap (λ (k : ℕ). within (weight hop d) k) n
    where
      f : Feasible hop v x u y (keys hop d) (weight hop d)
      f = sound_feasible hop d

      go : (e ≡ never) ⊎ ((ks : List Key) × (w : ℕ) × Feasible hop v x u y ks w × (e ≡ cap w (length ks))) → e ≡ cap (weight hop d) (length (keys hop d))
      go (inl i) = absurd (never_cap (weight hop d) (length (keys hop d)) (rw i at (p.least (keys hop d) (weight hop d) f)))
      go (inr (ks, w, g, i)) =
          let j = parse hop u y v x ks w g in
          le_antisym_v e (cap (weight hop d) (length (keys hop d))) (p.least (keys hop d) (weight hop d) f)
          (rw i (cap_mono (weight hop d) (length (keys hop d)) w (length ks) (rw (j.1, j.2) at (c j.0))))

  -- and an entry is some level's cost
  pub entry_level : {v x u y a s : ℕ} → Entry hop v x u y (within a s) → s ≤ 4096 → (d : Level hop v x u y) × (weight hop d ≡ a) × (length (keys hop d) ≡ s)
  entry_level {v} {x} {u} {y} {a} {s} e h =
      let g = (is_0 hop v x u y a s e (omega arith)).of_steps in
      let j = parse hop u y v x g.0 a g.1 in
      (j.0, j.2, ap (λ (ks : List Key). length ks) j.1 ∙ g.2)

  module _ (D b : ℕ) where
    -- what is least stays least along a step, and along a level
    pub least_step : {v x w n t z u m c : ℕ} {H G : List ℕ} {k : Key} → Least hop D b v x H w n → Step hop v x H k c t z G → w ≡ c + u → n ≡ suc m → Least hop D b t z G u m
    least_step {w = w} {n} {u = u} {m} {c} l s p q = record {
      least = λ r. let i = prepend hop D b s r in
          go _ _ _ _ i.1.weighs (ap (λ (ks : List Key). length ks) i.1.steps) (l.least i.0);
    }
      where
        go : (a b a' b' : ℕ) → a' ≡ c + a → b' ≡ suc b → AtMost w n a' b' → AtMost u m a b
        go a b a' b' e f (inl h) = inl (omega arith)
        go a b a' b' e f (inr h) = inr (omega arith, omega arith)

    pub least_along : {v x w n r q u m : ℕ} {H : List ℕ} → Least hop D b v x H w n → (d : Level hop v x r q) → weight hop d + u ≡ w → length (keys hop d) + m ≡ n → Least hop D b r q H u m
    unfolding path price
    least_along {w = w} {n} {r} {q} {u} {m} {H} l d p k = record { least = go }
      where
        shift : (a b a' b' : ℕ) → a' ≡ weight hop d + a → b' ≡ length (keys hop d) + b → AtMost w n a' b' → AtMost u m a b
        shift a b a' b' e f (inl h) = inl (omega arith)
        shift a b a' b' e f (inr h) = inr (omega arith, omega arith)

        go : (s : Rest hop D b r q H) → AtMost u m (price hop D b s) (length (path hop D b s))
        go (rest e o) =
            shift _ _ _ _ (omega (arith, join_weight d e))
            (omega (arith, join_steps d e, length-append (keys hop e) (trail hop D b o), length-append (keys hop (join d e)) (trail hop D b o)))
            (l.least (rest (join d e) o))

    -- the level of a rest of least cost is cheapest
    pub least_cheapest : {v x w n u y : ℕ} {H : List ℕ} → Least hop D b v x H w n → (d : Level hop v x u y) (o : Exit hop D b u y H)
        → weight hop d + toll hop D b o ≡ w → length (keys hop d) + length (trail hop D b o) ≡ n → Cheapest hop d
    unfolding Cheapest path price
    least_cheapest {w = w} {n} l d o p q e = go _ _ refl (length-append (keys hop e) (trail hop D b o)) (l.least (rest e o))
      where
        go : (a k : ℕ) → a ≡ weight hop e + toll hop D b o → k ≡ length (keys hop e) + length (trail hop D b o) → AtMost w n a k
            → AtMost (weight hop d) (length (keys hop d)) (weight hop e) (length (keys hop e))
        go a k i j (inl h) = inl (omega arith)
        go a k i j (inr h) = inr (omega arith, omega arith)

    -- an unwrap and a rest behind it
    pub goes_exit : {u y z t m c w n : ℕ} {H : List ℕ} → hop (key m unwrap z y) u ≡ some (t, c) → Goes hop D b t z H w n
        → (o : Exit hop D b u y (z ∷ H)) × (toll hop D b o ≡ c + w) × (length (trail hop D b o) ≡ suc n)
    unfolding path price trail toll
    goes_exit {u} {y} {z} {t} {m} {c} {w} {n} {H} h g = go g.by g.weighs g.counts
      where
        go : (r : Rest hop D b t z H) → price hop D b r ≡ w → length (path hop D b r) ≡ n → (o : Exit hop D b u y (z ∷ H)) × (toll hop D b o ≡ c + w) × (length (trail hop D b o) ≡ suc n)
        go (rest d o) p q = (out m c h d o, omega arith, omega arith)

    pub exit_goes : {u y z : ℕ} {H : List ℕ} (o : Exit hop D b u y (z ∷ H))
        → (m t c w n : ℕ) × (hop (key m unwrap z y) u ≡ some (t, c)) × Goes hop D b t z H w n × (toll hop D b o ≡ c + w) × (length (trail hop D b o) ≡ suc n)
    unfolding path price trail toll
    exit_goes (out {t = t} m c h d o) =
        (m, t, c, weight hop d + toll hop D b o, length (keys hop d ++ trail hop D b o), h, record { by = rest d o; weighs = refl; counts = refl }, refl, refl)

module _ (hop : Key → ℕ → Option (ℕ × ℕ)) (N P : ℕ) (t : ℕ → ℕ → ℕ → ℕ → Value) (valid : Valid hop N P) (exact : Exact hop N P t) (D b : ℕ) where
  pub table_level : {v x u y a s : ℕ} → v < N → x < P → u < N → y < P → t v x u y ≡ within a s → s ≤ 4096 → (d : Level hop v x u y) × (weight hop d ≡ a) × (length (keys hop d) ≡ s)
  table_level {v} {x} {u} {y} hv hx hu hy e h = entry_level hop (rw e at (exact.entry v x u y hv hx hu hy)) h

  pub table_way : {v x u y a s w n w' n' : ℕ} → v < N → x < P → u < N → y < P → t v x u y ≡ within a s → n ≤ 4096 → a + w' ≡ w → s + n' ≡ n → Way hop N P t v x w n u y w' n'
  table_way hv hx hu hy e h p q = let d = table_level hv hx hu hy e (omega arith) in record { by = d.0; weighs = omega (arith, d.1); counts = omega (arith, d.2) }

  -- a place that is tight, and a rest
  pub tight_goes : {v x w n u y : ℕ} {H : List ℕ} → Begun hop N P t D b v x H w n → u < N → y < P → Tight hop N P t D b v x H w n u y → Goes hop D b v x H w n
  unfolding path price
  tight_goes f hu hy k =
      let d = table_level f.node f.protocol hu hy k.is (omega (arith, f.short, k.counts)) in
      record {
        by = rest d.0 k.exit;
        weighs = omega (arith, d.1, k.weighs);
        counts = omega (arith, d.2, k.counts, length-append (keys hop d.0) (trail hop D b k.exit));
      }

  exit_tight : {v x w n u y : ℕ} {H : List ℕ} → Begun hop N P t D b v x H w n → (d : Level hop v x u y) (o : Exit hop D b u y H) → weight hop d + toll hop D b o ≡ w
      → length (keys hop d) + length (trail hop D b o) ≡ n → (u < N) × (y < P) × (t v x u y ≡ within (weight hop d) (length (keys hop d)))
  exit_tight {v} {x} {u = u} {y} f d o p q =
      let i = ends hop N P valid d f.node f.protocol in (
        i.0,
        i.1,
        cheapest_entry hop d (t v x u y) (least_cheapest hop D b f.least d o p q) (exact.entry v x u y f.node f.protocol i.0 i.1) (omega (arith, f.light)) (omega (arith, f.short)),
      )

  pub record Somewhere (v x : ℕ) (H : List ℕ) (w n : ℕ) : Type 0 where
    pub u : ℕ
    pub y : ℕ
    pub node : u < N
    pub protocol : y < P
    pub tight : Tight hop N P t D b v x H w n u y

  pub goes_tight : {v x w n : ℕ} {H : List ℕ} → Begun hop N P t D b v x H w n → Goes hop D b v x H w n → Somewhere v x H w n
  unfolding path price
  goes_tight {v} {x} {w} {n} {H} f g = go g.by g.weighs g.counts
    where
      go : (r : Rest hop D b v x H) → price hop D b r ≡ w → length (path hop D b r) ≡ n → Somewhere v x H w n
      go (rest {u = u} {y = y} d o) p q =
          let m : length (keys hop d) + length (trail hop D b o) ≡ n = omega (arith, length-append (keys hop d) (trail hop D b o)) in
          let i = exit_tight f d o p m in
          record { u = u; y = y; node = i.0; protocol = i.1; tight = record { a = weight hop d; s = length (keys hop d); is = i.2; exit = o; weighs = p; counts = m } }

  pub begun_way : {v x w n r q u m : ℕ} {H : List ℕ} → Begun hop N P t D b v x H w n → Way hop N P t v x w n r q u m → Begun hop N P t D b r q H u m
  begun_way i way =
      let e = ends hop N P valid way.by i.node i.protocol in
      record {
        node = e.0;
        protocol = e.1;
        light = omega (arith, i.light, way.weighs);
        short = omega (arith, i.short, way.counts);
        least = least_along hop D b i.least way.by way.weighs way.counts;
      }

  -- a test that is passed at any place: some rest costs what it says
  pub ok_rest : {f : Frame} {H : List ℕ} {r q w n : ℕ} → Marks hop N P t D b f H → r < N → q < P → (k : Ok hop N P t f r q w n) → k.s' ≤ 4096 → Goes hop D b r q H w n
  unfolding path price
  ok_rest m hr hq k short =
      let h = (m.says k.u k.y k.node k.protocol).0 k.marked in
      let e : k.a ≡ h.a = cc (k.from_start, h.is) in
      let g : k.s ≡ h.s = cc (k.from_start, h.is) in
      let d = table_level hr hq k.node k.protocol k.from_here short in
      record {
        by = rest d.0 h.exit;
        weighs = omega (arith, d.1, k.weighs, h.weighs);
        counts = omega (arith, d.2, k.counts, h.counts, length-append (keys hop d.0) (trail hop D b h.exit));
      }

  -- the test at a place that the level has come to
  module _ {f : Frame} {H : List ℕ} (i : Begun hop N P t D b f.node f.protocol H f.weighs f.counts) (m : Marks hop N P t D b f H) {r q w n : ℕ}
      (way : Way hop N P t f.node f.protocol f.weighs f.counts r q w n) where
    here : Begun hop N P t D b r q H w n
    here = begun_way i way

    pub ok_goes : Ok hop N P t f r q w n → Goes hop D b r q H w n
    ok_goes k =
        let h = (m.says k.u k.y k.node k.protocol).0 k.marked in
        let g : k.s ≡ h.s = cc (k.from_start, h.is) in
        ok_rest m here.node here.protocol k (omega (arith, here.short, k.counts, h.counts))

    pub goes_ok : Goes hop D b r q H w n → Ok hop N P t f r q w n
    unfolding path price
    goes_ok g = go g.by g.weighs g.counts
      where
        go : (s : Rest hop D b r q H) → price hop D b s ≡ w → length (path hop D b s) ≡ n → Ok hop N P t f r q w n
        go (rest {u = u} {y = y} d o) p k =
            let d' = join hop way.by d in
            let c : length (keys hop d) + length (trail hop D b o) ≡ n = omega (arith, length-append (keys hop d) (trail hop D b o)) in
            let p' : weight hop d' + toll hop D b o ≡ f.weighs = omega (arith, join_weight hop way.by d, way.weighs) in
            let c' : length (keys hop d') + length (trail hop D b o) ≡ f.counts = omega (arith, join_steps hop way.by d, way.counts) in
            let e = exit_tight i d' o p' c' in
            record {
              u = u;
              y = y;
              a = weight hop d';
              s = length (keys hop d');
              a' = weight hop d;
              s' = length (keys hop d);
              node = e.0;
              protocol = e.1;
              marked = (m.says u y e.0 e.1).1 (record { a = weight hop d'; s = length (keys hop d'); is = e.2; exit = o; weighs = p'; counts = c' });
              from_start = e.2;
              from_here = (exit_tight here d o p c).2;
              weighs = omega arith;
              counts = omega arith;
            }
