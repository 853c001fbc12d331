-- A level's keys, replayed over any hidden stack, lead from its one place to its other (sound); and every feasible route is a level's keys (parse).
-- Assumes nothing.
use Prim.Native.Nat.{ℕ, ◌+◌}
use mathlib.Core.Path.{◌≡◌, refl, ◌∙◌}
use mathlib.Core.Bool.{Bool, true, false, cond, ◌&&◌}
use mathlib.Core.List.{List, [], ◌∷◌, ◌++◌, append_assoc, append-nil}
use mathlib.Core.Option.{Option, none, some, none-ne-some}
use native.Mathlib.Omega.{arith}
use native.Mathlib.Nat.{zero-add, add-zero, add_assoc}
use lib.Dec.{eqb, eqb→eq, eqb_refl, T}
use Rattle.paper.specs.Net.{Kind, conv, wrap, unwrap, Key, key}
use Rattle.paper.specs.Route.{At, at, act, move, then, step, replay, Feasible}
use Rattle.laws.specs.Level.{Level, stay, carry, tunnel, keys, weight}

T_true : (b : Bool) → T b → b ≡ true
T_true true t = refl
T_true false t = absurd t

true_t : (b : Bool) → b ≡ true → T b
true_t true e = tt
true_t false e = let z : ◌≡◌ {A = ℕ} 0 1 = cc in omega arith

pub eqb_same : (n : ℕ) → eqb n n ≡ true
eqb_same n = T_true (eqb n n) (eqb_refl n)

module _ (hop : Key → ℕ → Option (ℕ × ℕ)) where
  -- the steps of a level
  do_conv : (l x z v t w h : ℕ) (H : List ℕ) → hop (key l conv x z) v ≡ some (t, w)
      → step hop (key l conv x z) (at v (x ∷ H) h) ≡ some (at t (z ∷ H) (h + w))
  unfolding step move act
  do_conv l x z v t w h H e = rw (eqb_same x, e)

  do_wrap : (l x z v t w h : ℕ) (H : List ℕ) → hop (key l wrap x z) v ≡ some (t, w)
      → step hop (key l wrap x z) (at v (x ∷ H) h) ≡ some (at t (z ∷ x ∷ H) (h + w))
  unfolding step move act
  do_wrap l x z v t w h H e = rw (eqb_same x, e)

  do_unwrap : (l x z v t w h : ℕ) (H : List ℕ) → hop (key l unwrap x z) v ≡ some (t, w)
      → step hop (key l unwrap x z) (at v (z ∷ x ∷ H) h) ≡ some (at t (x ∷ H) (h + w))
  unfolding step move act
  do_unwrap l x z v t w h H e = simp (eqb_same x, eqb_same z, e)

  pub sound : {v x u y : ℕ} (d : Level hop v x u y) (H : List ℕ) (h : ℕ) (rest : List Key)
      → replay hop (keys hop d ++ rest) (at v (x ∷ H) h) ≡ replay hop rest (at u (y ∷ H) (h + weight hop d))
  unfolding replay keys weight then step move act
  sound stay H h rest = rw add-zero
  sound (carry l w e d) H h rest = rw (eqb_same, e, ← add_assoc h w (weight hop d)) (sound d H (h + w) rest)
  sound {x = x} {u = u} {y = y} (tunnel {r = r} {q = q} l w m f e i g d) H h rest =
      let go : replay hop (key m unwrap x q ∷ (keys hop d ++ rest)) (at r (q ∷ x ∷ H) (h + w + weight hop i)) ≡ replay hop rest (at u (y ∷ H) (h + w + weight hop i + f + weight hop d)) =
      simp (eqb_same, g) (sound d H (h + w + weight hop i + f) rest) in
      let n : h + (w + (weight hop i + (f + weight hop d))) ≡ h + w + weight hop i + f + weight hop d = omega arith in
      rw (eqb_same x, e, append_assoc (keys hop i) (key m unwrap x q ∷ keys hop d) rest, n) (sound i (x ∷ H) (h + w) (key m unwrap x q ∷ (keys hop d ++ rest)) ∙ go)

  -- a level's keys are a feasible route of its weight
  pub sound_feasible : {v x u y : ℕ} (d : Level hop v x u y) → Feasible hop v x u y (keys hop d) (weight hop d)
  unfolding replay
  sound_feasible {v} {x} {u} {y} d =
      record { runs = rw (zero-add, append-nil) at (sound d [] 0 []) }

  -- what a step that is allowed does
  pub record Stepped (l : ℕ) (c : Kind) (x y v : ℕ) (S : List ℕ) (h : ℕ) (f : At → Option At) (r : At) : Type 0 where
    pub stack : List ℕ
    pub to : ℕ
    pub cost : ℕ
    pub acts : act c x y S ≡ some stack
    pub hops : hop (key l c x y) v ≡ some (to, cost)
    pub goes : f (at to stack (h + cost)) ≡ some r

  pub stepped : (l : ℕ) (c : Kind) (x y v : ℕ) (S : List ℕ) (h : ℕ) (f : At → Option At) (r : At)
      → then (step hop (key l c x y) (at v S h)) f ≡ some r → Stepped l c x y v S h f r
  unfolding then move step act
  stepped l c x y v S h f r = go (act c x y S) (hop (key l c x y) v) refl refl
    where
      go : (o : Option (List ℕ)) (q : Option (ℕ × ℕ)) → act c x y S ≡ o → hop (key l c x y) v ≡ q
          → then (move h o q) f ≡ some r → Stepped l c x y v S h f r
      go none q a b e = absurd (none-ne-some r e)
      go (some s) none a b e = absurd (none-ne-some r e)
      go (some s) (some p) a b e = record { stack = s; to = p.0; cost = p.1; acts = a; hops = b; goes = e }

pub conv_inv : (x y s : ℕ) (H S : List ℕ) → act conv x y (s ∷ H) ≡ some S → (s ≡ x) × (y ∷ H ≡ S)
unfolding act
conv_inv x y s H S = go (eqb s x) refl
  where
    go : (b : Bool) → eqb s x ≡ b → cond {A = Option (List ℕ)} b (some (y ∷ H)) none ≡ some S → (s ≡ x) × (y ∷ H ≡ S)
    go true a e = (eqb→eq s x (true_t (eqb s x) a), cc)
    go false a e = absurd (none-ne-some S e)

pub wrap_inv : (x y s : ℕ) (H S : List ℕ) → act wrap x y (s ∷ H) ≡ some S → (s ≡ x) × (y ∷ x ∷ H ≡ S)
unfolding act
wrap_inv x y s H S = go (eqb s x) refl
  where
    go : (b : Bool) → eqb s x ≡ b → cond {A = Option (List ℕ)} b (some (y ∷ x ∷ H)) none ≡ some S → (s ≡ x) × (y ∷ x ∷ H ≡ S)
    go true a e = (eqb→eq s x (true_t (eqb s x) a), cc)
    go false a e = absurd (none-ne-some S e)

pub unwrap_inv : (x y s z : ℕ) (H S : List ℕ) → act unwrap x y (s ∷ z ∷ H) ≡ some S → (s ≡ y) × (z ≡ x) × (x ∷ H ≡ S)
unfolding act
unwrap_inv x y s z H S = go (eqb s y) (eqb z x) refl refl
  where
    go : (a b : Bool) → eqb s y ≡ a → eqb z x ≡ b → cond {A = Option (List ℕ)} (a && b) (some (x ∷ H)) none ≡ some S → (s ≡ y) × (z ≡ x) × (x ∷ H ≡ S)
    go true true f g e = (eqb→eq s y (true_t (eqb s y) f), eqb→eq z x (true_t (eqb z x) g), cc)
    go true false f g e = absurd (none-ne-some S e)
    go false b f g e = absurd (none-ne-some S e)

module _ (hop : Key → ℕ → Option (ℕ × ℕ)) (D b : ℕ) where
  -- the rest of a route to D, b, as the hidden stack orders it: a level, then the unwrap that lays bare the next protocol, and so on down
  data Spine : ℕ → ℕ → List ℕ → List Key → ℕ → Type 0 where
    last : {v x : ℕ} (ks : List Key) (w : ℕ) (d : Level hop v x D b) → keys hop d ≡ ks → weight hop d ≡ w → Spine v x [] ks w
    pop : {v x r q s z u : ℕ} {H : List ℕ} {js : List Key} (ks : List Key) (w m e : ℕ) (d : Level hop v x r q) → hop (key m unwrap z q) r ≡ some (s, e)
        → Spine s z H js u → keys hop d ++ key m unwrap z q ∷ js ≡ ks → weight hop d + (e + u) ≡ w → Spine v x (z ∷ H) ks w

  spine_conv : {t z u : ℕ} {H : List ℕ} {ks : List Key} (l x v w : ℕ) → hop (key l conv x z) v ≡ some (t, w)
      → Spine t z H ks u → Spine v x H (key l conv x z ∷ ks) (w + u)
  unfolding keys weight
  spine_conv {z = z} l x v w h (last ks u d e f) = last (key l conv x z ∷ ks) (w + u) (carry l w h d) (cc) (omega arith)
  spine_conv {z = z} l x v w h (pop ks u m k d g i e f) = pop (key l conv x z ∷ ks) (w + u) m k (carry l w h d) g i (cc) (omega arith)

  spine_wrap : {t z u : ℕ} {H : List ℕ} {ks : List Key} (l x v w : ℕ) → hop (key l wrap x z) v ≡ some (t, w)
      → Spine t z (x ∷ H) ks u → Spine v x H (key l wrap x z ∷ ks) (w + u)
  unfolding keys weight
  spine_wrap {z = z} l x v w h (pop ks u m k i g (last js a d e f) e' f') =
      last (key l wrap x z ∷ ks) (w + u) (tunnel l w m k h i g d) (cc) (omega arith)
  spine_wrap {z = z} l x v w h (pop {q = q} ks u m k i g (pop {q = q'} {z = z'} {js = js'} js a m' k' d g' i' e f) e' f') =
      pop (key l wrap x z ∷ ks) (w + u) m' k' (tunnel l w m k h i g d) g' i'
      (cc (append_assoc (keys hop i) (key m unwrap x q ∷ keys hop d) (key m' unwrap z' q' ∷ js'))) (omega arith)

  spine_unwrap : {z t u : ℕ} {H : List ℕ} {ks : List Key} (l x v w : ℕ) → hop (key l unwrap z x) v ≡ some (t, w)
      → Spine t z H ks u → Spine v x (z ∷ H) (key l unwrap z x ∷ ks) (w + u)
  unfolding keys weight
  spine_unwrap {z} {u = u} {ks = ks} l x v w h i = pop (key l unwrap z x ∷ ks) (w + u) l w stay h i refl (omega arith)

  abbrev Parsed : ℕ → ℕ → List ℕ → List Key → ℕ → ℕ → Type 0
  Parsed v x H ks h w = (u : ℕ) × Spine v x H ks u × (w ≡ h + u)

  parsed_conv : (l x r z v t c h w : ℕ) (H : List ℕ) (ks : List Key) → x ≡ r → hop (key l conv r z) v ≡ some (t, c)
      → Parsed t z H ks (h + c) w → Parsed v x H (key l conv r z ∷ ks) h w
  parsed_conv l x r z v t c h w H ks p e g = rw p (c + g.0, spine_conv l r v c e g.1, omega (arith, g.2))

  parsed_wrap : (l x r z v t c h w : ℕ) (H : List ℕ) (ks : List Key) → x ≡ r → hop (key l wrap r z) v ≡ some (t, c)
      → Parsed t z (r ∷ H) ks (h + c) w → Parsed v x H (key l wrap r z ∷ ks) h w
  parsed_wrap l x r z v t c h w H ks p e g = rw p (c + g.0, spine_wrap l r v c e g.1, omega (arith, g.2))

  parsed_unwrap : (l x y r z v t c h w : ℕ) (H : List ℕ) (ks : List Key) → x ≡ z → y ≡ r → hop (key l unwrap r z) v ≡ some (t, c)
      → Parsed t r H ks (h + c) w → Parsed v x (y ∷ H) (key l unwrap r z ∷ ks) h w
  parsed_unwrap l x y r z v t c h w H ks p q e g = rw (p, q) (c + g.0, spine_unwrap l z v c e g.1, omega (arith, g.2))

  parsed : (ks : List Key) (v x : ℕ) (H : List ℕ) (h w : ℕ) → replay hop ks (at v (x ∷ H) h) ≡ some (at D (b ∷ []) w) → Parsed v x H ks h w
  unfolding replay keys weight then step move act
  parsed [] v x [] h w e =
      let p : v ≡ D = cc in
      let q : x ≡ b = cc in
      let n : h ≡ w = cc in
      (0, rw (p, q) (last [] 0 stay refl refl), omega arith)
  parsed [] v x (y ∷ H) h w e = absurd (let z : ◌≡◌ {A = ℕ} 0 1 = cc in omega arith)
  parsed (key l conv r z ∷ ks) v x H h w e =
      let s = stepped hop l conv r z v (x ∷ H) h (λ c. replay hop ks c) (at D (b ∷ []) w) e in
      let i = conv_inv r z x H s.stack s.acts in
      parsed_conv l x r z v s.to s.cost h w H ks i.0 s.hops (parsed ks s.to z H (h + s.cost) w (rw i.1 s.goes))
  parsed (key l wrap r z ∷ ks) v x H h w e =
      let s = stepped hop l wrap r z v (x ∷ H) h (λ c. replay hop ks c) (at D (b ∷ []) w) e in
      let i = wrap_inv r z x H s.stack s.acts in
      parsed_wrap l x r z v s.to s.cost h w H ks i.0 s.hops (parsed ks s.to z (r ∷ H) (h + s.cost) w (rw i.1 s.goes))
  parsed (key l unwrap r z ∷ ks) v x [] h w e = absurd (none-ne-some _ e)
  parsed (key l unwrap r z ∷ ks) v x (y ∷ H) h w e =
      let s = stepped hop l unwrap r z v (x ∷ y ∷ H) h (λ c. replay hop ks c) (at D (b ∷ []) w) e in
      let i = unwrap_inv r z x y H s.stack s.acts in
      parsed_unwrap l x y r z v s.to s.cost h w H ks i.0 i.1 s.hops (parsed ks s.to r H (h + s.cost) w (rw i.2 s.goes))

  abbrev Route : ℕ → ℕ → List Key → ℕ → Type 0
  Route S a ks w = (d : Level hop S a D b) × (keys hop d ≡ ks) × (weight hop d ≡ w)

  out : {S a u : ℕ} {ks : List Key} (w : ℕ) → w ≡ 0 + u → Spine S a [] ks u → Route S a ks w
  out w n (last ks u d f g) = (d, f, omega arith)

  -- every feasible route is a level's keys, of the level's weight
  pub parse : (S a : ℕ) (ks : List Key) (w : ℕ) → Feasible hop S a D b ks w → (d : Level hop S a D b) × (keys hop d ≡ ks) × (weight hop d ≡ w)
  parse S a ks w e = let g = parsed ks S a [] 0 w e.runs in out w g.2 g.1
