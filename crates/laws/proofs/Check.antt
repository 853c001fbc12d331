-- A computed test that no relaxation lowers a table, for a network that is written out.
-- Assumes nothing.
use Prim.Native.Nat.{ℕ, zero, suc, ◌+◌, ◌<◌, ◌≤◌}
use mathlib.Core.Path.{◌≡◌, refl, sym, ap, subst}
use mathlib.Core.Bool.{Bool, true, false, cond, ◌&&◌, ◌||◌}
use mathlib.Core.List.{List, [], ◌∷◌}
use mathlib.Core.Option.{Option, none, some, none-ne-some, some-injective}
use mathlib.Core.Logic.{◌⊎◌, inl, inr}
use native.Mathlib.Omega.{arith}
use native.Mathlib.Nat.{not-suc-le-zero}
use native.Mathlib.Decide.{dec_lt}
use lib.Dec.{leb, ltb, eqb, leb→le, ltb→lt, eqb→eq, eqb_refl, T}
use Rattle.paper.specs.Net.{Kind, conv, wrap, unwrap, code, Link, link, Fun, fun, net, key, across, charge, both, hop}
use Rattle.laws.specs.Value.{Value, within, over, never, cap, Le, plus}
use Rattle.laws.proofs.Fixpoint.{Valid, Relaxed}
use Rattle.laws.specs.Sets.{Mem}

pub and_left : (a b : Bool) → T (a && b) → T a
and_left true b t = tt
and_left false b t = t

pub and_right : (a b : Bool) → T (a && b) → T b
and_right true b t = t
and_right false b t = absurd t

pub and_in : (a b : Bool) → T a → T b → T (a && b)
and_in true b s t = t
and_in false b s t = absurd s

-- ## Tests over a list, and over the numbers below a bound

abbrev pub every : {A : Type 0} → (A → Bool) → List A → Bool
every f [] = true
every f (x ∷ xs) = f x && every f xs

pub every_at : {A : Type 0} (f : A → Bool) (a : A) (xs : List A) → T (every f xs) → Mem a xs → T (f a)
unfolding Mem
every_at f a [] t m = absurd m
every_at f a (x ∷ xs) t (inl e) = rw e (and_left (f x) (every f xs) t)
every_at f a (x ∷ xs) t (inr m) = every_at f a xs (and_right (f x) (every f xs) t) m

-- f holds of each number below n
abbrev pub below : ℕ → (ℕ → Bool) → Bool
below zero f = true
below (suc n) f = f n && below n f

below_at : (n : ℕ) (f : ℕ → Bool) → T (below n f) → (k : ℕ) → k < n → T (f k)
below_at zero f t k h = absurd (not-suc-le-zero h)
below_at (suc n) f t k h = go (dec_lt k n) (λ l. below_at n f (and_right (f n) (below n f) t) k l)
  where
    go : Dec (k < n) → (k < n → T (f k)) → T (f k)
    go (yes l) rec = rec l
    go (no l) rec = let e : k ≡ n = omega arith in rw e (and_left (f n) (below n f) t)

-- ## What a step key finds is a record of the network

across_mem : (ls : List Link) (l v : ℕ) (r : ℕ × ℕ) → across ls l v ≡ some r → Mem (link l v r.0 r.1) ls
unfolding across Mem
across_mem [] l v r e = absurd (none-ne-some r e)
across_mem (link m u s w ∷ ls) l v r e = go (eqb m l) (eqb u v) (eqb→eq m l) (eqb→eq u v) e (λ f. across_mem ls l v r f)
  where
    go : (a b : Bool) → (T a → m ≡ l) → (T b → u ≡ v) → cond {A = Option (ℕ × ℕ)} (a && b) (some (s, w)) (across ls l v) ≡ some r
        → (across ls l v ≡ some r → Mem (link l v r.0 r.1) ls)
        → (link l v r.0 r.1 ≡ link m u s w) ⊎ Mem (link l v r.0 r.1) ls
    go true true p q e rec = let f : m ≡ l = p tt in let g : u ≡ v = q tt in inl (cc)
    go true false p q e rec = inr (rec e)
    go false b p q e rec = inr (rec e)

pub code_inj : (c d : Kind) → T (eqb (code c) (code d)) → c ≡ d
code_inj conv conv e = refl
code_inj conv wrap e = absurd e
code_inj conv unwrap e = absurd e
code_inj wrap conv e = absurd e
code_inj wrap wrap e = refl
code_inj wrap unwrap e = absurd e
code_inj unwrap conv e = absurd e
code_inj unwrap wrap e = absurd e
code_inj unwrap unwrap e = refl

charge_mem : (fs : List Fun) (v : ℕ) (c : Kind) (x y w : ℕ) → charge fs v c x y ≡ some w → Mem (fun v c x y w) fs
unfolding charge Mem
charge_mem [] v c x y w e = absurd (none-ne-some w e)
charge_mem (fun u d r s f ∷ fs) v c x y w e =
    go (eqb u v) (eqb (code d) (code c)) (eqb r x) (eqb s y) (eqb→eq u v) (code_inj d c) (eqb→eq r x) (eqb→eq s y) e (λ g. charge_mem fs v c x y w g)
  where
    go : (a b k l : Bool) → (T a → u ≡ v) → (T b → d ≡ c) → (T k → r ≡ x) → (T l → s ≡ y)
        → cond {A = Option ℕ} (a && b && k && l) (some f) (charge fs v c x y) ≡ some w
        → (charge fs v c x y ≡ some w → Mem (fun v c x y w) fs)
        → (fun v c x y w ≡ fun u d r s f) ⊎ Mem (fun v c x y w) fs
    go true true true true p q i j e rec =
        let a : u ≡ v = p tt in let b : d ≡ c = q tt in let k : r ≡ x = i tt in let l : s ≡ y = j tt in inl (cc)
    go true true true false p q i j e rec = inr (rec e)
    go true true false l p q i j e rec = inr (rec e)
    go true false k l p q i j e rec = inr (rec e)
    go false b k l p q i j e rec = inr (rec e)

-- the function and the link behind a step
pub record Behind (ls : List Link) (fs : List Fun) (l : ℕ) (c : Kind) (x y v u w : ℕ) : Type 0 where
  pub fee : ℕ
  pub toll : ℕ
  pub has_fun : Mem (fun v c x y fee) fs
  pub has_link : Mem (link l v u toll) ls
  pub sum : w ≡ fee + toll

pub behind : (n p : ℕ) (ls : List Link) (fs : List Fun) (l : ℕ) (c : Kind) (x y v u w : ℕ)
    → hop (net n p ls fs) (key l c x y) v ≡ some (u, w) → Behind ls fs l c x y v u w
unfolding both hop charge
behind n p ls fs l c x y v u w = go (charge fs v c x y) (across ls l v) refl refl
  where
    go : (f : Option ℕ) (a : Option (ℕ × ℕ)) → charge fs v c x y ≡ f → across ls l v ≡ a → both f a ≡ some (u, w) → Behind ls fs l c x y v u w
    go none a i j e = absurd (none-ne-some (u, w) e)
    go (some f) none i j e = absurd (none-ne-some (u, w) e)
    go (some f) (some r) i j e =
        let h : ◌≡◌ {A = ℕ × ℕ} (r.0, f + r.1) (u, w) = some-injective (r.0, f + r.1) (u, w) e in
        let g : r.0 ≡ u = ap (λ (k : ℕ × ℕ). k.0) h in
        record {
          fee = f;
          toll = r.1;
          has_fun = charge_mem fs v c x y f i;
          has_link = subst (λ (k : ℕ). Mem (link l v k r.1) ls) g (across_mem ls l v r j);
          sum = sym (ap (λ (k : ℕ × ℕ). k.1) h);
        }

-- ## The test

abbrev pub le? : Value → Value → Bool
le? (within w s) (within v r) = ltb w v || (eqb w v && leb s r)
le? (within w s) over = true
le? (within w s) never = true
le? over (within v r) = false
le? over over = true
le? over never = true
le? never (within v r) = false
le? never over = false
le? never never = true

pub le?_le : (a b : Value) → T (le? a b) → Le a b
unfolding Le
le?_le (within w s) (within v r) t = go (ltb w v) (eqb w v) (leb s r) (ltb→lt w v) (eqb→eq w v) (leb→le s r) t
  where
    go : (a b c : Bool) → (T a → w < v) → (T b → w ≡ v) → (T c → s ≤ r) → T (a || (b && c)) → (w < v) ⊎ ((w ≡ v) × (s ≤ r))
    go true b c f g h t = inl (f tt)
    go false true true f g h t = inr (g tt, h tt)
    go false true false f g h t = absurd t
    go false false c f g h t = absurd t
le?_le (within w s) over t = tt
le?_le (within w s) never t = tt
le?_le over (within v r) t = absurd t
le?_le over over t = tt
le?_le over never t = tt
le?_le never (within v r) t = absurd t
le?_le never over t = absurd t
le?_le never never t = tt

-- `when a b`: b is tested only where a holds
abbrev pub when : Bool → Bool → Bool
when true b = b
when false b = true

when_at : (a b : Bool) → T (when a b) → T a → T b
when_at true b t h = t
when_at false b t h = absurd h

module _ (n p : ℕ) (ls : List Link) (fs : List Fun) (t : ℕ → ℕ → ℕ → ℕ → Value) where
  abbrev here? : Bool
  here? = below n (λ v. below p (λ x. le? (t v x v x) (cap 0 0)))

  abbrev places : (ℕ → ℕ → Bool) → Bool
  places f = below n (λ u. below p (λ y. f u y))

  -- a function and a link, for one step
  abbrev inside? : Fun → Link → Bool
  inside? (fun v c x y f) (link l v' u w) = ltb u n && ltb y p

  -- a conversion from v, x to r, z of weight w; a tunnel of weights w and e from v, x over r, z and q, o to s
  abbrev convs? : (v x r z w : ℕ) → Bool
  convs? v x r z w = places (λ u y. le? (t v x u y) (plus (cap w 1) (t r z u y)))

  abbrev tunnels? : (v x r z w q o s e : ℕ) → Bool
  tunnels? v x r z w q o s e = places (λ u y. le? (t v x u y) (plus (cap w 1) (plus (t r z q o) (plus (cap e 1) (t s x u y)))))

  abbrev conv? : Fun → Link → Bool
  conv? (fun v c x z f) (link l v' r w) = when (eqb (code c) 0 && eqb v v') (convs? v x r z (f + w))

  abbrev tunnel? : Fun → Link → Fun → Link → Bool
  tunnel? (fun v c x z f) (link l v' r w) (fun q d x' o g) (link m q' s e) =
      when (eqb (code c) 1 && eqb v v' && (eqb (code d) 2 && eqb q q' && eqb x x')) (tunnels? v x r z (f + w) q o s (g + e))

  abbrev pub relaxed? : Bool
  relaxed? =
      here? && every (λ f. every (λ k. inside? f k && conv? f k && every (λ g. every (λ m. tunnel? f k g m) ls) fs) ls) fs

  abbrev step? : Fun → Link → Bool
  step? f k = inside? f k && conv? f k && every (λ g. every (λ m. tunnel? f k g m) ls) fs

  module _ (c : T relaxed?) where
    at_step : {l : ℕ} {k : Kind} {x y v u w : ℕ} (b : Behind ls fs l k x y v u w) → T (step? (fun v k x y b.fee) (link l v u b.toll))
    at_step {l} {k} {x} {y} {v} {u} b =
        every_at (λ m. step? (fun v k x y b.fee) m) (link l v u b.toll) ls
        (every_at (λ f. every (λ m. step? f m) ls) (fun v k x y b.fee) fs (and_right here? (every (λ f. every (λ m. step? f m) ls) fs) c) b.has_fun)
        b.has_link

    places_at : (f : ℕ → ℕ → Bool) → T (places f) → (u y : ℕ) → u < n → y < p → T (f u y)
    places_at f h u y hu hy = below_at p (λ y. f u y) (below_at n (λ u. below p (λ y. f u y)) h u hu) y hy

    pub valid : Valid (hop (net n p ls fs)) n p
    valid = record { inside = λ l k x y v u w e. go (behind n p ls fs l k x y v u w e) }
      where
        go : {l : ℕ} {k : Kind} {x y v u w : ℕ} → Behind ls fs l k x y v u w → (u < n) × (y < p)
        go {l} {k} {x} {y} {v} {u} b =
            let f = fun v k x y b.fee in
            let m = link l v u b.toll in
            let h = and_left (inside? f m) (conv? f m) (and_left (inside? f m && conv? f m) _ (at_step b)) in
            (ltb→lt u n (and_left (ltb u n) (ltb y p) h), ltb→lt y p (and_right (ltb u n) (ltb y p) h))

    conv_le : (v x u y l z r w : ℕ) → u < n → y < p → Behind ls fs l conv x z v r w → Le (t v x u y) (plus (cap w 1) (t r z u y))
    conv_le v x u y l z r w hu hy b =
        let f = fun v conv x z b.fee in
        let m = link l v r b.toll in
        let h = and_right (inside? f m) (conv? f m) (and_left (inside? f m && conv? f m) _ (at_step b)) in
        let k = when_at (eqb v v) (convs? v x r z (b.fee + b.toll)) h (eqb_refl v) in
        rw b.sum (le?_le (t v x u y) (plus (cap (b.fee + b.toll) 1) (t r z u y))
        (places_at (λ u y. le? (t v x u y) (plus (cap (b.fee + b.toll) 1) (t r z u y))) k u y hu hy))

    tunnel_le : (v x u y l z r w q o m s e : ℕ) → u < n → y < p → Behind ls fs l wrap x z v r w → Behind ls fs m unwrap x o q s e
        → Le (t v x u y) (plus (cap w 1) (plus (t r z q o) (plus (cap e 1) (t s x u y))))
    tunnel_le v x u y l z r w q o m s e hu hy a b =
        let f = fun v wrap x z a.fee in
        let k = link l v r a.toll in
        let g = fun q unwrap x o b.fee in
        let i = link m q s b.toll in
        let h = every_at (λ i. tunnel? f k g i) i ls
        (every_at (λ g. every (λ i. tunnel? f k g i) ls) g fs (and_right (inside? f k && conv? f k) (every (λ g. every (λ i. tunnel? f k g i) ls) fs) (at_step a)) b.has_fun) b.has_link in
        let j = when_at (eqb v v && (eqb q q && eqb x x)) (tunnels? v x r z (a.fee + a.toll) q o s (b.fee + b.toll)) h
        (and_in (eqb v v) (eqb q q && eqb x x) (eqb_refl v) (and_in (eqb q q) (eqb x x) (eqb_refl q) (eqb_refl x))) in
        rw (a.sum, b.sum) (le?_le (t v x u y) (plus (cap (a.fee + a.toll) 1) (plus (t r z q o) (plus (cap (b.fee + b.toll) 1) (t s x u y))))
        (places_at (λ u y. le? (t v x u y) (plus (cap (a.fee + a.toll) 1) (plus (t r z q o) (plus (cap (b.fee + b.toll) 1) (t s x u y))))) j u y hu hy))

    pub relaxed : Relaxed (hop (net n p ls fs)) n p t
    relaxed =
        record {
          here = λ v x hv hx. le?_le (t v x v x) (cap 0 0) (places_at (λ v x. le? (t v x v x) (cap 0 0)) (and_left here? _ c) v x hv hx);
          by_conv = λ v x u y l z r w hv hx hu hy e. conv_le v x u y l z r w hu hy (behind n p ls fs l conv x z v r w e);
          by_tunnel = λ v x u y l z r w q o m s e hv hx hu hy hq ho f g.
              tunnel_le v x u y l z r w q o m s e hu hy (behind n p ls fs l wrap x z v r w f) (behind n p ls fs m unwrap x o q s e g);
        }
