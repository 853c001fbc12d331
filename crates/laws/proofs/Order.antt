-- The order of routes is total and antisymmetric, so an enquiry has at most one best route.
-- Assumes nothing.
use Prim.Native.Nat.{ℕ, ◌<◌}
use mathlib.Core.Path.{◌≡◌, refl, sym}
use mathlib.Core.List.{List, [], ◌∷◌}
use mathlib.Core.Option.{Option}
use mathlib.Core.Logic.{◌⊎◌, inl, inr}
use native.Mathlib.Omega.{arith}
use native.Mathlib.Decide.{dec_lt}
use Rattle.paper.specs.Net.{Kind, conv, wrap, unwrap, code, Key, key}
use Rattle.paper.specs.Route.{Lex, flat, rank, Best}

pub lex_refl : (a : List ℕ) → Lex a a
unfolding Lex
lex_refl [] = tt
lex_refl (n ∷ ns) = inr (refl, lex_refl ns)

pub lex_antisym : (a b : List ℕ) → Lex a b → Lex b a → a ≡ b
unfolding Lex
lex_antisym [] [] p q = refl
lex_antisym [] (m ∷ ms) p q = absurd q
lex_antisym (n ∷ ns) [] p q = absurd p
lex_antisym (n ∷ ns) (m ∷ ms) (inl h) (inl k) = absurd (omega arith)
lex_antisym (n ∷ ns) (m ∷ ms) (inl h) (inr k) = absurd (omega arith)
lex_antisym (n ∷ ns) (m ∷ ms) (inr h) (inl k) = absurd (omega arith)
lex_antisym (n ∷ ns) (m ∷ ms) (inr h) (inr k) = cc (lex_antisym ns ms h.1 k.1)

pub lex_trans : (a b c : List ℕ) → Lex a b → Lex b c → Lex a c
unfolding Lex
lex_trans [] b c p q = tt
lex_trans (n ∷ ns) [] c p q = absurd p
lex_trans (n ∷ ns) (m ∷ ms) [] p q = absurd q
lex_trans (n ∷ ns) (m ∷ ms) (k ∷ ks) (inl h) (inl g) = inl (omega arith)
lex_trans (n ∷ ns) (m ∷ ms) (k ∷ ks) (inl h) (inr g) = inl (omega arith)
lex_trans (n ∷ ns) (m ∷ ms) (k ∷ ks) (inr h) (inl g) = inl (omega arith)
lex_trans (n ∷ ns) (m ∷ ms) (k ∷ ks) (inr h) (inr g) = inr (omega arith, lex_trans ns ms ks h.1 g.1)

-- the three ways in which two numbers stand
pub data Three (n m : ℕ) : Type 0 where
  less : n < m → Three n m
  same : n ≡ m → Three n m
  more : m < n → Three n m

pub three : (n m : ℕ) → Three n m
three n m = go (dec_lt n m) (dec_lt m n)
  where
    go : Dec (n < m) → Dec (m < n) → Three n m
    go (yes h) d = less h
    go (no h) (yes k) = more k
    go (no h) (no k) = same (omega arith)

pub lex_total : (a b : List ℕ) → Lex a b ⊎ Lex b a
unfolding Lex
lex_total [] b = inl tt
lex_total (n ∷ ns) [] = inr tt
lex_total (n ∷ ns) (m ∷ ms) = go (three n m) (lex_total ns ms)
  where
    go : Three n m → Lex ns ms ⊎ Lex ms ns → Lex (n ∷ ns) (m ∷ ms) ⊎ Lex (m ∷ ms) (n ∷ ns)
    go (less h) r = inl (inl h)
    go (more h) r = inr (inl h)
    go (same h) (inl r) = inl (inr (h, r))
    go (same h) (inr r) = inr (inr (sym h, r))

pub code_inj : (c d : Kind) → code c ≡ code d → c ≡ d
code_inj conv conv e = refl
code_inj conv wrap e = absurd (omega arith)
code_inj conv unwrap e = absurd (omega arith)
code_inj wrap conv e = absurd (omega arith)
code_inj wrap wrap e = refl
code_inj wrap unwrap e = absurd (omega arith)
code_inj unwrap conv e = absurd (omega arith)
code_inj unwrap wrap e = absurd (omega arith)
code_inj unwrap unwrap e = refl

pub flat_inj : (ks js : List Key) → flat ks ≡ flat js → ks ≡ js
unfolding flat
flat_inj [] [] e = refl
flat_inj [] (key l c x y ∷ js) e = cc
flat_inj (key l c x y ∷ ks) [] e = cc
flat_inj (key l c x y ∷ ks) (key m d r s ∷ js) e =
    let f : flat ks ≡ flat js = cc in
    let g : code c ≡ code d = cc in
    cc (flat_inj ks js f, code_inj c d g)

pub best_unique : (hop : Key → ℕ → Option (ℕ × ℕ)) (S a D b : ℕ) (ks js : List Key) (w u : ℕ)
    → Best hop S a D b ks w → Best hop S a D b js u → (ks ≡ js) × (w ≡ u)
unfolding rank
best_unique hop S a D b ks js w u p q =
    let e : rank ks w ≡ rank js u = lex_antisym (rank ks w) (rank js u) (p.first js u q.feasible) (q.first ks w p.feasible) in
    (flat_inj ks js (cc), cc)
