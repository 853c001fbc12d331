-- Routes: what a list of step keys does to a packet, which routes are feasible, and which one is best.
-- `hop` says where a step leads and what it weighs; a network's is `Net.hop`. Assumes nothing: these are definitions.
use Rattle.std.specs.Prelude.{ℕ, ◌+◌, ◌<◌, ◌≡◌, ◌&&◌, cond, List, [], ◌∷◌, ◌⊎◌, eqb, length}
use Rattle.std.proofs.Math.Option.{Option, none, some}
use Rattle.paper.specs.Net.{Kind, conv, wrap, unwrap, code, Key, key}

-- where a packet is: at NODE STACK SPENT, the top of the stack first, and the weight spent so far
pub data At : Type 0 where
  at : ℕ → List ℕ → ℕ → At

-- what a function does to the stack:
-- conv x y: the top must be x; it becomes y
-- wrap x y: the top must be x; y is put above it
-- unwrap x y: the top must be y and directly beneath it x; y is removed
unfoldable pub act : Kind → ℕ → ℕ → List ℕ → Option (List ℕ)
act conv x y [] = none
act conv x y (s ∷ h) = cond (eqb s x) (some (y ∷ h)) none
act wrap x y [] = none
act wrap x y (s ∷ h) = cond (eqb s x) (some (y ∷ x ∷ h)) none
act unwrap x y [] = none
act unwrap x y (s ∷ []) = none
act unwrap x y (s ∷ z ∷ h) = cond (eqb s y && eqb z x) (some (x ∷ h)) none

-- then the link is crossed
unfoldable pub move : ℕ → Option (List ℕ) → Option (ℕ × ℕ) → Option At
move w none r = none
move w (some s) none = none
move w (some s) (some r) = some (at r.0 s (w + r.1))

unfoldable pub then : {A : Type 0} → Option At → (At → Option A) → Option A
then none f = none
then (some c) f = f c

module _ (hop : Key → ℕ → Option (ℕ × ℕ)) where
  unfoldable pub step : Key → At → Option At
  step (key l c x y) (at v s w) = move w (act c x y s) (hop (key l c x y) v)

  -- each step allowed where it stands
  unfoldable pub replay : List Key → At → Option At
  replay [] c = some c
  replay (k ∷ ks) c = then (step k c) (λ d. replay ks d)

  -- ks is a route from S with a stack holding only a; it ends at D with a stack holding only b; it weighs w
  pub record Feasible (S a D b : ℕ) (ks : List Key) (w : ℕ) : Type 0 where
    pub runs : replay ks (at S (a ∷ []) 0) ≡ some (at D (b ∷ []) w)

-- the order of lists: by the first number that differs, a list before what it begins
unfoldable pub Lex : List ℕ → List ℕ → Type 0
Lex [] ms = Unit {0}
Lex (n ∷ ns) [] = ⊥
Lex (n ∷ ns) (m ∷ ms) = (n < m) ⊎ ((n ≡ m) × Lex ns ms)

-- the step keys one after another, as the step room holds them
unfoldable pub flat : List Key → List ℕ
flat [] = []
flat (key l c x y ∷ ks) = l ∷ code c ∷ x ∷ y ∷ flat ks

-- a route's rank: its weight, its number of steps, then its step keys
unfoldable pub rank : List Key → ℕ → List ℕ
rank ks w = w ∷ length ks ∷ flat ks

-- the best route has least weight, then fewest steps, then comes first
pub record Best (hop : Key → ℕ → Option (ℕ × ℕ)) (S a D b : ℕ) (ks : List Key) (w : ℕ) : Type 0 where
  pub feasible : Feasible hop S a D b ks w
  pub first : (js : List Key) (u : ℕ) → Feasible hop S a D b js u → Lex (rank ks w) (rank js u)
