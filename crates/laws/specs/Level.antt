-- A level: steps and whole tunnels from one place to another, over a hidden part of the stack that is never looked at.
-- Assumes nothing.
use Rattle.std.specs.Prelude.{ℕ, ◌+◌, ◌≡◌, List, [], ◌∷◌, ◌++◌}
use Rattle.std.proofs.Math.Option.{Option, some}
use Rattle.paper.specs.Net.{conv, wrap, unwrap, Key, key}

module _ (hop : Key → ℕ → Option (ℕ × ℕ)) where
  -- Level v x u y: from node v with x on top to node u with y on top
  pub data Level : ℕ → ℕ → ℕ → ℕ → Type 0 where
    stay : {v x : ℕ} → Level v x v x
    carry : {v x t z u y : ℕ} (l w : ℕ) → hop (key l conv x z) v ≡ some (t, w) → Level t z u y → Level v x u y
    tunnel : {v x t z r q s u y : ℕ} (l w m e : ℕ)
        → hop (key l wrap x z) v ≡ some (t, w) → Level t z r q
        → hop (key m unwrap x q) r ≡ some (s, e) → Level s x u y → Level v x u y

  unfoldable pub keys : {v x u y : ℕ} → Level v x u y → List Key
  keys stay = []
  keys {x = x} (carry {z = z} l w h d) = key l conv x z ∷ keys d
  keys {x = x} (tunnel {z = z} {q = q} l w m e h i k d) = key l wrap x z ∷ (keys i ++ key m unwrap x q ∷ keys d)

  unfoldable pub weight : {v x u y : ℕ} → Level v x u y → ℕ
  weight stay = 0
  weight (carry l w h d) = w + weight d
  weight (tunnel l w m e h i k d) = w + (weight i + (e + weight d))
