-- The greatest stack height that a packet meets on a route, start included.
-- Assumes nothing.
use Rattle.std.specs.Prelude.{ℕ, max, List, [], ◌∷◌, length}
use Rattle.std.proofs.Math.Option.{Option, none, some}
use Rattle.paper.specs.Net.{Key}
use Rattle.paper.specs.Route.{At, at, step}

unfoldable pub height : At → ℕ
height (at v s w) = length s

unfoldable pub onward : Option At → (At → ℕ) → ℕ
onward none f = 0
onward (some c) f = f c

unfoldable pub peak : (Key → ℕ → Option (ℕ × ℕ)) → List Key → At → ℕ
peak hop [] c = height c
peak hop (k ∷ ks) c = max (height c) (onward (step hop k c) (λ d. peak hop ks d))
