-- The trace: a path line with the route's weight and steps, then a line for each step. Assumes nothing: these are definitions.
use Rattle.std.specs.Prelude.{List, [], ◌∷◌, ◌++◌, ℕ, length}
use Rattle.std.proofs.Math.Option.{Option, none, some}
use Rattle.paper.specs.Net.{Key, key}
use Rattle.paper.specs.Route.{At, at, step}
use Rattle.paper.specs.Text.{decimal, written, path_word, step_word}
use Rattle.paper.specs.Normal.{kind_word}

-- a stack, given with its top first, written bottom first, parted by dots
unfoldable pub dotted : List ℕ → List ℕ
dotted [] = []
dotted (x ∷ []) = decimal x
dotted (x ∷ y ∷ h) = dotted (y ∷ h) ++ (46 ∷ decimal x)

-- the step's key, the node reached and the stack after it
unfoldable pub step_line : Key → At → List ℕ
step_line (key l c x y) (at v s w) = written step_word (decimal l ∷ kind_word c ∷ decimal x ∷ decimal y ∷ decimal v ∷ dotted s ∷ [])

unfoldable pub following : Option At → (At → List ℕ) → List ℕ
following none f = []
following (some c) f = f c

module _ (hop : Key → ℕ → Option (ℕ × ℕ)) where
  unfoldable pub step_lines : List Key → At → List ℕ
  step_lines [] c = []
  step_lines (k ∷ ks) c = following (step hop k c) (λ d. step_line k d ++ step_lines ks d)

  -- the trace of the route ks, of weight w, from S with a stack holding only a
  unfoldable pub trace : ℕ → ℕ → List Key → ℕ → List ℕ
  trace S a ks w = written path_word (decimal w ∷ decimal (length ks) ∷ []) ++ step_lines ks (at S (a ∷ []) 0)
