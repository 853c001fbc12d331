-- A counting loop, as a function of what it changes. Assumes nothing: this is a definition.
use Rattle.std.specs.Prelude.{ℕ, zero, suc}

-- f 0, then f 1, up to f (n - 1)
unfoldable pub upto : {A : Type 0} → (ℕ → A → A) → ℕ → A → A
upto f zero s = s
upto f (suc n) s = f n (upto f n s)
