-- The line at a place of the file. Assumes nothing: these are definitions.
use Rattle.std.specs.Prelude.{◌≡◌, List, [], ◌∷◌, ℕ, ◌+◌, ◌≤◌, ◌<◌, length, drop}
use Rattle.paper.specs.Text.{ended, cut, lines}

-- the line at byte a of l is whole: its text, without its LF, and where the next line starts
pub record Whole (l : List ℕ) (a : ℕ) (text : List ℕ) (next : ℕ) : Type 0 where
  pub after : next ≡ a + length text + 1
  pub within : next ≤ length l
  pub first : lines (drop a l) ≡ ended text ∷ lines (drop next l)

-- the line at byte a of l lacks its LF, or there is none
abbrev pub Cut : List ℕ → ℕ → Type 0
Cut l a = a < length l → lines (drop a l) ≡ cut (drop a l) ∷ []
