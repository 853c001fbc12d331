-- The fields of a line, which has no LF. Assumes nothing: these are definitions.
use Rattle.std.specs.Prelude.{Option, Some, None, List, [], ◌∷◌, ℕ, zero, suc}
use Rattle.std.specs.Borrow.{Bor}
use Rattle.std.specs.Option.{option_map, option_and_then}
use Rattle.paper.specs.Text.{fields, number}
use Rattle.paper.specs.File.{field}
use Rattle.digits.specs.Read.{told}

-- field k of the line; a missing field is empty
abbrev pub field_of : List ℕ → ℕ → List ℕ
field_of l k = field (fields l) k

-- the fields of what is left of a line; none where nothing is
abbrev pub left : Option (Bor (List ℕ)) → List (List ℕ)
left None = []
left (Some rest) = fields rest.now

-- what is told of n fields from field k on, if each of them spells a number
unfoldable pub numbers : List ℕ → ℕ → ℕ → Option (List ℕ)
numbers l k zero = Some []
numbers l k (suc n) = option_and_then (λ v. option_map (λ vs. v ∷ vs) (numbers l (suc k) n)) (told (number (field_of l k)))
