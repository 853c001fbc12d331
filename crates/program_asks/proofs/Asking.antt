-- What the reader says of an input line, from the word and the numbers that it read there. Assumes nothing.
use Rattle.std.proofs.Common.{◌≡◌, ◌∙◌, refl, ap, true, false, List, [], ◌∷◌, ℕ, length, eqb, get_or, Option, Some, None}
use Rattle.std.specs.Option.{option_map, option_and_then}
use mathlib.Core.Option as maths
use Rattle.paper.specs.Text.{number, fields, same, bytes}
use Rattle.paper.specs.Program.{asks_of, asked_by}
use Rattle.digits.specs.Read.{told}
use Rattle.file_fields.specs.Fields.{field_of, numbers}
use Rattle.paper.specs.declared.place.Enquiry.{Enquiry}
use Rattle.program_asks.specs.Asked.{ask_of}

abbrev pub ask : List ℕ → Enquiry
ask vs = record { start = record { node = get_or vs 0 0; protocol = get_or vs 1 0 }; end = record { node = get_or vs 2 0; protocol = get_or vs 3 0 } }

module _ (l : List ℕ) where
  -- all that is read is told
  asks_told : option_map ask (numbers l 1 4) ≡ ask_of (asks_of (number (field_of l 1)) (number (field_of l 2)) (number (field_of l 3)) (number (field_of l 4)))
  unfolding numbers told asks_of ask_of
  asks_told = go (number (field_of l 1)) (number (field_of l 2)) (number (field_of l 3)) (number (field_of l 4))
    where
      on : maths.Option ℕ → Option (List ℕ) → Option (List ℕ)
      on a o = option_and_then (λ v. option_map (λ vs. v ∷ vs) o) (told a)

      go : (a b c d : maths.Option ℕ) → option_map ask (on a (on b (on c (on d (Some []))))) ≡ ask_of (asks_of a b c d)
      go maths.none b c d = refl
      go (maths.some S) maths.none c d = refl
      go (maths.some S) (maths.some x) maths.none d = refl
      go (maths.some S) (maths.some x) (maths.some D) maths.none = refl
      go (maths.some S) (maths.some x) (maths.some D) (maths.some y) = refl

  asks_shaped : true ≡ same (field_of l 0) (bytes "ask") → true ≡ eqb (length (fields l)) 5 → option_map ask (numbers l 1 4) ≡ ask_of (asked_by (fields l))
  unfolding asked_by
  asks_shaped w n = asks_told ∙ rw (← w, ← n)

  pub numbers_asked : (vs : List ℕ) → true ≡ same (field_of l 0) (bytes "ask") → true ≡ eqb (length (fields l)) 5 → Some vs ≡ numbers l 1 4 → Some (ask vs) ≡ ask_of (asked_by (fields l))
  numbers_asked vs w n e = ap (option_map ask) e ∙ asks_shaped w n

  pub no_numbers : true ≡ same (field_of l 0) (bytes "ask") → true ≡ eqb (length (fields l)) 5 → None ≡ numbers l 1 4 → None ≡ ask_of (asked_by (fields l))
  no_numbers w n e = ap (option_map ask) e ∙ asks_shaped w n

  pub other_length : true ≡ same (field_of l 0) (bytes "ask") → false ≡ eqb (length (fields l)) 5 → None ≡ ask_of (asked_by (fields l))
  unfolding asked_by ask_of
  other_length w n = rw (← w, ← n)

  pub other_word : false ≡ same (field_of l 0) (bytes "ask") → None ≡ ask_of (asked_by (fields l))
  unfolding asked_by ask_of
  other_word w = rw (← w)

pub ruleset asking = (numbers_asked, no_numbers, other_length, other_word)
