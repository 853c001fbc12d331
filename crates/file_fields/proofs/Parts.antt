-- A line's fields are its parts between tabs. Assumes nothing.
use Rattle.std.proofs.Common.{◌≡◌, ◌∙◌, refl, ap, Bool, false, ◌&&◌, List, [], ◌∷◌, length, ℕ, ◌<◌, eqb, Option, Some, None, Bor, arith}
use lib.Pointwise.{pointwise}
use Rattle.std.specs.List.{slice_get}
use Rattle.std.specs.Option.{unwrap_or, option_copied, option_eq}
use Rattle.std.proofs.lemmas.Option.{unwrap_or-slice_get}
use Rattle.paper.specs.Text.{fields, number, spelled, same}
use Rattle.paper.specs.File.{field}
use Rattle.digits.specs.Read.{told}
use Rattle.file_fields.specs.Fields.{field_of}

field_is_get : (l : List ℕ) (k : ℕ) → unwrap_or (slice_get (fields l) k) [] ≡ field_of l k
unfolding field
field_is_get l k = unwrap_or-slice_get (fields l) k []

there : (l : List ℕ) (k : ℕ) (f : List ℕ) → Some f ≡ slice_get (fields l) k → f ≡ field_of l k
there l k f e = rw (← e) at (field_is_get l k)

missing : (l : List ℕ) (k : ℕ) → None ≡ slice_get (fields l) k → [] ≡ field_of l k
missing l k e = rw (← e) at (field_is_get l k)

pub number_there : (l : List ℕ) (k : ℕ) (f : List ℕ) → Some f ≡ slice_get (fields l) k → told (number f) ≡ told (number (field_of l k))
number_there l k f e = ap (λ (w : List ℕ). told (number w)) (there l k f e)

pub no_number : (l : List ℕ) (k : ℕ) → None ≡ slice_get (fields l) k → None ≡ told (number (field_of l k))
unfolding told number spelled
no_number l k e = ap (λ (w : List ℕ). told (number w)) (missing l k e)

pub ruleset numbers_there = (number_there, no_number)

-- ## Words

same_compared : (a b : List ℕ) → pointwise eqb a b ≡ same a b
unfolding same
same_compared [] [] = refl
same_compared [] (y ∷ b) = refl
same_compared (x ∷ a) [] = refl
same_compared (x ∷ a) (y ∷ b) = ap (λ (t : Bool). eqb x y && t) (same_compared a b)

none_same : (w : List ℕ) → 0 < length w → false ≡ same [] w
unfolding same
none_same [] h = absurd (omega arith)
none_same (b ∷ w) h = refl

-- field k is compared with a word; a missing one is no word
pub compared : (l : List ℕ) (k : ℕ) (o : Option (Bor (List ℕ))) (w : Bor (List ℕ)) → option_copied o ≡ slice_get (fields l) k → 0 < length w.now
    → option_eq (λ (x y : Bor (List ℕ)). pointwise eqb x.now y.now) o (Some w) ≡ same (field_of l k) w.now
compared l k None w e h = none_same w.now h ∙ ap (λ (f : List ℕ). same f w.now) (missing l k e)
compared l k (Some f) w e h = same_compared f.now w.now ∙ ap (λ (g : List ℕ). same g w.now) (there l k f.now e)
