-- What the stores of a record lay over the room: facts that the proofs of the code cite. Assumes nothing.
use Prim.Native.Nat.{ℕ, ◌+◌, ◌*◌, ◌/◌, ◌%◌, ◌^◌, ◌<◌}
use mathlib.Core.Path.{◌≡◌, refl, ◌∙◌}
use mathlib.Core.List.{List, [], ◌∷◌}
use native.Mathlib.Nat.{one-mul, mod-eq_of_lt}
use lib.ListN.{replicate}
use lib.Pow.{pow-lt}
use Rattle.paper.specs.Rooms.{laid}
use Rattle.laws.proofs.Laid.{laid_seq}
use Rattle.unfold_frames.specs.Frames.{blank}

-- a power of two that a word holds
pub power_fits : (b : ℕ) → b < 16 → 1 * 2 ^ b % 65536 ≡ 2 ^ b
power_fits b h = (rw (one-mul (2 ^ b))) ∙ mod-eq_of_lt (pow-lt {i = b} {j = 16} h)

-- the head, then the words
pub blank_laid : (d d₁ d₂ : List ℕ) (o words place hidden weight steps : ℕ) → d₁ ≡ laid d o (place ∷ hidden ∷ weight % 65536 ∷ weight / 65536 ∷ steps ∷ [])
    → d₂ ≡ laid d₁ (o + 5) (replicate words 0) → d₂ ≡ laid d o (blank words place hidden weight steps)
unfolding blank
blank_laid d d₁ d₂ o words place hidden weight steps e f =
    laid_seq d d₁ d₂ (place ∷ hidden ∷ weight % 65536 ∷ weight / 65536 ∷ steps ∷ []) (replicate words 0) o (o + 5) e refl f
