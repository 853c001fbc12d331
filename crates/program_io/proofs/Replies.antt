-- A reply is its word, two numbers and an LF, one after another, and 64 bytes hold it. Assumes nothing.
use mathlib.Core.Path.{◌≡◌, sym, ap, ◌∙◌}
use mathlib.Core.List.{List, [], ◌∷◌, ◌++◌, append_assoc, append-nil}
use Prim.Native.Nat.{ℕ, ◌+◌, ◌≤◌}
use native.Mathlib.Omega.{arith}
use lib.ListN.{length, length-append}
use Rattle.paper.specs.Text.{decimal, tabbed, written}
use Rattle.digits.proofs.Digits.{decimal_most}

module _ (w : List ℕ) (x y : ℕ) where
  pub reply_parts : written w (decimal x ∷ decimal y ∷ []) ≡ w ++ (9 ∷ decimal x) ++ (9 ∷ decimal y) ++ (10 ∷ [])
  unfolding written tabbed
  reply_parts =
      ap (λ (t : List ℕ). t ++ (10 ∷ [])) (sym (append_assoc w (9 ∷ decimal x) ((9 ∷ decimal y) ++ [])) ∙ sym (append_assoc (w ++ (9 ∷ decimal x)) (9 ∷ decimal y) []) ∙ append-nil (w ++ (9 ∷ decimal x) ++ (9 ∷ decimal y)))

  pub reply_length : length (written w (decimal x ∷ decimal y ∷ [])) ≡ 3 + length w + length (decimal x) + length (decimal y)
  reply_length = ap length reply_parts ∙ simp length-append (omega arith)

  pub reply_fits : length w ≤ 7 → length (written w (decimal x ∷ decimal y ∷ [])) ≤ 64
  reply_fits h = omega (arith, reply_length, decimal_most x, decimal_most y)
