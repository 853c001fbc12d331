-- The size of a stack's text: how a step alters it, and its bound. Assumes nothing.
use Prim.Native.Nat.{ℕ, ◌+◌, ◌*◌, ◌≤◌}
use mathlib.Core.Path.{◌≡◌, refl}
use mathlib.Core.List.{List, [], ◌∷◌}
use mathlib.Core.Option.{some, none-ne-some}
use native.Mathlib.Omega.{arith}
use lib.ListN.{length, get_or, length-append}
use Rattle.paper.specs.Net.{Kind, conv, wrap, unwrap, key}
use Rattle.paper.specs.Route.{act}
use Rattle.paper.specs.Text.{decimal}
use Rattle.paper.specs.Trace.{dotted}
use Rattle.laws.proofs.Parse.{conv_inv, wrap_inv, unwrap_inv}
use Rattle.network_records.specs.Columns.{kind_of_code}
use Rattle.digits.proofs.Digits.{decimal_most}
use Rattle.trace_replay.specs.Keys.{key_of}
use Rattle.trace_measure.specs.Sizes.{lost, gained}

-- ## The top of the stack is the last number of its text

-- the bytes before it
base : List ℕ → ℕ
base [] = 0
base (z ∷ h) = 1 + length (dotted (z ∷ h))

dots_top : (z : ℕ) (h : List ℕ) → length (dotted (z ∷ h)) ≡ base h + length (decimal z)
unfolding dotted base
dots_top z [] = omega arith
dots_top z (u ∷ h) = omega (arith, length-append (dotted (u ∷ h)) (46 ∷ decimal z))

pub dots_step : (l : ℕ) (k : Kind) (x y : ℕ) (s t : List ℕ) → act k x y s ≡ some t
    → length (dotted t) + lost (key l k x y) ≡ length (dotted s) + gained (key l k x y)
unfolding act lost gained base
dots_step l conv x y [] t e = absurd (none-ne-some t e)
dots_step l conv x y (z ∷ h) t e =
    let i = conv_inv x y z h t e in
    rw (i.0, ← i.1) (omega (arith, dots_top y h, dots_top x h))
dots_step l wrap x y [] t e = absurd (none-ne-some t e)
dots_step l wrap x y (z ∷ h) t e =
    let i = wrap_inv x y z h t e in
    rw (i.0, ← i.1) (omega (arith, dots_top y (x ∷ h)))
dots_step l unwrap x y [] t e = absurd (none-ne-some t e)
dots_step l unwrap x y (z ∷ []) t e = absurd (none-ne-some t e)
dots_step l unwrap x y (z ∷ u ∷ h) t e =
    let i = unwrap_inv x y z u h t e in
    rw (i.0, i.1, ← i.2) (omega (arith, dots_top y (x ∷ h)))

-- what goes was there
pub dots_lost : (l : ℕ) (k : Kind) (x y : ℕ) (s t : List ℕ) → act k x y s ≡ some t → lost (key l k x y) ≤ length (dotted s)
unfolding act lost base
dots_lost l conv x y [] t e = absurd (none-ne-some t e)
dots_lost l conv x y (z ∷ h) t e = rw (conv_inv x y z h t e).0 (omega (arith, dots_top x h))
dots_lost l wrap x y s t e = omega arith
dots_lost l unwrap x y [] t e = absurd (none-ne-some t e)
dots_lost l unwrap x y (z ∷ []) t e = absurd (none-ne-some t e)
dots_lost l unwrap x y (z ∷ u ∷ h) t e = rw (unwrap_inv x y z u h t e).0 (omega (arith, dots_top y (u ∷ h)))

pub dots_most : (s : List ℕ) → length (dotted s) ≤ 21 * length s
unfolding dotted base
dots_most [] = omega arith
dots_most (z ∷ []) = omega (arith, decimal_most z)
dots_most (z ∷ u ∷ h) = omega (arith, decimal_most z, dots_top z (u ∷ h), dots_most (u ∷ h))

-- ## Four numbers as a key: by its kind

module _ (k : List ℕ) where
  pub by_conv : conv ≡ kind_of_code (get_or k 1 0) → (lost (key_of k) ≡ length (decimal (get_or k 2 0))) × (gained (key_of k) ≡ length (decimal (get_or k 3 0)))
  unfolding key_of lost gained
  by_conv e = rw (← e) (refl, refl)

  pub by_wrap : wrap ≡ kind_of_code (get_or k 1 0) → (lost (key_of k) ≡ 0) × (gained (key_of k) ≡ 1 + length (decimal (get_or k 3 0)))
  unfolding key_of lost gained
  by_wrap e = rw (← e) (refl, refl)

  pub by_unwrap : unwrap ≡ kind_of_code (get_or k 1 0) → (lost (key_of k) ≡ 1 + length (decimal (get_or k 3 0))) × (gained (key_of k) ≡ 0)
  unfolding key_of lost gained
  by_unwrap e = rw (← e) (refl, refl)
