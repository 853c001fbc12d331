-- Laws of the stack's cells: what a store at the top does to the list of protocols; and that `acted` is what `act` does where it allows.
-- Assumes nothing.
use Prim.Native.Nat.{ℕ, zero, suc, ◌+◌, ◌-◌, ◌<◌, ◌≤◌}
use mathlib.Core.Path.{◌≡◌, refl, ap, ◌∙◌, subst, sym}
use mathlib.Core.List.{List, [], ◌∷◌}
use mathlib.Core.Option.{some, none-ne-some}
use native.Mathlib.Numerals.{add-one}
use native.Mathlib.Omega.{arith}
use lib.ListN.{length, set}
use lib.Seq.{get_or-set_same, get_or-set_other}
use Rattle.paper.specs.Net.{Kind, conv, wrap, unwrap}
use Rattle.paper.specs.Route.{act}
use Rattle.laws.proofs.Parse.{conv_inv, wrap_inv, unwrap_inv}
use Rattle.trace_stack.specs.declared.Stack.{Stack}
use Rattle.trace_stack.specs.Items.{highest, below, items, beneath, acted, height_after, cell_of, stored, Ready}

-- ## Cells

pub length_below : (cs : List ℕ) (h : ℕ) → length (below cs h) ≡ h
unfolding below
length_below cs zero = refl
length_below cs (suc h) = ap suc (length_below cs h)

pub length_items : (s : Stack) → length (items s) ≡ s.height
unfolding items
length_items s = length_below s.cells s.height

-- a store above does not show
below_set : (cs : List ℕ) (i v h : ℕ) → h ≤ i → below (set cs i v) h ≡ below cs h
unfolding below
below_set cs i v zero p = refl
below_set cs i v (suc h) p = rw (get_or-set_other cs i h v 0 (omega arith), below_set cs i v h (omega arith))

pub below_push : (cs : List ℕ) (h v : ℕ) → h < length cs → below (set cs h v) (h + 1) ≡ v ∷ below cs h
unfolding below
below_push cs h v p = rw (add-one h, get_or-set_same cs h v 0 p, below_set cs h v h (omega arith))

below_retop_at : (cs : List ℕ) (h v k : ℕ) → k ≡ h → suc h ≤ length cs → below (set cs k v) (suc h) ≡ v ∷ below cs h
unfolding below
below_retop_at cs h v k e q =
    let f = rw (add-one h) at (below_push cs h v (omega arith)) in
    subst (λ (i : ℕ). below (set cs i v) (suc h) ≡ v ∷ below cs h) (sym e) f

pub below_retop : (cs : List ℕ) (h v : ℕ) → 1 ≤ h → h ≤ length cs → below (set cs (h - 1) v) h ≡ v ∷ beneath (below cs h)
unfolding below beneath
below_retop cs zero v p q = absurd (omega arith)
below_retop cs (suc h) v p q = below_retop_at cs h v (suc h - 1) (omega arith) q

pub below_pop : (cs : List ℕ) (h : ℕ) → 1 ≤ h → below cs (h - 1) ≡ beneath (below cs h)
unfolding below beneath
below_pop cs zero p = absurd (omega arith)
below_pop cs (suc h) p = let e : suc h - 1 ≡ h = omega arith in rw e

-- ## A step

module _ (y : ℕ) (s : Stack) where
  -- the cell is one of the stack's
  pub cell_in : (c : Kind) → Ready c y s → cell_of c s.height < highest
  unfolding cell_of acted
  cell_in conv a = omega (arith, a.some, a.held)
  cell_in wrap a = omega (arith, a.room, length_items s)
  cell_in unwrap a = omega (arith, a.some, a.held)

  -- a store to it, and to the height, is what the function does
  pub stored_acted : (c : Kind) → length s.cells ≡ highest → Ready c y s → items (stored s (cell_of c s.height) y (height_after c s.height)) ≡ acted c y (items s)
  unfolding cell_of height_after acted items
  stored_acted conv e a = below_retop s.cells s.height y a.some (omega (arith, a.held))
  stored_acted wrap e a = below_push s.cells s.height y (omega (arith, cell_in wrap a))
  stored_acted unwrap e a = below_set s.cells (s.height - 1) y (s.height - 1) (omega arith) ∙ below_pop s.cells s.height a.some

-- `acted` is what `act` does where it allows

pub act_acted : (c : Kind) (x y : ℕ) (s t : List ℕ) → act c x y s ≡ some t → acted c y s ≡ t
unfolding act acted beneath
act_acted conv x y [] t e = absurd (none-ne-some t e)
act_acted conv x y (z ∷ s) t e = (conv_inv x y z s t e).1
act_acted wrap x y [] t e = absurd (none-ne-some t e)
act_acted wrap x y (z ∷ s) t e = let i = wrap_inv x y z s t e in rw i.0 i.1
act_acted unwrap x y [] t e = absurd (none-ne-some t e)
act_acted unwrap x y (z ∷ []) t e = absurd (none-ne-some t e)
act_acted unwrap x y (z ∷ u ∷ s) t e = let i = unwrap_inv x y z u s t e in rw i.1 i.2
