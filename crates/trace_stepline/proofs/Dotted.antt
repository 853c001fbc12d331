-- The text of the lowest cells, one cell after another. Assumes nothing.
use mathlib.Core.Path.{◌≡◌, refl, ap}
use mathlib.Core.List.{List, ◌∷◌, ◌++◌}
use Prim.Native.Nat.{ℕ, zero, suc, ◌+◌, ◌-◌, ◌<◌, ◌≤◌}
use native.Mathlib.Numerals.{add-one}
use native.Mathlib.Omega.{arith}
use lib.ListN.{length, get_or, take, length-append}
use Rattle.std.proofs.lemmas.List.{get_or-take, length-take}
use Rattle.paper.specs.Text.{decimal}
use Rattle.paper.specs.Trace.{dotted}
use Rattle.digits.specs.declared.write.Writer.{Writer}
use Rattle.digits.specs.Write.{Holds, Wrote}
use Rattle.digits.proofs.Writing.{wrote_then, none_put}
use Rattle.trace_stack.specs.Items.{below}
use Rattle.trace_stepline.specs.Texts.{cell_text}

pub cell_lowest : (h n : ℕ) → h ≤ 0 → cell_text h n ≡ decimal n
unfolding cell_text
cell_lowest zero n l = refl
cell_lowest (suc h) n l = absurd (omega arith)

pub cell_above : (h n : ℕ) → 0 < h → cell_text h n ≡ 46 ∷ decimal n
unfolding cell_text
cell_above zero n l = absurd (omega arith)
cell_above (suc h) n l = refl

module _ (cs : List ℕ) where
  cells_more : (h : ℕ) → dotted (below cs (h + 1)) ≡ dotted (below cs h) ++ cell_text h (get_or cs h 0)
  unfolding dotted below cell_text
  cells_more zero = refl
  cells_more (suc h) = rw (add-one (suc h))

  -- the text only grows
  cells_grow : (h n : ℕ) → length (dotted (below cs h)) ≤ length (dotted (below cs (h + n)))
  cells_grow h zero = let e : h + 0 ≡ h = omega arith in rw e (omega arith)
  cells_grow h (suc n) =
      let e : h + suc n ≡ h + n + 1 = omega arith in
      rw e (omega (arith, cells_grow h n, ap length (cells_more (h + n)), length-append (dotted (below cs (h + n))) (cell_text (h + n) (get_or cs (h + n) 0))))

  module _ {w v : Writer} (h n : ℕ) (is : n ≡ get_or cs h 0) (put : Wrote w v (dotted (below cs h))) where
    -- the next cell has room
    pub cell_fits : (top : ℕ) → h < top → Holds w (dotted (below cs top)) → Holds v (cell_text h n)
    cell_fits top more room =
        let g : h + 1 + (top - (h + 1)) ≡ top = omega arith in
        rw is
        (omega (arith, put.put.next, put.size, rw g at (cells_grow (h + 1) (top - (h + 1))), ap length (cells_more h), length-append (dotted (below cs h)) (cell_text h (get_or cs h 0))))

    pub cell_put : {x : Writer} → Wrote v x (cell_text h n) → Wrote w x (dotted (below cs (h + 1)))
    cell_put p = rw (cells_more h, ← is) (wrote_then put p)

  pub no_cells : (w : Writer) → Wrote w w (dotted (below cs 0))
  unfolding dotted below
  no_cells w = record { room = refl; size = refl; put = none_put w.out.now w.at }

-- the lowest of the cells alone
below_take : (cs : List ℕ) (h top : ℕ) → h ≤ top → below (take top cs) h ≡ below cs h
unfolding below
below_take cs zero top p = refl
below_take cs (suc h) top p = rw (get_or-take top cs h 0 (omega arith), below_take cs h top (omega arith))

pub lowest : (cs : List ℕ) (h : ℕ) → h ≤ length cs → below (take h cs) (length (take h cs)) ≡ below cs h
lowest cs h p = let e : length (take h cs) ≡ h = omega (arith, length-take h cs) in rw e (below_take cs h h (omega arith))
