-- What the proofs of entering, passing and reaching cite: one law for each function, over plain variables. Assumes nothing.
use Prim.Native.Nat.{ℕ, ◌+◌, ◌*◌, ◌<◌}
use mathlib.Core.Path.{◌≡◌, refl, sym, ◌∙◌}
use mathlib.Core.Bool.{Bool, true, false, true≢false, cond, ◌&&◌}
use mathlib.Core.List.{List}
use native.Mathlib.Omega.{arith}
use lib.Dec.{eqb, leb}
use lib.ListN.{get_or, get_or-replicate}
use Rattle.std.specs.Prelude.{Option, Some, None, is_some}
use Rattle.paper.proofs.Places.{place_lt}
use Rattle.network.specs.Network.{links, funs, places, from, node, kind, x_of, y_of, fee, place_in}
use Rattle.network.specs.Arranged.{Arranged}
use Rattle.network.specs.Next.{suits, First}
use Rattle.tables_costs.specs.Costs.{far, lower_to, blank}
use Rattle.tables_sweeps.specs.Row.{onward, onwards, steps, closing, closings, landing, landings, inside, tunnels}
use Rattle.tables_sweeps.proofs.Loops.{upto_none}
use Rattle.tables_reach.proofs.Crossings.{not_served}

blank_far : (m i : ℕ) → i < m → get_or (blank m) i 0 ≡ far
unfolding blank
blank_far m i h = get_or-replicate {A = ℕ} m i far 0 h

far_blank : (m i : ℕ) → i < m → leb far (get_or (blank m) i 0) ≡ true
far_blank m i h = rw (blank_far m i h)

module _ (g W C : List ℕ) (v x : ℕ) where
  pub passed : (exits ends a a' : List ℕ) → exits ≡ inside g W C v x (blank 1024) → ends ≡ closings g x exits (blank 256) → a' ≡ landings g x ends a
      → a' ≡ tunnels g W C v x a
  unfolding tunnels
  passed exits ends a a' e f h = rw (← e, ← f) h

  -- no function wraps there
  pub no_tunnels : (r : Option ℕ) (a : List ℕ) → Arranged g → First (suits g v 1 x) (funs g) r → is_some r ≡ false → a ≡ tunnels g W C v x a
  unfolding tunnels inside steps onwards onward closings closing landings landing
  no_tunnels (Some j) a known s e = absurd (true≢false e)
  no_tunnels None a known s e = sym ((rw (no_wraps, no_exits, no_ends)) ∙ no_landings)
    where
      no_wraps : steps g v 1 x (blank 1024) ≡ blank 1024
      no_wraps = upto_none _ (funs g) (blank 1024) (λ j h. not_served g v 1 x j (blank 1024) (s.none_before j (omega arith) (omega arith)))

      no_exits : onwards W C (places g) (blank 1024) (blank 1024) ≡ blank 1024
      no_exits = upto_none _ (places g) (blank 1024) (λ q h. rw (far_blank 1024 q (omega (arith, known.valid.places))))

      no_ends : closings g x (blank 1024) (blank 256) ≡ blank 256
      no_ends = upto_none _ (funs g) (blank 256) (λ j h. go j h (eqb (kind g j) 2 && eqb (x_of g j) x))
        where
          go : (j : ℕ) → j < funs g → (b : Bool)
              → cond b (cond (leb far (get_or (blank 1024) (place_in g (node g j) (y_of g j)) 0)) (blank 256)
              (lower_to (node g j) (get_or (blank 1024) (place_in g (node g j) (y_of g j)) 0 + (fee g j * 65536 + 1)) (blank 256))) (blank 256) ≡ blank 256
          go j h false = refl
          go j h true = rw (far_blank 1024 (place_in g (node g j) (y_of g j)) (omega (arith, place_lt _ _ (node g j) (y_of g j) (known.valid.fun_node j h) (known.valid.fun_y j h), known.valid.places)))

      no_landings : landings g x (blank 256) a ≡ a
      no_landings = upto_none _ (links g) a (λ i h. rw (far_blank 256 (from g i) (omega (arith, known.valid.link_from i h, known.valid.nodes))))
