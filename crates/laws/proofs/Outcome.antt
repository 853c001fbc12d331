-- What the entry of a pair says of its routes: `never` is 8, `over` is 9, and `within w s` is 10 or a route, by the steps.
-- Main result: `entries`, the paper's two numbers of a pair.
-- Assumes nothing.
use Prim.Native.Nat.{ℕ, ◌<◌, ◌≤◌, min}
use mathlib.Core.Path.{◌≡◌}
use mathlib.Core.Bool.{Bool, true, false, cond}
use mathlib.Core.List.{List}
use mathlib.Core.Option.{Option}
use mathlib.Core.Logic.{◌⊎◌, inl, inr}
use native.Mathlib.Omega.{arith}
use native.Mathlib.Decide.{dec_le}
use lib.Dec.{leb}
use lib.ListN.{length}
use Rattle.paper.specs.Net.{Key}
use Rattle.paper.specs.Route.{Feasible}
use Rattle.paper.specs.Rooms.{NoRoute, AllHeavy, LeastWeight, FewestSteps, MoreSteps, Entries, least, long, heavy, nowhere}
use Rattle.laws.specs.Value.{Value, within, over, never, heft, count, cap, Le, Entry}
use Rattle.laws.proofs.Cap.{Tested, holds, fails, tested}

-- what a bound on `cap w s`, and an equation for it, says of w and s
pub never_cap : (w s : ℕ) → Le never (cap w s) → ⊥
unfolding Le cap
never_cap w s = go (leb w 4000000000)
  where
    go : (b : Bool) → Le never (cond {A = Value} b (within w (min s 4097)) over) → ⊥
    go true p = p
    go false p = p

over_cap : (w s : ℕ) → Le over (cap w s) → 4000000000 < w
unfolding Le cap
over_cap w s = go (leb w 4000000000) (tested w 4000000000)
  where
    go : (b : Bool) → Tested w 4000000000 b → Le over (cond {A = Value} b (within w (min s 4097)) over) → 4000000000 < w
    go true t p = absurd p
    go false (fails h) p = h

within_cap : (u c w s : ℕ) → u ≤ 4000000000 → Le (within u c) (cap w s) → (u < w) ⊎ ((u ≡ w) × (c ≤ min s 4097))
unfolding Le cap
within_cap u c w s h = go (leb w 4000000000) (tested w 4000000000)
  where
    go : (b : Bool) → Tested w 4000000000 b → Le (within u c) (cond {A = Value} b (within w (min s 4097)) over) → (u < w) ⊎ ((u ≡ w) × (c ≤ min s 4097))
    go true t p = p
    go false (fails g) p = inl (omega arith)

never_is : (w s : ℕ) → never ≡ cap w s → ⊥
unfolding cap
never_is w s = go (leb w 4000000000)
  where
    go : (b : Bool) → never ≡ cond {A = Value} b (within w (min s 4097)) over → ⊥
    go true e = let z : ◌≡◌ {A = ℕ} 0 1 = cc in omega arith
    go false e = let z : ◌≡◌ {A = ℕ} 0 1 = cc in omega arith

within_is : (u c w s : ℕ) → within u c ≡ cap w s → (u ≡ w) × (w ≤ 4000000000) × (c ≡ min s 4097)
unfolding cap
within_is u c w s = go (leb w 4000000000) (tested w 4000000000)
  where
    go : (b : Bool) → Tested w 4000000000 b → within u c ≡ cond {A = Value} b (within w (min s 4097)) over → (u ≡ w) × (w ≤ 4000000000) × (c ≡ min s 4097)
    go true (holds h) e = (cc, h, cc)
    go false t e = absurd (let z : ◌≡◌ {A = ℕ} 0 1 = cc in omega arith)

module _ (hop : Key → ℕ → Option (ℕ × ℕ)) (S a D b : ℕ) where
  pub is_8 : Entry hop S a D b never → NoRoute hop S a D b
  is_8 e = record { none_feasible = λ ks w f. never_cap w (length ks) (e.least ks w f) }

  pub is_9 : Entry hop S a D b over → AllHeavy hop S a D b
  is_9 e = record { some_feasible = go e.attained; heavy = λ ks w f. over_cap w (length ks) (e.least ks w f) }
    where
      go : (over ≡ never) ⊎ ((ks : List Key) × (w : ℕ) × Feasible hop S a D b ks w × (over ≡ cap w (length ks))) → (ks : List Key) × (w : ℕ) × Feasible hop S a D b ks w
      go (inl h) = absurd (let z : ◌≡◌ {A = ℕ} 0 1 = cc in omega arith)
      go (inr h) = (h.0, h.1, h.2)

  -- the route behind an entry `within w s`
  abbrev Behind : ℕ → ℕ → Type 0
  Behind w s = (ks : List Key) × Feasible hop S a D b ks w × (w ≤ 4000000000) × (s ≡ min (length ks) 4097)

  behind : (w s : ℕ) → Entry hop S a D b (within w s) → Behind w s
  behind w s e = go e.attained
    where
      out : (ks : List Key) (u : ℕ) → Feasible hop S a D b ks u → (w ≡ u) × (u ≤ 4000000000) × (s ≡ min (length ks) 4097) → Behind w s
      out ks u f i = (ks, rw i.0 f, omega (arith, i), i.2)

      go : (within w s ≡ never) ⊎ ((ks : List Key) × (u : ℕ) × Feasible hop S a D b ks u × (within w s ≡ cap u (length ks))) → Behind w s
      go (inl h) = absurd (let z : ◌≡◌ {A = ℕ} 0 1 = cc in omega arith)
      go (inr h) = out h.0 h.1 h.2 (within_is w s h.1 (length h.0) h.3)

  pub fewer : (w s : ℕ) → Entry hop S a D b (within w s) → (ks : List Key) (u : ℕ) → Feasible hop S a D b ks u → (w < u) ⊎ ((w ≡ u) × (s ≤ min (length ks) 4097))
  fewer w s e ks u f = within_cap w s u (length ks) (behind w s e).2 (e.least ks u f)

  pub least_weight : (w s : ℕ) → Entry hop S a D b (within w s) → LeastWeight hop S a D b w
  least_weight w s e =
      let g = behind w s e in
      record { limit = g.2; of_route = (g.0, g.1); least = λ ks u f. at_most (fewer w s e ks u f) }
    where
      at_most : {u c : ℕ} → (w < u) ⊎ ((w ≡ u) × (s ≤ c)) → w ≤ u
      at_most (inl h) = omega arith
      at_most (inr h) = omega arith

  steps : (w s : ℕ) → Entry hop S a D b (within w s) → (ks : List Key) → Feasible hop S a D b ks w → s ≤ min (length ks) 4097
  steps w s e ks f = go (fewer w s e ks w f)
    where
      go : (w < w) ⊎ ((w ≡ w) × (s ≤ min (length ks) 4097)) → s ≤ min (length ks) 4097
      go (inl h) = absurd (omega arith)
      go (inr h) = h.1

  pub is_10 : (m w s : ℕ) → Entry hop S a D b (within w s) → m < s → MoreSteps hop S a D b w m
  is_10 m w s e h = record { long = λ ks f. omega (arith, steps w s e ks f) }

  pub is_0 : (w s : ℕ) → Entry hop S a D b (within w s) → s ≤ 4096 → FewestSteps hop S a D b w s
  is_0 w s e h =
      let g = behind w s e in
      record { of_steps = (g.0, g.1, omega (arith, g.3)); fewest = λ ks f. omega (arith, steps w s e ks f) }

  pub entries : (e : Value) → Entry hop S a D b e → Entries hop S a D b (heft e) (count e)
  unfolding heft count
  entries (within w s) e = go (dec_le s 4096)
    where
      go : Dec (s ≤ 4096) → Entries hop S a D b w s
      go (yes h) = least (least_weight w s e) (is_0 w s e h) h
      go (no h) =
          let f : 4097 ≡ s = omega (arith, (behind w s e).3) in
          rw f at (long (least_weight w s e) (is_10 4096 w s e (omega arith)))
  entries over e = heavy (is_9 e)
  entries never e = nowhere (is_8 e)
