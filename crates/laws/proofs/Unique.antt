-- An enquiry has one entry and one outcome.
-- Assumes nothing.
use Prim.Native.Nat.{ℕ, ◌≤◌}
use mathlib.Core.Path.{◌≡◌, fun_ext}
use mathlib.Core.List.{List}
use mathlib.Core.Option.{Option}
use mathlib.Core.Logic.{◌⊎◌, inl, inr}
use native.Mathlib.Omega.{arith}
use lib.ListN.{length}
use Rattle.paper.specs.Net.{Key}
use Rattle.paper.specs.Route.{Feasible, Best}
use Rattle.paper.specs.Rooms.{NoRoute, AllHeavy, LeastWeight, FewestSteps, MoreSteps}
use Rattle.laws.specs.Value.{Value, never, cap, Entry}
use Rattle.laws.proofs.Cap.{le_antisym_v}
use Rattle.laws.proofs.Outcome.{never_cap}

module _ (hop : Key → ℕ → Option (ℕ × ℕ)) (S a D b : ℕ) where
  abbrev Att : Value → Type 0
  Att e = (e ≡ never) ⊎ ((ks : List Key) × (w : ℕ) × Feasible hop S a D b ks w × (e ≡ cap w (length ks)))

  pub entry_unique : (e f : Value) → Entry hop S a D b e → Entry hop S a D b f → e ≡ f
  entry_unique e f p q = go p.attained q.attained
    where
      go : Att e → Att f → e ≡ f
      go (inl i) (inl j) = cc
      go (inl i) (inr j) = absurd (never_cap j.1 (length j.0) (rw i at (p.least j.0 j.1 j.2)))
      go (inr i) (inl j) = absurd (never_cap i.1 (length i.0) (rw j at (q.least i.0 i.1 i.2)))
      go (inr i) (inr j) = le_antisym_v e f (rw j.3 (p.least j.0 j.1 j.2)) (rw i.3 (q.least i.0 i.1 i.2))

  -- no two of the outcomes 8, 9, 10 and 0 together
  pub not_8_9 : NoRoute hop S a D b → AllHeavy hop S a D b → ⊥
  not_8_9 p q = let r = q.some_feasible in p.none_feasible r.0 r.1 r.2

  pub not_8_light : (w : ℕ) → NoRoute hop S a D b → LeastWeight hop S a D b w → ⊥
  not_8_light w p q = let r = q.of_route in p.none_feasible r.0 w r.1

  pub not_9_light : (w : ℕ) → AllHeavy hop S a D b → LeastWeight hop S a D b w → ⊥
  not_9_light w p q = let r = q.of_route in omega (arith, q.limit, p.heavy r.0 w r.1)

  pub same_least : (w u : ℕ) → LeastWeight hop S a D b w → LeastWeight hop S a D b u → w ≡ u
  same_least w u p q =
      let r = p.of_route in
      let t = q.of_route in
      omega (arith, p.least t.0 u t.1, q.least r.0 w r.1)

  pub not_10_0 : (m w s : ℕ) → MoreSteps hop S a D b w m → FewestSteps hop S a D b w s → s ≤ m → ⊥
  not_10_0 m w s p q h = let r = q.of_steps in omega (arith, r.2, p.long r.0 r.1)

-- two arrangements of the records in which every step leads to the same place at the same weight have the same best routes
pub same_best : (h g : Key → ℕ → Option (ℕ × ℕ)) → ((k : Key) (v : ℕ) → h k v ≡ g k v) → (S a D b : ℕ) (ks : List Key) (w : ℕ) → Best h S a D b ks w → Best g S a D b ks w
same_best h g e S a D b ks w p = rw (fun_ext (λ k. fun_ext (λ v. e k v))) at p
