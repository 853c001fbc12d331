-- A list of different numbers below M has at most M members.
-- Assumes nothing.
use Prim.Native.Nat.{ℕ, zero, suc, ◌<◌, ◌≤◌}
use mathlib.Core.Path.{◌≡◌, refl, sym, ap, subst}
use mathlib.Core.List.{List, [], ◌∷◌}
use mathlib.Core.Logic.{inl, inr}
use native.Mathlib.Omega.{arith}
use native.Mathlib.Decide.{ℕ_discrete}
use lib.ListN.{length}
use Rattle.laws.specs.Sets.{Mem}

abbrev pub All : (ℕ → Type 0) → List ℕ → Type 0
All P [] = Unit {0}
All P (c ∷ cs) = P c × All P cs

abbrev pub Distinct : List ℕ → Type 0
Distinct [] = Unit {0}
Distinct (c ∷ cs) = (Mem c cs → ⊥) × Distinct cs

pub all_map : {P Q : ℕ → Type 0} → ((c : ℕ) → P c → Q c) → (cs : List ℕ) → All P cs → All Q cs
all_map f [] a = tt
all_map f (c ∷ cs) a = (f c a.0, all_map f cs a.1)

pub all_mem : (P : ℕ → Type 0) (cs : List ℕ) → All P cs → (c : ℕ) → Mem c cs → P c
unfolding Mem
all_mem P [] a c m = absurd m
all_mem P (d ∷ cs) a c (inl e) = subst P (sym e) a.0
all_mem P (d ∷ cs) a c (inr m) = all_mem P cs a.1 c m

-- what is left of a list of different numbers below M + 1 without the number M
record Cut (M : ℕ) (cs : List ℕ) : Type 0 where
  left : List ℕ
  short : length cs ≤ suc (length left)
  lacks : (Mem M cs → ⊥) → length cs ≡ length left
  within : (c : ℕ) → Mem c left → Mem c cs
  below : All (λ c. c < M) left
  apart : Distinct left

cut : (M : ℕ) (cs : List ℕ) → All (λ c. c < suc M) cs → Distinct cs → Cut M cs
unfolding Mem
cut M [] a d = record { left = []; short = omega arith; lacks = λ h. refl; within = λ c m. m; below = tt; apart = tt }
cut M (c ∷ cs) a d = go (ℕ_discrete c M) (cut M cs a.1 d.1)
  where
    go : Dec (c ≡ M) → Cut M cs → Cut M (c ∷ cs)
    go (yes e) r =
        let n : length cs ≡ length r.left = r.lacks (rw e at d.0) in
        record { left = r.left; short = omega arith; lacks = λ h. absurd (h (inl (sym e))); within = λ k m. inr (r.within k m); below = r.below; apart = r.apart }
    go (no e) r =
        record {
          left = c ∷ r.left;
          short = omega (arith, r.short);
          lacks = λ h. ap suc (r.lacks (λ m. h (inr m)));
          within = λ k m. keep k m;
          below = (omega (arith, a.0, e), r.below);
          apart = (λ m. d.0 (r.within c m), r.apart);
        }
      where
        keep : (k : ℕ) → Mem k (c ∷ r.left) → Mem k (c ∷ cs)
        keep k (inl p) = inl p
        keep k (inr m) = inr (r.within k m)

pub pigeon : (M : ℕ) (cs : List ℕ) → All (λ c. c < M) cs → Distinct cs → length cs ≤ M
pigeon zero [] a d = omega arith
pigeon zero (c ∷ cs) a d = absurd (omega (arith, a.0))
pigeon (suc M) cs a d = let r = cut M cs a d in omega (arith, r.short, pigeon M r.left r.below r.apart)
