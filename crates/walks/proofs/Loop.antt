-- For a walk: the test of a `while`, whatever it comes out as; a constant of many digits; the locals of a function at their blocks; and six entries replaced by one.
-- Assumes `Logic`.
use Prim.Native.Nat.{ℕ, zero, suc}
use mathlib.Core.List.{List, [], ◌∷◌}
use mathlib.Core.Bool.{Bool, not}
use lib.Dec.{T}
use seplogic.Ra.Ura.{Ura}
use mir.Syntax.{Ty, Width, int_big, ty_unit, Opd as Operand, Body, skip, seq, cond, exit, Local, local}
use mir.Val.{Fits, vbool, vint}
use base.Logic.{ent, via, guard_i}
use prog.Wp.{Heap, Env, Calls, Loops, exits}
use types.Logic.{Logic}
use types.Kit.{Item, Goal, Post, post, prop, runs, Seq, Step, cut, ⋆, ◌$◌}
use types.Run.{Opd, first, branches, skips, jumps}

module _ {M : Type 1} {𝓤 : Ura M} {𝓛 : Logic 𝓤} {K : Type 0} {Γ : List (Item 𝓤)} {E : Env 𝓤 𝓛.H} {C : Calls 𝓤 𝓛.H} {Λ : Loops 𝓤 𝓛.H} {q : Post 𝓤 𝓛.H} where
  open 𝓛 use {H}

  pub tests : K → {c : Operand} {n : ℕ} {b : Body} {y : Bool} → Opd K 𝓛 Γ E c (vbool y) → (T y → Seq K 𝓛 Γ (runs C Λ E b q)) → (T (not y) → Seq K 𝓛 Γ (prop (post 𝓤 H q (exits n))))
      → Seq K 𝓛 Γ (runs C Λ E (seq (cond c skip (exit n)) b) q)
  tests t o held failed = first t $ branches t o (λ h. skips t $ record { prf = (held h).prf }) (λ h. jumps t $ record { prf = (failed h).prf })

-- a constant of many digits
module _ {M : Type 1} {𝓤 : Ura M} {𝓛 : Logic 𝓤} {K : Type 0} {Γ : List (Item 𝓤)} {E : Env 𝓤 𝓛.H} where
  pub big_lit : K → {w : Width} {n : ℕ} → Fits w n → Opd K 𝓛 Γ E (int_big w n) (vint w n)
  big_lit t {w} {n} fits = record { go = λ Kt h. via 𝓤 (Kt (vint w n)) h (guard_i 𝓤 (Fits w n) (Kt (vint w n)) fits) }

abbrev pub env_of : {M : Type 1} (𝓤 : Ura M) (H : Heap 𝓤) → List Local → List ℕ → Env 𝓤 H
env_of 𝓤 H [] bs = []
env_of 𝓤 H (x ∷ xs) [] = []
env_of 𝓤 H (local τ m ∷ xs) (b ∷ bs) = (τ, b) ∷ env_of 𝓤 H xs bs

-- the type of local k
abbrev pub ty_at : List Local → ℕ → Ty
ty_at [] k = ty_unit
ty_at (local τ m ∷ xs) zero = τ
ty_at (local τ m ∷ xs) (suc k) = ty_at xs k

-- the first six entries replaced by an item that they entail
module _ {M : Type 1} {𝓤 : Ura M} {K : Type 0} (𝓛 : Logic 𝓤) {Γ : List (Item 𝓤)} {G : Goal 𝓤 𝓛.H} where
  abbrev pub use6 : {i₁ i₂ i₃ i₄ i₅ i₆ : Item 𝓤} (k : Item 𝓤) → ent 𝓤 (⋆ 𝓛 (i₁ ∷ i₂ ∷ i₃ ∷ i₄ ∷ i₅ ∷ i₆ ∷ [])) (⋆ 𝓛 (k ∷ [])) → Step K 𝓛 (k ∷ Γ) G (i₁ ∷ i₂ ∷ i₃ ∷ i₄ ∷ i₅ ∷ i₆ ∷ Γ) G
  use6 {i₁} {i₂} {i₃} {i₄} {i₅} {i₆} k h = cut (i₁ ∷ i₂ ∷ i₃ ∷ i₄ ∷ i₅ ∷ i₆ ∷ []) (k ∷ []) Γ h
