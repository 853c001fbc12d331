-- Records stay where the room's entries up to them stay, and a record that is written blank says what was written.
-- Assumes nothing.
use Prim.Native.Nat.{ℕ, zero, suc, ◌+◌, ◌*◌, ◌/◌, ◌%◌, ◌<◌}
use mathlib.Core.Path.{◌≡◌, refl, ap, ◌∙◌, fun_ext}
use mathlib.Core.Bool.{Bool, true, false, ◌&&◌}
use mathlib.Core.List.{List}
use native.Mathlib.Omega.{arith}
use native.Mathlib.Nat.{div-add-mod}
use lib.Dec.{T, ltb, ltb→lt}
use lib.ListN.{length, get_or}
use Rattle.paper.specs.Net.{place}
use Rattle.unfold_frames.specs.Frames.{bit, mark, held_at, held, below, Kept}

module _ (p words : ℕ) where
  -- ## The same entries, the same records

  mark_same : (L L' : List ℕ) (o i : ℕ) → ((j : ℕ) → j < o + (words + 5) → get_or L j 0 ≡ get_or L' j 0) → mark words L o i ≡ mark words L' o i
  unfolding mark
  mark_same L L' o i h = go (ltb i (16 * words)) (ltb→lt i (16 * words))
    where
      go : (c : Bool) → (T c → i < 16 * words) → (c && bit (get_or L (o + 5 + i / 16) 0) (i % 16)) ≡ (c && bit (get_or L' (o + 5 + i / 16) 0) (i % 16))
      go true f =
          let k : i < 16 * words = f tt in
          let a : o + 5 + i / 16 < o + (words + 5) = omega (arith, div-add-mod i 16) in
          rw (h (o + 5 + i / 16) a)
      go false f = refl

  pub held_same : (L L' : List ℕ) (o : ℕ) → ((j : ℕ) → j < o + (words + 5) → get_or L j 0 ≡ get_or L' j 0) → held_at p words L o ≡ held_at p words L' o
  unfolding held_at
  held_same L L' o h =
      let e : ◌≡◌ {A = ℕ → ℕ → Bool} (λ u y. mark words L o (place p u y)) (λ u y. mark words L' o (place p u y)) =
      fun_ext (λ u. fun_ext (λ y. mark_same L L' o (place p u y) h)) in
      rw (h o (omega arith), h (o + 1) (omega arith), h (o + 2) (omega arith), h (o + 3) (omega arith), h (o + 4) (omega arith), e)

  pub kept_held : {L L' : List ℕ} (k : ℕ) → Kept p words k L L' → held p words L k ≡ held p words L' k
  kept_held {L} {L'} k h = held_same L L' ((words + 5) * k) (λ j i. h.same j (omega arith))

  pub kept_below : {L L' : List ℕ} (k : ℕ) → Kept p words k L L' → below p words L k ≡ below p words L' k
  unfolding below
  kept_below zero h = refl
  kept_below {L} {L'} (suc k) h = let g : Kept p words k L L' = record { same = λ j i. h.same j (omega arith) } in rw (kept_held k g, kept_below k g)

  pub kept_none : {L : List ℕ} (k : ℕ) → Kept p words k L L
  kept_none k = record { same = λ j i. refl }

  pub kept_then : {L L' L'' : List ℕ} {k : ℕ} → Kept p words k L L' → Kept p words k L' L'' → Kept p words k L L''
  kept_then a c = record { same = λ j i. a.same j i ∙ c.same j i }

  -- what is kept up to a record is kept up to one before it
  pub kept_fewer : {L L' : List ℕ} {k : ℕ} → Kept p words (suc k) L L' → Kept p words k L L'
  kept_fewer a = record { same = λ j i. a.same j (omega arith) }

  pub below_length : (L : List ℕ) (k : ℕ) → length (below p words L k) ≡ k
  unfolding below
  below_length L zero = refl
  below_length L (suc k) = ap suc (below_length L k)
