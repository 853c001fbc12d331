-- A record that is written blank has the numbers written and marks nothing; marking a place leaves its numbers. Assumes nothing.
use Prim.Native.Nat.{ℕ, suc, ◌+◌, ◌*◌, ◌/◌, ◌%◌, ◌<◌, ◌≤◌}
use mathlib.Core.Path.{◌≡◌, ◌∙◌}
use mathlib.Core.List.{List}
use native.Mathlib.Omega.{arith}
use native.Mathlib.Nat.{div-add-mod}
use lib.Dec.{T}
use lib.ListN.{length, get_or, length-replicate, get_or-replicate}
use lib.Seq.{get_or-set_other}
use Rattle.paper.specs.Net.{place}
use Rattle.paper.specs.Rooms.{laid}
use Rattle.laws.specs.Unfold.{frame}
use Rattle.laws.proofs.Laid.{laid_there}
use Rattle.unfold_frames.specs.Frames.{blank, Headed, with_mark, mark, held_at}
use Rattle.unfold_frames.proofs.Marks.{mark_below, mark_none}

module _ (L L' : List ℕ) (o words v h w n : ℕ) (fits : o + 5 + words ≤ length L) (e : L' ≡ laid L o (blank words v h w n)) where
  blank_length : length (blank words v h w n) ≡ 5 + words
  unfolding blank
  blank_length = omega (arith, length-replicate {A = ℕ} words 0)

  there : (i : ℕ) → i < 5 + words → get_or L' (o + i) 0 ≡ get_or (blank words v h w n) i 0
  there i k = rw e (laid_there L o (blank words v h w n) i (omega (arith, blank_length)) (omega (arith, blank_length)))

  pub blank_headed : Headed L' o v h w n
  unfolding blank
  blank_headed =
      let z : o + 0 ≡ o = omega arith in
      record {
        at_place = rw z at (there 0 (omega arith));
        at_hidden = there 1 (omega arith);
        at_low = there 2 (omega arith);
        at_high = there 3 (omega arith);
        at_steps = there 4 (omega arith);
      }

  pub blank_marks : (i : ℕ) → T (mark words L' o i) → ⊥
  unfolding blank
  blank_marks i t =
      let k : i / 16 < words = omega (arith, div-add-mod i 16, mark_below words L' o i t) in
      let f : o + suc (suc (suc (suc (suc (i / 16))))) ≡ o + 5 + i / 16 = omega arith in
      mark_none words L' o i ((rw f at (there (suc (suc (suc (suc (suc (i / 16)))))) (omega arith))) ∙ get_or-replicate {A = ℕ} words (i / 16) 0 0 k) t

pub marked_headed : {L L' : List ℕ} {o v h w n : ℕ} (i : ℕ) → L' ≡ with_mark L o i → Headed L o v h w n → Headed L' o v h w n
unfolding with_mark
marked_headed {L} {L'} {o} i e d =
    record {
      at_place = other o (omega arith) ∙ d.at_place;
      at_hidden = other (o + 1) (omega arith) ∙ d.at_hidden;
      at_low = other (o + 2) (omega arith) ∙ d.at_low;
      at_high = other (o + 3) (omega arith) ∙ d.at_high;
      at_steps = other (o + 4) (omega arith) ∙ d.at_steps;
    }
  where
    other : (j : ℕ) → j < o + 5 → get_or L' j 0 ≡ get_or L j 0
    other j k = rw e (get_or-set_other L (o + 5 + i / 16) j _ 0 (λ f. omega arith))

-- the record that the numbers are of
pub headed_held : (p words : ℕ) {L : List ℕ} {o v h w n : ℕ} → Headed L o v h w n → held_at p words L o ≡ frame (v / p) (v % p) h w n (λ u y. mark words L o (place p u y))
unfolding held_at
headed_held p words {L} {o} {v} {h} {w} {n} d =
    let e : get_or L (o + 2) 0 + 65536 * get_or L (o + 3) 0 ≡ w = omega (arith, d.at_low, d.at_high, div-add-mod w 65536) in
    rw (d.at_place, d.at_hidden, e, d.at_steps)
