-- Marking the exits of a tunnel, one after another. Assumes nothing.
use Prim.Native.Nat.{ℕ, ◌+◌, ◌*◌, ◌/◌, ◌<◌, ◌≤◌}
use mathlib.Core.Path.{◌≡◌, refl, sym, ◌∙◌}
use mathlib.Core.List.{List}
use mathlib.Core.Logic.{◌⊎◌, inl, inr, ⊎_elim}
use native.Mathlib.Omega.{arith}
use native.Mathlib.Nat.{div-add-mod}
use native.Mathlib.Decide.{dec_lt}
use lib.ListN.{length}
use lib.Seq.{get_or-set_other}
use Rattle.unfold_frames.specs.Frames.{words_for, with_mark}
use Rattle.unfold_frames.proofs.Marks.{mark_new, mark_stays, mark_old}
use Rattle.unfold_exits.specs.Cost.{told_at}
use Rattle.unfold_exits.specs.Lists.{exit_at}
use Rattle.unfold_exits.specs.declared.lists.Exit.{Exit}
use Rattle.unfold_picks.specs.Opening.{Adds, Meets, MeetsOne, Marking}

module _ {words o : ℕ} where
  pub adds_none : {P : ℕ → Type 0} {L : List ℕ} → ((e : ℕ) → P e → ⊥) → Adds words o P L L
  adds_none none = record { same = λ i h. refl; old = λ e y. y; new = λ e y. absurd (none e y); only = λ e y. inl y }

  pub adds_one : {P : ℕ → Type 0} {L L' : List ℕ} (i : ℕ) → L' ≡ with_mark L o i → i < 16 * words → o + 5 + words ≤ length L → P i → ((e : ℕ) → P e → e ≡ i) → Adds words o P L L'
  unfolding with_mark
  adds_one {P} {L} {L'} i q h room p only =
      let in_room : o + 5 + i / 16 < length L = omega (arith, div-add-mod i 16) in
      rw q (record {
        same = λ j k. get_or-set_other L (o + 5 + i / 16) j _ 0 (λ f. omega arith);
        old = λ e y. mark_stays words L o i in_room e y;
        new = λ e y. let f : e ≡ i = only e y in rw f (mark_new words L o i in_room h);
        only = λ e y. ⊎_elim (λ f. inr (rw f p)) (λ z. inl z) (mark_old words L o i in_room e y);
      })

  pub adds_then : {P Q R : ℕ → Type 0} {L L' L'' : List ℕ} → ((e : ℕ) → R e → P e ⊎ Q e) → ((e : ℕ) → P e → R e) → ((e : ℕ) → Q e → R e) → Adds words o P L L' → Adds words o Q L' L'' → Adds words o R L L''
  adds_then split left right a c =
      record {
        same = λ i h. c.same i h ∙ a.same i h;
        old = λ e y. c.old e (a.old e y);
        new = λ e y. ⊎_elim (λ p. c.old e (a.new e p)) (λ q. c.new e q) (split e y);
        only = λ e y. ⊎_elim (λ z. ⊎_elim (λ s. inl s) (λ p. inr (left e p)) (a.only e z)) (λ q. inr (right e q)) (c.only e y);
      }

  module _ (W C : List ℕ) (O : List Exit) (row k : ℕ) where
    pub meets_none : {L : List ℕ} → Adds words o (MeetsOne W C O row k 0) L L
    meets_none = adds_none (λ e y. omega (arith, y.below))

    pub meets_more : {L L' L'' : List ℕ} (m : ℕ) → Adds words o (MeetsOne W C O row k m) L L' → Adds words o (Meets W C (exit_at O m) row k) L' L'' → Adds words o (MeetsOne W C O row k (m + 1)) L L''
    meets_more m a c = adds_then split (λ e y. record { at = y.at; below = omega (arith, y.below); is = y.is }) (λ e y. record { at = m; below = omega arith; is = y }) a c
      where
        split : (e : ℕ) → MeetsOne W C O row k (m + 1) e → MeetsOne W C O row k m e ⊎ Meets W C (exit_at O m) row k e
        split e y = go (dec_lt y.at m)
          where
            go : Dec (y.at < m) → MeetsOne W C O row k m e ⊎ Meets W C (exit_at O m) row k e
            go (yes h) = inl (record { at = y.at; below = h; is = y.is })
            go (no h) = let f : y.at ≡ m = omega (arith, y.below) in inr (rw f at y.is)

-- an exit over which the way costs something else, and one that is marked
module _ {W C : List ℕ} {row : ℕ} (out : Exit) (k a : ℕ) (q : a ≡ told_at W C (row + out.place) + out.cost) where
  pub exit_left : {words o : ℕ} {L : List ℕ} → (a ≡ k → ⊥) → Adds words o (Meets W C out row k) L L
  exit_left h = adds_none (λ e y. h (q ∙ y.met))

  pub exit_marked : {size o : ℕ} {L L' : List ℕ} → a ≡ k → out.place < size → o + 5 + words_for size ≤ length L → L' ≡ with_mark L o out.place → Adds (words_for size) o (Meets W C out row k) L L'
  exit_marked met h room y = adds_one out.place y (omega arith) room (record { is = refl; met = sym q ∙ met }) (λ e z. sym z.is)

-- the word of a place stands in the record's room
pub exit_below : (size o e : ℕ) (L : List ℕ) → e < size → o + 5 + words_for size ≤ length L → o + 5 + e / 16 < length L
exit_below size o e L h room = omega (arith, div-add-mod e 16)

-- what marking asks, after some was marked
pub still_marking : {size : ℕ} {O : List Exit} {row o : ℕ} {L L' : List ℕ} → Marking size O row o L → length L' ≡ length L → Marking size O row o L'
still_marking m e = record { ranged = m.ranged; row_room = m.row_room; record_room = rw e m.record_room }
