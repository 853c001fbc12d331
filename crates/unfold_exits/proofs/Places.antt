-- The exits of an open level are listed place by place. Assumes nothing.
use Prim.Native.Nat.{ℕ, ◌+◌, ◌-◌, ◌*◌, ◌/◌, ◌<◌, ◌≤◌}
use mathlib.Core.Path.{◌≡◌, refl, sym, ◌∙◌}
use mathlib.Core.Bool.{Bool, true, false}
use mathlib.Core.List.{List, [], ◌∷◌, ◌++◌}
use native.Mathlib.Omega.{arith}
use lib.Dec.{T}
use lib.ListN.{get_or}
use Rattle.unfold_frames.specs.Frames.{words_for, mark}
use Rattle.unfold_frames.proofs.Marks.{mark_none}
use Rattle.tables_costs.specs.Costs.{far}
use Rattle.unfold_exits.specs.Cost.{told_at}
use Rattle.unfold_exits.specs.Lists.{Lists, Gathered, Ranged}
use Rattle.unfold_exits.specs.Exits.{left_at, Leaves, LeavesBy}
use Rattle.unfold_exits.specs.declared.lists.Exit.{Exit}
use Rattle.unfold_exits.proofs.Listing.{lists_as, gathered_past, gathered_one}

not_both : (b : Bool) → b ≡ false → T b → ⊥
not_both b e t = rw e at t

true_holds : (b : Bool) → b ≡ true → T b
true_holds b e = rw e tt

module _ {size : ℕ} {W C L : List ℕ} {o : ℕ} {E : List Exit} {e : ℕ} (g : Gathered (LeavesBy size W C L o) e E) where
  none_here : ((c : ℕ) → Leaves size W C L o e c → ⊥) → Gathered (LeavesBy size W C L o) (e + 1) E
  none_here none = gathered_past _ g (omega arith) (λ i e' c h k l. let f : e' ≡ e = omega (arith, l.place_is) in none c (rw f at l.leaves))

  -- a place that is not marked, and one to which the way costs more than was left
  pub place_unmarked : (b : Bool) → b ≡ mark (words_for size) L o e → b ≡ false → Gathered (LeavesBy size W C L o) (e + 1) E
  place_unmarked b f h = none_here (λ c l. not_both (mark (words_for size) L o e) (sym f ∙ h) l.marked)

  module _ (a row t k : ℕ) (fa : a ≡ get_or L o 0) (fr : row ≡ a * size) (ft : t ≡ told_at W C (row + e)) (fk : k ≡ left_at L o) where
    pub place_beyond : k < t → Gathered (LeavesBy size W C L o) (e + 1) E
    place_beyond h = none_here (λ c l. omega (arith, l.left, rw (fr, fa) at ft))

    -- an exit
    pub place_listed : {E' : List Exit} (b : Bool) → e < size → b ≡ mark (words_for size) L o e → b ≡ true → t ≤ k → E' ≡ E ++ record { place = e; cost = k - t } ∷ [] → Gathered (LeavesBy size W C L o) (e + 1) E'
    place_listed b he f h le eE =
        let told = rw (fr, fa) at ft in
        rw eE
        (gathered_one _ (record { place = e; cost = k - t }) g
        (record { place_is = refl; leaves = record { below = he; marked = true_holds (mark (words_for size) L o e) (sym f ∙ h); left = omega arith } })
        (λ e' c l. (l.place_is, (let q : e' ≡ e = l.place_is in omega (arith, rw q at l.leaves.left)))))

module _ {size : ℕ} {W C L : List ℕ} {o : ℕ} {E : List Exit} (q : ℕ) (g : Gathered (LeavesBy size W C L o) (16 * q) E) where
  -- a word of zeros
  pub word_past : (a : ℕ) → a ≡ get_or L (o + 5 + q) 0 → a ≡ 0 → Gathered (LeavesBy size W C L o) (16 * (q + 1)) E
  word_past a f h = gathered_past _ g (omega arith) none
    where
      none : (i e c : ℕ) → 16 * q ≤ i → i < 16 * (q + 1) → LeavesBy size W C L o i e c → ⊥
      none i e c l m s =
          let d : e / 16 ≡ q = omega (arith, s.place_is) in
          mark_none (words_for size) L o e (rw d (sym f ∙ h)) s.leaves.marked

  -- every place has been passed
  module _ (words : ℕ) (ew : words ≡ words_for size) (h : q ≤ words) (k : words ≤ q) where
    level_lists : Lists (Leaves size W C L o) E
    level_lists =
        lists_as _ (Leaves size W C L o) (λ e c s. rw s.is.place_is (rw s.is.place_is at s.is.leaves))
        (λ e c l. record { at = e; below = omega (arith, l.below); is = record { place_is = refl; leaves = l } }) g.lists

    pub level_listed : left_at L o ≤ far → Ranged size E × Lists (Leaves size W C L o) E
    level_listed small = (
      record {
        place_below = λ i l. (level_lists.each i l).below;
        cost_below = λ i l. omega (arith, (level_lists.each i l).left);
      },
      level_lists,
    )
