-- A read goes on where the front that is filled ends. Assumes nothing.
use Rattle.std.proofs.Common.{◌≡◌, ℕ, ◌+◌, ◌≤◌, List, ◌++◌, rules, length, take, drop, ap, ◌∙◌, sym, subst, le_refl, drop_at, length-take-le}
use Rattle.std.proofs.lemmas.Slice.{take-put_mid_below}
use Rattle.std.specs.Io.KnownBytes.{Consumes}
use Rattle.std.proofs.KnownBytes.{Consumes-trans}
use borrow.Rule.Slice.PartMut.{put_mid, post_of}
use lib.Seq.{take-add, take-append-le}
use Rattle.program_io.proofs.read_full.Goals as goal

-- n more entries of what was put from a on stand after the a entries before
taken : (a k n : ℕ) (xs ys : List ℕ) → a ≤ length xs → n ≤ length ys → take a xs ++ take n ys ≡ take (a + n) (put_mid a k xs ys)
taken a k n xs ys within fits =
    let room = put_mid a k xs ys in
    let front : take a room ≡ take a xs = take-put_mid_below _ _ _ _ _ (le_refl a) within in
    let back : take n (drop a room) ≡ take n ys =
    ap (take n) (drop_at (take a xs) (ys ++ post_of a k xs) a (length-take-le a xs within)) ∙ take-append-le n ys (post_of a k xs) fits in
    sym (take-add a n room ∙ ap (λ (l : List ℕ). l ++ take n (drop a room)) front ∙ ap (λ (l : List ℕ). take a xs ++ l) back)

pub loop-at-preserved : goal.loop-at-preserved
loop-at-preserved g c =
    let read = c.in-Ok.ensures in
    let i = c.loop-at.invariant in
    record {
      length_kept = search rules;
      within = search rules;
      bytes = subst (Consumes _ _) (taken _ _ _ _ _ i.within read.bound.0) (Consumes-trans _ _ _ _ _ i.bytes read.bytes.0);
    }
