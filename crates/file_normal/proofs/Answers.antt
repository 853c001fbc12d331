-- The normal writer's three answers: refused as the file is, too long for the room, written. Assumes nothing.
use mathlib.Core.Path.{◌≡◌, sym}
use mathlib.Core.List.{List}
use Prim.Native.Nat.{ℕ, ◌≤◌, ◌<◌}
use lib.ListN.{length}
use borrow.Author.Tests.{le-leb, lt-leb}
use Rattle.paper.specs.Net.{Net}
use Rattle.paper.specs.File.{refused, accepted, judge}
use Rattle.paper.specs.Normal.{normal}
use Rattle.paper.specs.Rooms.{laid}
use Rattle.paper.specs.Outcome.{outcome, told, normally}
use Rattle.laws.proofs.Demand3.{normal_length}

module _ (file T : List ℕ) where
  pub as_refused : (d i : ℕ) → judge file ≡ refused d i → normally (judge file) T ≡ told (outcome d i 0 0 0) T
  unfolding normally
  as_refused d i j = rw j

  module _ (m : Net) (j : judge file ≡ accepted m) where
    -- the normal file is as long as the file, so the room is tried before a byte is written
    pub too_long : length T < length file → normally (judge file) T ≡ told (outcome 11 0 0 0 0) T
    unfolding normally
    too_long h = rw (j, lt-leb (length (normal m)) (length T) (rw (normal_length file m j) h))

    pub in_full : length file ≤ length T → normally (judge file) T ≡ told (outcome 0 0 0 0 (length (normal m))) (laid T 0 (normal m))
    unfolding normally
    in_full h = rw (j, le-leb (length (normal m)) (length T) (rw (normal_length file m j) h))

-- ## As the reader tells it

module _ (file T : List ℕ) where
  pub answer_refused : (d i : ℕ) → refused d i ≡ judge file → told (outcome d i 0 0 0) T ≡ normally (judge file) T
  answer_refused d i j = sym (as_refused file T d i (sym j))

  module _ (m : Net) (j : accepted m ≡ judge file) where
    pub answer_long : length T < length file → told (outcome 11 0 0 0 0) T ≡ normally (judge file) T
    answer_long g = sym (too_long file T m (sym j) g)

    pub room_enough : length file ≤ length T → length (normal m) ≤ length T
    room_enough g = rw (normal_length file m (sym j)) g

    pub answer_written : (k : ℕ) (T' : List ℕ) → length file ≤ length T → k ≡ length (normal m) → T' ≡ laid T 0 (normal m) → told (outcome 0 0 0 0 k) T' ≡ normally (judge file) T
    answer_written k T' g e t = rw (e, t) (sym (in_full file T m (sym j) g))
