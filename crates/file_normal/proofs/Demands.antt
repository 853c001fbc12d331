-- Demand 3, of what the normal writer writes: `told (outcome ..) T' ≡ normally (judge file) T` is its promise.
-- Assumes nothing.
use mathlib.Core.Path.{◌≡◌, refl, sym, ◌∙◌}
use mathlib.Core.List.{List, ◌∷◌}
use mathlib.Core.Logic.{◌↔◌}
use Prim.Native.Nat.{ℕ, ◌+◌, ◌≤◌}
use native.Mathlib.Nat.{zero-add}
use lib.ListN.{length, take, drop}
use lib.Seq.{sets-eq, take_at}
use Rattle.paper.specs.Net.{Link, Fun, Net, net}
use Rattle.paper.specs.Text.{Line, lines}
use Rattle.paper.specs.File.{judge, accepted}
use Rattle.paper.specs.Normal.{normal}
use Rattle.paper.specs.Rooms.{laid}
use Rattle.paper.specs.Outcome.{Outcome, outcome, told, normally}
use Rattle.laws.specs.Sets.{Perm}
use Rattle.laws.proofs.Demand3.{normal_length, normal_again, normal_same, still_refused, Same, Refused}
use Rattle.file_normal.proofs.Answers.{as_refused, in_full}
use Rattle.file_normal.proofs.Numbers.{one_to_five}

-- no second outcome and no second text fit the promise
pub one_answer : (file T T' U' : List ℕ) (o q : Outcome) → told o T' ≡ normally (judge file) T → told q U' ≡ normally (judge file) T → (o ≡ q) × (T' ≡ U')
one_answer file T T' U' o q a b = let e : told o T' ≡ told q U' = a ∙ sym b in (cc, cc)

laid_text : (T s : List ℕ) → length s ≤ length T → take (length s) (laid T 0 s) ≡ s
unfolding laid
laid_text T s h =
    let e : 0 + length s ≡ length s = zero-add (length s) in
    rw (sets-eq s T 0 (rw e h)) (take_at s (drop (0 + length s) T) (length s) refl)

-- an accepted file, and a room that holds it
pub record Written (m : Net) (d k : ℕ) (T' : List ℕ) : Type 0 where
  pub number : d ≡ 0
  pub count : k ≡ length (normal m)
  pub text : take k T' ≡ normal m

module _ (file T T' : List ℕ) (m : Net) (d i w s k : ℕ) where
  pub accepted_written : judge file ≡ accepted m → length file ≤ length T → told (outcome d i w s k) T' ≡ normally (judge file) T → Written m d k T'
  accepted_written j h p =
      let e : told (outcome d i w s k) T' ≡ told (outcome 0 0 0 0 (length (normal m))) (laid T 0 (normal m)) = p ∙ in_full file T m j h in
      let f : k ≡ length (normal m) = cc in
      let g : T' ≡ laid T 0 (normal m) = cc in
      record { number = cc; count = f; text = rw (f, g) (laid_text T (normal m) (rw (normal_length file m j) h)) }

-- (a) of two accepted files the same text is written exactly when header and sets of records are the same
pub same_text : (file other T' U' : List ℕ) (n p : ℕ) (ls : List Link) (fs : List Fun) (m q : ℕ) (ms : List Link) (gs : List Fun) (d e k j : ℕ)
    → judge file ≡ accepted (net n p ls fs) → judge other ≡ accepted (net m q ms gs)
    → Written (net n p ls fs) d k T' → Written (net m q ms gs) e j U'
    → take k T' ≡ take j U' ↔ Same n p ls fs m q ms gs
same_text file other T' U' n p ls fs m q ms gs d e k j a b x y = rw (x.text, y.text) (normal_same file other n p ls fs m q ms gs a b)

-- (b) what is written is accepted, and is written again as it stands
pub written_again : (file T' U U' : List ℕ) (m : Net) (d k e i w s j : ℕ) → judge file ≡ accepted m → Written m d k T' → k ≤ length U
    → told (outcome e i w s j) U' ≡ normally (judge (take k T')) U → (e ≡ 0) × (take j U' ≡ take k T')
written_again file T' U U' m d k e i w s j a x h p =
    let again = accepted_written (normal m) U U' m e i w s j (normal_again file m a) (rw x.count at h) (rw x.text at p) in
    (again.number, again.text ∙ sym x.text)

-- (c) a refused file stays refused, and the room as it was, for every order of the lines below its first
pub stays_refused : (file other U U' : List ℕ) (h : Line) (ls ms : List Line) (d i w s k : ℕ) → lines file ≡ h ∷ ls → lines other ≡ h ∷ ms → Perm ls ms
    → Refused file → told (outcome d i w s k) U' ≡ normally (judge other) U → (1 ≤ d) × (d ≤ 5) × (U' ≡ U)
stays_refused file other U U' h ls ms d i w s k a b p r q =
    let o = still_refused file other h ls ms a b p r in
    let e : told (outcome d i w s k) U' ≡ told (outcome o.number o.line 0 0 0) U = q ∙ as_refused other U o.number o.line o.so in
    let f : o.number ≡ d = cc in
    let g = one_to_five other o.number o.line o.so in
    (rw f at g.0, rw f at g.1, cc)
