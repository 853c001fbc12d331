-- An enquiry of an accepted network: 6, 7, and from filled tables to the rows after them. Assumes nothing.
use Prim.Native.Nat.{ℕ, ◌*◌, ◌≤◌}
use mathlib.Core.Path.{◌≡◌, sym, ◌∙◌}
use mathlib.Core.Bool.{Bool, true, false, ◌&&◌}
use mathlib.Core.List.{List}
use native.Mathlib.Omega.{arith}
use lib.Dec.{leb, ltb}
use lib.ListN.{length, replicate, length-replicate}
use borrow.Author.Tests.{leb-true, ltb-true}
use Rattle.paper.specs.Rooms.{laid, Tabled}
use Rattle.paper.specs.Outcome.{Outcome, refusal, Rooms, rooms, known, roomy, six, seven, on}
use Rattle.laws.proofs.Before.{and_left, and_right}
use Rattle.laws.proofs.Laid.{length_laid, laid_again}
use Rattle.paper.specs.declared.place.Place.{Place}
use Rattle.network.specs.Network.{nodes, protocols, places, hop_in, Within}
use Rattle.network.specs.Arranged.{Arranged}
use Rattle.tables_sweeps.specs.Filled.{Filled}
use Rattle.tables.specs.Lent.{Lent}
use Rattle.enquiry.specs.Ready.{Ready, EndsIn, AnswersIn, cleared}

rooms_judged : (N : ℕ) (W C X Q T : List ℕ) (u v : Bool) → u ≡ leb (N * N) (length W) && leb (N * N) (length C) && leb (8 * (N * N)) (length X) → u ≡ v
    → roomy N (rooms W C X Q T) ≡ v
unfolding roomy
rooms_judged N W C X Q T u v e h = sym e ∙ h

-- the rooms are long enough for the tables of N places
abbrev pub enough_for : (N : ℕ) (W C X : List ℕ) → Bool
enough_for N W C X = leb (N * N) (length W) && leb (N * N) (length C) && leb (8 * (N * N)) (length X)

module _ (g : List ℕ) (start end : Place) where
  abbrev pub known_in : Bool
  known_in = known (nodes g) (protocols g) start.node start.protocol end.node end.protocol

  pub in_ranges : (t : Bool) → t ≡ known_in → t ≡ true → Within g start × Within g end
  unfolding known
  in_ranges t e h =
      let n = nodes g in
      let p = protocols g in
      let s = ltb start.node n in
      let d = ltb end.node n in
      let a = ltb start.protocol p in
      let b = ltb end.protocol p in
      let k : s && d && a && b ≡ true = sym e ∙ h in
      let l = and_left (s && d && a) b k in
      let m = and_left (s && d) a l in (
        (ltb-true start.node n (and_left s d m), ltb-true start.protocol p (and_right (s && d) a l)),
        (ltb-true end.node n (and_right s d m), ltb-true end.protocol p (and_right (s && d && a) b k)),
      )

  pub answers_6 : (t : Bool) (r : Rooms) → t ≡ known_in → t ≡ false → AnswersIn g start end r (refusal 6 0) r
  answers_6 t r e h = six (sym e ∙ h)

  pub answers_7 : (t u : Bool) (N : ℕ) (W C X Q T : List ℕ) → t ≡ known_in → t ≡ true → N ≡ places g → u ≡ enough_for N W C X → u ≡ false
      → AnswersIn g start end (rooms W C X Q T) (refusal 7 0) (rooms W C X Q T)
  answers_7 t u N W C X Q T e h z d x = seven (sym e ∙ h) (rooms_judged (places g) W C X Q T u false (rw z at d) x)

pub long_enough : (g : List ℕ) (N : ℕ) (W C X : List ℕ) (u : Bool) → N ≡ places g → u ≡ enough_for N W C X → u ≡ true → Lent g W C X
long_enough g N W C X u z e h =
    let w = leb (places g * places g) (length W) in
    let c = leb (places g * places g) (length C) in
    let x = leb (8 * (places g * places g)) (length X) in
    let k : w && c && x ≡ true = rw z at (sym e ∙ h) in
    let l = and_left (w && c) x k in
    record {
      weights = leb-true (places g * places g) (length W) (and_left w c l);
      counts = leb-true (places g * places g) (length C) (and_right w c l);
      choices = leb-true (8 * (places g * places g)) (length X) (and_right (w && c) x k);
    }

clear_again : (g X X' : List ℕ) → 8 * (places g * places g) ≤ length X → X' ≡ laid X 0 (replicate (8 * (places g * places g)) 0) → cleared g X' ≡ X'
unfolding cleared
clear_again g X X' h e =
    let z : List ℕ = replicate (8 * (places g * places g)) 0 in
    let l : length z ≡ 8 * (places g * places g) = length-replicate {A = ℕ} (8 * (places g * places g)) 0 in
    rw e (laid_again X z (omega (arith, l)))

module _ (g W C X W' C' X' : List ℕ) (o : Arranged g) (lent : Lent g W C X) (table : Tabled (hop_in g) (nodes g) (protocols g) W C X W' C' X') (filled : Filled g W C W' C') where
  pub made_ready : Ready g W' C' X'
  made_ready =
      record {
        arranged = o;
        lent = record {
          weights = rw filled.weights_length lent.weights;
          counts = rw filled.counts_length lent.counts;
          choices = rw (table.choices, length_laid) lent.choices;
        };
        exact = filled.exact;
        spelled = filled.spelled;
        clear = sym (clear_again g X X' lent.choices table.choices);
      }

  pub answers_on : (start end : Place) (t u : Bool) (o : Outcome) (N : ℕ) (X'' Q T Q' T' : List ℕ) → t ≡ known_in g start end → t ≡ true → N ≡ places g → u ≡ enough_for N W C X → u ≡ true
      → EndsIn g start end Q T o Q' T' → X'' ≡ cleared g X' → AnswersIn g start end (rooms W C X Q T) o (rooms W' C' X'' Q' T')
  answers_on start end t u o N X'' Q T Q' T' e h z x i ends y =
      on {W = W} {C = C} {X = X} {Q = Q} {T = T} {W' = W'} {C' = C'} {X' = X''}
      (record {
        in_range = sym e ∙ h;
        enough = rooms_judged (places g) W C X Q T u true (rw z at x) i;
        tabled = rw (y ∙ clear_again g X X' lent.choices table.choices) table;
      })
      ends
