-- Rooms of the same lengths, whatever they held before: the same enquiry gives the same outcome, table entries, step entries and text bytes.
-- Main result: `answers_alike`. Assumes nothing.
use Prim.Native.Nat.{ℕ, ◌+◌, ◌*◌, ◌<◌, ◌≤◌}
use mathlib.Core.Path.{◌≡◌, refl, sym, ◌∙◌}
use mathlib.Core.Bool.{true, true≢false, ◌&&◌}
use mathlib.Core.List.{List}
use mathlib.Core.Logic.{◌⊎◌, inl, inr}
use mathlib.Core.Option.{Option}
use native.Mathlib.Omega.{arith}
use lib.Dec.{leb}
use lib.ListN.{length, get_or, replicate, length-replicate}
use borrow.Author.Tests.{leb-true}
use Rattle.paper.specs.Net.{Key}
use Rattle.paper.specs.Route.{flat}
use Rattle.paper.specs.Trace.{trace}
use Rattle.paper.specs.Rooms.{laid, Tabled}
use Rattle.paper.specs.Outcome.{Outcome, outcome, rooms, most_steps, roomy, Found, Ends, eight, nine, ten, eleven, zero as found, Answers, six, seven, on}
use Rattle.laws.proofs.Before.{and_right}
use Rattle.laws.proofs.Laid.{laid_there}
use Rattle.laws.proofs.Parts.{flat_length}
use Rattle.laws.proofs.Once.{paired, entries_once, ends_once}

abbrev pub number : Outcome → ℕ
number (outcome d i w n l) = d

abbrev pub weight : Outcome → ℕ
weight (outcome d i w n l) = w

abbrev pub steps : Outcome → ℕ
steps (outcome d i w n l) = n

abbrev pub written : Outcome → ℕ
written (outcome d i w n l) = l

-- the first k entries are the same
pub record Same (k : ℕ) (d e : List ℕ) : Type 0 where
  pub entries : (i : ℕ) → i < k → get_or d i 0 ≡ get_or e i 0

none_same : (d e : List ℕ) → Same 0 d e
none_same d e = record { entries = λ i h. absurd (omega arith) }

-- the same text laid over two rooms that both hold it
laid_same : (d e s : List ℕ) → length s ≤ length d → length s ≤ length e → Same (length s) (laid d 0 s) (laid e 0 s)
laid_same d e s h g =
    record { entries = λ i l. let z : 0 + i ≡ i = omega arith in rw z at (laid_there d 0 s i l (omega arith) ∙ sym (laid_there e 0 s i l (omega arith))) }

holds_steps : (m k : ℕ) → k ≤ most_steps m → 4 * k ≤ m
unfolding most_steps
holds_steps m k h = omega arith

module _ (hop : Key → ℕ → Option (ℕ × ℕ)) (n p S a D b : ℕ) where
  -- what the rooms R and U would be left as, by an outcome that Q and T had
  record Moved (o : Outcome) (R U Q' T' : List ℕ) : Type 0 where
    R' : List ℕ
    U' : List ℕ
    ends : Ends hop n p S a D b R U o R' U'
    step_entries : Same (4 * steps o) Q' R'
    text_bytes : Same (written o) T' U'

  same_room : (Q R : List ℕ) (ks : List Key) (w : ℕ) → length Q ≡ length R → Found hop n p S a D b Q ks w → Found hop n p S a D b R ks w
  same_room Q R ks w e f = record { best = f.best; light = f.light; short = rw e at f.short }

  same_route : (Q R : List ℕ) (ks : List Key) (w : ℕ) → length Q ≡ length R → Found hop n p S a D b Q ks w → Same (4 * length ks) (laid Q 0 (flat ks)) (laid R 0 (flat ks))
  same_route Q R ks w e f =
      let l = flat_length ks in
      let h = holds_steps (length Q) (length ks) f.short in
      rw l at (laid_same Q R (flat ks) (omega arith) (omega arith))

  moved : (R U : List ℕ) {Q T Q' T' : List ℕ} {o : Outcome} → length Q ≡ length R → length T ≡ length U → Ends hop n p S a D b Q T o Q' T' → Moved o R U Q' T'
  moved R U {Q} {T} e f (eight h) = record { R' = R; U' = U; ends = eight h; step_entries = none_same Q R; text_bytes = none_same T U }
  moved R U {Q} {T} e f (nine h) = record { R' = R; U' = U; ends = nine h; step_entries = none_same Q R; text_bytes = none_same T U }
  moved R U {Q} {T} e f (ten h g) = record { R' = R; U' = U; ends = ten h (rw e at g); step_entries = none_same Q R; text_bytes = none_same T U }
  moved R U {Q} {T} e f (eleven {ks = ks} {w = w} h g) =
      record {
        R' = laid R 0 (flat ks);
        U' = U;
        ends = eleven (same_room Q R ks w e h) (rw f at g);
        step_entries = same_route Q R ks w e h;
        text_bytes = none_same T U;
      }
  moved R U {Q} {T} e f (found {ks = ks} {w = w} h g) =
      record {
        R' = laid R 0 (flat ks);
        U' = laid U 0 (trace hop S a ks w);
        ends = found (same_room Q R ks w e h) (rw f at g);
        step_entries = same_route Q R ks w e h;
        text_bytes = laid_same T U (trace hop S a ks w) g (rw f at g);
      }

  -- what two answers agree in
  pub record Agree (o u : Outcome) (W C X Q T M B Y R U : List ℕ) : Type 0 where
    pub outcomes : o ≡ u
    pub weights : (number o ≡ 0) ⊎ (8 ≤ number o) → Same (n * p * (n * p)) W M
    pub counts : (number o ≡ 0) ⊎ (8 ≤ number o) → Same (n * p * (n * p)) C B
    pub choices : (number o ≡ 0) ⊎ (8 ≤ number o) → Same (8 * (n * p * (n * p))) X Y
    pub step_entries : Same (4 * steps o) Q R
    pub text_bytes : Same (written o) T U

  same_entries : (W C X W' C' X' M B Y M' B' Y' : List ℕ) → Tabled hop n p W C X W' C' X' → Tabled hop n p M B Y M' B' Y'
      → (i : ℕ) → i < n * p * (n * p) → (get_or W' i 0 ≡ get_or M' i 0) × (get_or C' i 0 ≡ get_or B' i 0)
  same_entries W C X W' C' X' M B Y M' B' Y' s t i h =
      let q = paired n p i h in
      rw q.is at (entries_once hop q.S q.a q.D q.b
      (s.pairs q.S q.a q.D q.b q.S_below q.a_below q.D_below q.b_below)
      (t.pairs q.S q.a q.D q.b q.S_below q.a_below q.D_below q.b_below))

  same_choices : (N : ℕ) (W C X Q T M B Y R U X' Y' : List ℕ) → roomy N (rooms W C X Q T) ≡ true → roomy N (rooms M B Y R U) ≡ true
      → X' ≡ laid X 0 (replicate (8 * (N * N)) 0) → Y' ≡ laid Y 0 (replicate (8 * (N * N)) 0) → Same (8 * (N * N)) X' Y'
  unfolding roomy
  same_choices N W C X Q T M B Y R U X' Y' g h e f =
      let z : List ℕ = replicate (8 * (N * N)) 0 in
      let l : length z ≡ 8 * (N * N) = length-replicate {A = ℕ} (8 * (N * N)) 0 in
      let i = leb-true (8 * (N * N)) (length X) (and_right (leb (N * N) (length W) && leb (N * N) (length C)) (leb (8 * (N * N)) (length X)) g) in
      let j = leb-true (8 * (N * N)) (length Y) (and_right (leb (N * N) (length M) && leb (N * N) (length B)) (leb (8 * (N * N)) (length Y)) h) in
      rw (e, f) (rw l at (laid_same X Y z (omega (arith, l)) (omega (arith, l))))

  -- 6 and 7 are judged by the lengths alone, and leave nothing to compare
  same_roomy : (N : ℕ) (W C X Q T M B Y R U : List ℕ) → length W ≡ length M → length C ≡ length B → length X ≡ length Y
      → roomy N (rooms W C X Q T) ≡ roomy N (rooms M B Y R U)
  unfolding roomy
  same_roomy N W C X Q T M B Y R U e f g = rw (e, f, g)

  early : (d : ℕ) (W C X Q T M B Y R U : List ℕ) → 1 ≤ d → d ≤ 7 → Agree (outcome d 0 0 0 0) (outcome d 0 0 0 0) W C X Q T M B Y R U
  early d W C X Q T M B Y R U h g =
      record {
        outcomes = refl;
        weights = λ z. absurd (late z);
        counts = λ z. absurd (late z);
        choices = λ z. absurd (late z);
        step_entries = none_same Q R;
        text_bytes = none_same T U;
      }
    where
      late : (d ≡ 0) ⊎ (8 ≤ d) → ⊥
      late (inl z) = omega arith
      late (inr z) = omega arith

  pub answers_alike : {W C X Q T W' C' X' Q' T' M B Y R U M' B' Y' R' U' : List ℕ} {o u : Outcome}
      → length W ≡ length M → length C ≡ length B → length X ≡ length Y → length Q ≡ length R → length T ≡ length U
      → Answers hop n p S a D b (rooms W C X Q T) o (rooms W' C' X' Q' T') → Answers hop n p S a D b (rooms M B Y R U) u (rooms M' B' Y' R' U')
      → Agree o u W' C' X' Q' T' M' B' Y' R' U'
  answers_alike {W} {C} {X} {Q} {T} {M = M} {B = B} {Y = Y} {R = R} {U = U} lw lc lx lq lt (six h) (six g) = early 6 W C X Q T M B Y R U (omega arith) (omega arith)
  answers_alike lw lc lx lq lt (six h) (seven g i) = absurd (true≢false (sym g ∙ h))
  answers_alike lw lc lx lq lt (six h) (on q e) = absurd (true≢false (sym q.in_range ∙ h))
  answers_alike lw lc lx lq lt (seven g i) (six h) = absurd (true≢false (sym g ∙ h))
  answers_alike {W} {C} {X} {Q} {T} {M = M} {B = B} {Y = Y} {R = R} {U = U} lw lc lx lq lt (seven g i) (seven h j) = early 7 W C X Q T M B Y R U (omega arith) (omega arith)
  answers_alike {W} {C} {X} {Q} {T} {M = M} {B = B} {Y = Y} {R = R} {U = U} lw lc lx lq lt (seven g i) (on q e) =
      absurd (true≢false (sym q.enough ∙ sym (same_roomy (n * p) W C X Q T M B Y R U lw lc lx) ∙ i))
  answers_alike lw lc lx lq lt (on q e) (six h) = absurd (true≢false (sym q.in_range ∙ h))
  answers_alike {W} {C} {X} {Q} {T} {M = M} {B = B} {Y = Y} {R = R} {U = U} lw lc lx lq lt (on q e) (seven h j) =
      absurd (true≢false (sym q.enough ∙ same_roomy (n * p) W C X Q T M B Y R U lw lc lx ∙ j))
  answers_alike {W} {C} {X} {Q} {T} {W'} {C'} {X'} {Q'} {T'} {M} {B} {Y} {R} {U} {M'} {B'} {Y'} {R'} {U'} lw lc lx lq lt (on q e) (on q' e') =
      let m = moved R U lq lt e in
      let f = ends_once hop n p S a D b m.ends e' in
      let t = same_entries W C X W' C' X' M B Y M' B' Y' q.tabled q'.tabled in
      record {
        outcomes = f.0;
        weights = λ z. record { entries = λ i h. (t i h).0 };
        counts = λ z. record { entries = λ i h. (t i h).1 };
        choices = λ z. same_choices (n * p) W C X Q T M B Y R U X' Y' q.enough q'.enough q.tabled.choices q'.tabled.choices;
        step_entries = rw f.1 at m.step_entries;
        text_bytes = rw f.2 at m.text_bytes;
      }
