-- The mission's three demands, each a theorem under its own sentence. `Routed file S a D b r o s` is what `route` promises of a call:
-- the rooms r have become s, and the outcome is o. Assumes nothing.
use Prim.Native.Nat.{ℕ, ◌*◌, ◌<◌, ◌≤◌}
use mathlib.Core.Path.{◌≡◌, refl, sym, ap, ◌∙◌}
use mathlib.Core.Bool.{true}
use mathlib.Core.List.{List, ◌∷◌}
use mathlib.Core.Option.{Option}
use mathlib.Core.Logic.{◌⊎◌, inl, inr, ◌↔◌}
use native.Mathlib.Omega.{arith}
use lib.ListN.{length}
use Rattle.paper.specs.Net.{Link, Fun, net, Key, hop}
use Rattle.paper.specs.Route.{Feasible, Lex, rank, flat}
use Rattle.paper.specs.Text.{Line, lines}
use Rattle.paper.specs.File.{accepted, judge}
use Rattle.paper.specs.Normal.{normal}
use Rattle.paper.specs.Trace.{trace}
use Rattle.paper.specs.Rooms.{laid, NoRoute, AllHeavy, LeastWeight, MoreSteps}
use Rattle.paper.specs.Outcome.{Outcome, outcome, Rooms, rooms, most_steps, known, roomy, Found, Ends, eight, nine, ten, eleven, zero as found, Answers, six, seven, on, Routed, bad_file, good_file}
use Rattle.laws.specs.Sets.{Perm}
use Rattle.laws.proofs.Once.{ends_once, routed_once}
use Rattle.laws.proofs.Alike.{number, weight, steps, Agree, answers_alike}
use Rattle.laws.proofs.Demand3.{Same, Refused, same_network, normal_same, still_refused}

-- ## Demand 1
-- Every network file, every enquiry of four numbers and every size of lent room gets an outcome from the table: that is `route`'s
-- contract, which asks nothing of its caller. Here: it is one outcome, and a refusal by 1 to 7 leaves every room as it was.

pub one_outcome : (file : List ℕ) (S a D b : ℕ) {r s t : Rooms} {o u : Outcome} → Routed file S a D b r o s → Routed file S a D b r u t → (o ≡ u) × (s ≡ t)
one_outcome file S a D b x y = routed_once S a D b file x y

pub rooms_as_they_were : {file : List ℕ} {S a D b : ℕ} {r s : Rooms} {o : Outcome} → Routed file S a D b r o s → 1 ≤ number o → number o ≤ 7 → s ≡ r
rooms_as_they_were (bad_file h) low high = refl
rooms_as_they_were (good_file h (six k)) low high = refl
rooms_as_they_were (good_file h (seven k m)) low high = refl
rooms_as_they_were (good_file h (on q e)) low high = absurd (past e low high)
  where
    past : {hop : Key → ℕ → Option (ℕ × ℕ)} {n p S a D b : ℕ} {Q T Q' T' : List ℕ} {o : Outcome} → Ends hop n p S a D b Q T o Q' T' → 1 ≤ number o → number o ≤ 7 → ⊥
    past (eight h) low high = omega arith
    past (nine h) low high = omega arith
    past (ten h g) low high = omega arith
    past (eleven h g) low high = omega arith
    past (found h g) low high = omega arith

-- ## Demand 2
-- "No route", "too heavy", "too long" exactly when the conditions hold; else the route is the best of all feasible ones.

-- the length that an outcome tells
abbrev pub bytes : Outcome → ℕ
bytes (outcome d i w k l) = l

module _ (hop : Key → ℕ → Option (ℕ × ℕ)) (n p S a D b : ℕ) where
  pub record TooLong (Q : List ℕ) : Type 0 where
    pub w : ℕ
    pub light : LeastWeight hop S a D b w
    pub long : MoreSteps hop S a D b w (most_steps (length Q))

  -- the best route, with its steps in the step room, its weight and its steps told; its trace is in the text room where that holds it, and else the text room is as it was
  pub record Handed (Q T : List ℕ) (o : Outcome) (Q' T' : List ℕ) : Type 0 where
    pub ks : List Key
    pub fits : Found hop n p S a D b Q ks (weight o)
    pub counted : steps o ≡ length ks
    pub written : Q' ≡ laid Q 0 (flat ks)
    pub traced : ((number o ≡ 0) × (bytes o ≡ length (trace hop S a ks (weight o))) × (bytes o ≤ length T) × (T' ≡ laid T 0 (trace hop S a ks (weight o))))
        ⊎ ((number o ≡ 11) × (length T < length (trace hop S a ks (weight o))) × (T' ≡ T))

  pub record Exactly (Q T : List ℕ) (o : Outcome) (Q' T' : List ℕ) : Type 0 where
    pub no_route : (number o ≡ 8) ↔ NoRoute hop S a D b
    pub too_heavy : (number o ≡ 9) ↔ AllHeavy hop S a D b
    pub too_long : (number o ≡ 10) ↔ TooLong Q
    pub a_route : (number o ≡ 0) ⊎ (number o ≡ 11) → Handed Q T o Q' T'

  is_8 : {Q T Q' T' : List ℕ} {o : Outcome} → Ends hop n p S a D b Q T o Q' T' → number o ≡ 8 → NoRoute hop S a D b
  is_8 (eight h) e = h
  is_8 (nine h) e = absurd (omega arith)
  is_8 (ten h g) e = absurd (omega arith)
  is_8 (eleven h g) e = absurd (omega arith)
  is_8 (found h g) e = absurd (omega arith)

  is_9 : {Q T Q' T' : List ℕ} {o : Outcome} → Ends hop n p S a D b Q T o Q' T' → number o ≡ 9 → AllHeavy hop S a D b
  is_9 (eight h) e = absurd (omega arith)
  is_9 (nine h) e = h
  is_9 (ten h g) e = absurd (omega arith)
  is_9 (eleven h g) e = absurd (omega arith)
  is_9 (found h g) e = absurd (omega arith)

  is_10 : {Q T Q' T' : List ℕ} {o : Outcome} → Ends hop n p S a D b Q T o Q' T' → number o ≡ 10 → TooLong Q
  is_10 (eight h) e = absurd (omega arith)
  is_10 (nine h) e = absurd (omega arith)
  is_10 (ten {w = w} h g) e = record { w = w; light = h; long = g }
  is_10 (eleven h g) e = absurd (omega arith)
  is_10 (found h g) e = absurd (omega arith)

  is_found : {Q T Q' T' : List ℕ} {o : Outcome} → Ends hop n p S a D b Q T o Q' T' → (number o ≡ 0) ⊎ (number o ≡ 11) → Handed Q T o Q' T'
  is_found (eight h) (inl e) = absurd (omega arith)
  is_found (eight h) (inr e) = absurd (omega arith)
  is_found (nine h) (inl e) = absurd (omega arith)
  is_found (nine h) (inr e) = absurd (omega arith)
  is_found (ten h g) (inl e) = absurd (omega arith)
  is_found (ten h g) (inr e) = absurd (omega arith)
  is_found (eleven {ks = ks} h g) e = record { ks = ks; fits = h; counted = refl; written = refl; traced = inr (refl, g, refl) }
  is_found (found {ks = ks} h g) e = record { ks = ks; fits = h; counted = refl; written = refl; traced = inl (refl, refl, g, refl) }

  -- each condition makes its number, since no second outcome fits
  pub exactly : {Q T Q' T' : List ℕ} {o : Outcome} → Ends hop n p S a D b Q T o Q' T' → Exactly Q T o Q' T'
  exactly e =
      record {
        no_route = (is_8 e, λ h. ap number (ends_once hop n p S a D b e (eight h)).0);
        too_heavy = (is_9 e, λ h. ap number (ends_once hop n p S a D b e (nine h)).0);
        too_long = (is_10 e, λ h. ap number (ends_once hop n p S a D b e (ten h.light h.long)).0);
        a_route = is_found e;
      }

  -- the same of all five rooms
  abbrev Of : Rooms → Outcome → Rooms → Type 0
  Of (rooms W C X Q T) o (rooms W' C' X' Q' T') = Exactly Q T o Q' T'

  searched : {r s : Rooms} {o : Outcome} → Answers hop n p S a D b r o s → known n p S a D b ≡ true → roomy (n * p) r ≡ true → Of r o s
  searched (six h) k m = absurd (let z : ◌≡◌ {A = ℕ} 0 1 = cc in omega arith)
  searched (seven h l) k m = absurd (let z : ◌≡◌ {A = ℕ} 0 1 = cc in omega arith)
  searched (on q e) k m = exactly e

  -- the route handed out is feasible, and before every other feasible route of every length and nesting height
  pub feasible_and_first : {Q T Q' T' : List ℕ} {o : Outcome} (h : Handed Q T o Q' T')
      → Feasible hop S a D b h.ks (weight o) × ((js : List Key) (u : ℕ) → Feasible hop S a D b js u → Lex (rank h.ks (weight o)) (rank js u))
  feasible_and_first h = (h.fits.best.feasible, h.fits.best.first)

-- an accepted file is answered by its network
answered : (file : List ℕ) (S a D b n p : ℕ) (ls : List Link) (fs : List Fun) {o : Outcome} {r s : Rooms} → judge file ≡ accepted (net n p ls fs)
    → Routed file S a D b r o s → Answers (hop (net n p ls fs)) n p S a D b r o s
answered file S a D b n p ls fs e (bad_file h) = absurd (let g = sym h ∙ e in let z : ◌≡◌ {A = ℕ} 0 1 = cc in omega arith)
answered file S a D b n p ls fs e (good_file {n = m} {p = q} {ls = ms} {fs = gs} h x) =
    let g = sym h ∙ e in
    let i : m ≡ n = cc in
    let j : q ≡ p = cc in
    let k : ms ≡ ls = cc in
    let l : gs ≡ fs = cc in
    rw (i, j, k, l) at x

-- so it is of every call with an accepted file, numbers in range and rooms for the tables
pub exactly_so : (file : List ℕ) (S a D b n p : ℕ) (ls : List Link) (fs : List Fun) {W C X Q T W' C' X' Q' T' : List ℕ} {o : Outcome} → judge file ≡ accepted (net n p ls fs)
    → known n p S a D b ≡ true → roomy (n * p) (rooms W C X Q T) ≡ true → Routed file S a D b (rooms W C X Q T) o (rooms W' C' X' Q' T')
    → Exactly (hop (net n p ls fs)) n p S a D b Q T o Q' T'
exactly_so file S a D b n p ls fs e k m x = searched (hop (net n p ls fs)) n p S a D b (answered file S a D b n p ls fs e x) k m

-- ## Demand 3
-- Line order never matters.

-- equal normal files exactly for equal headers and records
pub same_normal_files : (file other : List ℕ) (n p : ℕ) (ls : List Link) (fs : List Fun) (m q : ℕ) (ms : List Link) (gs : List Fun)
    → judge file ≡ accepted (net n p ls fs) → judge other ≡ accepted (net m q ms gs)
    → (normal (net n p ls fs) ≡ normal (net m q ms gs)) ↔ Same n p ls fs m q ms gs
same_normal_files = normal_same

-- a refused file of complete lines stays refused under any reordering below its first line
pub refused_in_any_order : (file other : List ℕ) (h : Line) (ls ms : List Line) → lines file ≡ h ∷ ls → lines other ≡ h ∷ ms → Perm ls ms → Refused file → Refused other
refused_in_any_order = still_refused

-- same outcome, tables and trace bytes: two accepted files with the same header and records, the same enquiry, and rooms of the same lengths
pub same_answers : (file other : List ℕ) (n p : ℕ) (ls : List Link) (fs : List Fun) (m q : ℕ) (ms : List Link) (gs : List Fun)
    → judge file ≡ accepted (net n p ls fs) → judge other ≡ accepted (net m q ms gs) → Same n p ls fs m q ms gs
    → (S a D b : ℕ) {W C X Q T W' C' X' Q' T' M B Y R U M' B' Y' R' U' : List ℕ} {o u : Outcome}
    → length W ≡ length M → length C ≡ length B → length X ≡ length Y → length Q ≡ length R → length T ≡ length U
    → Routed file S a D b (rooms W C X Q T) o (rooms W' C' X' Q' T') → Routed other S a D b (rooms M B Y R U) u (rooms M' B' Y' R' U')
    → Agree (hop (net n p ls fs)) n p S a D b o u W' C' X' Q' T' M' B' Y' R' U'
same_answers file other n p ls fs m q ms gs e f s S a D b lw lc lx lq lt x y =
    let g = same_network file other n p ls fs m q ms gs e f s in
    answers_alike (hop (net n p ls fs)) n p S a D b lw lc lx lq lt (answered file S a D b n p ls fs e x) (answered other S a D b n p ls fs (f ∙ ap accepted (sym g)) y)
