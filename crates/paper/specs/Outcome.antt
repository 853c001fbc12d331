-- The outcome table: each number, given exactly when its row says so, and what it leaves in each room.
-- Assumes nothing: these are definitions.
use Rattle.std.specs.Prelude.{ℕ, ◌*◌, ◌/◌, ◌<◌, ◌≤◌, min, ◌≡◌, Bool, true, false, cond, ◌&&◌, List, leb, ltb, length}
use Rattle.std.proofs.Math.Option.{Option}
use Rattle.paper.specs.Limits.{heaviest, longest}
use Rattle.paper.specs.Net.{Link, Fun, net, Key, hop}
use Rattle.paper.specs.Route.{Best, flat}
use Rattle.paper.specs.File.{Judged, refused, accepted, judge}
use Rattle.paper.specs.Normal.{normal}
use Rattle.paper.specs.Trace.{trace}
use Rattle.paper.specs.declared.outcome.Outcome.{Outcome as Returned}
use Rattle.paper.specs.Rooms.{laid, NoRoute, AllHeavy, LeastWeight, MoreSteps, Tabled}

-- outcome NUMBER LINE WEIGHT STEPS LENGTH
pub data Outcome : Type 0 where
  outcome : ℕ → ℕ → ℕ → ℕ → ℕ → Outcome

-- a refusal has number and line
abbrev pub refusal : ℕ → ℕ → Outcome
refusal d i = outcome d i 0 0 0

-- the outcome that a call returns
abbrev pub outcome_of : Returned → Outcome
outcome_of r = outcome r.number r.line r.weight r.steps r.length

-- rooms WEIGHT COUNT CHOICE STEP TEXT
pub data Rooms : Type 0 where
  rooms : List ℕ → List ℕ → List ℕ → List ℕ → List ℕ → Rooms

-- as many steps as the limit allows and a step room of m entries holds
unfoldable pub most_steps : ℕ → ℕ
most_steps m = min longest (m / 4)

-- S and D are below n, a and b below p
unfoldable pub known : (n p S a D b : ℕ) → Bool
known n p S a D b = ltb S n && ltb D n && ltb a p && ltb b p

-- the weight, count and choice rooms are long enough for N = n × p places
unfoldable pub roomy : ℕ → Rooms → Bool
roomy N (rooms W C X Q T) = leb (N * N) (length W) && leb (N * N) (length C) && leb (8 * (N * N)) (length X)

-- ## The enquiry S, a, D, b of an accepted network: 6, 7, 8, 9, 10, 11, 0

module _ (hop : Key → ℕ → Option (ℕ × ℕ)) (n p S a D b : ℕ) where
  -- past 6 and 7, with the tables written
  pub record Searched (W C X Q T W' C' X' : List ℕ) : Type 0 where
    pub in_range : known n p S a D b ≡ true
    pub enough : roomy (n * p) (rooms W C X Q T) ≡ true
    pub tabled : Tabled hop n p W C X W' C' X'

  -- past 8, 9 and 10: the best route is within the limits and the step room Q holds it
  pub record Found (Q : List ℕ) (ks : List Key) (w : ℕ) : Type 0 where
    pub best : Best hop S a D b ks w
    pub light : w ≤ heaviest
    pub short : length ks ≤ most_steps (length Q)

  -- of the step room Q and the text room T, the outcome and what it leaves in them
  pub data Ends (Q T : List ℕ) : Outcome → List ℕ → List ℕ → Type 0 where
    eight : NoRoute hop S a D b → Ends Q T (refusal 8 0) Q T
    nine : AllHeavy hop S a D b → Ends Q T (refusal 9 0) Q T
    ten : {w : ℕ} → LeastWeight hop S a D b w → MoreSteps hop S a D b w (most_steps (length Q)) → Ends Q T (refusal 10 0) Q T
    eleven : {ks : List Key} {w : ℕ} → Found Q ks w → length T < length (trace hop S a ks w)
        → Ends Q T (outcome 11 0 w (length ks) 0) (laid Q 0 (flat ks)) T
    zero : {ks : List Key} {w : ℕ} → Found Q ks w → length (trace hop S a ks w) ≤ length T
        → Ends Q T (outcome 0 0 w (length ks) (length (trace hop S a ks w))) (laid Q 0 (flat ks)) (laid T 0 (trace hop S a ks w))

  -- of all five rooms
  pub data Answers : Rooms → Outcome → Rooms → Type 0 where
    six : {r : Rooms} → known n p S a D b ≡ false → Answers r (refusal 6 0) r
    seven : {r : Rooms} → known n p S a D b ≡ true → roomy (n * p) r ≡ false → Answers r (refusal 7 0) r
    on : {W C X Q T W' C' X' Q' T' : List ℕ} {o : Outcome} → Searched W C X Q T W' C' X' → Ends Q T o Q' T'
        → Answers (rooms W C X Q T) o (rooms W' C' X' Q' T')

-- ## The route enquiry of a file: 1 to 5 first, each with all rooms as before the call

module _ (file : List ℕ) (S a D b : ℕ) where
  pub data Routed : Rooms → Outcome → Rooms → Type 0 where
    bad_file : {d i : ℕ} {r : Rooms} → judge file ≡ refused d i → Routed r (refusal d i) r
    good_file : {n p : ℕ} {ls : List Link} {fs : List Fun} {o : Outcome} {r s : Rooms} → judge file ≡ accepted (net n p ls fs)
        → Answers (hop (net n p ls fs)) n p S a D b r o s → Routed r o s

-- ## The normal writer: 1 to 5, 11, 0

-- told OUTCOME TEXT
pub data Told : Type 0 where
  told : Outcome → List ℕ → Told

unfoldable pub normally : Judged → List ℕ → Told
normally (refused d i) T = told (refusal d i) T
normally (accepted m) T =
    cond (leb (length (normal m)) (length T)) (told (outcome 0 0 0 0 (length (normal m))) (laid T 0 (normal m)))
    (told (refusal 11 0) T)
