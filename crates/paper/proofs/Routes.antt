-- The definitions of routes, run on the marked examples: each program that document 01 calls wrong would fail here.
-- Assumes nothing.
use mathlib.Core.Bool.{Bool, true, false, ◌&&◌}
use mathlib.Core.List.{List, [], ◌∷◌}
use mathlib.Core.Option.{Option, none, some}
use mathlib.Core.Path.{◌≡◌, refl}
use mathlib.Core.Logic.{inl, inr, ◌↔◌}
use Prim.Native.Nat.{ℕ, ◌<◌, ◌≤◌}
use native.Mathlib.Omega.{arith}
use lib.Dec.{eqb, T}
use lib.ListN.{length}
use Rattle.paper.specs.Limits.{heaviest}
use Rattle.paper.specs.Net.{conv, wrap, unwrap, Net, Key, key, hop, across, charge, both}
use Rattle.paper.specs.Route.{At, at, act, move, then, step, replay, Feasible, Lex, flat, rank}
use Rattle.paper.specs.Text.{bytes, same, decimal, decimal_to, written, tabbed, path_word, step_word, conv_word, wrap_word, unwrap_word}
use Rattle.paper.specs.Normal.{kind_word}
use Rattle.paper.specs.Trace.{dotted, step_line, following, step_lines, trace}
use Rattle.paper.specs.Outcome.{most_steps}
use Rattle.paper.specs.Examples.{network_a, nested, hidden, chain}

-- ## What a replay comes to

-- trial NET S a KEYS, and where it ends
data Trial : Type 0 where
  ends : Net → ℕ → ℕ → List Key → ℕ → List ℕ → ℕ → Trial
  stuck : Net → ℕ → ℕ → List Key → Trial

is_at : ℕ → List ℕ → ℕ → Option At → Bool
is_at v s w none = false
is_at v s w (some (at u t z)) = eqb v u && same s t && eqb w z

is_stuck : Option At → Bool
is_stuck none = true
is_stuck (some c) = false

right : Trial → Bool
right (ends g S a ks v s w) = is_at v s w (replay (hop g) ks (at S (a ∷ []) 0))
right (stuck g S a ks) = is_stuck (replay (hop g) ks (at S (a ∷ []) 0))

all_right : List Trial → Bool
all_right [] = true
all_right (t ∷ ts) = right t && all_right ts

trials : List Trial
trials =
    ends network_a 0 0 (key 10 conv 0 0 ∷ key 11 wrap 0 1 ∷ key 12 unwrap 0 1 ∷ []) 3 (0 ∷ []) 20 ∷
    -- example 5: node 0 is left twice, and three protocols lie on the stack
    ends nested 0 0 (key 1 wrap 0 1 ∷ key 2 wrap 1 1 ∷ []) 1 (1 ∷ 1 ∷ 0 ∷ []) 2 ∷
    ends nested 0 0 (key 1 wrap 0 1 ∷ key 2 wrap 1 1 ∷ key 3 unwrap 1 1 ∷ key 4 unwrap 0 1 ∷ []) 3 (0 ∷ []) 4 ∷
    -- example 9: what is hidden is 0 and not 2
    stuck hidden 0 0 (key 1 wrap 0 1 ∷ key 2 unwrap 2 1 ∷ []) ∷
    stuck hidden 0 0 (key 1 wrap 0 1 ∷ key 2 unwrap 0 1 ∷ []) ∷
    -- the bottom is not unwrapped
    stuck network_a 2 1 (key 12 unwrap 0 1 ∷ []) ∷
    -- example 10: a chain of three does not come out light
    ends chain 0 0 (key 1 conv 0 0 ∷ key 2 conv 0 0 ∷ key 3 conv 0 0 ∷ []) 3 (0 ∷ []) 6000000000 ∷
    []

trials_hold : T (all_right trials)
unfolding all_right right trials is_at is_stuck same replay then step move act hop both charge across
trials_hold = tt

-- ## Which route comes first

-- example 6: by the link's number
by_key : Lex (rank (key 7 conv 0 0 ∷ []) 3) (rank (key 9 conv 0 0 ∷ []) 3)
unfolding Lex rank flat
by_key = inr (refl, inr (refl, inl (omega arith)))

-- example 7: less weight before fewer steps
by_weight : Lex (rank (key 2 conv 0 0 ∷ key 3 conv 0 0 ∷ []) 8) (rank (key 1 conv 0 0 ∷ []) 9)
unfolding Lex rank flat
by_weight = inl (omega arith)

-- example 8, with its links numbered the other way round: fewer steps before the key
by_steps : Lex (rank (key 3 conv 0 0 ∷ []) 8) (rank (key 1 conv 0 0 ∷ key 2 conv 0 0 ∷ []) 8)
unfolding Lex rank flat
by_steps = inr (refl, inl (omega arith))

-- ## Limits

-- example 10's first route weighs just what a route may weigh
heaviest_route : (4000000000 ≤ heaviest) × (heaviest < 4000000001)
heaviest_route = (omega arith, omega arith)

-- step room 12 holds three steps, 11 two; no room holds more than 4,096
rooms_hold : (most_steps 12 ≡ 3) × (most_steps 11 ≡ 2) × (most_steps 16384 ≡ 4096) × (most_steps 16388 ≡ 4096)
unfolding most_steps
rooms_hold = (refl, refl, refl, refl)

-- ## The listing: the first route's text, of 77 bytes

text : List ℕ
text = trace (hop network_a) 0 0 (key 10 conv 0 0 ∷ key 11 wrap 0 1 ∷ key 12 unwrap 0 1 ∷ []) 20

listed : T (same text (bytes "path\t20\t3\nstep\t10\tconv\t0\t0\t1\t0\nstep\t11\twrap\t0\t1\t2\t0.1\nstep\t12\tunwrap\t0\t1\t3\t0\n") && eqb (length text) 77)
unfolding text trace step_lines following step_line dotted kind_word written tabbed decimal decimal_to same path_word step_word conv_word wrap_word unwrap_word step move act hop both charge across
listed = tt

-- ## The route of no steps

-- it is feasible exactly when S = D and a = b, and weighs 0
pub no_steps : (hop : Key → ℕ → Option (ℕ × ℕ)) (S a D b w : ℕ) → Feasible hop S a D b [] w ↔ ((S ≡ D) × (a ≡ b) × (w ≡ 0))
unfolding replay
no_steps hop S a D b w = (there, back)
  where
    there : Feasible hop S a D b [] w → (S ≡ D) × (a ≡ b) × (w ≡ 0)
    there f = let e = f.runs in (cc, cc, cc)

    back : (S ≡ D) × (a ≡ b) × (w ≡ 0) → Feasible hop S a D b [] w
    back e = record { runs = rw (e.0, e.1, e.2) }
