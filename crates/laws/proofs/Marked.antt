-- Every marked example holds: one table, one statement (both in paper's specs/Examples), one computed test.
-- The closed table of each network is computed by Solve and judged by Certificate; first-by-key by trying every route of as many steps.
-- Assumes nothing.
use Prim.Native.Nat.{ℕ, zero, suc, ◌+◌, ◌<◌, ◌≤◌, min}
use mathlib.Core.Path.{◌≡◌, sym}
use mathlib.Core.Bool.{Bool, true, false, not, ◌&&◌, ◌||◌}
use mathlib.Core.List.{List, [], ◌∷◌}
use mathlib.Core.Option.{Option, none, some, some-injective}
use mathlib.Core.Logic.{◌⊎◌, inl, inr}
use native.Mathlib.Omega.{arith}
use lib.Dec.{eqb, ltb, leb, leb→le, ltb→lt, eqb→eq, eqb_refl, T}
use lib.ListN.{length}
use Rattle.paper.specs.Net.{Link, link, Fun, fun, Net, net, Key, key, hop}
use Rattle.paper.specs.Route.{At, at, then, step, replay, Feasible, Lex, flat, rank, Best}
use Rattle.paper.specs.Examples.{best, heavy, none_at_all, Example, ask, Holds, marked}
use Rattle.laws.specs.Value.{Value, cap, Entry}
use Rattle.laws.proofs.Order.{Three, three, less, same, more}
use Rattle.laws.proofs.Cap.{cap_light, cap_heavy}
use Rattle.laws.proofs.Parse.{stepped}
use Rattle.laws.proofs.Outcome.{is_8, is_9, fewer}
use Rattle.laws.proofs.Check.{every, every_at, and_left, and_right, and_in, behind}
use Rattle.laws.proofs.Certificate.{route, nothing, row, row?, row_holds, row_feasible, arrives}
use Rattle.laws.proofs.Solve.{table}
use Rattle.laws.specs.Sets.{Mem}

-- the order of lists, computed
abbrev lex? : List ℕ → List ℕ → Bool
lex? [] ms = true
lex? (n ∷ ns) [] = false
lex? (n ∷ ns) (m ∷ ms) = ltb n m || (eqb n m && lex? ns ms)

lex?_lex : (a b : List ℕ) → T (lex? a b) → Lex a b
unfolding Lex
lex?_lex [] b t = tt
lex?_lex (n ∷ a) [] t = absurd t
lex?_lex (n ∷ a) (m ∷ b) t = go (ltb n m) (eqb n m) (ltb→lt n m) (eqb→eq n m) (lex?_lex a b) t
  where
    go : (i j : Bool) → (T i → n < m) → (T j → n ≡ m) → (T (lex? a b) → Lex a b) → T (i || (j && lex? a b)) → (n < m) ⊎ ((n ≡ m) × Lex a b)
    go true j f g h t = inl (f tt)
    go false true f g h t = inr (g tt, h t)
    go false false f g h t = absurd t

-- f holds of every list of k keys that can be replayed from c
abbrev allowed : Option At → (At → Bool) → Bool
allowed none f = true
allowed (some c) f = f c

abbrev tried : Fun → Link → (Key → Bool) → Bool
tried (fun v c x y w) (link l u t w') f = f (key l c x y)

module _ (n p : ℕ) (ls : List Link) (fs : List Fun) (f : At → List Key → Bool) where
  -- `done`: the keys so far, put in front of the rest
  abbrev all_routes : ℕ → At → (List Key → List Key) → Bool
  all_routes zero c done = f c (done [])
  all_routes (suc k) c done = every (λ g. every (λ m. tried g m (λ j. allowed (step (hop (net n p ls fs)) j c) (λ d. all_routes k d (λ ks. done (j ∷ ks))))) ls) fs

  all_at : (ks : List Key) (c d : At) (done : List Key → List Key) → T (all_routes (length ks) c done) → replay (hop (net n p ls fs)) ks c ≡ some d → T (f d (done ks))
  unfolding replay step Rattle.paper.specs.Route.move
  all_at [] c d done t e = rw (some-injective c d e) at t
  all_at (key l k x y ∷ ks) (at v s w) d done t e =
      let h = hop (net n p ls fs) in
      let q = stepped h l k x y v s w (λ c. replay h ks c) d e in
      let b = behind n p ls fs l k x y v q.to q.cost q.hops in
      let u = every_at (λ m. tried (fun v k x y b.fee) m (λ j. allowed (step h j (at v s w)) (λ d. all_routes (length ks) d (λ js. done (j ∷ js))))) (link l v q.to b.toll) ls
      (every_at (λ g. every (λ m. tried g m (λ j. allowed (step h j (at v s w)) (λ d. all_routes (length ks) d (λ js. done (j ∷ js))))) ls) (fun v k x y b.fee) fs t b.has_fun) b.has_link in
      all_at ks (at q.to q.stack (w + q.cost)) d (λ js. done (key l k x y ∷ js)) (rw (q.acts, q.hops) at u) q.goes

arrives_here : (D b w : ℕ) → T (arrives (some (at D (b ∷ []) w)) D b w)
arrives_here D b w = and_in (eqb D D && eqb b b) (eqb w w) (and_in (eqb D D) (eqb b b) (eqb_refl D) (eqb_refl b)) (eqb_refl w)

-- a list of keys that arrives is not before ks
abbrev after : ℕ → ℕ → ℕ → List Key → At → List Key → Bool
after D b w ks c js = not (arrives (some c) D b w) || lex? (flat ks) (flat js)

after_lex : (D b w : ℕ) (ks js : List Key) → T (after D b w ks (at D (b ∷ []) w) js) → Lex (flat ks) (flat js)
after_lex D b w ks js t = lex?_lex (flat ks) (flat js) (go (arrives (some (at D (b ∷ []) w)) D b w) (arrives_here D b w) t)
  where
    go : (i : Bool) → T i → T (not i || lex? (flat ks) (flat js)) → T (lex? (flat ks) (flat js))
    go true h t = t
    go false h t = absurd h

abbrev holds? : Example → Bool
holds? (ask (net n p ls fs) S a D b (best ks w)) =
    row? (row (net n p ls fs) S a D b (route ks w) (table (net n p ls fs))) && (leb w 4000000000 && leb (length ks) 4096)
    && all_routes n p ls fs (after D b w ks) (length ks) (at S (a ∷ []) 0) (λ js. js)
holds? (ask g S a D b (heavy ks w)) = row? (row g S a D b (route ks w) (table g)) && ltb 4000000000 w
holds? (ask g S a D b none_at_all) = row? (row g S a D b nothing (table g))

best_by : (hop : Key → ℕ → Option (ℕ × ℕ)) (S a D b w : ℕ) (ks : List Key) → w ≤ 4000000000 → length ks ≤ 4096 → Entry hop S a D b (cap w (length ks)) → Feasible hop S a D b ks w
    → ((js : List Key) → length js ≡ length ks → Feasible hop S a D b js w → Lex (flat ks) (flat js)) → Best hop S a D b ks w
unfolding Lex rank
best_by hop S a D b w ks hw hs e f first = record { feasible = f; first = λ js u g. go js u g (fewer hop S a D b w (min (length ks) 4097) (rw (cap_light w (length ks)) at e) js u g) (three (length ks) (length js)) }
  where
    go : (js : List Key) (u : ℕ) → Feasible hop S a D b js u → (w < u) ⊎ ((w ≡ u) × (min (length ks) 4097 ≤ min (length js) 4097)) → Three (length ks) (length js) → Lex (rank ks w) (rank js u)
    go js u g (inl h) t = inl h
    go js u g (inr h) (less l) = inr (h.0, inl l)
    go js u g (inr h) (same l) = inr (h.0, inr (l, first js (sym l) (rw h.0 g)))
    go js u g (inr h) (more l) = absurd (omega arith)

pub example_holds : (q : Example) → T (holds? q) → Holds q
example_holds (ask (net n p ls fs) S a D b (best ks w)) t =
    let g = net n p ls fs in
    let r? = row? (row g S a D b (route ks w) (table g)) in
    let l? = leb w 4000000000 && leb (length ks) 4096 in
    let a? = all_routes n p ls fs (after D b w ks) (length ks) (at S (a ∷ []) 0) (λ js. js) in
    let h = and_left r? l? (and_left (r? && l?) a? t) in
    let k = and_right r? l? (and_left (r? && l?) a? t) in
    best_by (hop g) S a D b w ks (leb→le w 4000000000 (and_left (leb w 4000000000) (leb (length ks) 4096) k)) (leb→le (length ks) 4096 (and_right (leb w 4000000000) (leb (length ks) 4096) k))
    (row_holds (row g S a D b (route ks w) (table g)) h) (row_feasible n p ls fs S a D b ks w (table g) h)
    (λ js e f. after_lex D b w ks js (all_at n p ls fs (after D b w ks) js (at S (a ∷ []) 0) (at D (b ∷ []) w) (λ js. js) (rw e (and_right (r? && l?) a? t)) f.runs))
example_holds (ask g S a D b (heavy ks w)) t =
    let h = ltb→lt 4000000000 w (and_right (row? (row g S a D b (route ks w) (table g))) (ltb 4000000000 w) t) in
    is_9 (hop g) S a D b (rw (cap_heavy w (length ks)) at (row_holds (row g S a D b (route ks w) (table g)) (and_left (row? (row g S a D b (route ks w) (table g))) (ltb 4000000000 w) t)))
example_holds (ask g S a D b none_at_all) t = is_8 (hop g) S a D b (row_holds (row g S a D b nothing (table g)) t)

pub marked_hold : (q : Example) → Mem q marked → Holds q
unfolding Rattle.laws.specs.Value.plus cap replay then step Rattle.paper.specs.Route.move Rattle.paper.specs.Route.act hop Rattle.paper.specs.Net.both Rattle.paper.specs.Net.charge Rattle.paper.specs.Net.across flat
marked_hold q m = example_holds q (every_at holds? q marked tt m)
