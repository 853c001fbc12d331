-- A table of entries, judged: one computed test says whether it is closed, and whether an enquiry's answer stands in it.
-- Main result: `row_holds`, the answer is the entry of its pair.
-- Assumes nothing.
use Prim.Native.Nat.{ℕ}
use mathlib.Core.Path.{◌≡◌, refl}
use mathlib.Core.Bool.{Bool, true, false, cond, ◌&&◌}
use mathlib.Core.List.{List, [], ◌∷◌}
use mathlib.Core.Option.{Option, none, some}
use mathlib.Core.Logic.{◌⊎◌, inl, inr}
use lib.Dec.{eqb, ltb, eqb→eq, ltb→lt, T}
use lib.ListN.{length}
use Rattle.paper.specs.Net.{Link, Fun, Net, net, Key, hop}
use Rattle.paper.specs.Route.{At, at, replay, Feasible}
use Rattle.laws.specs.Value.{Value, within, never, cap, Entry}
use Rattle.laws.proofs.Cap.{le_trans_v}
use Rattle.laws.proofs.Fixpoint.{lower}
use Rattle.laws.proofs.Check.{le?, le?_le, relaxed?, relaxed, valid, and_left, and_right}

-- a certificate: an entry of the closed table that is neither `never` nor the stay at a place
pub data Cell : Type 0 where
  cell : ℕ → ℕ → ℕ → ℕ → Value → Cell

abbrev pub look : List Cell → ℕ → ℕ → ℕ → ℕ → Value
look [] v x u y = cond (eqb v u && eqb x y) (within 0 0) never
look (cell a b c d e ∷ cs) v x u y = cond (eqb a v && eqb b x && eqb c u && eqb d y) e (look cs v x u y)

-- what an enquiry finds: a route of least weight and then fewest steps, and its weight; or nothing
pub data Answer : Type 0 where
  route : List Key → ℕ → Answer
  nothing : Answer

abbrev pub counts : Answer → Value
counts (route ks w) = cap w (length ks)
counts nothing = never

-- row NET S a D b ANSWER CERTIFICATE
pub data Row : Type 0 where
  row : Net → ℕ → ℕ → ℕ → ℕ → Answer → List Cell → Row

abbrev pub Holds : Row → Type 0
Holds (row g S a D b ans cs) = Entry (hop g) S a D b (counts ans)

abbrev pub lone : List ℕ → ℕ → Bool
lone [] b = false
lone (x ∷ []) b = eqb x b
lone (x ∷ y ∷ h) b = false

abbrev pub arrives : Option At → ℕ → ℕ → ℕ → Bool
arrives none D b w = false
arrives (some (at v s u)) D b w = eqb v D && lone s b && eqb u w

abbrev pub answers : Net → ℕ → ℕ → ℕ → ℕ → Answer → Bool
answers g S a D b (route ks w) = arrives (replay (hop g) ks (at S (a ∷ []) 0)) D b w
answers g S a D b nothing = true

abbrev pub row? : Row → Bool
row? (row (net n p ls fs) S a D b ans cs) =
    relaxed? n p ls fs (look cs) && (ltb S n && ltb a p) && le? (counts ans) (look cs S a D b) && answers (net n p ls fs) S a D b ans

arrives_eq : (o : Option At) (D b w : ℕ) → T (arrives o D b w) → o ≡ some (at D (b ∷ []) w)
arrives_eq none D b w t = absurd t
arrives_eq (some (at v [] u)) D b w t = absurd (and_right (eqb v D) false (and_left (eqb v D && false) (eqb u w) t))
arrives_eq (some (at v (x ∷ []) u)) D b w t =
    let i : v ≡ D = eqb→eq v D (and_left (eqb v D) (eqb x b) (and_left (eqb v D && eqb x b) (eqb u w) t)) in
    let j : x ≡ b = eqb→eq x b (and_right (eqb v D) (eqb x b) (and_left (eqb v D && eqb x b) (eqb u w) t)) in
    let k : u ≡ w = eqb→eq u w (and_right (eqb v D && eqb x b) (eqb u w) t) in
    cc
arrives_eq (some (at v (x ∷ y ∷ h) u)) D b w t = absurd (and_right (eqb v D) false (and_left (eqb v D && false) (eqb u w) t))

attains : (g : Net) (S a D b : ℕ) (ans : Answer) → T (answers g S a D b ans)
    → (counts ans ≡ never) ⊎ ((ks : List Key) × (w : ℕ) × Feasible (hop g) S a D b ks w × (counts ans ≡ cap w (length ks)))
attains g S a D b (route ks w) t = inr (ks, w, record { runs = arrives_eq (replay (hop g) ks (at S (a ∷ []) 0)) D b w t }, refl)
attains g S a D b nothing t = inl refl

pub row_holds : (r : Row) → T (row? r) → Holds r
row_holds (row (net n p ls fs) S a D b ans cs) t =
    let r? = relaxed? n p ls fs (look cs) in
    let s? = ltb S n && ltb a p in
    let l? = le? (counts ans) (look cs S a D b) in
    let a? = answers (net n p ls fs) S a D b ans in
    let h = and_left (r? && s? && l?) a? t in
    let c = and_left r? s? (and_left (r? && s?) l? h) in
    let q = and_right r? s? (and_left (r? && s?) l? h) in
    record {
      attained = attains (net n p ls fs) S a D b ans (and_right (r? && s? && l?) a? t);
      least = λ ks w f.
          le_trans_v (counts ans) (look cs S a D b) (cap w (length ks)) (le?_le (counts ans) (look cs S a D b) (and_right (r? && s?) l? h))
          (lower (hop (net n p ls fs)) n p (valid n p ls fs (look cs) c) (look cs) (relaxed n p ls fs (look cs) c) S a D b
          (ltb→lt S n (and_left (ltb S n) (ltb a p) q)) (ltb→lt a p (and_right (ltb S n) (ltb a p) q)) ks w f);
    }

pub row_feasible : (n p : ℕ) (ls : List Link) (fs : List Fun) (S a D b : ℕ) (ks : List Key) (w : ℕ) (cs : List Cell)
    → T (row? (row (net n p ls fs) S a D b (route ks w) cs)) → Feasible (hop (net n p ls fs)) S a D b ks w
row_feasible n p ls fs S a D b ks w cs t =
    record { runs = arrives_eq (replay (hop (net n p ls fs)) ks (at S (a ∷ []) 0)) D b w (and_right (relaxed? n p ls fs (look cs) && (ltb S n && ltb a p) && le? (counts (route ks w)) (look cs S a D b)) (answers (net n p ls fs) S a D b (route ks w)) t) }
