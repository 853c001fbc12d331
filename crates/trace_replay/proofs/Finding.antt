-- The first record that passes one test and a second, found among those that pass the first; and the hop that two such records make, or none.
-- Assumes nothing.
use Prim.Native.Nat.{ℕ, ◌+◌, ◌<◌, ◌≤◌}
use mathlib.Core.Path.{◌≡◌, refl, sym, ◌∙◌}
use mathlib.Core.Bool.{Bool, true, false, ◌&&◌}
use mathlib.Core.List.{List}
use mathlib.Core.Option.{Option, none, some}
use native.Mathlib.Omega.{arith}
use lib.Dec.{eqb}
use native.Mathlib.Decide.{dec_lt}
use lib.ListN.{get_or}
use borrow.Author.Tests.{eqb-true, eq-eqb}
use Rattle.std.specs.Prelude.{Some, None, MatchOption}
use Rattle.std.specs.Prelude as std
use Rattle.paper.specs.Net.{code, key}
use Rattle.laws.proofs.Before.{and_left, and_right}
use Rattle.network_records.specs.Columns.{kind_of_code}
use Rattle.network.specs.Network.{links, funs, number, from, to, toll, node, kind, x_of, y_of, fee, hop_in}
use Rattle.network.specs.Arranged.{Arranged}
use Rattle.network.specs.Next.{leaves, stands, suits, Next, Stretch, First}
use Rattle.network.proofs.Steps.{Found, found, step_at, kind_is}
use Rattle.trace_replay.specs.Keys.{key_of}
use Rattle.trace_replay.specs.Hops.{numbered, known}
use Rattle.trace_replay.proofs.Entries.{kind_back}

and_false : (a b : Bool) → a ≡ false → a && b ≡ false
and_false a b e = rw e

not_both : {A : Type 0} (b : Bool) → b ≡ true → b ≡ false → A
not_both b e f = let z : ◌≡◌ {A = ℕ} 0 1 = cc in absurd (omega arith)

-- ## The walk

module _ (test more : ℕ → Bool) (n : ℕ) where
  -- nothing before r passes both tests, and r passes the first
  pub record Sought (r : ℕ) : Type 0 where
    pub at_most : r ≤ n
    pub none_before : (k : ℕ) → k < r → test k && more k ≡ false
    pub holds : r < n → test r ≡ true

  pub first : (r : ℕ) → Next test n 0 r → Sought r
  first r x = record { at_most = x.at_most; none_before = λ k h. and_false (test k) (more k) (x.none_before k (omega arith) h); holds = x.holds }

  pub further : (r s : ℕ) → r < n → Sought r → more r ≡ false → Next test n (r + 1) s → Sought s
  further r s l w f x = record { at_most = x.at_most; none_before = λ k h. go k h (dec_lt k r) (dec_lt r k); holds = x.holds }
    where
      go : (k : ℕ) → k < s → Dec (k < r) → Dec (r < k) → test k && more k ≡ false
      go k h (yes m) d = w.none_before k m
      go k h (no m) (yes d) = and_false (test k) (more k) (x.none_before k (omega arith) h)
      go k h (no m) (no d) = let e : k ≡ r = omega arith in rw (e, w.holds l, f)

  pub here : (r : ℕ) → r < n → Sought r → more r ≡ true → Next (λ k. test k && more k) n 0 r
  here r l w e = record { from_here = omega arith; at_most = w.at_most; none_before = λ k a h. w.none_before k h; holds = λ h. rw (w.holds l, e) }

  pub nowhere : (r : ℕ) → n ≤ r → Sought r → Next (λ k. test k && more k) n 0 n
  nowhere r l w = record { from_here = omega arith; at_most = omega arith; none_before = λ k a h. w.none_before k (omega arith); holds = λ h. absurd (omega arith) }

-- ## The first among those of a range

-- of n records those from a to b pass the test; p holds of those of them of which q does
module _ {test p : ℕ → Bool} (q : ℕ → Bool) {n a b : ℕ} (own : Stretch test n a b) (is : (k : ℕ) → p k ≡ (test k && q k)) where
  none_till : (i : ℕ) → i ≤ b → ((k : ℕ) → a ≤ k → k < i → q k ≡ false) → (k : ℕ) → k < i → p k ≡ false
  none_till i h f k l = go (dec_lt k a)
    where
      go : Dec (k < a) → p k ≡ false
      go (yes m) = is k ∙ and_false (test k) (q k) (own.before k m)
      go (no m) =
          let e : q k ≡ false = f k (omega arith) l in
          let t : test k ≡ true = own.inside k (omega arith) (omega arith) in
          is k ∙ rw (t, e)

  -- what `find` says of a range, said of all records
  pub first_of : (r : std.Option ℕ) → MatchOption r ((k : ℕ) → a ≤ k → k < b → q k ≡ false) (λ i. (a ≤ i) × (i < b) × (q i ≡ true) × ((k : ℕ) → a ≤ k → k < i → q k ≡ false)) → First p n r
  first_of None f = record { from_here = omega arith; at_most = omega arith; none_before = λ k g h. go k h (dec_lt k b); holds = λ h. absurd (omega arith) }
    where
      go : (k : ℕ) → k < n → Dec (k < b) → p k ≡ false
      go k h (yes m) = none_till b (omega arith) f k m
      go k h (no m) = is k ∙ and_false (test k) (q k) (own.behind k (omega arith) h)
  first_of (Some i) f =
      let here : test i ≡ true = own.inside i f.0 f.1 in (
        omega (arith, own.within, f.1),
        record { from_here = omega arith; at_most = omega (arith, own.within, f.1); none_before = λ k g h. none_till i (omega (arith, f.1)) f.3 k h; holds = λ h. is i ∙ rw (here, f.2) },
      )

and_assoc : (a b c : Bool) → (a && b) && c ≡ a && (b && c)
and_assoc true b c = refl
and_assoc false b c = refl

-- of a function of the node, its kind, x and y are looked at
pub known_is : (g : List ℕ) (v c x y j : ℕ) → known g v c x y j ≡ (stands g v j && ((eqb (kind g j) c && eqb (x_of g j) x) && eqb (y_of g j) y))
unfolding stands suits
known_is g v c x y j = and_assoc (eqb (node g j) v) (eqb (kind g j) c && eqb (x_of g j) x) (eqb (y_of g j) y)

-- ## The hop

module _ (g : List ℕ) (o : Arranged g) (v : ℕ) (k : List ℕ) where
  abbrev Link : std.Option ℕ → Type 0
  Link r = First (numbered g v (get_or k 0 0)) (links g) r

  abbrev Fun : std.Option ℕ → Type 0
  Fun r = First (known g v (code (kind_of_code (get_or k 1 0))) (get_or k 2 0) (get_or k 3 0)) (funs g) r

  pub leads : (i j : ℕ) → Link (Some i) → Fun (Some j) → some (to g i, fee g j + toll g i) ≡ hop_in g (key_of k) v
  unfolding key_of leaves suits
  leads i j a b =
      let l = a.1.holds a.0 in
      let f = b.1.holds b.0 in
      let s = and_left (eqb (node g j) v && (eqb (kind g j) (code (kind_of_code (get_or k 1 0))) && eqb (x_of g j) (get_or k 2 0))) (eqb (y_of g j) (get_or k 3 0)) f in
      let t = and_right (eqb (node g j) v) (eqb (kind g j) (code (kind_of_code (get_or k 1 0))) && eqb (x_of g j) (get_or k 2 0)) s in
      let at_node : node g j ≡ v = eqb-true (node g j) v (and_left (eqb (node g j) v) (eqb (kind g j) (code (kind_of_code (get_or k 1 0))) && eqb (x_of g j) (get_or k 2 0)) s) in
      let at_kind : kind g j ≡ code (kind_of_code (get_or k 1 0)) = eqb-true (kind g j) (code (kind_of_code (get_or k 1 0))) (and_left (eqb (kind g j) (code (kind_of_code (get_or k 1 0)))) (eqb (x_of g j) (get_or k 2 0)) t) in
      let at_x : x_of g j ≡ get_or k 2 0 = eqb-true (x_of g j) (get_or k 2 0) (and_right (eqb (kind g j) (code (kind_of_code (get_or k 1 0)))) (eqb (x_of g j) (get_or k 2 0)) t) in
      let at_y : y_of g j ≡ get_or k 3 0 = eqb-true (y_of g j) (get_or k 3 0) (and_right (eqb (node g j) v && (eqb (kind g j) (code (kind_of_code (get_or k 1 0))) && eqb (x_of g j) (get_or k 2 0))) (eqb (y_of g j) (get_or k 3 0)) f) in
      let at_from : from g i ≡ v = eqb-true (from g i) v (and_left (eqb (from g i) v) (eqb (number g i) (get_or k 0 0)) l) in
      let at_number : number g i ≡ get_or k 0 0 = eqb-true (number g i) (get_or k 0 0) (and_right (eqb (from g i) v) (eqb (number g i) (get_or k 0 0)) l) in
      rw (← at_number, ← at_y, ← kind_back (kind_of_code (get_or k 1 0))) (sym (step_at g o j i v (code (kind_of_code (get_or k 1 0))) (get_or k 2 0) b.0 a.0 (at_from ∙ sym at_node) at_node at_kind at_x))

  -- a hop needs both records
  nothing : ((u w : ℕ) → Found g o (get_or k 0 0) (kind_of_code (get_or k 1 0)) (get_or k 2 0) (get_or k 3 0) v u w → ⊥) → none ≡ hop_in g (key_of k) v
  unfolding key_of
  nothing f = sym (go (hop_in g (key (get_or k 0 0) (kind_of_code (get_or k 1 0)) (get_or k 2 0) (get_or k 3 0)) v) refl)
    where
      go : (r : Option (ℕ × ℕ)) → hop_in g (key (get_or k 0 0) (kind_of_code (get_or k 1 0)) (get_or k 2 0) (get_or k 3 0)) v ≡ r → r ≡ none
      go none e = refl
      go (some r) e = absurd (f r.0 r.1 (found g o (get_or k 0 0) (kind_of_code (get_or k 1 0)) (get_or k 2 0) (get_or k 3 0) v r.0 r.1 e))

  pub no_link : Link None → none ≡ hop_in g (key_of k) v
  unfolding leaves
  no_link a =
      nothing (λ u w f. not_both (numbered g v (get_or k 0 0) f.i) (rw (eq-eqb (from g f.i) v f.at_from, eq-eqb (number g f.i) (get_or k 0 0) f.has_number)) (a.none_before f.i (omega arith) (omega (arith, f.of_link))))

  pub no_fun : Fun None → none ≡ hop_in g (key_of k) v
  unfolding suits
  no_fun b =
      nothing (λ u w f.
      not_both (known g v (code (kind_of_code (get_or k 1 0))) (get_or k 2 0) (get_or k 3 0) f.j)
      (rw (eq-eqb (node g f.j) v f.at_node, eq-eqb (kind g f.j) (code (kind_of_code (get_or k 1 0))) (kind_is g o (kind_of_code (get_or k 1 0)) f.j f.of_fun f.has_kind), eq-eqb (x_of g f.j) (get_or k 2 0) f.has_x, eq-eqb (y_of g f.j) (get_or k 3 0) f.has_y))
      (b.none_before f.j (omega arith) (omega (arith, f.of_fun))))
