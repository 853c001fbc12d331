-- Lists of exits grow by what one number after another brings. Assumes nothing.
use Prim.Native.Nat.{ℕ, ◌+◌, ◌<◌, ◌≤◌}
use mathlib.Core.Path.{◌≡◌, sym, ap, ◌∙◌}
use mathlib.Core.List.{List, [], ◌∷◌, ◌++◌}
use native.Mathlib.Omega.{arith}
use native.Mathlib.Decide.{dec_lt}
use lib.ListN.{length, length-append, get_or-append}
use lib.Seq.{get_or-append_seam}
use Rattle.unfold_exits.specs.Lists.{exit_at, exit_of, cost_of, Has, Lists, Some, Gathered}
use Rattle.unfold_exits.specs.declared.lists.Exit.{Exit}

-- the same exits under another name
pub lists_as : {E : List Exit} (Q R : ℕ → ℕ → Type 0) → ((e c : ℕ) → Q e c → R e c) → ((e c : ℕ) → R e c → Q e c) → Lists Q E → Lists R E
lists_as Q R there back l = record { each = λ i h. there _ _ (l.each i h); all = λ e c r. l.all e c (back e c r) }

-- ## An exit put behind the others

module _ (E : List Exit) (x : Exit) where
  abbrev longer : List Exit
  longer = E ++ x ∷ []

  at_old : (i : ℕ) → i < length E → exit_at longer i ≡ exit_at E i
  at_old i h = get_or-append E (x ∷ []) _ i h

  at_new : exit_at longer (length E) ≡ x
  at_new = get_or-append_seam E x [] _

-- ## What numbers bring

module _ (Q : ℕ → ℕ → ℕ → Type 0) where
  pub gathered_none : Gathered Q 0 []
  gathered_none = record { few = omega arith; lists = record { each = λ i h. absurd (omega arith); all = λ e c s. absurd (omega (arith, s.below)) } }

  -- numbers that bring nothing
  pub gathered_past : {E : List Exit} {m m' : ℕ} → Gathered Q m E → m ≤ m' → ((i e c : ℕ) → m ≤ i → i < m' → Q i e c → ⊥) → Gathered Q m' E
  gathered_past {E} {m} {m'} g h none = record {
    few = omega (arith, g.few);
    lists = record {
      each = λ i k. let s = g.lists.each i k in record { at = s.at; below = omega (arith, s.below); is = s.is };
      all = λ e c s. go e c s (dec_lt s.at m);
    };
  }
    where
      go : (e c : ℕ) (s : Some Q m' e c) → Dec (s.at < m) → Has E e c
      go e c s (yes k) = g.lists.all e c (record { at = s.at; below = k; is = s.is })
      go e c s (no k) = absurd (none s.at e c (omega arith) s.below s.is)

  -- the next number brings one exit
  module _ {E : List Exit} {m : ℕ} (x : Exit) (g : Gathered Q m E) (new : Q m x.place x.cost) (only : (e c : ℕ) → Q m e c → (e ≡ x.place) × (x.cost ≤ c)) where
    long : length (longer E x) ≡ length E + 1
    long = length-append E (x ∷ [])

    each_of : (i : ℕ) → Dec (i < length E) → i < length E + 1 → Some Q (m + 1) (exit_of (longer E x) i) (cost_of (longer E x) i)
    each_of i (yes l) j = rw (at_old E x i l, exit_of, cost_of) (let s = g.lists.each i l in record { at = s.at; below = omega (arith, s.below); is = s.is })
    each_of i (no l) j =
        let e : i ≡ length E = omega arith in
        rw (e, at_new E x, exit_of, cost_of) (record { at = m; below = omega arith; is = new })

    all_of : (e c : ℕ) (s : Some Q (m + 1) e c) → Dec (s.at < m) → Has (longer E x) e c
    all_of e c s (yes l) =
        let i = g.lists.all e c (record { at = s.at; below = l; is = s.is }) in
        let f = at_old E x i.at i.below in
        record { at = i.at; below = omega (arith, i.below, long); is = ap (λ (y : Exit). y.place) f ∙ i.is; most = omega (arith, ap (λ (y : Exit). y.cost) f, i.most) }
    all_of e c s (no l) =
        let f : s.at ≡ m = omega (arith, s.below) in
        let o = only e c (rw f at s.is) in
        let n = at_new E x in
        record { at = length E; below = omega (arith, long); is = ap (λ (y : Exit). y.place) n ∙ sym o.0; most = omega (arith, ap (λ (y : Exit). y.cost) n, o.1) }

    pub gathered_one : Gathered Q (m + 1) (longer E x)
    gathered_one = record {
      few = omega (arith, g.few, long);
      lists = record { each = λ i h. each_of i (dec_lt i (length E)) (omega (arith, long)); all = λ e c s. all_of e c s (dec_lt s.at m) };
    }
