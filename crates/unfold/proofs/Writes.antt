-- Steps written one after another, and the kind of a step that was picked. Assumes nothing.
use Prim.Native.Nat.{ℕ, ◌+◌, ◌-◌, ◌*◌, ◌≤◌}
use mathlib.Core.Path.{◌≡◌, refl, sym, ap, ◌∙◌}
use mathlib.Core.List.{List, [], ◌∷◌, ◌++◌}
use native.Mathlib.Omega.{arith}
use lib.ListN.{length, get_or}
use Rattle.paper.specs.Net.{Kind, conv, wrap, unwrap, code, Key, key}
use Rattle.paper.specs.Rooms.{laid}
use Rattle.paper.specs.Route.{flat}
use Rattle.laws.proofs.Laid.{laid_seq}
use Rattle.laws.proofs.Order.{code_inj}
use Rattle.laws.proofs.Parts.{flat_append, flat_length}
use Rattle.network_records.specs.Columns.{kind_of_code}
use Rattle.unfold_tries.specs.declared.trial.Spot.{Spot}
use Rattle.unfold_tries.specs.declared.trial.Step.{Step}
use Rattle.unfold_picks.specs.Contract.{PickedIn, Taken}

-- some steps, with m left, and the steps behind them
pub wrote_then : (Q : List ℕ) {Q' Q'' : List ℕ} (ks js : List Key) (total n m : ℕ) → n ≤ total → length ks + m ≡ n → Q' ≡ laid Q (4 * (total - n)) (flat ks) → Q'' ≡ laid Q' (4 * (total - m)) (flat js)
    → Q'' ≡ laid Q (4 * (total - n)) (flat (ks ++ js))
wrote_then Q {Q'} {Q''} ks js total n m h e p q =
    rw (flat_append ks js) (laid_seq Q Q' Q'' (flat ks) (flat js) (4 * (total - n)) (4 * (total - m)) p (omega (arith, flat_length ks)) q)

code_kind : (c : Kind) → kind_of_code (code c) ≡ c
unfolding kind_of_code
code_kind conv = refl
code_kind wrap = refl
code_kind unwrap = refl

-- a step that was picked, of a kind that is known
pub record TakenAs (g W C L : List ℕ) (k : ℕ) (at : Spot) (s : Step) (c : Kind) : Type 0 where
  pub l : ℕ
  pub a : ℕ
  pub e : ℕ
  pub spelled : s.key ≡ flat (key l c a e ∷ [])
  pub picked : PickedIn g W C L k at (key l c a e) s.to

module _ {g W C L : List ℕ} {k : ℕ} {at : Spot} {s : Step} (y : Taken g W C L k at s) where
  pub taken_as : (c : Kind) → get_or s.key 1 0 ≡ code c → TakenAs g W C L k at s c
  unfolding flat
  taken_as c h = go y.key y.spelled y.picked
    where
      go : (j : Key) → s.key ≡ flat (j ∷ []) → PickedIn g W C L k at j s.to → TakenAs g W C L k at s c
      go (key l c' a e) i p = let same : c' ≡ c = code_inj c' c (ap (λ (j : List ℕ). get_or j 1 0) (sym i) ∙ h) in rw (← same) (record { l = l; a = a; e = e; spelled = i; picked = p })

  -- the code in a key is that of the kind that it stands for
  pub coded : (c : Kind) → c ≡ kind_of_code (get_or s.key 1 0) → get_or s.key 1 0 ≡ code c
  unfolding flat
  coded c h = go y.key y.spelled
    where
      go : (j : Key) → s.key ≡ flat (j ∷ []) → get_or s.key 1 0 ≡ code c
      go (key l c' a e) i =
          let is : get_or s.key 1 0 ≡ code c' = ap (λ (j : List ℕ). get_or j 1 0) i in
          let same : c ≡ c' = h ∙ ap kind_of_code is ∙ code_kind c' in
          rw same is

  pub taken_by : (c : Kind) → c ≡ kind_of_code (get_or s.key 1 0) → TakenAs g W C L k at s c
  taken_by c h = taken_as c (coded c h)
