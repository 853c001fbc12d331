-- In a network whose link numbers and functions each occur once, a function and a link that leave one node make a step, of their weights.
-- Assumes nothing.
use Prim.Native.Nat.{ℕ, ◌+◌}
use mathlib.Core.Path.{◌≡◌}
use mathlib.Core.Bool.{Bool, true, false, cond, ◌&&◌}
use mathlib.Core.List.{List, [], ◌∷◌}
use mathlib.Core.Option.{Option, some}
use mathlib.Core.Logic.{inl, inr}
use lib.Dec.{eqb, eqb→eq, T}
use Rattle.paper.specs.Net.{Kind, code, Link, link, Fun, fun, net, key, across, charge, both, hop}
use Rattle.laws.proofs.Parse.{eqb_same}
use Rattle.laws.proofs.Check.{code_inj}
use Rattle.laws.specs.Sets.{Mem}

abbrev pub OnceL : List Link → Type 0
OnceL [] = Unit {0}
OnceL (link m u t w ∷ ls) = ((u' t' w' : ℕ) → Mem (link m u' t' w') ls → ⊥) × OnceL ls

abbrev pub OnceF : List Fun → Type 0
OnceF [] = Unit {0}
OnceF (fun v c x y w ∷ fs) = ((w' : ℕ) → Mem (fun v c x y w') fs → ⊥) × OnceF fs

pub across_once : (ls : List Link) → OnceL ls → (l v t w : ℕ) → Mem (link l v t w) ls → across ls l v ≡ some (t, w)
unfolding across Mem
across_once [] o l v t w m = absurd m
across_once (link l' v' t' w' ∷ ls) o l v t w (inl e) =
    let a : l ≡ l' = cc in let b : v ≡ v' = cc in let c : t ≡ t' = cc in let d : w ≡ w' = cc in
    rw (a, b, c, d, eqb_same l', eqb_same v')
across_once (link l' v' t' w' ∷ ls) o l v t w (inr m) = go (eqb l' l) (eqb→eq l' l) (across_once ls o.1 l v t w m)
  where
    go : (i : Bool) → (T i → l' ≡ l) → across ls l v ≡ some (t, w) → cond {A = Option (ℕ × ℕ)} (i && eqb v' v) (some (t', w')) (across ls l v) ≡ some (t, w)
    go true f rec = absurd (o.0 v t w (rw (f tt) m))
    go false f rec = rec

pub charge_once : (fs : List Fun) → OnceF fs → (v : ℕ) (c : Kind) (x y w : ℕ) → Mem (fun v c x y w) fs → charge fs v c x y ≡ some w
unfolding charge Mem
charge_once [] o v c x y w m = absurd m
charge_once (fun v' c' x' y' w' ∷ fs) o v c x y w (inl e) =
    let a : v ≡ v' = cc in let b : c ≡ c' = cc in let d : x ≡ x' = cc in let f : y ≡ y' = cc in let g : w ≡ w' = cc in
    rw (a, b, d, f, g, eqb_same v', eqb_same (code c'), eqb_same x', eqb_same y')
charge_once (fun v' c' x' y' w' ∷ fs) o v c x y w (inr m) =
    go (eqb v' v) (eqb (code c') (code c)) (eqb x' x) (eqb y' y) (eqb→eq v' v) (code_inj c' c) (eqb→eq x' x) (eqb→eq y' y) (charge_once fs o.1 v c x y w m)
  where
    go : (i j k l : Bool) → (T i → v' ≡ v) → (T j → c' ≡ c) → (T k → x' ≡ x) → (T l → y' ≡ y) → charge fs v c x y ≡ some w
        → cond {A = Option ℕ} (i && j && k && l) (some w') (charge fs v c x y) ≡ some w
    go true true true true p q r s rec = absurd (o.0 w (rw (p tt, q tt, r tt, s tt) m))
    go true true true false p q r s rec = rec
    go true true false l p q r s rec = rec
    go true false k l p q r s rec = rec
    go false j k l p q r s rec = rec

pub hop_once : (n p : ℕ) (ls : List Link) (fs : List Fun) → OnceL ls → OnceF fs → (v : ℕ) (c : Kind) (x y f l t w : ℕ)
    → Mem (fun v c x y f) fs → Mem (link l v t w) ls → hop (net n p ls fs) (key l c x y) v ≡ some (t, f + w)
unfolding hop both
hop_once n p ls fs ol of v c x y f l t w m k = rw (charge_once fs of v c x y f m, across_once ls ol l v t w k)
