-- The links of a node, and its functions: that they stand together, and the walk over either; each cites the one law over both. Assumes nothing.
use Prim.Native.Nat.{ℕ, suc, ◌+◌, ◌<◌, ◌≤◌, max}
use mathlib.Core.Path.{◌≡◌}
use mathlib.Core.Bool.{Bool, true, false, ◌&&◌}
use mathlib.Core.List.{List}
use native.Mathlib.Omega.{arith}
use lib.Dec.{eqb}
use borrow.Author.Tests.{eqb-true, eq-eqb}
use Rattle.laws.proofs.Before.{and_left}
use Rattle.network.specs.Network.{nodes, links, funs, link_start, fun_start, from, node, kind, x_of}
use Rattle.network.specs.Arranged.{Arranged}
use Rattle.network.specs.Next.{leaves, stands, suits, Next, Stretch}
use Rattle.network.proofs.Groups.{Walked, walk_start, walk_on, walk_found, walk_end, home_is, starts_end, stretch}

module _ (g : List ℕ) (v : ℕ) where
  leaves_own : (k : ℕ) → leaves g v k ≡ true → from g k ≡ v
  unfolding leaves
  leaves_own k e = eqb-true (from g k) v e

  leaves_is : (k : ℕ) → from g k ≡ v → leaves g v k ≡ true
  unfolding leaves
  leaves_is k e = eq-eqb (from g k) v e

  stands_own : (k : ℕ) → stands g v k ≡ true → node g k ≡ v
  unfolding stands
  stands_own k e = eqb-true (node g k) v e

  stands_is : (k : ℕ) → node g k ≡ v → stands g v k ≡ true
  unfolding stands
  stands_is k e = eq-eqb (node g k) v e

  -- v's functions end where those of node v + 1 start
  pub fun_end : (t : ℕ) → t ≡ fun_start g (suc v) → t ≡ fun_start g (v + 1)
  fun_end t h = let e : v + 1 ≡ suc v = omega arith in rw e h

  module _ (o : Arranged g) (of_node : v < nodes g) (a b : ℕ) where
    pub links_stretch : a ≡ link_start g v → b ≡ link_start g (suc v) → Stretch (leaves g v) (links g) a b
    links_stretch ha hb = stretch o.by_from (leaves g v) v of_node leaves_own leaves_is a b ha hb

    pub funs_stretch : a ≡ fun_start g v → b ≡ fun_start g (suc v) → Stretch (stands g v) (funs g) a b
    funs_stretch ha hb = stretch o.by_node (stands g v) v of_node stands_own stands_is a b ha hb

  -- of those of the node, one that is of the kind and for the protocol suits, and no other does
  module _ (c x a b : ℕ) (s : Stretch (stands g v) (funs g) a b) where
    foreign : (j : ℕ) → stands g v j ≡ false → suits g v c x j ≡ false
    unfolding stands suits
    foreign j e = rw e

    pub before_own : (j : ℕ) → j < a → suits g v c x j ≡ false
    before_own j h = foreign j (s.before j h)

    pub past_own : (j : ℕ) → b ≤ j → j < funs g → suits g v c x j ≡ false
    past_own j h l = foreign j (s.behind j h l)

    of_its_own : (j : ℕ) (t : Bool) → stands g v j ≡ true → t ≡ (eqb (kind g j) c && eqb (x_of g j) x) → suits g v c x j ≡ t
    unfolding stands suits
    of_its_own j t e f = rw (e, f)

    pub own_is : (j : ℕ) (t : Bool) → a ≤ j → j < b → t ≡ (eqb (kind g j) c && eqb (x_of g j) x) → suits g v c x j ≡ t
    own_is j t h l e = of_its_own j t (s.inside j h l) e

module _ (g : List ℕ) (o : Arranged g) (i v : ℕ) (of_node : v < nodes g) where
  module _ (s t k : ℕ) (hs : s ≡ link_start g v) (ht : t ≡ link_start g (v + 1)) (hk : k ≡ max i s) where
    begun : Walked (link_start g) (leaves g v) i v k
    begun = walk_start o.by_from (leaves g v) i v of_node (leaves_own g v) k (rw (← hs) hk)

    end_is : t ≡ link_start g (suc v)
    end_is = let e : v + 1 ≡ suc v = omega arith in rw e at ht

    pub link_found : k < t → Next (leaves g v) (links g) i k
    link_found l =
        let m : k < link_start g (suc v) = rw (end_is) at l in
        walk_found o.by_from (leaves g v) i v of_node (leaves_own g v) k begun m (leaves_is g v k (home_is o.by_from (leaves g v) i v of_node (leaves_own g v) k begun m))

    pub link_none : i ≤ links g → (k < t → ⊥) → Next (leaves g v) (links g) i (links g)
    link_none h l = walk_end o.by_from (leaves g v) i v of_node (leaves_own g v) k begun (rw (end_is) at l) h

  module _ (c x : ℕ) where
    suits_own : (j : ℕ) → suits g v c x j ≡ true → node g j ≡ v
    unfolding suits
    suits_own j e = eqb-true (node g j) v (and_left (eqb (node g j) v) (eqb (kind g j) c && eqb (x_of g j) x) e)

    suits_is : (j : ℕ) (b : Bool) → node g j ≡ v → b ≡ (eqb (kind g j) c && eqb (x_of g j) x) → suits g v c x j ≡ b
    unfolding suits
    suits_is j b e f = rw (eq-eqb (node g j) v e, f)

    pub fun_start_lem : (s k : ℕ) → s ≡ fun_start g v → k ≡ max i s → Walked (fun_start g) (suits g v c x) i v k
    fun_start_lem s k hs hk = walk_start o.by_node (suits g v c x) i v of_node suits_own k (rw (← hs) hk)

    module _ (t k : ℕ) (ht : t ≡ fun_start g (v + 1)) (w : Walked (fun_start g) (suits g v c x) i v k) where
      fun_end_is : t ≡ fun_start g (suc v)
      fun_end_is = let e : v + 1 ≡ suc v = omega arith in rw e at ht

      pub fun_below : k < t → k < funs g
      fun_below l = let m : k < fun_start g (suc v) = rw (fun_end_is) at l in omega (arith, starts_end o.by_node (suc v) (omega arith))

      suited : (b : Bool) → k < t → b ≡ (eqb (kind g k) c && eqb (x_of g k) x) → suits g v c x k ≡ b
      suited b l e = suits_is k b (home_is o.by_node (suits g v c x) i v of_node suits_own k w (rw (fun_end_is) at l)) e

      pub fun_found : (b : Bool) → k < t → b ≡ (eqb (kind g k) c && eqb (x_of g k) x) → b ≡ true → Next (suits g v c x) (funs g) i k
      fun_found b l e h = walk_found o.by_node (suits g v c x) i v of_node suits_own k w (rw (fun_end_is) at l) (suited true l (rw (← h) e))

      pub fun_on : (b : Bool) → k < t → b ≡ (eqb (kind g k) c && eqb (x_of g k) x) → b ≡ false → Walked (fun_start g) (suits g v c x) i v (k + 1)
      fun_on b l e h = walk_on o.by_node (suits g v c x) i v of_node suits_own k w (suited false l (rw (← h) e))

      pub fun_none : i ≤ funs g → (k < t → ⊥) → Next (suits g v c x) (funs g) i (funs g)
      fun_none h l = walk_end o.by_node (suits g v c x) i v of_node suits_own k w (rw (fun_end_is) at l) h
