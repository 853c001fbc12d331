-- A node's records are those that a scan of all records finds: proved once, for links and functions. Assumes nothing.
use Prim.Native.Nat.{ℕ, zero, suc, ◌+◌, ◌-◌, ◌<◌, ◌≤◌, max}
use mathlib.Core.Path.{◌≡◌, refl, sym, ◌∙◌}
use mathlib.Core.Bool.{Bool, true, false}
use native.Mathlib.Omega.{arith}
use native.Mathlib.Decide.{dec_lt}
use Rattle.network.specs.Arranged.{Grouped}
use Rattle.network.specs.Next.{Next, Stretch}

-- a walk over the records of node v has come from record i to k: none passed the test, and k is not before v's records
pub record Walked (start : ℕ → ℕ) (test : ℕ → Bool) (i v k : ℕ) : Type 0 where
  pub from_here : i ≤ k
  pub past_start : start v ≤ k
  pub none_before : (j : ℕ) → i ≤ j → j < k → test j ≡ false

module _ {home start : ℕ → ℕ} {n c : ℕ} (o : Grouped home start n c) where
  -- where record i stands
  pub record Seat (i : ℕ) : Type 0 where
    pub at : ℕ
    pub below : at < n
    pub low : start at ≤ i
    pub high : i < start (suc at)

  pub seat : (m i : ℕ) → m ≤ n → i < start m → Seat i
  seat zero i h l = absurd (omega (arith, o.first))
  seat (suc m) i h l = go (dec_lt i (start m)) (λ k. seat m i (omega arith) k)
    where
      go : Dec (i < start m) → (i < start m → Seat i) → Seat i
      go (yes k) rec = rec k
      go (no k) rec = record { at = m; below = omega arith; low = omega arith; high = l }

  starts_rise : (k v : ℕ) → v + k ≤ n → start v ≤ start (v + k)
  starts_rise zero v h = let e : v + 0 ≡ v = omega arith in rw e (omega arith)
  starts_rise (suc k) v h =
      let e : v + suc k ≡ suc (v + k) = omega arith in
      rw e (omega (arith, starts_rise k v (omega arith), o.rising (v + k) (omega arith)))

  pub starts_end : (v : ℕ) → v ≤ n → start v ≤ c
  starts_end v h = go v (starts_rise (n - v) v (omega arith)) (omega arith)
    where
      go : (v : ℕ) → start v ≤ start (v + (n - v)) → v + (n - v) ≡ n → start v ≤ c
      go v l e = omega (arith, rw e at l, o.last)

  -- a record of node v stands where node v's do
  pub seated : (i v : ℕ) → i < c → home i ≡ v → (start v ≤ i) × (i < start (suc v))
  seated i v h e = go (seat n i (omega arith) (omega (arith, o.last)))
    where
      go : Seat i → (start v ≤ i) × (i < start (suc v))
      go s = let f : s.at ≡ v = sym (o.mine s.at i s.below s.low s.high) ∙ e in rw (← f) (s.low, s.high)

  -- v is a node, and `test` passes records of v only
  module _ (test : ℕ → Bool) (i v : ℕ) (of_node : v < n) (own : (k : ℕ) → test k ≡ true → home k ≡ v) where
    -- a record that is not among v's does not pass
    foreign : (j : ℕ) → j < c → ((start v ≤ j) × (j < start (suc v)) → ⊥) → test j ≡ false
    foreign j h x = go (test j) (λ e. x (seated j v h (own j e)))
      where
        go : (b : Bool) → (b ≡ true → ⊥) → b ≡ false
        go true f = absurd (f refl)
        go false f = refl

    pub walk_start : (k : ℕ) → k ≡ max i (start v) → Walked start test i v k
    walk_start k e =
        record {
          from_here = omega arith;
          past_start = omega arith;
          none_before = λ j g l. foreign j (omega (arith, starts_end v (omega arith))) (λ x. omega (arith, x.0));
        }

    pub walk_on : (k : ℕ) → Walked start test i v k → test k ≡ false → Walked start test i v (k + 1)
    walk_on k w f =
        record { from_here = omega (arith, w.from_here); past_start = omega (arith, w.past_start); none_before = λ j g l. go j g l (dec_lt j k) }
      where
        go : (j : ℕ) → i ≤ j → j < k + 1 → Dec (j < k) → test j ≡ false
        go j g l (yes m) = w.none_before j g m
        go j g l (no m) = let q : j ≡ k = omega arith in rw q f

    pub walk_found : (k : ℕ) → Walked start test i v k → k < start (suc v) → test k ≡ true → Next test c i k
    walk_found k w l e =
        record {
          from_here = w.from_here;
          at_most = omega (arith, starts_end (suc v) (omega arith));
          none_before = w.none_before;
          holds = λ h. e;
        }

    pub walk_end : (k : ℕ) → Walked start test i v k → (k < start (suc v) → ⊥) → i ≤ c → Next test c i c
    walk_end k w l h =
        record { from_here = h; at_most = omega arith; none_before = λ j g m. go j g m (dec_lt j k); holds = λ x. absurd (omega arith) }
      where
        go : (j : ℕ) → i ≤ j → j < c → Dec (j < k) → test j ≡ false
        go j g m (yes x) = w.none_before j g x
        go j g m (no x) = foreign j m (λ y. l (omega (arith, y.1)))

    -- v's own record k, from `start v` on
    pub home_is : (k : ℕ) → Walked start test i v k → k < start (suc v) → home k ≡ v
    home_is k w l = o.mine v k of_node w.past_start l

  -- where the test says which records are v's, they stand together: a walk from 0 shows those before them, and one from k shows record k
  module _ (test : ℕ → Bool) (v : ℕ) (of_node : v < n) (own : (k : ℕ) → test k ≡ true → home k ≡ v) (is_own : (k : ℕ) → home k ≡ v → test k ≡ true) where
    from_own : (k : ℕ) → start v ≤ k → Walked start test k v k
    from_own k h = walk_start test k v of_node own k (omega arith)

    pub stretch : (a b : ℕ) → a ≡ start v → b ≡ start (suc v) → Stretch test c a b
    stretch a b ha hb =
        let rises = o.rising v of_node in
        record {
          order = omega arith;
          within = omega (arith, starts_end (suc v) (omega arith));
          inside = λ k h l. is_own k (home_is test k v of_node own k (from_own k (omega arith)) (omega arith));
          before = λ k l. (walk_start test 0 v of_node own a (omega arith)).none_before k (omega arith) l;
          behind = λ k h l. (walk_end test k v of_node own k (from_own k (omega arith)) (λ m. omega arith) (omega arith)).none_before k (omega arith) l;
        }

-- from record i on, the next of those that stand together: itself or their first, where it is one of them, else the end
module _ {test : ℕ → Bool} {n a b : ℕ} (s : Stretch test n a b) (i k : ℕ) (is : k ≡ max i a) where
  pub next_of_stretch : k < b → Next test n i k
  next_of_stretch l =
      record {
        from_here = omega arith;
        at_most = omega (arith, s.within);
        none_before = λ j h m. s.before j (omega arith);
        holds = λ h. s.inside k (omega arith) l;
      }

  pub end_of_stretch : i ≤ n → (k < b → ⊥) → Next test n i n
  end_of_stretch h l =
      record { from_here = h; at_most = omega arith; none_before = λ j g m. go j g m (dec_lt j k); holds = λ x. absurd (omega arith) }
    where
      go : (j : ℕ) → i ≤ j → j < n → Dec (j < k) → test j ≡ false
      go j g m (yes x) = s.before j (omega arith)
      go j g m (no x) = s.behind j (omega arith) m
