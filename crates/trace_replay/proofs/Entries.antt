-- The step room with a route laid into it holds that route (`keys_laid`). Assumes nothing.
use Prim.Native.Nat.{ℕ, suc, ◌+◌, ◌*◌, ◌-◌, ◌<◌, ◌≤◌}
use mathlib.Core.Path.{◌≡◌, refl}
use mathlib.Core.List.{List, [], ◌∷◌}
use native.Mathlib.Nat.{add-zero}
use native.Mathlib.Numerals.{add-one}
use native.Mathlib.Omega.{arith}
use lib.ListN.{length, get_or}
use Rattle.paper.specs.Net.{Kind, conv, wrap, unwrap, code, Key, key}
use Rattle.paper.specs.Route.{flat}
use Rattle.paper.specs.Rooms.{laid}
use Rattle.laws.proofs.Laid.{laid_there}
use Rattle.network_records.specs.Columns.{kind_of_code, rows}
use Rattle.network_records.proofs.Rows.{length_rows}
use Rattle.trace_replay.specs.Keys.{key_of, key_at, keys_at}

pub kind_back : (c : Kind) → kind_of_code (code c) ≡ c
unfolding kind_of_code
kind_back conv = refl
kind_back wrap = refl
kind_back unwrap = refl

length_flat : (ks : List Key) → length (flat ks) ≡ 4 * length ks
unfolding flat
length_flat [] = refl
length_flat (key l c x y ∷ ks) = omega (arith, length_flat ks)

-- the room's entries from step i on are those of ks
keys_read : (q : List ℕ) (ks : List Key) (i : ℕ) → ((j : ℕ) → j < length (flat ks) → get_or q (i * 4 + j) 0 ≡ get_or (flat ks) j 0) → rows (key_at q) i (length ks) ≡ ks
unfolding rows flat key_at key_of
keys_read q [] i h = refl
keys_read q (key l c x y ∷ ks) i h =
    let e : get_or q (i * 4) 0 ≡ l = rw (add-zero (i * 4)) at (h 0 (omega arith)) in
    let r : rows (key_at q) (suc i) (length ks) ≡ ks = keys_read q ks (suc i) (λ j g. let p : suc i * 4 + j ≡ i * 4 + suc (suc (suc (suc j))) = omega arith in rw p (h (suc (suc (suc (suc j)))) (omega arith))) in
    rw (e, h 1 (omega arith), h 2 (omega arith), h 3 (omega arith), kind_back c, r)

pub keys_laid : (q : List ℕ) (ks : List Key) → 4 * length ks ≤ length q → keys_at (laid q 0 (flat ks)) (length ks) ≡ ks
unfolding keys_at
keys_laid q ks h = keys_read (laid q 0 (flat ks)) ks 0 (λ j g. laid_there q 0 (flat ks) j g (omega (arith, length_flat ks)))

pub length_keys : (q : List ℕ) (k : ℕ) → length (keys_at q k) ≡ k
unfolding keys_at
length_keys q k = length_rows (key_at q) 0 k

-- ## Step by step

-- the steps from i on, of k in all
abbrev pub keys_left : List ℕ → ℕ → ℕ → List Key
keys_left q k i = rows (key_at q) i (k - i)

pub keys_all : (q : List ℕ) (k : ℕ) → keys_at q k ≡ keys_left q k 0
unfolding keys_at
keys_all q k = let e : k - 0 ≡ k = omega arith in rw e

pub keys_next : (q : List ℕ) (k i : ℕ) → i < k → keys_left q k i ≡ key_at q i ∷ keys_left q k (i + 1)
unfolding rows
keys_next q k i h = let e : k - i ≡ suc (k - (i + 1)) = omega arith in rw (e, add-one i)

pub keys_none : (q : List ℕ) (k i : ℕ) → k ≤ i → keys_left q k i ≡ []
unfolding rows
keys_none q k i h = let e : k - i ≡ 0 = omega arith in rw e
