-- The listed exits of a tunnel that may be opened: finishing over them costs what is left exactly where the tunnel has an exit, and those at which it does are its exits.
-- Assumes nothing.
use Prim.Native.Nat.{ℕ, suc, ◌+◌, ◌*◌, ◌/◌, ◌%◌, ◌<◌, ◌≤◌}
use mathlib.Core.Path.{◌≡◌, refl, ap, ◌∙◌}
use mathlib.Core.List.{List, ◌∷◌}
use mathlib.Core.Option.{Option, some}
use mathlib.Core.Logic.{◌↔◌}
use native.Mathlib.Omega.{arith}
use native.Mathlib.Nat.{add-zero, div-add-mod', mod-lt, mod-eq_of_lt, div-eq_of_lt, div-lt_iff_lt-mul, mul-add-div_right, mul-add-mod_self_right}
use lib.ListN.{length, length-append}
use Rattle.paper.specs.Net.{wrap, unwrap, Key, key, place}
use Rattle.laws.specs.Level.{keys}
use Rattle.laws.specs.Value.{Value}
use Rattle.laws.specs.Rest.{trail, rest, path, price}
use Rattle.laws.specs.Unfold.{Exact, Ok, Opens, Opened, Marks, Begun, Nest, Frame, hides}
use Rattle.laws.proofs.Fixpoint.{Valid}
use Rattle.laws.proofs.Tight.{ok_rest, goes_exit, table_level}
use Rattle.laws.proofs.Nest.{marks, inmost, nest_begun, begun_wrap}
use Rattle.network_records.specs.Columns.{kind_of_code}
use Rattle.network.specs.Network.{nodes, protocols, funs, number, to, toll, node, y_of, fee, hop_in}
use Rattle.network.specs.Arranged.{Arranged}
use Rattle.network.proofs.Steps.{step_at, found, kind_is, steps_inside}
use Rattle.unfold_frames.specs.Frames.{words_for, held_at}
use Rattle.tables_costs.specs.Costs.{far}
use Rattle.unfold_exits.specs.Cost.{cost, told_at}
use Rattle.unfold_exits.specs.Lists.{exit_of, cost_of, Lists, Some, Gathered, finishing}
use Rattle.unfold_exits.specs.Exits.{Leaves, lands, Unwraps}
use Rattle.unfold_exits.specs.declared.lists.Exit.{Exit}
use Rattle.unfold_exits.proofs.Finishing.{finish_low, finish_met}
use Rattle.unfold_exits.proofs.Landings.{lands_low, lands_met}
use Rattle.paper.proofs.Places.{place_lt}
use Rattle.unfold_picks.specs.Opening.{MeetsOne}
use Rattle.unfold_picks.proofs.Finish.{at_most_cost, cost_parts, at, within_told, told_within, t, Comes, level_comes, level_low}

-- a place's number tells its node and its protocol
pub place_parts : (p i j : ℕ) → j < p → (place p i j / p ≡ i) × (place p i j % p ≡ j)
place_parts p i j h =
    let hp : 0 < p = omega arith in
    ((mul-add-div_right hp i j) ∙ (rw (div-eq_of_lt h) (add-zero i)), mul-add-mod_self_right i p j ∙ mod-eq_of_lt h)

module _ (g : List ℕ) (arranged : Arranged g) (W C : List ℕ) where
  abbrev n : ℕ
  n = nodes g

  abbrev p : ℕ
  p = protocols g

  abbrev hop : Key → ℕ → Option (ℕ × ℕ)
  hop = hop_in g

  inside : Valid hop n p
  inside = steps_inside g arranged

  abbrev T' : (v x u y : ℕ) → Value
  T' = t n p W C hop

  -- from (u, y) an unwrap lays x bare, and the level of f is then finished: k in all
  pub record Outs (f : Frame) (x u y k : ℕ) : Type 0 where
    pub m : ℕ
    pub to_node : ℕ
    pub weighs : ℕ
    pub rest_cost : ℕ
    pub closes : hop (key m unwrap x y) u ≡ some (to_node, weighs)
    pub comes : Comes n p W C hop f to_node x rest_cost
    pub costs : k ≡ cost weighs 1 + rest_cost

  module _ (D b : ℕ) (exact : Exact hop n p T') (L : List ℕ) (o : ℕ) {E : List Exit} (l : Lists (Leaves (n * p) W C L o) E) where
    abbrev f : Frame
    f = held_at p (words_for (n * p)) L o

    -- ## What a function that unwraps brings

    module _ (x : ℕ) {H : List ℕ} (ms : Marks hop n p T' D b f H) (hf : f.counts ≤ 4096) where
      abbrev On : (j e k : ℕ) → Type 0
      On = Unwraps g W C E x

      pub unwraps_outs : {j e k : ℕ} → j < funs g → On j e k → Outs f x (node g j) (y_of g j) k
      unfolding kind_of_code
      unwraps_outs {j} {e} {k} hj s =
          let land = lands_met g W C E x (node g j) (omega (arith, s.cost_is, s.near)) in
          record {
            m = number g land.i;
            to_node = to g land.i;
            weighs = fee g j + toll g land.i;
            rest_cost = finishing W C E (place p (to g land.i) x * (n * p));
            closes = step_at g arranged j land.i (node g j) 2 x hj land.below land.leaves refl s.unwraps s.hides;
            comes = level_comes n p W C hop D b inside exact L o arranged.valid.some_protocol l ms hf (to g land.i) x (omega (arith, s.cost_is, s.near, land.is));
            costs = omega (arith, s.cost_is, land.is);
          }

      -- an unwrap and a way on cost no less than what its function brings
      pub record Brings (u y k : ℕ) : Type 0 where
        pub j : ℕ
        pub its_cost : ℕ
        pub below : j < funs g
        pub by : On j (place p u y) its_cost
        pub most : its_cost ≤ k

      pub outs_brought : (m u y r w : ℕ) {v n' : ℕ} → hop (key m unwrap x y) u ≡ some (r, w) → Ok hop n p T' f r x v n' → n' ≤ 4096 → v ≤ 4000000000 → Brings u y (cost w 1 + cost v n')
      outs_brought m u y r w {v} {n'} h ok hn hv =
          let step = found g arranged m unwrap x y u r w h in
          let low = lands_low g W C E x u step.i step.of_link step.at_from in
          let fin = level_low n p W C hop D b inside exact L o arranged.valid.some_protocol l ms hf r x hn ok in
          let e = ap (λ (q : ℕ). finishing W C E (place p q x * (n * p))) step.has_to in
          let z = ap (λ (q : ℕ). lands g W C E x q) step.at_node in
          let most = arranged.valid.fun_weight step.j step.of_fun in
          let more = arranged.valid.link_weight step.i step.of_link in
          record {
            j = step.j;
            its_cost = cost (fee g step.j) 0 + lands g W C E x (node g step.j);
            below = step.of_fun;
            by = record {
              unwraps = kind_is g arranged unwrap step.j step.of_fun step.has_kind;
              hides = step.has_x;
              place_is = rw (step.at_node, step.has_y);
              cost_is = refl;
              near = omega (arith, step.has_weight);
            };
            most = omega (arith, step.has_weight);
          }

    -- ## A tunnel that may be opened, by a wrap that leads to (r, z) with u, m left

    module _ {gs : List Frame} {v x w k : ℕ} (r z u m lw cw : ℕ) (nest : Nest hop n p T' D b f gs v x w k) (wraps : hop (key lw wrap x z) v ≡ some (r, cw)) (pw : w ≡ cw + u) (pk : k ≡ suc m) where
      ms : Marks hop n p T' D b f (hides f gs)
      ms = marks hop n p T' D b nest

      hf : f.counts ≤ 4096
      hf = (inmost hop n p T' D b inside exact nest).short

      hx : x < p
      hx = (nest_begun hop n p T' D b inside exact nest).protocol

      start : Begun hop n p T' D b r z (x ∷ hides f gs) u m
      start = begun_wrap hop n p T' D b inside exact lw cw (nest_begun hop n p T' D b inside exact nest) wraps pw pk

      -- what is left is the least
      outs_least : {i j q : ℕ} → i < n → j < p → Outs f x i j q → told_at W C (at n p W C r z i j) < far → cost u m ≤ told_at W C (at n p W C r z i j) + q
      unfolding path price
      outs_least {i} {j} {q} hi hj s near =
          let k = told_within n p W C r z i j near in
          let there = inside.inside s.m unwrap x j i s.to_node s.weighs s.closes in
          let onward = ok_rest hop n p T' inside exact D b ms there.0 hx s.comes.ok s.comes.near in
          let out = goes_exit hop D b s.closes onward in
          let way = table_level hop n p T' inside exact D b start.node start.protocol hi hj k.is k.short in
          let low = start.least.least (rest way.0 out.0) in
          let all = at_most_cost u m _ _ start.short low in
          omega (arith, all, way.1, way.2, out.1, out.2, k.costs, s.costs, s.comes.costs, length-append (keys hop way.0) (trail hop D b out.0))

      -- where it is met, there is an exit
      outs_opens : {i j q : ℕ} → Outs f x i j q → told_at W C (at n p W C r z i j) + q ≡ cost u m → Opens hop n p T' f x r z u m i j
      outs_opens {i} {j} {q} s e =
          let k = told_within n p W C r z i j (omega (arith, start.light, start.short)) in
          let parts = cost_parts (k.a + (s.weighs + s.comes.w)) (k.s + suc s.comes.m) u m (omega (arith, k.short, s.comes.short)) (omega (arith, start.short)) (omega (arith, k.costs, s.costs, s.comes.costs)) in
          record {
            m = s.m;
            to = s.to_node;
            c = s.weighs;
            a = k.a;
            s = k.s;
            w' = s.comes.w;
            n' = s.comes.m;
            closes = s.closes;
            through = k.is;
            weighs = parts.0;
            counts = parts.1;
            ok = s.comes.ok;
          }

      module _ {O : List Exit} (all : Gathered (Unwraps g W C E x) (funs g) O) where
        abbrev Q : (e k : ℕ) → Type 0
        Q = Some (Unwraps g W C E x) (funs g)

        some_outs : {e k : ℕ} → Q e k → Outs f x (e / p) (e % p) k
        some_outs {e} {k} s =
            let hy = arranged.valid.fun_y s.at s.below in
            let parts = place_parts p (node g s.at) (y_of g s.at) hy in
            rw (s.is.place_is, parts.0, parts.1) (unwraps_outs x ms hf s.below s.is)

        some_below : {e k : ℕ} → Q e k → e < n * p
        some_below s = rw s.is.place_is (place_lt n p (node g s.at) (y_of g s.at) (arranged.valid.fun_node s.at s.below) (arranged.valid.fun_y s.at s.below))

        sum_is : (e k s : ℕ) → told_at W C (place p r z * (n * p) + e) + k ≡ s → told_at W C (at n p W C r z (e / p) (e % p)) + k ≡ s
        sum_is e k s q = rw (div-add-mod' e p) q

        -- the exits of the list over which what is left is met are the tunnel's
        abbrev Met : (e : ℕ) → Type 0
        Met = MeetsOne W C O (place p r z * (n * p)) (cost u m) (length O)

        pub listed_opens : (i j : ℕ) → j < p → Met (place p i j) → Opens hop n p T' f x r z u m i j
        listed_opens i j hj y =
            let parts = place_parts p i j hj in
            rw (y.is.is, parts.0, parts.1) at (outs_opens (some_outs (all.lists.each y.at y.below)) (sum_is (exit_of O y.at) (cost_of O y.at) (cost u m) y.is.met))

        pub opens_listed : (i j : ℕ) → i < n → j < p → Opens hop n p T' f x r z u m i j → Met (place p i j)
        opens_listed i j hi hj s =
            let b = outs_brought x ms hf s.m i j s.to s.c s.closes s.ok (omega (arith, s.counts, start.short)) (omega (arith, s.weighs, start.light)) in
            let h = all.lists.all (place p i j) b.its_cost (record { at = b.j; below = b.below; is = b.by }) in
            let e = within_told n p W C r z i j s.through (omega (arith, s.counts, start.short)) in
            let q = ap (λ (a : ℕ). told_at W C (place p r z * (n * p) + a)) h.is in
            let o = some_outs (all.lists.each h.at h.below) in
            let parts = place_parts p i j hj in
            let least = outs_least hi hj (rw (h.is, parts.0, parts.1) at o) (omega (arith, e, s.weighs, start.light, s.counts, start.short)) in
            record { at = h.at; below = h.below; is = record { is = h.is; met = omega (arith, q, e, h.most, b.most, s.weighs, s.counts, least) } }

        -- the test
        pub tunnel_test : (finishing W C O (place p r z * (n * p)) ≡ cost u m) ↔ Opened hop n p T' f x r z u m
        tunnel_test = (there, back)
          where
            there : finishing W C O (place p r z * (n * p)) ≡ cost u m → Opened hop n p T' f x r z u m
            there e =
                let h = finish_met Q W C all.lists (place p r z * (n * p)) (omega (arith, start.light, start.short)) in
                record {
                  u = h.e / p;
                  y = h.e % p;
                  node = (div-lt_iff_lt-mul arranged.valid.some_protocol).1 (some_below h.is);
                  protocol = mod-lt h.e arranged.valid.some_protocol;
                  opens = outs_opens (some_outs h.is) (sum_is h.e h.c (cost u m) (h.sum ∙ e));
                }

            back : Opened hop n p T' f x r z u m → finishing W C O (place p r z * (n * p)) ≡ cost u m
            back q =
                let s = opens_listed q.u q.y q.node q.protocol q.opens in
                let low = finish_low Q W C all.lists (place p r z * (n * p)) (all.lists.each s.at s.below) in
                let h = finish_met Q W C all.lists (place p r z * (n * p)) (omega (arith, s.is.met, start.light, start.short)) in
                let sum = sum_is h.e h.c (finishing W C O (place p r z * (n * p))) h.sum in
                let high = outs_least ((div-lt_iff_lt-mul arranged.valid.some_protocol).1 (some_below h.is)) (mod-lt h.e arranged.valid.some_protocol) (some_outs h.is) (omega (arith, sum, low, s.is.met, start.light, start.short)) in
                omega (arith, low, s.is.met, high, sum)
