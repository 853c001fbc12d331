-- Finishing over the listed exits of a level: the least cost is what is left exactly where the level's test is passed.
-- Assumes nothing.
use Prim.Native.Nat.{ℕ, ◌+◌, ◌-◌, ◌*◌, ◌/◌, ◌%◌, ◌<◌, ◌≤◌}
use mathlib.Core.Path.{◌≡◌, sym}
use mathlib.Core.List.{List}
use mathlib.Core.Option.{Option}
use mathlib.Core.Logic.{inl, inr, ◌↔◌}
use native.Mathlib.Omega.{arith}
use native.Mathlib.Nat.{div-add-mod', mod-lt, div-lt_iff_lt-mul}
use lib.Dec.{T}
use lib.ListN.{get_or}
use Rattle.paper.specs.Net.{Key, place}
use Rattle.laws.specs.Value.{Value, within}
use Rattle.laws.specs.Rest.{AtMost}
use Rattle.laws.specs.Unfold.{Exact, Ok, Marks, Begun, Nest, Frame, hides}
use Rattle.laws.proofs.Fixpoint.{Valid}
use Rattle.laws.proofs.Tight.{ok_rest}
use Rattle.laws.proofs.Nest.{marks, inmost, nest_begun}
use Rattle.unfold_frames.specs.Frames.{words_for, held_at}
use Rattle.tables_costs.specs.Cells.{value_at, table}
use Rattle.tables_costs.specs.Costs.{far}
use Rattle.unfold_exits.specs.Cost.{cost, told_at}
use Rattle.unfold_exits.specs.Lists.{Lists, finishing}
use Rattle.unfold_exits.specs.Exits.{left_at, Leaves}
use Rattle.unfold_exits.specs.declared.lists.Exit.{Exit}
use Rattle.unfold_exits.proofs.Finishing.{finish_low, finish_met}
use Rattle.paper.proofs.Places.{place_lt}
use Rattle.unfold_exits.proofs.Telling.{value_told, told_near}

-- ## Numbers

-- a cost tells its weight and its steps
pub cost_parts : (w n u m : ℕ) → n ≤ 65535 → m ≤ 65535 → cost w n ≡ cost u m → (w ≡ u) × (n ≡ m)
cost_parts w n u m hn hm e = (omega arith, omega arith)

-- what is least costs least
pub at_most_cost : (w n u m : ℕ) → n ≤ 4096 → AtMost w n u m → cost w n ≤ cost u m
at_most_cost w n u m h (inl i) = omega arith
at_most_cost w n u m h (inr i) = omega arith

-- ## The tables

module _ (n p : ℕ) (W C : List ℕ) where
  -- where the entry of (v, x) and (u, y) stands
  abbrev pub at : (v x u y : ℕ) → ℕ
  at v x u y = place p v x * (n * p) + place p u y

  pub within_told : (v x u y : ℕ) {a s : ℕ} → table n p W C v x u y ≡ within a s → s ≤ 4096 → told_at W C (at v x u y) ≡ cost a s
  unfolding table value_at told_at
  within_told v x u y {a} {s} e h = value_told (get_or W (at v x u y) 0) (get_or C (at v x u y) 0) a s e h

  -- a cost told is that of an entry
  pub record Told (v x u y : ℕ) : Type 0 where
    pub a : ℕ
    pub s : ℕ
    pub is : table n p W C v x u y ≡ within a s
    pub short : s ≤ 4096
    pub costs : told_at W C (at v x u y) ≡ cost a s

  pub told_within : (v x u y : ℕ) → told_at W C (at v x u y) < far → Told v x u y
  unfolding table value_at told_at
  told_within v x u y h =
      let r = told_near (get_or W (at v x u y) 0) (get_or C (at v x u y) 0) h in
      record { a = get_or W (at v x u y) 0; s = get_or C (at v x u y) 0; is = r.is; short = r.short; costs = r.costs }

  -- ## A level's exits

  -- the place (u, y) is an exit of the level of f, and c is what is left there
  pub record Part (f : Frame) (u y c : ℕ) : Type 0 where
    pub node : u < n
    pub protocol : y < p
    pub marked : T (f.exits u y)
    pub left : c + told_at W C (at f.node f.protocol u y) ≡ cost f.weighs f.counts

  module _ (L : List ℕ) (o : ℕ) (hp : 0 < p) where
    abbrev words : ℕ
    words = words_for (n * p)

    at_start : place p (held_at p words L o).node (held_at p words L o).protocol ≡ get_or L o 0
    unfolding held_at
    at_start = div-add-mod' (get_or L o 0) p

    pub leaves_part : {e c : ℕ} → Leaves (n * p) W C L o e c → Part (held_at p words L o) (e / p) (e % p) c
    unfolding held_at left_at
    leaves_part {e} {c} l = record {
      node = (div-lt_iff_lt-mul hp).1 l.below;
      protocol = mod-lt e hp;
      marked = rw (div-add-mod' e p) l.marked;
      left = rw (div-add-mod' e p, div-add-mod' (get_or L o 0) p) l.left;
    }

    pub part_leaves : {u y c : ℕ} → Part (held_at p words L o) u y c → Leaves (n * p) W C L o (place p u y) c
    unfolding held_at left_at
    part_leaves {u} {y} {c} l = record { below = place_lt n p u y l.node l.protocol; marked = l.marked; left = rw (div-add-mod' (get_or L o 0) p) at l.left }

  module _ (hop : Key → ℕ → Option (ℕ × ℕ)) where
    abbrev pub t : (v x u y : ℕ) → Value
    t = table n p W C

    -- the test of the level of f is passed at (r, q) with just the cost c left
    pub record Comes (f : Frame) (r q c : ℕ) : Type 0 where
      pub w : ℕ
      pub m : ℕ
      pub ok : Ok hop n p t f r q w m
      pub near : ok.s' ≤ 4096
      pub short : m ≤ 8192
      pub costs : c ≡ cost w m

    pub comes_ok : {f : Frame} {r q u m : ℕ} → m ≤ 4096 → Comes f r q (cost u m) → Ok hop n p t f r q u m
    comes_ok {f} {r} {q} {u} {m} h k =
        let e = cost_parts k.w k.m u m (omega (arith, k.short)) (omega arith) (sym k.costs) in
        rw (e.0, e.1) at k.ok

    module _ (D b : ℕ) {f : Frame} {H : List ℕ} (ms : Marks hop n p t D b f H) (hf : f.counts ≤ 4096) where
      -- what is left at an exit
      record Splits (u y c : ℕ) : Type 0 where
        a : ℕ
        s : ℕ
        is : t f.node f.protocol u y ≡ within a s
        light : a ≤ f.weighs
        short : s ≤ f.counts
        costs : c + cost a s ≡ cost f.weighs f.counts

      splits : {u y c : ℕ} → Part f u y c → Splits u y c
      splits {u} {y} {c} l =
          let g = (ms.says u y l.node l.protocol).0 l.marked in
          let e = within_told f.node f.protocol u y g.is (omega (arith, g.counts)) in
          record { a = g.a; s = g.s; is = g.is; light = omega (arith, g.weighs); short = omega (arith, g.counts); costs = omega (arith, l.left) }

      -- a way to an exit makes the test pass, and the test passes by such a way
      pub part_comes : {u y c : ℕ} (r q : ℕ) → Part f u y c → told_at W C (at r q u y) < far → Comes f r q (told_at W C (at r q u y) + c)
      part_comes {u} {y} {c} r q l h =
          let g = splits l in
          let k = told_within r q u y h in
          record {
            w = k.a + (f.weighs - g.a);
            m = k.s + (f.counts - g.s);
            ok = record {
              u = u;
              y = y;
              a = g.a;
              s = g.s;
              a' = k.a;
              s' = k.s;
              node = l.node;
              protocol = l.protocol;
              marked = l.marked;
              from_start = g.is;
              from_here = k.is;
              weighs = omega (arith, g.light);
              counts = omega (arith, g.short);
            };
            near = k.short;
            short = omega (arith, k.short);
            costs = omega (arith, g.costs, g.light, g.short, k.costs);
          }

      pub record Exits (r q d : ℕ) : Type 0 where
        pub u : ℕ
        pub y : ℕ
        pub c : ℕ
        pub part : Part f u y c
        pub sum : told_at W C (at r q u y) + c ≡ d

      pub ok_exits : {r q w m : ℕ} → m ≤ 4096 → Ok hop n p t f r q w m → Exits r q (cost w m)
      ok_exits {r} {q} {w} {m} h k =
          let g = (ms.says k.u k.y k.node k.protocol).0 k.marked in
          let ea : k.a ≡ g.a = cc (k.from_start, g.is) in
          let es : k.s ≡ g.s = cc (k.from_start, g.is) in
          let e = within_told f.node f.protocol k.u k.y g.is (omega (arith, g.counts)) in
          let e' = within_told r q k.u k.y k.from_here (omega (arith, k.counts, g.counts)) in
          record {
            u = k.u;
            y = k.y;
            c = cost (f.weighs - g.a) (f.counts - g.s);
            part = record { node = k.node; protocol = k.protocol; marked = k.marked; left = omega (arith, e, g.weighs, g.counts) };
            sum = omega (arith, e', k.weighs, k.counts, g.weighs, g.counts);
          }

    module _ (D b : ℕ) (valid : Valid hop n p) (exact : Exact hop n p t) where
      -- where a place is reached with u, m left, no test is passed with less
      pub comes_least : {f : Frame} {fs : List Frame} {r q u m c : ℕ} → Nest hop n p t D b f fs r q u m → Comes f r q c → cost u m ≤ c
      comes_least {u = u} {m = m} {c = c} nest k =
          let here = nest_begun hop n p t D b valid exact nest in
          let g = ok_rest hop n p t valid exact D b (marks hop n p t D b nest) here.node here.protocol k.ok k.near in
          rw k.costs (at_most_cost u m k.w k.m here.short (rw (g.weighs, g.counts) at (here.least.least g.by)))

      -- the listed exits of the level whose record begins at entry o
      module _ (L : List ℕ) (o : ℕ) (hp : 0 < p) {E : List Exit} (l : Lists (Leaves (n * p) W C L o) E) where
        abbrev f : Frame
        f = held_at p (words_for (n * p)) L o

        -- the least cost of finishing from (r, q)
        abbrev finished : (r q : ℕ) → ℕ
        finished r q = finishing W C E (place p r q * (n * p))

        module _ {H : List ℕ} (ms : Marks hop n p t D b f H) (hf : f.counts ≤ 4096) where
          pub level_comes : (r q : ℕ) → finished r q < far → Comes f r q (finished r q)
          level_comes r q h =
              let g = finish_met (Leaves (n * p) W C L o) W C l (place p r q * (n * p)) h in
              let e = div-add-mod' g.e p in
              let s : told_at W C (at r q (g.e / p) (g.e % p)) + g.c ≡ finished r q = rw e g.sum in
              rw (← s) (part_comes D b ms hf r q (leaves_part L o hp g.is) (omega arith))

          pub level_low : (r q : ℕ) {u m : ℕ} → m ≤ 4096 → Ok hop n p t f r q u m → finished r q ≤ cost u m
          level_low r q {u} {m} h k =
              let g = ok_exits D b ms hf h k in
              omega (arith, g.sum, finish_low (Leaves (n * p) W C L o) W C l (place p r q * (n * p)) (part_leaves L o hp g.part))

        -- the test
        pub level_test : {fs : List Frame} {r q u m : ℕ} → Nest hop n p t D b f fs r q u m → (finished r q ≡ cost u m) ↔ Ok hop n p t f r q u m
        level_test {fs} {r} {q} {u} {m} nest = (there, back)
          where
            here : Begun hop n p t D b r q (hides f fs) u m
            here = nest_begun hop n p t D b valid exact nest

            ms : Marks hop n p t D b f (hides f fs)
            ms = marks hop n p t D b nest

            hf : f.counts ≤ 4096
            hf = (inmost hop n p t D b valid exact nest).short

            there : finished r q ≡ cost u m → Ok hop n p t f r q u m
            there e = comes_ok here.short (rw e at (level_comes ms hf r q (omega (arith, here.light, here.short))))

            back : Ok hop n p t f r q u m → finished r q ≡ cost u m
            back k =
                let low = level_low ms hf r q here.short k in
                omega (arith, comes_least nest (level_comes ms hf r q (omega (arith, here.light, here.short))))
