-- The places that one step or one tunnel leads to from a place: the costs are the worth of levels, and at most that of every step and tunnel.
-- Main results: `reach_local`, `reach_conv`, `reach_tunnel`. Assumes nothing.
use Prim.Native.Nat.{ℕ, ◌+◌, ◌*◌, ◌/◌, ◌%◌, ◌<◌, ◌≤◌}
use mathlib.Core.Path.{◌≡◌, refl, sym, ap, ◌∙◌}
use mathlib.Core.Bool.{Bool, true, false, cond, ◌&&◌}
use mathlib.Core.List.{List}
use mathlib.Core.Option.{Option}
use native.Mathlib.Omega.{arith}
use native.Mathlib.Nat.{le_refl, div-add-mod', div-lt_iff_lt-mul, mod-lt}
use borrow.Author.Tests.{leb-true}
use lib.Dec.{eqb, leb}
use lib.ListN.{get_or}
use Rattle.paper.specs.Net.{Key}
use Rattle.paper.proofs.Places.{place_lt}
use Rattle.laws.specs.Value.{Value, cap, Le, plus}
use Rattle.laws.proofs.Cap.{cap_plus, plus_comm}
use Rattle.laws.proofs.Depth.{digits}
use Rattle.network_records.specs.Columns.{kind_of_code}
use Rattle.network.specs.Network.{nodes, protocols, links, funs, places, number, from, to, toll, node, kind, x_of, y_of, fee, hop_in, place_in}
use Rattle.network.specs.Arranged.{Arranged}
use Rattle.network.specs.Next.{leaves, suits}
use Rattle.network.proofs.Steps.{step_at}
use Rattle.tables_costs.specs.Costs.{far, worth, cost_at, lower_to, blank}
use Rattle.tables_costs.specs.Cells.{value_at}
use Rattle.tables_costs.specs.Loop.{upto}
use Rattle.tables_costs.proofs.Values.{plus_assoc}
use Rattle.tables_costs.proofs.Worth.{Sized, sized_more, sized_plus, sized_one, worth_one, worth_plus, worth_le, Costs}
use Rattle.tables_sweeps.specs.Row.{idle, goings, step_cost, crossing, serving, steps, closing, closings, landing, landings, inside, tunnels, reach}
use Rattle.tables_costs.proofs.Corners.{begin_le}
use Rattle.tables_sweeps.proofs.Tests.{leaves_true, leaves_yes, suits_true, suits_yes, unwraps_true, unwraps_yes}
use Rattle.tables_sweeps.proofs.Falls.{Local, Fall, fall_none, lower_fall, lower_hit, upto_fall, upto_low, blank_local}
use Rattle.tables_sweeps.proofs.Spread as spread
use Rattle.tables_sweeps.proofs.Reach as levels

module _ (g : List ℕ) (known : Arranged g) where
  abbrev h : Key → ℕ → Option (ℕ × ℕ)
  h = hop_in g

  -- ## What stands where

  -- at the pair with number i
  pub record PairIs (i : ℕ) (e : Value) : Type 0 where
    pub at : (v x u y : ℕ) → v < nodes g → x < protocols g → u < nodes g → y < protocols g → i ≡ place_in g v x * places g + place_in g u y → levels.Reached h v x u y e

  -- in the row of (v, x), at the place with number q
  pub record RowIs (v x q : ℕ) (e : Value) : Type 0 where
    pub at : (u y : ℕ) → u < nodes g → y < protocols g → q ≡ place_in g u y → levels.Reached h v x u y e

  -- inside a tunnel from (v, x), at the place with number q
  record ExitIs (v x q : ℕ) (e : Value) : Type 0 where
    at : (u y : ℕ) → u < nodes g → y < protocols g → q ≡ place_in g u y → levels.Opened h v x u y e

  -- at the node r where a tunnel from (v, x) is unwrapped, with the link yet to be crossed
  record EndIs (v x r : ℕ) (e : Value) : Type 0 where
    at : (i : ℕ) → i < links g → from g i ≡ r → levels.Reached h v x (to g i) x (plus e (cap (toll g i) 0))

  -- a fact of one place is one of every place with its number
  numbered : (F : ℕ → ℕ → Type 0) (t z u y : ℕ) → z < protocols g → y < protocols g → place_in g t z ≡ place_in g u y → F t z → F u y
  numbered F t z u y hz hy e f = let d = digits (protocols g) t z u y hz hy e in rw (d.0, d.1) at f

  -- every number below that of the places is that of a place
  pub record Numbers (r : ℕ) : Type 0 where
    pub node_of : ℕ
    pub protocol_of : ℕ
    pub in_nodes : node_of < nodes g
    pub in_protocols : protocol_of < protocols g
    pub is : r ≡ place_in g node_of protocol_of

  -- ## Steps

  module _ (j i : ℕ) (hj : j < funs g) (hi : i < links g) where
    light : fee g j + toll g i ≤ 4294967296
    light = omega (arith, known.valid.fun_weight j hj, known.valid.link_weight i hi)

    step_sized : Sized 1 (step_cost g j i)
    step_sized = sized_one (fee g j + toll g i) 1 light (omega arith)

    pub step_worth : worth (step_cost g j i) ≡ cap (fee g j + toll g i) 1
    step_worth = worth_one (fee g j + toll g i) 1 light (omega arith)

    step_place : place_in g (to g i) (y_of g j) < places g
    step_place = place_lt _ _ (to g i) (y_of g j) (known.valid.link_to i hi) (known.valid.fun_y j hj)

  module _ (v x : ℕ) where
    conv_is : (j i : ℕ) → j < funs g → i < links g → suits g v 0 x j ≡ true → leaves g v i ≡ true → RowIs v x (place_in g (to g i) (y_of g j)) (worth (step_cost g j i))
    unfolding kind_of_code
    conv_is j i hj hi s l =
        let a = suits_true g v 0 x j s in
        let k = step_at g known j i v 0 x hj hi (leaves_true g v i l ∙ sym a.0) a.0 a.1 a.2 in
        record {
          at = λ u y hu hy e. numbered (λ t z. levels.Reached h v x t z (worth (step_cost g j i))) (to g i) (y_of g j) u y (known.valid.fun_y j hj) hy e
              (rw (step_worth j i hj hi) (levels.reached_conv h v x (number g i) (y_of g j) (to g i) (fee g j + toll g i) k));
        }

    wrap_is : (j i : ℕ) → j < funs g → i < links g → suits g v 1 x j ≡ true → leaves g v i ≡ true → ExitIs v x (place_in g (to g i) (y_of g j)) (worth (step_cost g j i))
    unfolding kind_of_code
    wrap_is j i hj hi s l =
        let a = suits_true g v 1 x j s in
        let k = step_at g known j i v 1 x hj hi (leaves_true g v i l ∙ sym a.0) a.0 a.1 a.2 in
        record {
          at = λ u y hu hy e. numbered (λ t z. levels.Opened h v x t z (worth (step_cost g j i))) (to g i) (y_of g j) u y (known.valid.fun_y j hj) hy e
              (rw (step_worth j i hj hi) (levels.opened_wrap h v x (number g i) (y_of g j) (to g i) (fee g j + toll g i) k));
        }

    -- the steps of kind k, whose worth is as A says
    module _ (m : ℕ) (some : 1 ≤ m) (A : ℕ → Value → Type 0) (k : ℕ)
        (a : (j i : ℕ) → j < funs g → i < links g → suits g v k x j ≡ true → leaves g v i ≡ true → A (place_in g (to g i) (y_of g j)) (worth (step_cost g j i))) where
      crossing_fall : (j : ℕ) → j < funs g → suits g v k x j ≡ true → (i : ℕ) → i < links g → (l : List ℕ) → Local (places g) m A l → Fall (places g) m A l (crossing g v j i l)
      unfolding crossing
      crossing_fall j hj s i hi l o = go (leaves g v i) refl
        where
          go : (b : Bool) → leaves g v i ≡ b → Fall (places g) m A l (cond b (lower_to (place_in g (to g i) (y_of g j)) (step_cost g j i) l) l)
          go true e = lower_fall (places g) m A _ _ (step_place j i hj hi) (sized_more 1 m _ some (step_sized j i hj hi)) (a j i hj hi s e) l o
          go false e = fall_none (places g) m A l o

      serving_fall : (j : ℕ) → j < funs g → (l : List ℕ) → Local (places g) m A l → Fall (places g) m A l (serving g v k x j l)
      unfolding serving
      serving_fall j hj l o = go (suits g v k x j) refl
        where
          go : (b : Bool) → suits g v k x j ≡ b → Fall (places g) m A l (cond b (upto (crossing g v j) (links g) l) l)
          go true e = upto_fall (places g) m A _ (links g) (crossing_fall j hj e) l o
          go false e = fall_none (places g) m A l o

      steps_fall : (l : List ℕ) → Local (places g) m A l → Fall (places g) m A l (steps g v k x l)
      unfolding steps
      steps_fall = upto_fall (places g) m A _ (funs g) serving_fall

      steps_low : (j i : ℕ) → j < funs g → i < links g → suits g v k x j ≡ true → leaves g v i ≡ true → (l : List ℕ) → Local (places g) m A l
          → get_or (steps g v k x l) (place_in g (to g i) (y_of g j)) 0 ≤ step_cost g j i
      unfolding steps serving crossing
      steps_low j i hj hi s e =
          upto_low (places g) m A _ (funs g) serving_fall j _ _ hj (step_place j i hj hi)
          (λ l o. rw s (upto_low (places g) m A _ (links g) (crossing_fall j hj s) i _ _ hi (step_place j i hj hi)
          (λ t q. rw e (lower_hit (places g) m A _ _ (step_place j i hj hi) (sized_more 1 m _ some (step_sized j i hj hi)) (a j i hj hi s e) t q)) l o))

    -- ## Out of tunnels

    -- the unwrap of function j after an exit's cost, and a link after that
    module _ (exits : List ℕ) (ex : Local (places g) 2 (ExitIs v x) exits) where
      abbrev exit : ℕ → ℕ
      exit j = get_or exits (place_in g (node g j) (y_of g j)) 0

      abbrev end : ℕ → ℕ
      end j = exit j + (fee g j * 65536 + 1)

      exit_place : (j : ℕ) → j < funs g → place_in g (node g j) (y_of g j) < places g
      exit_place j hj = place_lt _ _ (node g j) (y_of g j) (known.valid.fun_node j hj) (known.valid.fun_y j hj)

      fee_light : (j : ℕ) → j < funs g → fee g j ≤ 4294967296
      fee_light j hj = omega (arith, known.valid.fun_weight j hj)

      end_sized : (j : ℕ) → j < funs g → Sized 3 (end j)
      end_sized j hj = sized_plus 2 1 _ _ (omega arith) (ex.sized _ (exit_place j hj)) (sized_one (fee g j) 1 (fee_light j hj) (omega arith))

      end_worth : (j : ℕ) → j < funs g → worth (end j) ≡ plus (worth (exit j)) (cap (fee g j) 1)
      end_worth j hj =
          worth_plus 2 1 _ _ (omega arith) (ex.sized _ (exit_place j hj)) (sized_one (fee g j) 1 (fee_light j hj) (omega arith))
          ∙ (rw (worth_one (fee g j) 1 (fee_light j hj) (omega arith)))

      -- the parts of one step, in the order of the tunnel's sum
      one_step : (e : Value) (a b : ℕ) → plus (plus e (cap a 1)) (cap b 0) ≡ plus (cap (a + b) 1) e
      one_step e a b = plus_assoc e (cap a 1) (cap b 0) ∙ (rw (cap_plus a 1 b 0) (plus_comm e (cap (a + b) 1)))

      end_is : (j : ℕ) → j < funs g → (eqb (kind g j) 2 && eqb (x_of g j) x) ≡ true
          → EndIs v x (node g j) (worth (end j))
      unfolding kind_of_code
      end_is j hj t =
          let e = unwraps_true g x j t in
          let hn = known.valid.fun_node j hj in
          let hy = known.valid.fun_y j hj in
          record {
            at = λ i hi f. rw (end_worth j hj, one_step (worth (exit j)) (fee g j) (toll g i))
                (levels.landed h v x (node g j) (y_of g j) (number g i) (to g i) (fee g j + toll g i) _
                (step_at g known j i (node g j) 2 x hj hi f refl e.0 e.1)
                ((ex.is _ (exit_place j hj)).at (node g j) (y_of g j) hn hy refl));
          }

      closing_fall : (j : ℕ) → j < funs g → (l : List ℕ) → Local (nodes g) 3 (EndIs v x) l → Fall (nodes g) 3 (EndIs v x) l (closing g x exits j l)
      unfolding closing
      closing_fall j hj l o = go (eqb (kind g j) 2 && eqb (x_of g j) x) refl (leb far (exit j))
        where
          go : (b : Bool) → (eqb (kind g j) 2 && eqb (x_of g j) x) ≡ b → (c : Bool)
              → Fall (nodes g) 3 (EndIs v x) l (cond b (cond c l (lower_to (node g j) (end j) l)) l)
          go false e c = fall_none (nodes g) 3 (EndIs v x) l o
          go true e true = fall_none (nodes g) 3 (EndIs v x) l o
          go true e false = lower_fall (nodes g) 3 (EndIs v x) _ _ (known.valid.fun_node j hj) (end_sized j hj) (end_is j hj e) l o

      closings_fall : (l : List ℕ) → Local (nodes g) 3 (EndIs v x) l → Fall (nodes g) 3 (EndIs v x) l (closings g x exits l)
      unfolding closings
      closings_fall = upto_fall (nodes g) 3 (EndIs v x) _ (funs g) closing_fall

      closings_low : (j : ℕ) → j < funs g → kind g j ≡ 2 → x_of g j ≡ x → (l : List ℕ) → Local (nodes g) 3 (EndIs v x) l
          → get_or (closings g x exits l) (node g j) 0 ≤ end j
      unfolding closings closing
      closings_low j hj d e =
          upto_low (nodes g) 3 (EndIs v x) _ (funs g) closing_fall j _ _ hj (known.valid.fun_node j hj)
          (λ l o. rw (unwraps_yes g x j d e) (go l o (leb far (exit j)) refl))
        where
          go : (l : List ℕ) → Local (nodes g) 3 (EndIs v x) l → (c : Bool) → leb far (exit j) ≡ c
              → get_or (cond c l (lower_to (node g j) (end j) l)) (node g j) 0
              ≤ end j
          go l o true f = omega (arith, leb-true far (exit j) f, o.near (node g j) (known.valid.fun_node j hj))
          go l o false f = lower_hit (nodes g) 3 (EndIs v x) _ _ (known.valid.fun_node j hj) (end_sized j hj) (end_is j hj (unwraps_yes g x j d e)) l o

    module _ (hx : x < protocols g) (ends : List ℕ) (en : Local (nodes g) 3 (EndIs v x) ends) where
      abbrev land : ℕ → ℕ
      land i = get_or ends (from g i) 0 + (toll g i * 65536 + 0)

      land_place : (i : ℕ) → i < links g → place_in g (to g i) x < places g
      land_place i hi = place_lt _ _ (to g i) x (known.valid.link_to i hi) hx

      toll_light : (i : ℕ) → i < links g → toll g i ≤ 4294967296
      toll_light i hi = omega (arith, known.valid.link_weight i hi)

      land_sized : (i : ℕ) → i < links g → Sized 4 (land i)
      land_sized i hi = sized_plus 3 1 _ _ (omega arith) (en.sized _ (known.valid.link_from i hi)) (sized_one (toll g i) 0 (toll_light i hi) (omega arith))

      land_is : (i : ℕ) → i < links g → RowIs v x (place_in g (to g i) x) (worth (land i))
      land_is i hi =
          record {
            at = λ u y hu hy e. numbered (λ t z. levels.Reached h v x t z (worth (land i))) (to g i) x u y hx hy e
                (rw (worth_plus 3 1 _ _ (omega arith) (en.sized _ (known.valid.link_from i hi)) (sized_one (toll g i) 0 (toll_light i hi) (omega arith)), worth_one (toll g i) 0 (toll_light i hi) (omega arith))
                ((en.is (from g i) (known.valid.link_from i hi)).at i hi refl));
          }

      landing_fall : (i : ℕ) → i < links g → (l : List ℕ) → Local (places g) 4 (RowIs v x) l → Fall (places g) 4 (RowIs v x) l (landing g x ends i l)
      unfolding landing
      landing_fall i hi l o = go (leb far (get_or ends (from g i) 0))
        where
          go : (b : Bool) → Fall (places g) 4 (RowIs v x) l (cond b l (lower_to (place_in g (to g i) x) (land i) l))
          go true = fall_none (places g) 4 (RowIs v x) l o
          go false = lower_fall (places g) 4 (RowIs v x) _ _ (land_place i hi) (land_sized i hi) (land_is i hi) l o

      landings_fall : (l : List ℕ) → Local (places g) 4 (RowIs v x) l → Fall (places g) 4 (RowIs v x) l (landings g x ends l)
      unfolding landings
      landings_fall = upto_fall (places g) 4 (RowIs v x) _ (links g) landing_fall

      landings_low : (i : ℕ) → i < links g → (l : List ℕ) → Local (places g) 4 (RowIs v x) l
          → get_or (landings g x ends l) (place_in g (to g i) x) 0 ≤ land i
      unfolding landings landing
      landings_low i hi = upto_low (places g) 4 (RowIs v x) _ (links g) landing_fall i _ _ hi (land_place i hi) (λ l o. go l o (leb far (get_or ends (from g i) 0)) refl)
        where
          go : (l : List ℕ) → Local (places g) 4 (RowIs v x) l → (b : Bool) → leb far (get_or ends (from g i) 0) ≡ b
              → get_or (cond b l (lower_to (place_in g (to g i) x) (land i) l)) (place_in g (to g i) x) 0 ≤ land i
          go l o true f = omega (arith, leb-true far (get_or ends (from g i) 0) f, o.near (place_in g (to g i) x) (land_place i hi))
          go l o false f = lower_hit (places g) 4 (RowIs v x) _ _ (land_place i hi) (land_sized i hi) (land_is i hi) l o

  -- ## From one place, over the rooms

  split : (r : ℕ) → r < places g → Numbers r
  split r hr =
      let some = known.valid.some_protocol in
      record {
        node_of = r / protocols g;
        protocol_of = r % protocols g;
        in_nodes = (div-lt_iff_lt-mul some).1 hr;
        in_protocols = mod-lt r some;
        is = sym (div-add-mod' r (protocols g));
      }

  module _ (W C : List ℕ) (costs : (i : ℕ) → i < places g * places g → Costs (cost_at W C i) (value_at W C i)) (pairs : (i : ℕ) → i < places g * places g → PairIs i (value_at W C i)) (v x : ℕ) (hx : x < protocols g) where
    pair_at_lem : (r q : ℕ) → r < places g → q < places g → (s : Numbers r) → (u y : ℕ) → u < nodes g → y < protocols g → q ≡ place_in g u y
        → levels.Reached h s.node_of s.protocol_of u y (value_at W C (r * places g + q))
    pair_at_lem r q hr hq s u y hu hy e =
        (pairs (r * places g + q) (omega (arith, begin_le (places g) r hr))).at s.node_of s.protocol_of u y s.in_nodes s.in_protocols hu hy
        (ap (λ (k : ℕ). k * places g + q) s.is ∙ ap (λ (k : ℕ). place_in g s.node_of s.protocol_of * places g + k) e)

    after_row : (r q : ℕ) → r < places g → q < places g → (e : Value) → RowIs v x r e → RowIs v x q (plus e (value_at W C (r * places g + q)))
    after_row r q hr hq e o =
        let s = split r hr in
        record {
          at = λ u y hu hy f. levels.reached_then h v x s.node_of s.protocol_of u y e _ (o.at s.node_of s.protocol_of s.in_nodes s.in_protocols s.is) (pair_at_lem r q hr hq s u y hu hy f);
        }

    after_exit : (r q : ℕ) → r < places g → q < places g → (e : Value) → ExitIs v x r e → ExitIs v x q (plus e (value_at W C (r * places g + q)))
    after_exit r q hr hq e o =
        let s = split r hr in
        record {
          at = λ u y hu hy f. levels.opened_then h v x s.node_of s.protocol_of u y e _ (o.at s.node_of s.protocol_of s.in_nodes s.in_protocols s.is) (pair_at_lem r q hr hq s u y hu hy f);
        }

    no_row : (m : ℕ) → Local (places g) m (RowIs v x) (blank 1024)
    no_row m = blank_local (places g) m (RowIs v x) 1024 known.valid.places (λ q hq. record { at = λ u y hu hy e. levels.reached_never h v x u y })

    no_exit : (m : ℕ) → Local (places g) m (ExitIs v x) (blank 1024)
    no_exit m = blank_local (places g) m (ExitIs v x) 1024 known.valid.places (λ q hq. record { at = λ u y hu hy e. levels.opened_never h v x u y })

    no_end : Local (nodes g) 3 (EndIs v x) (blank 256)
    unfolding plus
    no_end = blank_local (nodes g) 3 (EndIs v x) 256 known.valid.nodes (λ q hq. record { at = λ i hi f. levels.reached_never h v x (to g i) x })

    -- inside the tunnels
    wraps : List ℕ
    wraps = steps g v 1 x (blank 1024)

    wraps_local : Local (places g) 1 (ExitIs v x) wraps
    unfolding wraps
    wraps_local = (steps_fall v x 1 (le_refl 1) (ExitIs v x) 1 (wrap_is v x) (blank 1024) (no_exit 1)).local

    inside_local : Local (places g) 2 (ExitIs v x) (inside g W C v x (blank 1024))
    unfolding inside wraps
    inside_local = (spread.onwards_fall W C (places g) costs 1 (omega arith) (ExitIs v x) (ExitIs v x) after_exit wraps wraps_local (blank 1024) (no_exit 2)).local

    ends_local : Local (nodes g) 3 (EndIs v x) (closings g x (inside g W C v x (blank 1024)) (blank 256))
    ends_local = (closings_fall v x (inside g W C v x (blank 1024)) inside_local (blank 256) no_end).local

    tunnels_fall : (l : List ℕ) → Local (places g) 4 (RowIs v x) l → Fall (places g) 4 (RowIs v x) l (tunnels g W C v x l)
    unfolding tunnels
    tunnels_fall = landings_fall v x hx (closings g x (inside g W C v x (blank 1024)) (blank 256)) ends_local

    convs_fall : Fall (places g) 4 (RowIs v x) (blank 1024) (steps g v 0 x (blank 1024))
    convs_fall = steps_fall v x 4 (omega arith) (RowIs v x) 0 (conv_is v x) (blank 1024) (no_row 4)

    pub reach_local : Local (places g) 4 (RowIs v x) (reach g W C v x (blank 1024))
    unfolding reach
    reach_local = (tunnels_fall (steps g v 0 x (blank 1024)) convs_fall.local).local

    -- no more than a conv: function j over link i
    pub reach_conv : (j i : ℕ) → j < funs g → i < links g → node g j ≡ v → kind g j ≡ 0 → x_of g j ≡ x → from g i ≡ v
        → Le (worth (get_or (reach g W C v x (blank 1024)) (place_in g (to g i) (y_of g j)) 0)) (cap (fee g j + toll g i) 1)
    unfolding reach
    reach_conv j i hj hi a b c f =
        let s = steps_low v x 4 (omega arith) (RowIs v x) 0 (conv_is v x) j i hj hi (suits_yes g v 0 x j a b c) (leaves_yes g v i f) (blank 1024) (no_row 4) in
        let t = (tunnels_fall (steps g v 0 x (blank 1024)) convs_fall.local).below (place_in g (to g i) (y_of g j)) (step_place j i hj hi) in
        let u : get_or (reach g W C v x (blank 1024)) (place_in g (to g i) (y_of g j)) 0 ≤ step_cost g j i = omega arith in
        rw (step_worth j i hj hi) at (worth_le _ _ u)

    -- no more than a tunnel: a wrap (function j over link i), what is inside, an unwrap (function k over link m)
    module _ (j i k m : ℕ) (hj : j < funs g) (hi : i < links g) (hk : k < funs g) (hm : m < links g) where
      abbrev within_it : ℕ
      within_it = place_in g (to g i) (y_of g j) * places g + place_in g (node g k) (y_of g k)

      abbrev whole : ℕ
      whole = step_cost g j i + cost_at W C within_it + (fee g k * 65536 + 1) + (toll g m * 65536 + 0)

      within_lt : within_it < places g * places g
      within_lt = omega (arith, begin_le (places g) (place_in g (to g i) (y_of g j)) (step_place j i hj hi), place_lt _ _ (node g k) (y_of g k) (known.valid.fun_node k hk) (known.valid.fun_y k hk))

      whole_worth : worth whole ≡ plus (cap (fee g j + toll g i) 1) (plus (value_at W C within_it) (cap (fee g k + toll g m) 1))
      whole_worth =
          let s = step_sized j i hj hi in
          let c = costs within_it within_lt in
          let u = sized_plus 1 1 _ _ (omega arith) s c.sized in
          let f = sized_one (fee g k) 1 (omega (arith, known.valid.fun_weight k hk)) (omega arith) in
          let e = sized_plus 2 1 _ _ (omega arith) u f in
          let t = sized_one (toll g m) 0 (omega (arith, known.valid.link_weight m hm)) (omega arith) in
          rw (
            worth_plus 3 1 _ _ (omega arith) e t,
            worth_plus 2 1 _ _ (omega arith) u f,
            worth_plus 1 1 _ _ (omega arith) s c.sized,
            c.is,
            step_worth j i hj hi,
            worth_one (fee g k) 1 (omega (arith, known.valid.fun_weight k hk)) (omega arith),
            worth_one (toll g m) 0 (omega (arith, known.valid.link_weight m hm)) (omega arith),
            plus_assoc (plus (cap (fee g j + toll g i) 1) (value_at W C within_it)) (cap (fee g k) 1) (cap (toll g m) 0),
            cap_plus (fee g k) 1 (toll g m) 0,
          ) (plus_assoc (cap (fee g j + toll g i) 1) (value_at W C within_it) (cap (fee g k + toll g m) 1))

      pub reach_tunnel : node g j ≡ v → kind g j ≡ 1 → x_of g j ≡ x → from g i ≡ v → kind g k ≡ 2 → x_of g k ≡ x → from g m ≡ node g k
          → Le (worth (get_or (reach g W C v x (blank 1024)) (place_in g (to g m) x) 0)) (plus (cap (fee g j + toll g i) 1) (plus (value_at W C within_it) (cap (fee g k + toll g m) 1)))
      unfolding reach tunnels inside wraps
      reach_tunnel a b c f d e l =
          let o = place_lt _ _ (node g k) (y_of g k) (known.valid.fun_node k hk) (known.valid.fun_y k hk) in
          let s = steps_low v x 1 (le_refl 1) (ExitIs v x) 1 (wrap_is v x) j i hj hi (suits_yes g v 1 x j a b c) (leaves_yes g v i f) (blank 1024) (no_exit 1) in
          let q = spread.onwards_low W C (places g) costs 1 (omega arith) (ExitIs v x) (ExitIs v x) after_exit wraps wraps_local (place_in g (to g i) (y_of g j)) (place_in g (node g k) (y_of g k)) (step_place j i hj hi) o (blank 1024) (no_exit 2) in
          let r = closings_low v x (inside g W C v x (blank 1024)) inside_local k hk d e (blank 256) no_end in
          let t = landings_low v x hx (closings g x (inside g W C v x (blank 1024)) (blank 256)) ends_local m hm (steps g v 0 x (blank 1024)) convs_fall.local in
          let u : get_or (reach g W C v x (blank 1024)) (place_in g (to g m) x) 0 ≤ whole = omega (arith, rw l at t) in
          rw whole_worth at (worth_le _ _ u)

    -- ## The ways on

    module _ (H : List ℕ) (since base : ℕ) where
      pub ways_local : Local (places g) 5 (RowIs v x) (goings W C (places g) H since base (reach g W C v x (blank 1024)) (blank 1024))
      ways_local = (spread.goings_fall W C (places g) costs 4 (omega arith) (RowIs v x) (RowIs v x) after_row (reach g W C v x (blank 1024)) reach_local H since base (blank 1024) (no_row 5)).local

      -- no more than by a place that has something to gain
      pub ways_on : (r q : ℕ) → r < places g → q < places g → idle W C (base + r) (get_or (reach g W C v x (blank 1024)) r 0) (get_or H r 0) since ≡ false
          → Le (worth (get_or (goings W C (places g) H since base (reach g W C v x (blank 1024)) (blank 1024)) q 0)) (plus (worth (get_or (reach g W C v x (blank 1024)) r 0)) (value_at W C (r * places g + q)))
      ways_on r q hr hq e =
          rw (← spread.on_worth W C (places g) costs 4 (omega arith) (RowIs v x) (RowIs v x) after_row (reach g W C v x (blank 1024)) reach_local r q hr hq)
          (worth_le _ _ (spread.goings_low W C (places g) costs 4 (omega arith) (RowIs v x) (RowIs v x) after_row (reach g W C v x (blank 1024)) reach_local H since base r q hr hq e (blank 1024) (no_row 5)))
