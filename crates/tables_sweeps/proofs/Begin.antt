-- The rooms before the first sweep, from one sweep to the next, and at the end.
-- Main results: `begun`, `swept`, `filled`. Assumes nothing.
use Prim.Native.Nat.{ℕ, zero, suc, ◌+◌, ◌*◌, ◌<◌, ◌≤◌, min}
use mathlib.Core.Path.{◌≡◌, refl, sym, ap, ◌∙◌}
use mathlib.Core.Bool.{Bool, true, false, cond, not, ◌&&◌, ◌||◌}
use mathlib.Core.List.{List}
use mathlib.Core.Logic.{◌⊎◌, inl, inr}
use native.Mathlib.Omega.{arith}
use native.Mathlib.Nat.{not-suc-le-zero}
use native.Mathlib.Decide.{ℕ_discrete}
use borrow.Author.Tests.{not-true, eqb-true, eq-eqb, ne_eqb}
use lib.Dec.{eqb}
use lib.ListN.{length, get_or, set, length-set}
use lib.Seq.{get_or-set_same, get_or-set_other}
use Rattle.paper.proofs.Places.{place_lt}
use Rattle.laws.specs.Value.{Value, within, never, Le, heft, count}
use Rattle.laws.proofs.Cap.{le_trans_v, cap_light}
use Rattle.laws.proofs.Depth.{digits}
use Rattle.network.specs.Network.{nodes, protocols, places, hop_in, place_in}
use Rattle.network.specs.Arranged.{Arranged}
use Rattle.tables_costs.specs.Loop.{upto}
use Rattle.tables_costs.specs.Cells.{value, Cells, cells, value_at, stored, lowered}
use Rattle.tables_costs.proofs.Values.{Good, never_heft}
use Rattle.tables_sweeps.specs.Row.{reached, row}
use Rattle.tables_sweeps.specs.Sweep.{Stage, stage, stamped, visited, sweep, Visits, none, more, Passing, cleared, diagonal}
use Rattle.tables_sweeps.specs.Filled.{Filled}
use Rattle.tables_costs.proofs.Corners.{begin_le}
use Rattle.tables_sweeps.proofs.Tests.{and_true}
use Rattle.tables_sweeps.proofs.Lowering.{ws, cs, val, size, Held, Step, step_none, step_then, reached_step, reached_hit, upto_step, upto_hit}
use Rattle.tables_sweeps.proofs.Quiet.{not_both, dropped, sweep_quiet, sweep_each}
use Rattle.tables_sweeps.proofs.Ways.{PairIs}
use Rattle.tables_sweeps.proofs.Rows.{Rooms, row_step}
use Rattle.tables_sweeps.proofs.Reach as levels
use Rattle.tables_sweeps.proofs.Exact.{Sound, Still, exact, spelled}

-- ## Entries that stay

-- as long as before, and the same from the limit on
pub record Kept (lim : ℕ) (W C W' C' : List ℕ) : Type 0 where
  pub same_ws : length W' ≡ length W
  pub same_cs : length C' ≡ length C
  pub past_ws : (i : ℕ) → lim ≤ i → get_or W' i 0 ≡ get_or W i 0
  pub past_cs : (i : ℕ) → lim ≤ i → get_or C' i 0 ≡ get_or C i 0

pub kept_none : (lim : ℕ) (W C : List ℕ) → Kept lim W C W C
kept_none lim W C = record { same_ws = refl; same_cs = refl; past_ws = λ i l. refl; past_cs = λ i l. refl }

pub kept_then : (lim : ℕ) (W C W' C' W'' C'' : List ℕ) → Kept lim W C W' C' → Kept lim W' C' W'' C'' → Kept lim W C W'' C''
kept_then lim W C W' C' W'' C'' a b =
    record {
      same_ws = b.same_ws ∙ a.same_ws;
      same_cs = b.same_cs ∙ a.same_cs;
      past_ws = λ i l. b.past_ws i l ∙ a.past_ws i l;
      past_cs = λ i l. b.past_cs i l ∙ a.past_cs i l;
    }

-- ## Cleared

record Clear (m : ℕ) (s t : Cells) : Type 0 where
  kept : Kept m (ws s) (cs s) (ws t) (cs t)
  never_ws : (i : ℕ) → i < m → get_or (ws t) i 0 ≡ 4294967295
  never_cs : (i : ℕ) → i < m → get_or (cs t) i 0 ≡ 0

clear_more : (m : ℕ) (s t : Cells) → m < length (ws s) → m < length (cs s) → Clear m s t → Clear (suc m) s (stored m 4294967295 0 t)
unfolding stored
clear_more m s (cells W C b) hW hC k =
    record {
      kept =
          record {
            same_ws = length-set W m 4294967295 ∙ k.kept.same_ws;
            same_cs = length-set C m 0 ∙ k.kept.same_cs;
            past_ws = λ i l. get_or-set_other W m i 4294967295 0 (λ e. omega arith) ∙ k.kept.past_ws i (omega arith);
            past_cs = λ i l. get_or-set_other C m i 0 0 (λ e. omega arith) ∙ k.kept.past_cs i (omega arith);
          };
      never_ws = λ i l. go_ws i l (ℕ_discrete i m);
      never_cs = λ i l. go_cs i l (ℕ_discrete i m);
    }
  where
    go_ws : (i : ℕ) → i < suc m → Dec (i ≡ m) → get_or (set W m 4294967295) i 0 ≡ 4294967295
    go_ws i l (yes e) = rw e (get_or-set_same W m 4294967295 0 (omega (arith, k.kept.same_ws)))
    go_ws i l (no e) = get_or-set_other W m i 4294967295 0 e ∙ k.never_ws i (omega arith)

    go_cs : (i : ℕ) → i < suc m → Dec (i ≡ m) → get_or (set C m 0) i 0 ≡ 0
    go_cs i l (yes e) = rw e (get_or-set_same C m 0 0 (omega (arith, k.kept.same_cs)))
    go_cs i l (no e) = get_or-set_other C m i 0 0 e ∙ k.never_cs i (omega arith)

clear_all : (m : ℕ) (s : Cells) → m ≤ length (ws s) → m ≤ length (cs s) → Clear m s (cleared m s)
unfolding cleared upto
clear_all zero s hW hC =
    record { kept = kept_none 0 (ws s) (cs s); never_ws = λ i l. absurd (not-suc-le-zero l); never_cs = λ i l. absurd (not-suc-le-zero l) }
clear_all (suc m) s hW hC = clear_more m s _ hW hC (clear_all m s (omega arith) (omega arith))

-- a value read from the two lists
val_of : (s : Cells) (i : ℕ) → val s i ≡ value (get_or (ws s) i 0) (get_or (cs s) i 0)
unfolding val value_at
val_of (cells W C b) i = refl

-- the flag says nothing of the entries
pub unflag : (lim : ℕ) (A : ℕ → Value → Type 0) (W C : List ℕ) (b c : Bool) → Held lim A (cells W C b) → Held lim A (cells W C c)
unfolding val
unflag lim A W C b c k = record { long_ws = k.long_ws; long_cs = k.long_cs; good = k.good; spelt = k.spelt; is = k.is }

kept_of : {lim : ℕ} {A : ℕ → Value → Type 0} (W C W' C' : List ℕ) (b c : Bool) → Step lim A (cells W C b) (cells W' C' c) → Kept lim W C W' C'
kept_of W C W' C' b c k = record { same_ws = k.same_ws; same_cs = k.same_cs; past_ws = k.past_ws; past_cs = k.past_cs }

module _ (g : List ℕ) (known : Arranged g) where
  abbrev Pair : ℕ → Value → Type 0
  Pair = PairIs g known

  clear_held : (s : Cells) → places g * places g ≤ length (ws s) → places g * places g ≤ length (cs s) → Held (places g * places g) Pair (cleared (places g * places g) s)
  unfolding Good heft count
  clear_held s hW hC =
      record {
        long_ws = rw k.kept.same_ws hW;
        long_cs = rw k.kept.same_cs hC;
        good = λ i l. rw (none i l) tt;
        spelt = λ i l. rw (none i l, k.never_ws i l, k.never_cs i l) (record { of_weight = refl; of_count = refl });
        is = λ i l. rw (none i l) (record { at = λ v x u y hv hx hu hy e. levels.reached_never _ v x u y });
      }
    where
      k : Clear (places g * places g) s (cleared (places g * places g) s)
      k = clear_all (places g * places g) s hW hC

      none : (i : ℕ) → i < places g * places g → val (cleared (places g * places g) s) i ≡ never
      none i l = val_of (cleared (places g * places g) s) i ∙ never_heft _ _ (k.never_ws i l)

  -- ## The places with themselves

  home_in_room : (k : ℕ) → k < places g → k * places g + k < places g * places g
  home_in_room k l = omega (arith, begin_le (places g) k l)

  home_is : (k : ℕ) → k < places g → Pair (k * places g + k) (within 0 0)
  home_is k l =
      record {
        at = λ v x u y hv hx hu hy e.
            let a = digits (places g) k k (place_in g v x) (place_in g u y) l (place_lt _ _ u y hu hy) e in
            let c = digits (protocols g) v x u y hx hy (sym a.0 ∙ a.1) in
            rw (← c.0, ← c.1) (rw (cap_light 0 0 (omega arith)) at (levels.reached_here (hop_in g) v x));
      }

  home_step : (k : ℕ) → k < places g → (s : Cells) → Held (places g * places g) Pair s → Step (places g * places g) Pair s (lowered (k * places g + k) 0 0 s)
  unfolding reached heft count Good
  home_step k l = reached_step (places g * places g) Pair (k * places g + k) (within 0 0) (home_in_room k l) (omega arith, omega arith) (home_is k l)

  home_hit : (k : ℕ) → k < places g → (s : Cells) → Held (places g * places g) Pair s → Le (val (lowered (k * places g + k) 0 0 s) (k * places g + k)) (within 0 0)
  unfolding reached heft count Good
  home_hit k l = reached_hit (places g * places g) Pair (k * places g + k) (within 0 0) (home_in_room k l) (omega arith, omega arith) (home_is k l)

  -- rooms before the first sweep
  pub record Begun (W C W' C' : List ℕ) : Type 0 where
    pub sound : Sound g known W' C'
    pub kept : Kept (places g * places g) W C W' C'

  pub begun : (W C W' C' : List ℕ) (r : Bool) → places g * places g ≤ length W → places g * places g ≤ length C
      → cells W' C' r ≡ diagonal (places g) (cleared (places g * places g) (cells W C false)) → Begun W C W' C'
  unfolding diagonal val
  begun W C W' C' r hW hC e =
      let s = cleared (places g * places g) (cells W C false) in
      let k = clear_held (cells W C false) hW hC in
      let st = upto_step (places g * places g) Pair _ (places g) home_step s k in
      let z = rw (← e) at st in
      record {
        sound =
            record {
              rooms = unflag _ _ W' C' r false z.held;
              at_home = λ i l. rw (← e) at (upto_hit (places g * places g) Pair _ (places g) home_step i (i * places g + i) (within 0 0) l (home_in_room i l) (home_hit i l) s k);
            };
        kept =
            kept_then _ W C (ws s) (cs s) W' C' (clear_all (places g * places g) (cells W C false) hW hC).kept
            (record { same_ws = z.same_ws; same_cs = z.same_cs; past_ws = z.past_ws; past_cs = z.past_cs });
      }

  -- ## From sweep to sweep

  abbrev rooms_of : Stage → Cells
  rooms_of (stage W C H b) = cells W C b

  abbrev Kind : Stage → Type 0
  Kind s = Rooms g known (rooms_of s)

  abbrev On : Stage → Stage → Type 0
  On s t = Step (places g * places g) Pair (rooms_of s) (rooms_of t)

  -- a row that begins with no flag, within a sweep that may have one
  flagged : (W C W' C' : List ℕ) (b r : Bool) → Step (places g * places g) Pair (cells W C false) (cells W' C' r) → Step (places g * places g) Pair (cells W C b) (cells W' C' (b || r))
  unfolding val size
  flagged W C W' C' b r a =
      record {
        held = unflag _ _ W' C' r (b || r) a.held;
        same_ws = a.same_ws;
        same_cs = a.same_cs;
        past_ws = a.past_ws;
        past_cs = a.past_cs;
        below = a.below;
        no_more = a.no_more;
        falls = λ e. go b r e a.falls;
      }
    where
      go : (b r : Bool) → (b || r) ≡ true → (r ≡ true → (false ≡ true) ⊎ (size (cells W' C' r) < size (cells W C false))) → (b ≡ true) ⊎ (size (cells W' C' (b || r)) < size (cells W C b))
      go true r e f = inl refl
      go false r e f = more (f e)
        where
          more : (false ≡ true) ⊎ (size (cells W' C' r) < size (cells W C false)) → (false ≡ true) ⊎ (size (cells W' C' r) < size (cells W C false))
          more o = o

  module _ (stamp since : ℕ) where
    visited_on : (v x : ℕ) → v < nodes g → x < protocols g → (s : Stage) → Kind s → On s (visited g stamp since v x s)
    unfolding visited stamped
    visited_on v x hv hx (stage W C H b) k = go (row g H since v x (cells W C false)) (row_step g known v x hv hx H since (cells W C false) (unflag _ _ W C b false k))
      where
        go : (t : Cells) → Step (places g * places g) Pair (cells W C false) t → On (stage W C H b) (stamped stamp (place_in g v x) H b t)
        go (cells W' C' r) a = flagged W C W' C' b r a

    visits_on : {s t : Stage} → Visits g stamp since s t → Kind s → On s t
    visits_on {s} none k = step_none _ _ (rooms_of s) k
    visits_on {s} (more {t = t} v x hv hx a) k =
        let b = visits_on a k in
        step_then _ _ (rooms_of s) (rooms_of t) _ b (visited_on v x hv hx t b.held)

    pub record Swept (W C H W' C' H' : List ℕ) (r : Bool) : Type 0 where
      pub sound : Sound g known W' C'
      pub kept : Kept (places g * places g) W C W' C'
      pub still : since ≡ 0 → r ≡ false → Still g known W' C' H'
      pub no_more : size (cells W' C' false) ≤ size (cells W C false)
      pub falls : r ≡ true → size (cells W' C' false) < size (cells W C false)

    pub swept : (back : Bool) (W C H W' C' H' : List ℕ) (r : Bool) → Sound g known W C
        → Passing g stamp since (stage W C H false) (sweep g stamp since back) (stage W' C' H' r) → Swept W C H W' C' H' r
    unfolding val size Still
    swept back W C H W' C' H' r sound passing =
        record {
          sound =
              record {
                rooms = unflag _ _ W' C' r false st.held;
                at_home = λ k l. le_trans_v _ (value_at W C (k * places g + k)) _ (st.below (k * places g + k) (home_in_room k l)) (sound.at_home k l);
              };
          kept = kept_of W C W' C' false r st;
          still = still;
          no_more = st.no_more;
          falls = λ f. go (st.falls f);
        }
      where
        st : Step (places g * places g) Pair (cells W C false) (cells W' C' r)
        st = visits_on passing.visits sound.rooms

        still : since ≡ 0 → r ≡ false → (v x : ℕ) → v < nodes g → x < protocols g → row g H' 0 v x (cells W' C' false) ≡ cells W' C' false
        still z f v x hv hx =
            let e = passing.full z in
            let q = ap dropped (sym e) ∙ f in
            let b : stage W' C' H' r ≡ stage W C H false = e ∙ (sweep_quiet g stamp since back).still (stage W C H false) q in
            let a : W' ≡ W = cc in
            let c : C' ≡ C = cc in
            let d : H' ≡ H = cc in
            rw (a, c, d, ← z) (sweep_each g stamp since back W C H q v x hv hx)

        go : (false ≡ true) ⊎ (size (cells W' C' r) < size (cells W C false)) → size (cells W' C' false) < size (cells W C false)
        go (inl f) = absurd (not_both (sym f))
        go (inr f) = f

    -- what is left to do: it falls while something falls, and once more for the full sweep at the end
    module _ (W C H W' C' H' : List ℕ) (r : Bool) (k : Swept W C H W' C' H' r) where
      pub left_falls : (done : Bool) (next : ℕ) → done ≡ (not r && eqb since 0) → next ≡ cond r stamp 0
          → cond done 0 (1 + (2 * size (cells W' C' false) + min next 1)) < 1 + (2 * size (cells W C false) + min since 1)
      left_falls done next e f = go r (ℕ_discrete since 0) k.falls e f
        where
          go : (r : Bool) → Dec (since ≡ 0) → (r ≡ true → size (cells W' C' false) < size (cells W C false)) → done ≡ (not r && eqb since 0) → next ≡ cond r stamp 0
              → cond done 0 (1 + (2 * size (cells W' C' false) + min next 1)) < 1 + (2 * size (cells W C false) + min since 1)
          go true z l a b = rw a (omega (arith, l refl))
          go false (yes z) l a b = rw (a, eq-eqb since 0 z) (omega arith)
          go false (no z) l a b = rw (a, ne_eqb since 0 z) (omega (arith, k.no_more))

      pub done_still : (done : Bool) → done ≡ (not r && eqb since 0) → done ≡ true → Still g known W' C' H'
      done_still done e f =
          let a = and_true (not r) (eqb since 0) (sym e ∙ f) in
          k.still (eqb-true since 0 a.1) (not-true r a.0)

  -- ## The end

  pub filled : (W C W' C' H : List ℕ) → Kept (places g * places g) W C W' C' → Sound g known W' C' → Still g known W' C' H
      → Filled g W C W' C'
  filled W C W' C' H k s q =
      record {
        exact = exact g known W' C' H s q;
        spelled = spelled g known W' C' H s q;
        later_weights = k.past_ws;
        later_counts = k.past_cs;
        weights_length = k.same_ws;
        counts_length = k.same_cs;
      }
