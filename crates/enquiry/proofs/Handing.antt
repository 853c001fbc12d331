-- An enquiry of filled tables: which row of the outcome table its entries choose, and that what is handed out is the row's.
-- Assumes nothing.
use Prim.Native.Nat.{ℕ, ◌*◌, ◌<◌, ◌≤◌}
use mathlib.Core.Path.{◌≡◌, sym, ap, ◌∙◌}
use mathlib.Core.List.{List}
use mathlib.Core.Option.{Option}
use Rattle.std.specs.Prelude.{Option as Returned, Some, None}
use native.Mathlib.Omega.{arith}
use lib.ListN.{length, replicate}
use Rattle.paper.specs.Limits.{over_mark, never_mark}
use Rattle.paper.specs.Net.{Key}
use Rattle.paper.specs.Route.{flat}
use Rattle.paper.specs.Trace.{trace}
use Rattle.paper.specs.Rooms.{laid, Entries}
use Rattle.paper.specs.Outcome.{refusal, most_steps, Found, eight, nine, ten, eleven, zero as found}
use Rattle.paper.specs.Answers.{handed_out}
use Rattle.laws.proofs.Laid.{length_laid}
use Rattle.laws.proofs.Outcome.{entries}
use Rattle.trace_replay.specs.Keys.{keys_at}
use Rattle.trace_replay.proofs.Entries.{keys_laid}
use Rattle.trace.specs.Told.{Traceable, Told}
use Rattle.trace.proofs.Answers.{told_some, told_none}
use Rattle.tables_costs.specs.Cells.{table}
use Rattle.network.specs.Network.{nodes, protocols, places, hop_in, Within}
use Rattle.paper.specs.declared.place.Place.{Place}
use Rattle.unfold.specs.Unfolded.{weighs_in, counts_in, Unfolds, Unfolded}
use Rattle.enquiry.specs.Ready.{Ready, Fit, EndsIn, cleared}
use Rattle.enquiry.proofs.Rows.{row_8, row_9, row_light, row_10}

few_steps : (m : ℕ) → (most_steps m ≤ 4096) × (4 * most_steps m ≤ m)
unfolding most_steps
few_steps m = (omega arith, omega arith)

pub is_cleared : (g X X' : List ℕ) → X' ≡ laid X 0 (replicate (8 * (places g * places g)) 0) → X' ≡ cleared g X
unfolding cleared
is_cleared g X X' e = e

module _ (g : List ℕ) (start end : Place) where
  abbrev S : ℕ
  S = start.node

  abbrev a : ℕ
  a = start.protocol

  abbrev D : ℕ
  D = end.node

  abbrev b : ℕ
  b = end.protocol

  abbrev hop : Key → ℕ → Option (ℕ × ℕ)
  hop = hop_in g

  pub few : (W C Q : List ℕ) (w k : ℕ) → Fit g start end W C Q w k → k ≤ 4096
  few W C Q w k f = omega (arith, (few_steps (length Q)).0, f.short)

  pub unfolds : (W C X Q : List ℕ) (w k : ℕ) → Ready g W C X → Fit g start end W C Q w k → Unfolds g W C start end X Q
  unfolds W C X Q w k ready fits =
      let l = few_steps (length Q) in
      record {
        exact = ready.exact;
        from = fits.from;
        to = fits.to;
        light = omega (arith, fits.weight, fits.light);
        short = omega (arith, fits.steps, fits.short, l);
        weights = ready.lent.weights;
        counts = ready.lent.counts;
        choices = ready.lent.choices;
        steps = omega (arith, fits.steps, fits.short, l);
      }

  module _ (W C X : List ℕ) (ready : Ready g W C X) (from : Within g start) (to : Within g end) (w k : ℕ) (ew : w ≡ weighs_in g W C start end) (ek : k ≡ counts_in g W C start end) where
    pair : Entries hop S a D b w k
    pair =
        let s = ready.spelled S a D b from.0 from.1 to.0 to.1 in
        rw (ew, ek, s.of_weight, s.of_count)
        (entries hop S a D b (table (nodes g) (protocols g) W C S a D b) (ready.exact.entry S a D b from.0 from.1 to.0 to.1))

    pub ends_8 : (Q T : List ℕ) → w ≡ never_mark → EndsIn g start end Q T (refusal 8 0) Q T
    ends_8 Q T h = eight (row_8 hop S a D b pair h)

    pub ends_9 : (Q T : List ℕ) → w ≡ over_mark → EndsIn g start end Q T (refusal 9 0) Q T
    ends_9 Q T h = nine (row_9 hop S a D b pair h)

    pub ends_10 : (Q T : List ℕ) (m : ℕ) → (w ≡ never_mark → ⊥) → (w ≡ over_mark → ⊥) → m ≡ most_steps (length Q) → m < k → EndsIn g start end Q T (refusal 10 0) Q T
    ends_10 Q T m i j l h =
        let x : most_steps (length Q) < k = rw l at h in
        ten (row_light hop S a D b pair i j) (row_10 hop S a D b (most_steps (length Q)) (few_steps (length Q)).0 pair i j x)

    pub fit : (Q : List ℕ) (m : ℕ) → (w ≡ never_mark → ⊥) → (w ≡ over_mark → ⊥) → m ≡ most_steps (length Q) → k ≤ m → Fit g start end W C Q w k
    fit Q m i j l h = record { from = from; to = to; weight = ew; steps = ek; light = (row_light hop S a D b pair i j).limit; short = rw l at h }

  written : (Q Q' : List ℕ) (ks : List Key) (w k : ℕ) (js : List Key) → js ≡ ks → length ks ≡ k → Q' ≡ laid Q 0 (flat ks) → Found hop (nodes g) (protocols g) S a D b Q ks w
      → (T T' : List ℕ) (n : Returned ℕ) → Told T T' (trace hop S a js w) n → EndsIn g start end Q T (handed_out w k n) Q' T'
  written Q Q' ks w k js e f x r T T' (Some n) z = let t = told_some n (rw e at z) in rw (t.1, t.2, sym f, x) (found r t.0)
  written Q Q' ks w k js e f x r T T' None z = let t = told_none (rw e at z) in rw (t.1, sym f, x) (eleven r t.0)

  keys : (Q Q' : List ℕ) (ks : List Key) (k : ℕ) → Q' ≡ laid Q 0 (flat ks) → length ks ≡ k → k ≤ most_steps (length Q) → keys_at Q' k ≡ ks
  keys Q Q' ks k e f h = let l = (few_steps (length Q)).1 in rw (e, sym f) (keys_laid Q ks (omega (arith, l, f, h)))

  module _ (W C X X' Q Q' : List ℕ) (w k : ℕ) (fits : Fit g start end W C Q w k) (done : Unfolded g W C start end X X' Q Q') where
    abbrev ks : List Key
    ks = done.route.ks

    counted : length ks ≡ k
    counted = done.route.steps ∙ sym fits.steps

    its_keys : keys_at Q' k ≡ ks
    its_keys = keys Q Q' ks k done.route.wrote counted fits.short

    route : Found hop (nodes g) (protocols g) S a D b Q ks w
    route = record { best = rw fits.weight done.route.best; light = fits.light; short = rw counted fits.short }

    pub traceable : Ready g W C X → Traceable g start Q' k w
    traceable ready =
        let l = few_steps (length Q) in
        record {
          arranged = ready.arranged;
          within = fits.from;
          few = omega (arith, l, fits.short);
          room = omega (arith, l, fits.short, ap length done.route.wrote, length_laid Q 0 (flat ks));
          end = end;
          route = rw its_keys route.best.feasible;
        }

    pub ends : (T T' : List ℕ) (n : Returned ℕ) → Told T T' (trace hop S a (keys_at Q' k) w) n → EndsIn g start end Q T (handed_out w k n) Q' T'
    ends T T' n z = written Q Q' ks w k (keys_at Q' k) its_keys counted done.route.wrote route T T' n z
