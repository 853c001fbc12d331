-- The tally of a replay, step by step: what is counted and what is left make up the step lines. Assumes nothing.
use Prim.Native.Nat.{ℕ, ◌+◌, ◌<◌, ◌≤◌}
use mathlib.Core.Path.{◌≡◌, ap}
use mathlib.Core.List.{List, [], ◌∷◌}
use mathlib.Core.Option.{some}
use native.Mathlib.Omega.{arith}
use lib.ListN.{length, length-append}
use Rattle.paper.specs.Net.{Key, key}
use Rattle.paper.specs.Route.{at, step}
use Rattle.paper.specs.Text.{decimal}
use Rattle.paper.specs.Trace.{dotted, step_line, step_lines, trace}
use Rattle.paper.specs.declared.place.Place.{Place}
use Rattle.trace_stack.specs.Items.{acted}
use Rattle.network.specs.Network.{hop_in}
use Rattle.network.specs.Arranged.{Arranged}
use Rattle.trace_replay.specs.declared.packet.Packet.{Packet}
use Rattle.trace_replay.specs.Keys.{entries, key_of, key_at, keys_at}
use Rattle.trace_replay.specs.Packet.{after, origin, source, Here, Underway, Route}
use Rattle.trace_replay.proofs.Entries.{keys_left, keys_all, keys_next, keys_none, length_keys}
use Rattle.trace_replay.proofs.Ways.{going, on, held, setting_out}
use Rattle.trace_measure.specs.declared.Tally.{Tally}
use Rattle.trace_measure.specs.Sizes.{lost, gained, line_size, most_dots, most_lines, Countable, Counted}
use Rattle.trace_measure.proofs.Dots.{dots_step, dots_lost, dots_most}
use Rattle.trace_measure.proofs.Lines.{line_size_lem, lines_next, lines_most, trace_size}

-- t has counted the steps up to here: its text is some stack's, and ks are left of a route whose step lines have n bytes
pub record Tallied (g : List ℕ) (ks : List Key) (n : ℕ) (t : Tally) : Type 0 where
  pub stack : List ℕ
  pub way : Underway g ks t.packet stack
  pub dots : t.dots ≡ length (dotted stack)
  pub sum : t.size + length (step_lines (hop_in g) ks (at t.packet.node stack t.packet.spent)) ≡ n

module _ (g : List ℕ) (o : Arranged g) where
  -- ## One step

  pub countable_here : (k : Key) (t : Tally) → Countable g k t → Here g t.packet
  countable_here (key l c x y) t a = (going g o l c x y a.rest t.packet a.stack a.way).here

  pub countable_lost : (k : Key) (t : Tally) → Countable g k t → (lost k ≤ t.dots) × (t.dots ≤ most_dots)
  countable_lost (key l c x y) t a =
      let v = going g o l c x y a.rest t.packet a.stack a.way in (
        omega (arith, dots_lost l c x y a.stack (acted c y a.stack) v.acts, a.dots),
        omega (arith, dots_most a.stack, a.way.tall, v.here.held, a.dots),
      )

  -- r is the packet after the step, m the bytes of its stack's text
  pub countable_most : (k : Key) (t : Tally) (r : Packet) (m : ℕ) → Countable g k t → r ≡ after g k t.packet → m + lost k ≡ t.dots + gained k → (r.node < 256) × (m ≤ most_dots)
  countable_most (key l c x y) t r m a q e =
      let v = going g o l c x y a.rest t.packet a.stack a.way in
      let next = on g o l c x y a.rest t.packet a.stack a.way in
      let h = held g o a.rest (after g (key l c x y) t.packet) (acted c y a.stack) next in (
        rw q h.1,
        omega (arith, dots_step l c x y a.stack (acted c y a.stack) v.acts, a.dots, dots_most (acted c y a.stack), next.tall, h.0),
      )

  -- ## All steps

  pub next_countable : (k : Key) (ks : List Key) (n : ℕ) (t : Tally) → n ≤ most_lines → Tallied g (k ∷ ks) n t → Countable g k t
  next_countable k ks n t h a = record { rest = ks; stack = a.stack; way = a.way; dots = a.dots; few = omega (arith, a.sum) }

  pub next_counted : (k : Key) (ks : List Key) (n : ℕ) (t r : Tally) → Tallied g (k ∷ ks) n t → Counted g k t r → Tallied g ks n r
  next_counted (key l c x y) ks n t r a b =
      let k = key l c x y in
      let here = at t.packet.node a.stack t.packet.spent in
      let next = acted c y a.stack in
      let there = at r.packet.node next r.packet.spent in
      let v = going g o l c x y ks t.packet a.stack a.way in
      let goes : step (hop_in g) k here ≡ some there = rw b.packet v.goes in
      let m : r.dots ≡ length (dotted next) = omega (arith, dots_step l c x y a.stack next v.acts, a.dots, b.dots) in
      record {
        stack = next;
        way = rw b.packet (on g o l c x y ks t.packet a.stack a.way);
        dots = m;
        sum =
            omega (
              arith,
              a.sum,
              b.size,
              ap (λ (z : ℕ). line_size k r.packet.node z) m,
              line_size_lem k r.packet.node next r.packet.spent,
              ap length (lines_next (hop_in g) k ks here there goes),
              length-append (step_line k there) (step_lines (hop_in g) ks there),
            );
      }

-- ## The steps of a route in the step room

module _ {g : List ℕ} {start : Place} {q : List ℕ} {k : ℕ} (route : Route g start q k) where
  abbrev pub total : ℕ
  total = length (step_lines (hop_in g) (keys_at q k) (source start))

  pub total_most : total ≤ most_lines
  total_most = omega (arith, lines_most g route.arranged (keys_at q k) (origin start) (start.protocol ∷ []) (setting_out route), length_keys q k, route.few)

  pub none_counted : (p : Packet) (m : ℕ) → p ≡ origin start → m ≡ length (decimal start.protocol) → Tallied g (keys_left q k 0) total (record { packet = p; dots = m; size = 0 })
  unfolding dotted
  none_counted p m e f = rw (← keys_all q k, e) (record { stack = start.protocol ∷ []; way = setting_out route; dots = f; sum = omega arith })

  module _ (i n : ℕ) (e : List ℕ) (t : Tally) (h : i < k) (is : e ≡ entries q i) (so : Tallied g (keys_left q k i) n t) where
    taken : Tallied g (key_of e ∷ keys_left q k (i + 1)) n t
    unfolding key_at
    taken = rw (keys_next q k i h, ← is) at so

    pub turn_countable : n ≤ most_lines → Countable g (key_of e) t
    turn_countable few = next_countable g route.arranged (key_of e) (keys_left q k (i + 1)) n t few taken

    pub turn_counted : (r : Tally) → Counted g (key_of e) t r → Tallied g (keys_left q k (i + 1)) n r
    turn_counted r c = next_counted g route.arranged (key_of e) (keys_left q k (i + 1)) n t r taken c

  pub all_counted : (i n : ℕ) (t : Tally) → k ≤ i → Tallied g (keys_left q k i) n t → t.size ≡ n
  unfolding step_lines
  all_counted i n t h so = let a = rw (keys_none q k i h) at so in omega (arith, a.sum)

  pub whole : (w : ℕ) → length (trace (hop_in g) start.node start.protocol (keys_at q k) w) ≡ 7 + length (decimal w) + length (decimal k) + total
  whole w = omega (arith, trace_size (hop_in g) start.node start.protocol (keys_at q k) w, ap (λ (n : ℕ). length (decimal n)) (length_keys q k))
