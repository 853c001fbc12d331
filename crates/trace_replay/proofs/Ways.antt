-- A route under way: what its next step asks, where that step leads, and that the rest is then under way. Assumes nothing.
use Prim.Native.Nat.{ℕ, ◌+◌, ◌*◌, ◌<◌, ◌≤◌}
use mathlib.Core.Path.{◌≡◌, refl, sym, ap, ◌∙◌}
use mathlib.Core.List.{List, [], ◌∷◌}
use mathlib.Core.Option.{Option, none, some, none-ne-some}
use native.Mathlib.Nat.{le_refl}
use native.Mathlib.Omega.{arith}
use lib.ListN.{length, get_or}
use Rattle.paper.specs.Limits.{longest}
use Rattle.paper.specs.Net.{Kind, conv, wrap, unwrap, Key, key}
use Rattle.paper.specs.Route.{At, at, act, move, then, step, replay, Feasible}
use Rattle.paper.specs.declared.place.Place.{Place}
use Rattle.laws.specs.Peak.{height, onward, peak}
use Rattle.laws.proofs.Parse.{Stepped, stepped}
use Rattle.laws.proofs.Depth.{peak_half}
use Rattle.network_records.specs.Columns.{kind_of_code}
use Rattle.trace_stack.specs.Items.{highest, beneath, acted, height_after}
use Rattle.trace_stack.proofs.Cells.{act_acted}
use Rattle.network.specs.Network.{nodes, hop_in, Within}
use Rattle.network.specs.Arranged.{Arranged}
use Rattle.network.proofs.Steps.{found, steps_inside}
use Rattle.trace_replay.specs.declared.packet.Packet.{Packet}
use Rattle.trace_replay.specs.Keys.{key_of, keys_at}
use Rattle.trace_replay.specs.Packet.{most_step, arrived, after, origin, Here, Runs, Underway, Route}
use Rattle.trace_replay.proofs.Entries.{length_keys}

-- ## The stack

-- a function acts on a stack that holds something
act_some : (c : Kind) (x y : ℕ) (s t : List ℕ) → act c x y s ≡ some t → 1 ≤ length s
unfolding act
act_some conv x y [] t e = absurd (none-ne-some t e)
act_some wrap x y [] t e = absurd (none-ne-some t e)
act_some unwrap x y [] t e = absurd (none-ne-some t e)
act_some c x y (z ∷ s) t e = omega arith

height_acted : (c : Kind) (y : ℕ) (s : List ℕ) → 1 ≤ length s → length (acted c y s) ≡ height_after c (length s)
unfolding acted beneath height_after
height_acted c y [] h = absurd (omega arith)
height_acted conv y (z ∷ s) h = refl
height_acted wrap y (z ∷ s) h = omega arith
height_acted unwrap y (z ∷ s) h = omega arith

-- ## A run

here_low : (hop : Key → ℕ → Option (ℕ × ℕ)) (ks : List Key) (c : At) → height c ≤ peak hop ks c
unfolding peak
here_low hop [] c = le_refl (height c)
here_low hop (k ∷ ks) c = omega arith

runs_next : (hop : Key → ℕ → Option (ℕ × ℕ)) (k : Key) (ks : List Key) (c d : At) → Runs hop (k ∷ ks) c → step hop k c ≡ some d → Runs hop ks d
unfolding replay then peak onward
runs_next hop k ks c d r e = record { last = r.last; goes = rw e at r.goes; low = omega (arith, rw e at r.low) }

-- ## One step

module _ (g k : List ℕ) (p : Packet) where
  pub stays : none ≡ hop_in g (key_of k) p.node → p ≡ after g (key_of k) p
  unfolding key_of after arrived
  stays e = rw (← e)

  pub arrives : (u w h : ℕ) → some (u, w) ≡ hop_in g (key_of k) p.node → h ≡ height_after (kind_of_code (get_or k 1 0)) p.height
      → record { node = u; height = h; spent = p.spent + w } ≡ after g (key_of k) p
  unfolding key_of after arrived
  arrives u w h e f = rw (← e, ← f)

module _ (g : List ℕ) (o : Arranged g) where
  hop_most : (l : ℕ) (c : Kind) (x y v u w : ℕ) → hop_in g (key l c x y) v ≡ some (u, w) → w ≤ most_step
  hop_most l c x y v u w e =
      let f = found g o l c x y v u w e in
      omega (arith, f.has_weight, o.valid.fun_weight f.j f.of_fun, o.valid.link_weight f.i f.of_link)

  pub after_inside : (k : Key) (p : Packet) → p.node < nodes g → (after g k p).node < nodes g
  unfolding after arrived
  after_inside (key l c x y) p h = go (hop_in g (key l c x y) p.node) refl
    where
      go : (r : Option (ℕ × ℕ)) → hop_in g (key l c x y) p.node ≡ r → (arrived (height_after c p.height) p r).node < nodes g
      go none e = h
      go (some r) e = ((steps_inside g o).inside l c x y p.node r.0 r.1 e).0

  -- the step of the key l, c, x, y goes from p with the stack s
  pub record Going (l : ℕ) (c : Kind) (x y : ℕ) (p : Packet) (s : List ℕ) : Type 0 where
    pub acts : act c x y s ≡ some (acted c y s)
    pub goes : step (hop_in g) (key l c x y) (at p.node s p.spent) ≡ some (at (after g (key l c x y) p).node (acted c y s) (after g (key l c x y) p).spent)
    pub here : Here g p
    pub top : y < 256

  module _ (l : ℕ) (c : Kind) (x y : ℕ) (ks : List Key) (p : Packet) (s : List ℕ) (way : Underway g (key l c x y ∷ ks) p s) where
    abbrev k : Key
    k = key l c x y

    abbrev r : Packet
    r = after g k p

    hopped : Stepped (hop_in g) l c x y p.node s p.spent (λ d. replay (hop_in g) ks d) way.runs.last
    unfolding replay
    hopped = stepped (hop_in g) l c x y p.node s p.spent (λ d. replay (hop_in g) ks d) way.runs.last way.runs.goes

    after_is : r ≡ record { node = hopped.to; height = height_after c p.height; spent = p.spent + hopped.cost }
    unfolding after arrived
    after_is = rw hopped.hops

    pub going : Going l c x y p s
    unfolding step move height
    going =
        let e = act_acted c x y s hopped.stack hopped.acts in
        record {
          acts = hopped.acts ∙ ap some (sym e);
          goes = rw (after_is, hopped.hops, hopped.acts, e);
          here = record {
            inside = way.inside;
            some_top = omega (arith, way.tall, act_some c x y s hopped.stack hopped.acts);
            held = omega (arith, way.tall, way.runs.low, here_low (hop_in g) (k ∷ ks) (at p.node s p.spent));
            spent = omega (arith, way.spent);
          };
          top = omega (arith, ((steps_inside g o).inside l c x y p.node hopped.to hopped.cost hopped.hops).1, o.valid.protocols);
        }

    pub on : Underway g ks r (acted c y s)
    on = record {
      runs = runs_next (hop_in g) k ks (at p.node s p.spent) (at r.node (acted c y s) r.spent) way.runs going.goes;
      inside = after_inside k p way.inside;
      tall = ap (λ (z : Packet). z.height) after_is ∙ ap (λ (z : ℕ). height_after c z) way.tall ∙ sym (height_acted c y s (act_some c x y s hopped.stack hopped.acts));
      spent = omega (arith, ap (λ (z : Packet). z.spent) after_is, hop_most l c x y p.node hopped.to hopped.cost hopped.hops, way.spent);
    }

  pub held : (ks : List Key) (p : Packet) (s : List ℕ) → Underway g ks p s → (p.height ≤ highest) × (p.node < 256)
  unfolding height
  held ks p s way = (omega (arith, way.tall, way.runs.low, here_low (hop_in g) ks (at p.node s p.spent)), omega (arith, way.inside, o.valid.nodes))

-- ## A whole route

pub setting_out : {g : List ℕ} {start : Place} {q : List ℕ} {k : ℕ} → Route g start q k → Underway g (keys_at q k) (origin start) (start.protocol ∷ [])
setting_out {q = q} {k = k} route = record { runs = route.runs; inside = route.within.0; tall = refl; spent = omega (arith, length_keys q k, route.few) }

-- a feasible route meets no stack higher than the cells
pub feasible_route : (g : List ℕ) (start : Place) (q : List ℕ) (k D b w : ℕ) → Arranged g → Within g start → k ≤ longest → 4 * k ≤ length q
    → Feasible (hop_in g) start.node start.protocol D b (keys_at q k) w → Route g start q k
feasible_route g start q k D b w o within few room f = record {
  arranged = o;
  within = within;
  few = few;
  room = room;
  runs = record { last = at D (b ∷ []) w; goes = f.runs; low = peak_half (hop_in g) start.node start.protocol D b (keys_at q k) w f (omega (arith, length_keys q k)) };
}
