-- Over the rooms: the loop in `level` keeps its invariant, and `level` and `tunnel` ensure what they must if the calls that they make do.
-- Assumes nothing.
use Prim.Native.Nat.{ℕ, zero, suc, ◌+◌, ◌-◌, ◌*◌, ◌<◌, ◌≤◌}
use mathlib.Core.Path.{◌≡◌, refl, sym, ap, ◌∙◌}
use mathlib.Core.List.{List, [], ◌∷◌, ◌++◌}
use mathlib.Core.Option.{Option, some}
use mathlib.Core.Logic.{◌↔◌}
use native.Mathlib.Omega.{arith}
use lib.Dec.{T}
use lib.ListN.{length}
use Rattle.paper.specs.Net.{conv, wrap, unwrap, Key, key}
use Rattle.paper.specs.Rooms.{laid}
use Rattle.paper.specs.Route.{flat}
use Rattle.paper.specs.declared.place.Place.{Place}
use Rattle.laws.specs.Level.{keys, weight}
use Rattle.laws.specs.Value.{Value}
use Rattle.laws.specs.Rest.{Rest, path, price, trail, toll}
use Rattle.laws.specs.Unfold.{Opens, Picked, Passes, wrap_passes, unwrap_passes, Frame, frame, hides, Moved, Levelled}
use Rattle.laws.proofs.Fixpoint.{Valid}
use Rattle.laws.proofs.Greedy.{leads_then, Seen, ended, began, seen}
use Rattle.laws.proofs.Laid.{laid_none}
use Rattle.laws.proofs.Unfold.{level_enter, level_conv, level_close, level_end, inner_left, bottom_unwrap, tunnel_enter, tunnel_close, passes_falls}
use Rattle.laws.proofs.Room.{few_levels, records_fit}
use Rattle.network.specs.Arranged.{Arranged}
use Rattle.network.specs.Network.{nodes, protocols, places, hop_in}
use Rattle.network.proofs.Steps.{steps_inside}
use Rattle.unfold_frames.specs.Frames.{words_for, held_at, below}
use Rattle.unfold_frames.proofs.Keeps.{kept_held, kept_below, kept_none, kept_then, kept_fewer, below_length}
use Rattle.unfold_tries.specs.declared.trial.Spot.{Spot}
use Rattle.unfold_tries.specs.declared.trial.Step.{Step}
use Rattle.unfold_picks.specs.Contract.{table_in, level_in, beneath_in, KeptIn, PickedIn, Records}
use Rattle.unfold_picks.specs.Opening.{Opening}
use Rattle.unfold.specs.declared.course.Course.{Course}
use Rattle.unfold.specs.Contract.{Left, Asks, Went, LevelEnsures, TunnelEnsures}
use Rattle.unfold.proofs.Writes.{wrote_then, TakenAs}

-- ## Steps by their kinds

module _ (hop : Key → ℕ → Option (ℕ × ℕ)) (n p : ℕ) (t : ℕ → ℕ → ℕ → ℕ → Value) where
  wrap_parts : {f : Frame} {gs : List Frame} {v x w m l a e r z u q : ℕ} → Passes hop n p t f gs v x w m (key l wrap a e) r z u q → (cw : ℕ) × (hop (key l wrap x z) v ≡ some (r, cw)) × (w ≡ cw + u) × (m ≡ suc q)
  wrap_parts (wrap_passes l cw h pw pm o) = (cw, h, pw, pm)

  -- an unwrap lays bare what was hidden
  unwrap_bares : {f : Frame} {gs : List Frame} {v x w m l a e r z u q : ℕ} → Passes hop n p t f gs v x w m (key l unwrap a e) r z u q → z ≡ f.hidden
  unwrap_bares (unwrap_passes l cw i h pw pm o) = sym i

-- a rest of no steps is at the end
at_end : {hop : Key → ℕ → Option (ℕ × ℕ)} {D b v x : ℕ} {H : List ℕ} (s : Rest hop D b v x H) → Seen hop D b v x H s → length (path hop D b s) ≡ 0 → (v ≡ D) × (x ≡ b) × (price hop D b s ≡ 0)
unfolding path price keys weight trail toll
at_end s ended h = (refl, refl, refl)
at_end s (began s' i r j) h = absurd (omega (arith, ap (λ (ks : List Key). length ks) j.steps))

-- the course of a route at level k
abbrev pub course_at : Place → (total k : ℕ) → Course
course_at end total k = record { end = end; total = total; level = k }

module _ {g W C : List ℕ} {c : Course} {L Q : List ℕ} {at : Spot} (arranged : Arranged g) (asks : Asks g W C c L Q at) where
  abbrev n : ℕ
  n = nodes g

  abbrev p : ℕ
  p = protocols g

  abbrev hop : Key → ℕ → Option (ℕ × ℕ)
  hop = hop_in g

  abbrev t : (v x u y : ℕ) → Value
  t = table_in g W C

  abbrev words : ℕ
  words = words_for (places g)

  -- the route's end
  abbrev D : ℕ
  D = c.end.node

  abbrev b : ℕ
  b = c.end.protocol

  valid : Valid hop n p
  valid = steps_inside g arranged

  -- a step that is picked leaves one less
  pub picked_falls : {f : Frame} {gs : List Frame} {l : Key} {v x w m r z u q : ℕ} → Picked hop n p t f gs v x w m l r z u q → m ≡ suc q
  picked_falls y = passes_falls hop n p t D b valid asks.stands.exact y.passes

  -- ## The loop in `level`

  pub went_none : Went g W C c L L Q Q at at
  unfolding flat
  went_none = record { ks = []; wrote = sym (laid_none Q (4 * (c.total - at.left))); kept = kept_none p words c.level; moved = level_enter hop n p t D b valid asks.stands.exact asks.stands.state }

  -- a step of the level's own
  pub went_conv : {Q' : List ℕ} {s : Step} → TakenAs g W C L c.level at s conv → Q' ≡ laid Q (4 * (c.total - at.left)) s.key → Went g W C c L L Q Q' at s.to
  went_conv y e = record {
    ks = key y.l conv y.a y.e ∷ [];
    wrote = rw y.spelled at e;
    kept = kept_none p words c.level;
    moved = level_conv hop n p t D b valid asks.stands.exact (level_enter hop n p t D b valid asks.stands.exact asks.stands.state) y.picked;
  }

  module _ {L' Q' : List ℕ} {here : Spot} (i : Went g W C c L L' Q Q' at here) where
    -- the levels open are what they were
    levels_same : (level_in g L c.level ≡ level_in g L' c.level) × (beneath_in g L c.level ≡ beneath_in g L' c.level)
    levels_same = (kept_held p words c.level i.kept, kept_below p words c.level i.kept)

    pub went_then : {L'' Q'' : List ℕ} {r : Spot} → Went g W C c L' L'' Q' Q'' here r → Went g W C c L L'' Q Q'' at r
    went_then {r = r} j =
        let m : Moved hop n p t D b (level_in g L c.level) (beneath_in g L c.level) here.node here.protocol here.weight here.left j.ks (level_in g L c.level) (beneath_in g L c.level) r.node r.protocol r.weight r.left = rw (levels_same.0, levels_same.1) j.moved in
        record {
          ks = i.ks ++ j.ks;
          wrote = wrote_then Q i.ks j.ks c.total at.left here.left asks.fits i.moved.leads.counts i.wrote j.wrote;
          kept = kept_then p words i.kept j.kept;
          moved = record { leads = leads_then hop D b i.moved.leads m.leads; state = m.state };
        }

    -- what the loop knows of where it stands, over the rooms as they are now
    pub went_asks : length L' ≡ length L → length Q' ≡ length Q → Asks g W C c L' Q' here
    went_asks eL eQ = record {
      stands = record {
        exact = asks.stands.exact;
        room = rw eL asks.stands.room;
        state = rw (levels_same.0, levels_same.1) at i.moved.state;
      };
      fits = omega (arith, asks.fits, i.moved.leads.counts);
      choices = rw eL asks.choices;
      steps = rw eQ asks.steps;
    }

  -- ## `tunnel`

  module _ {s : Step} (y : TakenAs g W C L c.level at s wrap) where
    -- a wrap that is picked has room for its record, and opens a tunnel
    record_fits : (words + 5) * suc (suc c.level) ≤ 8 * (places g * places g)
    record_fits =
        let i = few_levels hop n p t D b valid asks.stands.exact asks.stands.state.nest y.picked.passes in
        let j = below_length p words L c.level in
        records_fit (places g) words (suc c.level) (omega arith) (omega (arith, i.0)) (omega (arith, i.1))

    pub tunnel_opens : Opening g W C c.end L c.level at s.to
    tunnel_opens =
        let (cw, h, pw, pm) = wrap_parts hop n p t y.picked.passes in
        record { stands = asks.stands; link_number = y.l; spent = cw; wraps = h; weighs = pw; counts = pm; room = omega (arith, record_fits, asks.choices) }

    -- the wrap and the record written, `level` may be called, and `tunnel` has then done its part
    module _ {L₁ : List ℕ} (kept : KeptIn g c.level L L₁) (h : Records g W C L₁ c.level at.protocol s.to) where
      inner : Frame
      inner = frame s.to.node s.to.protocol at.protocol s.to.weight s.to.left (level_in g L₁ (suc c.level)).exits

      is_inner : level_in g L₁ (suc c.level) ≡ inner
      unfolding inner held_at
      is_inner = cc (h.node, h.protocol, h.hidden, h.weighs, h.counts)

      exits_found : (i j : ℕ) → i < n → j < p → T (inner.exits i j) ↔ Opens hop n p t (level_in g L c.level) at.protocol s.to.node s.to.protocol s.to.weight s.to.left i j
      unfolding inner
      exits_found i j hi hj = rw (kept_held p words c.level kept) (h.exits i j hi hj)

      pub tunnel_calls : {Q₁ : List ℕ} → length L₁ ≡ length L → length Q₁ ≡ length Q → Asks g W C (course_at c.end c.total (suc c.level)) L₁ Q₁ s.to
      unfolding below inner
      tunnel_calls eL eQ = record {
        stands = record {
          exact = asks.stands.exact;
          room = omega (arith, record_fits, asks.choices);
          state = rw (is_inner, ← kept_held p words c.level kept, ← kept_below p words c.level kept) (tunnel_enter hop n p t D b valid asks.stands.exact inner.exits exits_found asks.stands.state y.picked);
        };
        fits = omega (arith, asks.fits, picked_falls y.picked);
        choices = rw eL asks.choices;
        steps = rw eQ asks.steps;
      }

      pub tunnel_done : {L₂ Q₁ Q₂ : List ℕ} {r : Spot} → Q₁ ≡ laid Q (4 * (c.total - at.left)) s.key → LevelEnsures g W C (course_at c.end c.total (suc c.level)) L₁ L₂ Q₁ Q₂ s.to r → TunnelEnsures g W C c L L₂ Q Q₂ at r
      unfolding below inner Left
      tunnel_done {r = r} e i =
          let i' : Levelled hop n p t D b inner (level_in g L c.level ∷ beneath_in g L c.level) s.to.node s.to.protocol s.to.weight s.to.left i.ks r.node r.weight r.left = rw (kept_held p words c.level kept, kept_below p words c.level kept, ← is_inner) i.does in
          let close = tunnel_close hop n p t D b valid asks.stands.exact inner.exits exits_found asks.stands.state y.picked i' in
          let leaves : r.protocol ≡ at.protocol = i.leaves ∙ h.hidden in
          record {
            went = record {
              ks = key y.l wrap y.a y.e ∷ i.ks;
              wrote = wrote_then Q (key y.l wrap y.a y.e ∷ []) i.ks c.total at.left s.to.left asks.fits (omega (arith, picked_falls y.picked)) (rw y.spelled at e) i.wrote;
              kept = kept_then p words kept (kept_fewer p words i.kept);
              moved = rw leaves close;
            };
            less = omega (arith, close.leads.counts);
            leaves = leaves;
          }

-- ## The end of a level

module _ {g W C : List ℕ} (arranged : Arranged g) (end : Place) (total : ℕ) where
  -- the unwrap that closes the level
  pub level_closes : (k : ℕ) {L L' Q Q' Q'' : List ℕ} {at here : Spot} {s : Step} → Asks g W C (course_at end total k) L Q at → Went g W C (course_at end total k) L L' Q Q' at here
      → TakenAs g W C L' k here s unwrap → Q'' ≡ laid Q' (4 * (total - here.left)) s.key → LevelEnsures g W C (course_at end total k) L L' Q Q'' at s.to
  unfolding below Left
  level_closes zero asks i y e = absurd (bottom_unwrap (hop_in g) (nodes g) (protocols g) (table_in g W C) end.node end.protocol (valid arranged asks) asks.stands.exact y.picked.passes)
  level_closes (suc k) {L} {Q = Q} {at = at} {here} {s} asks i y e =
      let y' : PickedIn g W C L (suc k) here (key y.l unwrap y.a y.e) s.to = rw ((levels_same arranged asks i).0, (levels_same arranged asks i).1) y.picked in
      record {
        ks = i.ks ++ key y.l unwrap y.a y.e ∷ [];
        wrote = wrote_then Q i.ks (key y.l unwrap y.a y.e ∷ []) total at.left here.left asks.fits i.moved.leads.counts i.wrote (rw y.spelled at e);
        kept = i.kept;
        does = level_close (hop_in g) (nodes g) (protocols g) (table_in g W C) end.node end.protocol (valid arranged asks) asks.stands.exact i.moved y';
        leaves = unwrap_bares (hop_in g) (nodes g) (protocols g) (table_in g W C) y'.passes;
      }

  -- the end, which is at the bottom level
  pub level_ends : (k : ℕ) {L L' Q Q' : List ℕ} {at here : Spot} → Asks g W C (course_at end total k) L Q at → Went g W C (course_at end total k) L L' Q Q' at here → here.left ≡ 0 → LevelEnsures g W C (course_at end total k) L L' Q Q' at here
  unfolding below hides Left
  level_ends zero {here = here} asks i e =
      let goes = i.moved.state.goes in
      let (ev, ex, ew) = at_end goes.by (seen (hop_in g) end.node end.protocol goes.by) (goes.counts ∙ e) in
      record {
        ks = i.ks;
        wrote = i.wrote;
        kept = i.kept;
        does = level_end (hop_in g) (nodes g) (protocols g) (table_in g W C) end.node end.protocol (valid arranged asks) asks.stands.exact (rw e at i.moved);
        leaves = (ev, ex, sym goes.weighs ∙ ew, e);
      }
  level_ends (suc k) asks i e = absurd (omega (arith, inner_left (hop_in g) (nodes g) (protocols g) (table_in g W C) end.node end.protocol (valid arranged asks) asks.stands.exact i.moved.state))
