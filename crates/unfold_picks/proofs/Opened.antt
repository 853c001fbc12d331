-- The record of a tunnel, once it is written, says what the unfolding asks of it. Assumes nothing.
use Prim.Native.Nat.{ℕ, suc, ◌+◌, ◌*◌, ◌/◌, ◌%◌, ◌<◌, ◌≤◌}
use mathlib.Core.Path.{◌≡◌, sym, ◌∙◌}
use mathlib.Core.List.{List}
use mathlib.Core.Logic.{⊎_elim}
use native.Mathlib.Omega.{arith}
use lib.ListN.{length}
use Rattle.paper.specs.Rooms.{laid}
use Rattle.paper.specs.declared.place.Place.{Place}
use Rattle.laws.specs.Unfold.{frame}
use Rattle.laws.proofs.Laid.{laid_before}
use Rattle.network.specs.Arranged.{Arranged}
use Rattle.network.specs.Network.{nodes, protocols, places, place_in}
use Rattle.network.proofs.Steps.{steps_inside}
use Rattle.unfold_frames.specs.Frames.{words_for, blank, mark}
use Rattle.unfold_frames.proofs.Heads.{blank_headed, blank_marks, headed_held}
use Rattle.unfold_frames.proofs.Keeps.{kept_held}
use Rattle.unfold_exits.specs.Cost.{cost}
use Rattle.unfold_exits.specs.Lists.{Ranged}
use Rattle.unfold_exits.specs.declared.lists.Exit.{Exit}
use Rattle.unfold_tries.specs.declared.trial.Spot.{Spot}
use Rattle.unfold_picks.specs.Look.{Outward, Looking}
use Rattle.unfold_picks.specs.Contract.{level_in, KeptIn, Records}
use Rattle.unfold_picks.specs.Opening.{Adds, MeetsOne, Marking, Opening, Writing, Written}
use Rattle.unfold_picks.proofs.Tunnel.{place_parts, listed_opens, opens_listed}
use Rattle.unfold_picks.proofs.Standing.{here_place, look_here, starts}

-- ## Writing

module _ {g : List ℕ} {O : List Exit} {L : List ℕ} {o x : ℕ} {to : Spot} (w : Writing g O L o x to) where
  abbrev a₀ : ℕ
  a₀ = place_in g to.node to.protocol

  pub write_marking : {L' : List ℕ} (size row : ℕ) → size ≡ places g → row + size ≤ size * size → length L' ≡ length L → Marking (places g) O row o L'
  write_marking size row es le el = (record { ranged = w.ranged; row_room = rw es at le; record_room = rw el w.room })

  pub written : {W C L₁ L₂ : List ℕ} (size q a h row k : ℕ) → size ≡ places g → q ≡ words_for size → a ≡ a₀ → h ≡ x → row ≡ a * size → k ≡ cost to.weight to.left
      → L₁ ≡ laid L o (blank q a h to.weight to.left) → Adds (words_for (places g)) o (MeetsOne W C O row k (length O)) L₁ L₂ → Written g W C O L L₂ o x to
  written {W} {C} {L₁} {L₂} size q a h row k es eq ea eh er ek e y =
      let e' : L₁ ≡ laid L o (blank (words_for (places g)) a₀ x to.weight to.left) = rw (eq, es, ea, eh) at e in
      let er' : row ≡ a₀ * places g = rw (ea, es) at er in
      let y' : Adds (words_for (places g)) o (MeetsOne W C O (a₀ * places g) (cost to.weight to.left) (length O)) L₁ L₂ = rw (er', ek) at y in
      let b = blank_headed L L₁ o (words_for (places g)) a₀ x to.weight to.left w.room e' in
      record {
        headed = record {
          at_place = y'.same o (omega arith) ∙ b.at_place;
          at_hidden = y'.same (o + 1) (omega arith) ∙ b.at_hidden;
          at_low = y'.same (o + 2) (omega arith) ∙ b.at_low;
          at_high = y'.same (o + 3) (omega arith) ∙ b.at_high;
          at_steps = y'.same (o + 4) (omega arith) ∙ b.at_steps;
        };
        same = λ i s. y'.same i (omega arith) ∙ rw e' (laid_before L o (blank (words_for (places g)) a₀ x to.weight to.left) i s);
        marks = λ f. (λ s. ⊎_elim (λ i. absurd (blank_marks L L₁ o (words_for (places g)) a₀ x to.weight to.left w.room e' f i)) (λ i. i) (y'.only f s), λ s. y'.new f s);
      }

-- ## Opening

module _ {g W C : List ℕ} {end : Place} {L : List ℕ} {k : ℕ} {at to : Spot} (arranged : Arranged g) (y : Opening g W C end L k at to) where
  -- where the tunnel begins
  inside : (to.node < nodes g) × (to.protocol < protocols g)
  inside = (steps_inside g arranged).inside _ _ _ _ _ _ _ y.wraps

  -- record k begins at entry o, where a record is of q entries
  module _ (q o : ℕ) (eq : q ≡ words_for (places g) + 5) (eo : o ≡ q * k) where
    -- where record k + 1 begins
    next_record : o + q ≡ (words_for (places g) + 5) * suc k
    next_record = omega (arith, eq, starts arranged y.stands q o eq eo)

    pub open_room : o + q + q ≤ length L
    open_room = omega (arith, y.room, next_record, eq)

    pub open_look : Looking g L o at
    open_look = look_here arranged y.stands q o eq eo (omega (arith, y.counts))

    pub open_writing : {O : List Exit} → Ranged (places g) O → Writing g O L (o + q) at.protocol to
    open_writing r = record {
      ranged = r;
      hidden = omega (arith, (here_place arranged y.stands).1, arranged.valid.protocols);
      node = inside.0;
      protocol = inside.1;
      room = omega (arith, open_room, eq);
    }

    module _ {O : List Exit} {L' : List ℕ} (out : Outward g W C L o at.protocol O) (wr : Written g W C O L L' (o + q) at.protocol to) where
      wrote : Written g W C O L L' ((words_for (places g) + 5) * suc k) at.protocol to
      wrote = rw next_record at wr

      listed : Outward g W C L ((words_for (places g) + 5) * k) at.protocol O
      listed = rw (starts arranged y.stands q o eq eo) at out

      pub open_kept : KeptIn g k L L'
      open_kept = record { same = λ i h. sym (wrote.same i h) }

      is_frame : level_in g L' (suc k) ≡ frame (place_in g to.node to.protocol / protocols g) (place_in g to.node to.protocol % protocols g) at.protocol to.weight to.left (λ i l. mark (words_for (places g)) L' ((words_for (places g) + 5) * suc k) (place_in g i l))
      is_frame = headed_held (protocols g) (words_for (places g)) wrote.headed

      pub open_records : Records g W C L' k at.protocol to
      open_records =
          let parts = place_parts (protocols g) to.node to.protocol inside.1 in
          record {
            node = rw is_frame parts.0;
            protocol = rw is_frame parts.1;
            hidden = rw is_frame;
            weighs = rw is_frame;
            counts = rw is_frame;
            exits = λ i l hi hl. rw (is_frame, ← kept_held (protocols g) (words_for (places g)) k open_kept) (
              λ s. listed_opens g arranged W C end.node end.protocol y.stands.exact L ((words_for (places g) + 5) * k) listed.lists to.node to.protocol to.weight to.left y.link_number y.spent y.stands.state.nest y.wraps y.weighs y.counts listed.gathered i l hl ((wrote.marks (place_in g i l)).0 s),
              λ s. (wrote.marks (place_in g i l)).1 (opens_listed g arranged W C end.node end.protocol y.stands.exact L ((words_for (places g) + 5) * k) listed.lists to.node to.protocol to.weight to.left y.link_number y.spent y.stands.state.nest y.wraps y.weighs y.counts listed.gathered i l hi hl s),
            );
          }
