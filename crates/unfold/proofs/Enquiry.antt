-- The enquiry: the bottom level's record is written, its level is unfolded, and the best route stands in the step room. Assumes nothing.
use Prim.Native.Nat.{ℕ, ◌+◌, ◌-◌, ◌*◌, ◌/◌, ◌%◌, ◌<◌, ◌≤◌}
use mathlib.Core.Path.{◌≡◌, sym, ap, ◌∙◌}
use mathlib.Core.Bool.{Bool}
use mathlib.Core.List.{List, [], ◌++◌}
use mathlib.Core.Option.{Option}
use mathlib.Core.Logic.{◌↔◌, ⊎_elim}
use native.Mathlib.Omega.{arith}
use native.Mathlib.Nat.{le_refl, div-add-mod, mul-le-mul, mul-le-mul_right}
use lib.Dec.{T}
use lib.ListN.{length, take, drop, replicate, length-append, length-replicate, length-take}
use lib.Seq.{sets-eq, drop_at}
use borrow.Author.Tests.{le-leb}
use Rattle.paper.specs.Limits.{heaviest}
use Rattle.paper.specs.Net.{Key}
use Rattle.paper.specs.Rooms.{laid}
use Rattle.paper.specs.declared.place.Place.{Place}
use Rattle.laws.specs.Value.{within}
use Rattle.laws.specs.Unfold.{Frame, frame, Levelled}
use Rattle.laws.proofs.Fixpoint.{Valid}
use Rattle.laws.proofs.Laid.{length_laid}
use Rattle.laws.proofs.Unfold.{start as begin, unfold_best}
use Rattle.network.specs.Arranged.{Arranged}
use Rattle.network.specs.Network.{nodes, protocols, places, hop_in, place_in, number_of, Within}
use Rattle.network.proofs.Steps.{steps_inside}
use Rattle.unfold_frames.specs.Frames.{words_for, blank, mark, with_mark, held_at, below}
use Rattle.unfold_frames.proofs.Marks.{mark_new, mark_old}
use Rattle.unfold_frames.proofs.Heads.{blank_headed, blank_marks, marked_headed, headed_held}
use Rattle.tables_costs.specs.Cells.{value, value_at, table}
use Rattle.paper.proofs.Places.{place_lt}
use Rattle.unfold_tries.specs.declared.trial.Spot.{Spot}
use Rattle.unfold_picks.specs.Contract.{table_in, level_in}
use Rattle.unfold_picks.proofs.Tunnel.{place_parts}
use Rattle.unfold.specs.Contract.{Asks, LevelEnsures}
use Rattle.unfold.specs.Unfolded.{weighs_in, counts_in, Unfolds, Route, Bottomed}
use Rattle.unfold.proofs.Contract.{course_at}

-- ## The enquiry's entry

module _ {m size : ℕ} (es : size ≡ m) (row e : ℕ) where
  pub entry_below : row + size ≤ size * size → e < m → row + e < m * m
  entry_below h k = let h' : row + m ≤ m * m = rw es at h in omega arith

  pub entry_is : {f a b : ℕ} → f ≡ a → row ≡ f * size → e ≡ b → row + e ≡ a * m + b
  entry_is ef er ee = rw (er, es, ef, ee)

-- ## The bottom level's record

pub bottomed : {g : List ℕ} {start end : Place} (L : List ℕ) {L₁ L₂ : List ℕ} {w s : ℕ} (size q f e : ℕ) → Within g end → 5 + words_for (places g) ≤ length L → size ≡ places g → q ≡ words_for size → f ≡ number_of g start → e ≡ number_of g end
    → L₁ ≡ laid L 0 (blank q f 0 w s) → L₂ ≡ with_mark L₁ 0 e → Bottomed g start end L₂ w s
bottomed {g} {start} {end} L {L₁} {L₂} {w} {s} size q f e to room es eq ef ee e₁ e₂ =
    let words = words_for (places g) in
    let e₁' : L₁ ≡ laid L 0 (blank words (number_of g start) 0 w s) = rw (eq, es, ef) at e₁ in
    let e₂' : L₂ ≡ with_mark L₁ 0 (number_of g end) = rw ee at e₂ in
    let below : number_of g end < places g = place_lt (nodes g) (protocols g) end.node end.protocol to.0 to.1 in
    let fits : 0 + 5 + number_of g end / 16 < length L₁ = rw e₁' (omega (arith, length_laid L 0 (blank words (number_of g start) 0 w s), div-add-mod (number_of g end) 16)) in
    record {
      headed = marked_headed (number_of g end) e₂' (blank_headed L L₁ 0 words (number_of g start) 0 w s (omega arith) e₁');
      marks = λ i. (
        λ k. ⊎_elim (λ h. h) (λ h. absurd (blank_marks L L₁ 0 words (number_of g start) 0 w s (omega arith) e₁' i h)) (mark_old words L₁ 0 (number_of g end) fits i (rw e₂' at k)),
        λ h. rw (h, e₂') (mark_new words L₁ 0 (number_of g end) fits (omega arith)),
      );
    }

module _ {g W C : List ℕ} {start end : Place} {L Q : List ℕ} (arranged : Arranged g) (y : Unfolds g W C start end L Q) where
  abbrev hop : Key → ℕ → Option (ℕ × ℕ)
  hop = hop_in g

  abbrev n : ℕ
  n = nodes g

  abbrev p : ℕ
  p = protocols g

  abbrev words : ℕ
  words = words_for (places g)

  -- the enquiry's weight and steps
  abbrev w₀ : ℕ
  w₀ = weighs_in g W C start end

  abbrev s₀ : ℕ
  s₀ = counts_in g W C start end

  -- where it begins, with w, s left
  abbrev from_start : (w s : ℕ) → Spot
  from_start w s = record { node = start.node; protocol = start.protocol; weight = w; left = s }

  is_entry : table_in g W C start.node start.protocol end.node end.protocol ≡ within w₀ s₀
  unfolding table value_at value
  is_entry = rw (le-leb w₀ heaviest y.light)

  valid : Valid hop n p
  valid = steps_inside g arranged

  -- record 0 has its room
  pub bottom_room : 5 + words ≤ length L
  bottom_room =
      let some : 1 ≤ places g = mul-le-mul arranged.valid.some_node arranged.valid.some_protocol in
      omega (arith, y.choices, mul-le-mul_right (places g) some)

  -- `level` may be called, and has then written the best route
  module _ {L₁ : List ℕ} (b : Bottomed g start end L₁ w₀ s₀) where
    abbrev hides : ℕ
    hides = (level_in g L₁ 0).hidden

    abbrev exits : (i j : ℕ) → Bool
    exits = (level_in g L₁ 0).exits

    is_bottom : level_in g L₁ 0 ≡ frame start.node start.protocol hides w₀ s₀ exits
    unfolding held_at
    is_bottom =
        let z : (words + 5) * 0 ≡ 0 = omega arith in
        let e : level_in g L₁ 0 ≡ frame (number_of g start / p) (number_of g start % p) 0 w₀ s₀ (λ i j. mark words L₁ 0 (place_in g i j)) = rw z (headed_held p words b.headed) in
        let parts = place_parts p start.node start.protocol y.from.1 in
        cc (ap (λ (f : Frame). f.node) e ∙ parts.0, ap (λ (f : Frame). f.protocol) e ∙ parts.1, ap (λ (f : Frame). f.weighs) e, ap (λ (f : Frame). f.counts) e)

    one_exit : (i j : ℕ) → i < n → j < p → T (exits i j) ↔ ((i ≡ end.node) × (j ≡ end.protocol))
    unfolding held_at
    one_exit i j hi hj =
        let z : (words + 5) * 0 ≡ 0 = omega arith in
        let m = place_parts p i j hj in
        let d = place_parts p end.node end.protocol y.to.1 in
        rw z (
          λ k. let e = (b.marks (place_in g i j)).0 k in (sym m.0 ∙ ap (λ (e : ℕ). e / p) e ∙ d.0, sym m.1 ∙ ap (λ (e : ℕ). e % p) e ∙ d.1),
          λ k. (b.marks (place_in g i j)).1 (rw (k.0, k.1)),
        )

    bottom_asks : length L₁ ≡ length L → Asks g W C (course_at end s₀ 0) L₁ Q (from_start w₀ s₀)
    unfolding below
    bottom_asks e = record {
      stands = record {
        exact = y.exact;
        room = rw e (omega (arith, bottom_room));
        state = rw is_bottom (begin hop n p (table_in g W C) end.node end.protocol valid y.exact hides exits one_exit y.from.0 y.from.1 y.to.0 y.to.1 is_entry y.short);
      };
      fits = le_refl s₀;
      choices = rw e y.choices;
      steps = y.steps;
    }

    bottom_done : {L₂ Q' : List ℕ} {r : Spot} → LevelEnsures g W C (course_at end s₀ 0) L₁ L₂ Q Q' (from_start w₀ s₀) r → Route g W C start end Q Q'
    unfolding below
    bottom_done {r = r} h =
        let i : 4 * (s₀ - s₀) ≡ 0 = omega arith in
        let h' : Levelled hop n p (table_in g W C) end.node end.protocol (frame start.node start.protocol hides w₀ s₀ exits) [] start.node start.protocol w₀ s₀ h.ks r.node r.weight r.left = rw is_bottom at h.does in
        let e = unfold_best hop n p (table_in g W C) end.node end.protocol valid y.exact hides exits one_exit y.from.0 y.from.1 y.to.0 y.to.1 is_entry y.short h' in
        record { ks = h.ks; best = e.0; steps = e.1; wrote = rw i at h.wrote }

  -- the same, with the entry as it was read
  module _ (w s : ℕ) (ew : w ≡ w₀) (es : s ≡ s₀) {L₁ : List ℕ} (b : Bottomed g start end L₁ w s) where
    bottom : Bottomed g start end L₁ w₀ s₀
    bottom = rw (ew, es) at b

    pub route_asks : length L₁ ≡ length L → Asks g W C (course_at end s 0) L₁ Q (from_start w s)
    route_asks h = rw (ew, es) (bottom_asks bottom h)

    pub route_done : {L₂ Q' : List ℕ} {r : Spot} → LevelEnsures g W C (course_at end s 0) L₁ L₂ Q Q' (from_start w s) r → Route g W C start end Q Q'
    route_done h = bottom_done bottom (rw (ew, es) at h)

  -- ## The choice room

  pub part_asks : {L' : List ℕ} → 8 * (places g * places g) ≤ length L' → Unfolds g W C start end L' Q
  part_asks h = record {
    exact = y.exact;
    from = y.from;
    to = y.to;
    light = y.light;
    short = y.short;
    weights = y.weights;
    counts = y.counts;
    choices = h;
    steps = y.steps;
  }

-- a text laid over the beginning of two rooms that agree past it
pub laid_alike : (d e s : List ℕ) → length s ≤ length d → length s ≤ length e → drop (length s) d ≡ drop (length s) e → laid d 0 s ≡ laid e 0 s
unfolding laid
laid_alike d e s hd he q =
    let z : 0 + length s ≡ length s = omega arith in
    sets-eq s d 0 (omega arith) ∙ (rw (z, q)) ∙ sym (rw z at (sets-eq s e 0 (omega arith)))

-- zeros laid over a room of which a part, of m entries as they were reckoned, was lent: what became of the part does not matter
pub part_cleared : (L P : List ℕ) (a k : ℕ) {m : ℕ} → a ≡ m → k ≡ a → m ≤ length L → length P ≡ length (take k L) → laid (P ++ drop k L) 0 (replicate a 0) ≡ laid L 0 (replicate m 0)
part_cleared L P a k {m} ea e h q =
    let r = length-replicate {A = ℕ} m 0 in
    let l : length P ≡ k = omega (arith, q, length-take k L) in
    rw ea (laid_alike (P ++ drop k L) L (replicate m 0) (omega (arith, length-append P (drop k L))) (omega arith) (rw (r, ← (e ∙ ea)) (drop_at P (drop k L) k l)))

-- the entries of the choice room that serve, as they are reckoned
pub room_is : {m size : ℕ} → size ≡ m → 8 * (size * size) ≡ 8 * (m * m)
room_is e = rw e
