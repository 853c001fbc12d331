-- One line taken, on top of those above it: the fold goes on by one line, and the rooms hold what is kept. Assumes nothing.
use mathlib.Core.Path.{◌≡◌, refl, sym, ap, ◌∙◌}
use mathlib.Core.List.{List, [], ◌∷◌}
use Prim.Native.Nat.{ℕ, suc, ◌+◌, ◌≤◌, ◌<◌}
use native.Mathlib.Omega.{arith}
use native.Mathlib.Nat.{mul-le-mul_right, le_trans}
use native.Mathlib.Numerals.{add-one}
use lib.ListN.{length, drop}
use Rattle.std.specs.Prelude.{Result, Ok, Err}
use Rattle.std.proofs.lemmas.List.{drop_all}
use Rattle.paper.specs.Net.{Net, net}
use Rattle.paper.specs.Text.{Line, ended, cut, fields, lines, lines_on}
use Rattle.paper.specs.File.{shaped, shape, Kept, bad, good, header, put, onward, from_top, refused, accepted}
use Rattle.paper.specs.Faults.{number_of}
use Rattle.paper.specs.declared.fault.Fault.{Fault}
use Rattle.paper.specs.declared.fault.Refusal.{Refusal}
use Rattle.laws.proofs.Fold.{onward_bad}
use Rattle.network_records.specs.declared.Size.{Size}
use Rattle.network_records.specs.Columns.{link_width, fun_width, link_key_width, fun_key_width, link_room, fun_room, link_at, fun_at, link_rows, fun_rows, net_of}
use Rattle.network_records.proofs.Rows.{rows_none}
use Rattle.file_cursor.specs.Line.{Whole, Cut}
use Rattle.file_keep.specs.Keep.{Past}
use Rattle.file_keep.proofs.Records.{past_none, coded_none, in_order_none}
use Rattle.file_read.specs.Judge.{kept_of, refused_at, Bare, Held, Untouched, Grown}

-- ## The rooms

held_bare : (y : Size) (ls fs : List ℕ) → Bare y → link_room ≤ length ls → fun_room ≤ length fs → Held y ls fs
held_bare y ls fs o h g =
    record {
      nodes = o.nodes;
      protocols = o.protocols;
      links = rw o.no_links (in_order_none link_width link_key_width ls h);
      funs = rw o.no_funs (in_order_none fun_width fun_key_width fs g);
      codes = rw o.no_funs (coded_none fs);
    }

untouched_none : (z : Size) (ls fs : List ℕ) → Untouched z ls ls fs fs
untouched_none z ls fs = record { past_links = past_none link_width z.links ls; past_funs = past_none fun_width z.funs fs }

past_then : (w n m : ℕ) (a b c : List ℕ) → n ≤ m → Past w n a b → Past w m b c → Past w m a c
past_then w n m a b c h p q =
    record { untouched = λ j g. q.untouched j g ∙ p.untouched j (le_trans (mul-le-mul_right {m = n} {n = m} w h) g) }

untouched_then : (y z : Size) (ls ms ns fs gs hs : List ℕ) → y.links ≤ z.links → y.funs ≤ z.funs → Untouched y ls ms fs gs → Untouched z ms ns gs hs → Untouched z ls ns fs hs
untouched_then y z ls ms ns fs gs hs h g p q =
    record {
      past_links = past_then link_width y.links z.links ls ms ns h p.past_links q.past_links;
      past_funs = past_then fun_width y.funs z.funs fs gs hs g p.past_funs q.past_funs;
    }

-- the network of the first line alone, whatever is in the rooms
pub bare_net : (n p : ℕ) (ls fs : List ℕ) → net n p [] [] ≡ net_of (record { nodes = n; protocols = p; links = 0; funs = 0 }) ls fs
unfolding net_of link_rows fun_rows
bare_net n p ls fs = sym (rw (rows_none (link_at ls) 0, rows_none (fun_at fs) 0))

-- ## The fold

module _ (l : List ℕ) (a : ℕ) where
  module _ (text : List ℕ) (b : ℕ) (w : Whole l a text b) where
    pub whole_on : (i : ℕ) (k : Net) (r : Kept) → put k (shaped (fields text)) ≡ r → onward i (lines (drop a l)) (good k) ≡ onward (i + 1) (lines (drop b l)) r
    unfolding onward shape
    whole_on i k r e = rw w.first (ap (λ (q : Kept). onward (suc i) (lines (drop b l)) q) e ∙ ap (λ (j : ℕ). onward j (lines (drop b l)) r) (sym (add-one i)))

    pub whole_top : (r : Kept) → a ≡ 0 → header (shaped (fields text)) ≡ r → from_top (lines l) ≡ onward 1 (lines (drop b l)) r
    unfolding from_top shape
    whole_top r z e = let f : lines l ≡ ended text ∷ lines (drop b l) = rw z at w.first in rw (f, e)

  pub cut_on : (i d : ℕ) (k : Net) (xs : List Line) → d ≡ 2 → Cut l a → a < length l → onward i (lines (drop a l)) (good k) ≡ onward (i + 1) xs (bad d)
  unfolding onward shape put
  cut_on i d k xs z c h = rw (c h, z) (ap (λ (j : ℕ). refused 2 j) (sym (add-one i)) ∙ sym (onward_bad (i + 1) 2 xs))

  pub cut_top : (d : ℕ) (xs : List Line) → a ≡ 0 → d ≡ 2 → Cut l a → from_top (lines l) ≡ onward 1 xs (bad d)
  unfolding from_top header shape lines lines_on
  cut_top d xs z y c = go l refl
    where
      go : (m : List ℕ) → m ≡ l → from_top (lines l) ≡ onward 1 xs (bad d)
      go [] e = rw (← e, y) (sym (onward_bad 1 2 xs))
      go (b ∷ m) e =
          let h : 0 < length l = rw (← e) (omega arith) in
          let f : lines l ≡ cut l ∷ [] = rw z at c h in
          rw (f, y) (onward_bad 1 2 [] ∙ sym (onward_bad 1 2 xs))

-- ## The lines, one after another

-- the lines of l before byte a, i of them, come to z in ms and gs, which were ls and fs
pub record Stands (l ls fs : List ℕ) (i a : ℕ) (z : Size) (ms gs : List ℕ) : Type 0 where
  pub within : a ≤ length l
  -- a line is a byte at least, so that the lines can be counted
  pub counted : i ≤ a
  pub on : from_top (lines l) ≡ onward i (lines (drop a l)) (good (net_of z ms gs))
  pub held : Held z ms gs
  pub past : Untouched z ls ms fs gs

pub stands_first : (l ls fs : List ℕ) (a : ℕ) (z : Size) → link_room ≤ length ls → fun_room ≤ length fs → Bare z → 0 < a → a ≤ length l
    → from_top (lines l) ≡ onward 1 (lines (drop a l)) (good (net_of z ls fs)) → Stands l ls fs 1 a z ls fs
stands_first l ls fs a z h g o m n e = record { within = n; counted = m; on = e; held = held_bare z ls fs o h g; past = untouched_none z ls fs }

pub header_off : (l ls fs : List ℕ) (t : Result Size Fault) (r : Refusal) (xs : List Line) → from_top (lines l) ≡ onward 1 xs (kept_of t ls fs)
    → (t ≡ Err r.fault) × (r.line ≡ 1) → refused (number_of r.fault) r.line ≡ from_top (lines l)
header_off l ls fs t r xs e f = rw f.1 (sym ((rw f.0 at e) ∙ onward_bad 1 (number_of r.fault) xs))

module _ (l ls fs : List ℕ) (i a : ℕ) (z : Size) (ms gs : List ℕ) (s : Stands l ls fs i a z ms gs) where
  pub stands_on : (b : ℕ) (y : Size) (ns hs : List ℕ) → a < b → b ≤ length l → Grown z ms gs y ns hs
      → onward i (lines (drop a l)) (good (net_of z ms gs)) ≡ onward (i + 1) (lines (drop b l)) (good (net_of y ns hs)) → Stands l ls fs (i + 1) b y ns hs
  stands_on b y ns hs h g grown e =
      record {
        within = g;
        counted = omega (arith, s.counted);
        on = s.on ∙ e;
        held = grown.held;
        past = untouched_then z y ls ms ns fs gs hs grown.more_links grown.more_funs s.past grown.past;
      }

  -- what is past z's records is as it is
  pub stands_here : Stands l ms gs i a z ms gs
  stands_here = record { within = s.within; counted = s.counted; on = s.on; held = s.held; past = untouched_none z ms gs }

  pub stands_off : (t : Result Size Fault) (r : Refusal) (xs : List Line) (ns hs : List ℕ) → onward i (lines (drop a l)) (good (net_of z ms gs)) ≡ onward (i + 1) xs (kept_of t ns hs)
      → (t ≡ Err r.fault) × (r.line ≡ i + 1) → refused (number_of r.fault) r.line ≡ from_top (lines l)
  stands_off t r xs ns hs e f = rw f.1 (sym (s.on ∙ (rw f.0 at e) ∙ onward_bad (i + 1) (number_of r.fault) xs))

  pub stands_end : length l ≤ a → accepted (net_of z ms gs) ≡ from_top (lines l)
  unfolding onward lines
  stands_end h = sym (s.on ∙ rw (drop_all a l h))

-- ## A fault, with its line

pub kept_at : (i : ℕ) (t : Result Size Fault) (z : Size) → Ok z ≡ refused_at i t → t ≡ Ok z
kept_at i (Ok y) z e = cc
kept_at i (Err f) z e = absurd (cc)

pub bad_at : (i : ℕ) (t : Result Size Fault) (r : Refusal) → Err r ≡ refused_at i t → (t ≡ Err r.fault) × (r.line ≡ i)
bad_at i (Ok y) r e = absurd (cc)
bad_at i (Err f) r e = let g : r ≡ record { fault = f; line = i } = cc in (ap (λ (q : Refusal). Err q.fault) (sym g), ap (λ (q : Refusal). q.line) g)
