-- The records of an accepted file are valid: each in its range, none twice. Only that kinds stand as codes is the reader's own to keep.
-- Assumes nothing.
use mathlib.Core.Path.{◌≡◌, ap}
use mathlib.Core.List.{List}
use Prim.Native.Nat.{ℕ, ◌*◌, ◌≤◌, ◌<◌}
use native.Mathlib.Omega.{arith}
use lib.ListN.{length}
use Rattle.paper.specs.Net.{code}
use Rattle.paper.specs.File.{link_key, fun_key, accepted, judge}
use Rattle.laws.proofs.Fold.{SoundAt}
use Rattle.laws.proofs.Demand3.{known}
use Rattle.laws.proofs.Shapes.{net_range, link_range, fun_range}
use Rattle.network_records.specs.Columns.{number, from, to, toll, node, kind, x_of, y_of, fee, kind_of_code, link_at, fun_at, rows, link_rows, fun_rows, net_of}
use Rattle.network_records.specs.declared.Size.{Size}
use Rattle.network_records.specs.Valid.{Valid}
use Rattle.network_records.proofs.Rows.{length_rows, rows_mem, sorted_once}

module _ (z : Size) (ls fs : List ℕ) (s : SoundAt z.nodes z.protocols (rows (link_at ls) 0 z.links) (rows (fun_at fs) 0 z.funs)) where
  link_in : (i : ℕ) → i < z.links → (number ls i ≤ 65535) × (from ls i < z.nodes) × (to ls i < z.nodes) × (toll ls i ≤ 1000000000)
  unfolding link_at
  link_in i h = link_range z.nodes (number ls i) (from ls i) (to ls i) (toll ls i) (s.links_fit (link_at ls i) (rows_mem z.links 0 i (link_at ls) (omega arith) (omega arith)))

  fun_in : (j : ℕ) → j < z.funs → (node fs j < z.nodes) × (x_of fs j < z.protocols) × (y_of fs j < z.protocols) × (fee fs j ≤ 1000000000)
  unfolding fun_at
  fun_in j h =
      fun_range z.nodes z.protocols (node fs j) (kind_of_code (kind fs j)) (x_of fs j) (y_of fs j) (fee fs j) (s.funs_fit (fun_at fs j) (rows_mem z.funs 0 j (fun_at fs) (omega arith) (omega arith)))

  link_key_lem : (i j : ℕ) → number ls i ≡ number ls j → link_key (link_at ls i) ≡ link_key (link_at ls j)
  unfolding link_at link_key
  link_key_lem i j e = cc

  fun_key_lem : (i j : ℕ) → node fs i ≡ node fs j → kind fs i ≡ kind fs j → x_of fs i ≡ x_of fs j → y_of fs i ≡ y_of fs j → fun_key (fun_at fs i) ≡ fun_key (fun_at fs j)
  unfolding fun_at fun_key
  fun_key_lem i j e f g h = cc (ap (λ (k : ℕ). code (kind_of_code k)) f)

  sound_valid : z.links * 4 ≤ length ls → z.funs * 5 ≤ length fs → ((j : ℕ) → j < z.funs → kind fs j < 3) → Valid z ls fs
  sound_valid h g k =
      let r = net_range z.nodes z.protocols s.fits in
      record {
        some_node = r.0;
        nodes = r.1;
        some_protocol = r.2;
        protocols = r.3;
        places = r.4;
        few_links = omega (arith, s.few_links, length_rows (link_at ls) 0 z.links);
        few_funs = omega (arith, s.few_funs, length_rows (fun_at fs) 0 z.funs);
        link_room = h;
        fun_room = g;
        link_number = λ i l. (link_in i l).0;
        link_from = λ i l. (link_in i l).1;
        link_to = λ i l. (link_in i l).2;
        link_weight = λ i l. (link_in i l).3;
        link_once = λ i j l m e. sorted_once link_key z.links (link_at ls) s.links i j l m (link_key_lem i j e);
        fun_node = λ j l. (fun_in j l).0;
        fun_kind = k;
        fun_x = λ j l. (fun_in j l).1;
        fun_y = λ j l. (fun_in j l).2;
        fun_weight = λ j l. (fun_in j l).3;
        fun_once = λ i j l m e₁ e₂ e₃ e₄. sorted_once fun_key z.funs (fun_at fs) s.funs i j l m (fun_key_lem i j e₁ e₂ e₃ e₄);
      }

pub valid : (file : List ℕ) (z : Size) (ls fs : List ℕ) → judge file ≡ accepted (net_of z ls fs) → z.links * 4 ≤ length ls → z.funs * 5 ≤ length fs
    → ((j : ℕ) → j < z.funs → kind fs j < 3) → Valid z ls fs
unfolding net_of link_rows fun_rows
valid file z ls fs e = sound_valid z ls fs (known file (net_of z ls fs) e).sound
