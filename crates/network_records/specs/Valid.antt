-- What is known of the records of an accepted file: each in its range, none twice. Assumes nothing: these are definitions.
use Rattle.std.specs.Prelude.{ℕ, ◌*◌, ◌<◌, ◌≤◌, ◌≡◌, List, length}
use Rattle.paper.specs.Limits.{most_nodes, most_protocols, most_places, most_number, most_weight, most_records}
use Rattle.network_records.specs.declared.Size.{Size}
use Rattle.network_records.specs.Columns.{link_width, fun_width, number, from, to, toll, node, kind, x_of, y_of, fee}

pub record Valid (z : Size) (ls fs : List ℕ) : Type 0 where
  pub some_node : 1 ≤ z.nodes
  pub nodes : z.nodes ≤ most_nodes
  pub some_protocol : 1 ≤ z.protocols
  pub protocols : z.protocols ≤ most_protocols
  pub places : z.nodes * z.protocols ≤ most_places
  pub few_links : z.links ≤ most_records
  pub few_funs : z.funs ≤ most_records
  pub link_room : z.links * link_width ≤ length ls
  pub fun_room : z.funs * fun_width ≤ length fs
  pub link_number : (i : ℕ) → i < z.links → number ls i ≤ most_number
  pub link_from : (i : ℕ) → i < z.links → from ls i < z.nodes
  pub link_to : (i : ℕ) → i < z.links → to ls i < z.nodes
  pub link_weight : (i : ℕ) → i < z.links → toll ls i ≤ most_weight
  pub link_once : (i j : ℕ) → i < z.links → j < z.links → number ls i ≡ number ls j → i ≡ j
  pub fun_node : (j : ℕ) → j < z.funs → node fs j < z.nodes
  pub fun_kind : (j : ℕ) → j < z.funs → kind fs j < 3
  pub fun_x : (j : ℕ) → j < z.funs → x_of fs j < z.protocols
  pub fun_y : (j : ℕ) → j < z.funs → y_of fs j < z.protocols
  pub fun_weight : (j : ℕ) → j < z.funs → fee fs j ≤ most_weight
  pub fun_once : (i j : ℕ) → i < z.funs → j < z.funs → node fs i ≡ node fs j → kind fs i ≡ kind fs j → x_of fs i ≡ x_of fs j → y_of fs i ≡ y_of fs j → i ≡ j
