-- What is known of the network in memory: its records are those of an accepted file, and each node's stand together. Assumes nothing: these are definitions.
use Rattle.std.specs.Prelude.{ℕ, suc, ◌<◌, ◌≤◌, ◌≡◌, List, length}
use Rattle.network_records.specs.Valid.{Valid}
use Rattle.network.specs.Network.{room_size, nodes, links, funs, size_of, links_room, funs_room, link_start, fun_start, from, node}

-- c records of n nodes: those of node v stand from `start v` up to `start (v + 1)`, where `home` tells a record's node
pub record Grouped (home start : ℕ → ℕ) (n c : ℕ) : Type 0 where
  pub first : start 0 ≡ 0
  pub last : start n ≡ c
  pub rising : (v : ℕ) → v < n → start v ≤ start (suc v)
  pub mine : (v i : ℕ) → v < n → start v ≤ i → i < start (suc v) → home i ≡ v

pub record Arranged (g : List ℕ) : Type 0 where
  pub room : room_size ≤ length g
  pub valid : Valid (size_of g) (links_room g) (funs_room g)
  pub by_from : Grouped (from g) (link_start g) (nodes g) (links g)
  pub by_node : Grouped (node g) (fun_start g) (nodes g) (funs g)
