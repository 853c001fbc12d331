-- A network file in memory: refused, or the network that it gives. Assumes nothing: these are definitions.
use Rattle.std.specs.Prelude.{ℕ, ◌≡◌, List, Result, Ok, Err}
use Rattle.paper.specs.Net.{Link, Fun, net, hop}
use Rattle.paper.specs.File.{refused, accepted, judge}
use Rattle.paper.specs.Faults.{number_of}
use Rattle.paper.specs.declared.fault.Refusal.{Refusal}
use Rattle.network.specs.Network.{nodes, protocols, hop_in}
use Rattle.network.specs.Arranged.{Arranged}

-- g is the network of an accepted file
pub record Holds (file g : List ℕ) : Type 0 where
  pub arranged : Arranged g
  pub links : List Link
  pub funs : List Fun
  pub accepts : judge file ≡ accepted (net (nodes g) (protocols g) links funs)
  pub leads : hop_in g ≡ hop (net (nodes g) (protocols g) links funs)

-- the file is refused at a line, or g is its network
abbrev pub Loaded : (file : List ℕ) → Result (Unit {0}) Refusal → (g : List ℕ) → Type 0
Loaded file (Ok x) g = Holds file g
Loaded file (Err r) g = judge file ≡ refused (number_of r.fault) r.line
