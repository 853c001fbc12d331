-- What the enquiries of a run stand on, and what one of them comes to. Assumes nothing: these are definitions.
use Rattle.std.specs.Prelude.{ℕ, Bool, true, false, List, Option, Some, None, ⊤}
use Rattle.paper.specs.Outcome.{Outcome}
use Rattle.paper.specs.Program.{Replies}
use Rattle.paper.specs.declared.place.Enquiry.{Enquiry}
use Rattle.network.specs.Network.{nodes, protocols, hop_in}
use Rattle.tables_costs.specs.declared.rooms.Tables.{Tables}
use Rattle.enquiry.specs.Ready.{Ready}

-- are there tables?
abbrev pub tabled : Option Tables → Bool
tabled (Some t) = true
tabled None = false

-- the tables that there are, and the choice room X, are ready for an enquiry of the network g
abbrev pub ReadyIn : List ℕ → Option Tables → List ℕ → Type 0
ReadyIn g (Some t) X = Ready g t.weight.now t.count.now X
ReadyIn g None X = ⊤

-- the outcome of an enquiry, and what is left in the step and the text room
abbrev pub RepliesIn : List ℕ → Option Tables → Enquiry → (Q T : List ℕ) → Outcome → (Q' T' : List ℕ) → Type 0
RepliesIn g tables e Q T o Q' T' = Replies (hop_in g) (nodes g) (protocols g) e.start.node e.start.protocol e.end.node e.end.protocol (tabled tables) Q T o Q' T'
