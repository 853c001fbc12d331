-- The outcomes that stand for what the library finds or refuses. Assumes nothing: these are definitions.
use Rattle.std.specs.Prelude.{ℕ, ◌≡◌, Option, Some, None, Result, Ok, Err}
use Rattle.paper.specs.Outcome.{Outcome, outcome, refusal, outcome_of}
use Rattle.paper.specs.Faults.{number_of}
use Rattle.paper.specs.declared.fault.Refusal.{Refusal}
use Rattle.paper.specs.declared.outcome.Outcome.{Outcome as Returned}
use Rattle.paper.specs.declared.outcome.Found.{Found}
use Rattle.paper.specs.declared.outcome.Denial.{Denial}
use Rattle.paper.specs.declared.outcome.Denial.TheVariants.{OutsideNetwork, RoomsTooShort, NoRoute, TooHeavy, TooLong}

abbrev pub denial_number : Denial → ℕ
denial_number OutsideNetwork = 6
denial_number RoomsTooShort = 7
denial_number NoRoute = 8
denial_number TooHeavy = 9
denial_number TooLong = 10

-- the best route of weight w and k steps is handed out: 0 with the trace's length, or 11 where the trace does not fit
abbrev pub handed_out : ℕ → ℕ → Option ℕ → Outcome
handed_out w k (Some n) = outcome 0 0 w k n
handed_out w k None = outcome 11 0 w k 0

-- the outcome of an enquiry, and of a file that is refused
abbrev pub outcome_given : Result Found Denial → Outcome
outcome_given (Ok f) = handed_out f.weight f.steps f.length
outcome_given (Err d) = refusal (denial_number d) 0

abbrev pub Tells : Result Found Denial → Returned → Type 0
Tells r o = outcome_of o ≡ outcome_given r

abbrev pub TellsRefusal : Refusal → Returned → Type 0
TellsRefusal r o = outcome_of o ≡ refusal (number_of r.fault) r.line
