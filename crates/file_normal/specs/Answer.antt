-- What the normal writer comes to, as an outcome. Assumes nothing: these are definitions.
use Rattle.std.specs.Prelude.{ℕ, Option, Result, Ok, Err}
use Rattle.paper.specs.Faults.{number_of}
use Rattle.paper.specs.Outcome.{Outcome, refusal}
use Rattle.paper.specs.Answers.{handed_out}
use Rattle.paper.specs.declared.fault.Refusal.{Refusal}

-- the length of what was written, or none where the room is too short; or why the file is refused
abbrev pub answered : Result (Option ℕ) Refusal → Outcome
answered (Ok length) = handed_out 0 0 length
answered (Err r) = refusal (number_of r.fault) r.line
