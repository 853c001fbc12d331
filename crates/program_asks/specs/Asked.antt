-- What the reader says of an input line: what it asks, in numbers of 32 bits. Assumes nothing: these are definitions.
use Rattle.std.specs.Prelude.{Option, Some, None}
use Rattle.paper.specs.Program.{Asked, misshapen, asks}
use Rattle.digits.specs.Read.{few}
use Rattle.paper.specs.declared.place.Enquiry.{Enquiry}

unfoldable pub ask_of : Asked → Option Enquiry
ask_of misshapen = None
ask_of (asks S a D b) = Some (record { start = record { node = few S; protocol = few a }; end = record { node = few D; protocol = few b } })
