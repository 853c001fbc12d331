-- The numbers of the outcome table that refuse a file. Assumes nothing: these are definitions.
use Rattle.std.specs.Prelude.{ℕ}
use Rattle.paper.specs.declared.fault.Fault.{Fault}
use Rattle.paper.specs.declared.fault.Fault.TheVariants.{TooLong, Misshapen, OutOfRange, GivenAlready, TooMany}

abbrev pub number_of : Fault → ℕ
number_of TooLong = 1
number_of Misshapen = 2
number_of OutOfRange = 3
number_of GivenAlready = 4
number_of TooMany = 5
