use Rattle.tables_sweeps.proofs.Tabled.{tabled}
use borrow.Author.Rules.{rules}
use Rattle.tables.proofs.fill.Goals as goal

pub clear_choice-requires : goal.clear_choice-requires
clear_choice-requires c = (search rules, rw c.places-size.ensures.0 c.requires.choices)

pub returns : goal.returns
returns c =
    let f = c.fill_rooms.ensures in
    record { tabled = tabled _ _ _ _ _ _ _ f (rw c.places-size.ensures.0 at c.clear_choice.ensures); filled = f }
