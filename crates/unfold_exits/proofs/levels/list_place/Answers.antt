use native.Mathlib.Omega.{arith}
use Rattle.unfold_exits.proofs.Places.{place_unmarked, place_beyond, place_listed}
use Rattle.unfold_exits.proofs.levels.list_place.Goals as goal

pub returns-then-not-is_marked : goal.returns-then-not-is_marked
returns-then-not-is_marked c = place_unmarked c.requires.2 _ c.is_marked.ensures c.if-not-is_marked.true

pub returns-then-left-told : goal.returns-then-left-told
returns-then-left-told c = place_beyond c.requires.2 _ _ _ _ c.place.ensures.0 c.row_of.ensures.0 c.told_at-told.ensures.0 c.requires.1 c.if-left-told.true

pub returns : goal.returns
returns c =
    place_listed c.requires.2 _ _ _ _ c.place.ensures.0 c.row_of.ensures.0 c.told_at-told.ensures.0 c.requires.1 _ (omega arith) c.is_marked.ensures c.if-not-is_marked.false (omega arith) c.push.ensures
