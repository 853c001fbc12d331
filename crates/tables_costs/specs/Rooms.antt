-- The rooms that are written stay those that were lent. Assumes nothing: this is a definition.
use Rattle.std.specs.Prelude.{◌≡◌, length}
use Rattle.tables_costs.specs.declared.rooms.TablesMut.{TablesMut}

-- the rooms of t are those of s, and as long
abbrev pub SameRooms : TablesMut → TablesMut → Type 0
SameRooms s t =
    (t.weight.ghost_name ≡ s.weight.ghost_name) × (t.count.ghost_name ≡ s.count.ghost_name)
    × (length t.weight.now ≡ length s.weight.now) × (length t.count.now ≡ length s.count.now)
