-- The step room as a list of step keys: four entries a step. Assumes nothing: these are definitions.
use Rattle.std.specs.Prelude.{ℕ, ◌+◌, ◌*◌, List, [], ◌∷◌, get_or}
use Rattle.paper.specs.Net.{Key, key}
use Rattle.network_records.specs.Columns.{kind_of_code, rows}
use Rattle.trace_replay.specs.declared.steps.Steps.{Steps}

-- the key that four numbers are: link number, kind, x, y
unfoldable pub key_of : List ℕ → Key
key_of k = key (get_or k 0 0) (kind_of_code (get_or k 1 0)) (get_or k 2 0) (get_or k 3 0)

-- the four entries of step i
abbrev pub entries : List ℕ → ℕ → List ℕ
entries q i = get_or q (i * 4) 0 ∷ get_or q (i * 4 + 1) 0 ∷ get_or q (i * 4 + 2) 0 ∷ get_or q (i * 4 + 3) 0 ∷ []

unfoldable pub key_at : List ℕ → ℕ → Key
key_at q i = key_of (entries q i)

-- the first k steps
unfoldable pub keys_at : List ℕ → ℕ → List Key
keys_at q k = rows (key_at q) 0 k

-- the steps of a route in the step room
abbrev pub keys : Steps → List Key
keys s = keys_at s.room.now s.count
