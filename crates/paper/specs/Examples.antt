-- The ten marked examples: eleven enquiries of seven networks, one table and one statement. Assumes nothing: these are definitions.
use Rattle.std.specs.Prelude.{List, [], ◌∷◌, ℕ}
use Rattle.paper.specs.Net.{conv, wrap, unwrap, link, fun, Net, net, Key, key, hop}
use Rattle.paper.specs.Route.{Best}
use Rattle.paper.specs.Rooms.{NoRoute, AllHeavy}

-- what an enquiry gives: best KEYS WEIGHT, heavy with a route to show for it (9), or none at all (8)
pub data Given : Type 0 where
  best heavy : List Key → ℕ → Given
  none_at_all : Given

-- ask NET S a D b GIVEN
pub data Example : Type 0 where
  ask : Net → ℕ → ℕ → ℕ → ℕ → Given → Example

-- the statement
abbrev pub Holds : Example → Type 0
Holds (ask g S a D b (best ks w)) = Best (hop g) S a D b ks w
Holds (ask g S a D b (heavy ks w)) = AllHeavy (hop g) S a D b
Holds (ask g S a D b none_at_all) = NoRoute (hop g) S a D b

-- examples 1 to 4
abbrev pub network_a : Net
network_a = net 4 2 (link 10 0 1 5 ∷ link 11 1 2 5 ∷ link 12 2 3 5 ∷ []) (fun 0 conv 0 0 0 ∷ fun 1 conv 0 1 1 ∷ fun 1 wrap 0 1 2 ∷ fun 2 unwrap 0 1 3 ∷ [])

-- example 5
abbrev pub nested : Net
nested = net 4 2 (link 1 0 0 1 ∷ link 2 0 1 1 ∷ link 3 1 2 1 ∷ link 4 2 3 1 ∷ []) (fun 0 wrap 0 1 0 ∷ fun 0 wrap 1 1 0 ∷ fun 1 unwrap 1 1 0 ∷ fun 2 unwrap 0 1 0 ∷ [])

-- example 6
abbrev pub parallel : Net
parallel = net 2 1 (link 9 0 1 3 ∷ link 7 0 1 3 ∷ []) (fun 0 conv 0 0 0 ∷ [])

-- examples 7 and 8: link 1 weighs w
abbrev pub detour : ℕ → Net
detour w = net 3 1 (link 1 0 2 w ∷ link 2 0 1 4 ∷ link 3 1 2 4 ∷ []) (fun 0 conv 0 0 0 ∷ fun 1 conv 0 0 0 ∷ [])

-- example 9
abbrev pub hidden : Net
hidden = net 3 3 (link 1 0 1 1 ∷ link 2 1 2 1 ∷ []) (fun 0 wrap 0 1 0 ∷ fun 1 unwrap 2 1 0 ∷ [])

-- example 10
abbrev pub chain : Net
chain = net 4 1 (link 1 0 1 1000000000 ∷ link 2 1 2 1000000000 ∷ link 3 2 3 1000000000 ∷ []) (fun 0 conv 0 0 1000000000 ∷ fun 1 conv 0 0 1000000000 ∷ fun 2 conv 0 0 1000000000 ∷ [])

-- the table
abbrev pub marked : List Example
marked =
    ask network_a 0 0 3 0 (best (key 10 conv 0 0 ∷ key 11 wrap 0 1 ∷ key 12 unwrap 0 1 ∷ []) 20) ∷
    ask network_a 0 0 3 1 none_at_all ∷
    ask network_a 3 1 3 1 (best [] 0) ∷
    ask network_a 0 0 2 1 (best (key 10 conv 0 0 ∷ key 11 conv 0 1 ∷ []) 11) ∷
    ask nested 0 0 3 0 (best (key 1 wrap 0 1 ∷ key 2 wrap 1 1 ∷ key 3 unwrap 1 1 ∷ key 4 unwrap 0 1 ∷ []) 4) ∷
    ask parallel 0 0 1 0 (best (key 7 conv 0 0 ∷ []) 3) ∷
    ask (detour 9) 0 0 2 0 (best (key 2 conv 0 0 ∷ key 3 conv 0 0 ∷ []) 8) ∷
    ask (detour 8) 0 0 2 0 (best (key 1 conv 0 0 ∷ []) 8) ∷
    ask hidden 0 0 2 2 none_at_all ∷
    ask chain 0 0 2 0 (best (key 1 conv 0 0 ∷ key 2 conv 0 0 ∷ []) 4000000000) ∷
    ask chain 0 0 3 0 (heavy (key 1 conv 0 0 ∷ key 2 conv 0 0 ∷ key 3 conv 0 0 ∷ []) 6000000000) ∷
    []
