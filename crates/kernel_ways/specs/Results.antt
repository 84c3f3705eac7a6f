-- Results: what two states may become by a table.
use Rattle.std.specs.Prelude.{◌≡◌, ◌≢◌, ◌⊎◌, ◌<◌, ℕ, ◌+◌, ◌*◌, List, [], ◌∷◌, map, length, Contains, slice_get, slice_index, slice_set, Some}
use Rattle.kernel_ways.specs.declared.table.Outcome.{Outcome}
use Rattle.kernel_ways.specs.declared.table.Coin.{Coin}
use Rattle.kernel_ways.specs.declared.table.Cell.{Cell}
use Rattle.kernel_ways.specs.declared.table.Cell.TheVariants.{Silent, Sure, Coin as Toss}
use Rattle.kernel_ways.specs.declared.table.Table.{Table}
use Rattle.kernel_ways.specs.declared.tally.Change.{Change}

abbrev pub results : List Outcome → List (ℕ × ℕ)
results outcomes = map (λ outcome. (outcome.first, outcome.second)) outcomes

-- what a coin may give
abbrev pub IsTossed : List Coin → ℕ → ℕ × ℕ → Type 0
IsTossed coins number made = (coin : Coin) × (slice_get coins number ≡ Some coin) × Contains (results coin.outcomes.items) made

abbrev pub IsOfCell : Table → Cell → ℕ × ℕ → Type 0
IsOfCell table Silent made = ⊥
IsOfCell table (Sure first second) made = (first, second) ≡ made
IsOfCell table (Toss number) made = IsTossed table.coins.items number made

-- what an ordered pair of states may become
abbrev pub IsResult : Table → ℕ → ℕ → ℕ × ℕ → Type 0
IsResult table p q made =
    (cell : Cell) × (slice_get table.cells.items (p * table.states + q) ≡ Some cell) × IsOfCell table cell made

-- a meeting of the agents i and j of a crowd, and the crowd behind it
abbrev pub MeetingOf : Table → List ℕ → ℕ → ℕ → Change → List ℕ → Type 0
MeetingOf table crowd i j change after =
    (change.taken ≡ (slice_index crowd i, slice_index crowd j))
    × IsResult table (slice_index crowd i) (slice_index crowd j) change.made
    × (after ≡ slice_set (slice_set crowd i change.made.0) j change.made.1)

-- two different agents of a crowd have met, and changed it
abbrev pub Meets : Table → List ℕ → List ℕ → Type 0
Meets table before after =
    (i : ℕ) × (j : ℕ) × (i ≢ j) × (i < length before) × (j < length before)
    × ((change : Change) × MeetingOf table before i j change after)

-- a meeting, whether or not it changes something
abbrev pub IsStep : Table → List ℕ → List ℕ → Type 0
IsStep table before after = (after ≡ before) ⊎ Meets table before after

-- a crowd came of another by meetings; between them there were these crowds, the latest first
abbrev pub Came : Table → List ℕ → List (List ℕ) → List ℕ → Type 0
Came table first [] last = last ≡ first
Came table first (before ∷ rest) last = Meets table before last × Came table first rest before

abbrev pub HasCome : Table → List ℕ → List ℕ → Type 0
HasCome table first last = (path : List (List ℕ)) × Came table first path last
