-- SetTests: tests of the moves between two agents of a set.
use Rattle.std.specs.Prelude.{ℕ, ◌<◌, Bool, false, ◌&&◌, ◌||◌, if◌then◌else◌, List, Option, Some, None, slice_get}
use Rattle.pop_leaf.specs.declared.leaf.Move.{Move}
use Rattle.pop_leaf.specs.LeafModel.{LeafModel, silent_move}
use Rattle.cert_base.specs.FactsAndCases.{is_in, can_meet_in}
use Rattle.cert_layers.specs.Search.{some_move}
use Rattle.cert_layers.specs.Waking.{brings_state, brings_two_states, wakes_states, FindsFirst}
use Rattle.theory_sets.specs.Stays.{takes_within, leads_out}

-- whether o, which is taken beside a state that t brings, is brought too or in the set
abbrev pub is_other_within : List ℕ → Move → ℕ → ℕ → Bool
is_other_within set t m o = brings_two_states t m o || is_in set o

-- the same for the pair x and y, of which t brings one
abbrev pub is_rest_within : List ℕ → Move → ℕ → ℕ → Bool
is_rest_within set t x y = if brings_state t x then is_other_within set t x y else is_other_within set t y x

-- whether t wakes a move that takes x and y beside agents of the set; `awake` has the moves that are to sleep
abbrev pub wakes_within : LeafModel → List ℕ → Move → ℕ → ℕ → Bool
wakes_within awake set t x y = wakes_states (can_meet_in awake) t x y && is_rest_within set t x y

-- whether t wakes the move with this number
abbrev pub wakes_awake : LeafModel → List ℕ → Move → ℕ → Bool
wakes_awake awake set t m = some_move (λ u. wakes_within awake set t u.p u.q) (slice_get awake.moves m)

-- whether there is a silent move with this number
abbrev pub is_silent_move : Option Move → Bool
is_silent_move None = false
is_silent_move (Some t) = silent_move t

-- whether the move with number n takes two states of the set, isn't to sleep, and wakes the move with number m
abbrev pub wakes_one : LeafModel → LeafModel → List ℕ → ℕ → ℕ → Bool
wakes_one leaf awake set n m =
    some_move (λ t. (takes_within set t && is_silent_move (slice_get awake.moves n)) && wakes_awake awake set t m)
    (slice_get leaf.moves n)

-- the least move that wakes one, and the least that it wakes, if there are any
abbrev pub FindsWoken : LeafModel → LeafModel → List ℕ → Option (ℕ × ℕ) → Type 0
FindsWoken leaf awake set None = (n : ℕ) → FindsFirst (wakes_one leaf awake set n) None
FindsWoken leaf awake set (Some found) =
    FindsFirst (wakes_one leaf awake set found.0) (Some found.1)
    × ((n : ℕ) → n < found.0 → FindsFirst (wakes_one leaf awake set n) None)

-- whether the move with number n leads out of the set, and is silent among the kept ones
abbrev pub is_unguarded : LeafModel → LeafModel → List ℕ → ℕ → Bool
is_unguarded leaf kept set n =
    some_move (λ t. leads_out set t && is_silent_move (slice_get kept.moves n)) (slice_get leaf.moves n)
