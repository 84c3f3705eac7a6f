-- Stays: a set of states that agents don't leave once all are in it.
use Rattle.std.specs.Prelude.{◌≡◌, ℕ, ◌<◌, true, false, Bool, not, ◌&&◌, ◌⊎◌, List, length, Some, slice_get}
use Rattle.std.specs.Prelude.{filter, Contains}
use Rattle.std.specs.List.{range_with_len}
use Rattle.pop_leaf.specs.declared.leaf.Move.{Move}
use Rattle.pop_leaf.specs.LeafModel.{LeafModel, silent_move, pre, post}
use Rattle.cert_base.specs.FactsAndCases.{is_in}
use Rattle.cert_base.specs.ValidLayers.{IsEnabledBefore}
use Rattle.cert_layers.specs.LayerFaults.{Each}
use Rattle.cert_layers.specs.Search.{some_move}
use Rattle.pop_leaf.specs.Laws.{IsKeptMove}

-- whether a move takes two states of the set, and whether it puts one outside besides
abbrev pub takes_within : List ℕ → Move → Bool
takes_within set t = is_in set t.p && is_in set t.q

abbrev pub leads_out : List ℕ → Move → Bool
leads_out set t = takes_within set t && not (is_in set t.r && is_in set t.s)

-- the numbers of the moves that lead out of the set
abbrev pub escapes : LeafModel → List ℕ → List ℕ
escapes leaf set =
    filter (λ n. some_move (leads_out set) (slice_get leaf.moves n)) (range_with_len 0 (length leaf.moves))

-- the states that u takes and t doesn't bring are in the set
abbrev pub IsRestWithin : List ℕ → Move → Move → Type 0
IsRestWithin set t u = (z : ℕ) → post t z < pre u z → Contains set z

-- when t enables u, one of these moves was already enabled
pub record WasPossible (leaf : LeafModel) (moves : List ℕ) (t u : Move) : Type 0 where
  pub number : ℕ
  pub taken : Move
  pub inside : IsKeptMove leaf moves number taken
  pub enabled : IsEnabledBefore taken t u

-- the move with number n isn't one of these moves and takes two states of the set: it doesn't wake the one with number
-- m whose other agent, if it has one besides, is in the set
abbrev pub SleepsFor : LeafModel → List ℕ → List ℕ → ℕ → ℕ → Type 0
SleepsFor leaf set moves n m =
    (t u : Move) → slice_get leaf.moves n ≡ Some t → silent_move t ≡ false → takes_within set t ≡ true
    → ¬ Contains moves n → IsKeptMove leaf moves m u → IsRestWithin set t u → WasPossible leaf moves t u

-- no other move between two agents of the set wakes one of these moves there
abbrev pub SleepIn : LeafModel → List ℕ → List ℕ → Type 0
SleepIn leaf set moves = Each (λ n. Each (SleepsFor leaf set moves n))

-- the move with number n is one of these if it leads out of the set
abbrev pub IsGuardedAt : LeafModel → List ℕ → List ℕ → ℕ → Type 0
IsGuardedAt leaf moves set n = Contains (escapes leaf set) n → Contains moves n

-- all moves that lead out of the set are among these, and no other move between two agents of the set wakes one of them
pub record IsGuarded (leaf : LeafModel) (moves set : List ℕ) : Type 0 where
  pub inside : Each (IsGuardedAt leaf moves set)
  pub asleep : SleepIn leaf set (escapes leaf set)

-- the set is guarded, or settled: no move outside these that takes two agents of the set wakes one of these there
abbrev pub Stays : LeafModel → List ℕ → List ℕ → Type 0
Stays leaf moves set = IsGuarded leaf moves set ⊎ SleepIn leaf set moves
