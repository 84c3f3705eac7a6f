-- Which moves wake moves of earlier layers, by a table of pairs of states.
use Rattle.std.specs.Prelude.{◌≡◌, ℕ, ◌+◌, ◌*◌, ◌<◌, ◌≤◌, ◌⊎◌, ◌==◌, ◌&&◌, ◌||◌, not, Bool}
use Rattle.std.specs.Prelude.{true, false, nat_lt, List, length, Option, Some, None, slice_get, replicate}
use Rattle.std.specs.Prelude.{if◌then◌else◌}
use Rattle.std.specs.List.{slice_index_or, list_any, range_with_len}
use Rattle.pop_leaf.specs.declared.leaf.Move.{Move}
use Rattle.pop_leaf.specs.declared.limits.TheConstants.{STATE_LIMIT}
use Rattle.cert_layers.specs.declared.pairs.TheConstants.{PAIR_COUNT, NO_LAYER}
use Rattle.pop_leaf.specs.LeafModel.{LeafModel, silent_move}
use Rattle.cert_layers.specs.MoveLayers.{layer_of}
use Rattle.cert_layers.specs.Search.{some_move, some_layer}

-- the entry for the states x and y
abbrev pub first_at : List ℕ → ℕ → ℕ → ℕ
first_at table x y = slice_index_or table (x * STATE_LIMIT + y) 0

-- the table before any move is entered
unfoldable pub empty_table : List ℕ
empty_table = replicate PAIR_COUNT NO_LAYER

-- x and y are the states that a move takes
abbrev pub IsPair : ℕ → ℕ → Move → Type 0
IsPair x y t = ((x ≡ t.p) × (y ≡ t.q)) ⊎ ((x ≡ t.q) × (y ≡ t.p))

-- a non-silent move below number n, in a layer before i, takes x and y
pub record IsEarly (leaf : LeafModel) (layer_of_move : List (Option ℕ)) (n i x y : ℕ) : Type 0 where
  pub number : ℕ
  pub layer : ℕ
  pub taken : Move
  pub below : number < n
  pub move_is : slice_get leaf.moves number ≡ Some taken
  pub non_silent : silent_move taken ≡ false
  pub layer_is : layer_of layer_of_move number ≡ Some layer
  pub before : layer < i
  pub takes : IsPair x y taken

-- the table has, for each two states, the least layer with a non-silent move below number n that takes them
pub record IsWakingTable (leaf : LeafModel) (layer_of_move : List (Option ℕ)) (n : ℕ) (table : List ℕ) : Type 0 where
  pub long : length table ≡ PAIR_COUNT
  pub sound : (i x y : ℕ) → i ≤ NO_LAYER → x < STATE_LIMIT → y < STATE_LIMIT → first_at table x y < i
      → IsEarly leaf layer_of_move n i x y
  pub complete : (i x y : ℕ) → i ≤ NO_LAYER → x < STATE_LIMIT → y < STATE_LIMIT → IsEarly leaf layer_of_move n i x y
      → first_at table x y < i

-- whether a layer before i has a non-silent move that takes x and y
abbrev pub is_early : List ℕ → ℕ → ℕ → ℕ → Bool
is_early table i x y = nat_lt (first_at table x y) i

-- whether a move brings the state x
abbrev pub brings_state : Move → ℕ → Bool
brings_state t x = x == t.r || x == t.s

-- whether a move that brings m brings o beside it
abbrev pub brings_two_states : Move → ℕ → ℕ → Bool
brings_two_states t m o = if m == t.r then o == t.s else o == t.r

-- t brings m; no early move takes both states of t, or, where t doesn't bring o too, o and one of them
abbrev pub wakes_with_state : (ℕ → ℕ → Bool) → Move → ℕ → ℕ → Bool
wakes_with_state early t m o = not (early t.p t.q || (not (brings_two_states t m o) && (early t.p o || early t.q o)))

-- whether t wakes a move that takes x and y
abbrev pub wakes_states : (ℕ → ℕ → Bool) → Move → ℕ → ℕ → Bool
wakes_states early t x y =
    if brings_state t x then wakes_with_state early t x y else (brings_state t y && wakes_with_state early t y x)

-- whether t, in layer i, wakes the move with number m, of an earlier layer
abbrev pub wakes_numbered : LeafModel → List (Option ℕ) → List ℕ → ℕ → Move → ℕ → Bool
wakes_numbered leaf layer_of_move table i t m =
    some_move (λ u. some_layer (λ j. nat_lt j i
    && wakes_states (is_early table i) t u.p u.q) (layer_of layer_of_move m)) (slice_get leaf.moves m)

-- whether the move with number n wakes the move with number m, of an earlier layer
abbrev pub wakes_at : LeafModel → List (Option ℕ) → List ℕ → ℕ → ℕ → Bool
wakes_at leaf layer_of_move table n m =
    some_move (λ t. some_layer (λ i. wakes_numbered leaf layer_of_move table i t m) (layer_of layer_of_move n))
    (slice_get leaf.moves n)

-- whether t wakes an early move that takes x and y
abbrev pub wakes_early : (ℕ → ℕ → Bool) → Move → ℕ → ℕ → Bool
wakes_early early t x y = early x y && wakes_states early t x y

-- whether t wakes an early move that takes y beside a state that t brings
abbrev pub wakes_beside_state : (ℕ → ℕ → Bool) → Move → ℕ → Bool
wakes_beside_state early t y = wakes_early early t t.r y || wakes_early early t t.s y

-- whether t wakes an early move at all
abbrev pub may_wake_any : (ℕ → ℕ → Bool) → Move → ℕ → Bool
may_wake_any early t states = not (early t.p t.q) && list_any (wakes_beside_state early t) (range_with_len 0 states)

-- the least number that passes a test, if one does
abbrev pub FindsFirst : (ℕ → Bool) → Option ℕ → Type 0
FindsFirst p None = (m : ℕ) → p m ≡ false
FindsFirst p (Some u) = (p u ≡ true) × ((m : ℕ) → m < u → p m ≡ false)

-- the least move that wakes one, and the least that it wakes, if there are any
abbrev pub FindsWaking : LeafModel → List (Option ℕ) → List ℕ → Option (ℕ × ℕ) → Type 0
FindsWaking leaf layer_of_move table None = (n : ℕ) → FindsFirst (wakes_at leaf layer_of_move table n) None
FindsWaking leaf layer_of_move table (Some found) =
    FindsFirst (wakes_at leaf layer_of_move table found.0) (Some found.1)
    × ((n : ℕ) → n < found.0 → FindsFirst (wakes_at leaf layer_of_move table n) None)
