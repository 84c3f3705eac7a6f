-- PowersLeaf: the built leaf of `a(1)*x(1) + .. < c` with the range 2^k: states are worth a power of two or nothing,
-- two that are worth the same join, and the hub tells whether the sum less c is below 0.
use Rattle.std.specs.Prelude.{◌<◌, ◌≤◌, ◌<ℤ◌, ℕ, zero, suc, ◌+◌, ◌-◌, ◌*◌, ◌^◌, ◌%◌, Bool, true, false, not}
use Rattle.std.specs.Prelude.{◌&&◌, ◌||◌, ◌==◌, nat_lt, nat_le}
use Rattle.std.specs.Prelude.{if◌then◌else◌, List, [], ◌∷◌, ◌++◌, length, map, flat_map, slice_index_or, ℤ}
use Rattle.std.specs.Prelude.{pos, negsuc, neg_ℤ}
use Rattle.std.specs.Prelude.{nat_abs, replicate, Option, Some, None}
use Rattle.std.specs.List.{range_with_len}
use Rattle.std.specs.Fmt.{decimal}
use Rattle.pop_io.specs.declared.names.TheConstants.{VARIABLE_LIMIT}
use Rattle.pop_leaf.specs.declared.limits.TheConstants.{STATE_LIMIT, HELPER_LIMIT}
use Rattle.pop_leaf.specs.declared.leaf.Move.{Move}
use Rattle.pop_leaf.specs.LeafModel.{LeafModel}
use Rattle.comp_trees.specs.Bits.{has_bit, power_in}
use Rattle.comp_trees.specs.declared.range.TheConstants.{RANGE_LIMIT}
use Rattle.comp_powers_leaf.specs.declared.role.Role.{Role}
use Rattle.comp_powers_leaf.specs.declared.role.Role.TheVariants.{Low, High, Nothing, Piece, Plus, Debtor, Token}

-- ---- numbers

-- what the tokens of a variable with this coefficient give off: a, or 2^k - |a|
abbrev pub owed : ℕ → ℤ → ℕ
owed k (pos n) = n
owed k (negsuc n) = 2 ^ k - (n + 1)

abbrev pub coefficient_of : List ℤ → ℕ → ℤ
coefficient_of coefs j = slice_index_or coefs j (pos 0)

-- ---- states

-- worth 2^i, for i up to k
abbrev pub power : ℕ → ℕ → Bool → Role
power k i b = if nat_lt i k then Piece i b else Plus

-- worth the last i bits of what variable j owes
abbrev pub rest_of : ℕ → ℕ → Role
rest_of j zero = Nothing false
rest_of j (suc i) = Token j i

-- what a state is worth
abbrev pub worth : List ℤ → ℕ → Role → ℤ
worth coefs k Low = neg_ℤ (pos (2 ^ k))
worth coefs k High = pos 0
worth coefs k (Nothing b) = pos 0
worth coefs k (Piece i b) = pos (2 ^ i)
worth coefs k Plus = pos (2 ^ k)
worth coefs k (Debtor j) = coefficient_of coefs j
worth coefs k (Token j i) = pos (owed k (coefficient_of coefs j) % 2 ^ (i + 1))

-- the hub answers by its worth; a debtor says that the sum is below 0, pluses and tokens that it isn't
abbrev pub says : Role → Bool
says Low = true
says High = false
says (Nothing b) = b
says (Piece i b) = b
says Plus = false
says (Debtor j) = true
says (Token j i) = false

-- how many tokens a variable has: none if its coefficient is 0 or a power of two
abbrev pub chain_by : ℕ → Option ℕ → ℕ
chain_by k None = k
chain_by k (Some i) = 0

abbrev pub chain_of : ℕ → ℤ → ℕ
chain_of k (pos n) = if n == 0 then 0 else chain_by k (power_in k n)
chain_of k (negsuc n) = k

-- the states of variable j: its tokens, and the debtor if its coefficient is below 0
abbrev pub debtors_of : ℕ → ℤ → List Role
debtors_of j (pos n) = []
debtors_of j (negsuc n) = Debtor j ∷ []

abbrev pub block_of : ℕ → ℕ → ℤ → List Role
block_of k j a = map (Token j) (range_with_len 0 (chain_of k a)) ++ debtors_of j a

abbrev pub blocks_from : ℕ → ℕ → List ℤ → List Role
blocks_from k j [] = []
blocks_from k j (a ∷ coefs) = block_of k j a ++ blocks_from k (j + 1) coefs

abbrev pub pieces_of : ℕ → List Role
pieces_of i = Piece i false ∷ Piece i true ∷ []

abbrev pub fixed_roles : ℕ → List Role
fixed_roles k =
    (Low ∷ High ∷ Nothing false ∷ Nothing true ∷ []) ++ (flat_map pieces_of (range_with_len 0 k) ++ Plus ∷ [])

-- all states, by place
abbrev pub roles : List ℤ → ℕ → List Role
roles coefs k = fixed_roles k ++ blocks_from k 0 coefs

abbrev pub fixed_count : ℕ → ℕ
fixed_count k = 2 * k + 5

abbrev pub role_at : List ℤ → ℕ → ℕ → Role
role_at coefs k q = slice_index_or (roles coefs k) q (Nothing false)

-- which roles the leaf has
abbrev pub IsRole : List ℤ → ℕ → Role → Type 0
IsRole coefs k Low = Unit {0}
IsRole coefs k High = Unit {0}
IsRole coefs k (Nothing b) = Unit {0}
IsRole coefs k (Piece i b) = i < k
IsRole coefs k Plus = Unit {0}
IsRole coefs k (Debtor j) = (j < length coefs) × (coefficient_of coefs j <ℤ pos 0)
IsRole coefs k (Token j i) = (j < length coefs) × (i < chain_of k (coefficient_of coefs j))

-- how many states the first j variables have
abbrev pub block_size : ℕ → ℤ → ℕ
block_size k (pos n) = chain_of k (pos n)
block_size k (negsuc n) = k + 1

abbrev pub states_before : ℕ → List ℤ → ℕ → ℕ
states_before k [] j = 0
states_before k (a ∷ coefs) zero = 0
states_before k (a ∷ coefs) (suc j) = block_size k a + states_before k coefs j

abbrev pub second : Bool → ℕ
second b = if b then 1 else 0

-- the place of a state
abbrev pub place : List ℤ → ℕ → Role → ℕ
place coefs k Low = 0
place coefs k High = 1
place coefs k (Nothing b) = 2 + second b
place coefs k (Piece i b) = 4 + 2 * i + second b
place coefs k Plus = 4 + 2 * k
place coefs k (Debtor j) = fixed_count k + states_before k coefs j + k
place coefs k (Token j i) = fixed_count k + states_before k coefs j + i

-- ---- moves: what two states become

abbrev pub when : Bool → Role → Role → Option (Role × Role)
when test r s = if test then Some (r, s) else None

-- two agents with 2^i make one with 2^(i+1); the answer true is taken over
abbrev pub piece_meets : ℕ → ℕ → Bool → Role → Option (Role × Role)
piece_meets k i b Low = None
piece_meets k i b High = None
piece_meets k i b (Nothing c) = None
piece_meets k i b (Piece l c) = when ((i == l) && (not b || c)) (power k (i + 1) c) (Nothing b)
piece_meets k i b Plus = None
piece_meets k i b (Debtor j) = None
piece_meets k i b (Token j l) = None

-- a debtor is paid by what is worth enough, or by the hub
abbrev pub debtor_meets : List ℤ → ℕ → ℕ → Role → Option (Role × Role)
debtor_meets coefs k j Low = None
debtor_meets coefs k j High = Some (rest_of j k, Low)
debtor_meets coefs k j (Nothing false) = Some (Debtor j, Nothing true)
debtor_meets coefs k j (Nothing true) = None
debtor_meets coefs k j (Piece i b) = when (nat_le (nat_abs (coefficient_of coefs j)) (2 ^ i)) (rest_of j i) (Nothing b)
debtor_meets coefs k j Plus = Some (rest_of j k, Nothing false)
debtor_meets coefs k j (Debtor l) = None
debtor_meets coefs k j (Token l i) = None

-- a token gives off its greatest bit
abbrev pub token_meets : List ℤ → ℕ → ℕ → ℕ → Role → Option (Role × Role)
token_meets coefs k j i Low = None
token_meets coefs k j i High = None
token_meets coefs k j i (Nothing b) =
    Some (rest_of j i, if has_bit (owed k (coefficient_of coefs j)) i then Piece i b else Nothing b)
token_meets coefs k j i (Piece l b) = None
token_meets coefs k j i Plus = None
token_meets coefs k j i (Debtor l) = None
token_meets coefs k j i (Token l m) = None

-- the hub turns what isn't of its answer
abbrev pub low_meets : Role → Option (Role × Role)
low_meets Low = None
low_meets High = Some (Low, Nothing false)
low_meets (Nothing false) = Some (Low, Nothing true)
low_meets (Nothing true) = None
low_meets (Piece i false) = Some (Low, Piece i true)
low_meets (Piece i true) = None
low_meets Plus = None
low_meets (Debtor j) = None
low_meets (Token j i) = None

abbrev pub high_meets : Role → Option (Role × Role)
high_meets Low = None
high_meets High = None
high_meets (Nothing false) = None
high_meets (Nothing true) = Some (High, Nothing false)
high_meets (Piece i false) = None
high_meets (Piece i true) = Some (High, Piece i false)
high_meets Plus = None
high_meets (Debtor j) = None
high_meets (Token j i) = None

abbrev pub plus_meets : Role → Option (Role × Role)
plus_meets Low = Some (Nothing false, High)
plus_meets High = None
plus_meets (Nothing false) = None
plus_meets (Nothing true) = Some (Plus, Nothing false)
plus_meets (Piece i b) = None
plus_meets Plus = None
plus_meets (Debtor j) = None
plus_meets (Token j i) = None

abbrev pub meet : List ℤ → ℕ → Role → Role → Option (Role × Role)
meet coefs k Low q = low_meets q
meet coefs k High q = high_meets q
meet coefs k (Nothing b) q = None
meet coefs k (Piece i b) q = piece_meets k i b q
meet coefs k Plus q = plus_meets q
meet coefs k (Debtor j) q = debtor_meets coefs k j q
meet coefs k (Token j i) q = token_meets coefs k j i q

abbrev pub move_by : List ℤ → ℕ → ℕ → ℕ → Option (Role × Role) → List Move
move_by coefs k p q None = []
move_by coefs k p q (Some rs) = record { p = p; q = q; r = place coefs k rs.0; s = place coefs k rs.1 } ∷ []

-- the move of two places, if they have one
abbrev pub moves_at : List ℤ → ℕ → ℕ → ℕ → List Move
moves_at coefs k p q = move_by coefs k p q (meet coefs k (role_at coefs k p) (role_at coefs k q))

-- the second state is no debtor and no token
abbrev pub powers_moves : List ℤ → ℕ → List Move
powers_moves coefs k =
    flat_map (λ p. flat_map (moves_at coefs k p) (range_with_len 0 (fixed_count k))) (range_with_len 0 (length (roles coefs k)))

-- ---- the start

-- the state of an agent of variable j
abbrev pub start_by : ℕ → ℕ → Option ℕ → Role
start_by k j None = rest_of j k
start_by k j (Some i) = power k i false

abbrev pub start_of : ℕ → ℕ → ℤ → Role
start_of k j (pos n) = if n == 0 then Nothing false else start_by k j (power_in k n)
start_of k j (negsuc n) = Debtor j

abbrev pub powers_inputs : List ℤ → ℕ → List ℕ
powers_inputs coefs k =
    map (λ j. place coefs k (start_of k j (coefficient_of coefs j))) (range_with_len 0 (length coefs))

-- the helpers are worth -c: the hub, and what it lacks, bit by bit; one more is worth nothing
abbrev pub hub_of : ℤ → Role
hub_of (pos zero) = High
hub_of (pos (suc n)) = Low
hub_of (negsuc n) = High

abbrev pub lacking : ℕ → ℤ → ℕ
lacking k (pos zero) = 0
lacking k (pos (suc n)) = 2 ^ k - (n + 1)
lacking k (negsuc n) = n + 1

abbrev pub bit_role : ℕ → ℕ → Role
bit_role n i = if has_bit n i then Piece i false else Nothing false

abbrev pub helper_roles : ℤ → ℕ → List Role
helper_roles bound k = hub_of bound ∷ (Nothing false ∷ map (bit_role (lacking k bound)) (range_with_len 0 k))

-- as many as the leaf is to have more, so that all leaves of a net have equally many
abbrev pub all_helper_roles : ℤ → ℕ → ℕ → List Role
all_helper_roles bound k spare = helper_roles bound k ++ replicate spare (Nothing false)

abbrev pub powers_helper_count : ℕ → ℕ
powers_helper_count k = k + 2

-- ---- the leaf; the states are named by their places

abbrev pub state_name_at : ℕ → List ℕ
state_name_at q = decimal q

abbrev pub powers_leaf_of : List ℤ → ℤ → ℕ → ℕ → LeafModel
powers_leaf_of coefs bound k spare =
    record {
      states = map state_name_at (range_with_len 0 (length (roles coefs k)));
      moves = powers_moves coefs k;
      inputs = powers_inputs coefs k;
      outputs = map says (roles coefs k);
      helpers = map (place coefs k) (all_helper_roles bound k spare);
    }

-- the range suffices for the coefficients and the bound
pub record IsPowers (coefs : List ℤ) (bound : ℤ) (k : ℕ) : Type 0 where
  pub some : 1 ≤ length coefs
  pub few : length coefs ≤ VARIABLE_LIMIT
  pub power : k ≤ RANGE_LIMIT
  pub within : (j : ℕ) → j < length coefs → nat_abs (coefficient_of coefs j) ≤ 2 ^ k
  -- -2^k < bound <= 2^k
  pub below : bound <ℤ pos (2 ^ k + 1)
  pub above : neg_ℤ (pos (2 ^ k)) <ℤ bound
  pub states : length (roles coefs k) ≤ STATE_LIMIT

-- there is room for this many spare helpers
abbrev pub HasRoom : ℕ → ℕ → Type 0
HasRoom k spare = powers_helper_count k + spare ≤ HELPER_LIMIT

-- what does not speak of the bound
pub record HasRange (coefs : List ℤ) (k : ℕ) : Type 0 where
  pub few : length coefs ≤ VARIABLE_LIMIT
  pub power : k ≤ RANGE_LIMIT
  pub within : (j : ℕ) → j < length coefs → nat_abs (coefficient_of coefs j) ≤ 2 ^ k
