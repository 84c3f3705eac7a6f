-- The trees of atoms, from their sum, relation and constant.
use Rattle.std.specs.Prelude.{ℕ, ◌-◌, Bool, true, false, if◌then◌else◌, nat_lt, List, Option, Some}
use Rattle.std.specs.Prelude.{None, Result, Ok, Err, map, position, slice_set, slice_index_or, ℤ}
use Rattle.std.specs.Prelude.{pos, ◌+ℤ◌, ◌-ℤ◌, neg_ℤ, nat_abs, codes, length, replicate}
use Rattle.std.specs.Int.{int_rem_euclid}
use Rattle.std.specs.Str.{bytes_eq}
use Rattle.pres_ast.specs.declared.limits.TheConstants.{COEFFICIENT_LIMIT, BOUND_LIMIT}
use Rattle.pres_ast.specs.PredTree.{PredTree, LessThan, Congruent, Negation, Conjunction}
use Rattle.pres_tokens.specs.declared.token.Relation.{Relation}
use Rattle.pres_tokens.specs.declared.token.Relation.TheVariants.{Less, AtMost, Greater, AtLeast, Equal, Unequal}
use Rattle.pres_read.specs.Numbers.{value_of_digits, value_within}
use Rattle.pres_read.specs.declared.fault.ReadPred.{ReadPred}
use Rattle.pres_read.specs.declared.fault.ReadPred.TheVariants.{UnknownName, TooLarge}

abbrev pub zero_coefs : List (List ℕ) → List ℤ
zero_coefs names = replicate (length names) (pos 0)

abbrev pub signed_number : Bool → ℕ → ℤ
signed_number false n = pos n
signed_number true n = neg_ℤ (pos n)

abbrev pub turned : List ℤ → List ℤ
turned coefs = map neg_ℤ coefs

abbrev pub negation_if : Bool → PredTree → PredTree
negation_if false p = p
negation_if true p = Negation p

abbrev pub equality_tree : List ℤ → ℤ → PredTree
equality_tree coefs c = Conjunction (LessThan coefs (c +ℤ pos 1)) (LessThan (turned coefs) (pos 1 -ℤ c))

-- the tree of a sum compared with a constant
abbrev pub compared_tree : List ℤ → Relation → ℤ → PredTree
compared_tree coefs Less c = LessThan coefs c
compared_tree coefs AtMost c = LessThan coefs (c +ℤ pos 1)
compared_tree coefs Greater c = LessThan (turned coefs) (neg_ℤ c)
compared_tree coefs AtLeast c = LessThan (turned coefs) (pos 1 -ℤ c)
compared_tree coefs Equal c = equality_tree coefs c
compared_tree coefs Unequal c = Negation (equality_tree coefs c)

-- the constant's remainder in 0..m
abbrev pub remainder : ℤ → ℕ → ℕ
remainder c m = nat_abs (int_rem_euclid c (pos m))

-- the tree of a sum compared with a constant modulo m
abbrev pub congruent_tree : List ℤ → Bool → ℤ → ℕ → PredTree
congruent_tree coefs unequal c m = negation_if unequal (Congruent coefs m (remainder c m))

-- the greatest constant after a relation
abbrev pub limit_of : Relation → ℕ
limit_of Less = BOUND_LIMIT
limit_of AtMost = BOUND_LIMIT - 1
limit_of Greater = BOUND_LIMIT - 1
limit_of AtLeast = BOUND_LIMIT - 1
limit_of Equal = BOUND_LIMIT - 1
limit_of Unequal = BOUND_LIMIT - 1

-- a term's sign and number, and where the term begins
pub record Factor : Type 0 where
  pub negative : Bool
  pub digits : List ℕ
  pub place : ℕ

-- a name alone has the number 1
abbrev pub lone : Bool → ℕ → Factor
lone negative place = record { negative = negative; digits = codes "1"; place = place }

-- the coefficients with z for variable i, if z is at most 2^31 in size
abbrev pub with_coef_at : List ℤ → ℕ → ℤ → ℕ → Result (List ℤ) ReadPred
with_coef_at coefs i z place =
    if nat_lt COEFFICIENT_LIMIT (nat_abs z) then Err (TooLarge place) else Ok (slice_set coefs i z)

abbrev pub with_number : List ℤ → ℕ → Factor → Option ℕ → Result (List ℤ) ReadPred
with_number coefs i factor None = Err (TooLarge factor.place)
with_number coefs i factor (Some n) =
    with_coef_at coefs i (slice_index_or coefs i (pos 0) +ℤ signed_number factor.negative n) factor.place

abbrev pub with_term : List ℤ → Option ℕ → Factor → ℕ → Result (List ℤ) ReadPred
with_term coefs None factor place = Err (UnknownName place)
with_term coefs (Some i) factor place =
    with_number coefs i factor (value_within COEFFICIENT_LIMIT (value_of_digits factor.digits))

-- the coefficients after a term at this name: those of equal names add up
abbrev pub added : List (List ℕ) → List ℤ → Factor → ℕ → List ℕ → Result (List ℤ) ReadPred
added names coefs factor place word = with_term coefs (position (bytes_eq word) names) factor place
