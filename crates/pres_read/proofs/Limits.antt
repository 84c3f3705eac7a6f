-- Trees and coefficients within the limits.
use Rattle.std.proofs.Common.{◌≡◌, ℕ, zero, suc, ◌+◌, ◌<◌, ◌≤◌, Bool, true, false, List, length, get_or, ltb, Option, Some, None, IfSome, IfOk, Ok, Err, refl, ◌∙◌, arith, ℤ, pos, negsuc, neg_ℤ, nat_abs, ◌+ℤ◌, ◌-ℤ◌, slice_set, position}
use Rattle.std.specs.Prelude.{if◌then◌else◌}
use Rattle.std.proofs.lemmas.Int.{ints}
use Rattle.std.proofs.lemmas.Bool.{ltb-false}
use Rattle.std.proofs.lemmas.List.{length-replicate, length-map, length-set}
use Rattle.std.proofs.lemmas.List.Elements.{All-set, All-replicate, All-map}
use Rattle.pres_ast.specs.PredTree.{PredTree, Congruent}
use Rattle.pres_ast.specs.PredModel.{AreCoefs, HasAtoms, weight_of}
use Rattle.std.specs.Str.{bytes_eq}
use Rattle.pres_ast.specs.declared.limits.TheConstants.{COEFFICIENT_LIMIT, BOUND_LIMIT, MODULUS_LIMIT}
use Rattle.pres_tokens.specs.declared.token.Relation.{Relation}
use Rattle.pres_tokens.specs.declared.token.Relation.TheVariants.{Less, AtMost, Greater, AtLeast, Equal, Unequal}
use Rattle.pres_read.specs.declared.fault.ReadPred.{ReadPred}
use Rattle.pres_read.specs.declared.fault.ReadPred.TheVariants.{TooLarge}
use Rattle.pres_read.specs.Numbers.{value_within, value_of_digits}
use Rattle.pres_read.specs.Atoms.{signed_number, turned, negation_if, equality_tree, compared_tree, remainder, congruent_tree, limit_of, Factor, with_coef_at, with_number, with_term, added}
use Rattle.pres_read.specs.Reading.{negation, conjunction, disjunction}
use Rattle.pres_read.specs.Atoms.{zero_coefs}
use Rattle.pres_read.specs.Sound.{option_weight, HasOption, IsConstant}

pub weight-negated : (k : ℕ) (p : PredTree) → weight_of (negation k p) ≡ weight_of p + k
weight-negated zero p = omega arith
weight-negated (suc k) p = omega (arith, weight-negated k p)

pub weight-conjoined : (o : Option PredTree) (p : PredTree) → weight_of (conjunction o p) ≡ option_weight o + weight_of p
weight-conjoined None p = omega arith
weight-conjoined (Some q) p = omega arith

pub weight-disjoined : (o : Option PredTree) (p : PredTree) → weight_of (disjunction o p) ≡ option_weight o + weight_of p
weight-disjoined None p = omega arith
weight-disjoined (Some q) p = omega arith

pub HasAtoms-negated : (n k : ℕ) (p : PredTree) → HasAtoms n p → HasAtoms n (negation k p)
HasAtoms-negated n zero p h = h
HasAtoms-negated n (suc k) p h = HasAtoms-negated n k p h

pub HasAtoms-conjoined : (n : ℕ) (o : Option PredTree) (p : PredTree) → HasOption n o → HasAtoms n p → HasAtoms n (conjunction o p)
HasAtoms-conjoined n None p g h = h
HasAtoms-conjoined n (Some q) p g h = (g, h)

pub HasAtoms-disjoined : (n : ℕ) (o : Option PredTree) (p : PredTree) → HasOption n o → HasAtoms n p → HasAtoms n (disjunction o p)
HasAtoms-disjoined n None p g h = h
HasAtoms-disjoined n (Some q) p g h = (g, h)

pub abs-signed : (b : Bool) (n : ℕ) → nat_abs (signed_number b n) ≡ n
abs-signed false n = refl
abs-signed true zero = refl
abs-signed true (suc n) = refl

pub abs-neg : (z : ℤ) → nat_abs (neg_ℤ z) ≡ nat_abs z
abs-neg (pos zero) = refl
abs-neg (pos (suc n)) = refl
abs-neg (negsuc n) = refl

pub abs_up : (z : ℤ) → IsConstant z → nat_abs (z +ℤ pos 1) ≤ BOUND_LIMIT
abs_up z h = grind (arith, ints)

pub abs_down : (z : ℤ) → IsConstant z → nat_abs (pos 1 -ℤ z) ≤ BOUND_LIMIT
abs_down z h = grind (arith, ints)

abbrev IsCoef : ℤ → Type 0
IsCoef a = nat_abs a ≤ COEFFICIENT_LIMIT

pub AreCoefs-turned : (n : ℕ) (coefs : List ℤ) → AreCoefs n coefs → AreCoefs n (turned coefs)
AreCoefs-turned n coefs h = (
  simp length-map h.0,
  All-map IsCoef neg_ℤ coefs (λ k d l. let same = abs-neg (get_or coefs k d) in let fits = h.1 k d l in omega (arith, same, fits)),
)

pub AreCoefs-zeros : (names : List (List ℕ)) → AreCoefs (length names) (zero_coefs names)
AreCoefs-zeros names =
    (length-replicate (length names) (pos 0), All-replicate IsCoef (length names) (pos 0) (omega arith))

pub HasAtoms-equality : (n : ℕ) (coefs : List ℤ) (c : ℤ) → AreCoefs n coefs → IsConstant c → HasAtoms n (equality_tree coefs c)
HasAtoms-equality n coefs c h g = ((h, abs_up c g), (AreCoefs-turned n coefs h, abs_down c g))

pub HasAtoms-negated_if : (n : ℕ) (b : Bool) (p : PredTree) → HasAtoms n p → HasAtoms n (negation_if b p)
HasAtoms-negated_if n false p h = h
HasAtoms-negated_if n true p h = h

remainder_below : (c : ℤ) (m : ℕ) → 0 < m → remainder c m < m
remainder_below (pos a) m h = omega arith
remainder_below (negsuc a) m h = omega arith

pub within_limit : (limit v : ℕ) → IfSome (value_within limit v) (λ n. n ≤ limit)
within_limit limit v = by_test (ltb limit v) refl
  where
    by_test : (b : Bool) → ltb limit v ≡ b → IfSome (if b then None else Some v) (λ n. n ≤ limit)
    by_test true e = tt
    by_test false e = ltb-false limit v e

with_coef_fits : (n : ℕ) (coefs : List ℤ) (i : ℕ) (z : ℤ) (place : ℕ) → AreCoefs n coefs → IfOk (with_coef_at coefs i z place) (AreCoefs n)
with_coef_fits n coefs i z place h = by_test (ltb COEFFICIENT_LIMIT (nat_abs z)) refl
  where
    by_test : (b : Bool) → ltb COEFFICIENT_LIMIT (nat_abs z) ≡ b → IfOk {E = ReadPred} (if b then Err (TooLarge place) else Ok (slice_set coefs i z)) (AreCoefs n)
    by_test true e = tt
    by_test false e = (length-set coefs i z ∙ h.0, All-set IsCoef coefs i z (ltb-false COEFFICIENT_LIMIT (nat_abs z) e) h.1)

with_number_fits : (n : ℕ) (coefs : List ℤ) (i : ℕ) (factor : Factor) (o : Option ℕ) → AreCoefs n coefs → IfOk (with_number coefs i factor o) (AreCoefs n)
with_number_fits n coefs i factor None h = tt
with_number_fits n coefs i factor (Some v) h =
    with_coef_fits n coefs i (get_or coefs i (pos 0) +ℤ signed_number factor.negative v) factor.place h

with_term_fits : (n : ℕ) (coefs : List ℤ) (o : Option ℕ) (factor : Factor) (place : ℕ) → AreCoefs n coefs → IfOk (with_term coefs o factor place) (AreCoefs n)
with_term_fits n coefs None factor place h = tt
with_term_fits n coefs (Some i) factor place h = with_number_fits n coefs i factor (value_within COEFFICIENT_LIMIT (value_of_digits factor.digits)) h

pub added_fits : (n : ℕ) (names : List (List ℕ)) (coefs : List ℤ) (factor : Factor) (place : ℕ) (word : List ℕ)
    → AreCoefs n coefs → IfOk (added names coefs factor place word) (AreCoefs n)
added_fits n names coefs factor place word h =
    with_term_fits n coefs (position (bytes_eq word) names) factor place h

pub HasAtoms-congruent : (n : ℕ) (coefs : List ℤ) (b : Bool) (c : ℤ) (m : ℕ) → AreCoefs n coefs → 2 ≤ m → m ≤ MODULUS_LIMIT → HasAtoms n (congruent_tree coefs b c m)
HasAtoms-congruent n coefs b c m h least most =
    HasAtoms-negated_if n b (Congruent coefs m (remainder c m)) (h, least, most, remainder_below c m (omega arith))

pub HasAtoms-compared : (n : ℕ) (coefs : List ℤ) (r : Relation) (c : ℤ) → AreCoefs n coefs → nat_abs c ≤ limit_of r → HasAtoms n (compared_tree coefs r c)
HasAtoms-compared n coefs Less c h g = (h, g)
HasAtoms-compared n coefs AtMost c h g = (h, abs_up c g)
HasAtoms-compared n coefs Greater c h g = (AreCoefs-turned n coefs h, (let same = abs-neg c in omega (arith, same, g)))
HasAtoms-compared n coefs AtLeast c h g = (AreCoefs-turned n coefs h, abs_down c g)
HasAtoms-compared n coefs Equal c h g = HasAtoms-equality n coefs c h g
HasAtoms-compared n coefs Unequal c h g = HasAtoms-equality n coefs c h g
