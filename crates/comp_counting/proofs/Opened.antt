-- What an atom says, and the fact that it has a value.
use Rattle.std.proofs.Common.{◌≡◌, ℕ, zero, suc, ◌+◌, Bool, true, false, List, [], ◌∷◌, length, map, refl, ap, sym, arith}
use Rattle.std.specs.Prelude.{ℤ, pos, negsuc, neg_ℤ, ◌-ℤ◌, not, int_le}
use Rattle.std.proofs.lemmas.Int.{ints}
use Rattle.std.proofs.lemmas.Bool.{lt-leb}
use Rattle.std.proofs.lemmas.List.{length-map}
use Rattle.pres_ast.specs.PredTree.{LessThan}
use Rattle.cert_base.specs.declared.fact.Fact.TheVariants.{Ge}
use Rattle.cert_base.specs.Rows.{input_row}
use Rattle.cert_base.specs.FactsAndCases.{open_tree}
use Rattle.comp_counting.specs.FlockAtoms.{says_enough, enough_for}

-- an atom says so just where its bound is at most 0
pub none_or_less : (bound : ℤ) → says_enough bound ≡ int_le bound (pos 0)
none_or_less (pos zero) = refl
none_or_less (pos (suc n)) = sym (lt-leb (suc n) 0 (omega arith))
none_or_less (negsuc n) = refl

abbrev pub opened_row : List ℤ → Bool → List ℤ
opened_row coefs true = map neg_ℤ coefs
opened_row coefs false = coefs

abbrev pub opened_constant : ℤ → Bool → ℤ
opened_constant bound true = bound -ℤ pos 1
opened_constant bound false = neg_ℤ bound

pub opened-is : (n : ℕ) (coefs : List ℤ) (bound : ℤ) (b : Bool) → open_tree n (LessThan coefs bound) b ≡ (Ge (input_row (opened_row coefs b) (opened_constant bound b)) ∷ []) ∷ []
opened-is n coefs bound true = refl
opened-is n coefs bound false = refl

pub opened-long : (coefs : List ℤ) (b : Bool) → length (opened_row coefs b) ≡ length coefs
opened-long coefs true = length-map coefs neg_ℤ
opened-long coefs false = refl

pub enough-constant : (bound : ℤ) → opened_constant bound (says_enough bound) ≡ neg_ℤ (pos (enough_for bound))
enough-constant (pos zero) = refl
enough-constant (pos (suc n)) = ap (λ m. neg_ℤ (pos m)) (let e : suc n ≡ n + 1 = omega arith in e)
enough-constant (negsuc n) = let e : (negsuc n -ℤ pos 1) ≡ neg_ℤ (pos (n + 2)) = omega (arith, ints) in e

pub too-few-constant : (bound : ℤ) → opened_constant bound (not (says_enough bound)) ≡ (pos (enough_for bound) -ℤ pos 1)
too-few-constant (pos zero) = refl
too-few-constant (pos (suc n)) = let e : (pos (suc n) -ℤ pos 1) ≡ (pos (n + 1) -ℤ pos 1) = omega (arith, ints) in e
too-few-constant (negsuc n) = let e : neg_ℤ (negsuc n) ≡ (pos (n + 2) -ℤ pos 1) = omega (arith, ints) in e
