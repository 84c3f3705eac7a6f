-- The canonical text of a predicate.
use Rattle.std.specs.Prelude.{ℕ, Bool, true, false, ◌==◌, if◌then◌else◌, List, []}
use Rattle.std.specs.Prelude.{◌∷◌, ◌++◌, ℤ, pos, negsuc, nat_abs, codes, decimal}
use Rattle.std.specs.List.{list_all}
use Rattle.std.specs.Fmt.{signed_decimal}
use Rattle.pres_ast.specs.PredTree.{PredTree, LessThan, Congruent, Negation, Conjunction, Disjunction}

abbrev pub is_negative : ℤ → Bool
is_negative (pos n) = false
is_negative (negsuc n) = true

abbrev pub is_zero : ℤ → Bool
is_zero z = nat_abs z == 0

-- `x` for 1, else `k*x`
abbrev pub term_text : ℕ → List ℕ → List ℕ
term_text k name = if k == 1 then name else decimal k ++ codes "*" ++ name

-- before the first term, and between two terms
abbrev pub sign_text : (first negative : Bool) → List ℕ
sign_text true false = []
sign_text true true = codes "-"
sign_text false false = codes " + "
sign_text false true = codes " - "

-- the terms with a coefficient other than 0, in the order of the variables
abbrev pub terms_text : Bool → List (List ℕ) → List ℤ → List ℕ
terms_text first [] coefs = []
terms_text first (name ∷ names) [] = []
terms_text first (name ∷ names) (a ∷ coefs) =
    if is_zero a then terms_text first names coefs
    else sign_text first (is_negative a) ++ term_text (nat_abs a) name ++ terms_text false names coefs

abbrev pub zero_text : List (List ℕ) → List ℕ
zero_text [] = codes "0*"
zero_text (name ∷ names) = codes "0*" ++ name

-- if all coefficients are 0: `0*` and the first name
abbrev pub sum_text : List (List ℕ) → List ℤ → List ℕ
sum_text names coefs = if list_all is_zero coefs then zero_text names else terms_text true names coefs

-- the sign between the two parts of a tree
abbrev pub sign_between : PredTree → List ℕ
sign_between (Disjunction p q) = codes " || "
sign_between p = codes " && "

abbrev pub tree_text : List (List ℕ) → PredTree → List ℕ
tree_text names (LessThan coefs bound) = sum_text names coefs ++ codes " < " ++ signed_decimal bound
tree_text names (Congruent coefs modulus rest) =
    sum_text names coefs ++ codes " = " ++ decimal rest ++ codes " mod " ++ decimal modulus
tree_text names (Negation p) = codes "!" ++ tree_text names p
tree_text names (Conjunction p q) = codes "(" ++ tree_text names p ++ codes " && " ++ tree_text names q ++ codes ")"
tree_text names (Disjunction p q) = codes "(" ++ tree_text names p ++ codes " || " ++ tree_text names q ++ codes ")"
