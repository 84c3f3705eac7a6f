-- The canonical text of a predicate is short, since its numbers, names and weight have limits.
use Rattle.std.proofs.Common.{◌≡◌, ◌≤◌, ◌+◌, ◌*◌, ℕ, suc, Bool, true, false, List, [], ◌∷◌, ◌++◌, length, nat_le, arith, length-append, decimal, codes, ℤ, pos, negsuc}
use Rattle.std.specs.Prelude.{nat_abs, not, ◌&&◌, if◌then◌else◌, ◌==◌}
use Rattle.std.specs.List.{list_all}
use Rattle.std.specs.Str.{bytes_eq}
use Rattle.std.specs.Fmt.{signed_decimal}
use Rattle.std.proofs.lemmas.Bool.{and_parts, leb-true}
use Rattle.std.proofs.lemmas.Fmt.{length-decimal-le}
use Rattle.pop_io.specs.declared.names.TheConstants.{NAME_LIMIT, VARIABLE_LIMIT}
use Rattle.pop_io.specs.Names.{variable_name, is_name_byte, starts_name, AreNames}
use Rattle.pres_ast.specs.declared.limits.TheConstants.{COEFFICIENT_LIMIT, BOUND_LIMIT}
use Rattle.pres_ast.specs.PredTree.{PredTree, LessThan, Congruent, Negation, Conjunction, Disjunction}
use Rattle.pres_ast.specs.PredModel.{HasAtoms, weight_of, IsPred}
use Rattle.pres_read.specs.declared.read.TheConstants.{TEXT_LIMIT}
use Rattle.pres_read.specs.Canonical.{is_negative, is_zero, term_text, sign_text, terms_text, zero_text, sum_text, tree_text}
use Rattle.pres_read.proofs.Printed.{Named}
use Rattle.pres_read.proofs.PrintedTrees.{Named-All}
use Rattle.pres_read.proofs.Again.{Limited, Limited-All}

name_short : (name : List ℕ) → variable_name name ≡ true → length name ≤ NAME_LIMIT
name_short name form =
    let outer = and_parts ((starts_name name && list_all is_name_byte name) && nat_le (length name) NAME_LIMIT) (not (bytes_eq name (codes "mod"))) form in
    leb-true (length name) NAME_LIMIT (and_parts (starts_name name && list_all is_name_byte name) (nat_le (length name) NAME_LIMIT) outer.0).1

term_short : (k : ℕ) (name : List ℕ) (lone : Bool) → k ≤ COEFFICIENT_LIMIT → length name ≤ NAME_LIMIT → length (if lone then name else decimal k ++ codes "*" ++ name) ≤ 43
term_short k name true small short = omega (arith, short)
term_short k name false small short =
    let digits = length-decimal-le 10 k (omega arith) (omega (arith, small)) (omega (arith, small)) in
    simp length-append (omega (arith, digits, short))

sign_short : (first negative : Bool) → length (sign_text first negative) ≤ 3
sign_short true false = omega arith
sign_short true true = omega arith
sign_short false false = omega arith
sign_short false true = omega arith

terms_short_if : (zero_here : Bool) (sign term others : List ℕ) (n : ℕ) → length sign ≤ 3 → length term ≤ 43 → (b : List ℕ) → length b ≤ 46 * n → length others ≤ 46 * n
    → length (if zero_here then b else sign ++ term ++ others) ≤ 46 * (n + 1)
terms_short_if true sign term others n s t b h k = omega (arith, h)
terms_short_if false sign term others n s t b h k = simp length-append (omega (arith, s, t, k))

terms_short : (first : Bool) (names : List (List ℕ)) (coefs : List ℤ) → Named names → Limited coefs → length (terms_text first names coefs) ≤ 46 * length names
terms_short first [] coefs named small = omega arith
terms_short first (name ∷ names) [] named small = omega arith
terms_short first (name ∷ names) (a ∷ coefs) named small =
    let here = terms_short_if (is_zero a) (sign_text first (is_negative a)) (term_text (nat_abs a) name) (terms_text false names coefs) (length names)
    (sign_short first (is_negative a)) (term_short (nat_abs a) name (nat_abs a == 1) small.0 (name_short name named.0))
    (terms_text first names coefs) (terms_short first names coefs named.1 small.1) (terms_short false names coefs named.1 small.1) in
    omega (arith, here)

zero_short : (names : List (List ℕ)) → Named names → length (zero_text names) ≤ 34
zero_short [] named = omega arith
zero_short (name ∷ names) named = let short = name_short name named.0 in omega (arith, short)

sum_short_if : (none : Bool) (zeros terms : List ℕ) (n : ℕ) → n ≤ VARIABLE_LIMIT → length zeros ≤ 34 → length terms ≤ 46 * n → length (if none then zeros else terms) ≤ 736
sum_short_if true zeros terms n few h k = omega (arith, h)
sum_short_if false zeros terms n few h k = omega (arith, few, k)

sum_short : (names : List (List ℕ)) (coefs : List ℤ) → Named names → length names ≤ VARIABLE_LIMIT → Limited coefs → length (sum_text names coefs) ≤ 736
sum_short names coefs named few small =
    sum_short_if (list_all is_zero coefs) (zero_text names) (terms_text true names coefs) (length names) few (zero_short names named) (terms_short true names coefs named small)

bound_short : (z : ℤ) → nat_abs z ≤ BOUND_LIMIT → length (signed_decimal z) ≤ 14
bound_short (pos n) small = let digits = length-decimal-le 13 n (omega arith) (omega (arith, small)) (omega (arith, small)) in omega (arith, digits)
bound_short (negsuc n) small = let digits = length-decimal-le 13 (suc n) (omega arith) (omega (arith, small)) (omega (arith, small)) in omega (arith, digits)

-- an atom has fewer than 800 bytes, and each further node accounts for at most as many
tree_short : (names : List (List ℕ)) (t : PredTree) → Named names → length names ≤ VARIABLE_LIMIT → HasAtoms (length names) t → length (tree_text names t) + 6 ≤ 800 * (weight_of t + 1)
tree_short names (LessThan coefs bound) named few h =
    let sum = sum_short names coefs named few (Limited-All coefs h.0.1) in
    let last = bound_short bound h.1 in
    simp length-append (omega (arith, sum, last))
tree_short names (Congruent coefs modulus rest) named few h =
    let sum = sum_short names coefs named few (Limited-All coefs h.0.1) in
    let most = h.2 in
    let below = h.3 in
    let r = length-decimal-le 3 rest (omega arith) (omega (arith, most, below)) (omega (arith, most, below)) in
    let m = length-decimal-le 3 modulus (omega arith) (omega (arith, most)) (omega (arith, most)) in
    simp length-append (omega (arith, sum, r, m))
tree_short names (Negation p) named few h =
    let inner = tree_short names p named few h in omega (arith, inner)
tree_short names (Conjunction p q) named few h =
    let left = tree_short names p named few h.0 in
    let right = tree_short names q named few h.1 in
    simp length-append (omega (arith, left, right))
tree_short names (Disjunction p q) named few h =
    let left = tree_short names p named few h.0 in
    let right = tree_short names q named few h.1 in
    simp length-append (omega (arith, left, right))

-- so each canonical text can be read
pub printed_short : (names : List (List ℕ)) (t : PredTree) → AreNames variable_name names → IsPred (length names) t → length (tree_text names t) ≤ TEXT_LIMIT
printed_short names t are pred =
    let whole = tree_short names t (Named-All names are.0) pred.variables pred.atoms in
    let weight = pred.weight in
    omega (arith, whole, weight)
