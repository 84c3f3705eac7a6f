-- The canonical text of a predicate within the limits keeps the rules, so it can be read back.
use Rattle.std.proofs.Common.{◌≡◌, ℕ, ◌+◌, ◌-◌, ◌<◌, ◌≤◌, Bool, true, false, List, [], ◌∷◌, ◌++◌, length, get_or, All, Option, Some, None, Ok, refl, sym, ap, subst, ◌∙◌, arith, append_assoc, ℤ, pos, ◌+ℤ◌, nat_abs, codes, decimal, replicate, position}
use Rattle.std.specs.Prelude.{if◌then◌else◌, ◌==◌, AllPairs, ◌≢◌}
use Rattle.std.specs.Str.{bytes_eq}
use Rattle.std.proofs.lemmas.List.{append-nil, length-append}
use Rattle.std.proofs.lemmas.List.Elements.{All-head, All-tail}
use Rattle.std.proofs.lemmas.Int.{ints}
use Rattle.std.proofs.Math.Seq.{get_or-append_seam}
use Rattle.pres_ast.specs.declared.limits.TheConstants.{COEFFICIENT_LIMIT, WEIGHT_LIMIT}
use Rattle.pres_read.specs.declared.read.TheConstants.{TEXT_LIMIT}
use Rattle.pres_read.specs.declared.depth.TheConstants.{PARENTHESIS_LIMIT}
use Rattle.pop_io.specs.Names.{variable_name, AreNames}
use Rattle.pres_ast.specs.PredTree.{PredTree, LessThan, Congruent, Negation, Conjunction, Disjunction}
use Rattle.pres_ast.specs.PredModel.{AreCoefs, HasAtoms, weight_of, IsPred}
use Rattle.pres_tokens.specs.declared.token.Relation.TheVariants.{Less, Equal}
use Rattle.pres_tokens.specs.Symbols.{Symbol, Number, Compare, And, Or, Open, Close, Mod}
use Rattle.pres_read.specs.Numbers.{value_of_digits}
use Rattle.pres_read.specs.Atoms.{signed_number}
use Rattle.pres_read.specs.Depth.{Depth, surface, symbol_charge, parentheses_after, deeper}
use Rattle.pres_read.specs.Reading.{pred_read}
use Rattle.pres_read.specs.Atoms.{zero_coefs}
use Rattle.pres_read.specs.Grammar.{Term, bare, times, Sum, first, further, conj, unit, term_symbols, minus_if, plus_or_minus, sum_symbols, constant_symbols, symbols, term_name, term_number}
use Rattle.pres_read.specs.Rules.{CoefFits, TermFits, SumFits, Fits, IsShallow}
use Rattle.pres_read.specs.Canonical.{is_negative, is_zero, tree_text}
use Rattle.pres_read.proofs.Digits.{decimal_writes}
use Rattle.pres_read.proofs.Printed.{canonical_term, extended, terms_sum, head_name, sum_or_zero, canonical_sum, canonical}
use Rattle.pres_read.proofs.PrintedTrees.{canonical_symbols, meaning-canonical, Named-All, place_found, number-canonical, name-term_by, signed-abs, coefs_so_far, step_filled, zero_of}
use Rattle.pres_read.proofs.KeptRuns.{kept_read}

abbrev OptionFits : List (List ℕ) → Option Sum → Type 0
OptionFits names None = Unit {0}
OptionFits names (Some sum) = SumFits names sum

fits-extended : (names : List (List ℕ)) (o : Option Sum) (negative : Bool) (term : Term) → OptionFits names o → TermFits names (coefs_so_far names o) negative term
    → SumFits names (extended o negative term)
fits-extended names None negative term f t = t
fits-extended names (Some sum) negative term f t = (f, t)

abbrev pub Limited : List ℤ → Type 0
Limited [] = Unit {0}
Limited (a ∷ coefs) = (nat_abs a ≤ COEFFICIENT_LIMIT) × Limited coefs

pub Limited-All : (coefs : List ℤ) → All (λ a. nat_abs a ≤ COEFFICIENT_LIMIT) coefs → Limited coefs
Limited-All [] h = tt
Limited-All (a ∷ coefs) h = (All-head (λ z. nat_abs z ≤ COEFFICIENT_LIMIT) a coefs h, Limited-All coefs (All-tail (λ z. nat_abs z ≤ COEFFICIENT_LIMIT) a coefs h))

coef_fits : (prefix after : List ℤ) (n : ℕ) (a : ℤ) → n ≡ length prefix → nat_abs a ≤ COEFFICIENT_LIMIT → CoefFits (prefix ++ pos 0 ∷ after) (Some n) a
coef_fits prefix after n a e h =
    let old : get_or (prefix ++ pos 0 ∷ after) n (pos 0) ≡ pos 0 = ap (λ k. get_or (prefix ++ pos 0 ∷ after) k (pos 0)) e ∙ get_or-append_seam prefix (pos 0) after (pos 0) in
    let new : get_or (prefix ++ pos 0 ∷ after) n (pos 0) +ℤ a ≡ a = ap (λ y. y +ℤ a) old ∙ (let same : pos 0 +ℤ a ≡ a = omega (arith, ints) in same) in
    subst (λ (z : ℤ). nat_abs z ≤ COEFFICIENT_LIMIT) (sym new) h

term_fits : (all before names : List (List ℕ)) (name : List ℕ) (o : Option Sum) (prefix : List ℤ) (a : ℤ) → AllPairs ◌≢◌ all → all ≡ before ++ name ∷ names
    → length before ≡ length prefix → nat_abs a ≤ COEFFICIENT_LIMIT → coefs_so_far all o ≡ prefix ++ pos 0 ∷ replicate (length names) (pos 0)
    → TermFits all (coefs_so_far all o) (is_negative a) (canonical_term (nat_abs a) name)
term_fits all before names name o prefix a apart e same h filled =
    let number : term_number (canonical_term (nat_abs a) name) ≡ nat_abs a = number-canonical (nat_abs a) name (omega (arith, h)) in
    let last : CoefFits (prefix ++ pos 0 ∷ replicate (length names) (pos 0)) (Some (length before)) a = coef_fits prefix (replicate (length names) (pos 0)) (length before) a same h in
    let placed = subst (λ (i : Option ℕ). CoefFits (prefix ++ pos 0 ∷ replicate (length names) (pos 0)) i a) (sym (place_found all before names name apart e)) last in
    let named = subst (λ (word : List ℕ). CoefFits (prefix ++ pos 0 ∷ replicate (length names) (pos 0)) (position (bytes_eq word) all) a) (sym (name-term_by (nat_abs a == 1) (nat_abs a) name)) placed in
    let valued = subst (λ (z : ℤ). CoefFits (prefix ++ pos 0 ∷ replicate (length names) (pos 0)) (position (bytes_eq (term_name (canonical_term (nat_abs a) name))) all) z)
    (sym (ap (signed_number (is_negative a)) number ∙ signed-abs a)) named in (
      omega (arith, number, h),
      subst (λ (coefs : List ℤ). CoefFits coefs (position (bytes_eq (term_name (canonical_term (nat_abs a) name))) all) (signed_number (is_negative a) (term_number (canonical_term (nat_abs a) name)))) (sym filled) valued,
    )

fits_if : (names : List (List ℕ)) (c : Bool) (found later : Option Sum) → (c ≡ true → OptionFits names found) → (c ≡ false → OptionFits names later) → OptionFits names (if c then found else later)
fits_if names true found later h g = h refl
fits_if names false found later h g = g refl

terms_fit : (all before names : List (List ℕ)) (o : Option Sum) (prefix coefs : List ℤ) → AllPairs ◌≢◌ all → all ≡ before ++ names
    → length before ≡ length prefix → length names ≡ length coefs → Limited coefs → coefs_so_far all o ≡ prefix ++ replicate (length names) (pos 0)
    → OptionFits all o → OptionFits all (terms_sum o names coefs)
terms_fit all before [] o prefix coefs apart e same len small h f = f
terms_fit all before (name ∷ names) o prefix [] apart e same len small h f = f
terms_fit all before (name ∷ names) o prefix (a ∷ coefs) apart e same len small h f =
    let further_names : all ≡ (before ++ name ∷ []) ++ names = e ∙ sym (append_assoc before (name ∷ []) names) in
    let longer : length (before ++ name ∷ []) ≡ length (prefix ++ a ∷ []) = omega (arith, length-append before (name ∷ []), length-append prefix (a ∷ []), same) in
    let shorter : length names ≡ length coefs = omega (arith, len) in
    let here = small.0 in
    fits_if all (is_zero a) (terms_sum o names coefs) (terms_sum (Some (extended o (is_negative a) (canonical_term (nat_abs a) name))) names coefs)
    (λ z. terms_fit all (before ++ name ∷ []) names o (prefix ++ a ∷ []) coefs apart further_names longer shorter small.1
    (h ∙ ap (λ y. prefix ++ y ∷ replicate (length names) (pos 0)) (sym (zero_of a z)) ∙ sym (append_assoc prefix (a ∷ []) (replicate (length names) (pos 0)))) f)
    (λ z. terms_fit all (before ++ name ∷ []) names (Some (extended o (is_negative a) (canonical_term (nat_abs a) name))) (prefix ++ a ∷ []) coefs apart further_names longer shorter small.1
    (step_filled all before names name o prefix a apart e same (omega (arith, here)) h ∙ sym (append_assoc prefix (a ∷ []) (replicate (length names) (pos 0))))
    (fits-extended all o (is_negative a) (canonical_term (nat_abs a) name) f (term_fits all before names name o prefix a apart e same here h)))

zero_fits : (names : List (List ℕ)) → AllPairs ◌≢◌ names → 0 < length names → TermFits names (zero_coefs names) false (times (codes "0") (head_name names))
zero_fits [] apart some = absurd (omega arith)
zero_fits (name ∷ names) apart some = (
  omega arith,
  subst (λ (i : Option ℕ). CoefFits (zero_coefs (name ∷ names)) i (pos 0)) (sym (place_found (name ∷ names) [] names name apart refl))
      (coef_fits [] (replicate (length names) (pos 0)) 0 (pos 0) refl (omega arith)),
)

sum_or_zero_fits : (names : List (List ℕ)) (o : Option Sum) → AllPairs ◌≢◌ names → 0 < length names → OptionFits names o → SumFits names (sum_or_zero names o)
sum_or_zero_fits names None apart some f = zero_fits names apart some
sum_or_zero_fits names (Some sum) apart some f = f

sum_fits : (names : List (List ℕ)) (coefs : List ℤ) → AllPairs ◌≢◌ names → 0 < length names → AreCoefs (length names) coefs → SumFits names (canonical_sum names coefs)
sum_fits names coefs apart some h =
    sum_or_zero_fits names (terms_sum None names coefs) apart some
    (terms_fit names [] names None [] coefs apart refl refl (sym h.0) (Limited-All coefs h.1) refl tt)

tree_fits : (names : List (List ℕ)) (t : PredTree) → AllPairs ◌≢◌ names → 0 < length names → HasAtoms (length names) t → Fits names (canonical names t)
tree_fits names (LessThan coefs bound) apart some h =
    let fits = h.1 in
    let value : value_of_digits (decimal (nat_abs bound)) ≡ nat_abs bound = (decimal_writes (nat_abs bound) (omega (arith, fits))).value in
    (sum_fits names coefs apart some h.0, omega (arith, value, fits))
tree_fits names (Congruent coefs modulus residue) apart some h =
    let least = h.1 in
    let most = h.2 in
    let below = h.3 in
    let r : value_of_digits (decimal residue) ≡ residue = (decimal_writes residue (omega (arith, most, below))).value in
    let m : value_of_digits (decimal modulus) ≡ modulus = (decimal_writes modulus (omega (arith, most))).value in
    (sum_fits names coefs apart some h.0, omega (arith, r, most, below), omega (arith, m, least), omega (arith, m, most))
tree_fits names (Negation p) apart some h = tree_fits names p apart some h
tree_fits names (Conjunction p q) apart some h = (tree_fits names p apart some h.0, tree_fits names q apart some h.1)
tree_fits names (Disjunction p q) apart some h = (tree_fits names p apart some h.0, tree_fits names q apart some h.1)

-- ---- the depth

abbrev at_depth : ℕ → ℕ → Depth
at_depth c n = record { charge = c; parentheses = n }

-- symbols that are not charged and open nothing
abbrev Flat : List Symbol → Type 0
Flat [] = Unit {0}
Flat (s ∷ ss) = (symbol_charge s ≡ 0) × ((n : ℕ) → parentheses_after n s ≡ n) × Flat ss

Flat-append : (ss us : List Symbol) → Flat ss → Flat us → Flat (ss ++ us)
Flat-append [] us f g = g
Flat-append (s ∷ ss) us f g = (f.0, f.1, Flat-append ss us f.2 g)

flat_shallow : (ss rest : List Symbol) (c n : ℕ) → Flat ss → c ≤ WEIGHT_LIMIT → n ≤ PARENTHESIS_LIMIT → IsShallow (at_depth c n) rest → IsShallow (at_depth c n) (ss ++ rest)
flat_shallow [] rest c n f h g d = d
flat_shallow (s ∷ ss) rest c n f h g d =
    let charge : c + symbol_charge s ≡ c = (let none = f.0 in omega (arith, none)) in
    let opened : parentheses_after n s ≡ n = f.1 n in
    let same : deeper (at_depth c n) s ≡ at_depth c n = ap (λ k. at_depth k (parentheses_after n s)) charge ∙ ap (at_depth c) opened in
    (omega (arith, charge, h), omega (arith, opened, g), subst (λ (e : Depth). IsShallow e (ss ++ rest)) (sym same) (flat_shallow ss rest c n f.2 h g d))

flat_term : (t : Term) → Flat (term_symbols t)
flat_term (bare name) = (refl, (λ n. refl), tt)
flat_term (times digits name) = (refl, (λ n. refl), (refl, (λ n. refl), (refl, (λ n. refl), tt)))

flat_minus : (b : Bool) → Flat (minus_if b)
flat_minus false = tt
flat_minus true = (refl, (λ n. refl), tt)

flat_sign : (b : Bool) (t : Term) → Flat (plus_or_minus b ∷ term_symbols t)
flat_sign false t = (refl, (λ n. refl), flat_term t)
flat_sign true t = (refl, (λ n. refl), flat_term t)

flat_sum : (s : Sum) → Flat (sum_symbols s)
flat_sum (first negative term) = Flat-append (minus_if negative) (term_symbols term) (flat_minus negative) (flat_term term)
flat_sum (further sum negative term) = Flat-append (sum_symbols sum) (plus_or_minus negative ∷ term_symbols term) (flat_sum sum) (flat_sign negative term)

flat_constant : (b : Bool) (digits : List ℕ) → Flat (constant_symbols b digits)
flat_constant b digits = Flat-append (minus_if b) (Number digits ∷ []) (flat_minus b) (refl, (λ n. refl), tt)

shallow_at : (rest : List Symbol) (c e n m : ℕ) → c ≡ e → n ≡ m → IsShallow (at_depth c n) rest → IsShallow (at_depth e m) rest
shallow_at rest c e n m p q h = subst (λ k. IsShallow (at_depth e k) rest) q (subst (λ k. IsShallow (at_depth k n) rest) p h)

pair_shallow : (names : List (List ℕ)) (sign : Symbol) (p q rest : List Symbol) (c n wp wq : ℕ) → symbol_charge sign ≡ 1 → ((k : ℕ) → parentheses_after k sign ≡ k)
    → c + (wp + wq + 1) ≤ WEIGHT_LIMIT → n + (wp + wq + 1) ≤ PARENTHESIS_LIMIT → IsShallow (at_depth (c + (wp + wq + 1)) n) rest
    → ((us : List Symbol) (e k : ℕ) → e + wp ≤ WEIGHT_LIMIT → k + wp ≤ PARENTHESIS_LIMIT → IsShallow (at_depth (e + wp) k) us → IsShallow (at_depth e k) (p ++ us))
    → ((us : List Symbol) (e k : ℕ) → e + wq ≤ WEIGHT_LIMIT → k + wq ≤ PARENTHESIS_LIMIT → IsShallow (at_depth (e + wq) k) us → IsShallow (at_depth e k) (q ++ us))
    → IsShallow (at_depth c n) (Open ∷ (p ++ (sign ∷ (q ++ (Close ∷ rest)))))
pair_shallow names sign p q rest c n wp wq one stays h g d left right =
    let opened : parentheses_after (n + 1) sign ≡ n + 1 = stays (n + 1) in
    let closed : IsShallow (at_depth (c + wp + 1 + wq) (n + 1)) (Close ∷ rest) =
    (omega (arith, h), omega (arith, g), shallow_at rest (c + (wp + wq + 1)) (c + wp + 1 + wq + 0) n (n + 1 - 1) (omega arith) (omega arith) d) in
    let second : IsShallow (at_depth (c + wp + 1) (n + 1)) (q ++ (Close ∷ rest)) = right (Close ∷ rest) (c + wp + 1) (n + 1) (omega (arith, h)) (omega (arith, g)) closed in
    let signed_part : IsShallow (at_depth (c + wp) (n + 1)) (sign ∷ (q ++ (Close ∷ rest))) =
    (omega (arith, one, h), omega (arith, opened, g), shallow_at (q ++ (Close ∷ rest)) (c + wp + 1) (c + wp + symbol_charge sign) (n + 1) (parentheses_after (n + 1) sign) (omega (arith, one)) (sym opened) second) in
    let whole : IsShallow (at_depth c (n + 1)) (p ++ (sign ∷ (q ++ (Close ∷ rest)))) = left (sign ∷ (q ++ (Close ∷ rest))) c (n + 1) (omega (arith, h)) (omega (arith, g)) signed_part in
    (omega (arith, h), omega (arith, g), shallow_at (p ++ (sign ∷ (q ++ (Close ∷ rest)))) c (c + 0) (n + 1) (n + 1) (omega arith) refl whole)

tree_shallow : (names : List (List ℕ)) (t : PredTree) (rest : List Symbol) (c n : ℕ) → c + weight_of t ≤ WEIGHT_LIMIT → n + weight_of t ≤ PARENTHESIS_LIMIT → IsShallow (at_depth (c + weight_of t) n) rest
    → IsShallow (at_depth c n) (symbols (canonical names t) ++ rest)
tree_shallow names (LessThan coefs bound) rest c n h g d =
    flat_shallow (symbols (canonical names (LessThan coefs bound))) rest c n
    (Flat-append (sum_symbols (canonical_sum names coefs)) (Compare Less ∷ constant_symbols (is_negative bound) (decimal (nat_abs bound))) (flat_sum (canonical_sum names coefs))
    (refl, (λ k. refl), flat_constant (is_negative bound) (decimal (nat_abs bound))))
    (omega (arith, h)) (omega (arith, g)) (shallow_at rest (c + 0) c n n (omega arith) refl d)
tree_shallow names (Congruent coefs modulus residue) rest c n h g d =
    let later : List Symbol = Number (decimal residue) ∷ Mod ∷ Number (decimal modulus) ∷ [] in
    let flat : symbols (canonical names (Congruent coefs modulus residue)) ++ rest ≡ sum_symbols (canonical_sum names coefs) ++ (Compare Equal ∷ (Number (decimal residue) ∷ Mod ∷ Number (decimal modulus) ∷ rest)) = simp append_assoc in
    subst (IsShallow (at_depth c n)) (sym flat)
    (flat_shallow (sum_symbols (canonical_sum names coefs)) (Compare Equal ∷ (Number (decimal residue) ∷ Mod ∷ Number (decimal modulus) ∷ rest)) c n (flat_sum (canonical_sum names coefs)) (omega (arith, h)) (omega (arith, g)) (
      omega (arith, h),
      omega (arith, g),
      flat_shallow (Number (decimal residue) ∷ Mod ∷ Number (decimal modulus) ∷ []) rest (c + 1) n (refl, (λ k. refl), (refl, (λ k. refl), (refl, (λ k. refl), tt))) (omega (arith, h)) (omega (arith, g)) d,
    ))
tree_shallow names (Negation p) rest c n h g d = (
  omega (arith, h),
  omega (arith, g),
  tree_shallow names p rest (c + 1) n (omega (arith, h)) (omega (arith, g)) (shallow_at rest (c + (weight_of p + 1)) (c + 1 + weight_of p) n n (omega arith) refl d),
)
tree_shallow names (Conjunction p q) rest c n h g d =
    let flat : symbols (canonical names (Conjunction p q)) ++ rest ≡ Open ∷ (symbols (canonical names p) ++ (And ∷ (symbols (canonical names q) ++ (Close ∷ rest)))) = simp append_assoc in
    subst (IsShallow (at_depth c n)) (sym flat)
    (pair_shallow names And (symbols (canonical names p)) (symbols (canonical names q)) rest c n (weight_of p) (weight_of q) refl (λ k. refl) h g d
    (λ us e k i j l. tree_shallow names p us e k i j l) (λ us e k i j l. tree_shallow names q us e k i j l))
tree_shallow names (Disjunction p q) rest c n h g d =
    let flat : symbols (canonical names (Disjunction p q)) ++ rest ≡ Open ∷ (symbols (canonical names p) ++ (Or ∷ (symbols (canonical names q) ++ (Close ∷ rest)))) = simp append_assoc in
    subst (IsShallow (at_depth c n)) (sym flat)
    (pair_shallow names Or (symbols (canonical names p)) (symbols (canonical names q)) rest c n (weight_of p) (weight_of q) refl (λ k. refl) h g d
    (λ us e k i j l. tree_shallow names p us e k i j l) (λ us e k i j l. tree_shallow names q us e k i j l))

-- the canonical text is read back
pub printed_read : (names : List (List ℕ)) (t : PredTree) → AreNames variable_name names → IsPred (length names) t → length (tree_text names t) ≤ TEXT_LIMIT
    → pred_read names (tree_text names t) ≡ Ok (record { variables = length names; tree = t })
printed_read names t are pred short =
    let some = pred.some_variable in
    let weight = pred.weight in
    let spelled = canonical_symbols names t (Named-All names are.0) some pred.atoms in
    let deep : IsShallow surface (symbols (canonical names t)) =
    subst (IsShallow surface) (append-nil (symbols (canonical names t))) (tree_shallow names t [] 0 0 (omega (arith, weight)) (omega (arith, weight)) tt) in
    kept_read names (tree_text names t) (conj (unit (canonical names t))) spelled short (tree_fits names t are.1 some pred.atoms) (subst (IsShallow surface) spelled deep)
    ∙ ap (λ p. Ok (record { variables = length names; tree = p })) (meaning-canonical names t are.1 pred.atoms)
