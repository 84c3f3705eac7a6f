-- The canonical text is read as the tree of productions that means the same predicate.
use Rattle.std.proofs.Common.{◌≡◌, ℕ, ◌^◌, ◌<◌, ◌≤◌, Bool, true, false, List, [], ◌∷◌, ◌++◌, length, All, Option, Some, None, refl, sym, ap, subst, ◌∙◌, arith, append_assoc, ℤ, nat_abs, codes, decimal}
use Rattle.std.specs.Prelude.{if◌then◌else◌, ◌&&◌, ◌==◌, not, nat_le}
use Rattle.std.specs.List.{list_all}
use Rattle.std.specs.Fmt.{signed_decimal}
use Rattle.std.proofs.lemmas.List.Elements.{All-head, All-tail}
use Rattle.std.specs.Str.{bytes_eq}
use Rattle.std.proofs.lemmas.Bool.Decides.{nat_tests}
use Rattle.std.proofs.lemmas.Bool.{and_parts}
use Rattle.pres_ast.specs.declared.limits.TheConstants.{COEFFICIENT_LIMIT}
use Rattle.pop_io.specs.Names.{is_name_start, is_name_byte, variable_name}
use Rattle.pres_ast.specs.PredTree.{PredTree, LessThan, Congruent, Negation, Conjunction, Disjunction}
use Rattle.pres_ast.specs.PredModel.{HasAtoms}
use Rattle.pres_tokens.specs.declared.token.Relation.TheVariants.{Less}
use Rattle.pres_tokens.specs.Symbols.{Symbol, Number, Star}
use Rattle.pres_tokens.specs.Tokens.{digit}
use Rattle.pres_read.specs.Grammar.{Term, bare, times, Sum, first, further, relational, modular, AUnit, Phrase, conj, either, unit, both, negate, group, atom, term_symbols, minus_if, plus_or_minus, sum_symbols}
use Rattle.pres_read.specs.Canonical.{is_negative, is_zero, term_text, sign_text, terms_text, zero_text, sum_text, tree_text}
use Rattle.pres_read.proofs.Digits.{decimal_writes}
use Rattle.pres_read.proofs.Lexing.{lex, Stops, lex-name, lex-number, lex-minus, lex-star, NoEqual}

abbrev pub term_by : Bool → ℕ → List ℕ → Term
term_by true k name = bare name
term_by false k name = times (decimal k) name

abbrev pub canonical_term : ℕ → List ℕ → Term
canonical_term k name = term_by (k == 1) k name

-- a sum so far, with a further term
abbrev pub extended : Option Sum → Bool → Term → Sum
extended None negative term = first negative term
extended (Some sum) negative term = further sum negative term

abbrev pub terms_sum : Option Sum → List (List ℕ) → List ℤ → Option Sum
terms_sum o [] coefs = o
terms_sum o (name ∷ names) [] = o
terms_sum o (name ∷ names) (a ∷ coefs) =
    if is_zero a then terms_sum o names coefs
    else terms_sum (Some (extended o (is_negative a) (canonical_term (nat_abs a) name))) names coefs

abbrev pub head_name : List (List ℕ) → List ℕ
head_name [] = []
head_name (name ∷ names) = name

abbrev pub sum_or_zero : List (List ℕ) → Option Sum → Sum
sum_or_zero names None = first false (times (codes "0") (head_name names))
sum_or_zero names (Some sum) = sum

abbrev pub canonical_sum : List (List ℕ) → List ℤ → Sum
canonical_sum names coefs = sum_or_zero names (terms_sum None names coefs)

abbrev pub canonical : List (List ℕ) → PredTree → Phrase AUnit
canonical names (LessThan coefs bound) = atom (relational (canonical_sum names coefs) Less (is_negative bound) (decimal (nat_abs bound)))
canonical names (Congruent coefs modulus rest) = atom (modular (canonical_sum names coefs) false false (decimal rest) (decimal modulus))
canonical names (Negation p) = negate (canonical names p)
canonical names (Conjunction p q) = group (conj (both (unit (canonical names p)) (canonical names q)))
canonical names (Disjunction p q) = group (either (conj (unit (canonical names p))) (unit (canonical names q)))

-- ---- the symbols of its text

abbrev pub Named : List (List ℕ) → Type 0
Named [] = Unit {0}
Named (name ∷ names) = (variable_name name ≡ true) × Named names

abbrev pub Small : List ℤ → Type 0
Small [] = Unit {0}
Small (a ∷ coefs) = (nat_abs a < 2 ^ 64) × Small coefs

lex-term : (k : ℕ) (name rest : List ℕ) → variable_name name ≡ true → k < 2 ^ 64 → Stops rest
    → lex 0 (term_text k name ++ rest) ≡ term_symbols (canonical_term k name) ++ lex 0 rest
lex-term k name rest h small stops = by_one (k == 1)
  where
    by_one : (b : Bool) → lex 0 ((if b then name else (decimal k ++ codes "*" ++ name)) ++ rest) ≡ term_symbols (term_by b k name) ++ lex 0 rest
    by_one true = lex-name name rest h stops
    by_one false =
        let w = decimal_writes k small in
        let flat : ((decimal k ++ codes "*") ++ name) ++ rest ≡ decimal k ++ (42 ∷ (name ++ rest)) = simp append_assoc in
        ap (lex 0) flat
        ∙ lex-number (decimal k) (42 ∷ (name ++ rest)) w.digits w.some refl
        ∙ ap (λ ss. Number (decimal k) ∷ ss) (lex-star (name ++ rest))
        ∙ ap (λ ss. Number (decimal k) ∷ Star ∷ ss) (lex-name name rest h stops)

abbrev is_first : Option Sum → Bool
is_first None = true
is_first (Some sum) = false

abbrev prefix_symbols : Option Sum → List Symbol
prefix_symbols None = []
prefix_symbols (Some sum) = sum_symbols sum

lex-first_sign : (negative : Bool) (text : List ℕ) → lex 0 (sign_text true negative ++ text) ≡ minus_if negative ++ lex 0 text
lex-first_sign false text = refl
lex-first_sign true text = lex-minus text

lex-later_sign : (negative : Bool) (text : List ℕ) → lex 0 (sign_text false negative ++ text) ≡ plus_or_minus negative ∷ lex 0 text
lex-later_sign false text = refl
lex-later_sign true text = refl

lex-extended : (o : Option Sum) (negative : Bool) (term : Term) (text : List ℕ) (ss : List Symbol) → lex 0 text ≡ term_symbols term ++ ss
    → prefix_symbols o ++ lex 0 (sign_text (is_first o) negative ++ text) ≡ sum_symbols (extended o negative term) ++ ss
lex-extended None negative term text ss e =
    lex-first_sign negative text ∙ ap (λ us. minus_if negative ++ us) e ∙ sym (append_assoc (minus_if negative) (term_symbols term) ss)
lex-extended (Some sum) negative term text ss e =
    ap (λ us. sum_symbols sum ++ us) (lex-later_sign negative text ∙ ap (λ us. plus_or_minus negative ∷ us) e)
    ∙ sym (append_assoc (sum_symbols sum) (plus_or_minus negative ∷ term_symbols term) ss)

stops_if : (c negative : Bool) (name rest others : List ℕ) (k : ℕ) → Stops (others ++ rest)
    → Stops ((if c then others else (sign_text false negative ++ term_text k name ++ others)) ++ rest)
stops_if true negative name rest others k h = h
stops_if false false name rest others k h = refl
stops_if false true name rest others k h = refl

stops_terms : (names : List (List ℕ)) (coefs : List ℤ) (rest : List ℕ) → Stops rest → Stops (terms_text false names coefs ++ rest)
stops_terms [] coefs rest h = h
stops_terms (name ∷ names) [] rest h = h
stops_terms (name ∷ names) (a ∷ coefs) rest h =
    stops_if (is_zero a) (is_negative a) name rest (terms_text false names coefs) (nat_abs a) (stops_terms names coefs rest h)

lex-terms_if : (c : Bool) (o : Option Sum) (negative : Bool) (k : ℕ) (name rest zero_case others : List ℕ) (zero_sum later_sum : Option Sum)
    → variable_name name ≡ true → k < 2 ^ 64 → Stops (others ++ rest)
    → prefix_symbols o ++ lex 0 (zero_case ++ rest) ≡ prefix_symbols zero_sum ++ lex 0 rest
    → sum_symbols (extended o negative (canonical_term k name)) ++ lex 0 (others ++ rest) ≡ prefix_symbols later_sum ++ lex 0 rest
    → prefix_symbols o ++ lex 0 ((if c then zero_case else (sign_text (is_first o) negative ++ term_text k name ++ others)) ++ rest) ≡ prefix_symbols (if c then zero_sum else later_sum) ++ lex 0 rest
lex-terms_if true o negative k name rest zero_case others zero_sum later_sum h small stops e f = e
lex-terms_if false o negative k name rest zero_case others zero_sum later_sum h small stops e f =
    let flat : ((sign_text (is_first o) negative ++ term_text k name) ++ others) ++ rest ≡ sign_text (is_first o) negative ++ (term_text k name ++ (others ++ rest)) = simp append_assoc in
    ap (λ text. prefix_symbols o ++ lex 0 text) flat
    ∙ lex-extended o negative (canonical_term k name) (term_text k name ++ (others ++ rest)) (lex 0 (others ++ rest)) (lex-term k name (others ++ rest) h small stops)
    ∙ f

lex-terms : (o : Option Sum) (names : List (List ℕ)) (coefs : List ℤ) (rest : List ℕ) → Named names → Small coefs → Stops rest
    → prefix_symbols o ++ lex 0 (terms_text (is_first o) names coefs ++ rest) ≡ prefix_symbols (terms_sum o names coefs) ++ lex 0 rest
lex-terms o [] coefs rest named small stops = refl
lex-terms o (name ∷ names) [] rest named small stops = refl
lex-terms o (name ∷ names) (a ∷ coefs) rest named small stops =
    lex-terms_if (is_zero a) o (is_negative a) (nat_abs a) name rest (terms_text (is_first o) names coefs) (terms_text false names coefs)
    (terms_sum o names coefs) (terms_sum (Some (extended o (is_negative a) (canonical_term (nat_abs a) name))) names coefs)
    named.0 small.0 (stops_terms names coefs rest stops)
    (lex-terms o names coefs rest named.1 small.1 stops)
    (lex-terms (Some (extended o (is_negative a) (canonical_term (nat_abs a) name))) names coefs rest named.1 small.1 stops)

-- if all coefficients are 0, there is no term
zero_terms_if : (c : Bool) (o later found : Option Sum) → c ≡ true → found ≡ o → (if c then found else later) ≡ o
zero_terms_if true o later found h e = e
zero_terms_if false o later found h e = cc

zero_terms : (o : Option Sum) (names : List (List ℕ)) (coefs : List ℤ) → list_all is_zero coefs ≡ true → terms_sum o names coefs ≡ o
zero_terms o [] coefs h = refl
zero_terms o (name ∷ names) [] h = refl
zero_terms o (name ∷ names) (a ∷ coefs) h =
    let parts = and_parts (is_zero a) (list_all is_zero coefs) h in
    zero_terms_if (is_zero a) o (terms_sum (Some (extended o (is_negative a) (canonical_term (nat_abs a) name))) names coefs) (terms_sum o names coefs)
    parts.0 (zero_terms o names coefs parts.1)

abbrev IsThere : Option Sum → Type 0
IsThere o = (sum : Sum) × (o ≡ Some sum)

there_if : (c : Bool) (found later : Option Sum) → (c ≡ true → IsThere found) → (c ≡ false → IsThere later) → IsThere (if c then found else later)
there_if true found later h g = h refl
there_if false found later h g = g refl

kept_sum : (sum : Sum) (names : List (List ℕ)) (coefs : List ℤ) → IsThere (terms_sum (Some sum) names coefs)
kept_sum sum [] coefs = (sum, refl)
kept_sum sum (name ∷ names) [] = (sum, refl)
kept_sum sum (name ∷ names) (a ∷ coefs) =
    there_if (is_zero a) (terms_sum (Some sum) names coefs) (terms_sum (Some (extended (Some sum) (is_negative a) (canonical_term (nat_abs a) name))) names coefs)
    (λ e. kept_sum sum names coefs) (λ e. kept_sum (extended (Some sum) (is_negative a) (canonical_term (nat_abs a) name)) names coefs)

some_sum : (names : List (List ℕ)) (coefs : List ℤ) → length names ≡ length coefs → list_all is_zero coefs ≡ false → IsThere (terms_sum None names coefs)
some_sum [] [] e h = cc
some_sum [] (a ∷ coefs) e h = absurd (omega arith)
some_sum (name ∷ names) [] e h = absurd (omega arith)
some_sum (name ∷ names) (a ∷ coefs) e h =
    there_if (is_zero a) (terms_sum None names coefs) (terms_sum (Some (extended None (is_negative a) (canonical_term (nat_abs a) name))) names coefs)
    (λ z. some_sum names coefs (omega arith) (let here = ap (λ b. b && list_all is_zero coefs) (sym z) in (here ∙ h)))
    (λ z. kept_sum (extended None (is_negative a) (canonical_term (nat_abs a) name)) names coefs)

lex-zero : (names : List (List ℕ)) (rest : List ℕ) → Named names → 0 < length names → Stops rest
    → lex 0 (zero_text names ++ rest) ≡ sum_symbols (first false (times (codes "0") (head_name names))) ++ lex 0 rest
lex-zero [] rest named some stops = absurd (omega arith)
lex-zero (name ∷ names) rest named some stops =
    lex-number (codes "0") (42 ∷ (name ++ rest)) refl (omega arith) refl
    ∙ ap (λ ss. Number (codes "0") ∷ ss) (lex-star (name ++ rest) ∙ ap (λ ss. Star ∷ ss) (lex-name name rest named.0 stops))

pub lex-sum : (names : List (List ℕ)) (coefs : List ℤ) (rest : List ℕ) → Named names → Small coefs → length names ≡ length coefs → 0 < length names → Stops rest
    → lex 0 (sum_text names coefs ++ rest) ≡ sum_symbols (canonical_sum names coefs) ++ lex 0 rest
lex-sum names coefs rest named small same some stops = by_zero (list_all is_zero coefs) refl
  where
    by_zero : (b : Bool) → list_all is_zero coefs ≡ b → lex 0 ((if b then zero_text names else terms_text true names coefs) ++ rest) ≡ sum_symbols (canonical_sum names coefs) ++ lex 0 rest
    by_zero true e =
        lex-zero names rest named some stops
        ∙ ap (λ o. sum_symbols (sum_or_zero names o) ++ lex 0 rest) (sym (zero_terms None names coefs e))
    by_zero false e =
        let found = some_sum names coefs same e in
        lex-terms None names coefs rest named small stops
        ∙ ap (λ o. prefix_symbols o ++ lex 0 rest) found.1
        ∙ ap (λ o. sum_symbols (sum_or_zero names o) ++ lex 0 rest) (sym found.1)

-- ---- no text begins with `=`

start_no_equal : (b : ℕ) → is_name_start b ≡ true → (b == 61) ≡ false
start_no_equal b h = grind (arith, nat_tests)

digit_no_equal : (b : ℕ) → digit b ≡ true → (b == 61) ≡ false
digit_no_equal b h = grind (arith, nat_tests)

name_no_equal : (name rest : List ℕ) → variable_name name ≡ true → NoEqual (name ++ rest)
name_no_equal [] rest h = cc
name_no_equal (b ∷ bs) rest h =
    let outer = and_parts ((is_name_start b && list_all is_name_byte (b ∷ bs)) && nat_le (length (b ∷ bs)) 32) (not (bytes_eq (b ∷ bs) (codes "mod"))) h in
    let middle = and_parts (is_name_start b && list_all is_name_byte (b ∷ bs)) (nat_le (length (b ∷ bs)) 32) outer.0 in
    start_no_equal b (and_parts (is_name_start b) (list_all is_name_byte (b ∷ bs)) middle.0).0

number_no_equal : (digits rest : List ℕ) → list_all digit digits ≡ true → 0 < length digits → NoEqual (digits ++ rest)
number_no_equal [] rest h some = absurd (omega arith)
number_no_equal (b ∷ bs) rest h some = digit_no_equal b (and_parts (digit b) (list_all digit bs) h).0

term_no_equal : (k : ℕ) (name rest : List ℕ) → variable_name name ≡ true → k < 2 ^ 64 → NoEqual (term_text k name ++ rest)
term_no_equal k name rest h small = by_one (k == 1)
  where
    by_one : (b : Bool) → NoEqual ((if b then name else (decimal k ++ codes "*" ++ name)) ++ rest)
    by_one true = name_no_equal name rest h
    by_one false =
        let w = decimal_writes k small in
        let flat : decimal k ++ (42 ∷ (name ++ rest)) ≡ ((decimal k ++ codes "*") ++ name) ++ rest = simp append_assoc in
        subst NoEqual flat (number_no_equal (decimal k) (42 ∷ (name ++ rest)) w.digits w.some)

terms_no_equal_if : (c negative : Bool) (k : ℕ) (name rest zero_case others : List ℕ) → variable_name name ≡ true → k < 2 ^ 64
    → NoEqual (zero_case ++ rest) → NoEqual ((if c then zero_case else (sign_text true negative ++ term_text k name ++ others)) ++ rest)
terms_no_equal_if true negative k name rest zero_case others h small e = e
terms_no_equal_if false true k name rest zero_case others h small e = refl
terms_no_equal_if false false k name rest zero_case others h small e =
    let flat : term_text k name ++ (others ++ rest) ≡ (term_text k name ++ others) ++ rest = simp append_assoc in
    subst NoEqual flat (term_no_equal k name (others ++ rest) h small)

terms_no_equal : (names : List (List ℕ)) (coefs : List ℤ) (rest : List ℕ) → Named names → Small coefs → NoEqual rest → NoEqual (terms_text true names coefs ++ rest)
terms_no_equal [] coefs rest named small h = h
terms_no_equal (name ∷ names) [] rest named small h = h
terms_no_equal (name ∷ names) (a ∷ coefs) rest named small h =
    terms_no_equal_if (is_zero a) (is_negative a) (nat_abs a) name rest (terms_text true names coefs) (terms_text false names coefs)
    named.0 small.0 (terms_no_equal names coefs rest named.1 small.1 h)

zero_no_equal : (names : List (List ℕ)) (rest : List ℕ) → NoEqual (zero_text names ++ rest)
zero_no_equal [] rest = refl
zero_no_equal (name ∷ names) rest = refl

sum_no_equal : (names : List (List ℕ)) (coefs : List ℤ) (rest : List ℕ) → Named names → Small coefs → NoEqual rest → NoEqual (sum_text names coefs ++ rest)
sum_no_equal names coefs rest named small h = by_zero (list_all is_zero coefs)
  where
    by_zero : (b : Bool) → NoEqual ((if b then zero_text names else terms_text true names coefs) ++ rest)
    by_zero true = zero_no_equal names rest
    by_zero false = terms_no_equal names coefs rest named small h

pub Small-AreCoefs : (coefs : List ℤ) → All (λ a. nat_abs a ≤ COEFFICIENT_LIMIT) coefs → Small coefs
Small-AreCoefs [] h = tt
Small-AreCoefs (a ∷ coefs) h =
    let here = All-head (λ z. nat_abs z ≤ COEFFICIENT_LIMIT) a coefs h in
    (omega (arith, here), Small-AreCoefs coefs (All-tail (λ z. nat_abs z ≤ COEFFICIENT_LIMIT) a coefs h))

pub tree_no_equal : (names : List (List ℕ)) (t : PredTree) (rest : List ℕ) → Named names → HasAtoms (length names) t → NoEqual (tree_text names t ++ rest)
tree_no_equal names (LessThan coefs bound) rest named h =
    let flat : sum_text names coefs ++ (codes " < " ++ (signed_decimal bound ++ rest)) ≡ ((sum_text names coefs ++ codes " < ") ++ signed_decimal bound) ++ rest = simp append_assoc in
    subst NoEqual flat (sum_no_equal names coefs (codes " < " ++ (signed_decimal bound ++ rest)) named (Small-AreCoefs coefs h.0.1) refl)
tree_no_equal names (Congruent coefs modulus residue) rest named h =
    let flat : sum_text names coefs ++ (codes " = " ++ (decimal residue ++ (codes " mod " ++ (decimal modulus ++ rest)))) ≡ ((((sum_text names coefs ++ codes " = ") ++ decimal residue) ++ codes " mod ") ++ decimal modulus) ++ rest = simp append_assoc in
    subst NoEqual flat (sum_no_equal names coefs (codes " = " ++ (decimal residue ++ (codes " mod " ++ (decimal modulus ++ rest)))) named (Small-AreCoefs coefs h.0.1) refl)
tree_no_equal names (Negation p) rest named h = refl
tree_no_equal names (Conjunction p q) rest named h = refl
tree_no_equal names (Disjunction p q) rest named h = refl
