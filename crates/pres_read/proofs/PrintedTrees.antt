-- The canonical text is derived by the grammar, and means the predicate.
use Rattle.std.proofs.Common.{◌≡◌, ℕ, zero, suc, ◌%◌, ◌^◌, ◌<◌, Bool, true, false, List, [], ◌∷◌, ◌++◌, length, get_or, All, Option, Some, None, refl, sym, ap, ◌∙◌, arith, append_assoc, ℤ, pos, negsuc, ◌+ℤ◌, nat_abs, codes, decimal, replicate, slice_set, position}
use Rattle.std.specs.Prelude.{if◌then◌else◌, ◌==◌, not, IsTrue, AllPairs, ◌≢◌, nat_lt}
use Rattle.std.specs.List.{prefix_len}
use Rattle.std.specs.Fmt.{signed_decimal}
use Rattle.std.specs.Str.{bytes_eq}
use Rattle.std.proofs.lemmas.List.{append-nil, length-append}
use Rattle.std.proofs.lemmas.List.Elements.{All-head, All-tail}
use Rattle.std.proofs.lemmas.List.Sums.{prefix_len_is}
use Rattle.std.proofs.lemmas.Bool.{lt-ltb, eqb-true}
use Rattle.std.proofs.lemmas.Slice.Eq.{bytes_eq-Decides}
use Rattle.std.proofs.lemmas.Int.{ints}
use Rattle.std.proofs.Math.Nat.{mod-eq_of_lt}
use Rattle.std.proofs.Math.Seq.{set-append_seam, get_or-append_seam}
use Rattle.pop_io.specs.Names.{variable_name, AreNames}
use Rattle.pres_ast.specs.PredTree.{PredTree, LessThan, Congruent, Negation, Conjunction, Disjunction}
use Rattle.pres_ast.specs.PredModel.{HasAtoms}
use Rattle.pres_tokens.specs.declared.token.Relation.TheVariants.{Less, Equal}
use Rattle.pres_tokens.specs.Symbols.{Number, Minus, Compare, And, Or, Not, Open, Close, Mod}
use Rattle.pres_read.specs.Numbers.{value_of_digits}
use Rattle.pres_read.specs.Atoms.{signed_number}
use Rattle.pres_read.specs.Atoms.{zero_coefs}
use Rattle.pres_read.specs.Grammar.{Term, Sum, conj, unit, sum_symbols, constant_symbols, symbols, term_name, term_number, raised, with_a_term, coefs_of, meaning, Derives}
use Rattle.pres_read.specs.Texts.{text_symbols}
use Rattle.pres_read.specs.Canonical.{is_negative, is_zero, sum_text, tree_text}
use Rattle.pres_read.proofs.Digits.{decimal_writes}
use Rattle.pres_read.proofs.Lexing.{lex, Stops, symbols-tokens_from, lex-number, lex-minus, lex-open, lex-close, lex-not}
use Rattle.pres_read.proofs.Printed.{term_by, canonical_term, extended, terms_sum, head_name, sum_or_zero, canonical_sum, canonical, Named, Small, lex-sum, tree_no_equal, Small-AreCoefs}

lex-constant : (bound : ℤ) (rest : List ℕ) → nat_abs bound < 2 ^ 64 → Stops rest
    → lex 0 (signed_decimal bound ++ rest) ≡ constant_symbols (is_negative bound) (decimal (nat_abs bound)) ++ lex 0 rest
lex-constant (pos n) rest small stops = let w = decimal_writes n small in lex-number (decimal n) rest w.digits w.some stops
lex-constant (negsuc n) rest small stops =
    let w = decimal_writes (suc n) small in
    lex-minus (decimal (suc n) ++ rest) ∙ ap (λ ss. Minus ∷ ss) (lex-number (decimal (suc n)) rest w.digits w.some stops)

lex-less : (text : List ℕ) → lex 0 (codes " < " ++ text) ≡ Compare Less ∷ lex 0 text
lex-less text = refl

lex-equal : (text : List ℕ) → lex 0 (codes " = " ++ text) ≡ Compare Equal ∷ lex 0 text
lex-equal text = refl

lex-mod : (text : List ℕ) → lex 0 (codes " mod " ++ text) ≡ Mod ∷ lex 0 text
lex-mod text = refl

lex-and : (text : List ℕ) → lex 0 (codes " && " ++ text) ≡ And ∷ lex 0 text
lex-and text = refl

lex-or : (text : List ℕ) → lex 0 (codes " || " ++ text) ≡ Or ∷ lex 0 text
lex-or text = refl

lex-tree : (names : List (List ℕ)) (t : PredTree) (rest : List ℕ) → Named names → 0 < length names → HasAtoms (length names) t → Stops rest
    → lex 0 (tree_text names t ++ rest) ≡ symbols (canonical names t) ++ lex 0 rest
lex-tree names (LessThan coefs bound) rest named some h stops =
    let flat : ((sum_text names coefs ++ codes " < ") ++ signed_decimal bound) ++ rest ≡ sum_text names coefs ++ (codes " < " ++ (signed_decimal bound ++ rest)) = simp append_assoc in
    let fits = h.1 in
    ap (lex 0) flat
    ∙ lex-sum names coefs (codes " < " ++ (signed_decimal bound ++ rest)) named (Small-AreCoefs coefs h.0.1) (sym h.0.0) some refl
    ∙ ap (λ ss. sum_symbols (canonical_sum names coefs) ++ ss) (lex-less (signed_decimal bound ++ rest) ∙ ap (λ ss. Compare Less ∷ ss) (lex-constant bound rest (omega (arith, fits)) stops))
    ∙ sym (append_assoc (sum_symbols (canonical_sum names coefs)) (Compare Less ∷ constant_symbols (is_negative bound) (decimal (nat_abs bound))) (lex 0 rest))
lex-tree names (Congruent coefs modulus residue) rest named some h stops =
    let flat : ((((sum_text names coefs ++ codes " = ") ++ decimal residue) ++ codes " mod ") ++ decimal modulus) ++ rest ≡ sum_text names coefs ++ (codes " = " ++ (decimal residue ++ (codes " mod " ++ (decimal modulus ++ rest)))) = simp append_assoc in
    let most = h.2 in
    let below = h.3 in
    let r = decimal_writes residue (omega (arith, most, below)) in
    let m = decimal_writes modulus (omega (arith, most)) in
    ap (lex 0) flat
    ∙ lex-sum names coefs (codes " = " ++ (decimal residue ++ (codes " mod " ++ (decimal modulus ++ rest)))) named (Small-AreCoefs coefs h.0.1) (sym h.0.0) some refl
    ∙ ap (λ ss. sum_symbols (canonical_sum names coefs) ++ ss)
    (lex-equal (decimal residue ++ (codes " mod " ++ (decimal modulus ++ rest)))
    ∙ ap (λ ss. Compare Equal ∷ ss) (lex-number (decimal residue) (codes " mod " ++ (decimal modulus ++ rest)) r.digits r.some refl)
    ∙ ap (λ ss. Compare Equal ∷ Number (decimal residue) ∷ ss) (lex-mod (decimal modulus ++ rest))
    ∙ ap (λ ss. Compare Equal ∷ Number (decimal residue) ∷ Mod ∷ ss) (lex-number (decimal modulus) rest m.digits m.some stops))
    ∙ sym (append_assoc (sum_symbols (canonical_sum names coefs)) (Compare Equal ∷ Number (decimal residue) ∷ Mod ∷ Number (decimal modulus) ∷ []) (lex 0 rest))
lex-tree names (Negation p) rest named some h stops =
    lex-not (tree_text names p ++ rest) (tree_no_equal names p rest named h) ∙ ap (λ ss. Not ∷ ss) (lex-tree names p rest named some h stops)
lex-tree names (Conjunction p q) rest named some h stops =
    let flat : ((((codes "(" ++ tree_text names p) ++ codes " && ") ++ tree_text names q) ++ codes ")") ++ rest ≡ 40 ∷ (tree_text names p ++ (codes " && " ++ (tree_text names q ++ (41 ∷ rest)))) = simp append_assoc in
    let whole : Open ∷ (symbols (canonical names p) ++ (And ∷ (symbols (canonical names q) ++ (Close ∷ lex 0 rest)))) ≡ symbols (canonical names (Conjunction p q)) ++ lex 0 rest = simp append_assoc in
    ap (lex 0) flat
    ∙ lex-open (tree_text names p ++ (codes " && " ++ (tree_text names q ++ (41 ∷ rest))))
    ∙ ap (λ ss. Open ∷ ss) (lex-tree names p (codes " && " ++ (tree_text names q ++ (41 ∷ rest))) named some h.0 refl)
    ∙ ap (λ ss. Open ∷ (symbols (canonical names p) ++ ss))
    (lex-and (tree_text names q ++ (41 ∷ rest))
    ∙ ap (λ ss. And ∷ ss) (lex-tree names q (41 ∷ rest) named some h.1 refl)
    ∙ ap (λ ss. And ∷ (symbols (canonical names q) ++ ss)) (lex-close rest))
    ∙ whole
lex-tree names (Disjunction p q) rest named some h stops =
    let flat : ((((codes "(" ++ tree_text names p) ++ codes " || ") ++ tree_text names q) ++ codes ")") ++ rest ≡ 40 ∷ (tree_text names p ++ (codes " || " ++ (tree_text names q ++ (41 ∷ rest)))) = simp append_assoc in
    let whole : Open ∷ (symbols (canonical names p) ++ (Or ∷ (symbols (canonical names q) ++ (Close ∷ lex 0 rest)))) ≡ symbols (canonical names (Disjunction p q)) ++ lex 0 rest = simp append_assoc in
    ap (lex 0) flat
    ∙ lex-open (tree_text names p ++ (codes " || " ++ (tree_text names q ++ (41 ∷ rest))))
    ∙ ap (λ ss. Open ∷ ss) (lex-tree names p (codes " || " ++ (tree_text names q ++ (41 ∷ rest))) named some h.0 refl)
    ∙ ap (λ ss. Open ∷ (symbols (canonical names p) ++ ss))
    (lex-or (tree_text names q ++ (41 ∷ rest))
    ∙ ap (λ ss. Or ∷ ss) (lex-tree names q (41 ∷ rest) named some h.1 refl)
    ∙ ap (λ ss. Or ∷ (symbols (canonical names q) ++ ss)) (lex-close rest))
    ∙ whole

pub canonical_symbols : (names : List (List ℕ)) (t : PredTree) → Named names → 0 < length names → HasAtoms (length names) t
    → symbols (conj (unit (canonical names t))) ≡ text_symbols (tree_text names t)
canonical_symbols names t named some h =
    sym (symbols-tokens_from 0 0 (tree_text names t)
    ∙ ap (lex 0) (sym (append-nil (tree_text names t)))
    ∙ lex-tree names t [] named some h tt
    ∙ append-nil (symbols (canonical names t)))

-- ---- the meaning of its tree of productions

pub number-canonical : (k : ℕ) (name : List ℕ) → k < 2 ^ 64 → term_number (canonical_term k name) ≡ k
number-canonical k name small = by_one (k == 1) refl
  where
    by_one : (b : Bool) → (k == 1) ≡ b → term_number (term_by b k name) ≡ k
    by_one true e = sym (eqb-true k 1 e)
    by_one false e = (decimal_writes k small).value

pub name-term_by : (b : Bool) (k : ℕ) (name : List ℕ) → term_name (term_by b k name) ≡ name
name-term_by true k name = refl
name-term_by false k name = refl

pub signed-abs : (z : ℤ) → signed_number (is_negative z) (nat_abs z) ≡ z
signed-abs (pos n) = refl
signed-abs (negsuc n) = refl

abbrev pub coefs_so_far : List (List ℕ) → Option Sum → List ℤ
coefs_so_far names None = zero_coefs names
coefs_so_far names (Some sum) = coefs_of names sum

coefs-extended : (names : List (List ℕ)) (o : Option Sum) (negative : Bool) (term : Term) → coefs_of names (extended o negative term) ≡ with_a_term names (coefs_so_far names o) negative term
coefs-extended names None negative term = refl
coefs-extended names (Some sum) negative term = refl

not_same : (x y : List ℕ) → (x ≡ y → ⊥) → not (bytes_eq x y) ≡ true
not_same x y h = by_test (bytes_eq x y) (bytes_eq-Decides x y).0
  where
    by_test : (b : Bool) → (b ≡ true → x ≡ y) → not b ≡ true
    by_test true e = absurd (h (e refl))
    by_test false e = refl

-- the place of a name after others
pub place_found : (all before names : List (List ℕ)) (name : List ℕ) → AllPairs ◌≢◌ all → all ≡ before ++ name ∷ names
    → position (bytes_eq name) all ≡ Some (length before)
place_found all before names name apart e =
    let long = ap length e in
    let within : length before < length all = omega (arith, long, length-append before (name ∷ names)) in
    let there : get_or all (length before) [] ≡ name = ap (λ xs. get_or xs (length before) []) e ∙ get_or-append_seam before name names [] in
    let found : prefix_len (λ other. not (bytes_eq name other)) all ≡ length before =
    prefix_len_is (λ other. not (bytes_eq name other)) all (length before) [] (omega (arith, within))
    (λ k l. not_same name (get_or all k []) (λ same. apart k (length before) [] l within (sym same ∙ sym there)))
    (λ l. ap not ((bytes_eq-Decides name (get_or all (length before) [])).1 (sym there))) in
    ap (λ k. if nat_lt k (length all) then Some k else None) found
    ∙ some_if (nat_lt (length before) (length all)) (length before) (lt-ltb (length before) (length all) within)
  where
    some_if : (b : Bool) (k : ℕ) → b ≡ true → (if b then Some k else None) ≡ Some k
    some_if true k e = refl
    some_if false k e = cc

-- the coefficient after others is set
raised_at : (before after : List ℤ) (n : ℕ) (z : ℤ) → n ≡ length before → raised (before ++ pos 0 ∷ after) (Some n) z ≡ before ++ z ∷ after
raised_at before after n z e =
    let place = ap (λ k. raised (before ++ pos 0 ∷ after) (Some k) z) e in
    let old : get_or (before ++ pos 0 ∷ after) (length before) (pos 0) ≡ pos 0 = get_or-append_seam before (pos 0) after (pos 0) in
    let new : pos 0 +ℤ z ≡ z = omega (arith, ints) in
    place
    ∙ ap (λ y. slice_set (before ++ pos 0 ∷ after) (length before) y) (ap (λ y. y +ℤ z) old ∙ new)
    ∙ set-append_seam before (pos 0) after z

pub zero_of : (a : ℤ) → is_zero a ≡ true → a ≡ pos 0
zero_of (pos n) e = ap pos (eqb-true n 0 e)
zero_of (negsuc n) e = absurd (let no : suc n ≡ 0 = eqb-true (suc n) 0 e in omega arith)

abbrev Filled : List (List ℕ) → Option Sum → List ℤ → Type 0
Filled all o coefs = coefs_so_far all o ≡ coefs

filled_if : (all : List (List ℕ)) (c : Bool) (zero_sum later_sum : Option Sum) (coefs : List ℤ) → (c ≡ true → Filled all zero_sum coefs) → (c ≡ false → Filled all later_sum coefs)
    → Filled all (if c then zero_sum else later_sum) coefs
filled_if all true zero_sum later_sum coefs h g = h refl
filled_if all false zero_sum later_sum coefs h g = g refl

pub step_filled : (all before names : List (List ℕ)) (name : List ℕ) (o : Option Sum) (prefix : List ℤ) (a : ℤ) → AllPairs ◌≢◌ all → all ≡ before ++ name ∷ names
    → length before ≡ length prefix → nat_abs a < 2 ^ 64 → coefs_so_far all o ≡ prefix ++ pos 0 ∷ replicate (length names) (pos 0)
    → coefs_so_far all (Some (extended o (is_negative a) (canonical_term (nat_abs a) name))) ≡ prefix ++ a ∷ replicate (length names) (pos 0)
step_filled all before names name o prefix a apart e same small h =
    coefs-extended all o (is_negative a) (canonical_term (nat_abs a) name)
    ∙ ap (λ coefs. with_a_term all coefs (is_negative a) (canonical_term (nat_abs a) name)) h
    ∙ ap (λ word. raised (prefix ++ pos 0 ∷ replicate (length names) (pos 0)) (position (bytes_eq word) all) (signed_number (is_negative a) (term_number (canonical_term (nat_abs a) name)))) (name-term_by (nat_abs a == 1) (nat_abs a) name)
    ∙ ap (λ k. raised (prefix ++ pos 0 ∷ replicate (length names) (pos 0)) (position (bytes_eq name) all) (signed_number (is_negative a) k)) (number-canonical (nat_abs a) name small)
    ∙ ap (λ z. raised (prefix ++ pos 0 ∷ replicate (length names) (pos 0)) (position (bytes_eq name) all) z) (signed-abs a)
    ∙ ap (λ i. raised (prefix ++ pos 0 ∷ replicate (length names) (pos 0)) i a) (place_found all before names name apart e)
    ∙ raised_at prefix (replicate (length names) (pos 0)) (length before) a same

terms_filled : (all before names : List (List ℕ)) (o : Option Sum) (prefix coefs : List ℤ) → AllPairs ◌≢◌ all → all ≡ before ++ names
    → length before ≡ length prefix → length names ≡ length coefs → Small coefs → coefs_so_far all o ≡ prefix ++ replicate (length names) (pos 0)
    → Filled all (terms_sum o names coefs) (prefix ++ coefs)
terms_filled all before [] o prefix [] apart e same len small h = h
terms_filled all before [] o prefix (a ∷ coefs) apart e same len small h = absurd (omega arith)
terms_filled all before (name ∷ names) o prefix [] apart e same len small h = absurd (omega arith)
terms_filled all before (name ∷ names) o prefix (a ∷ coefs) apart e same len small h =
    let further_names : all ≡ (before ++ name ∷ []) ++ names = e ∙ sym (append_assoc before (name ∷ []) names) in
    let longer : length (before ++ name ∷ []) ≡ length (prefix ++ a ∷ []) = omega (arith, length-append before (name ∷ []), length-append prefix (a ∷ []), same) in
    let shorter : length names ≡ length coefs = omega (arith, len) in
    let flat : prefix ++ a ∷ coefs ≡ (prefix ++ a ∷ []) ++ coefs = sym (append_assoc prefix (a ∷ []) coefs) in
    filled_if all (is_zero a) (terms_sum o names coefs) (terms_sum (Some (extended o (is_negative a) (canonical_term (nat_abs a) name))) names coefs) (prefix ++ a ∷ coefs)
    (λ z. terms_filled all (before ++ name ∷ []) names o (prefix ++ a ∷ []) coefs apart further_names longer shorter small.1
    (h ∙ ap (λ y. prefix ++ y ∷ replicate (length names) (pos 0)) (sym (zero_of a z)) ∙ sym (append_assoc prefix (a ∷ []) (replicate (length names) (pos 0))))
    ∙ sym flat)
    (λ z. terms_filled all (before ++ name ∷ []) names (Some (extended o (is_negative a) (canonical_term (nat_abs a) name))) (prefix ++ a ∷ []) coefs apart further_names longer shorter small.1
    (step_filled all before names name o prefix a apart e same small.0 h ∙ sym (append_assoc prefix (a ∷ []) (replicate (length names) (pos 0))))
    ∙ sym flat)

set-back : (coefs : List ℤ) (i : ℕ) → slice_set coefs i (get_or coefs i (pos 0) +ℤ pos 0) ≡ coefs
set-back [] i = refl
set-back (a ∷ coefs) zero = ap (λ y. y ∷ coefs) (let same : a +ℤ pos 0 ≡ a = omega (arith, ints) in same)
set-back (a ∷ coefs) (suc i) = ap (λ ys. a ∷ ys) (set-back coefs i)

raised-zero : (coefs : List ℤ) (o : Option ℕ) → raised coefs o (pos 0) ≡ coefs
raised-zero coefs None = refl
raised-zero coefs (Some i) = set-back coefs i

coefs-sum_or_zero : (names : List (List ℕ)) (o : Option Sum) → coefs_of names (sum_or_zero names o) ≡ coefs_so_far names o
coefs-sum_or_zero names None = raised-zero (zero_coefs names) (position (bytes_eq (head_name names)) names)
coefs-sum_or_zero names (Some sum) = refl

coefs-canonical : (names : List (List ℕ)) (coefs : List ℤ) → AllPairs ◌≢◌ names → length names ≡ length coefs → Small coefs → coefs_of names (canonical_sum names coefs) ≡ coefs
coefs-canonical names coefs apart len small =
    coefs-sum_or_zero names (terms_sum None names coefs) ∙ terms_filled names [] names None [] coefs apart refl refl len small refl

pub meaning-canonical : (names : List (List ℕ)) (t : PredTree) → AllPairs ◌≢◌ names → HasAtoms (length names) t → meaning names (canonical names t) ≡ t
meaning-canonical names (LessThan coefs bound) apart h =
    let fits = h.1 in
    let coefs_are = coefs-canonical names coefs apart (sym h.0.0) (Small-AreCoefs coefs h.0.1) in
    let value : value_of_digits (decimal (nat_abs bound)) ≡ nat_abs bound = (decimal_writes (nat_abs bound) (omega (arith, fits))).value in
    ap (λ cs. LessThan cs (signed_number (is_negative bound) (value_of_digits (decimal (nat_abs bound))))) coefs_are
    ∙ ap (λ v. LessThan coefs (signed_number (is_negative bound) v)) value
    ∙ ap (LessThan coefs) (signed-abs bound)
meaning-canonical names (Congruent coefs modulus residue) apart h =
    let most = h.2 in
    let below = h.3 in
    let coefs_are = coefs-canonical names coefs apart (sym h.0.0) (Small-AreCoefs coefs h.0.1) in
    let r : value_of_digits (decimal residue) ≡ residue = (decimal_writes residue (omega (arith, most, below))).value in
    let m : value_of_digits (decimal modulus) ≡ modulus = (decimal_writes modulus (omega (arith, most))).value in
    ap (λ cs. Congruent cs (value_of_digits (decimal modulus)) (value_of_digits (decimal residue) % value_of_digits (decimal modulus))) coefs_are
    ∙ ap (λ v. Congruent coefs v (value_of_digits (decimal residue) % v)) m
    ∙ ap (λ v. Congruent coefs modulus (v % modulus)) r
    ∙ ap (Congruent coefs modulus) (mod-eq_of_lt below)
meaning-canonical names (Negation p) apart h = ap Negation (meaning-canonical names p apart h)
meaning-canonical names (Conjunction p q) apart h =
    ap (λ t. Conjunction t (meaning names (canonical names q))) (meaning-canonical names p apart h.0) ∙ ap (Conjunction p) (meaning-canonical names q apart h.1)
meaning-canonical names (Disjunction p q) apart h =
    ap (λ t. Disjunction t (meaning names (canonical names q))) (meaning-canonical names p apart h.0) ∙ ap (Disjunction p) (meaning-canonical names q apart h.1)

pub Named-All : (names : List (List ℕ)) → All (λ name. IsTrue (variable_name name)) names → Named names
Named-All [] h = tt
Named-All (name ∷ names) h =
    (All-head (λ word. IsTrue (variable_name word)) name names h, Named-All names (All-tail (λ word. IsTrue (variable_name word)) name names h))

-- the grammar relates the canonical text to the predicate
pub printed_derives : (names : List (List ℕ)) (t : PredTree) → AreNames variable_name names → 0 < length names → HasAtoms (length names) t
    → Derives names (text_symbols (tree_text names t)) t
printed_derives names t are some h = record {
  phrase = conj (unit (canonical names t));
  spelled = canonical_symbols names t (Named-All names are.0) some h;
  means = meaning-canonical names t are.1 h;
}
