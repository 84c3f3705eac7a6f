-- Counts at which a predicate has a value meet one of its open cases, and all counts meet one of the cases of a split.
use Rattle.std.proofs.Common.{◌≡◌, ◌⊎◌, inl, inr, ℕ, zero, suc, ◌+◌, ◌<◌, Bool, true, false, not, List, [], ◌∷◌, length, map, refl, ap, sym, ◌∙◌, arith}
use Rattle.std.specs.Prelude.{ℤ, pos, negsuc, neg_ℤ, ◌+ℤ◌, ◌-ℤ◌, ◌*ℤ◌, ◌<ℤ◌, ◌≤ℤ◌, int_lt}
use Rattle.std.specs.List.{range_with_len}
use Rattle.std.specs.Int.Signed.{lt_z_yes, lt_z_no}
use Rattle.std.proofs.Math.IntN.{*ℤ-zero}
use Rattle.std.proofs.lemmas.Int.{ints}
use Rattle.std.proofs.lemmas.Float.{T_from_true}
use Rattle.std.proofs.lemmas.List.Elements.{All-nil, All-cons}
use Rattle.pres_ast.specs.PredTree.{PredTree, LessThan, Congruent, Negation, Conjunction, Disjunction}
use Rattle.pres_ast.specs.PredModel.{PredModel, HasAtoms}
use Rattle.pres_ast.specs.PredicateValue.{weighted_sum, is_multiple, predicate_value}
use Rattle.pop_leaf.proofs.Reactions.{and_left, and_right}
use Rattle.cert_base.specs.declared.fact.Term.{Term}
use Rattle.cert_base.specs.declared.fact.Row.{Row}
use Rattle.cert_base.specs.declared.fact.Fact.{Fact}
use Rattle.cert_base.specs.declared.fact.Fact.TheVariants.{Ge, Eq, Cong, NotCong, Holds}
use Rattle.cert_base.specs.Rows.{input_row}
use Rattle.cert_base.specs.Valuation.{Valuation, terms_value, row_value, MeetsFact, input_counts}
use Rattle.cert_base.specs.FactsAndCases.{plus, negated_row, signs_of, without_zeros, cases_of_split, both_of, one_of, over_count, open_tree, cases_of_open}
use Rattle.cert_base.specs.Ends.{MeetsOne, MeetsAll, CoverValue, CoverAll}
use Rattle.cert_base.proofs.Integers.{mul-pos_suc}
use Rattle.cert_base.proofs.FlowFacts.{dot, terms_value-terms_from}
use Rattle.std.proofs.lemmas.Bool.{or_cases, or_parts, and_cases}

-- ---- which case

one_fact : (count : Valuation) (f : Fact) → MeetsFact count f → MeetsAll count (f ∷ [])
one_fact count f met = All-cons (MeetsFact count) f [] met (All-nil (MeetsFact count))

pub in_first : (count : Valuation) (facts : List Fact) (cases : List (List Fact)) → MeetsAll count facts → MeetsOne count (facts ∷ cases)
in_first count facts cases met = (facts, (0, (let l : 0 < suc (length cases) = omega arith in l), refl), met)

pub in_rest : (count : Valuation) (facts : List Fact) (cases : List (List Fact)) → MeetsOne count cases → MeetsOne count (facts ∷ cases)
in_rest count facts cases one = (
  one.0,
  (suc one.1.0, (let l = one.1.1 in let m : suc one.1.0 < suc (length cases) = omega (arith, l) in m), one.1.2),
  one.2,
)

-- ---- signs

neg-times : (a : ℤ) (n : ℕ) → (neg_ℤ a *ℤ pos n) ≡ neg_ℤ (a *ℤ pos n)
neg-times a zero = rw (*ℤ-zero (neg_ℤ a), *ℤ-zero a) refl
neg-times a (suc n) =
    let e = neg-times a n in rw (mul-pos_suc (neg_ℤ a) n, mul-pos_suc a n) (omega (arith, ints, e))

dot-neg : (count : Valuation) (k : ℕ) (coefs : List ℤ) → dot count k (map neg_ℤ coefs) ≡ neg_ℤ (dot count k coefs)
dot-neg count k [] = refl
dot-neg count k (a ∷ coefs) =
    let here = neg-times a (count k) in
    let rest = dot-neg count (k + 1) coefs in
    omega (arith, ints, here, rest)

terms_value-neg : (count : Valuation) (terms : List Term) → terms_value count (map (λ t. record { at = t.at; by = neg_ℤ t.by }) terms) ≡ neg_ℤ (terms_value count terms)
terms_value-neg count [] = refl
terms_value-neg count (t ∷ terms) =
    let here = neg-times t.by (count t.at) in
    let rest = terms_value-neg count terms in
    omega (arith, ints, here, rest)

-- ---- atoms

weighted : (count : Valuation) (k : ℕ) (coefs : List ℤ) → weighted_sum coefs (map count (range_with_len k (length coefs))) ≡ dot count k coefs
weighted count k [] = refl
weighted count k (a ∷ coefs) = ap (λ z. (a *ℤ pos (count k)) +ℤ z) (weighted count (k + 1) coefs)

-- the sum of an atom is the value of its row
sum_is : (count : Valuation) (n : ℕ) (coefs : List ℤ) → length coefs ≡ n → weighted_sum coefs (input_counts count n) ≡ dot count 0 coefs
sum_is count n coefs long = ap (λ m. weighted_sum coefs (input_counts count m)) (sym long) ∙ weighted count 0 coefs

row_is : (count : Valuation) (coefs : List ℤ) (constant : ℤ) → row_value count (input_row coefs constant) ≡ (dot count 0 coefs +ℤ constant)
row_is count coefs constant = ap (λ z. z +ℤ constant) (terms_value-terms_from count 0 coefs)

less_so : (a b : ℤ) → int_lt a b ≡ true → a <ℤ b
less_so a b e = lt_z_yes (T_from_true (int_lt a b) e)

less_not : (a b : ℤ) → int_lt a b ≡ false → b ≤ℤ a
less_not a b e = lt_z_no (T_from_true (not (int_lt a b)) (ap not e))

less_met : (count : Valuation) (n : ℕ) (coefs : List ℤ) (bound : ℤ) (value : Bool) → length coefs ≡ n → int_lt (weighted_sum coefs (input_counts count n)) bound ≡ value → MeetsOne count (open_tree n (LessThan coefs bound) value)
less_met count n coefs bound true long e =
    let less = less_so (weighted_sum coefs (input_counts count n)) bound e in
    let sum = sum_is count n coefs long in
    let row = row_is count (map neg_ℤ coefs) (bound -ℤ pos 1) in
    let turned = dot-neg count 0 coefs in
    in_first count (Ge (input_row (map neg_ℤ coefs) (bound -ℤ pos 1)) ∷ []) [] (one_fact count (Ge (input_row (map neg_ℤ coefs) (bound -ℤ pos 1))) (omega (arith, ints, less, sum, row, turned)))
less_met count n coefs bound false long e =
    let less = less_not (weighted_sum coefs (input_counts count n)) bound e in
    let sum = sum_is count n coefs long in
    let row = row_is count coefs (neg_ℤ bound) in
    in_first count (Ge (input_row coefs (neg_ℤ bound)) ∷ []) [] (one_fact count (Ge (input_row coefs (neg_ℤ bound))) (omega (arith, ints, less, sum, row)))

rest_is : (count : Valuation) (n : ℕ) (coefs : List ℤ) (rest : ℕ) → length coefs ≡ n → row_value count (input_row coefs (neg_ℤ (pos rest))) ≡ (weighted_sum coefs (input_counts count n) -ℤ pos rest)
rest_is count n coefs rest long =
    let sum = sum_is count n coefs long in
    let row = row_is count coefs (neg_ℤ (pos rest)) in
    omega (arith, ints, sum, row)

rest_met : (count : Valuation) (n : ℕ) (coefs : List ℤ) (m rest : ℕ) (value : Bool) → length coefs ≡ n → is_multiple m (weighted_sum coefs (input_counts count n) -ℤ pos rest) ≡ value → MeetsOne count (open_tree n (Congruent coefs m rest) value)
rest_met count n coefs m rest true long e =
    in_first count (Cong (input_row coefs (neg_ℤ (pos rest))) m ∷ []) [] (one_fact count (Cong (input_row coefs (neg_ℤ (pos rest))) m) (ap (is_multiple m) (rest_is count n coefs rest long) ∙ e))
rest_met count n coefs m rest false long e =
    in_first count (NotCong (input_row coefs (neg_ℤ (pos rest))) m ∷ []) [] (one_fact count (NotCong (input_row coefs (neg_ℤ (pos rest))) m) (ap (is_multiple m) (rest_is count n coefs rest long) ∙ e))

-- ---- parts

both_met : (count : Valuation) (f g : Fact) → MeetsFact count f → MeetsFact count g → MeetsOne count (both_of f g)
both_met count f g mf mg =
    in_first count (f ∷ g ∷ []) [] (All-cons (MeetsFact count) f (g ∷ []) mf (one_fact count g mg))

one_met : (count : Valuation) (f g : Fact) → MeetsFact count f ⊎ MeetsFact count g → MeetsOne count (one_of f g)
one_met count f g (inl m) = in_first count (f ∷ []) ((g ∷ []) ∷ []) (one_fact count f m)
one_met count f g (inr m) = in_rest count (f ∷ []) ((g ∷ []) ∷ []) (in_first count (g ∷ []) [] (one_fact count g m))

not_is : (a b : Bool) → not a ≡ b → a ≡ not b
not_is true b e = ap not e
not_is false b e = ap not e

tree_met : (count : Valuation) (n : ℕ) (tree : PredTree) (value : Bool) → HasAtoms n tree → predicate_value tree (input_counts count n) ≡ value → MeetsOne count (open_tree n tree value)
tree_met count n (LessThan coefs bound) value has e = less_met count n coefs bound value has.0.0 e
tree_met count n (Congruent coefs m rest) value has e = rest_met count n coefs m rest value has.0.0 e
tree_met count n (Negation p) value has e =
    in_first count (Holds (over_count n p) (not value) ∷ []) [] (one_fact count (Holds (over_count n p) (not value)) (not_is (predicate_value p (input_counts count n)) value e))
tree_met count n (Conjunction p q) true has e =
    both_met count (Holds (over_count n p) true) (Holds (over_count n q) true) (and_left _ _ e) (and_right (predicate_value p (input_counts count n)) _ e)
tree_met count n (Conjunction p q) false has e =
    one_met count (Holds (over_count n p) false) (Holds (over_count n q) false) (and_cases (predicate_value p (input_counts count n)) (predicate_value q (input_counts count n)) e)
tree_met count n (Disjunction p q) true has e =
    one_met count (Holds (over_count n p) true) (Holds (over_count n q) true) (or_cases (predicate_value p (input_counts count n)) (predicate_value q (input_counts count n)) e)
tree_met count n (Disjunction p q) false has e =
    let none = or_parts (predicate_value p (input_counts count n)) (predicate_value q (input_counts count n)) e in
    both_met count (Holds (over_count n p) false) (Holds (over_count n q) false) none.0 none.1

pub open_cases-cover : (p : PredModel) (value : Bool) → HasAtoms p.variables p.tree → CoverValue p value (cases_of_open p value)
open_cases-cover p value has count e = tree_met count p.variables p.tree value has e

-- ---- a split

module _ (count : Valuation) (row : Row) where
  abbrev above : List Fact
  above = Ge (plus row (negsuc 0)) ∷ []

  abbrev at : List Fact
  at = Eq row ∷ []

  abbrev below : List Fact
  below = Ge (plus (negated_row row) (negsuc 0)) ∷ []

  split_at : (z : ℤ) → row_value count row ≡ z → MeetsOne count (signs_of row)
  split_at (pos zero) e =
      in_rest count above (at ∷ below ∷ []) (in_first count at (below ∷ []) (one_fact count (Eq row) e))
  split_at (pos (suc n)) e =
      in_first count above (at ∷ below ∷ []) (one_fact count (Ge (plus row (negsuc 0))) (omega (arith, ints, e)))
  split_at (negsuc n) e =
      let turned = terms_value-neg count row.terms in
      in_rest count above (at ∷ below ∷ []) (in_rest count at (below ∷ []) (in_first count below [] (one_fact count (Ge (plus (negated_row row) (negsuc 0))) (omega (arith, ints, e, turned)))))

pub split_cases-cover : (row : Row) → CoverAll (cases_of_split row)
split_cases-cover row count = split_at count (without_zeros row) (row_value count (without_zeros row)) refl
