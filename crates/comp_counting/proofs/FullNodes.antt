-- The nodes that rest on the full state alone, state k + 1: all were turned to it, an agent started there, or it never
-- occurred. They close for any names and moves.
use Rattle.std.proofs.Common.{◌≡◌, ◌≢◌, ◌⊎◌, ◌∙◌, inl, inr, subst, ℕ, ◌+◌, ◌<◌, ◌≤◌, Bool, true, false, ◌&&◌, ◌||◌, List, [], ◌∷◌, ◌++◌, length, map, get_or, refl, ap, sym, arith, zero-add}
use Rattle.std.specs.Prelude.{ℤ, pos, negsuc, neg_ℤ, ◌+ℤ◌, ◌-ℤ◌, ◌*ℤ◌, ◌≤ℤ◌, ◌==◌, not, All, nat_abs}
use Rattle.std.specs.List.{range_with_len, list_all}
use Rattle.std.specs.Ordering.{int_eq}
use Rattle.std.proofs.lemmas.Int.{ints}
use Rattle.std.proofs.Math.IntN.{*ℤ-zero, zero-*ℤ}
use Rattle.std.proofs.lemmas.Bool.{cases_lt, eq-eqb, ne_eqb}
use Rattle.std.proofs.lemmas.Bool.Decides.{eqb_tells}
use Rattle.std.proofs.lemmas.List.{length-map, length-append, append-nil, get_or-map, get_or_past, length-replicate}
use Rattle.std.proofs.lemmas.List.Elements.{All-get_or, All-from_get_or}
use Rattle.std.proofs.lemmas.List.FromFn.{get_or-map-range_with_len}
use Rattle.pop_leaf.specs.declared.leaf.Move.{Move}
use Rattle.pop_leaf.specs.LeafModel.{LeafModel}
use Rattle.pres_ast.specs.PredModel.{PredModel}
use Rattle.cert_base.specs.declared.fact.Fact.{Fact}
use Rattle.cert_base.specs.declared.fact.Fact.TheVariants.{Ge, Eq}
use Rattle.cert_base.specs.Rows.{terms_from, zeros, input_row}
use Rattle.cert_base.specs.ClosingTests.{closes_by_sum, may_add}
use Rattle.cert_base.specs.FactsAndCases.{indicator, differs, states_of, is_in, helpers_among, takes_from, no_moves, count_row, absent_fact, occurs_fact}
use Rattle.cert_base.specs.WeightedSums.{sum_of_facts, coefficient, constant_of, may_weigh, total}
use Rattle.cert_base.proofs.WeightedSums.{weighted_sum-append, weighted_sum-zeros, may_weigh-append, may_weigh-zeros, none_weighted}
use Rattle.cert_base.proofs.FlowSums.{coefficient-dense, weighted_sum-map, total-same, total-none, times-one, mul-neg, one-times}
use Rattle.comp_trees.specs.LeaderTree.{mix_over}
use Rattle.comp_trees.proofs.LeaderEnds.{absent-at, is_wrong, may_weigh-eqs}
use Rattle.comp_trees.proofs.TrapNodes.{range-constant, states-state, states-input, states-past}
use Rattle.comp_trees.proofs.Mixes.{IsPlain, all_facts, IsLow, mix_closes}
use Rattle.comp_counting.specs.FlockAtoms.{is_counted, says_enough, enough_for, offset_pred_of}
use Rattle.comp_counting.specs.FullState.{flock_start, flock_output, converted_mix, start_mix, never_mix}
use Rattle.comp_counting.proofs.Numbers.{zero_le}
use Rattle.comp_counting.proofs.OwnFacts.{total-counts, total-others}
use Rattle.comp_counting.proofs.Opened.{opened_row, opened_constant, too-few-constant}
use Rattle.comp_counting.proofs.Counted.{too-few-row}
use Rattle.comp_counting.proofs.WrongOutputs.{wrong-enough, wrong-too-few}
use Rattle.comp_counting.proofs.Filters.{count-none}

-- the set of the full state
abbrev pub full : ℕ → List ℕ
full k = (k + 1) ∷ []

pub in-yes : (k : ℕ) → is_in (full k) (k + 1) ≡ true
in-yes k = rw (eq-eqb (k + 1) (k + 1) refl) refl

pub in-no : (k q : ℕ) → q ≢ k + 1 → is_in (full k) q ≡ false
in-no k q ne = let e = ne_eqb (k + 1) q (λ e. ne (sym e)) in rw e refl

pub or_yes : (c : Bool) → ((c || true) && true) ≡ true
or_yes true = refl
or_yes false = refl

-- an agent starts in the full state if it is enough
abbrev pub StartsFull : ℕ → ℕ → ℤ → Type 0
StartsFull c k a = (flock_start c k a ≡ k + 1) × (c ≤ nat_abs a) ⊎ (flock_start c k a ≤ k)

-- a leaf with k + 2 states for an atom that counts its agents
abbrev pub counting_leaf : List ℤ → ℤ → ℕ → List (List ℕ) → List Move → List ℕ → LeafModel
counting_leaf coefs bound k names moves helpers =
    record {
      states = names;
      moves = moves;
      inputs = map (flock_start (enough_for bound) k) coefs;
      outputs = map (flock_output (says_enough bound) k) (range_with_len 0 (k + 2));
      helpers = helpers;
    }

pub record IsCounting (coefs : List ℤ) (bound : ℤ) (k : ℕ) (names : List (List ℕ)) (moves : List Move) (helpers : List ℕ) : Type 0 where
  pub are : list_all (is_counted (says_enough bound) (enough_for bound)) coefs ≡ true
  pub long : length names ≡ k + 2
  pub starts : (i : ℕ) → i < length coefs → StartsFull (enough_for bound) k (get_or coefs i (pos 0))
  pub low : All (λ q. q ≤ k) helpers
  pub plain : (b : Bool) → IsPlain (counting_leaf coefs bound k names moves helpers) (opened_row coefs b)

module _ (coefs : List ℤ) (bound : ℤ) (k : ℕ) (names : List (List ℕ)) (moves : List Move) (helpers : List ℕ) (is : IsCounting coefs bound k names moves helpers) where
  -- the value that says that there are enough
  abbrev says : Bool
  says = says_enough bound

  -- how many are enough
  abbrev c : ℕ
  c = enough_for bound

  abbrev leaf : LeafModel
  leaf = counting_leaf coefs bound k names moves helpers

  abbrev pred : PredModel
  pred = offset_pred_of coefs bound

  abbrev n : ℕ
  n = length leaf.inputs

  pub output-at : (z : ℕ) → z < k + 2 → get_or leaf.outputs z false ≡ flock_output says k z
  output-at z l = get_or-map-range_with_len (flock_output says k) 0 (k + 2) z z false l (zero-add z)

  no_helped : total (λ (q : ℕ). pos 0) helpers ≡ pos 0
  no_helped = total-none (λ (q : ℕ). pos 0) helpers (λ q. refl)

  -- the states' flows aren't added
  no_flows : (wrong add : ℤ) (own : List ℤ) → mix_over (map (λ (q : ℕ). pos 0) (states_of leaf)) wrong add own ≡ mix_over (zeros (k + 2)) wrong add own
  no_flows wrong add own =
      ap (λ m. mix_over (map (λ (q : ℕ). pos 0) (range_with_len 0 m)) wrong add own) is.long
      ∙ ap (λ zs. mix_over zs wrong add own) (range-constant (pos 0) 0 (k + 2))

  -- ---- all are turned

  abbrev row : Bool → List ℤ
  row b = opened_row coefs b

  abbrev constant : Bool → ℤ
  constant b = opened_constant bound b

  abbrev pub converted_facts : List Fact → List Fact
  converted_facts extra = occurs_fact leaf (k + 1) ∷ (map (absent_fact leaf) (range_with_len 0 (k + 1)) ++ extra)

  abbrev minus_one : ℕ → ℤ
  minus_one q = negsuc 0

  abbrev converted_own : List ℤ
  converted_own = pos 0 ∷ map minus_one (range_with_len 0 (k + 1))

  converted_sum : (extra : List Fact) (value : Fact → ℤ) → sum_of_facts value (converted_facts extra) converted_own ≡ total (λ q. negsuc 0 *ℤ value (absent_fact leaf q)) (range_with_len 0 (k + 1))
  converted_sum extra value =
      let range = range_with_len 0 (k + 1) in
      let first = zero-*ℤ (value (occurs_fact leaf (k + 1))) in
      let same = ap (sum_of_facts value (map (absent_fact leaf) range ++ extra)) (sym (append-nil (map minus_one range))) in
      let both = weighted_sum-append value (map (absent_fact leaf) range) extra (map minus_one range) [] (length-map range (absent_fact leaf) ∙ sym (length-map range minus_one)) in
      let none = none_weighted value extra in
      let here = weighted_sum-map value (absent_fact leaf) minus_one range in
      omega (arith, ints, first, same, both, none, here)

  converted_at : (extra : List Fact) (x : ℕ) → sum_of_facts (coefficient x) (converted_facts extra) converted_own ≡ total (λ q. negsuc 0 *ℤ indicator ((n + q) == x)) (range_with_len 0 (k + 1))
  converted_at extra x =
      converted_sum extra (coefficient x)
      ∙ total-same (λ q. negsuc 0 *ℤ coefficient x (absent_fact leaf q)) (λ q. negsuc 0 *ℤ indicator ((n + q) == x)) (range_with_len 0 (k + 1)) (λ q. ap (λ c. negsuc 0 *ℤ c) (absent-at leaf q x))

  converted_may : (extra : List Fact) → may_weigh may_add (converted_facts extra) converted_own ≡ true
  converted_may extra =
      let range = range_with_len 0 (k + 1) in
      ap (may_weigh may_add (map (absent_fact leaf) range ++ extra)) (sym (append-nil (map minus_one range)))
      ∙ may_weigh-append may_add (map (absent_fact leaf) range) extra (map minus_one range) [] (length-map range (absent_fact leaf) ∙ sym (length-map range minus_one)) (may_weigh-eqs may_add (λ a row. refl) _ minus_one range) (rest extra)
    where
      rest : (extra : List Fact) → may_weigh may_add extra [] ≡ true
      rest [] = refl
      rest (f ∷ extra) = refl

  -- a state's output is wrong unless it is full
  wrong-if-enough : (z : ℕ) → z < k + 2 → is_wrong leaf says z ≡ not (z == k + 1)
  wrong-if-enough z l = ap (differs says) (output-at z l) ∙ wrong-enough says k z

  converted_low : (extra : List Fact) → IsLow leaf pred says (row says) (constant says) (converted_facts extra) (λ q. pos 0) (pos 1) (pos 0) converted_own
  converted_low extra = record {
    at_inputs = λ i l. (
        let sum = converted_at extra i in
        let none = total-others n minus_one (k + 1) i (λ q m e. omega (arith, e, l)) in
        let zero_row = zero-*ℤ (get_or (row says) i (pos 0)) in
        omega (arith, ints, sum, none, zero_row));
    at_states = λ z l. state z (let long = is.long in omega (arith, long, l)) (cases_lt z (k + 1));
    at_moves = λ t d l. (
        let sum = converted_at extra (n + length leaf.states + t) in
        let none = total-others n minus_one (k + 1) (n + length leaf.states + t) (λ q m e. let long = is.long in omega (arith, long, m, e)) in
        omega (arith, ints, sum, none));
    at_past = λ j. (
        let sum = converted_at extra (n + length leaf.states + (length leaf.moves + j)) in
        let none = total-others n minus_one (k + 1) (n + length leaf.states + (length leaf.moves + j)) (λ q m e. let long = is.long in omega (arith, long, m, e)) in
        omega (arith, ints, sum, none));
    at_end = (
        let sum = converted_sum extra constant_of in
        let none = total-none (λ q. negsuc 0 *ℤ constant_of (absent_fact leaf q)) (range_with_len 0 (k + 1)) (λ q. refl) in
        let zero_row = zero-*ℤ (constant says) in
        let helped = no_helped in
        omega (arith, ints, sum, none, zero_row, helped));
  }
    where
      state : (z : ℕ) → z < k + 2 → (z < k + 1) ⊎ (k + 1 ≤ z) → ((neg_ℤ (pos 0) +ℤ (pos 1 *ℤ indicator (is_wrong leaf says z))) +ℤ sum_of_facts (coefficient (n + z)) (converted_facts extra) converted_own) ≤ℤ pos 0
      state z l (inl m) =
          let sum = converted_at extra (n + z) in
          let here = total-counts n minus_one (k + 1) z m in
          let wrong = ap indicator (wrong-if-enough z l ∙ ap (λ (c : Bool). not c) (ne_eqb z (k + 1) (λ e. omega (arith, e, m)))) in
          omega (arith, ints, sum, here, wrong)
      state z l (inr m) =
          let sum = converted_at extra (n + z) in
          let none = total-others n minus_one (k + 1) (n + z) (λ q h e. omega (arith, h, e, m)) in
          let right = ap indicator (wrong-if-enough z l ∙ ap (λ (c : Bool). not c) (eq-eqb z (k + 1) (omega (arith, l, m)))) in
          omega (arith, ints, sum, none, right)

  pub converted_closes : (extra : List Fact) → closes_by_sum (all_facts leaf pred says (row says) (constant says) (converted_facts extra)) (terms_from 0 (converted_mix k)) ≡ true
  converted_closes extra =
      subst (λ ms. closes_by_sum (all_facts leaf pred says (row says) (constant says) (converted_facts extra)) (terms_from 0 ms) ≡ true) same
      (mix_closes leaf pred says (row says) (constant says) (converted_facts extra) (λ q. pos 0) (pos 1) (pos 0) converted_own (is.plain says) refl refl (converted_may extra) (converted_low extra))
    where
      same : mix_over (map (λ (q : ℕ). pos 0) (states_of leaf)) (pos 1) (pos 0) converted_own ≡ converted_mix k
      same =
          no_flows (pos 1) (pos 0) converted_own
          ∙ ap (λ ms. mix_over (zeros (k + 2)) (pos 1) (pos 0) (pos 0 ∷ ms)) (range-constant (negsuc 0) 0 (k + 1))

  -- ---- an agent that starts full is enough

  pub row-at : (i : ℕ) → i < n → get_or (row (not says)) i (pos 0) ≡ neg_ℤ (pos (nat_abs (get_or coefs i (pos 0))))
  row-at i l = too-few-row says c coefs i is.are (omega (arith, l, length-map coefs (flock_start c k)))

  -- the start of an input
  pub start-of : (i : ℕ) → i < n → get_or leaf.inputs i 0 ≡ flock_start c k (get_or coefs i (pos 0))
  start-of i l = get_or-map (flock_start c k) coefs i (pos 0) 0 (omega (arith, l, length-map coefs (flock_start c k)))

  abbrev starts : ℕ → ℤ
  starts start = indicator (is_in (full k) start)

  abbrev start_constant : ℤ
  start_constant = pos (helpers_among leaf (full k)) -ℤ pos 1

  abbrev pub start_facts : List Fact
  start_facts = Ge (input_row (map starts leaf.inputs) start_constant) ∷ []

  -- no helper does
  no_helper : helpers_among leaf (full k) ≡ 0
  no_helper =
      count-none (is_in (full k)) helpers
      (All-from_get_or (λ q. is_in (full k) q ≡ false) helpers 0 (λ i l. in-no k (get_or helpers i 0) (λ e. let low = All-get_or (λ q. q ≤ k) helpers i 0 l is.low in omega (arith, e, low))))

  abbrev enough : ℤ
  enough = pos c

  start_sum : (x : ℕ) → sum_of_facts (coefficient x) start_facts (enough ∷ []) ≡ (enough *ℤ get_or (map starts leaf.inputs) x (pos 0))
  start_sum x = let row = ap (λ a. enough *ℤ a) (coefficient-dense (map starts leaf.inputs) x) in omega (arith, ints, row)

  start_past : (x : ℕ) → n ≤ x → sum_of_facts (coefficient x) start_facts (enough ∷ []) ≡ pos 0
  start_past x l = start_sum x ∙ ap (λ a. enough *ℤ a) (get_or_past (map starts leaf.inputs) x (pos 0) (omega (arith, l, length-map leaf.inputs starts))) ∙ *ℤ-zero enough

  start_counts : (a : ℤ) → StartsFull c k a → (enough *ℤ starts (flock_start c k a)) ≤ℤ pos (nat_abs a)
  start_counts a (inl h) = let e = ap (λ q. enough *ℤ starts q) h.0 ∙ ap (λ b. enough *ℤ indicator b) (in-yes k) ∙ times-one enough in let most = h.1 in omega (arith, ints, e, most)
  start_counts a (inr low) = let e = ap (λ b. enough *ℤ indicator b) (in-no k (flock_start c k a) (λ e. omega (arith, e, low))) ∙ *ℤ-zero enough in omega (arith, ints, e)

  start_may : may_weigh may_add start_facts (enough ∷ []) ≡ true
  start_may = ap (λ (b : Bool). (int_eq enough (pos 0) || b) && true) (zero_le c) ∙ or_yes (int_eq enough (pos 0))

  start_low : IsLow leaf pred (not says) (row (not says)) (constant (not says)) start_facts (λ q. pos 0) (pos 0) (pos 1) (enough ∷ [])
  start_low = record {
    at_inputs = λ i l. (
        let a = get_or coefs i (pos 0) in
        let sum = start_sum i ∙ ap (λ a. enough *ℤ a) (get_or-map starts leaf.inputs i 0 (pos 0) l ∙ ap starts (start-of i l)) in
        let counts = start_counts a (is.starts i (omega (arith, l, length-map coefs (flock_start c k)))) in
        let one = one-times (get_or (row (not says)) i (pos 0)) in
        let own = row-at i l in
        omega (arith, ints, sum, counts, one, own));
    at_states = λ z l. (let none = start_past (n + z) (omega arith) in let right = zero-*ℤ (indicator (is_wrong leaf (not says) z)) in omega (arith, ints, none, right));
    at_moves = λ t d l. (let none = start_past (n + length leaf.states + t) (omega arith) in omega (arith, ints, none));
    at_past = λ j. (let none = start_past (n + length leaf.states + (length leaf.moves + j)) (omega arith) in omega (arith, ints, none));
    at_end = (
        let sum = ap {B = ℤ} (λ m. enough *ℤ (pos m -ℤ pos 1)) no_helper ∙ mul-neg enough (pos 1) ∙ ap neg_ℤ (times-one enough) in
        let helped = no_helped in
        let one = one-times (constant (not says)) in
        let least = too-few-constant bound in
        omega (arith, ints, sum, helped, one, least));
  }

  pub start_closes : closes_by_sum (all_facts leaf pred (not says) (row (not says)) (constant (not says)) start_facts) (terms_from 0 (start_mix c k)) ≡ true
  start_closes =
      subst (λ ms. closes_by_sum (all_facts leaf pred (not says) (row (not says)) (constant (not says)) start_facts) (terms_from 0 ms) ≡ true) (no_flows (pos 0) (pos 1) (enough ∷ []))
      (mix_closes leaf pred (not says) (row (not says)) (constant (not says)) start_facts (λ q. pos 0) (pos 0) (pos 1) (enough ∷ []) (is.plain (not says)) refl refl start_may start_low)

  -- ---- it never occurred

  abbrev pub not_taken : List Fact
  not_taken = no_moves leaf (takes_from (full k))

  abbrev no_count : Fact
  no_count = Eq (count_row leaf (full k) (pos 0))

  abbrev pub never_facts : List Fact
  never_facts = not_taken ++ no_count ∷ []

  abbrev never_own : List ℤ
  never_own = zeros (k + 1) ++ negsuc 0 ∷ []

  -- k + 1 moves take from it
  module _ (length_taken : length not_taken ≡ k + 1) where
    pub never_long : length never_facts ≡ k + 2
    never_long = omega (arith, length-append not_taken (no_count ∷ []), length_taken)

    same_length : length not_taken ≡ length (zeros (k + 1))
    same_length = length_taken ∙ sym (length-replicate (k + 1) (pos 0))

    never_sum : (value : Fact → ℤ) → sum_of_facts value never_facts never_own ≡ (negsuc 0 *ℤ value no_count)
    never_sum value =
        let both = weighted_sum-append value not_taken (no_count ∷ []) (zeros (k + 1)) (negsuc 0 ∷ []) same_length in
        let none = weighted_sum-zeros value not_taken (k + 1) in
        omega (arith, ints, both, none)

    never_may : may_weigh may_add never_facts never_own ≡ true
    never_may = may_weigh-append may_add not_taken (no_count ∷ []) (zeros (k + 1)) (negsuc 0 ∷ []) same_length (may_weigh-zeros may_add not_taken (k + 1) (omega (arith, length_taken))) refl

    abbrev held : ℕ → ℤ
    held q = indicator (is_in (full k) q)

    never_none : (x : ℕ) → coefficient x no_count ≡ pos 0 → sum_of_facts (coefficient x) never_facts never_own ≡ pos 0
    never_none x e = never_sum (coefficient x) ∙ ap (λ c. negsuc 0 *ℤ c) e

    -- a wrong output is that of the full state
    wrong-if-too-few : (z : ℕ) → z < k + 2 → indicator (is_wrong leaf (not says) z) ≡ held z
    wrong-if-too-few z l = ap indicator (ap (differs (not says)) (output-at z l) ∙ wrong-too-few says k z) ∙ same (eqb_tells z (k + 1))
      where
        same : ((z == k + 1) ≡ true) × (z ≡ k + 1) ⊎ ((z == k + 1) ≡ false) × (z ≢ k + 1) → indicator (z == k + 1) ≡ held z
        same (inl h) = ap indicator h.0 ∙ sym (ap held h.1 ∙ ap indicator (in-yes k))
        same (inr h) = ap indicator h.0 ∙ sym (ap indicator (in-no k z h.1))

    never_low : IsLow leaf pred (not says) (row (not says)) (constant (not says)) never_facts (λ q. pos 0) (pos 1) (pos 0) never_own
    never_low = record {
      at_inputs = λ i l. (let none = never_none i (states-input leaf held i l) in let zero_row = zero-*ℤ (get_or (row (not says)) i (pos 0)) in omega (arith, ints, none, zero_row));
      at_states = λ z l. (
          let sum = never_sum (coefficient (n + z)) in
          let here = states-state leaf held z l in
          let wrong = wrong-if-too-few z (let long = is.long in omega (arith, long, l)) in
          omega (arith, ints, sum, here, wrong));
      at_moves = λ t d l. (let none = never_none (n + length leaf.states + t) (states-past leaf held t) in omega (arith, ints, none));
      at_past = λ j. (let none = never_none (n + length leaf.states + (length leaf.moves + j)) (states-past leaf held (length leaf.moves + j)) in omega (arith, ints, none));
      at_end = (let sum = never_sum constant_of in let zero_row = zero-*ℤ (constant (not says)) in let helped = no_helped in omega (arith, ints, sum, zero_row, helped));
    }

    pub never_closes : closes_by_sum (all_facts leaf pred (not says) (row (not says)) (constant (not says)) never_facts) (terms_from 0 (never_mix k)) ≡ true
    never_closes =
        subst (λ ms. closes_by_sum (all_facts leaf pred (not says) (row (not says)) (constant (not says)) never_facts) (terms_from 0 ms) ≡ true) (no_flows (pos 1) (pos 0) never_own)
        (mix_closes leaf pred (not says) (row (not says)) (constant (not says)) never_facts (λ q. pos 0) (pos 1) (pos 0) never_own (is.plain (not says)) refl refl never_may never_low)
