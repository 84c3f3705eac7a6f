-- The nodes that say that a leader is left: the leaders are a trap, some input starts there, and not all are absent.
use Rattle.std.proofs.Common.{◌≡◌, ◌≢◌, ◌⊎◌, inl, inr, subst, ℕ, zero, suc, ◌+◌, ◌<◌, ◌≤◌, Bool, true, false, ◌&&◌, ◌||◌, List, [], ◌∷◌, ◌++◌, length, map, get_or, replicate, append_assoc, refl, ap, sym, ◌∙◌, zero-add, arith}
use Rattle.std.specs.Prelude.{ℤ, pos, negsuc, neg_ℤ, ◌+ℤ◌, ◌*ℤ◌, ◌≤ℤ◌, if◌then◌else◌, not, ◌==◌, All}
use Rattle.std.specs.List.{range_with_len}
use Rattle.std.proofs.lemmas.Int.{ints}
use Rattle.std.proofs.Math.IntN.{zero-*ℤ, *ℤ_comm}
use Rattle.std.proofs.Math.ListN.{get_or-append}
use Rattle.std.proofs.lemmas.Bool.{cases_lt, ne_eqb}
use Rattle.std.proofs.lemmas.Bool.Decides.{eqb_tells}
use Rattle.std.proofs.lemmas.List.{length-map, length-append, get_or-append-add, get_or_past, length-replicate, get_or-replicate, append-nil}
use Rattle.std.proofs.lemmas.List.FromFn.{length-range_with_len, get_or-map-range_with_len, length-map-range_with_len}
use Rattle.std.proofs.lemmas.List.Elements.{All-head, All-tail, All-weaker}
use Rattle.std.proofs.Math.Bool.{and-false}
use Rattle.pop_leaf.specs.declared.leaf.Move.{Move}
use Rattle.pop_leaf.specs.LeafModel.{LeafModel}
use Rattle.pres_ast.specs.PredModel.{PredModel}
use Rattle.cert_base.specs.declared.fact.Fact.{Fact}
use Rattle.cert_base.specs.declared.fact.Fact.TheVariants.{Ge, Eq, Holds}
use Rattle.cert_base.specs.Rows.{terms_from, zeros, single_row, constant_row, input_variable}
use Rattle.cert_base.specs.ClosingTests.{coefficient_in, row_of, closes_by_sum, may_add}
use Rattle.cert_base.specs.FactsAndCases.{indicator, states_of, flow, base_list, two_agents_fact, wrong_output_fact, absent_fact, count_row, is_in, takes_from, puts_into, places_from, some_taken_fact, no_moves, no_start_facts, helpers_among, no_helper_facts}
use Rattle.cert_base.proofs.TermLists.{terms_from-zeros}
use Rattle.cert_base.specs.WeightedSums.{sum_of_facts, coefficient, constant_of, may_weigh}
use Rattle.cert_base.specs.WeightedSums.{total}
use Rattle.comp_trees.specs.LeaderTree.{leaders, facts_of_trap, facts_without, IsLed, no_leader_mix, no_leak_mix, no_input_mix, helped_mix, no_start_mix}
use Rattle.cert_base.proofs.WeightedSums.{weighted_sum-append, weighted_sum-zeros, may_weigh-append, may_weigh-zeros, linear_closes-weighted}
use Rattle.cert_base.proofs.FlowSums.{coefficient-dense, total-same, total-none, total-none_range, total-one, weighted_sum-map, each_variable, times-one, mul-neg}
use Rattle.comp_trees.proofs.HelperSums.{count-all}
use Rattle.comp_trees.proofs.LeaderEnds.{absent-at, shifted, may_weigh-eqs, apart, apart_past}
use Rattle.base_laws.proofs.Numbers.{same_turned}

-- ---- which states are leaders

is_in-yes_from : (a n q : ℕ) → a ≤ q → q < a + n → is_in (range_with_len a n) q ≡ true
is_in-yes_from a zero q l m = absurd (omega arith)
is_in-yes_from a (suc n) q l m = go (eqb_tells a q) (λ k. is_in-yes_from (a + 1) n q k (omega arith))
  where
    go : ((a == q) ≡ true) × (a ≡ q) ⊎ ((a == q) ≡ false) × (a ≢ q) → (a + 1 ≤ q → is_in (range_with_len (a + 1) n) q ≡ true) → ((a == q) || is_in (range_with_len (a + 1) n) q) ≡ true
    go (inl h) rest = rw h.0 refl
    go (inr h) rest = rw h.0 (rest (let ne = h.1 in omega arith))

is_in-no_from : (a n q : ℕ) → (q < a) ⊎ (a + n ≤ q) → is_in (range_with_len a n) q ≡ false
is_in-no_from a zero q l = refl
is_in-no_from a (suc n) q l =
    let here = ne_eqb a q (out l) in
    let rest = is_in-no_from (a + 1) n q (later l) in
    rw (here, rest) refl
  where
    out : (q < a) ⊎ (a + suc n ≤ q) → a ≢ q
    out (inl l) e = omega arith
    out (inr l) e = omega arith

    later : (q < a) ⊎ (a + suc n ≤ q) → (q < a + 1) ⊎ (a + 1 + n ≤ q)
    later (inl l) = inl (omega arith)
    later (inr l) = inr (omega arith)

pub is_in-yes : (n q : ℕ) → q < n → is_in (leaders n) q ≡ true
is_in-yes n q l = is_in-yes_from 0 n q (omega arith) (omega arith)

pub is_in-no : (n q : ℕ) → n ≤ q → is_in (leaders n) q ≡ false
is_in-no n q l = is_in-no_from 0 n q (inr (omega arith))

-- ---- a row over the states

pub states-state : (leaf : LeafModel) (f : ℕ → ℤ) (z : ℕ) → z < length leaf.states → coefficient_in (terms_from 0 (zeros (length leaf.inputs) ++ map f (states_of leaf))) (length leaf.inputs + z) ≡ f z
states-state leaf f z l =
    coefficient-dense (zeros (length leaf.inputs) ++ map f (states_of leaf)) (length leaf.inputs + z)
    ∙ ap (λ n. get_or (zeros (length leaf.inputs) ++ map f (states_of leaf)) (n + z) (pos 0)) (sym (length-replicate (length leaf.inputs) (pos 0)))
    ∙ get_or-append-add (zeros (length leaf.inputs)) (map f (states_of leaf)) z (pos 0)
    ∙ get_or-map-range_with_len f 0 (length leaf.states) z z (pos 0) l (zero-add z)

pub states-input : (leaf : LeafModel) (f : ℕ → ℤ) (i : ℕ) → i < length leaf.inputs → coefficient_in (terms_from 0 (zeros (length leaf.inputs) ++ map f (states_of leaf))) i ≡ pos 0
states-input leaf f i l =
    coefficient-dense (zeros (length leaf.inputs) ++ map f (states_of leaf)) i
    ∙ get_or-append (zeros (length leaf.inputs)) (map f (states_of leaf)) (pos 0) i (omega (arith, length-replicate (length leaf.inputs) (pos 0)))
    ∙ get_or-replicate (length leaf.inputs) i (pos 0) (pos 0) l

pub states-past : (leaf : LeafModel) (f : ℕ → ℤ) (j : ℕ) → coefficient_in (terms_from 0 (zeros (length leaf.inputs) ++ map f (states_of leaf))) (length leaf.inputs + length leaf.states + j) ≡ pos 0
states-past leaf f j =
    coefficient-dense (zeros (length leaf.inputs) ++ map f (states_of leaf)) (length leaf.inputs + length leaf.states + j)
    ∙ get_or_past (zeros (length leaf.inputs) ++ map f (states_of leaf)) (length leaf.inputs + length leaf.states + j) (pos 0) (omega (arith, length-append (zeros (length leaf.inputs)) (map f (states_of leaf)), length-replicate (length leaf.inputs) (pos 0), length-map-range_with_len f 0 (length leaf.states)))

-- ---- lists that are the same in each place

map-constant : {A B : Type 0} (f : A → B) (b : B) (xs : List A) → All (λ x. f x ≡ b) xs → map f xs ≡ replicate (length xs) b
map-constant f b [] all = refl
map-constant f b (x ∷ xs) all =
    let here = All-head (λ x. f x ≡ b) x xs all in
    let rest = map-constant f b xs (All-tail (λ x. f x ≡ b) x xs all) in
    rw (here, rest) refl

pub range-constant : {B : Type 0} (b : B) (a n : ℕ) → map (λ (x : ℕ). b) (range_with_len a n) ≡ replicate n b
range-constant b a zero = refl
range-constant b a (suc n) = ap (λ bs. b ∷ bs) (range-constant b (a + 1) n)

zeros-append : (n m : ℕ) → zeros n ++ zeros m ≡ zeros (n + m)
zeros-append zero m = ap zeros (sym (zero-add m))
zeros-append (suc n) m = ap (λ zs. pos 0 ∷ zs) (zeros-append n m) ∙ ap zeros (let e : suc (n + m) ≡ suc n + m = omega arith in e)

no_terms : (n : ℕ) → terms_from 0 (zeros n) ≡ []
no_terms n = ap (terms_from 0) (sym (append-nil (zeros n))) ∙ terms_from-zeros 0 n []

pub places-all : {A : Type 0} (k : ℕ) (test : A → Bool) (xs : List A) → All (λ x. test x ≡ true) xs → places_from k test xs ≡ range_with_len k (length xs)
places-all k test [] all = refl
places-all k test (x ∷ xs) all =
    let here = All-head (λ x. test x ≡ true) x xs all in
    let rest = places-all (k + 1) test xs (All-tail (λ x. test x ≡ true) x xs all) in
    rw here (ap (λ ks. k ∷ ks) rest)

module _ (leaf : LeafModel) (pred : PredModel) (b : Bool) (opened : Fact) (n : ℕ) (is : IsLed leaf n) where
  abbrev base : List Fact
  base = base_list leaf pred b

  length_base : length base ≡ length leaf.states + 3
  length_base = omega (arith, length-append (map (flow leaf) (states_of leaf)) (two_agents_fact leaf ∷ Holds pred b ∷ wrong_output_fact leaf b ∷ []), length-map-range_with_len (flow leaf) 0 (length leaf.states))

  pub length_opened : length (base ++ opened ∷ []) ≡ length leaf.states + 4
  length_opened = omega (arith, length-append base (opened ∷ []), length_base)

  puts : (t : Move) → t.r < n → puts_into (leaders n) t ≡ true
  puts t l = let e = is_in-yes n t.r l in rw e refl

  all_put : All (λ t. puts_into (leaders n) t ≡ true) leaf.moves
  all_put = All-weaker (λ t. t.r < n) (λ t. puts_into (leaders n) t ≡ true) puts leaf.moves is.moves

  -- ---- no move leaks

  abbrev leaks : Move → Bool
  leaks t = takes_from (leaders n) t && not (puts_into (leaders n) t)

  none_leaks : All (λ t. indicator (leaks t) ≡ pos 0) leaf.moves
  none_leaks = All-weaker (λ t. t.r < n) (λ t. indicator (leaks t) ≡ pos 0) (λ t l. ap indicator (ap (λ (c : Bool). takes_from (leaders n) t && not c) (puts t l) ∙ and-false (takes_from (leaders n) t))) leaf.moves is.moves

  leak_row : (x : ℕ) → coefficient x (some_taken_fact leaf leaks) ≡ pos 0
  leak_row x =
      ap (λ ts. coefficient_in ts x) (ap (λ cs. terms_from 0 (zeros (length leaf.inputs + length leaf.states) ++ cs)) (map-constant (λ t. indicator (leaks t)) (pos 0) leaf.moves none_leaks) ∙ ap (terms_from 0) (zeros-append (length leaf.inputs + length leaf.states) (length leaf.moves)) ∙ no_terms (length leaf.inputs + length leaf.states + length leaf.moves))

  pub no_leak_closes : closes_by_sum ((base ++ opened ∷ []) ++ some_taken_fact leaf leaks ∷ []) (terms_from 0 (no_leak_mix leaf)) ≡ true
  no_leak_closes =
      linear_closes-weighted facts (no_leak_mix leaf)
      (may_weigh-append may_add (base ++ opened ∷ []) (leak ∷ []) (zeros (length leaf.states + 4)) (pos 1 ∷ []) len (may_weigh-zeros may_add (base ++ opened ∷ []) (length leaf.states + 4) (omega (arith, length_opened))) refl)
      (λ x. let e = sum (coefficient x) in let f = leak_row x in omega (arith, ints, e, f))
      (let e = sum constant_of in omega (arith, ints, e))
    where
      leak : Fact
      leak = some_taken_fact leaf leaks

      facts : List Fact
      facts = (base ++ opened ∷ []) ++ some_taken_fact leaf leaks ∷ []

      len : length (base ++ opened ∷ []) ≡ length (zeros (length leaf.states + 4))
      len = length_opened ∙ sym (length-replicate (length leaf.states + 4) (pos 0))

      sum : (value : Fact → ℤ) → sum_of_facts value ((base ++ opened ∷ []) ++ some_taken_fact leaf leaks ∷ []) (no_leak_mix leaf) ≡ value (some_taken_fact leaf leaks)
      sum value =
          let e = weighted_sum-append value (base ++ opened ∷ []) (some_taken_fact leaf leaks ∷ []) (zeros (length leaf.states + 4)) (pos 1 ∷ []) len in
          let f = weighted_sum-zeros value (base ++ opened ∷ []) (length leaf.states + 4) in
          let g = *ℤ_comm (pos 1) (value (some_taken_fact leaf leaks)) ∙ times-one (value (some_taken_fact leaf leaks)) in
          omega (arith, ints, e, f, g)

  -- ---- some input starts there

  abbrev not_taken : List Fact
  not_taken = no_moves leaf (puts_into (leaders n))

  abbrev not_started : List Fact
  not_started = no_start_facts leaf (leaders n)

  abbrev no_count : Fact
  no_count = Eq (count_row leaf (leaders n) (pos 0))

  taken_places : places_from 0 (puts_into (leaders n)) leaf.moves ≡ range_with_len 0 (length leaf.moves)
  taken_places = places-all 0 (puts_into (leaders n)) leaf.moves all_put

  started_places : places_from 0 (is_in (leaders n)) leaf.inputs ≡ range_with_len 0 (length leaf.inputs)
  started_places = places-all 0 (is_in (leaders n)) leaf.inputs (All-weaker (λ q. q < n) (λ q. is_in (leaders n) q ≡ true) (λ q l. is_in-yes n q l) leaf.inputs is.inputs)

  abbrev started : ℕ → Fact
  started i = Eq (single_row (input_variable leaf i) (pos 1) (pos 0))

  not_started_is : not_started ≡ map started (range_with_len 0 (length leaf.inputs))
  not_started_is = ap (map started) started_places

  pub length_taken : length not_taken ≡ length leaf.moves
  length_taken = length-map (places_from 0 (puts_into (leaders n)) leaf.moves) (λ t. Eq (single_row (length leaf.inputs + length leaf.states + t) (pos 1) (pos 0))) ∙ ap length taken_places ∙ length-range_with_len 0 (length leaf.moves)

  pub length_started : length not_started ≡ length leaf.inputs
  length_started = ap length not_started_is ∙ length-map-range_with_len started 0 (length leaf.inputs)

  abbrev minus_ones : List ℤ
  minus_ones = replicate (length leaf.inputs) (negsuc 0)

  abbrev flows : List Fact
  flows = map (flow leaf) (states_of leaf)

  abbrev start_facts : List Fact
  start_facts = (base ++ opened ∷ []) ++ ((not_taken ++ not_started) ++ no_count ∷ [])

  length_flows : length flows ≡ length (zeros (length leaf.states))
  length_flows = length-map-range_with_len (flow leaf) 0 (length leaf.states) ∙ sym (length-replicate (length leaf.states) (pos 0))

  abbrev first_by : List ℤ
  first_by = zeros (length leaf.states) ++ pos 1 ∷ pos 0 ∷ pos 0 ∷ []

  length_first : length base ≡ length first_by
  length_first = omega (arith, length_base, length-append (zeros (length leaf.states)) (pos 1 ∷ pos 0 ∷ pos 0 ∷ []), length-replicate (length leaf.states) (pos 0))

  length_second : length (base ++ opened ∷ []) ≡ length (first_by ++ pos 0 ∷ [])
  length_second = omega (arith, length-append base (opened ∷ []), length-append first_by (pos 0 ∷ []), length_first)

  length_third : length not_taken ≡ length (zeros (length leaf.moves))
  length_third = length_taken ∙ sym (length-replicate (length leaf.moves) (pos 0))

  length_fourth : length (not_taken ++ not_started) ≡ length (zeros (length leaf.moves) ++ minus_ones)
  length_fourth = omega (arith, length-append not_taken not_started, length-append (zeros (length leaf.moves)) minus_ones, length_third, length_started, length-replicate (length leaf.inputs) (negsuc 0))

  start_sum : (value : Fact → ℤ) → sum_of_facts value start_facts (no_input_mix leaf) ≡ (value (two_agents_fact leaf) +ℤ total (λ i. negsuc 0 *ℤ value (started i)) (range_with_len 0 (length leaf.inputs)))
  start_sum value =
      let e1 = weighted_sum-append value (base ++ opened ∷ []) ((not_taken ++ not_started) ++ no_count ∷ []) (first_by ++ pos 0 ∷ []) ((zeros (length leaf.moves) ++ minus_ones) ++ pos 0 ∷ []) length_second in
      let e2 = weighted_sum-append value base (opened ∷ []) first_by (pos 0 ∷ []) length_first in
      let e3 = weighted_sum-append value flows (two_agents_fact leaf ∷ Holds pred b ∷ wrong_output_fact leaf b ∷ []) (zeros (length leaf.states)) (pos 1 ∷ pos 0 ∷ pos 0 ∷ []) length_flows in
      let e4 = weighted_sum-append value (not_taken ++ not_started) (no_count ∷ []) (zeros (length leaf.moves) ++ minus_ones) (pos 0 ∷ []) length_fourth in
      let e5 = weighted_sum-append value not_taken not_started (zeros (length leaf.moves)) minus_ones length_third in
      let z1 = weighted_sum-zeros value flows (length leaf.states) in
      let z2 = weighted_sum-zeros value not_taken (length leaf.moves) in
      let z3 = zero-*ℤ (value opened) in
      let z4 = zero-*ℤ (value (Holds pred b)) in
      let z5 = zero-*ℤ (value (wrong_output_fact leaf b)) in
      let z6 = zero-*ℤ (value no_count) in
      let one = *ℤ_comm (pos 1) (value (two_agents_fact leaf)) ∙ times-one (value (two_agents_fact leaf)) in
      let last : sum_of_facts value not_started minus_ones ≡ total (λ i. negsuc 0 *ℤ value (started i)) (range_with_len 0 (length leaf.inputs)) = ap (λ fs. sum_of_facts value fs minus_ones) not_started_is ∙ ap (sum_of_facts value (map started (range_with_len 0 (length leaf.inputs)))) (sym (range-constant (negsuc 0) 0 (length leaf.inputs))) ∙ weighted_sum-map value started (λ i. negsuc 0) (range_with_len 0 (length leaf.inputs)) in
      omega (arith, ints, e1, e2, e3, e4, e5, z1, z2, z3, z4, z5, z6, one, last)

  start_may : may_weigh may_add start_facts (no_input_mix leaf) ≡ true
  start_may =
      let m1 = may_weigh-append may_add flows (two_agents_fact leaf ∷ Holds pred b ∷ wrong_output_fact leaf b ∷ []) (zeros (length leaf.states)) (pos 1 ∷ pos 0 ∷ pos 0 ∷ []) length_flows (may_weigh-zeros may_add flows (length leaf.states) (omega (arith, length-map-range_with_len (flow leaf) 0 (length leaf.states)))) refl in
      let m2 = may_weigh-append may_add base (opened ∷ []) first_by (pos 0 ∷ []) length_first m1 refl in
      let m3 = may_weigh-zeros may_add not_taken (length leaf.moves) (omega (arith, length_taken)) in
      let m4 : may_weigh may_add not_started minus_ones ≡ true = rw not_started_is (subst (λ ms. may_weigh may_add (map started (range_with_len 0 (length leaf.inputs))) ms ≡ true) (range-constant (negsuc 0) 0 (length leaf.inputs)) (may_weigh-eqs may_add (λ a row. refl) (λ i. single_row (input_variable leaf i) (pos 1) (pos 0)) (λ i. negsuc 0) (range_with_len 0 (length leaf.inputs)))) in
      let m5 = may_weigh-append may_add not_taken not_started (zeros (length leaf.moves)) minus_ones length_third m3 m4 in
      let m6 = may_weigh-append may_add (not_taken ++ not_started) (no_count ∷ []) (zeros (length leaf.moves) ++ minus_ones) (pos 0 ∷ []) length_fourth m5 refl in
      may_weigh-append may_add (base ++ opened ∷ []) ((not_taken ++ not_started) ++ no_count ∷ []) (first_by ++ pos 0 ∷ []) ((zeros (length leaf.moves) ++ minus_ones) ++ pos 0 ∷ []) length_second m2 m6

  two-at : (x : ℕ) → coefficient x (two_agents_fact leaf) ≡ get_or (replicate (length leaf.inputs) (pos 1)) x (pos 0)
  two-at x = coefficient-dense (replicate (length leaf.inputs) (pos 1)) x

  started-at : (i x : ℕ) → coefficient x (started i) ≡ indicator (i == x)
  started-at i x = go (i == x)
    where
      go : (c : Bool) → ((if c then pos 1 else pos 0) +ℤ pos 0) ≡ (if c then pos 1 else pos 0)
      go true = refl
      go false = refl

  started_in : (i : ℕ) → i < length leaf.inputs → total (λ j. negsuc 0 *ℤ coefficient i (started j)) (range_with_len 0 (length leaf.inputs)) ≡ negsuc 0
  started_in i l =
      total-same (λ j. negsuc 0 *ℤ coefficient i (started j)) (λ j. negsuc 0 *ℤ indicator (i == j)) (range_with_len 0 (length leaf.inputs)) (λ j. ap (λ c. negsuc 0 *ℤ c) (started-at j i ∙ ap indicator (same_turned j i)))
      ∙ total-one (λ j. negsuc 0) (length leaf.inputs) i l

  apart_high : (v j y : ℕ) → j < v → v ≤ y → j ≢ y
  apart_high v j y m k e = omega arith

  started_out : (x : ℕ) → length leaf.inputs ≤ x → total (λ j. negsuc 0 *ℤ coefficient x (started j)) (range_with_len 0 (length leaf.inputs)) ≡ pos 0
  started_out x l =
      total-none_range (λ j. negsuc 0 *ℤ coefficient x (started j)) 0 (length leaf.inputs) (λ j m. ap (λ c. negsuc 0 *ℤ c) (started-at j x ∙ ap indicator (ne_eqb j x (apart_high (length leaf.inputs) j x (omega arith) l))))

  start_low : (x : ℕ) → (x < length leaf.inputs) ⊎ (length leaf.inputs ≤ x) → sum_of_facts (coefficient x) start_facts (no_input_mix leaf) ≤ℤ pos 0
  start_low x (inl l) =
      let e = start_sum (coefficient x) in
      let f = two-at x ∙ get_or-replicate (length leaf.inputs) x (pos 1) (pos 0) l in
      let g = started_in x l in
      omega (arith, ints, e, f, g)
  start_low x (inr l) =
      let e = start_sum (coefficient x) in
      let f = two-at x ∙ get_or_past (replicate (length leaf.inputs) (pos 1)) x (pos 0) (omega (arith, length-replicate (length leaf.inputs) (pos 1))) in
      let g = started_out x l in
      omega (arith, ints, e, f, g)

  no_input_closes : length leaf.helpers ≡ 0 → closes_by_sum start_facts (terms_from 0 (no_input_mix leaf)) ≡ true
  no_input_closes none =
      linear_closes-weighted start_facts (no_input_mix leaf) start_may
      (λ x. start_low x (cases_lt x (length leaf.inputs)))
      (let e = start_sum constant_of in let f = total-none (λ (i : ℕ). negsuc 0 *ℤ pos 0) (range_with_len 0 (length leaf.inputs)) (λ i. refl) in omega (arith, ints, e, f, none))

  -- ---- or a helper does

  abbrev helped : Fact
  helped = Eq (constant_row (pos (helpers_among leaf (leaders n))))

  abbrev helped_facts : List Fact
  helped_facts = (base ++ opened ∷ []) ++ ((not_taken ++ not_started) ++ no_count ∷ helped ∷ [])

  helpers_are : helpers_among leaf (leaders n) ≡ length leaf.helpers
  helpers_are =
      count-all (is_in (leaders n)) leaf.helpers (All-weaker (λ q. q < n) (λ q. is_in (leaders n) q ≡ true) (λ q l. is_in-yes n q l) leaf.helpers is.helpers)

  abbrev before : List Fact
  before = (not_taken ++ not_started) ++ no_count ∷ []

  abbrev before_by : List ℤ
  before_by = zeros (length leaf.moves + length leaf.inputs + 1)

  length_before : length before ≡ length leaf.moves + length leaf.inputs + 1
  length_before = omega (arith, length-append (not_taken ++ not_started) (no_count ∷ []), length-append not_taken not_started, length_taken, length_started)

  length_high : length (base ++ opened ∷ []) ≡ length (zeros (length leaf.states + 4))
  length_high = length_opened ∙ sym (length-replicate (length leaf.states + 4) (pos 0))

  length_low : length before ≡ length before_by
  length_low = length_before ∙ sym (length-replicate (length leaf.moves + length leaf.inputs + 1) (pos 0))

  helped_split : helped_facts ≡ (base ++ opened ∷ []) ++ (before ++ helped ∷ [])
  helped_split = ap (λ (fs : List Fact). (base ++ opened ∷ []) ++ fs) (sym (append_assoc (not_taken ++ not_started) (no_count ∷ []) (helped ∷ [])))

  helped_sum : (value : Fact → ℤ) → sum_of_facts value ((base ++ opened ∷ []) ++ (before ++ helped ∷ [])) (helped_mix leaf) ≡ neg_ℤ (value helped)
  helped_sum value =
      let e1 = weighted_sum-append value (base ++ opened ∷ []) (before ++ helped ∷ []) (zeros (length leaf.states + 4)) (before_by ++ negsuc 0 ∷ []) length_high in
      let e2 = weighted_sum-append value before (helped ∷ []) before_by (negsuc 0 ∷ []) length_low in
      let z1 = weighted_sum-zeros value (base ++ opened ∷ []) (length leaf.states + 4) in
      let z2 = weighted_sum-zeros value before (length leaf.moves + length leaf.inputs + 1) in
      let one : (negsuc 0 *ℤ value helped) ≡ neg_ℤ (value helped) = *ℤ_comm (negsuc 0) (value helped) ∙ mul-neg (value helped) (pos 1) ∙ ap neg_ℤ (times-one (value helped)) in
      omega (arith, ints, e1, e2, z1, z2, one)

  helped_may : may_weigh may_add ((base ++ opened ∷ []) ++ (before ++ helped ∷ [])) (helped_mix leaf) ≡ true
  helped_may =
      may_weigh-append may_add (base ++ opened ∷ []) (before ++ helped ∷ []) (zeros (length leaf.states + 4)) (before_by ++ negsuc 0 ∷ []) length_high
      (may_weigh-zeros may_add (base ++ opened ∷ []) (length leaf.states + 4) (omega (arith, length_opened)))
      (may_weigh-append may_add before (helped ∷ []) before_by (negsuc 0 ∷ []) length_low (may_weigh-zeros may_add before (length leaf.moves + length leaf.inputs + 1) (omega (arith, length_before))) refl)

  helped_closes : 1 ≤ length leaf.helpers → closes_by_sum ((base ++ opened ∷ []) ++ (before ++ helped ∷ [])) (terms_from 0 (helped_mix leaf)) ≡ true
  helped_closes some =
      linear_closes-weighted ((base ++ opened ∷ []) ++ (before ++ helped ∷ [])) (helped_mix leaf) helped_may
      (λ x. let e = helped_sum (coefficient x) in omega (arith, ints, e))
      (let e = helped_sum constant_of in let h = helpers_are in omega (arith, ints, e, h, some))

  abbrev nobody_facts : List Fact
  nobody_facts = (base ++ opened ∷ []) ++ ((not_taken ++ not_started) ++ no_count ∷ no_helper_facts leaf (leaders n))

  abbrev closes_nobody : Bool → Bool → Type 0
  closes_nobody counted listed =
      closes_by_sum ((base ++ opened ∷ []) ++ ((not_taken ++ not_started) ++ no_count ∷ (if counted then [] else (helped ∷ [])))) (terms_from 0 (if listed then no_input_mix leaf else helped_mix leaf)) ≡ true

  pub no_start_closes : closes_by_sum nobody_facts (terms_from 0 (no_start_mix leaf)) ≡ true
  no_start_closes =
      subst (λ (c : Bool). closes_nobody c (length leaf.helpers == 0)) (sym (ap (λ (h : ℕ). h == 0) helpers_are)) (go (eqb_tells (length leaf.helpers) 0))
    where
      go : ((length leaf.helpers == 0) ≡ true) × (length leaf.helpers ≡ 0) ⊎ ((length leaf.helpers == 0) ≡ false) × (length leaf.helpers ≢ 0) → closes_nobody (length leaf.helpers == 0) (length leaf.helpers == 0)
      go (inl h) = subst (λ (c : Bool). closes_nobody c c) (sym h.0) (no_input_closes h.1)
      go (inr h) =
          subst (λ (c : Bool). closes_nobody c c) (sym h.0) (subst (λ (fs : List Fact). closes_by_sum fs (terms_from 0 (helped_mix leaf)) ≡ true) (sym helped_split) (helped_closes (let ne = h.1 in omega (arith, ne))))

  pub length_nobody : length nobody_facts ≤ length leaf.states + length leaf.moves + length leaf.inputs + 6
  length_nobody =
      let tail = short (helpers_among leaf (leaders n) == 0) in
      omega (arith, length-append (base ++ opened ∷ []) ((not_taken ++ not_started) ++ no_count ∷ no_helper_facts leaf (leaders n)), length-append (not_taken ++ not_started) (no_count ∷ no_helper_facts leaf (leaders n)), length-append not_taken not_started, length_taken, length_started, length_opened, tail)
    where
      short : (c : Bool) → length (if c then [] else (helped ∷ [])) ≤ 1
      short true = omega arith
      short false = omega arith

  -- ---- not all leaders are absent

  abbrev trap : Fact
  trap = Ge (count_row leaf (leaders n) (negsuc 0))

  abbrev trap_facts : List Fact
  trap_facts = facts_of_trap leaf base opened n

  abbrev in_trap : ℕ → ℤ
  in_trap q = indicator (is_in (leaders n) q)

  abbrev zeros_one : List ℤ
  zeros_one = zeros (length leaf.states + 4) ++ pos 1 ∷ []

  length_zeros : length (base ++ opened ∷ []) ≡ length (zeros (length leaf.states + 4))
  length_zeros = length_opened ∙ sym (length-replicate (length leaf.states + 4) (pos 0))

  length_trap : length trap_facts ≡ length zeros_one
  length_trap = omega (arith, length-append (base ++ opened ∷ []) (trap ∷ []), length-append (zeros (length leaf.states + 4)) (pos 1 ∷ []), length_zeros)

  leader_total : (value : Fact → ℤ) → sum_of_facts value (facts_without leaf trap_facts n) (no_leader_mix leaf n) ≡ (value trap +ℤ total (λ q. negsuc 0 *ℤ value (absent_fact leaf q)) (leaders n))
  leader_total value =
      let e1 = weighted_sum-append value trap_facts (map (absent_fact leaf) (leaders n)) zeros_one (replicate n (negsuc 0)) length_trap in
      let e2 = weighted_sum-append value (base ++ opened ∷ []) (trap ∷ []) (zeros (length leaf.states + 4)) (pos 1 ∷ []) length_zeros in
      let z = weighted_sum-zeros value (base ++ opened ∷ []) (length leaf.states + 4) in
      let one = *ℤ_comm (pos 1) (value trap) ∙ times-one (value trap) in
      let last : sum_of_facts value (map (absent_fact leaf) (leaders n)) (replicate n (negsuc 0)) ≡ total (λ q. negsuc 0 *ℤ value (absent_fact leaf q)) (leaders n) = ap (sum_of_facts value (map (absent_fact leaf) (leaders n))) (sym (range-constant (negsuc 0) 0 n)) ∙ weighted_sum-map value (absent_fact leaf) (λ q. negsuc 0) (leaders n) in
      omega (arith, ints, e1, e2, z, one, last)

  leader_may : may_weigh may_add (facts_without leaf trap_facts n) (no_leader_mix leaf n) ≡ true
  leader_may =
      let m1 = may_weigh-append may_add (base ++ opened ∷ []) (trap ∷ []) (zeros (length leaf.states + 4)) (pos 1 ∷ []) length_zeros (may_weigh-zeros may_add (base ++ opened ∷ []) (length leaf.states + 4) (omega (arith, length_opened))) refl in
      let m2 : may_weigh may_add (map (absent_fact leaf) (leaders n)) (replicate n (negsuc 0)) ≡ true = subst (λ ms. may_weigh may_add (map (absent_fact leaf) (leaders n)) ms ≡ true) (range-constant (negsuc 0) 0 n) (may_weigh-eqs may_add (λ a row. refl) (λ q. row_of (absent_fact leaf q)) (λ q. negsuc 0) (leaders n)) in
      may_weigh-append may_add trap_facts (map (absent_fact leaf) (leaders n)) zeros_one (replicate n (negsuc 0)) length_trap m1 m2

  absents_none : (x : ℕ) → ((q : ℕ) → q < n → (length leaf.inputs + q) ≢ x) → total (λ q. negsuc 0 *ℤ coefficient x (absent_fact leaf q)) (leaders n) ≡ pos 0
  absents_none x ne =
      total-none_range (λ q. negsuc 0 *ℤ coefficient x (absent_fact leaf q)) 0 n (λ q l. ap (λ c. negsuc 0 *ℤ c) (absent-at leaf q x ∙ ap indicator (ne_eqb (length leaf.inputs + q) x (ne q (omega arith)))))

  absents_one : (z : ℕ) → z < n → total (λ q. negsuc 0 *ℤ coefficient (length leaf.inputs + z) (absent_fact leaf q)) (leaders n) ≡ negsuc 0
  absents_one z l =
      total-same (λ q. negsuc 0 *ℤ coefficient (length leaf.inputs + z) (absent_fact leaf q)) (λ q. negsuc 0 *ℤ indicator (z == q)) (leaders n) (λ q. ap (λ c. negsuc 0 *ℤ c) (absent-at leaf q (length leaf.inputs + z) ∙ ap indicator (shifted (length leaf.inputs) q z)))
      ∙ total-one (λ q. negsuc 0) n z l

  other_state : (v q z : ℕ) → q < n → n ≤ z → (v + q) ≢ (v + z)
  other_state v q z l m e = omega arith

  leader_low : (x : ℕ) → sum_of_facts (coefficient x) (facts_without leaf trap_facts n) (no_leader_mix leaf n) ≤ℤ pos 0
  leader_low = each_variable leaf (λ x. sum_of_facts (coefficient x) (facts_without leaf trap_facts n) (no_leader_mix leaf n) ≤ℤ pos 0) at_input at_state (λ t l. at_late t) (λ j. at_late (length leaf.moves + j))
    where
      at_input : (i : ℕ) → i < length leaf.inputs → sum_of_facts (coefficient i) (facts_without leaf trap_facts n) (no_leader_mix leaf n) ≤ℤ pos 0
      at_input i l =
          let e = leader_total (coefficient i) in
          let f = states-input leaf in_trap i l in
          let g = absents_none i (λ q m. apart (length leaf.inputs) q i l) in
          omega (arith, ints, e, f, g)

      at_late : (j : ℕ) → sum_of_facts (coefficient (length leaf.inputs + length leaf.states + j)) (facts_without leaf trap_facts n) (no_leader_mix leaf n) ≤ℤ pos 0
      at_late j =
          let x = length leaf.inputs + length leaf.states + j in
          let e = leader_total (coefficient x) in
          let f = states-past leaf in_trap j in
          let g = absents_none x (λ q m. apart_past (length leaf.inputs) (length leaf.states) q j (let few = is.leaders in omega arith)) in
          omega (arith, ints, e, f, g)

      leader_or_not : (z : ℕ) → z < length leaf.states → (z < n) ⊎ (n ≤ z) → sum_of_facts (coefficient (length leaf.inputs + z)) (facts_without leaf trap_facts n) (no_leader_mix leaf n) ≤ℤ pos 0
      leader_or_not z l (inl m) =
          let e = leader_total (coefficient (length leaf.inputs + z)) in
          let f = states-state leaf in_trap z l ∙ ap indicator (is_in-yes n z m) in
          let g = absents_one z m in
          omega (arith, ints, e, f, g)
      leader_or_not z l (inr m) =
          let e = leader_total (coefficient (length leaf.inputs + z)) in
          let f = states-state leaf in_trap z l ∙ ap indicator (is_in-no n z m) in
          let g = absents_none (length leaf.inputs + z) (λ q k. other_state (length leaf.inputs) q z k m) in
          omega (arith, ints, e, f, g)

      at_state : (z : ℕ) → z < length leaf.states → sum_of_facts (coefficient (length leaf.inputs + z)) (facts_without leaf trap_facts n) (no_leader_mix leaf n) ≤ℤ pos 0
      at_state z l = leader_or_not z l (cases_lt z n)

  pub no_leader_closes : closes_by_sum (facts_without leaf trap_facts n) (terms_from 0 (no_leader_mix leaf n)) ≡ true
  no_leader_closes =
      linear_closes-weighted (facts_without leaf trap_facts n) (no_leader_mix leaf n) leader_may leader_low
      (let e = leader_total constant_of in let f = total-none (λ (q : ℕ). negsuc 0 *ℤ pos 0) (leaders n) (λ q. refl) in omega (arith, ints, e, f))
