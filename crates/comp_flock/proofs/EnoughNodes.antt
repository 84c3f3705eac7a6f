-- The nodes of the tree where there are enough close: with a prefix, and with none.
use Rattle.std.proofs.Common.{◌≡◌, ◌≢◌, ◌⊎◌, ◌∙◌, inl, inr, subst, ℕ, zero, suc, ◌+◌, ◌-◌, ◌<◌, ◌≤◌, Bool, true, false, ◌&&◌, ◌||◌, List, [], ◌∷◌, ◌++◌, length, map, get_or, refl, ap, sym, arith}
use Rattle.std.specs.Prelude.{ℤ, pos, negsuc, neg_ℤ, ◌+ℤ◌, ◌-ℤ◌, ◌*ℤ◌, ◌≤ℤ◌, ◌==◌, All, int_le, nat_abs, if◌then◌else◌}
use Rattle.std.specs.List.{range_with_len}
use Rattle.std.specs.Ordering.{int_eq}
use Rattle.std.proofs.lemmas.Int.{ints}
use Rattle.std.proofs.Math.IntN.{*ℤ-zero, zero-*ℤ}
use Rattle.std.proofs.Math.Bool.{or-true}
use Rattle.std.proofs.lemmas.Bool.{cases_lt, cases_eq, eq-eqb, ne_eqb, lt-ltb}
use Rattle.std.proofs.lemmas.List.{length-map, length-append, length-replicate, get_or-map}
use Rattle.std.proofs.lemmas.List.Elements.{All-get_or, All-from_get_or}
use Rattle.std.proofs.lemmas.List.FromFn.{length-map-range_with_len}
use Rattle.pop_leaf.specs.LeafModel.{LeafModel}
use Rattle.pres_ast.specs.PredModel.{PredModel}
use Rattle.cert_base.specs.declared.fact.Fact.{Fact}
use Rattle.cert_base.specs.Rows.{terms_from, zeros}
use Rattle.cert_base.specs.ClosingTests.{row_of, closes_by_sum, may_add}
use Rattle.cert_base.specs.FactsAndCases.{indicator, absent_fact, occurs_fact, alone_fact, not_twice}
use Rattle.cert_base.specs.WeightedSums.{sum_of_facts, coefficient, constant_of, may_weigh, total}
use Rattle.cert_base.proofs.WeightedSums.{weighted_sum-append, weighted_sum-zeros, may_weigh-append, may_weigh-zeros}
use Rattle.cert_base.proofs.FlowSums.{weighted_sum-map, total-same, total-none, total-neg, times-one, one-times, mul-neg}
use Rattle.comp_trees.specs.LeaderTree.{mix_over, company_of}
use Rattle.comp_trees.proofs.LeaderEnds.{absent-at, is_wrong, may_weigh-eqs, rules_out, none_out, out-state}
use Rattle.comp_trees.proofs.Mixes.{all_facts, IsLow, mix_closes}
use Rattle.comp_counting.specs.FlockAtoms.{says_enough, enough_for, offset_pred_of}
use Rattle.comp_counting.specs.FullState.{flock_start, for_states}
use Rattle.comp_counting.proofs.Numbers.{zero_le}
use Rattle.comp_counting.proofs.Opened.{opened_row, opened_constant, enough-constant}
use Rattle.comp_counting.proofs.Counted.{enough-row}
use Rattle.comp_flock.specs.CountLeaf.{worth_in, count_moves, count_leaf}
use Rattle.comp_flock.specs.CountProof.{greatest_worth, lost_worth, is_low, kept_worth, ruled_worth, own_worth, with_mix, without_mix}
use Rattle.comp_flock.proofs.WorthLaws.{total-where, not_less, no-more, not-full, low-lesser, own-total, kept-total}
use Rattle.comp_flock.proofs.MoveLists.{all_moves}
use Rattle.comp_flock.proofs.Meetings.{prefix-meets}
use Rattle.comp_flock.proofs.Starts.{IsStart, start-at}
use Rattle.comp_flock.proofs.Formed.{states-long}
use Rattle.comp_flock.specs.Covered.{IsCovered}
use Rattle.comp_flock.proofs.Covered.{is-plain}
use Rattle.comp_flock.proofs.Blocks.{block-past, block-out, block-in, twins-at, absents-at}

module _ (coefs : List ℤ) (bound : ℤ) (keeps : Bool) (t most : ℕ) (ws : List ℕ) (top k : ℕ) (helpers : List ℕ) (is : IsCovered coefs bound keeps t most ws top k helpers) where
  -- the value that says that there are enough
  abbrev says : Bool
  says = says_enough bound

  -- how many are enough
  abbrev c : ℕ
  c = enough_for bound

  abbrev w : ℕ → ℕ
  w q = worth_in ws q

  abbrev leaf : LeafModel
  leaf = count_leaf coefs says c keeps t ws k helpers

  abbrev pred : PredModel
  pred = offset_pred_of coefs bound

  abbrev row : List ℤ
  row = opened_row coefs says

  abbrev constant : ℤ
  constant = opened_constant bound says

  abbrev n : ℕ
  n = length leaf.inputs

  long : length leaf.states ≡ k + 2
  long = states-long ws k

  abbrev size : ℕ → ℕ
  size q = greatest_worth most ws k q

  abbrev lost : ℕ → ℤ
  lost q = lost_worth most ws k q

  size-full : size (k + 1) ≡ most
  size-full = rw (eq-eqb (k + 1) (k + 1) refl) refl

  size-other : (q : ℕ) → q ≤ k → size q ≡ w q
  size-other q l = let e = ne_eqb q (k + 1) (λ e. omega (arith, e, l)) in rw e refl

  size-most : (q : ℕ) → q ≤ k + 1 → w q ≤ size q
  size-most q l = go (q == k + 1)
    where
      go : (b : Bool) → w q ≤ (if b then most else w q)
      go true = let a = no-more ws t top k is.chain q l in let b = is.within in omega (arith, a, b)
      go false = omega arith

  -- no move loses worth
  lost_moves : All (λ t. (lost t.r +ℤ lost t.s) ≤ℤ (lost t.p +ℤ lost t.q)) (count_moves keeps ws t k)
  lost_moves =
      all_moves keeps ws t k (λ t. (lost t.r +ℤ lost t.s) ≤ℤ (lost t.p +ℤ lost t.q))
      (λ p q l m o.
      let a = size-other p m in
      let b = size-other q (omega (arith, l, m)) in
      let x = not-full ws t top k is.chain p m in
      let y = not-full ws t top k is.chain q (omega (arith, l, m)) in
      let within = is.within in
      let f = size-full in
      omega (arith, ints, a, b, x, y, within, f))
      (λ p q l m e.
      let a = size-other p m in
      let b = size-other q (omega (arith, l, m)) in
      let r = size-most (p + 1) (omega (arith, m)) in
      omega (arith, ints, a, b, r, e))
      (λ q l.
      let b = size-other q l in
      let y = not-full ws t top k is.chain q l in
      let within = is.within in
      let f = size-full in
      omega (arith, ints, b, y, within, f))

  -- a state is worth no less than an agent that starts there
  size-start : (i : ℕ) → i < length coefs → nat_abs (get_or coefs i (pos 0)) ≤ size (flock_start c k (get_or coefs i (pos 0)))
  size-start i l = go (flock_start c k (get_or coefs i (pos 0))) (start-at ws c t top k is.chain is.reach says coefs i is.are l)
    where
      go : (q : ℕ) → IsStart ws c k (get_or coefs i (pos 0)) q → nat_abs (get_or coefs i (pos 0)) ≤ size q
      go q (inl h) = let same = ap size h.0 in let f = size-full in let small = is.small i l in omega (arith, same, f, small)
      go q (inr h) = let same = size-other q h.0 in let own = h.1 in omega (arith, same, own)

  -- ---- facts that contradict the flows of all worths, with the opened fact

  record IsOwn (facts : List Fact) (ms : List ℤ) : Type 0 where
    may : may_weigh may_add facts ms ≡ true
    inputs : (i : ℕ) → i < n → sum_of_facts (coefficient i) facts ms ≤ℤ pos 0
    states : (z : ℕ) → z < k + 2 → sum_of_facts (coefficient (n + z)) facts ms ≤ℤ lost z
    late : (j : ℕ) → sum_of_facts (coefficient (n + length leaf.states + j)) facts ms ≤ℤ pos 0
    last : sum_of_facts constant_of facts ms ≤ℤ (pos t -ℤ pos 1)

  own_low : (facts : List Fact) (ms : List ℤ) → IsOwn facts ms → IsLow leaf pred says row constant facts lost (pos 0) (pos 1) ms
  own_low facts ms own = record {
    at_inputs = λ i l. (
        let below : i < length coefs = omega (arith, l, length-map coefs (flock_start c k)) in
        let start = ap lost (get_or-map (flock_start c k) coefs i (pos 0) 0 below) in
        let counts = enough-row says c coefs i is.are below in
        let covers = size-start i below in
        let none = own.inputs i l in
        let one = one-times (get_or row i (pos 0)) in
        omega (arith, ints, start, counts, covers, none, one));
    at_states = λ z l. (
        let sum = own.states z (omega (arith, l, long)) in
        let none = zero-*ℤ (indicator (is_wrong leaf says z)) in
        omega (arith, ints, sum, none));
    at_moves = λ t d l. (
        let none = own.late t in
        let low = All-get_or (λ t. (lost t.r +ℤ lost t.s) ≤ℤ (lost t.p +ℤ lost t.q)) leaf.moves t d l lost_moves in
        omega (arith, ints, none, low));
    at_past = λ j. own.late (length leaf.moves + j);
    at_end = (
        let sum = own.last in
        let one = one-times constant in
        let least = enough-constant bound in
        let helped = total-neg (λ q. pos (size q)) helpers in
        let worth = total-where (λ q. pos (size q)) (λ q. pos (w q)) helpers (All-from_get_or (λ q. pos (size q) ≡ pos (w q)) helpers 0 (λ i l. ap pos (size-other (get_or helpers i 0) (All-get_or (λ q. q ≤ k) helpers i 0 l is.low)))) in
        let filled = is.filled in
        omega (arith, ints, sum, one, least, helped, worth, filled));
  }

  own_closes : (facts : List Fact) (ms : List ℤ) → IsOwn facts ms → closes_by_sum (all_facts leaf pred says row constant facts) (terms_from 0 (mix_over (for_states k lost) (pos 0) (pos 1) ms)) ≡ true
  own_closes facts ms own =
      subst (λ m. closes_by_sum (all_facts leaf pred says row constant facts) (terms_from 0 (mix_over (map lost (range_with_len 0 m)) (pos 0) (pos 1) ms)) ≡ true) long
      (mix_closes leaf pred says row constant facts lost (pos 0) (pos 1) ms (is-plain coefs bound keeps t most ws top k helpers is says) refl refl own.may (own_low facts ms own))

  -- ---- the full state is absent, and each power below 2^top occurs at most once

  abbrev pub fixed : ℕ → List Fact
  fixed j = absent_fact leaf (k + 1) ∷ map (not_twice leaf) (range_with_len 1 j)

  -- the multipliers of the powers
  abbrev fixed_by : ℤ → (ℕ → ℤ) → List ℤ
  fixed_by first f = first ∷ map f (range_with_len 1 top)

  abbrev pub prefix_facts : ℕ → List Fact
  prefix_facts j = map (absent_fact leaf) (range_with_len (top + 1) j)

  fixed-same : (first : ℤ) (f : ℕ → ℤ) → length (fixed top) ≡ length (fixed_by first f)
  fixed-same first f = omega (arith, length-map-range_with_len (not_twice leaf) 1 top, length-map-range_with_len f 1 top)

  fixed_sum : (value : Fact → ℤ) (first : ℤ) (f : ℕ → ℤ) → sum_of_facts value (fixed top) (fixed_by first f) ≡ ((first *ℤ value (absent_fact leaf (k + 1))) +ℤ total (λ q. f q *ℤ value (not_twice leaf q)) (range_with_len 1 top))
  fixed_sum value first f = let e = weighted_sum-map value (not_twice leaf) f (range_with_len 1 top) in omega (arith, ints, e)

  twins_may : (f : ℕ → ℤ) → ((q : ℕ) → int_le (pos 0) (f q) ≡ true) → (a m : ℕ) → may_weigh may_add (map (not_twice leaf) (range_with_len a m)) (map f (range_with_len a m)) ≡ true
  twins_may f some a zero = refl
  twins_may f some a (suc m) =
      let rest = twins_may f some (a + 1) m in
      let here : (int_eq (f a) (pos 0) || int_le (pos 0) (f a)) ≡ true = ap (λ (c : Bool). int_eq (f a) (pos 0) || c) (some a) ∙ or-true (int_eq (f a) (pos 0)) in
      rw (here, rest) refl

  fixed_may : (first : ℤ) (f : ℕ → ℤ) → ((q : ℕ) → int_le (pos 0) (f q) ≡ true) → may_weigh may_add (fixed top) (fixed_by first f) ≡ true
  fixed_may first f some = or_first (int_eq first (pos 0)) (twins_may f some 1 top)
    where
      or_first : (b : Bool) → may_weigh may_add (map (not_twice leaf) (range_with_len 1 top)) (map f (range_with_len 1 top)) ≡ true → ((b || true) && may_weigh may_add (map (not_twice leaf) (range_with_len 1 top)) (map f (range_with_len 1 top))) ≡ true
      or_first true h = h
      or_first false h = h

  -- ---- with no prefix

  abbrev pub without_facts : List Fact
  without_facts = fixed top ++ prefix_facts (k - top)

  abbrev without_own : List ℤ
  without_own = fixed_by (neg_ℤ (pos most)) (own_worth ws) ++ map lost (range_with_len (top + 1) (k - top))

  without_sum : (value : Fact → ℤ) → sum_of_facts value without_facts without_own ≡ (((neg_ℤ (pos most) *ℤ value (absent_fact leaf (k + 1))) +ℤ total (λ q. own_worth ws q *ℤ value (not_twice leaf q)) (range_with_len 1 top)) +ℤ total (λ q. lost q *ℤ value (absent_fact leaf q)) (range_with_len (top + 1) (k - top)))
  without_sum value =
      let both = weighted_sum-append value (fixed top) (prefix_facts (k - top)) (fixed_by (neg_ℤ (pos most)) (own_worth ws)) (map lost (range_with_len (top + 1) (k - top))) (fixed-same (neg_ℤ (pos most)) (own_worth ws)) in
      let first = fixed_sum value (neg_ℤ (pos most)) (own_worth ws) in
      let second = weighted_sum-map value (absent_fact leaf) lost (range_with_len (top + 1) (k - top)) in
      omega (arith, ints, both, first, second)

  -- by the variable
  without_at : (x : ℕ) → sum_of_facts (coefficient x) without_facts without_own ≡ (((neg_ℤ (pos most) *ℤ indicator ((n + (k + 1)) == x)) -ℤ total (λ q. own_worth ws q *ℤ indicator ((n + q) == x)) (range_with_len 1 top)) +ℤ total (λ q. lost q *ℤ indicator ((n + q) == x)) (range_with_len (top + 1) (k - top)))
  without_at x =
      let sum = without_sum (coefficient x) in
      let first = ap (λ a. neg_ℤ (pos most) *ℤ a) (absent-at leaf (k + 1) x) in
      let second = twins-at leaf (own_worth ws) (range_with_len 1 top) x in
      let third = absents-at leaf lost (range_with_len (top + 1) (k - top)) x in
      omega (arith, ints, sum, first, second, third)

  -- a variable that is no count of a state
  without_none : (x : ℕ) → ((q : ℕ) → q < k + 2 → (n + q) ≢ x) → sum_of_facts (coefficient x) without_facts without_own ≡ pos 0
  without_none x ne =
      let low = is.chain.low in
      let sum = without_at x in
      let first = ap (λ b. neg_ℤ (pos most) *ℤ indicator b) (ne_eqb (n + (k + 1)) x (ne (k + 1) (omega arith))) ∙ *ℤ-zero (neg_ℤ (pos most)) in
      let second = block-past n (own_worth ws) 1 top x (λ q l m. ne q (omega (arith, m, low))) in
      let third = block-past n lost (top + 1) (k - top) x (λ q l m. ne q (omega (arith, m, low))) in
      omega (arith, ints, sum, first, second, third)

  full-no : (z : ℕ) → z ≤ k → (neg_ℤ (pos most) *ℤ indicator ((n + (k + 1)) == (n + z))) ≡ pos 0
  full-no z l = ap (λ b. neg_ℤ (pos most) *ℤ indicator b) (ne_eqb (n + (k + 1)) (n + z) (λ e. omega (arith, e, l))) ∙ *ℤ-zero (neg_ℤ (pos most))

  full-yes : (neg_ℤ (pos most) *ℤ indicator ((n + (k + 1)) == (n + (k + 1)))) ≡ neg_ℤ (pos most)
  full-yes = ap (λ b. neg_ℤ (pos most) *ℤ indicator b) (eq-eqb (n + (k + 1)) (n + (k + 1)) refl) ∙ times-one (neg_ℤ (pos most))

  without_state : (z : ℕ) → z < k + 2 → sum_of_facts (coefficient (n + z)) without_facts without_own ≡ lost z
  without_state z l = go z l (cases_lt z 1) (cases_lt top z) (cases_lt k z)
    where
      low : top ≤ k
      low = is.chain.low

      go : (z : ℕ) → z < k + 2 → (z < 1) ⊎ (1 ≤ z) → (top < z) ⊎ (z ≤ top) → (k < z) ⊎ (z ≤ k) → sum_of_facts (coefficient (n + z)) without_facts without_own ≡ lost z
      go z l first second (inl last) =
          let same : k + 1 ≡ z = omega (arith, l, last) in
          let sum = without_at (n + (k + 1)) in
          let a = full-yes in
          let b = block-out n (own_worth ws) 1 top (k + 1) (inr (omega (arith, low))) in
          let d = block-out n lost (top + 1) (k - top) (k + 1) (inr (omega (arith, low))) in
          let f = size-full in
          subst (λ z. sum_of_facts (coefficient (n + z)) without_facts without_own ≡ lost z) same (omega (arith, ints, sum, a, b, d, f))
      go z l first (inl second) (inr last) =
          let sum = without_at (n + z) in
          let a = full-no z last in
          let b = block-out n (own_worth ws) 1 top z (inr (omega (arith, second))) in
          let d = block-in n lost (top + 1) (k - top) z (omega (arith, second)) (omega (arith, last, low)) in
          omega (arith, ints, sum, a, b, d)
      go z l (inr first) (inr second) (inr last) =
          let sum = without_at (n + z) in
          let a = full-no z last in
          let b = block-in n (own_worth ws) 1 top z first (omega (arith, second)) in
          let d = block-out n lost (top + 1) (k - top) z (inl (omega (arith, second))) in
          let f = size-other z last in
          omega (arith, ints, sum, a, b, d, f)
      go z l (inl first) (inr second) (inr last) =
          let sum = without_at (n + z) in
          let a = full-no z last in
          let b = block-out n (own_worth ws) 1 top z (inl first) in
          let d = block-out n lost (top + 1) (k - top) z (inl (omega (arith, second))) in
          let f = size-other z last in
          let none = ap w (let e : z ≡ 0 = omega (arith, first) in e) ∙ is.chain.nothing in
          omega (arith, ints, sum, a, b, d, f, none)

  without_own-is : IsOwn without_facts without_own
  without_own-is = record {
    may = may_weigh-append may_add (fixed top) (prefix_facts (k - top)) (fixed_by (neg_ℤ (pos most)) (own_worth ws)) (map lost (range_with_len (top + 1) (k - top))) (fixed-same (neg_ℤ (pos most)) (own_worth ws)) (fixed_may (neg_ℤ (pos most)) (own_worth ws) (λ q. zero_le (w q))) (may_weigh-eqs may_add (λ a row. refl) (λ q. row_of (absent_fact leaf q)) lost (range_with_len (top + 1) (k - top)));
    inputs = λ i l. (let none = without_none i (λ q m e. omega (arith, e, l)) in omega (arith, ints, none));
    states = λ z l. (let sum = without_state z l in omega (arith, ints, sum));
    late = λ j. (let none = without_none (n + length leaf.states + j) (λ q m e. omega (arith, e, m, long)) in omega (arith, ints, none));
    last = (
        let sum = without_sum constant_of in
        let first = *ℤ-zero (neg_ℤ (pos most)) in
        let second = total-same (λ q. own_worth ws q *ℤ pos 1) (own_worth ws) (range_with_len 1 top) (λ q. times-one (own_worth ws q)) ∙ own-total ws t top k is.chain in
        let third = total-none (λ q. lost q *ℤ pos 0) (range_with_len (top + 1) (k - top)) (λ q. *ℤ-zero (lost q)) in
        let one = is.chain.powers top (omega arith) in
        let below = no-more ws t top k is.chain (top + 1) (let low = is.chain.low in omega (arith, low)) in
        omega (arith, ints, sum, first, second, third, one, below));
  }

  pub without_closes : closes_by_sum (all_facts leaf pred says row constant without_facts) (terms_from 0 (without_mix most ws k top)) ≡ true
  without_closes = own_closes without_facts without_own without_own-is

  -- ---- with a prefix, the first one

  module _ (p : ℕ) (above : top < p) (below : p ≤ k) where
    abbrev before : ℕ
    before = p - (top + 1)

    abbrev kept : ℕ → ℤ
    kept q = kept_worth ws p q

    abbrev ruled : ℕ → ℤ
    ruled q = ruled_worth most ws k p q

    abbrev company : List ℕ
    company = company_of leaf p

    abbrev pub present_facts : List Fact
    present_facts = (occurs_fact leaf p ∷ map (absent_fact leaf) company) ++ alone_fact leaf p ∷ []

    abbrev pub with_facts : List Fact
    with_facts = (fixed top ++ prefix_facts before) ++ present_facts

    abbrev above_own : List ℤ
    above_own = fixed_by (pos 0) kept ++ zeros before

    abbrev present_own : List ℤ
    present_own = (pos 0 ∷ map ruled company) ++ neg_ℤ (own_worth ws p) ∷ []

    abbrev with_own : List ℤ
    with_own = above_own ++ present_own

    above-same : length (fixed top ++ prefix_facts before) ≡ length above_own
    above-same =
        omega (arith, length-append (fixed top) (prefix_facts before), length-append (fixed_by (pos 0) kept) (zeros before), fixed-same (pos 0) kept, length-map-range_with_len (absent_fact leaf) (top + 1) before, length-replicate before (pos 0))

    company-same : length (occurs_fact leaf p ∷ map (absent_fact leaf) company) ≡ length (pos 0 ∷ map ruled company)
    company-same = omega (arith, length-map company (absent_fact leaf), length-map company ruled)

    with_sum : (value : Fact → ℤ) → sum_of_facts value with_facts with_own ≡ (total (λ q. kept q *ℤ value (not_twice leaf q)) (range_with_len 1 top) +ℤ (total (λ q. ruled q *ℤ value (absent_fact leaf q)) company +ℤ (neg_ℤ (own_worth ws p) *ℤ value (alone_fact leaf p))))
    with_sum value =
        let both = weighted_sum-append value (fixed top ++ prefix_facts before) present_facts above_own present_own above-same in
        let early = weighted_sum-append value (fixed top) (prefix_facts before) (fixed_by (pos 0) kept) (zeros before) (fixed-same (pos 0) kept) in
        let first = fixed_sum value (pos 0) kept in
        let none = zero-*ℤ (value (absent_fact leaf (k + 1))) in
        let nones = weighted_sum-zeros value (prefix_facts before) before in
        let late = weighted_sum-append value (occurs_fact leaf p ∷ map (absent_fact leaf) company) (alone_fact leaf p ∷ []) (pos 0 ∷ map ruled company) (neg_ℤ (own_worth ws p) ∷ []) company-same in
        let occurs = zero-*ℤ (value (occurs_fact leaf p)) in
        let second = weighted_sum-map value (absent_fact leaf) ruled company in
        omega (arith, ints, both, early, first, none, nones, late, occurs, second)

    alone-is : (x : ℕ) → coefficient x (alone_fact leaf p) ≡ indicator ((n + p) == x)
    alone-is x = absent-at leaf p x

    with_none : (x : ℕ) → ((q : ℕ) → q < k + 2 → (n + q) ≢ x) → sum_of_facts (coefficient x) with_facts with_own ≡ pos 0
    with_none x ne =
        let low = is.chain.low in
        let sum = with_sum (coefficient x) in
        let first = twins-at leaf kept (range_with_len 1 top) x in
        let none = block-past n kept 1 top x (λ q l m. ne q (omega (arith, m, low))) in
        let second = none_out leaf p ruled x (λ q l. ne q (omega (arith, l, long))) in
        let third = ap (λ a. neg_ℤ (own_worth ws p) *ℤ a) (alone-is x ∙ ap indicator (ne_eqb (n + p) x (ne p (omega (arith, below))))) ∙ *ℤ-zero (neg_ℤ (own_worth ws p)) in
        omega (arith, ints, sum, first, none, second, third)

    -- what the powers count for at a state: nothing, or what is kept of it
    kept-at : (z : ℕ) → ((1 ≤ z) → kept z ≡ pos 0) → total (λ q. kept q *ℤ indicator ((n + q) == (n + z))) (range_with_len 1 top) ≡ pos 0
    kept-at z none = go (cases_lt z 1) (cases_lt top z)
      where
        go : (z < 1) ⊎ (1 ≤ z) → (top < z) ⊎ (z ≤ top) → total (λ q. kept q *ℤ indicator ((n + q) == (n + z))) (range_with_len 1 top) ≡ pos 0
        go (inl l) m = block-out n kept 1 top z (inl l)
        go (inr l) (inl m) = block-out n kept 1 top z (inr (omega (arith, m)))
        go (inr l) (inr m) = block-in n kept 1 top z l (omega (arith, m)) ∙ none l

    alone-no : (z : ℕ) → z ≢ p → (neg_ℤ (own_worth ws p) *ℤ coefficient (n + z) (alone_fact leaf p)) ≡ pos 0
    alone-no z ne = ap (λ a. neg_ℤ (own_worth ws p) *ℤ a) (alone-is (n + z) ∙ ap indicator (ne_eqb (n + p) (n + z) (λ e. ne (omega (arith, e))))) ∙ *ℤ-zero (neg_ℤ (own_worth ws p))

    -- the prefix itself
    with_self : sum_of_facts (coefficient (n + p)) with_facts with_own ≡ lost p
    with_self =
        let sum = with_sum (coefficient (n + p)) in
        let first = twins-at leaf kept (range_with_len 1 top) (n + p) in
        let none = block-out n kept 1 top p (inr (omega (arith, above))) in
        let second = out-state leaf p ruled p (omega (arith, below, long)) ∙ ap (λ (b : Bool). if b then ruled p else pos 0) (let self : rules_out leaf p p ≡ false = (let e = eq-eqb p p refl in rw e refl) in self) in
        let third = ap (λ a. neg_ℤ (own_worth ws p) *ℤ a) (alone-is (n + p) ∙ ap indicator (eq-eqb (n + p) (n + p) refl)) ∙ times-one (neg_ℤ (own_worth ws p)) in
        let f = size-other p below in
        omega (arith, ints, sum, first, none, second, third, f)

    -- a state that is worth less than what the prefix lacks
    with_low : (z : ℕ) → z < k + 2 → z ≢ p → w p + w z < w (p + 1) → sum_of_facts (coefficient (n + z)) with_facts with_own ≡ lost z
    with_low z l ne less =
        let test : is_low ws p z ≡ true = lt-ltb (w p + w z) (w (p + 1)) less in
        let lesser = low-lesser ws t top k is.chain p z above below (omega (arith, l)) less in
        let low = is.chain.low in
        let sum = with_sum (coefficient (n + z)) in
        let first = twins-at leaf kept (range_with_len 1 top) (n + z) in
        let second = out-state leaf p ruled z (omega (arith, l, long)) ∙ out (rules_out leaf p z) (ap (λ (b : Bool). if b then pos 0 else lost z) test) in
        let third = alone-no z ne in
        let keeps : kept z ≡ pos (w z) = ap (λ (b : Bool). if b then pos (w z) else pos 0) test in
        let f = size-other z (omega (arith, lesser, low)) in
        let counts = at (cases_lt z 1) lesser keeps in
        omega (arith, ints, sum, first, second, third, f, counts)
      where
        out : (b : Bool) → ruled z ≡ pos 0 → (if b then ruled z else pos 0) ≡ pos 0
        out true e = e
        out false e = refl

        at : (z < 1) ⊎ (1 ≤ z) → z ≤ top → kept z ≡ pos (w z) → total (λ q. kept q *ℤ indicator ((n + q) == (n + z))) (range_with_len 1 top) ≡ pos (w z)
        at (inl m) o e = block-out n kept 1 top z (inl m) ∙ ap pos (sym (ap w (let g : z ≡ 0 = omega (arith, m) in g) ∙ is.chain.nothing))
        at (inr m) o e = block-in n kept 1 top z m (omega (arith, o)) ∙ e

    -- a state that is ruled out
    with_ruled : (z : ℕ) → z < k + 2 → z ≢ p → w (p + 1) ≤ w p + w z → sum_of_facts (coefficient (n + z)) with_facts with_own ≡ lost z
    with_ruled z l ne enough =
        let test : is_low ws p z ≡ false = not_less (w p + w z) (w (p + 1)) enough in
        let meets = prefix-meets keeps ws t top k is.chain p z above below (omega (arith, l)) enough in
        let other = ne_eqb z p ne in
        let out : rules_out leaf p z ≡ true = rw (other, meets) refl in
        let sum = with_sum (coefficient (n + z)) in
        let first = twins-at leaf kept (range_with_len 1 top) (n + z) in
        let none = kept-at z (λ m. ap (λ (b : Bool). if b then pos (w z) else pos 0) test) in
        let second = out-state leaf p ruled z (omega (arith, l, long)) ∙ ap (λ (b : Bool). if b then ruled z else pos 0) out ∙ ap (λ (b : Bool). if b then pos 0 else lost z) test in
        let third = alone-no z ne in
        omega (arith, ints, sum, first, none, second, third)

    with_state : (z : ℕ) → z < k + 2 → sum_of_facts (coefficient (n + z)) with_facts with_own ≡ lost z
    with_state z l = go (cases_eq z p) (cases_lt (w p + w z) (w (p + 1)))
      where
        go : (z ≡ p) ⊎ (z ≡ p → ⊥) → (w p + w z < w (p + 1)) ⊎ (w (p + 1) ≤ w p + w z) → sum_of_facts (coefficient (n + z)) with_facts with_own ≡ lost z
        go (inl e) o = subst (λ z. sum_of_facts (coefficient (n + z)) with_facts with_own ≡ lost z) (sym e) with_self
        go (inr ne) (inl o) = with_low z l ne o
        go (inr ne) (inr o) = with_ruled z l ne o

    kept_some : (q : ℕ) → int_le (pos 0) (kept q) ≡ true
    kept_some q = go (is_low ws p q)
      where
        go : (b : Bool) → int_le (pos 0) (if b then pos (w q) else pos 0) ≡ true
        go true = zero_le (w q)
        go false = zero_le 0

    with_may : may_weigh may_add with_facts with_own ≡ true
    with_may =
        let first = may_weigh-append may_add (fixed top) (prefix_facts before) (fixed_by (pos 0) kept) (zeros before) (fixed-same (pos 0) kept) (fixed_may (pos 0) kept kept_some) (may_weigh-zeros may_add (prefix_facts before) before (omega (arith, length-map-range_with_len (absent_fact leaf) (top + 1) before))) in
        let out : may_weigh may_add (occurs_fact leaf p ∷ map (absent_fact leaf) company) (pos 0 ∷ map ruled company) ≡ true = may_weigh-eqs may_add (λ a row. refl) (λ q. row_of (absent_fact leaf q)) ruled company in
        let last : may_weigh may_add (alone_fact leaf p ∷ []) (neg_ℤ (own_worth ws p) ∷ []) ≡ true = ap (λ (b : Bool). b && true) (or-true (int_eq (neg_ℤ (own_worth ws p)) (pos 0))) in
        let second = may_weigh-append may_add (occurs_fact leaf p ∷ map (absent_fact leaf) company) (alone_fact leaf p ∷ []) (pos 0 ∷ map ruled company) (neg_ℤ (own_worth ws p) ∷ []) company-same out last in
        may_weigh-append may_add (fixed top ++ prefix_facts before) present_facts above_own present_own above-same first second

    with_own-is : IsOwn with_facts with_own
    with_own-is = record {
      may = with_may;
      inputs = λ i l. (let none = with_none i (λ q m e. omega (arith, e, l)) in omega (arith, ints, none));
      states = λ z l. (let sum = with_state z l in omega (arith, ints, sum));
      late = λ j. (let none = with_none (n + length leaf.states + j) (λ q m e. omega (arith, e, m, long)) in omega (arith, ints, none));
      last = (
          let sum = with_sum constant_of in
          let first = total-same (λ q. kept q *ℤ pos 1) kept (range_with_len 1 top) (λ q. times-one (kept q)) ∙ kept-total ws t top k is.chain p above below in
          let second = total-none (λ q. ruled q *ℤ pos 0) company (λ q. *ℤ-zero (ruled q)) in
          let third : (neg_ℤ (own_worth ws p) *ℤ negsuc 0) ≡ own_worth ws p = mul-neg (neg_ℤ (own_worth ws p)) (pos 1) ∙ ap neg_ℤ (times-one (neg_ℤ (own_worth ws p))) ∙ (let e : neg_ℤ (neg_ℤ (own_worth ws p)) ≡ own_worth ws p = omega (arith, ints) in e) in
          let next = no-more ws t top k is.chain (p + 1) (omega (arith, below)) in
          omega (arith, ints, sum, first, second, third, next));
    }

    pub with_closes : closes_by_sum (all_facts leaf pred says row constant with_facts) (terms_from 0 (with_mix leaf most ws k top p)) ≡ true
    with_closes = own_closes with_facts with_own with_own-is
