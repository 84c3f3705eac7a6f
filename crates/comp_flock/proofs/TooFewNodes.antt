-- The node of the first full agent closes, and how many moves take a full one.
use Rattle.std.proofs.Common.{◌≡◌, ◌⊎◌, ◌∙◌, inl, inr, subst, ℕ, ◌+◌, ◌<◌, ◌≤◌, Bool, true, false, ◌&&◌, List, [], ◌∷◌, length, map, get_or, refl, ap, arith}
use Rattle.std.specs.Prelude.{ℤ, pos, neg_ℤ, ◌+ℤ◌, ◌-ℤ◌, ◌*ℤ◌, ◌≤ℤ◌, if◌then◌else◌, ◌==◌, not, All, nat_abs, flat_map, ◌||◌}
use Rattle.std.specs.List.{range_with_len}
use Rattle.std.specs.Ordering.{int_eq}
use Rattle.std.proofs.lemmas.Int.{ints}
use Rattle.std.proofs.Math.IntN.{*ℤ-zero, zero-*ℤ}
use Rattle.std.proofs.lemmas.Bool.{cases_lt, eq-eqb, ne_eqb}
use Rattle.std.proofs.Math.Bool.{and-false}
use Rattle.std.proofs.lemmas.List.{length-map}
use Rattle.std.proofs.lemmas.List.Elements.{All-get_or, All-from_get_or}
use Rattle.std.proofs.lemmas.List.FromFn.{length-range_with_len, length-map-range_with_len}
use Rattle.pop_leaf.specs.declared.leaf.Move.{Move}
use Rattle.pop_leaf.specs.LeafModel.{LeafModel}
use Rattle.pres_ast.specs.PredModel.{PredModel}
use Rattle.cert_base.specs.declared.fact.Fact.{Fact}
use Rattle.cert_base.specs.declared.fact.Fact.TheVariants.{Eq}
use Rattle.cert_base.specs.Rows.{terms_from, single_row, move_variable}
use Rattle.cert_base.specs.ClosingTests.{closes_by_sum, may_add}
use Rattle.cert_base.specs.FactsAndCases.{indicator, is_in, takes_from, puts_into, places_from, some_taken_fact, no_moves}
use Rattle.cert_base.specs.WeightedSums.{sum_of_facts, coefficient, constant_of, may_weigh}
use Rattle.cert_base.proofs.FlowSums.{times-one, mul-neg, one-times}
use Rattle.comp_trees.specs.LeaderTree.{mix_over}
use Rattle.comp_trees.proofs.LeaderEnds.{is_wrong}
use Rattle.comp_trees.proofs.TrapNodes.{places-all}
use Rattle.comp_trees.proofs.Mixes.{all_facts, IsLow, mix_closes}
use Rattle.comp_trees.proofs.TakenMoves.{taken-before, taken-move, taken-past}
use Rattle.comp_counting.specs.FlockAtoms.{says_enough, enough_for, offset_pred_of}
use Rattle.comp_counting.specs.FullState.{flock_start, conversion_move}
use Rattle.comp_counting.proofs.Numbers.{zero_le}
use Rattle.comp_counting.proofs.Conversions.{all_conversions}
use Rattle.comp_counting.proofs.OwnFacts.{places-none}
use Rattle.comp_counting.proofs.Opened.{opened_row, opened_constant, too-few-constant}
use Rattle.comp_counting.proofs.FullNodes.{full, in-yes, in-no, or_yes, row-at, start-of}
use Rattle.comp_flock.specs.CountLeaf.{worth_in, full_move, join_move, moves_from, count_moves, count_state_name, count_leaf}
use Rattle.comp_flock.specs.CountProof.{lesser_worth, first_mix}
use Rattle.comp_flock.proofs.WorthLaws.{total-where}
use Rattle.comp_flock.proofs.Starts.{IsStart, start-at}
use Rattle.comp_flock.proofs.MoveLists.{all_moves, all_pairs}
use Rattle.comp_flock.proofs.Formed.{states-long}
use Rattle.comp_flock.specs.Covered.{IsCovered}
use Rattle.comp_flock.proofs.Covered.{is-plain, is-counting}

-- whether a move makes the first full one
abbrev pub joins : ℕ → Move → Bool
joins k t = puts_into (full k) t && not (takes_from (full k) t)

conversion-takes : (k q : ℕ) → takes_from (full k) (conversion_move k q) ≡ true
conversion-takes k q = let e = in-yes k in rw e refl

-- two states that are not full
pair-takes : (k p q r s : ℕ) → p ≤ k → q ≤ k → takes_from (full k) (record { p = p; q = q; r = r; s = s }) ≡ false
pair-takes k p q r s l m = let a = in-no k p (λ e. omega (arith, e, l)) in let b = in-no k q (λ e. omega (arith, e, m)) in rw (a, b) refl

module _ (coefs : List ℤ) (bound : ℤ) (keeps : Bool) (t most : ℕ) (ws : List ℕ) (top k : ℕ) (helpers : List ℕ) (is : IsCovered coefs bound keeps t most ws top k helpers) where
  -- the value that says that there are enough
  abbrev says : Bool
  says = says_enough bound

  -- how many are enough
  abbrev c : ℕ
  c = enough_for bound

  abbrev w : ℕ → ℕ
  w q = worth_in ws q

  abbrev leaf : LeafModel
  leaf = count_leaf coefs says c keeps t ws k helpers

  abbrev pred : PredModel
  pred = offset_pred_of coefs bound

  abbrev row : List ℤ
  row = opened_row coefs (not says)

  abbrev constant : ℤ
  constant = opened_constant bound (not says)

  abbrev n : ℕ
  n = length leaf.inputs

  long : length leaf.states ≡ k + 2
  long = states-long ws k

  abbrev below : ℕ → ℤ
  below = lesser_worth ws k

  below-full : below (k + 1) ≡ pos 0
  below-full = rw (eq-eqb (k + 1) (k + 1) refl) refl

  below-other : (q : ℕ) → q ≤ k → below q ≡ pos (w q)
  below-other q l = rw (ne_eqb q (k + 1) (λ e. omega (arith, e, l))) refl

  below-some : (q : ℕ) → pos 0 ≤ℤ below q
  below-some q = go (q == k + 1)
    where
      go : (b : Bool) → pos 0 ≤ℤ (if b then pos 0 else pos (w q))
      go true = omega (arith, ints)
      go false = omega (arith, ints)

  -- ---- the first full one

  abbrev pub first_facts : List Fact
  first_facts = some_taken_fact leaf (joins k) ∷ []

  abbrev enough : ℤ
  enough = pos t

  first_sum : (value : Fact → ℤ) → sum_of_facts value first_facts (enough ∷ []) ≡ (enough *ℤ value (some_taken_fact leaf (joins k)))
  first_sum value = omega (arith, ints)

  first_none : (x : ℕ) → coefficient x (some_taken_fact leaf (joins k)) ≡ pos 0 → sum_of_facts (coefficient x) first_facts (enough ∷ []) ≡ pos 0
  first_none x e = first_sum (coefficient x) ∙ ap (λ c. enough *ℤ c) e ∙ *ℤ-zero enough

  -- what a move loses, and what it counts for if it makes the first full one
  abbrev Loses : Move → Type 0
  Loses t = (((below t.r +ℤ below t.s) -ℤ (below t.p +ℤ below t.q)) +ℤ (enough *ℤ indicator (joins k t))) ≤ℤ pos 0

  first_moves : All Loses (count_moves keeps ws t k)
  first_moves = all_moves keeps ws t k Loses filling joining converting
    where
      filling : (p q : ℕ) → q ≤ p → p ≤ k → t ≤ w p + w q → Loses (full_move k p q)
      filling p q l m o =
          let takes = pair-takes k p q (k + 1) (k + 1) m (omega (arith, l, m)) in
          let puts : puts_into (full k) (full_move k p q) ≡ true = (let e = in-yes k in rw e refl) in
          let one : joins k (full_move k p q) ≡ true = rw (puts, takes) refl in
          let counts = ap (λ j. enough *ℤ indicator j) one ∙ times-one enough in
          let a = below-other p m in
          let b = below-other q (omega (arith, l, m)) in
          let f = below-full in
          omega (arith, ints, counts, a, b, f, o)

      joining : (p q : ℕ) → q ≤ p → p ≤ k → w p + w q ≡ w (p + 1) → Loses (join_move p q)
      joining p q l m e = go (cases_lt p k)
        where
          a : below p ≡ pos (w p)
          a = below-other p m

          b : below q ≡ pos (w q)
          b = below-other q (omega (arith, l, m))

          s : below 0 ≡ pos (w 0)
          s = below-other 0 (omega arith)

          go : (p < k) ⊎ (k ≤ p) → Loses (join_move p q)
          go (inl next) =
              let puts : puts_into (full k) (join_move p q) ≡ false = (let x = in-no k (p + 1) (λ e. omega (arith, e, next)) in let y = in-no k 0 (λ e. omega (arith, e)) in rw (x, y) refl) in
              let none : joins k (join_move p q) ≡ false = rw puts refl in
              let counts = ap (λ j. enough *ℤ indicator j) none ∙ *ℤ-zero enough in
              let r = below-other (p + 1) (omega (arith, next)) in
              let nothing = is.chain.nothing in
              omega (arith, ints, counts, a, b, r, s, nothing, e)
          go (inr last) =
              let same : p + 1 ≡ k + 1 = omega (arith, m, last) in
              let in_full : is_in (full k) (p + 1) ≡ true = rw (eq-eqb (k + 1) (p + 1) (omega (arith, same))) refl in
              let puts : puts_into (full k) (join_move p q) ≡ true = rw in_full refl in
              let takes = pair-takes k p q (p + 1) 0 m (omega (arith, l, m)) in
              let one : joins k (join_move p q) ≡ true = rw (puts, takes) refl in
              let counts = ap (λ j. enough *ℤ indicator j) one ∙ times-one enough in
              let r = ap below same ∙ below-full in
              let most = ap w same ∙ is.chain.last in
              let nothing = is.chain.nothing in
              omega (arith, ints, counts, a, b, r, s, nothing, e, most)

      converting : (q : ℕ) → q ≤ k → Loses (conversion_move k q)
      converting q l =
          let none : joins k (conversion_move k q) ≡ false = ap (λ (c : Bool). puts_into (full k) (conversion_move k q) && not c) (conversion-takes k q) ∙ and-false (puts_into (full k) (conversion_move k q)) in
          let counts = ap (λ j. enough *ℤ indicator j) none ∙ *ℤ-zero enough in
          let f = below-full in
          let some = below-some q in
          omega (arith, ints, counts, f, some)

  -- an agent is worth no less than its state
  below-start : (a : ℤ) (q : ℕ) → IsStart ws c k a q → below q ≤ℤ pos (nat_abs a)
  below-start a q (inl h) = let e = ap below h.0 ∙ below-full in omega (arith, ints, e)
  below-start a q (inr h) = let e = below-other q h.0 in let own = h.1 in omega (arith, ints, e, own)

  first_low : IsLow leaf pred (not says) row constant first_facts below (pos 0) (pos 1) (enough ∷ [])
  first_low = record {
    at_inputs = λ i l. (
        let a = get_or coefs i (pos 0) in
        let counting = is-counting coefs bound keeps t most ws top k helpers is in
        let names = map (count_state_name ws) (range_with_len 0 (k + 2)) in
        let first = ap below (start-of coefs bound k names (count_moves keeps ws t k) helpers counting i l) in
        let most = below-start a (flock_start c k a) (start-at ws c t top k is.chain is.reach says coefs i is.are (omega (arith, l, length-map coefs (flock_start c k)))) in
        let none = first_none i (taken-before leaf (joins k) i (omega (arith, l))) in
        let one = one-times (get_or row i (pos 0)) in
        let counts = row-at coefs bound k names (count_moves keeps ws t k) helpers counting i l in
        omega (arith, ints, first, most, none, one, counts));
    at_states = λ z l. (
        let none = first_none (n + z) (taken-before leaf (joins k) (n + z) (omega (arith, l))) in
        let right = zero-*ℤ (indicator (is_wrong leaf (not says) z)) in
        let high = below-some z in
        omega (arith, ints, none, right, high));
    at_moves = λ t d l. (
        let sum = first_sum (coefficient (n + length leaf.states + t)) in
        let here = ap (λ c. enough *ℤ c) (taken-move leaf (joins k) t d l) in
        let low = All-get_or Loses leaf.moves t d l first_moves in
        omega (arith, ints, sum, here, low));
    at_past = λ j. (let none = first_none (n + length leaf.states + (length leaf.moves + j)) (taken-past leaf (joins k) j) in omega (arith, ints, none));
    at_end = (
        let one = one-times constant in
        let least = too-few-constant bound in
        let sum : sum_of_facts constant_of first_facts (enough ∷ []) ≡ neg_ℤ enough = first_sum constant_of ∙ mul-neg enough (pos 1) ∙ ap neg_ℤ (times-one enough) in
        let helped = total-where below (λ q. pos (w q)) helpers (All-from_get_or (λ q. below q ≡ pos (w q)) helpers 0 (λ i l. below-other (get_or helpers i 0) (All-get_or (λ q. q ≤ k) helpers i 0 l is.low))) in
        let filled = is.filled in
        omega (arith, ints, one, least, sum, helped, filled));
  }

  first_may : may_weigh may_add first_facts (enough ∷ []) ≡ true
  first_may = ap (λ (b : Bool). (int_eq enough (pos 0) || b) && true) (zero_le t) ∙ or_yes (int_eq enough (pos 0))

  pub first_closes : closes_by_sum (all_facts leaf pred (not says) row constant first_facts) (terms_from 0 (first_mix ws t k)) ≡ true
  first_closes =
      subst (λ m. closes_by_sum (all_facts leaf pred (not says) row constant first_facts) (terms_from 0 (mix_over (map below (range_with_len 0 m)) (pos 0) (pos 1) (enough ∷ []))) ≡ true) long
      (mix_closes leaf pred (not says) row constant first_facts below (pos 0) (pos 1) (enough ∷ []) (is-plain coefs bound keeps t most ws top k helpers is (not says)) refl refl first_may first_low)

  -- ---- the moves that take a full one

  pub length-taken : length (no_moves leaf (takes_from (full k))) ≡ k + 1
  length-taken =
      length-map (places_from 0 (takes_from (full k)) leaf.moves) (λ t. Eq (single_row (move_variable leaf t) (pos 1) (pos 0)))
      ∙ ap length (places-none 0 (takes_from (full k)) pairs conversions (all_pairs keeps ws t k (λ t. takes_from (full k) t ≡ false) (λ p q l m o. pair-takes k p q (k + 1) (k + 1) m (omega (arith, l, m))) (λ p q l m e. pair-takes k p q (p + 1) 0 m (omega (arith, l, m)))))
      ∙ ap length (places-all (0 + length pairs) (takes_from (full k)) conversions (all_conversions k (λ t. takes_from (full k) t ≡ true) (λ q l. conversion-takes k q)))
      ∙ length-range_with_len (0 + length pairs) (length conversions)
      ∙ length-map-range_with_len (conversion_move k) 0 (k + 1)
    where
      pairs : List Move
      pairs = flat_map (moves_from keeps ws t k) (range_with_len 0 (k + 1))

      conversions : List Move
      conversions = map (conversion_move k) (range_with_len 0 (k + 1))
