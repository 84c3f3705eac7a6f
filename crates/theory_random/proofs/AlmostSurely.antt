-- A net whose crowds at most k meetings per agent lead to a right end computes its predicate almost surely.
use Rattle.std.proofs.Common.{◌⊎◌, inl, inr, Bool, false, ◌≡◌, ◌≢◌, ℕ, ◌+◌, ◌-◌, ◌*◌, ◌^◌, ◌<◌, ◌≤◌, true, List, [], ◌∷◌, ◌++◌, length, get_or, refl, ap, sym, subst, ◌∙◌, arith}
use Rattle.std.specs.Prelude.{sum, map, All, Contains}
use Rattle.std.specs.List.{range_with_len}
use Rattle.std.proofs.lemmas.List.{length-append, length-map}
use Rattle.std.proofs.lemmas.List.FromFn.{length-range_with_len}
use Rattle.std.proofs.lemmas.List.Elements.{All-head, All-tail}
use Rattle.pres_ast.specs.PredTree.{PredTree}
use Rattle.pres_ast.specs.PredicateValue.{predicate_value}
use Rattle.pop_leaf.specs.NetModel.{NetModel, CrowdModel, IsTuple, number_of_helpers}
use Rattle.pop_leaf.specs.InputCrowd.{IsInput, input_crowd, starts_from, start_of, helper_of}
use Rattle.pop_leaf.specs.Step.{TupleChange, Step}
use Rattle.pop_leaf.specs.Reachable.{Leads, Reachable}
use Rattle.pop_leaf.specs.Terminal.{IsTerminal}
use Rattle.pop_net.proofs.Tuples.{leads_length, reachable_tuples, input_tuples, length-starts_from}
use Rattle.pop_crowd.proofs.Reached.{length-after_meeting}
use Rattle.theory_random.specs.UniformRuns.{after_run}
use Rattle.std.proofs.Math.Nat as nat
use Rattle.theory_random.specs.RandomMeetings.{cubic, pairs, runs, run_count, meet, is_settled, unsettled, total_time}
use Rattle.theory_random.specs.ComputesAlmostSurely.{TellsSettled, SettlesAlmostSurely, SettlesInCubicTime}
use Rattle.theory_random.specs.Laws.{FallsByPairs, FallingIsCubic, IsPair, EndsByPairs, RandomMeetingsCompute}
use Rattle.theory_random.proofs.Sums.{length_lists}
use Rattle.theory_random.proofs.Powers.{pow_many}
use Rattle.theory_random.proofs.Chance.{tail, vanishes, expected, fails_spent, soon}
use Rattle.theory_random.proofs.Pairs.{all_pairs, has_pair, pair_count}
use Rattle.theory_random.proofs.Listed.{at_contained}
use Rattle.theory_random.proofs.Settled.{settled_tells, meets_step}

one_more : {A : Type 0} (S : A → A → Type 0) (c : A) (path : List A) (d e : A) → Leads S c path d → S d e → Leads S c (path ++ e ∷ []) e
one_more S c [] d e way s = (subst (λ x. S x e) way s, refl)
one_more S c (next ∷ path) d e way s = (way.0, one_more S next path d e way.1 s)

size_of_input : (net : NetModel) (counts : List ℕ) → length (input_crowd net counts) ≡ sum counts + number_of_helpers net
size_of_input net counts =
    length-append (starts_from (start_of net) 0 counts) (map (helper_of net) (range_with_len 0 (number_of_helpers net)))
    ∙ ap (λ n. n + length (map (helper_of net) (range_with_len 0 (number_of_helpers net)))) (length-starts_from (start_of net) 0 counts)
    ∙ ap (λ n. sum counts + n) (length-map (range_with_len 0 (number_of_helpers net)) (helper_of net) ∙ length-range_with_len 0 (number_of_helpers net))

module _ (net : NetModel) (value : Bool) (counts : List ℕ) where
  -- a crowd of n agents on the way
  abbrev IsOnWay : ℕ → CrowdModel → Type 0
  IsOnWay n c = (length c ≡ n) × Reachable (Step net) (input_crowd net counts) c

  tuples_of : (n : ℕ) (c : CrowdModel) → IsOnWay n c → All (IsTuple net) c
  tuples_of n c h = reachable_tuples net (input_crowd net counts) c (input_tuples net counts) h.1

  met : (n : ℕ) (p : ℕ × ℕ) → Contains (pairs n) p → (c : CrowdModel) → IsOnWay n c → Step net c (meet net p c)
  met n p has c h = meets_step net c (tuples_of n c h) p (subst (λ m. Contains (pairs m) p) (sym h.0) has)

  keeps : (n : ℕ) (p : ℕ × ℕ) → Contains (pairs n) p → (c : CrowdModel) → IsOnWay n c → IsOnWay n (meet net p c)
  keeps n p has c h = (
    length-after_meeting net p.0 p.1 c ∙ h.0,
    (h.1.0 ++ meet net p c ∷ [], one_more (Step net) (input_crowd net counts) h.1.0 c (meet net p c) h.1.1 (met n p has c h)),
  )

  still : (n : ℕ) (p : ℕ × ℕ) → Contains (pairs n) p → (c : CrowdModel) → IsOnWay n c → is_settled net value c ≡ true → meet net p c ≡ c
  still n p has c h e = ((settled_tells net c (tuples_of n c h) value).0 e).0 (meet net p c) (met n p has c h)

  stays : (n : ℕ) (p : ℕ × ℕ) → Contains (pairs n) p → (c : CrowdModel) → IsOnWay n c → is_settled net value c ≡ true → is_settled net value (meet net p c) ≡ true
  stays n p has c h e = subst (λ x. is_settled net value x ≡ true) (sym (still n p has c h e)) e

  run_keeps : (n : ℕ) (run : List (ℕ × ℕ)) → All (Contains (pairs n)) run → (c : CrowdModel) → IsOnWay n c → IsOnWay n (after_run (meet net) run c)
  run_keeps n [] all c h = h
  run_keeps n (p ∷ run) all c h =
      run_keeps n run (All-tail (Contains (pairs n)) p run all) (meet net p c) (keeps n p (All-head (Contains (pairs n)) p run all) c h)

  test_tells : (crowd : CrowdModel) → Reachable (Step net) (input_crowd net counts) crowd → TellsSettled net value crowd
  test_tells crowd r =
      record {
        settled = settled_tells net crowd (tuples_of (length crowd) crowd (refl, r)) value;
        stays = λ p has e. still (length crowd) p has crowd (refl, r) e;
      }

  some : IsInput (length net.variables) (number_of_helpers net) counts → (crowd : CrowdModel) → Reachable (Step net) (input_crowd net counts) crowd → 0 < length (pairs (length crowd))
  some input crowd r =
      let size = leads_length (TupleChange net) (input_crowd net counts) r.0 crowd r.1 in
      let two : 2 ≤ length crowd = omega (arith, size, size_of_input net counts, input.two_agents) in
      let has = has_pair (length crowd) (0, 1) ((λ e. omega (arith, e)), (omega (arith, two)), (omega (arith, two))) in
      let within = has.1 in
      omega (arith, within)

module _ (net : NetModel) (tree : PredTree) (k : ℕ) (counts : List ℕ) (ends : (crowd : CrowdModel) → Reachable (Step net) (input_crowd net counts) crowd → EndsByPairs net tree k counts crowd) where
  brought : (n : ℕ) (c : CrowdModel) → IsOnWay net (predicate_value tree counts) counts n c → (run : List (ℕ × ℕ)) × All (Contains (pairs n)) run × (length run ≤ k * n) × (is_settled net (predicate_value tree counts) (after_run (meet net) run c) ≡ true)
  brought n c h =
      let to = (ends c h.1).ends in
      let all : All (Contains (pairs n)) to.0 = λ i d l. has_pair n (get_or to.0 i d) (subst (λ m. IsPair m (get_or to.0 i d)) h.0 (to.1 i d l)) in
      let end = after_run (meet net) to.0 c in
      let there = run_keeps net (predicate_value tree counts) counts n to.0 all c h in (
        to.0,
        all,
        subst (λ m. length to.0 ≤ k * m) h.0 to.2,
        (settled_tells net end (tuples_of net (predicate_value tree counts) counts n end there) (predicate_value tree counts)).1 (to.3, (ends end there.1).right to.3),
      )

  settles : IsInput (length net.variables) (number_of_helpers net) counts → (crowd : CrowdModel) → Reachable (Step net) (input_crowd net counts) crowd → SettlesAlmostSurely net (predicate_value tree counts) k crowd
  settles input crowd r =
      let value = predicate_value tree counts in
      let n = length crowd in
      let w = k * length crowd in
      let made = meet net in
      let ended = is_settled net value in
      let here : IsOnWay net (predicate_value tree counts) counts (length crowd) crowd = (refl, r) in
      let way = IsOnWay net value counts n in
      let keep = keeps net value counts n in
      let stay = stays net value counts n in
      let there = some net value counts input crowd r in
      record {
        test = test_tells net value counts crowd r;
        count = λ m. length_lists (pairs n) (m * w) ∙ ap (λ q. q ^ (m * w)) (pair_count n) ∙ pow_many (n * (n - 1)) m w;
        tail = λ m. subst (λ q. unsettled net value (m * w) crowd ≤ (q ^ w - 1) ^ m) (pair_count n)
            (tail (pairs n) made ended way keep stay there w (brought n) m crowd here);
        vanishes = λ e l long. subst (λ q. unsettled net value l crowd * e < q) (sym (length_lists (pairs n) l))
            (vanishes (pairs n) made ended way keep stay there w (brought n) e l (subst (λ q. e * q ^ w * w ≤ l) (sym (pair_count n)) long) crowd here);
        expected = λ l. subst (λ q. total_time net value l crowd ≤ w * run_count k n * q) (sym (length_lists (pairs n) l))
            (subst (λ q. total_time net value l crowd ≤ w * q ^ w * length (pairs n) ^ l) (pair_count n)
            (expected (pairs n) made ended way keep stay there w (brought n) l crowd here));
      }

pub compute : RandomMeetingsCompute
compute net tree k ends counts crowd input r =
    settles net tree k counts (λ c way. ends counts c input way) input crowd r

-- ---- where a height falls

module _ (net : NetModel) (tree : PredTree) (k : ℕ) (height : CrowdModel → ℕ) (counts : List ℕ) (low : (crowd : CrowdModel) → Reachable (Step net) (input_crowd net counts) crowd → FallsByPairs net tree k height counts crowd) where
  never_raised : (n : ℕ) (p : ℕ × ℕ) → Contains (pairs n) p → (c : CrowdModel) → IsOnWay net (predicate_value tree counts) counts n c → height (meet net p c) ≤ height c
  never_raised n p has c h =
      (low c h.1).falls p (at_contained (IsPair (length c)) (pairs (length c)) p (all_pairs (length c)) (subst (λ m. Contains (pairs m) p) (sym h.0) has))

  then_lowered : (n : ℕ) (c : CrowdModel) → IsOnWay net (predicate_value tree counts) counts n c → is_settled net (predicate_value tree counts) c ≡ false → (p q : ℕ × ℕ) × (p ≢ q) × Contains (pairs n) p × Contains (pairs n) q × (height (meet net p c) < height c) × (height (meet net q c) < height c)
  then_lowered n c h e = go (low c h.1).lowered
    where
      go : IsTerminal (Step net) c ⊎ ((p : ℕ × ℕ) × IsPair (length c) p × (height (meet net p c) < height c) × (height (meet net (p.1, p.0) c) < height c)) → (p q : ℕ × ℕ) × (p ≢ q) × Contains (pairs n) p × Contains (pairs n) q × (height (meet net p c) < height c) × (height (meet net q c) < height c)
      go (inr low) =
          let pair = low.1 in
          let turned : IsPair (length c) (low.0.1, low.0.0) = ((λ e. pair.0 (sym e)), pair.2, pair.1) in (
            low.0,
            (low.0.1, low.0.0),
            (λ e. pair.0 (ap (λ (p : ℕ × ℕ). p.0) e)),
            subst (λ m. Contains (pairs m) low.0) h.0 (has_pair (length c) low.0 pair),
            subst (λ m. Contains (pairs m) (low.0.1, low.0.0)) h.0 (has_pair (length c) (low.0.1, low.0.0) turned),
            low.2,
            low.3,
          )
      go (inl terminal) =
          let yes = (settled_tells net c (tuples_of net (predicate_value tree counts) counts n c h) (predicate_value tree counts)).1 (terminal, (low c h.1).right terminal) in
          absurd (let f : true ≡ false = sym yes ∙ e in cc)

  cubic_from : (crowd : CrowdModel) → Reachable (Step net) (input_crowd net counts) crowd → SettlesInCubicTime net (predicate_value tree counts) k crowd
  cubic_from crowd r =
      let value = predicate_value tree counts in
      let n = length crowd in
      record {
        test = test_tells net value counts crowd r;
        expected = counted;
        tail = λ l. nat.le_trans (nat.mul-le-mul_left 2 (fails_spent (pairs n) (meet net) (is_settled net value) (IsOnWay net value counts n) (keeps net value counts n) (stays net value counts n) l crowd (refl, r))) (counted l);
      }
    where
      quick : (l : ℕ) → 2 * total_time net (predicate_value tree counts) l crowd ≤ cubic k (length crowd) * length (pairs (length crowd)) ^ l
      quick l =
          let n = length crowd in
          let few = soon (pairs n) (meet net) (is_settled net (predicate_value tree counts)) (IsOnWay net (predicate_value tree counts) counts n) (keeps net (predicate_value tree counts) counts n) (stays net (predicate_value tree counts) counts n) height (never_raised n) (then_lowered n) l crowd (refl, r) in
          let scaled : height crowd * length (pairs n) ≤ k * n * length (pairs n) = nat.mul-le-mul_right (length (pairs n)) (low crowd r).low in
          let counted : height crowd * length (pairs n) ≤ cubic k n = subst (λ q. height crowd * length (pairs n) ≤ k * n * q) (pair_count n) scaled in
          nat.le_trans few (nat.mul-le-mul_right (length (pairs n) ^ l) counted)

      counted : (l : ℕ) → 2 * total_time net (predicate_value tree counts) l crowd ≤ cubic k (length crowd) * length (runs (length crowd) l)
      counted l =
          subst (λ q. 2 * total_time net (predicate_value tree counts) l crowd ≤ cubic k (length crowd) * q) (sym (length_lists (pairs (length crowd)) l)) (quick l)

pub cubic_time : FallingIsCubic
cubic_time net tree k height low counts crowd input r =
    cubic_from net tree k height counts (λ c way. low counts c input way) crowd r
