-- If few meetings can always lead the outputs to rest, uniformly random meetings do so with probability 1.
use Rattle.std.proofs.Common.{◌≡◌, ℕ, suc, ◌-◌, ◌*◌, ◌^◌, ◌<◌, ◌≤◌, Bool, List, [], ◌∷◌, ◌++◌, length, get_or, refl, ap, sym, subst, ◌∙◌, arith}
use Rattle.std.specs.Prelude.{slice_set, All, Contains}
use Rattle.std.proofs.lemmas.List.Elements.{All-nil, All-cons}
use Rattle.std.proofs.lemmas.Option.{slice_get_within, get_or_from_slice_get}
use Rattle.pres_ast.specs.PredTree.{PredTree}
use Rattle.pres_ast.specs.PredicateValue.{predicate_value}
use Rattle.pop_leaf.specs.NetModel.{NetModel, CrowdModel, number_of_helpers}
use Rattle.pop_leaf.specs.InputCrowd.{IsInput, input_crowd}
use Rattle.pop_leaf.specs.Step.{TupleChange, Step}
use Rattle.pop_leaf.specs.Reachable.{Leads, Reachable}
use Rattle.pop_leaf.specs.Reaction.{reaction}
use Rattle.pop_net.proofs.Tuples.{meets_length, leads_length, reachable_tuples, input_tuples}
use Rattle.theory_fair.specs.StablyComputes.{Reacts, MeetingStep}
use Rattle.theory_fair.proofs.Reached.{leads_one_more}
use Rattle.theory_fair.proofs.Standing.{size_of_input}
use Rattle.theory_random.specs.UniformRuns.{after_run}
use Rattle.theory_random.specs.RandomMeetings.{pairs, runs, run_count, meet}
use Rattle.theory_random.specs.Laws.{IsPair}
use Rattle.theory_random.proofs.Sums.{length_lists}
use Rattle.theory_random.proofs.Powers.{pow_many}
use Rattle.theory_random.proofs.Pairs.{has_pair, pair_count}
use Rattle.theory_random.proofs.Listed.{IsOf, all_of, at_contained}
use Rattle.theory_random.proofs.Settled.{meets_step}
use Rattle.theory_goals.specs.OutputStable.{IsOutputStable, ComesToOutput}
use Rattle.theory_goals.specs.AlmostSurely.{AllBut, sum_of_shares, LeadsToOutput, RestsAlmostSurely, RestAlmostSurely}
use Rattle.theory_goals.proofs.Exceptions.{Most, tail, vanishes, expected}

-- a step by a meeting is the meeting of its pair
met_by : (net : NetModel) (c d : CrowdModel) (s : MeetingStep net c d) → meet net (s.a, s.b) c ≡ d
met_by net c d s =
    sym
    (s.others_stay
    ∙ ap (λ x. slice_set (slice_set c s.a x) s.b s.y') s.change.0
    ∙ ap (λ y. slice_set (slice_set c s.a (reaction net s.x s.y).0) s.b y) s.change.1
    ∙ ap (λ x. slice_set (slice_set c s.a (reaction net x s.y).0) s.b (reaction net x s.y).1) (sym (get_or_from_slice_get c s.a s.x [] s.a_had))
    ∙ ap (λ y. slice_set (slice_set c s.a (reaction net (get_or c s.a []) y).0) s.b (reaction net (get_or c s.a []) y).1) (sym (get_or_from_slice_get c s.b s.y [] s.b_had)))

-- a way of meetings is a run of pairs
record RunOf (net : NetModel) (c end : CrowdModel) (k : ℕ) : Type 0 where
  run : List (ℕ × ℕ)
  pairs_are : All (IsPair (length c)) run
  long : length run ≡ k
  leads : after_run (meet net) run c ≡ end

run_of : (net : NetModel) (c : CrowdModel) (path : List CrowdModel) (end : CrowdModel) → Leads (MeetingStep net) c path end → RunOf net c end (length path)
run_of net c [] end way = record { run = []; pairs_are = All-nil (IsPair (length c)); long = refl; leads = sym way }
run_of net c (next ∷ path) end way =
    let s = way.0 in
    let more = run_of net next path end way.1 in
    let size = meets_length (Reacts net) c next s in
    record {
      run = (s.a, s.b) ∷ more.run;
      pairs_are = All-cons (IsPair (length c)) (s.a, s.b) more.run (s.different, slice_get_within c s.a s.x s.a_had, slice_get_within c s.b s.y s.b_had) (subst (λ n. All (IsPair n) more.run) size more.pairs_are);
      long = ap suc more.long;
      leads = ap (after_run (meet net) more.run) (met_by net c next s) ∙ more.leads;
    }

module _ (net : NetModel) (value : Bool) (counts : List ℕ) (n : ℕ) where
  -- a crowd of n agents on the way
  abbrev IsOnWay : CrowdModel → Type 0
  IsOnWay c = (length c ≡ n) × Reachable (Step net) (input_crowd net counts) c

  met : (p : ℕ × ℕ) → Contains (pairs n) p → (c : CrowdModel) → IsOnWay c → Step net c (meet net p c)
  met p has c h =
      meets_step net c (reachable_tuples net (input_crowd net counts) c (input_tuples net counts) h.1) p (subst (λ m. Contains (pairs m) p) (sym h.0) has)

  keeps : (p : ℕ × ℕ) → Contains (pairs n) p → (c : CrowdModel) → IsOnWay c → IsOnWay (meet net p c)
  keeps p has c h =
      let s = met p has c h in (
        meets_length (TupleChange net) c (meet net p c) s ∙ h.0,
        (h.1.0 ++ meet net p c ∷ [], leads_one_more (Step net) (input_crowd net counts) h.1.0 c (meet net p c) h.1.1 s),
      )

  stays : (p : ℕ × ℕ) → Contains (pairs n) p → (c : CrowdModel) → IsOnWay c → IsOutputStable net value c → IsOutputStable net value (meet net p c)
  stays p has c h stable later r = stable later (meet net p c ∷ r.0, (met p has c h, r.1))

module _ (net : NetModel) (tree : PredTree) (k : ℕ) (come : ComesToOutput (MeetingStep net) net tree k) (counts : List ℕ) (crowd : CrowdModel) (input : IsInput (length net.variables) (number_of_helpers net) counts) (reached : Reachable (Step net) (input_crowd net counts) crowd) where
  value : Bool
  value = predicate_value tree counts

  n : ℕ
  n = length crowd

  some : 0 < length (pairs n)
  unfolding n
  some =
      let size = leads_length (TupleChange net) (input_crowd net counts) reached.0 crowd reached.1 in
      let two : 2 ≤ length crowd = omega (arith, size, size_of_input net counts, input.two_agents) in
      let has = has_pair (length crowd) (0, 1) ((λ e. omega (arith, e)), (omega (arith, two)), (omega (arith, two))) in
      let within = has.1 in
      omega (arith, within)

  leads : (c : CrowdModel) → IsOnWay net value counts n c → (run : List (ℕ × ℕ)) × All (Contains (pairs n)) run × (length run ≤ k * n) × IsOutputStable net value (after_run (meet net) run c)
  unfolding value
  leads c h =
      let to = come counts c input h.1 in
      let r = run_of net c to.2.0 to.0 to.2.2 in
      let are = r.pairs_are in
      let long = r.long in
      let short = to.2.1 in
      let same : k * length c ≡ k * n = ap (λ m. k * m) h.0 in (
        r.run,
        λ i d l. has_pair n (get_or r.run i d) (subst (λ m. IsPair m (get_or r.run i d)) h.0 (are i d l)),
        omega (arith, long, short, same),
        subst (IsOutputStable net value) (sym r.leads) to.1,
      )

  abbrev MostRuns : ℕ → ℕ → Type 0
  MostRuns l q = Most (pairs n) (meet net) (IsOnWay net value counts n) (IsOutputStable net value) (keeps net value counts n) (stays net value counts n) l crowd q

  all_but : (l q : ℕ) → MostRuns l q → AllBut q (runs n l) (LeadsToOutput net value crowd)
  all_but l q most =
      record {
        others = most.others;
        few = most.few;
        rest = λ run has. most.rest run (at_contained (IsOf (pairs n) l) (runs n l) run (all_of (pairs n) l) has);
      }

  here : IsOnWay net value counts n crowd
  unfolding n
  here = (refl, reached)

  rests : RestsAlmostSurely net (predicate_value tree counts) k crowd
  unfolding value n
  rests =
      let w = k * length crowd in
      let keep = keeps net value counts n in
      let stay = stays net value counts n in
      record {
        count = λ m. length_lists (pairs n) (m * w) ∙ ap (λ q. q ^ (m * w)) (pair_count n) ∙ pow_many (n * (n - 1)) m w;
        tail = λ m. subst (λ q. AllBut ((q ^ w - 1) ^ m) (runs n (m * w)) (LeadsToOutput net value crowd)) (pair_count n)
            (all_but (m * w) ((length (pairs n) ^ w - 1) ^ m) (tail (pairs n) (meet net) (IsOnWay net value counts n) (IsOutputStable net value) keep stay some w leads m crowd here));
        expected =
            let x = expected (pairs n) (meet net) (IsOnWay net value counts n) (IsOutputStable net value) keep stay some w leads crowd here in (
              x.0,
              λ i. all_but i (x.0 i) (x.1 i),
              λ l. subst (λ q. sum_of_shares x.0 (length (pairs n)) l ≤ w * run_count k n * q) (sym (length_lists (pairs n) l))
                  (subst (λ q. sum_of_shares x.0 (length (pairs n)) l ≤ w * q ^ w * length (pairs n) ^ l) (pair_count n) (x.2 l)),
            );
        vanishes = λ e l long.
            let v = vanishes (pairs n) (meet net) (IsOnWay net value counts n) (IsOutputStable net value) keep stay some w leads e l (subst (λ q. e * q ^ w * w ≤ l) (sym (pair_count n)) long) crowd here in
            (v.0, subst (λ q. v.0 * e < q) (sym (length_lists (pairs n) l)) v.1, all_but l v.0 v.2);
      }

pub rest_randomly : (net : NetModel) (tree : PredTree) (k : ℕ) → ComesToOutput (MeetingStep net) net tree k → RestAlmostSurely net tree k
rest_randomly net tree k come counts crowd input reached = rests net tree k come counts crowd input reached
