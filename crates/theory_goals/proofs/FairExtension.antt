-- Each finite execution of a net is the beginning of a fair one: it goes on by turns.
use Rattle.std.proofs.Common.{◌≡◌, ◌≢◌, ℕ, zero, suc, ◌<◌, ◌≤◌, List, [], ◌∷◌, length, get_or, map, refl, sym, subst, add-one, arith}
use Rattle.std.specs.Prelude.{slice_set, flat_map, All, Contains}
use Rattle.std.specs.List.Sorted.{IsPermutation}
use Rattle.std.proofs.lemmas.List.Elements.{All-get_or, All-map}
use Rattle.std.proofs.lemmas.List.Sorted.{IsPermutation-refl, All-permutation, length_permutation}
use Rattle.std.proofs.lemmas.Option.{slice_get_within, slice_get-get_or, get_or_from_slice_get}
use Rattle.pop_leaf.specs.NetModel.{NetModel, Tuple, CrowdModel, IsTuple, number_of_helpers}
use Rattle.pop_leaf.specs.InputCrowd.{IsInput, input_crowd}
use Rattle.pop_leaf.specs.Step.{TupleChange, Meets}
use Rattle.pop_leaf.specs.Reachable.{Leads}
use Rattle.pop_leaf.proofs.Quiet.{All-slice_get}
use Rattle.pop_net.proofs.Tuples.{meets_length, step_tuples, input_tuples}
use Rattle.theory_fair.specs.Executions.{OccursInfinitelyOften, IsExecution, IsFair}
use Rattle.theory_fair.specs.StablyComputes.{IsSameMap, IsSameMultiset, MultisetStep, IsExecutionFrom, Reacts}
use Rattle.theory_fair.specs.Synchronous.{AllReact}
use Rattle.theory_fair.specs.Extensions.{ExtendFairly}
use Rattle.theory_fair.proofs.Reached.{AreChanges, to_step, as_multisets, between, maps_fair, reacts_changes}
use Rattle.theory_fair.proofs.Synchronous.{react_changes}
use Rattle.theory_fair.proofs.Standing.{size_of_input}
use Rattle.theory_random.specs.RandomMeetings.{pairs}
use Rattle.theory_random.specs.Laws.{IsPair}
use Rattle.theory_random.proofs.Pairs.{all_pairs, has_pair}
use Rattle.theory_random.proofs.Listed.{all_flat, has_flat, at_contained}
use Rattle.base_laws.proofs.Lists.{has_map}
use Rattle.theory_goals.specs.AnyNet.{FairOfAllKinds}
use Rattle.theory_nets.proofs.Led.{own_changes}
use Rattle.theory_goals.proofs.SameCrowds.{same_crowds, crowds_tell}
use Rattle.theory_goals.proofs.Turns.{turns, turns_first, turns_one, comes, joined, joined_first, joined_runs, joined_begins, joined_fair}
use Rattle.theory_goals.proofs.Options.{IsListed, step_ways, steps_listed, synchronous_ways, synchronous_listed, meeting_ways, meetings_listed}

-- two agents or more, with one state for each leaf
abbrev IsFit : NetModel → CrowdModel → Type 0
IsFit net c = (2 ≤ length c) × All (IsTuple net) c

fit_input : (net : NetModel) (counts : List ℕ) (first : CrowdModel) → IsInput (length net.variables) (number_of_helpers net) counts → IsSameMultiset (input_crowd net counts) first → IsFit net first
fit_input net counts first input order =
    let size = length_permutation (input_crowd net counts) first order in
    ((let two : 2 ≤ length first = omega (arith, size, size_of_input net counts, input.two_agents) in two), All-permutation (IsTuple net) (input_crowd net counts) first order (input_tuples net counts))

module _ (net : NetModel) (Change : Tuple → Tuple → Tuple → Tuple → Type 0) (changes : AreChanges net Change) (ways : Tuple → Tuple → List (Tuple × Tuple)) (listed : IsListed net Change ways) where
  after : CrowdModel → ℕ × ℕ → Tuple × Tuple → CrowdModel
  after c p w = slice_set (slice_set c p.0 w.0) p.1 w.1

  of_pair : CrowdModel → ℕ × ℕ → List CrowdModel
  of_pair c p = map (after c p) (ways (get_or c p.0 []) (get_or c p.1 []))

  -- all crowds that a step can lead to
  nexts : CrowdModel → List CrowdModel
  nexts c = flat_map (of_pair c) (pairs (length c))

  step_by : (c : CrowdModel) (p : ℕ × ℕ) (w : Tuple × Tuple) → IsPair (length c) p → Change (get_or c p.0 []) (get_or c p.1 []) w.0 w.1 → Meets Change c (after c p w)
  unfolding after
  step_by c p w h change =
      record {
        a = p.0;
        b = p.1;
        different = h.0;
        x = get_or c p.0 [];
        y = get_or c p.1 [];
        x' = w.0;
        y' = w.1;
        a_had = slice_get-get_or c p.0 [] h.1;
        b_had = slice_get-get_or c p.1 [] h.2;
        change = change;
        others_stay = refl;
      }

  nexts_sound : (c : CrowdModel) → IsFit net c → All (Meets Change c) (nexts c)
  unfolding nexts of_pair
  nexts_sound c fit =
      all_flat (Meets Change c) (of_pair c) (pairs (length c))
      (λ k d l.
      let p = get_or (pairs (length c)) k d in
      let h = all_pairs (length c) k d l in
      let x = get_or c p.0 [] in
      let y = get_or c p.1 [] in
      let sound = listed.sound x y (All-get_or (IsTuple net) c p.0 [] h.1 fit.1) (All-get_or (IsTuple net) c p.1 [] h.2 fit.1) in
      All-map (Meets Change c) (after c p) (ways x y) (λ i e m. step_by c p (get_or (ways x y) i e) h (sound i e m)))

  nexts_complete : (c d : CrowdModel) → IsFit net c → Meets Change c d → Contains (nexts c) d
  unfolding nexts of_pair after
  nexts_complete c d fit s =
      let hx = All-slice_get (IsTuple net) c s.a s.x fit.1 s.a_had in
      let hy = All-slice_get (IsTuple net) c s.b s.y fit.1 s.b_had in
      let way : Contains (ways (get_or c s.a []) (get_or c s.b [])) (s.x', s.y') = rw (get_or_from_slice_get c s.a s.x [] s.a_had, get_or_from_slice_get c s.b s.y [] s.b_had) (listed.complete s.x s.y s.x' s.y' hx hy s.change) in
      has_flat (of_pair c) (pairs (length c)) (s.a, s.b) d
      (has_pair (length c) (s.a, s.b) (s.different, slice_get_within c s.a s.x s.a_had, slice_get_within c s.b s.y s.b_had))
      (subst (Contains (of_pair c (s.a, s.b))) (sym s.others_stay) (has_map (after c (s.a, s.b)) (ways (get_or c s.a []) (get_or c s.b [])) (s.x', s.y') way))

  nexts_some : (c : CrowdModel) → IsFit net c → 0 < length (nexts c)
  unfolding nexts of_pair
  nexts_some c fit =
      let two = fit.0 in
      let x = get_or c 0 [] in
      let y = get_or c 1 [] in
      let w = listed.some x y (All-get_or (IsTuple net) c 0 [] (omega (arith, two)) fit.1) (All-get_or (IsTuple net) c 1 [] (omega (arith, two)) fit.1) in
      let has = has_flat (of_pair c) (pairs (length c)) (0, 1) (after c (0, 1) w.0)
      (has_pair (length c) (0, 1) ((let ne : 0 ≢ 1 = λ e. omega (arith, e) in ne), omega (arith, two), omega (arith, two)))
      (has_map (after c (0, 1)) (ways x y) w.0 w.1) in
      let within = has.1 in
      omega (arith, within)

  fit_next : (c d : CrowdModel) → IsFit net c → Meets Change c d → IsFit net d
  fit_next c d fit s =
      let size = meets_length Change c d s in
      let two = fit.0 in
      ((let t : 2 ≤ length d = omega (arith, size, two) in t), step_tuples net c d fit.1 (to_step net Change changes c d fit.1 s))

  fit_permuted : (c d : CrowdModel) → IsFit net c → IsPermutation c d → IsFit net d
  fit_permuted c d fit order =
      let size = length_permutation c d order in
      let two = fit.0 in
      ((let t : 2 ≤ length d = omega (arith, size, two) in t), All-permutation (IsTuple net) c d order fit.1)

  fit_between : (c d : CrowdModel) → IsFit net c → MultisetStep (Meets Change) c d → IsFit net d
  fit_between c d fit s =
      fit_permuted s.after d (fit_next s.before s.after (fit_permuted c s.before fit s.starts) s.step) s.ends

  fit_along : (R : CrowdModel → CrowdModel → Type 0) → ((c d : CrowdModel) → IsFit net c → R c d → IsFit net d) → (c : CrowdModel) (path : List CrowdModel) (last : CrowdModel) → IsFit net c → Leads R c path last → IsFit net last
  fit_along R next c [] last fit way = subst (IsFit net) (sym way) fit
  fit_along R next c (d ∷ path) last fit way = fit_along R next d path last (next c d fit way.0) way.1

  -- ---- the execution by turns

  module _ (last : CrowdModel) (fit : IsFit net last) where
    pub on : ℕ → CrowdModel
    on = turns same_crowds crowds_tell nexts last

    on_first : on 0 ≡ last
    unfolding on
    on_first = turns_first same_crowds crowds_tell nexts last

    on_next : (i : ℕ) → IsFit net (on i) → Meets Change (on i) (on (suc i))
    unfolding on
    on_next i here =
        at_contained (Meets Change (on i)) (nexts (on i)) (on (suc i)) (nexts_sound (on i) here)
        (turns_one same_crowds crowds_tell nexts last i (nexts_some (on i) here))

    on_fit : (i : ℕ) → IsFit net (on i)
    on_fit zero = subst (IsFit net) (sym on_first) fit
    on_fit (suc i) = let here = on_fit i in fit_next (on i) (on (suc i)) here (on_next i here)

    on_runs : (i : ℕ) → Meets Change (on i) (on (suc i))
    on_runs i = on_next i (on_fit i)

    on_fair : (c d : CrowdModel) → Meets Change c d → OccursInfinitelyOften IsSameMap on c → OccursInfinitelyOften IsSameMap on d
    unfolding on
    on_fair c d s often i none =
        often 0
        (λ (j, l, h). comes same_crowds crowds_tell nexts last c often d (nexts_complete c d (subst (IsFit net) h (on_fit j)) s) i none)

  extend : ExtendFairly (Meets Change) net
  extend =
      record {
        of_maps = λ counts first path last input start way.
            let fit_first : IsFit net first = subst (IsFit net) start (fit_input net counts (input_crowd net counts) input (IsPermutation-refl (input_crowd net counts))) in
            let fit = fit_along (Meets Change) fit_next first path last fit_first way in
            record {
              crowds = joined first path (on last fit);
              runs = (
                subst (λ c. IsSameMap (input_crowd net counts) c) (sym (joined_first (on last fit) (Meets Change) first path last way (on_first last fit))) start,
                λ i. subst (λ k. Meets Change (joined first path (on last fit) i) (joined first path (on last fit) k)) (sym (add-one i)) (joined_runs (on last fit) (Meets Change) first path last way (on_first last fit) (on_runs last fit) i),
              );
              fair = joined_fair (on last fit) (Meets Change) first path (on_fair last fit);
              begins = joined_begins (on last fit) (Meets Change) first path last way (on_first last fit);
            };
        of_multisets = λ counts first path last input start way.
            let fit = fit_along (MultisetStep (Meets Change)) fit_between first path last (fit_input net counts first input start) way in
            let here : IsSameMultiset (input_crowd net counts) (joined first path (on last fit) 0) = subst (λ c. IsSameMultiset (input_crowd net counts) c) (sym (joined_first (on last fit) (MultisetStep (Meets Change)) first path last way (on_first last fit))) start in
            let run : IsExecution (MultisetStep (Meets Change)) (joined first path (on last fit)) = λ i. subst (λ k. MultisetStep (Meets Change) (joined first path (on last fit) i) (joined first path (on last fit) k)) (sym (add-one i)) (joined_runs (on last fit) (MultisetStep (Meets Change)) first path last way (on_first last fit) (λ j. as_multisets net Change changes counts (on last fit j) (on last fit (suc j)) (on_runs last fit j)) i) in
            record {
              crowds = joined first path (on last fit);
              runs = (here, run);
              fair = maps_fair net Change changes counts (joined first path (on last fit)) here run (joined_fair (on last fit) (Meets Change) first path (on_fair last fit));
              begins = joined_begins (on last fit) (MultisetStep (Meets Change)) first path last way (on_first last fit);
            };
      }

-- a fair execution of maps is one of multisets
any_maps : (net : NetModel) (Change : Tuple → Tuple → Tuple → Tuple → Type 0) → AreChanges net Change → (counts : List ℕ) (e : ℕ → CrowdModel) → IsExecutionFrom IsSameMultiset (Meets Change) net counts e → IsFair IsSameMap (Meets Change) e → IsFair IsSameMultiset (MultisetStep (Meets Change)) e
any_maps net Change changes counts e run fair = maps_fair net Change changes counts e run.0 (between e run.1) fair

pub all_kinds : FairOfAllKinds
all_kinds = record {
  steps = record {
    extend = λ net. extend net (TupleChange net) (own_changes net) (step_ways net) (steps_listed net);
    maps = λ net counts e input run fair. any_maps net (TupleChange net) (own_changes net) counts e run fair;
  };
  synchronous = record {
    extend = λ net. extend net (AllReact net) (react_changes net) (synchronous_ways net) (synchronous_listed net);
    maps = λ net counts e input run fair. any_maps net (AllReact net) (react_changes net) counts e run fair;
  };
  meetings = record {
    extend = λ net. extend net (Reacts net) (reacts_changes net) (meeting_ways net) (meetings_listed net);
    maps = λ net counts e input run fair. any_maps net (Reacts net) (reacts_changes net) counts e run fair;
  };
}
