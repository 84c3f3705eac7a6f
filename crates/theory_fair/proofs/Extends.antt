-- A finite execution is continued along a way to a terminal crowd, and stays there.
use Rattle.std.proofs.Common.{◌≡◌, ◌≢◌, ℕ, ◌+◌, ◌≤◌, List, [], ◌∷◌, ◌++◌, length, get_or, refl, sym, subst, add-one, arith}
use Rattle.std.specs.Prelude.{slice_set, All}
use Rattle.std.specs.List.Sorted.{IsPermutation}
use Rattle.std.proofs.lemmas.List.Sorted.{IsPermutation-refl, IsPermutation-sym, IsPermutation-trans, All-permutation}
use Rattle.std.proofs.lemmas.Option.{slice_get-get_or}
use Rattle.std.proofs.lemmas.List.Elements.{All-get_or}
use Rattle.pres_ast.specs.PredTree.{PredTree}
use Rattle.pop_leaf.specs.NetModel.{NetModel, Tuple, CrowdModel, IsTuple, number_of_helpers}
use Rattle.pop_leaf.specs.InputCrowd.{IsInput, input_crowd}
use Rattle.pop_leaf.specs.Step.{TupleChange, Meets, Step}
use Rattle.pop_leaf.specs.Reachable.{Leads, Reachable}
use Rattle.pop_leaf.specs.Terminal.{IsTerminal}
use Rattle.pop_leaf.specs.Reaction.{reaction}
use Rattle.pop_net.proofs.Permutations.{terminal_permuted}
use Rattle.pop_leaf.proofs.Reactions.{reaction_change}
use Rattle.theory_fair.specs.StablyComputes.{IsSameMap, IsSameMultiset, MultisetStep, Reacts}
use Rattle.theory_fair.specs.Synchronous.{AllReact}
use Rattle.theory_fair.specs.Extensions.{FairExtension, ExtendFairly}
use Rattle.theory_fair.specs.Laws.{EndsRight, AlwaysEndsRight, FiniteExecutionsExtend}
use Rattle.theory_fair.proofs.Reached.{leads_wider, AreChanges, IsReached, reached_length, tuples_of, first_reached, reached_along, Stands, next_stands, as_multisets, reacts_changes}
use Rattle.theory_fair.proofs.Stable.{ends_right, terminal_stays, still}
use Rattle.theory_fair.proofs.Standing.{follow, follow_first, follow_runs, follow_ends, follow_begins, size_of_input}
use Rattle.theory_fair.proofs.Synchronous.{reaction_reacts, react_changes}

leads_append : {A : Type 0} (S : A → A → Type 0) (c : A) (path : List A) (d : A) (more : List A) (e : A) → Leads S c path d → Leads S d more e → Leads S c (path ++ more) e
leads_append S c [] d more e way then = subst (λ x. Leads S x more e) way then
leads_append S c (next ∷ path) d more e way then = (way.0, leads_append S next path d more e way.1 then)

module _ (Same S : CrowdModel → CrowdModel → Type 0) (net : NetModel) (counts : List ℕ) where
  -- a way to a crowd that stays
  record Rest (last : CrowdModel) : Type 0 where
    more : List CrowdModel
    end : CrowdModel
    way : Leads S last more end
    stays : S end end
    still : (c d : CrowdModel) → Same end c → S c d → Same end d

  continued : (first : CrowdModel) (path : List CrowdModel) (last : CrowdModel) → Same (input_crowd net counts) first → Leads S first path last → Rest last → FairExtension Same S net counts (first ∷ path)
  continued first path last start way r =
      let whole = leads_append S first path last r.more r.end way r.way in
      record {
        crowds = follow first (path ++ r.more);
        runs = (
          subst (λ c. Same (input_crowd net counts) c) (sym (follow_first first (path ++ r.more))) start,
          λ i. subst (λ k. S (follow first (path ++ r.more) i) (follow first (path ++ r.more) k)) (sym (add-one i)) (follow_runs S first (path ++ r.more) r.end whole r.stays i),
        );
        fair = λ c d s often i none. often (i + length (path ++ r.more))
            (λ (j, l, h).
            let here = follow_ends S first (path ++ r.more) r.end whole j (omega (arith, l)) in
            let at : Same r.end c = subst (λ x. Same x c) here h in
            none (j, (let m : i ≤ j = omega (arith, l) in m), subst (λ x. Same x d) (sym here) (r.still c d at s)));
        begins = follow_begins first path r.more;
      }

-- two tuples that meet can change in some way
abbrev AreTotal : NetModel → (Tuple → Tuple → Tuple → Tuple → Type 0) → Type 0
AreTotal net Change = (x y : Tuple) → IsTuple net x → IsTuple net y → (x' : Tuple) × (y' : Tuple) × Change x y x' y'

module _ (net : NetModel) (tree : PredTree) (Change : Tuple → Tuple → Tuple → Tuple → Type 0) (changes : AreChanges net Change) (total : AreTotal net Change) where
  -- a terminal crowd can stay
  rests : (c : CrowdModel) → 2 ≤ length c → All (IsTuple net) c → IsTerminal (Step net) c → ((d : CrowdModel) → Meets Change c d → d ≡ c) → Meets Change c c
  rests c two tuples terminal back =
      let x = get_or c 0 [] in
      let y = get_or c 1 [] in
      let m = total x y (All-get_or (IsTuple net) c 0 [] (omega (arith, two)) tuples) (All-get_or (IsTuple net) c 1 [] (omega (arith, two)) tuples) in
      let next = slice_set (slice_set c 0 m.0) 1 m.1 in
      let step : Meets Change c next = record {
        a = 0;
        b = 1;
        different = (let ne : 0 ≢ 1 = λ e. omega (arith, e) in ne);
        x = x;
        y = y;
        x' = m.0;
        y' = m.1;
        a_had = slice_get-get_or c 0 [] (omega (arith, two));
        b_had = slice_get-get_or c 1 [] (omega (arith, two));
        change = m.2;
        others_stay = refl;
      } in
      subst (λ d. Meets Change c d) (back next step) step

  module _ (counts : List ℕ) (input : IsInput (length net.variables) (number_of_helpers net) counts) (ends : (crowd : CrowdModel) → Reachable (Step net) (input_crowd net counts) crowd → EndsRight (Meets Change) net tree counts crowd) where
    abbrev IsHere : CrowdModel → Type 0
    IsHere c = IsReached net Change changes counts c

    two_of : (c : CrowdModel) → IsHere c → 2 ≤ length c
    two_of c r =
        let size = reached_length net Change changes counts c r in
        omega (arith, size, size_of_input net counts, input.two_agents)

    back : (c : CrowdModel) → IsHere c → IsTerminal (Step net) c → (d : CrowdModel) → Meets Change c d → d ≡ c
    back c r terminal d s =
        terminal_stays net tree Change changes c d (tuples_of net Change changes counts c r) terminal s

    stay : (c : CrowdModel) → IsHere c → IsTerminal (Step net) c → Meets Change c c
    stay c r terminal =
        rests c (two_of c r) (tuples_of net Change changes counts c r) terminal (back c r terminal)

    -- the way from a reached crowd to its end
    way_of : (c : CrowdModel) → IsHere c → (end : CrowdModel) × IsTerminal (Step net) end × Reachable (Meets Change) c end
    way_of c r = (ends_right net tree Change changes counts ends c r).ends

    maps_rest : (c : CrowdModel) → IsHere c → Rest IsSameMap (Meets Change) net counts c
    maps_rest c r =
        let to = way_of c r in
        let there = reached_along net Change changes counts c to.2.0 to.0 r to.2.1 in
        record {
          more = to.2.0;
          end = to.0;
          way = to.2.1;
          stays = stay to.0 there to.1;
          still = λ x d same s. sym (back to.0 there to.1 d (subst (λ z. Meets Change z d) (sym same) s));
        }

    abbrev StandsHere : CrowdModel → Type 0
    StandsHere d = Stands net Change changes counts d

    stand : (c : CrowdModel) (path : List CrowdModel) (d : CrowdModel) → StandsHere c → Leads (MultisetStep (Meets Change)) c path d → StandsHere d
    stand c [] d at way = subst StandsHere (sym way) at
    stand c (next ∷ path) d at way =
        stand next path d (next_stands net Change changes counts c next at way.0) way.1

    tuples_at : (d : CrowdModel) → StandsHere d → All (IsTuple net) d
    tuples_at d at =
        All-permutation (IsTuple net) at.0 d at.2 (tuples_of net Change changes counts at.0 at.1)

    -- a terminal crowd stays the same multiset
    still_at : (d : CrowdModel) → StandsHere d → IsTerminal (Step net) d → (c e : CrowdModel) → IsPermutation d c → MultisetStep (Meets Change) c e → IsPermutation d e
    still_at d at terminal c e same s =
        IsPermutation-trans d c e same (still net tree Change changes c e (All-permutation (IsTuple net) d c same (tuples_at d at)) (terminal_permuted (TupleChange net) d c terminal same) s)

    one_step : (c d e : CrowdModel) → IsPermutation c d → Meets Change d e → MultisetStep (Meets Change) c e
    one_step c d e same s = record { before = d; after = e; starts = same; step = s; ends = IsPermutation-refl e }

    wide : (c : CrowdModel) (path : List CrowdModel) (d : CrowdModel) → Leads (Meets Change) c path d → Leads (MultisetStep (Meets Change)) c path d
    wide = leads_wider (Meets Change) (MultisetStep (Meets Change)) (λ x y s. one_step x x y (IsPermutation-refl x) s)

    multisets_rest : (d : CrowdModel) → StandsHere d → Rest IsSameMultiset (MultisetStep (Meets Change)) net counts d
    multisets_rest d at = let to = way_of at.0 at.1 in go to.2.0 to.0 to.1 to.2.1
      where
        go : (path : List CrowdModel) (end : CrowdModel) → IsTerminal (Step net) end → Leads (Meets Change) at.0 path end → Rest IsSameMultiset (MultisetStep (Meets Change)) net counts d
        go [] end terminal way =
            let here : IsTerminal (Step net) at.0 = subst (λ c. IsTerminal (Step net) c) way terminal in
            let own = terminal_permuted (TupleChange net) at.0 d here at.2 in
            record {
              more = [];
              end = d;
              way = refl;
              stays = record { before = at.0; after = at.0; starts = IsPermutation-sym at.0 d at.2; step = stay at.0 at.1 here; ends = at.2 };
              still = still_at d at own;
            }
        go (next ∷ path) end terminal way =
            let there = reached_along net Change changes counts at.0 (next ∷ path) end at.1 way in
            record {
              more = next ∷ path;
              end = end;
              way = (one_step d at.0 next (IsPermutation-sym at.0 d at.2) way.0, wide next path end way.1);
              stays = one_step end end end (IsPermutation-refl end) (stay end there terminal);
              still = still_at end (end, there, IsPermutation-refl end) terminal;
            }

  extends : AlwaysEndsRight (Meets Change) net tree → ExtendFairly (Meets Change) net
  extends ends =
      record {
        of_maps = λ counts first path last input start way.
            continued IsSameMap (Meets Change) net counts first path last start way
            (maps_rest counts input (λ crowd r. ends counts crowd input r) last
            (reached_along net Change changes counts first path last (first_reached net Change changes counts first (sym start)) way));
        of_multisets = λ counts first path last input start way.
            continued IsSameMultiset (MultisetStep (Meets Change)) net counts first path last start way
            (multisets_rest counts input (λ crowd r. ends counts crowd input r) last
            (stand counts input (λ crowd r. ends counts crowd input r) first path last (input_crowd net counts, first_reached net Change changes counts (input_crowd net counts) refl, start) way));
      }

pub finite_extend : FiniteExecutionsExtend
finite_extend = record {
  steps = λ net tree ends. extends net tree (TupleChange net) (λ x y x' y' hx hy c. c) (λ x y hx hy. ((reaction net x y).0, (reaction net x y).1, reaction_change net x y hx hy)) ends;
  meetings = λ net tree ends. extends net tree (Reacts net) (reacts_changes net) (λ x y hx hy. ((reaction net x y).0, (reaction net x y).1, (refl, refl))) ends;
  synchronous = λ net tree ends. extends net tree (AllReact net) (react_changes net) (λ x y hx hy. ((reaction net x y).0, (reaction net x y).1, reaction_reacts net x y hx hy)) ends;
}
