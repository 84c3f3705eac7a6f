-- If each leaf has goals, the crowds that are at each leaf's goal are a goal of the net: leaf by leaf the steps of the leaf
-- lead there, and a leaf that is at its goal stays so in every step.
use Rattle.std.proofs.Common.{◌≡◌, ◌⊎◌, inl, inr, ℕ, suc, ◌+◌, ◌*◌, ◌<◌, ◌≤◌, false, List, [], ◌∷◌, ◌++◌, length, get_or, refl, ap, sym, subst, ◌∙◌, arith}
use Rattle.std.specs.Prelude.{Some, slice_get, slice_index_or, All}
use Rattle.std.proofs.Math.Nat as nat
use Rattle.std.proofs.lemmas.Bool.{cases_lt}
use Rattle.std.proofs.lemmas.List.{length-append, length-map}
use Rattle.std.proofs.lemmas.List.Sums.{sum_by-cons}
use Rattle.std.proofs.lemmas.List.Sorted.{All-permutation}
use Rattle.std.proofs.lemmas.Option.{slice_get_within, slice_get-get_or}
use Rattle.pres_ast.specs.PredTree.{PredTree}
use Rattle.pres_ast.specs.PredicateValue.{predicate_value}
use Rattle.pop_leaf.specs.LeafModel.{LeafModel}
use Rattle.pop_leaf.specs.NetModel.{NetModel, Tuple, CrowdModel, IsTuple, IsNet, state_of, number_of_helpers}
use Rattle.pop_leaf.specs.InputCrowd.{IsInput, input_crowd, leaf_input_crowd}
use Rattle.pop_leaf.specs.Step.{Meets, Step, LeafStep}
use Rattle.pop_leaf.specs.Reachable.{Leads, ReachedWithin, Reachable}
use Rattle.pop_net.proofs.Projection.{component, slice_get-component, step_component, input_component, reachable_component}
use Rattle.pop_leaf.proofs.Quiet.{All-slice_get}
use Rattle.pop_net.proofs.Tuples.{leads_length, step_tuples}
use Rattle.theory_fair.specs.OutputStable.{AllOutput, IsGoal, StablyOutputs}
use Rattle.theory_fair.proofs.Reached.{AreChanges, IsReached, reached_from, way_to, tuples_of, reached_along}
use Rattle.theory_fair.proofs.Goals.{outputs_stabilise}
use Rattle.cert_layers.proofs.Termination.{leads-append}
use Rattle.base_laws.proofs.Options.{item_within}
use Rattle.theory_goals.specs.OutputStable.{IsOutputStable, ComesToOutput}
use Rattle.theory_goals.specs.LeafGoals.{IsLeafGoalFrom, LeafPart, parts_bound, HasLeafGoals}
use Rattle.theory_goals.proofs.Orders.{component_permuted}
use Rattle.theory_nets.proofs.Combined.{agent_right}
use Rattle.theory_nets.proofs.Led.{CanMove, as_steps, Led, lead_way}

parts_bound-cons : (part : LeafPart) (parts : List LeafPart) (n m : ℕ) → m ≡ n → part.bound * n + parts_bound parts * m ≤ parts_bound (part ∷ parts) * n
parts_bound-cons part parts n m e =
    let sum : parts_bound (part ∷ parts) * n ≡ part.bound * n + parts_bound parts * n = ap (λ k. k * n) (sum_by-cons (λ (p : LeafPart). p.bound) part parts) ∙ nat.add-mul part.bound (parts_bound parts) n in
    let more : parts_bound parts * m ≡ parts_bound parts * n = ap (λ k. parts_bound parts * k) e in
    omega (arith, sum, more)

module _ (net : NetModel) (is : IsNet net) (tree : PredTree) (parts : List LeafPart) (Goals : ℕ → List ℕ → List ℕ → Type 0) (has : HasLeafGoals net tree parts Goals) where
  -- a crowd at each leaf's goal
  pub record IsAtGoals (counts : List ℕ) (crowd : CrowdModel) : Type 0 where
    pub input : IsInput (length net.variables) (number_of_helpers net) counts
    pub tuples : All (IsTuple net) crowd
    pub each : (j : ℕ) (leaf : LeafModel) → slice_get net.leaves j ≡ Some leaf → Goals j counts (component j crowd)

  module _ (counts : List ℕ) (input : IsInput (length net.variables) (number_of_helpers net) counts) where
    leaf_helpers : (i : ℕ) (leaf : LeafModel) → slice_get net.leaves i ≡ Some leaf → length leaf.helpers ≡ number_of_helpers net
    leaf_helpers i leaf h = All-slice_get (λ (l : LeafModel). length l.helpers ≡ number_of_helpers net) net.leaves i leaf is.helpers h

    leaf_input : (i : ℕ) (leaf : LeafModel) → slice_get net.leaves i ≡ Some leaf → IsInput (length leaf.inputs) (length leaf.helpers) counts
    leaf_input i leaf h =
        let inputs = All-slice_get (λ (l : LeafModel). length l.inputs ≡ length net.variables) net.leaves i leaf is.inputs h in
        let helpers = leaf_helpers i leaf h in
        record { one_each = input.one_each ∙ sym inputs; two_agents = omega (arith, input.two_agents, helpers) }

    goal_at : (i : ℕ) (leaf : LeafModel) (part : LeafPart) → slice_get net.leaves i ≡ Some leaf → slice_get parts i ≡ Some part → IsLeafGoalFrom leaf (predicate_value part.tree counts) part.bound (leaf_input_crowd leaf counts) (Goals i counts)
    goal_at i leaf part h k = has.leaves i leaf part h k counts (leaf_input i leaf h)

    part_at : (i : ℕ) (leaf : LeafModel) → slice_get net.leaves i ≡ Some leaf → (part : LeafPart) × (slice_get parts i ≡ Some part)
    part_at i leaf h =
        let within = slice_get_within net.leaves i leaf h in
        let lengths = has.one_each in
        item_within parts i (omega (arith, within, lengths))

    -- a step of the net keeps what is at a leaf's goal there
    leaf_stays : (i : ℕ) (leaf : LeafModel) (before after : CrowdModel) → slice_get net.leaves i ≡ Some leaf → Goals i counts (component i before) → Step net before after → Goals i counts (component i after)
    leaf_stays i leaf before after h at s =
        let part = part_at i leaf h in
        (goal_at i leaf part.0 h part.1).closed (component i before) (component i after) at (step_component net i leaf before after h s)

    leaf_remains : (i : ℕ) (leaf : LeafModel) (before : CrowdModel) (path : List CrowdModel) (after : CrowdModel) → slice_get net.leaves i ≡ Some leaf → Goals i counts (component i before) → Leads (Step net) before path after → Goals i counts (component i after)
    leaf_remains i leaf before [] after h at way = subst (λ c. Goals i counts (component i c)) (sym way) at
    leaf_remains i leaf before (next ∷ path) after h at way =
        leaf_remains i leaf next path after h (leaf_stays i leaf before next h at way.0) way.1

    -- at the goals every agent outputs the predicate's value
    outputs_right : (crowd : CrowdModel) → IsAtGoals counts crowd → AllOutput net (predicate_value tree counts) crowd
    outputs_right crowd at a d l =
        agent_right net is counts LeafPart (λ (part : LeafPart). part.tree) parts has.one_each x tuple right tree has.combination
      where
        x : Tuple
        x = get_or crowd a d

        there : slice_get crowd a ≡ Some x
        there = slice_get-get_or crowd a d l

        tuple : IsTuple net x
        tuple = at.tuples a d l

        right : (i : ℕ) (leaf : LeafModel) (part : LeafPart) → slice_get net.leaves i ≡ Some leaf → slice_get parts i ≡ Some part → slice_index_or leaf.outputs (state_of x i) false ≡ predicate_value part.tree counts
        right i leaf part h k =
            All-slice_get (λ (q : ℕ). slice_index_or leaf.outputs q false ≡ predicate_value part.tree counts) (component i crowd) a (state_of x i)
            ((goal_at i leaf part h k).right (component i crowd) (at.each i leaf h))
            (slice_get-component i crowd a x there)

    goals_stay : (before after : CrowdModel) → IsAtGoals counts before → Step net before after → IsAtGoals counts after
    goals_stay before after at s =
        record { input = input; tuples = step_tuples net before after at.tuples s; each = λ j leaf h. leaf_stays j leaf before after h (at.each j leaf h) s }

    goals_remain : (before : CrowdModel) (path : List CrowdModel) (after : CrowdModel) → IsAtGoals counts before → Leads (Step net) before path after → IsAtGoals counts after
    goals_remain before [] after at way = subst (IsAtGoals counts) (sym way) at
    goals_remain before (next ∷ path) after at way = goals_remain next path after (goals_stay before next at way.0) way.1

    -- so the outputs have come to rest
    pub output_stable : (crowd : CrowdModel) → IsAtGoals counts crowd → IsOutputStable net (predicate_value tree counts) crowd
    output_stable crowd at later r = outputs_right later (goals_remain crowd r.0 later at r.1)

    -- ---- the way there

    module _ (Change : Tuple → Tuple → Tuple → Tuple → Type 0) (changes : AreChanges net Change) (can : CanMove net Change) where
      abbrev IsHere : CrowdModel → Type 0
      IsHere crowd = IsReached net Change changes counts crowd

      -- the leaves before leaf i are at their goals
      abbrev AtGoalsBefore : ℕ → CrowdModel → Type 0
      AtGoalsBefore i crowd = (j : ℕ) (leaf : LeafModel) → j < i → slice_get net.leaves j ≡ Some leaf → Goals j counts (component j crowd)

      record Brought (i : ℕ) (crowd : CrowdModel) (n : ℕ) : Type 0 where
        last : CrowdModel
        path : List CrowdModel
        way : Leads (Meets Change) crowd path last
        short : length path ≤ n
        here : IsHere last
        at : AtGoalsBefore i last

      -- one leaf is brought to its goal
      bring_leaf : (i : ℕ) (leaf : LeafModel) (part : LeafPart) → slice_get net.leaves i ≡ Some leaf → slice_get parts i ≡ Some part → (crowd : CrowdModel) → IsHere crowd → AtGoalsBefore i crowd → Brought (suc i) crowd (part.bound * length crowd)
      bring_leaf i leaf part h k crowd here before =
          record {
            last = led.last;
            path = led.path;
            way = led.way;
            short = (let m : length led.path ≤ part.bound * length crowd = omega (arith, led.short, to.2.1, size) in m);
            here = reached_along net Change changes counts crowd led.path led.last here led.way;
            at = λ j other l e. by_order j other e l (cases_lt j i);
          }
        where
          tuples : All (IsTuple net) crowd
          tuples = tuples_of net Change changes counts crowd here

          reached : Reachable (LeafStep leaf) (leaf_input_crowd leaf counts) (component i crowd)
          reached =
              subst (λ (c : List ℕ). Reachable (LeafStep leaf) c (component i crowd)) (input_component net i leaf counts h (leaf_helpers i leaf h))
              (reachable_component net i leaf (input_crowd net counts) crowd h (way_to net Change changes counts crowd here))

          to : (end : List ℕ) × Goals i counts end × ReachedWithin (LeafStep leaf) (part.bound * length (component i crowd)) (component i crowd) end
          to = (goal_at i leaf part h k).reached (component i crowd) reached

          led : Led net Change changes i leaf h (can i leaf h) crowd to.0 (length to.2.0)
          led = lead_way net Change changes i leaf h (can i leaf h) to.2.0 crowd to.0 tuples to.2.2

          size : part.bound * length (component i crowd) ≡ part.bound * length crowd
          size = ap (λ n. part.bound * n) (length-map crowd (λ tuple. state_of tuple i))

          by_order : (j : ℕ) (other : LeafModel) → slice_get net.leaves j ≡ Some other → j < suc i → (j < i) ⊎ (i ≤ j) → Goals j counts (component j led.last)
          by_order j other e l (inl m) =
              leaf_remains j other crowd led.path led.last e (before j other m e) (as_steps net Change changes crowd led.path led.last tuples led.way)
          by_order j other e l (inr m) =
              let same : i ≡ j = omega (arith, l, m) in
              subst (λ n. Goals n counts (component n led.last)) same (subst (Goals i counts) (sym led.here) to.1)

      -- the leaves from leaf i on, one after the other
      bring : (rest : List LeafPart) (i : ℕ) → ((j : ℕ) (part : LeafPart) → slice_get rest j ≡ Some part → slice_get parts (i + j) ≡ Some part) → (crowd : CrowdModel) → IsHere crowd → AtGoalsBefore i crowd → Brought (i + length rest) crowd (parts_bound rest * length crowd)
      bring [] i h crowd here before =
          record {
            last = crowd;
            path = [];
            way = refl;
            short = (let l : 0 ≤ 0 * length crowd = omega arith in l);
            here = here;
            at = λ j leaf l e. before j leaf (omega (arith, l)) e;
          }
      bring (part ∷ rest) i h crowd here before =
          let k : slice_get parts i ≡ Some part = subst (λ (n : ℕ). slice_get parts n ≡ Some part) (let same : i + 0 ≡ i = omega arith in same) (h 0 part refl) in
          let within = slice_get_within parts i part k in
          let lengths = has.one_each in
          let leaf = item_within net.leaves i (omega (arith, within, lengths)) in
          let first = bring_leaf i leaf.0 part leaf.1 k crowd here before in
          let next : (j : ℕ) (other : LeafPart) → slice_get rest j ≡ Some other → slice_get parts (suc i + j) ≡ Some other = λ j other m. subst (λ (n : ℕ). slice_get parts n ≡ Some other) (let same : i + suc j ≡ suc i + j = omega arith in same) (h (suc j) other m) in
          let more = bring rest (suc i) next first.last first.here first.at in
          let size : length first.last ≡ length crowd = leads_length Change crowd first.path first.last first.way in
          let bound = parts_bound-cons part rest (length crowd) (length first.last) size in
          record {
            last = more.last;
            path = first.path ++ more.path;
            way = leads-append (Meets Change) crowd first.path first.last more.path more.last first.way more.way;
            short = (let m : length (first.path ++ more.path) ≤ parts_bound (part ∷ rest) * length crowd = omega (arith, length-append first.path more.path, first.short, more.short, bound) in m);
            here = more.here;
            at = λ j other l e. more.at j other (omega (arith, l)) e;
          }

      -- from each crowd on the way a crowd at all goals is reached within the leaves' bounds for each agent
      brought : (crowd : CrowdModel) → Reachable (Step net) (input_crowd net counts) crowd → (end : CrowdModel) × IsAtGoals counts end × ReachedWithin (Meets Change) (parts_bound parts * length crowd) crowd end
      brought crowd r =
          let b = bring parts 0 (λ j part k. subst (λ (n : ℕ). slice_get parts n ≡ Some part) (let same : j ≡ 0 + j = omega arith in same) k) crowd (reached_from net Change changes counts crowd r) (λ j leaf l e. absurd (omega (arith, l))) in
          let lengths = has.one_each in (
            b.last,
            record {
              input = input;
              tuples = tuples_of net Change changes counts b.last b.here;
              each = λ j leaf h. let within = slice_get_within net.leaves j leaf h in b.at j leaf (omega (arith, within, lengths)) h;
            },
            (b.path, b.short, b.way),
          )

  module _ (Change : Tuple → Tuple → Tuple → Tuple → Type 0) (changes : AreChanges net Change) (can : CanMove net Change) where
    -- so the steps lead to crowds in which the outputs have come to rest
    pub comes : ComesToOutput (Meets Change) net tree (parts_bound parts)
    comes counts crowd input r =
        let b = brought counts input Change changes can crowd r in (b.0, output_stable counts input b.0 b.1, b.2)

    at_goals : IsGoal (Meets Change) net tree IsAtGoals
    at_goals =
        record {
          reached = λ counts crowd input r.
              let b = brought counts input Change changes can crowd r in (b.0, b.1, (b.2.0, b.2.2));
          closed = λ counts before after at s. goals_stay counts at.input before after at s;
          right = λ counts crowd at. outputs_right counts at.input crowd at;
          unordered = λ counts crowd other at order.
              record {
                input = at.input;
                tuples = All-permutation (IsTuple net) crowd other order at.tuples;
                each = λ j leaf h.
                    let part = part_at counts at.input j leaf h in
                    (goal_at counts at.input j leaf part.0 h part.1).unordered (component j crowd) (component j other) (at.each j leaf h) (component_permuted j crowd other order);
              };
        }

    -- and the outputs of every fair execution come to rest
    pub fairly : StablyOutputs (Meets Change) net tree
    fairly = outputs_stabilise net tree Change changes IsAtGoals at_goals
