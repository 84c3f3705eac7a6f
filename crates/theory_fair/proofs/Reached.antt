-- The crowds of an execution from an input: there are finitely many, and one that can always be reached occurs in each
-- fair execution.
use Rattle.std.proofs.Common.{◌≡◌, ℕ, zero, suc, ◌+◌, ◌≤◌, List, [], ◌∷◌, ◌++◌, length, refl, sym, subst, ◌∙◌, add-one, arith}
use Rattle.std.specs.Prelude.{All}
use Rattle.std.specs.List.Sorted.{IsPermutation}
use Rattle.std.proofs.lemmas.List.Sorted.{IsPermutation-refl, IsPermutation-sym, IsPermutation-trans, All-permutation, length_permutation}
use Rattle.pop_leaf.specs.NetModel.{NetModel, Tuple, CrowdModel, IsTuple}
use Rattle.pop_leaf.specs.InputCrowd.{input_crowd}
use Rattle.pop_leaf.specs.Step.{TupleChange, Meets, Step}
use Rattle.pop_leaf.specs.Reachable.{Leads, Reachable}
use Rattle.pop_leaf.specs.Reaction.{reaction}
use Rattle.pop_leaf.proofs.Quiet.{All-slice_get}
use Rattle.pop_leaf.proofs.Reactions.{reaction_change}
use Rattle.pop_net.proofs.Tuples.{leads_length, reachable_tuples, input_tuples}
use Rattle.pop_net.proofs.Permutations.{meets_permuted}
use Rattle.theory_fair.specs.Executions.{IsExecution, IsFair}
use Rattle.theory_fair.specs.StablyComputes.{IsSameMap, IsSameMultiset, MultisetStep, Reacts}
use Rattle.theory_fair.proofs.Recurrence.{ListOf, end_occurs}
use Rattle.theory_fair.proofs.Low.{IsLow, bound_of, reached_low, finite_crowds}

pub leads_one_more : {A : Type 0} (S : A → A → Type 0) (c : A) (path : List A) (d e : A) → Leads S c path d → S d e → Leads S c (path ++ e ∷ []) e
leads_one_more S c [] d e way s = (subst (λ x. S x e) way s, refl)
leads_one_more S c (next ∷ path) d e way s = (way.0, leads_one_more S next path d e way.1 s)

pub leads_wider : {A : Type 0} (S R : A → A → Type 0) → ((c d : A) → S c d → R c d) → (c : A) (path : List A) (d : A) → Leads S c path d → Leads R c path d
leads_wider S R f c [] d way = way
leads_wider S R f c (next ∷ path) d way = (f c next way.0, leads_wider S R f next path d way.1)

-- an execution by steps is one by steps between multisets
pub between : {S : CrowdModel → CrowdModel → Type 0} (e : ℕ → CrowdModel) → IsExecution S e → IsExecution (MultisetStep S) e
between e run i =
    record {
      before = e i;
      after = e (i + 1);
      starts = IsPermutation-refl (e i);
      step = run i;
      ends = IsPermutation-refl (e (i + 1));
    }

-- the changes that an execution's steps make are changes of the net
abbrev pub AreChanges : NetModel → (Tuple → Tuple → Tuple → Tuple → Type 0) → Type 0
AreChanges net Change = (x y x' y' : Tuple) → IsTuple net x → IsTuple net y → Change x y x' y' → TupleChange net x y x' y'

module _ (net : NetModel) (Change : Tuple → Tuple → Tuple → Tuple → Type 0) (changes : AreChanges net Change) where
  pub to_step : (c d : CrowdModel) → All (IsTuple net) c → Meets Change c d → Step net c d
  to_step c d tuples s =
      record {
        a = s.a;
        b = s.b;
        different = s.different;
        x = s.x;
        y = s.y;
        x' = s.x';
        y' = s.y';
        a_had = s.a_had;
        b_had = s.b_had;
        change = changes s.x s.y s.x' s.y' (All-slice_get (IsTuple net) c s.a s.x tuples s.a_had) (All-slice_get (IsTuple net) c s.b s.y tuples s.b_had) s.change;
        others_stay = s.others_stay;
      }

  module _ (counts : List ℕ) where
    -- a crowd that steps lead to from the input
    pub IsReached : CrowdModel → Type 0
    IsReached crowd = Reachable (Step net) (input_crowd net counts) crowd

    pub reached_from : (c : CrowdModel) → Reachable (Step net) (input_crowd net counts) c → IsReached c
    unfolding IsReached
    reached_from c way = way

    pub way_to : (c : CrowdModel) → IsReached c → Reachable (Step net) (input_crowd net counts) c
    unfolding IsReached
    way_to c r = r

    pub tuples_of : (c : CrowdModel) → IsReached c → All (IsTuple net) c
    unfolding IsReached
    tuples_of c r = reachable_tuples net (input_crowd net counts) c (input_tuples net counts) r

    pub reached_length : (c : CrowdModel) → IsReached c → length c ≡ length (input_crowd net counts)
    unfolding IsReached
    reached_length c r = leads_length (TupleChange net) (input_crowd net counts) r.0 c r.1

    pub first_reached : (c : CrowdModel) → c ≡ input_crowd net counts → IsReached c
    unfolding IsReached
    first_reached c e = ([], e)

    pub next_reached : (c d : CrowdModel) → IsReached c → Meets Change c d → IsReached d
    unfolding IsReached
    next_reached c d r s =
        (r.0 ++ d ∷ [], leads_one_more (Step net) (input_crowd net counts) r.0 c d r.1 (to_step c d (tuples_of c r) s))

    pub reached_along : (c : CrowdModel) (path : List CrowdModel) (d : CrowdModel) → IsReached c → Leads (Meets Change) c path d → IsReached d
    reached_along c [] d r way = subst IsReached (sym way) r
    reached_along c (next ∷ path) d r way = reached_along next path d (next_reached c next r way.0) way.1

    -- the crowds of these many agents with these states, of which there are finitely many
    abbrev pub IsOne : CrowdModel → Type 0
    IsOne = ListOf (IsLow net (bound_of net (input_crowd net counts))) (length (input_crowd net counts))

    pub is_one : (c : CrowdModel) → IsReached c → IsOne c
    unfolding IsReached
    is_one c r = (leads_length (TupleChange net) (input_crowd net counts) r.0 c r.1, reached_low net (input_crowd net counts) c (input_tuples net counts) r)

    -- a crowd that is reached and has the agents of this one in some order
    abbrev pub Stands : CrowdModel → Type 0
    Stands d = (c : CrowdModel) × IsReached c × IsPermutation c d

    pub next_stands : (c d : CrowdModel) → Stands c → MultisetStep (Meets Change) c d → Stands d
    next_stands c d at s =
        let order = IsPermutation-sym at.0 s.before (IsPermutation-trans at.0 c s.before at.2 s.starts) in
        let n = meets_permuted Change s.before s.after at.0 s.step order in
        (n.0, next_reached at.0 n.0 at.1 n.1, IsPermutation-trans n.0 s.after d (IsPermutation-sym s.after n.0 n.2) s.ends)

    -- from each crowd on the way the steps lead to one of these
    abbrev pub AlwaysLeads : (CrowdModel → Type 0) → Type 0
    AlwaysLeads Goal = (c : CrowdModel) → IsReached c → (end : CrowdModel) × Goal end × Reachable (Meets Change) c end

    pub as_multisets : (c d : CrowdModel) → Meets Change c d → MultisetStep (Meets Change) c d
    as_multisets c d s = record { before = c; after = d; starts = IsPermutation-refl c; step = s; ends = IsPermutation-refl d }

    module _ (e : ℕ → CrowdModel) where
      module _ (start : IsSameMap (input_crowd net counts) (e 0)) (run : IsExecution (Meets Change) e) where
        pub reached : (j : ℕ) → IsReached (e j)
        reached zero = first_reached (e 0) (sym start)
        reached (suc j) = next_reached (e j) (e (suc j)) (reached j) (subst (λ k. Meets Change (e j) (e k)) (add-one j) (run j))

        pub agents_tuples : (j : ℕ) → All (IsTuple net) (e j)
        agents_tuples j = tuples_of (e j) (reached j)

        -- a crowd that can always be reached occurs in a fair execution
        pub agents_come : (Goal : CrowdModel → Type 0) → AlwaysLeads Goal → IsFair IsSameMap (Meets Change) e → ¬ ((j : ℕ) → ¬ Goal (e j))
        agents_come Goal leads fair never =
            end_occurs IsSameMap (Meets Change) e fair IsOne (finite_crowds net (bound_of net (input_crowd net counts)) (length (input_crowd net counts))) (λ j. is_one (e j) (reached j)) Goal
            (λ j. let to = leads (e j) (reached j) in (e j, refl, (to.0, to.2, to.1)))
            (λ j end goal same. never j (subst Goal (sym same) goal))

      module _ (start : IsSameMultiset (input_crowd net counts) (e 0)) (run : IsExecution (MultisetStep (Meets Change)) e) where
        pub stands : (j : ℕ) → Stands (e j)
        stands zero = (input_crowd net counts, first_reached (input_crowd net counts) refl, start)
        stands (suc j) = next_stands (e j) (e (suc j)) (stands j) (subst (λ k. MultisetStep (Meets Change) (e j) (e k)) (add-one j) (run j))

        pub multisets_tuples : (j : ℕ) → All (IsTuple net) (e j)
        multisets_tuples j = let at = stands j in All-permutation (IsTuple net) at.0 (e j) at.2 (tuples_of at.0 at.1)

        pub one_of : (d : CrowdModel) → Stands d → IsOne d
        one_of d at =
            let one = is_one at.0 at.1 in
            (length_permutation at.0 d at.2 ∙ one.0, All-permutation (IsLow net (bound_of net (input_crowd net counts))) at.0 d at.2 one.1)

        -- a crowd that can always be reached occurs in a fair execution, in some order of its agents
        pub multisets_come : (Goal : CrowdModel → Type 0) → AlwaysLeads Goal → ((c d : CrowdModel) → Goal c → IsPermutation c d → Goal d) → IsFair IsSameMultiset (MultisetStep (Meets Change)) e → ¬ ((j : ℕ) → ¬ Goal (e j))
        multisets_come Goal leads unordered fair never =
            end_occurs IsSameMultiset (MultisetStep (Meets Change)) e fair IsOne (finite_crowds net (bound_of net (input_crowd net counts)) (length (input_crowd net counts))) (λ j. one_of (e j) (stands j)) Goal
            (λ j. let at = stands j in
            let to = leads at.0 at.1 in
            (at.0, IsPermutation-sym at.0 (e j) at.2, (to.0, (to.2.0, leads_wider (Meets Change) (MultisetStep (Meets Change)) as_multisets at.0 to.2.0 to.0 to.2.1), to.1)))
            (λ j end goal same. never j (unordered end (e j) goal (IsPermutation-sym (e j) end same)))

        -- if the execution is fair for maps, it is fair for multisets
        pub maps_fair : IsFair IsSameMap (Meets Change) e → IsFair IsSameMultiset (MultisetStep (Meets Change)) e
        maps_fair fair c d s often i none =
            finite_crowds net (bound_of net (input_crowd net counts)) (length (input_crowd net counts)) (λ j. IsPermutation (e j) c) e often (λ j h. one_of (e j) (stands j))
            (λ x recurs. recurs 0
            (λ (j, l, h).
            let order : IsPermutation s.before x = IsPermutation-sym x s.before (IsPermutation-trans x c s.before (subst (λ y. IsPermutation y c) h.1 h.0) s.starts) in
            let next = meets_permuted Change s.before s.after x s.step order in
            let to : IsPermutation next.0 d = IsPermutation-trans next.0 s.after d (IsPermutation-sym s.after next.0 next.2) s.ends in
            fair x next.0 next.1 (λ k never. recurs k (λ (m, n, g). never (m, n, g.1))) i
            (λ (m, n, g). none (m, n, subst (λ y. IsPermutation y d) (sym g) to))))

pub reacts_changes : (net : NetModel) → AreChanges net (Reacts net)
reacts_changes net x y x' y' hx hy c =
    subst (λ z. TupleChange net x y x' z) (sym c.1)
    (subst (λ z. TupleChange net x y z (reaction net x y).1) (sym c.0) (reaction_change net x y hx hy))
