-- If each leaf has one layer, the weights of a crowd fall with each meeting that changes it.
use Rattle.std.proofs.Common.{◌≡◌, ◌⊎◌, inl, inr, ℕ, Bool, zero, suc, pred, ◌+◌, ◌*◌, ◌<◌, ◌≤◌, true, false, List, [], ◌∷◌, ◌++◌, length, refl, ap, sym, subst, ◌∙◌, arith}
use Rattle.std.specs.Prelude.{if◌then◌else◌, ℤ, pos, negsuc, ◌+ℤ◌, ◌-ℤ◌, ◌*ℤ◌, ◌<ℤ◌, ◌≤ℤ◌, nat_abs, Some, slice_get, slice_set, All}
use Rattle.std.proofs.Math.Nat as nat
use Rattle.std.proofs.Math.IntN.{pos-*ℤ-pos}
use Rattle.std.proofs.lemmas.Int.{ints}
use Rattle.std.proofs.lemmas.List.{length-map}
use Rattle.std.proofs.lemmas.List.Elements.{All-head, All-tail, All-map, All-weaker}
use Rattle.std.proofs.lemmas.List.Sums.{sum_by-cons}
use Rattle.std.proofs.lemmas.Option.{slice_get_within}
use Rattle.base_laws.proofs.Lists.{heads, tails}
use Rattle.pres_ast.specs.PredTree.{PredTree}
use Rattle.pres_ast.specs.PredModel.{PredModel}
use Rattle.pop_leaf.specs.LeafModel.{LeafModel, IsLeaf}
use Rattle.pop_leaf.specs.NetModel.{NetModel, CrowdModel, IsTuple, HasStates, IsNet, number_of_helpers, state_of}
use Rattle.pop_leaf.specs.InputCrowd.{IsInput, input_crowd}
use Rattle.pop_leaf.specs.Step.{LeafMove, LeafChange, TupleChange, Step, LeafStep}
use Rattle.pop_leaf.specs.Reachable.{Leads, Reachable}
use Rattle.pop_net.proofs.Projection.{component, step_component}
use Rattle.pop_leaf.proofs.Quiet.{All-slice_get, set_same, same_tuple}
use Rattle.pop_net.proofs.Tuples.{leads_length, reachable_tuples, input_tuples}
use Rattle.pop_crowd.proofs.Reached.{length-after_meeting}
use Rattle.cert_base.specs.declared.layer.Layer.{Layer}
use Rattle.cert_base.specs.declared.proof.LeafProof.{LeafProof}
use Rattle.cert_base.specs.declared.proof.Proof.{Proof}
use Rattle.cert_base.specs.ValidProof.{ValidProof}
use Rattle.pop_crowd.specs.declared.crowd.Meeting.{Meeting}
use Rattle.pop_crowd.specs.Replay.{changes, change_count, IsMeeting, AreMeetings}
use Rattle.theory_fair.proofs.Reached.{leads_one_more}
use Rattle.cert_base.specs.ProofBound.{weights_spread, layers_bound, proof_bound}
use Rattle.cert_base.specs.ValidLayers.{IsInLayer, IsLower, ValidLayers}
use Rattle.cert_base.proofs.Integers.{add-mul}
use Rattle.cert_base.proofs.WeightBounds.{within, total-above, total-below}
use Rattle.cert_base.proofs.Weights.{total, total_falls}
use Rattle.theory_random.specs.RandomMeetings.{meet}
use Rattle.theory_random.specs.Laws.{IsPair}
use Rattle.theory_random.proofs.Pairs.{has_pair}
use Rattle.theory_random.proofs.Settled.{meets_step, unmoved_by}
use Rattle.pop_checker.specs.Changes.{ChangingStep, ChangesAtMost}
use Rattle.pop_checker.proofs.Settles.{bound_of}
use Rattle.pop_checker.proofs.Fairness.{reached_states}
use Rattle.pop_checker.proofs.LeastMoves.{listed_in}

-- the weights of all agents, beyond the least that they may be
height : List ℤ → List ℕ → ℕ
height w states = nat_abs (total w states -ℤ ((within w).low *ℤ pos (length states)))

abs_falls : (x y : ℤ) → pos 0 ≤ℤ x → x <ℤ y → nat_abs x < nat_abs y
abs_falls (pos m) (pos n) l k = omega (arith, ints, k)
abs_falls (pos m) (negsuc n) l k = absurd (omega (arith, ints, k))
abs_falls (negsuc m) y l k = absurd (omega (arith, ints, l))

abs_most : (x : ℤ) (n : ℕ) → pos 0 ≤ℤ x → x ≤ℤ pos n → nat_abs x ≤ n
abs_most (pos m) n l k = omega (arith, ints, k)
abs_most (negsuc m) n l k = absurd (omega (arith, ints, l))

height_falls : (w : List ℤ) (before after : List ℕ) → total w after <ℤ total w before → length after ≡ length before → All (λ q. q < length w) after → height w after < height w before
unfolding height
height_falls w before after lighter size range =
    let low = (within w).low in
    let least = total-above w low after (within w).above range in
    let same : (low *ℤ pos (length after)) ≡ (low *ℤ pos (length before)) = ap (λ n. low *ℤ pos n) size in
    abs_falls (total w after -ℤ (low *ℤ pos (length after))) (total w before -ℤ (low *ℤ pos (length before))) (omega (arith, ints, least)) (omega (arith, ints, lighter, same))

height_most : (w : List ℤ) (states : List ℕ) → All (λ q. q < length w) states → height w states ≤ weights_spread w * length states
unfolding height
height_most w states range =
    let i = within w in
    let n = length states in
    let least = total-above w i.low states i.above range in
    let most = total-below w i.high states i.below range in
    let product : (i.high *ℤ pos n) ≡ ((i.low *ℤ pos n) +ℤ pos (weights_spread w * n)) = ap (λ z. z *ℤ pos n) i.apart ∙ add-mul i.low (pos (weights_spread w)) (pos n) ∙ ap (λ z. (i.low *ℤ pos n) +ℤ z) (pos-*ℤ-pos (weights_spread w) n) in
    abs_most (total w states -ℤ (i.low *ℤ pos n)) (weights_spread w * n) (omega (arith, ints, least)) (omega (arith, ints, most, product))

-- the weights of the first layer
first_weights : List Layer → List ℤ
first_weights [] = []
first_weights (layer ∷ layers) = layer.weights

-- the heights of the leaves from leaf i on
heights : List LeafProof → ℕ → CrowdModel → ℕ
heights [] i crowd = 0
heights (part ∷ parts) i crowd = height (first_weights part.layers) (component i crowd) + heights parts (suc i) crowd

-- a leaf with one layer
record HasOne (leaf : LeafModel) (part : LeafProof) : Type 0 where
  is : IsLeaf leaf
  valid : ValidLayers leaf part.layers
  one : length part.layers ≡ 1

module _ (leaf : LeafModel) (part : LeafProof) (h : HasOne leaf part) where
  long : length (first_weights part.layers) ≡ length leaf.states
  unfolding first_weights
  long = go part.layers h.one h.valid.weights
    where
      go : (layers : List Layer) → length layers ≡ 1 → All (λ (layer : Layer). length layer.weights ≡ length leaf.states) layers → length (first_weights layers) ≡ length leaf.states
      go [] e all = absurd (omega (arith, e))
      go (layer ∷ layers) e all = All-head (λ (l : Layer). length l.weights ≡ length leaf.states) layer layers all

  -- each move of the leaf lowers the weights
  lower : (x y x' y' : ℕ) (m : LeafMove leaf x y x' y') → IsLower (first_weights part.layers) m.taken
  unfolding first_weights
  lower x y x' y' m =
      let at = listed_in part.layers m.number (h.valid.all m.number m.taken m.listed m.non_silent) in
      let inside : IsInLayer leaf part.layers at.0 m.taken = record { layer = at.1; number = m.number; layer_is = at.2; lists = at.3; move_is = m.listed; non_silent = m.non_silent } in
      subst (λ (w : List ℤ). IsLower w m.taken) (only part.layers at.0 at.1 h.one at.2) (h.valid.lower at.0 m.taken inside)
    where
      only : (layers : List Layer) (k : ℕ) (layer : Layer) → length layers ≡ 1 → slice_get layers k ≡ Some layer → layer.weights ≡ first_weights layers
      only [] k layer e g = cc
      only (l ∷ layers) zero layer e g =
          let same : l ≡ layer = cc in ap (λ (z : Layer). z.weights) (sym same)
      only (l ∷ layers) (suc k) layer e g =
          let inside = slice_get_within layers k layer g in absurd (omega (arith, e, inside))

  -- a step of the leaf lowers its height, or leaves the states as they are
  leaf_falls : (before after : List ℕ) → LeafStep leaf before after → length after ≡ length before → All (λ q. q < length leaf.states) after → (height (first_weights part.layers) after < height (first_weights part.layers) before) ⊎ (after ≡ before)
  leaf_falls before after s size range = go s.change
    where
      go : LeafChange leaf s.x s.y s.x' s.y' → (height (first_weights part.layers) after < height (first_weights part.layers) before) ⊎ (after ≡ before)
      go (inr m) =
          inl (height_falls (first_weights part.layers) before after (total_falls leaf (first_weights part.layers) before after s m (lower s.x s.y s.x' s.y' m)) size (subst (λ n. All (λ q. q < n) after) (sym long) range))
      go (inl stay) =
          inr
          (s.others_stay
          ∙ ap (λ x. slice_set (slice_set before s.a x) s.b s.y') stay.0
          ∙ ap (λ y. slice_set (slice_set before s.a s.x) s.b y) stay.1
          ∙ ap (λ c. slice_set c s.b s.y) (set_same before s.a s.x s.a_had)
          ∙ set_same before s.b s.y s.b_had)

-- crowds with the same states at each leaf are the same
same_crowd : (n : ℕ) (c d : CrowdModel) → length c ≡ length d → All (λ tuple. length tuple ≡ n) c → All (λ tuple. length tuple ≡ n) d → ((i : ℕ) → i < n → component i c ≡ component i d) → c ≡ d
same_crowd n [] [] e hc hd same = refl
same_crowd n [] (y ∷ d) e hc hd same = cc
same_crowd n (x ∷ c) [] e hc hd same = cc
same_crowd n (x ∷ c) (y ∷ d) e hc hd same =
    let lx : length x ≡ n = All-head (λ tuple. length tuple ≡ n) x c hc in
    let ly : length y ≡ n = All-head (λ tuple. length tuple ≡ n) y d hd in
    let first : x ≡ y = same_tuple x y (lx ∙ sym ly) (λ i l. heads (state_of x i) (state_of y i) (component i c) (component i d) (same i (let k : i < n = omega (arith, l, lx) in k))) in
    let rest : c ≡ d = same_crowd n c d (ap pred e) (All-tail (λ tuple. length tuple ≡ n) x c hc) (All-tail (λ tuple. length tuple ≡ n) y d hd) (λ i l. tails (state_of x i) (state_of y i) (component i c) (component i d) (same i l)) in
    ap (λ z. z ∷ c) first ∙ ap (λ zs. y ∷ zs) rest

module _ (net : NetModel) (before after : CrowdModel) (step : Step net before after) (size : length after ≡ length before) (states : All (HasStates net) after) where
  ranges : (i : ℕ) (leaf : LeafModel) → slice_get net.leaves i ≡ Some leaf → All (λ q. q < length leaf.states) (component i after)
  ranges i leaf h =
      All-map (λ (q : ℕ). q < length leaf.states) (λ tuple. state_of tuple i) after
      (All-weaker (HasStates net) (λ tuple. state_of tuple i < length leaf.states) (λ tuple has. has i leaf h) after states)

  sizes : (i : ℕ) → length (component i after) ≡ length (component i before)
  sizes i =
      length-map after (λ tuple. state_of tuple i) ∙ size ∙ sym (length-map before (λ tuple. state_of tuple i))

  -- the heights of these leaves fall, or nothing changes in them
  heights_fall : (leaves : List LeafModel) (parts : List LeafProof) (i : ℕ) → length parts ≡ length leaves → ((j : ℕ) (leaf : LeafModel) → slice_get leaves j ≡ Some leaf → slice_get net.leaves (i + j) ≡ Some leaf) → ((j : ℕ) (leaf : LeafModel) (part : LeafProof) → slice_get leaves j ≡ Some leaf → slice_get parts j ≡ Some part → HasOne leaf part) → (heights parts i after < heights parts i before) ⊎ ((heights parts i after ≡ heights parts i before) × ((j : ℕ) → j < length leaves → component (i + j) after ≡ component (i + j) before))
  unfolding heights
  heights_fall [] [] i e there has = inr (refl, λ j l. absurd (omega (arith, l)))
  heights_fall [] (part ∷ parts) i e there has = cc
  heights_fall (leaf ∷ leaves) [] i e there has = cc
  heights_fall (leaf ∷ leaves) (part ∷ parts) i e there has =
      let here : slice_get net.leaves i ≡ Some leaf = subst (λ n. slice_get net.leaves n ≡ Some leaf) (let z : i + 0 ≡ i = omega arith in z) (there 0 leaf refl) in
      go
      (leaf_falls leaf part (has 0 leaf part refl refl) (component i before) (component i after) (step_component net i leaf before after here step) (sizes i) (ranges i leaf here))
      (heights_fall leaves parts (suc i) (ap pred e) (λ j other g. subst (λ n. slice_get net.leaves n ≡ Some other) (let z : i + suc j ≡ suc i + j = omega arith in z) (there (suc j) other g)) (λ j other p g k. has (suc j) other p g k))
    where
      go : (height (first_weights part.layers) (component i after) < height (first_weights part.layers) (component i before)) ⊎ (component i after ≡ component i before) → (heights parts (suc i) after < heights parts (suc i) before) ⊎ ((heights parts (suc i) after ≡ heights parts (suc i) before) × ((j : ℕ) → j < length leaves → component (suc i + j) after ≡ component (suc i + j) before)) → (height (first_weights part.layers) (component i after) + heights parts (suc i) after < height (first_weights part.layers) (component i before) + heights parts (suc i) before) ⊎ ((height (first_weights part.layers) (component i after) + heights parts (suc i) after ≡ height (first_weights part.layers) (component i before) + heights parts (suc i) before) × ((j : ℕ) → j < suc (length leaves) → component (i + j) after ≡ component (i + j) before))
      go (inl low) (inl more) = inl (omega (arith, low, more))
      go (inl low) (inr rest) = let same = rest.0 in inl (omega (arith, low, same))
      go (inr stay) (inl more) =
          let same = ap (height (first_weights part.layers)) stay in inl (omega (arith, same, more))
      go (inr stay) (inr rest) =
          let same = ap (height (first_weights part.layers)) stay in
          let others = rest.0 in
          inr (omega (arith, same, others), at)
        where
          at : (j : ℕ) → j < suc (length leaves) → component (i + j) after ≡ component (i + j) before
          at zero l = subst (λ n. component n after ≡ component n before) (let z : i ≡ i + 0 = omega arith in z) stay
          at (suc j) l =
              subst (λ n. component n after ≡ component n before) (let z : suc i + j ≡ i + suc j = omega arith in z) (rest.1 j (omega (arith, l)))

own_bound : (layers : List Layer) → length layers ≡ 1 → layers_bound layers ≡ weights_spread (first_weights layers)
unfolding first_weights
own_bound [] e = absurd (omega (arith, e))
own_bound (layer ∷ []) e = let z : 0 + weights_spread layer.weights ≡ weights_spread layer.weights = omega arith in z
own_bound (layer ∷ other ∷ layers) e = absurd (omega (arith, e))

-- they are at most the bound of all layers for each agent
heights_most : (net : NetModel) (crowd : CrowdModel) → ((i : ℕ) (leaf : LeafModel) → slice_get net.leaves i ≡ Some leaf → All (λ q. q < length leaf.states) (component i crowd)) → (leaves : List LeafModel) (parts : List LeafProof) (i : ℕ) → length parts ≡ length leaves → ((j : ℕ) (leaf : LeafModel) → slice_get leaves j ≡ Some leaf → slice_get net.leaves (i + j) ≡ Some leaf) → ((j : ℕ) (leaf : LeafModel) (part : LeafProof) → slice_get leaves j ≡ Some leaf → slice_get parts j ≡ Some part → HasOne leaf part) → heights parts i crowd ≤ bound_of parts * length crowd
unfolding heights
heights_most net crowd range [] [] i e there has = let z : 0 ≤ 0 * length crowd = omega arith in z
heights_most net crowd range [] (part ∷ parts) i e there has = cc
heights_most net crowd range (leaf ∷ leaves) [] i e there has = cc
heights_most net crowd range (leaf ∷ leaves) (part ∷ parts) i e there has =
    let here : slice_get net.leaves i ≡ Some leaf = subst (λ n. slice_get net.leaves n ≡ Some leaf) (let z : i + 0 ≡ i = omega arith in z) (there 0 leaf refl) in
    let one = has 0 leaf part refl refl in
    let most = height_most (first_weights part.layers) (component i crowd) (subst (λ n. All (λ q. q < n) (component i crowd)) (sym (long leaf part one)) (range i leaf here)) in
    let size : weights_spread (first_weights part.layers) * length (component i crowd) ≡ weights_spread (first_weights part.layers) * length crowd = ap (λ n. weights_spread (first_weights part.layers) * n) (length-map crowd (λ tuple. state_of tuple i)) in
    let own : layers_bound part.layers ≡ weights_spread (first_weights part.layers) = own_bound part.layers one.one in
    let product : layers_bound part.layers * length crowd ≡ weights_spread (first_weights part.layers) * length crowd = ap (λ n. n * length crowd) own in
    let more = heights_most net crowd range leaves parts (suc i) (ap pred e) (λ j other g. subst (λ n. slice_get net.leaves n ≡ Some other) (let z : i + suc j ≡ suc i + j = omega arith in z) (there (suc j) other g)) (λ j other p g k. has (suc j) other p g k) in
    let sum : bound_of (part ∷ parts) * length crowd ≡ layers_bound part.layers * length crowd + bound_of parts * length crowd = ap (λ n. n * length crowd) (sum_by-cons (λ (p : LeafProof). layers_bound p.layers) part parts) ∙ nat.add-mul (layers_bound part.layers) (bound_of parts) (length crowd) in
    omega (arith, most, size, product, more, sum)

module _ (net : NetModel) (tree : PredTree) (parts : List LeafProof) (is : IsNet net) (lengths : length parts ≡ length net.leaves) (has : (j : ℕ) (leaf : LeafModel) (part : LeafProof) → slice_get net.leaves j ≡ Some leaf → slice_get parts j ≡ Some part → HasOne leaf part) where
  there : (j : ℕ) (leaf : LeafModel) → slice_get net.leaves j ≡ Some leaf → slice_get net.leaves (0 + j) ≡ Some leaf
  there j leaf h = subst (λ n. slice_get net.leaves n ≡ Some leaf) (let z : j ≡ 0 + j = omega arith in z) h

  module _ (counts : List ℕ) (input : IsInput (length net.variables) (number_of_helpers net) counts) (crowd : CrowdModel) (r : Reachable (Step net) (input_crowd net counts) crowd) where
    tuples : All (IsTuple net) crowd
    tuples = reachable_tuples net (input_crowd net counts) crowd (input_tuples net counts) r

    states_after : (c : CrowdModel) → Reachable (Step net) (input_crowd net counts) c → All (HasStates net) c
    states_after c way = reached_states net counts c is input way

    -- a step lowers the heights, or leaves the crowd as it is
    next_falls : (next : CrowdModel) → Step net crowd next → (heights parts 0 next < heights parts 0 crowd) ⊎ ((heights parts 0 next ≡ heights parts 0 crowd) × (next ≡ crowd))
    next_falls next step = go (heights_fall net crowd next step size (states_after next way) net.leaves parts 0 lengths there has)
      where
        way : Reachable (Step net) (input_crowd net counts) next
        way = (r.0 ++ next ∷ [], leads_one_more (Step net) (input_crowd net counts) r.0 crowd next r.1 step)

        size : length next ≡ length crowd
        size = let e = leads_length (TupleChange net) crowd (next ∷ []) next (step, refl) in omega (arith, e)

        go : (heights parts 0 next < heights parts 0 crowd) ⊎ ((heights parts 0 next ≡ heights parts 0 crowd) × ((j : ℕ) → j < length net.leaves → component (0 + j) next ≡ component (0 + j) crowd)) → (heights parts 0 next < heights parts 0 crowd) ⊎ ((heights parts 0 next ≡ heights parts 0 crowd) × (next ≡ crowd))
        go (inl low) = inl low
        go (inr rest) =
            inr (
              rest.0,
              same_crowd (length net.leaves) next crowd size (reachable_tuples net (input_crowd net counts) next (input_tuples net counts) way) tuples
                  (λ i l. subst (λ n. component n next ≡ component n crowd) (let z : 0 + i ≡ i = omega arith in z) (rest.1 i l)),
            )

    meeting_falls : (p : ℕ × ℕ) → IsPair (length crowd) p → (heights parts 0 (meet net p crowd) < heights parts 0 crowd) ⊎ ((heights parts 0 (meet net p crowd) ≡ heights parts 0 crowd) × (meet net p crowd ≡ crowd))
    meeting_falls p pair = next_falls (meet net p crowd) (meets_step net crowd tuples p (has_pair (length crowd) p pair))

    low_here : heights parts 0 crowd ≤ bound_of parts * length crowd
    low_here = heights_most net crowd ranges_here net.leaves parts 0 lengths there has
      where
        ranges_here : (i : ℕ) (leaf : LeafModel) → slice_get net.leaves i ≡ Some leaf → All (λ q. q < length leaf.states) (component i crowd)
        ranges_here i leaf h =
            All-map (λ (q : ℕ). q < length leaf.states) (λ tuple. state_of tuple i) crowd
            (All-weaker (HasStates net) (λ tuple. state_of tuple i < length leaf.states) (λ tuple has. has i leaf h) crowd (states_after crowd r))

  module _ (counts : List ℕ) (input : IsInput (length net.variables) (number_of_helpers net) counts) where
    reached_by : (crowd next : CrowdModel) → Reachable (Step net) (input_crowd net counts) crowd → Step net crowd next → Reachable (Step net) (input_crowd net counts) next
    reached_by crowd next r step =
        (r.0 ++ next ∷ [], leads_one_more (Step net) (input_crowd net counts) r.0 crowd next r.1 step)

    -- the heights are at least as many as the steps that still change the crowd
    few_steps : (crowd : CrowdModel) → Reachable (Step net) (input_crowd net counts) crowd → (path : List CrowdModel) (end : CrowdModel) → Leads (ChangingStep net) crowd path end → length path ≤ heights parts 0 crowd
    few_steps crowd r [] end way = omega arith
    few_steps crowd r (next ∷ path) end way =
        go (next_falls counts input crowd r next way.0.0) (few_steps next (reached_by crowd next r way.0.0) path end way.1)
      where
        go : (heights parts 0 next < heights parts 0 crowd) ⊎ ((heights parts 0 next ≡ heights parts 0 crowd) × (next ≡ crowd)) → length path ≤ heights parts 0 next → suc (length path) ≤ heights parts 0 crowd
        go (inl low) few = omega (arith, low, few)
        go (inr rest) few = absurd (way.0.1 rest.1)

    few_meetings : (crowd : CrowdModel) → Reachable (Step net) (input_crowd net counts) crowd → (meetings : List Meeting) → AreMeetings (length crowd) meetings → change_count net meetings crowd ≤ heights parts 0 crowd
    few_meetings crowd r [] h = omega arith
    few_meetings crowd r (m ∷ meetings) h =
        go (changes net m.a m.b crowd) refl (meeting_falls counts input crowd r (m.a, m.b) pair) (few_meetings next (reached_by crowd next r step) meetings rest)
      where
        next : CrowdModel
        next = meet net (m.a, m.b) crowd

        pair : IsPair (length crowd) (m.a, m.b)
        pair = let first = All-head (IsMeeting (length crowd)) m meetings h in (first.different, first.first, first.second)

        step : Step net crowd next
        step = meets_step net crowd (tuples counts input crowd r) (m.a, m.b) (has_pair (length crowd) (m.a, m.b) pair)

        rest : AreMeetings (length next) meetings
        rest =
            subst (λ n. AreMeetings n meetings) (sym (length-after_meeting net m.a m.b crowd)) (All-tail (IsMeeting (length crowd)) m meetings h)

        go : (b : Bool) → changes net m.a m.b crowd ≡ b → (heights parts 0 next < heights parts 0 crowd) ⊎ ((heights parts 0 next ≡ heights parts 0 crowd) × (next ≡ crowd)) → change_count net meetings next ≤ heights parts 0 next → (if b then 1 else 0) + change_count net meetings next ≤ heights parts 0 crowd
        go true e (inl low) few = omega (arith, low, few)
        go true e (inr same) few =
            let no = unmoved_by net crowd (tuples counts input crowd r) (m.a, m.b) pair same.1 in
            absurd (let f : true ≡ false = sym e ∙ no in cc)
        go false e (inl low) few = omega (arith, low, few)
        go false e (inr same) few = let z = same.0 in omega (arith, z, few)

  few_changes : ChangesAtMost net (bound_of parts)
  few_changes =
      record {
        steps = λ counts path end input way.
            nat.le_trans (few_steps counts input (input_crowd net counts) ([], refl) path end way) (low_here counts input (input_crowd net counts) ([], refl));
        meetings = λ counts meetings input h.
            nat.le_trans (few_meetings counts input (input_crowd net counts) ([], refl) meetings h) (low_here counts input (input_crowd net counts) ([], refl));
      }

module _ (net : NetModel) (p : PredModel) (proof : Proof) (is : IsNet net) (v : ValidProof net p proof) (one : All (λ part. length part.layers ≡ 1) proof.leaves) where
  has_one : (j : ℕ) (leaf : LeafModel) (part : LeafProof) → slice_get net.leaves j ≡ Some leaf → slice_get proof.leaves j ≡ Some part → HasOne leaf part
  has_one j leaf part h g =
      record {
        is = All-slice_get IsLeaf net.leaves j leaf is.leaves h;
        valid = (v.leaves j leaf part h g).layers;
        one = All-slice_get (λ (q : LeafProof). length q.layers ≡ 1) proof.leaves j part one g;
      }

  -- at most so many steps per agent change the crowd
  pub one_layer_changes : ChangesAtMost net (proof_bound proof)
  one_layer_changes = few_changes net p.tree proof.leaves is v.one_each has_one
