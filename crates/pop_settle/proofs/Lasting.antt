-- Takes by valid layers are no more than the proof's bound for each agent.
use Rattle.std.proofs.Common.{◌≡◌, ◌⊎◌, inl, inr, ℕ, zero, suc, ◌+◌, ◌*◌, ◌<◌, ◌≤◌, List, [], ◌∷◌, length, drop, ap, sym, subst, ◌∙◌, arith}
use Rattle.std.specs.Prelude.{Some, slice_get, slice_set, sum_by, All}
use Rattle.std.proofs.Math.Nat as nat
use Rattle.std.proofs.Math.Nat.{mul-le-mul_right}
use Rattle.std.proofs.lemmas.Bool.{cases_lt}
use Rattle.std.proofs.lemmas.List.{length-map}
use Rattle.std.proofs.lemmas.List.Sums.{sum_by-cons, sum_by-drop_more}
use Rattle.std.proofs.lemmas.List.Elements.{All-map, All-weaker}
use Rattle.std.proofs.lemmas.Option.{slice_get_within, get_or_from_slice_get}
use Rattle.pop_leaf.specs.LeafModel.{LeafModel, IsLeaf}
use Rattle.pop_leaf.specs.NetModel.{NetModel, CrowdModel, IsNet, IsTuple, HasStates, state_of}
use Rattle.pop_leaf.proofs.Quiet.{All-slice_get}
use Rattle.pop_net.proofs.Tuples.{meets_length}
use Rattle.pop_leaf.specs.Step.{TupleChange}
use Rattle.cert_base.specs.declared.layer.Layer.{Layer}
use Rattle.cert_base.specs.declared.proof.Proof.{Proof}
use Rattle.cert_base.specs.declared.proof.LeafProof.{LeafProof}
use Rattle.cert_base.specs.ProofBound.{weights_spread, layers_bound, proof_bound}
use Rattle.cert_base.specs.ValidLayers.{IsLower, ValidLayers}
use Rattle.cert_base.proofs.Agents.{InRange, move_change, move_in_range}
use Rattle.cert_base.proofs.Weights.{total_falls}
use Rattle.pop_settle.specs.declared.take.Take.{Take}
use Rattle.pop_settle.specs.Settlement.{states_in, CanTake, IsNext, crowd_after_take, LeadsBy}
use Rattle.pop_settle.specs.Settling.{AreLayersValid}
use Rattle.pop_settle.specs.Laws.{IsCrowd, AreShort}
use Rattle.pop_settle.specs.Walks.{IsQuietBefore}
use Rattle.pop_settle.proofs.Taking.{leaf_step, elsewhere, here, net_step, taken_tuples}
use Rattle.pop_settle.proofs.Hushed.{in_layer, stays_quiet, least_quiet}
use Rattle.pop_settle.proofs.Fuel.{fuel, fuel_falls, fuel_most}
use Rattle.base_laws.proofs.Options.{same_value}

-- each agent has a state of each leaf
pub record InRanges (net : NetModel) (crowd : CrowdModel) : Type 0 where
  pub tuples : All (IsTuple net) crowd
  pub ranges : (i : ℕ) (leaf : LeafModel) → slice_get net.leaves i ≡ Some leaf → InRange leaf (states_in i crowd)

pub crowd_ranges : (net : NetModel) (crowd : CrowdModel) → IsCrowd net crowd → InRanges net crowd
crowd_ranges net crowd is =
    record {
      tuples = is.0;
      ranges = λ i leaf h. All-map (λ (q : ℕ). q < length leaf.states) (λ tuple. state_of tuple i) crowd (All-weaker (HasStates net) (λ tuple. state_of tuple i < length leaf.states) (λ tuple has. has i leaf h) crowd is.1);
    }

pub length-states : (i : ℕ) (crowd : CrowdModel) → length (states_in i crowd) ≡ length crowd
length-states i crowd = length-map crowd (λ tuple. state_of tuple i)

module _ (net : NetModel) (proof : Proof) (are : All IsLeaf net.leaves) (crowd : CrowdModel) (layer place : ℕ) (take : Take) (c : CanTake net proof crowd layer place take) (in_ranges : InRanges net crowd) (v : ValidLayers c.leaf c.part.layers) where
  abbrev next : CrowdModel
  next = crowd_after_take take.leaf c.move take.a take.b crowd

  long : length c.list.weights ≡ length c.leaf.states
  long = All-slice_get (λ (l : Layer). length l.weights ≡ length c.leaf.states) c.part.layers layer c.list v.weights c.layer_is

  pub next_ranges : InRanges net next
  next_ranges =
      record { tuples = taken_tuples net proof crowd layer place take c in_ranges.tuples; ranges = λ j leaf h. at j leaf h (cases_lt j take.leaf) (cases_lt take.leaf j) }
    where
      other : (j : ℕ) (leaf : LeafModel) → slice_get net.leaves j ≡ Some leaf → (j ≡ take.leaf → ⊥) → InRange leaf (states_in j next)
      other j leaf h ne = subst (λ (s : List ℕ). InRange leaf s) (sym (elsewhere net proof crowd layer place take c j ne)) (in_ranges.ranges j leaf h)

      own : InRange c.leaf (states_in take.leaf next)
      own =
          subst (λ (s : List ℕ). InRange c.leaf s) (sym (here net proof crowd layer place take c in_ranges.tuples))
          (move_in_range c.leaf (states_in take.leaf crowd) take.step c.move take.a take.b (All-slice_get IsLeaf net.leaves take.leaf c.leaf are c.leaf_is) c.move_is (in_ranges.ranges take.leaf c.leaf c.leaf_is))

      at : (j : ℕ) (leaf : LeafModel) → slice_get net.leaves j ≡ Some leaf → (j < take.leaf) ⊎ (take.leaf ≤ j) → (take.leaf < j) ⊎ (j ≤ take.leaf) → InRange leaf (states_in j next)
      at j leaf h (inl l) k = other j leaf h (λ e. omega (arith, l, e))
      at j leaf h (inr l) (inl k) = other j leaf h (λ e. omega (arith, k, e))
      at j leaf h (inr l) (inr k) =
          let same : j ≡ take.leaf = omega arith in
          let one : c.leaf ≡ leaf = same_value (slice_get net.leaves take.leaf) c.leaf leaf c.leaf_is (subst (λ (n : ℕ). slice_get net.leaves n ≡ Some leaf) same h) in
          subst (λ (n : ℕ). InRange leaf (states_in n next)) (sym same) (subst (λ (y : LeafModel). InRange y (states_in take.leaf next)) one own)

  pub next_size : length next ≡ length crowd
  next_size = meets_length (TupleChange net) crowd next (net_step net proof crowd layer place take c in_ranges.tuples)

  -- it uses up some of the layer's fuel
  pub uses_fuel : fuel c.list.weights (states_in take.leaf next) < fuel c.list.weights (states_in take.leaf crowd)
  uses_fuel =
      let at = in_layer net proof crowd layer place take c in
      let lower : IsLower c.list.weights c.move = v.lower layer c.move at in
      let step = leaf_step net proof crowd layer place take c in
      let lighter = total_falls c.leaf c.list.weights (states_in take.leaf crowd) (slice_set (slice_set (states_in take.leaf crowd) take.a c.move.r) take.b c.move.s) step (move_change c.leaf take.step c.move c.move_is c.made.non_silent) lower in
      let is = here net proof crowd layer place take c in_ranges.tuples in
      fuel_falls c.list.weights (states_in take.leaf crowd) (states_in take.leaf next)
      (rw is lighter)
      (length-states take.leaf next ∙ next_size ∙ sym (length-states take.leaf crowd))
      (rw long (next_ranges.ranges take.leaf c.leaf c.leaf_is))

-- the bound of these leaves
abbrev parts_bound : List LeafProof → ℕ
parts_bound parts = sum_by (λ part. layers_bound part.layers) parts

-- a sum over fewer items is no greater
sum_drop : {A : Type 0} (f : A → ℕ) (xs : List A) (i j : ℕ) → i ≤ j → sum_by f (drop j xs) ≤ sum_by f (drop i xs)
sum_drop f xs zero zero l = omega arith
sum_drop f [] zero (suc j) l = omega arith
sum_drop f (x ∷ xs) zero (suc j) l =
    let rest = sum_drop f xs 0 j (omega arith) in
    let first = sum_by-cons f x xs in
    omega (arith, rest, first)
sum_drop f xs (suc i) zero l = absurd (omega arith)
sum_drop f [] (suc i) (suc j) l = omega arith
sum_drop f (x ∷ xs) (suc i) (suc j) l = sum_drop f xs i j (omega arith)

sum_from : {A : Type 0} (f : A → ℕ) (xs : List A) (i : ℕ) (x : A) → slice_get xs i ≡ Some x → sum_by f (drop i xs) ≡ f x + sum_by f (drop (i + 1) xs)
sum_from f xs i x h =
    sum_by-drop_more f xs i x (slice_get_within xs i x h) ∙ ap (λ y. f y + sum_by f (drop (i + 1) xs)) (get_or_from_slice_get xs i x x h)

module _ (net : NetModel) (proof : Proof) (crowd : CrowdModel) where
  -- the bound of all layers after that of a take
  abbrev behind : (take : Take) → IsNext net proof crowd take → ℕ
  behind take n = layers_bound (drop (n.layer + 1) n.can.part.layers) + parts_bound (drop (take.leaf + 1) proof.leaves)

  -- with the take's own layer, it is at most the bound of the layers from an earlier one on
  behind_layer : (take : Take) (n : IsNext net proof crowd take) (j : ℕ) → j ≤ n.layer → weights_spread n.can.list.weights + behind take n ≤ layers_bound (drop j n.can.part.layers) + parts_bound (drop (take.leaf + 1) proof.leaves)
  behind_layer take n j l =
      let own = sum_from (λ (y : Layer). weights_spread y.weights) n.can.part.layers n.layer n.can.list n.can.layer_is in
      let fewer = sum_drop (λ (y : Layer). weights_spread y.weights) n.can.part.layers j n.layer l in
      omega (arith, own, fewer)

  behind_leaf : (take : Take) (n : IsNext net proof crowd take) (i : ℕ) → i ≤ take.leaf → weights_spread n.can.list.weights + behind take n ≤ parts_bound (drop i proof.leaves)
  behind_leaf take n i l =
      let layers = behind_layer take n 0 (omega arith) in
      let own = sum_from (λ (p : LeafProof). layers_bound p.layers) proof.leaves take.leaf n.can.part n.can.part_is in
      let fewer = sum_drop (λ (p : LeafProof). layers_bound p.layers) proof.leaves i take.leaf l in
      omega (arith, layers, own, fewer)

-- how many takes may follow, the next one among them
abbrev left : (net : NetModel) (proof : Proof) (crowd : CrowdModel) (take : Take) → IsNext net proof crowd take → ℕ
left net proof crowd take n = fuel n.can.list.weights (states_in take.leaf crowd) + behind net proof crowd take n * length crowd

-- at most the bound of its own layer and those after it
left_most : (net : NetModel) (proof : Proof) (crowd : CrowdModel) (take : Take) (n : IsNext net proof crowd take) (most : ℕ) → InRanges net crowd → ValidLayers n.can.leaf n.can.part.layers → weights_spread n.can.list.weights + behind net proof crowd take n ≤ most → left net proof crowd take n ≤ most * length crowd
left_most net proof crowd take n most in_ranges v l =
    let w = n.can.list.weights in
    let long : length w ≡ length n.can.leaf.states = All-slice_get (λ (y : Layer). length y.weights ≡ length n.can.leaf.states) n.can.part.layers n.layer n.can.list v.weights n.can.layer_is in
    let few = fuel_most w (states_in take.leaf crowd) (rw long (in_ranges.ranges take.leaf n.can.leaf n.can.leaf_is)) in
    let size : weights_spread w * length (states_in take.leaf crowd) ≡ weights_spread w * length crowd = ap (λ k. weights_spread w * k) (length-states take.leaf crowd) in
    let sum = nat.add-mul (weights_spread w) (behind net proof crowd take n) (length crowd) in
    let product = mul-le-mul_right (length crowd) l in
    omega (arith, few, size, sum, product)

module _ (net : NetModel) (proof : Proof) (are : All IsLeaf net.leaves) (valid : (i : ℕ) (leaf : LeafModel) (part : LeafProof) → slice_get net.leaves i ≡ Some leaf → slice_get proof.leaves i ≡ Some part → ValidLayers leaf part.layers) where
  -- there are fewer left after a take
  fewer_left : (crowd : CrowdModel) (t u : Take) (n : IsNext net proof crowd t) → InRanges net crowd → (m : IsNext net proof (crowd_after_take t.leaf n.can.move t.a t.b crowd) u) → left net proof (crowd_after_take t.leaf n.can.move t.a t.b crowd) u m < left net proof crowd t n
  fewer_left crowd t u n in_ranges m = by_leaf (cases_lt u.leaf t.leaf) (cases_lt t.leaf u.leaf)
    where
      v : ValidLayers n.can.leaf n.can.part.layers
      v = valid t.leaf n.can.leaf n.can.part n.can.leaf_is n.can.part_is

      v' : ValidLayers m.can.leaf m.can.part.layers
      v' = valid u.leaf m.can.leaf m.can.part m.can.leaf_is m.can.part_is

      after : CrowdModel
      after = crowd_after_take t.leaf n.can.move t.a t.b crowd

      ranges' : InRanges net (crowd_after_take t.leaf n.can.move t.a t.b crowd)
      ranges' = next_ranges net proof are crowd n.layer n.place t n.can in_ranges v

      size : length (crowd_after_take t.leaf n.can.move t.a t.b crowd) ≡ length crowd
      size = next_size net proof are crowd n.layer n.place t n.can in_ranges v

      used : fuel n.can.list.weights (states_in t.leaf (crowd_after_take t.leaf n.can.move t.a t.b crowd)) < fuel n.can.list.weights (states_in t.leaf crowd)
      used = uses_fuel net proof are crowd n.layer n.place t n.can in_ranges v

      quiet : IsQuietBefore net proof (crowd_after_take t.leaf n.can.move t.a t.b crowd) t.leaf n.layer
      quiet = stays_quiet net proof crowd in_ranges.tuples n.layer n.place t n.can v (least_quiet net proof crowd t n)

      later : (most : ℕ) → weights_spread m.can.list.weights + behind net proof (crowd_after_take t.leaf n.can.move t.a t.b crowd) u m ≤ most → most ≤ behind net proof crowd t n → left net proof (crowd_after_take t.leaf n.can.move t.a t.b crowd) u m < left net proof crowd t n
      later most l k =
          let few = left_most net proof (crowd_after_take t.leaf n.can.move t.a t.b crowd) u m most ranges' v' l in
          let same : most * length (crowd_after_take t.leaf n.can.move t.a t.b crowd) ≡ most * length crowd = ap (λ j. most * j) size in
          let product = mul-le-mul_right (length crowd) k in
          let some = used in
          omega (arith, few, same, product, some)

      same_part : u.leaf ≡ t.leaf → n.can.part ≡ m.can.part
      same_part e = same_value (slice_get proof.leaves t.leaf) n.can.part m.can.part n.can.part_is (subst (λ (k : ℕ). slice_get proof.leaves k ≡ Some m.can.part) e m.can.part_is)

      behind_same : u.leaf ≡ t.leaf → (j : ℕ) → layers_bound (drop j m.can.part.layers) + parts_bound (drop (u.leaf + 1) proof.leaves) ≡ layers_bound (drop j n.can.part.layers) + parts_bound (drop (t.leaf + 1) proof.leaves)
      behind_same e j =
          ap (λ (p : LeafProof). layers_bound (drop j p.layers) + parts_bound (drop (u.leaf + 1) proof.leaves)) (sym (same_part e))
          ∙ ap (λ k. layers_bound (drop j n.can.part.layers) + parts_bound (drop (k + 1) proof.leaves)) e

      same_layer : u.leaf ≡ t.leaf → m.layer ≡ n.layer → left net proof (crowd_after_take t.leaf n.can.move t.a t.b crowd) u m < left net proof crowd t n
      same_layer e f =
          let list : n.can.list ≡ m.can.list =
          same_value (slice_get m.can.part.layers m.layer) n.can.list m.can.list
          (subst (λ (k : ℕ). slice_get m.can.part.layers k ≡ Some n.can.list) (sym f) (subst (λ (p : LeafProof). slice_get p.layers n.layer ≡ Some n.can.list) (same_part e) n.can.layer_is)) m.can.layer_is in
          let fuels : fuel m.can.list.weights (states_in u.leaf (crowd_after_take t.leaf n.can.move t.a t.b crowd)) ≡ fuel n.can.list.weights (states_in t.leaf (crowd_after_take t.leaf n.can.move t.a t.b crowd)) =
          ap (λ (y : Layer). fuel y.weights (states_in u.leaf (crowd_after_take t.leaf n.can.move t.a t.b crowd))) (sym list)
          ∙ ap (λ k. fuel n.can.list.weights (states_in k (crowd_after_take t.leaf n.can.move t.a t.b crowd))) e in
          let behinds : behind net proof (crowd_after_take t.leaf n.can.move t.a t.b crowd) u m ≡ behind net proof crowd t n =
          behind_same e (m.layer + 1) ∙ ap (λ k. layers_bound (drop (k + 1) n.can.part.layers) + parts_bound (drop (t.leaf + 1) proof.leaves)) f in
          let products : behind net proof (crowd_after_take t.leaf n.can.move t.a t.b crowd) u m * length (crowd_after_take t.leaf n.can.move t.a t.b crowd) ≡ behind net proof crowd t n * length crowd = λ i. behinds i * size i in
          let some = used in
          omega (arith, fuels, products, some)

      by_layer : u.leaf ≡ t.leaf → (m.layer < n.layer) ⊎ (n.layer ≤ m.layer) → (n.layer < m.layer) ⊎ (m.layer ≤ n.layer) → left net proof (crowd_after_take t.leaf n.can.move t.a t.b crowd) u m < left net proof crowd t n
      by_layer e (inl l) k = absurd (quiet m.layer m.place u m.can (inr (e, l)))
      by_layer e (inr l) (inl k) =
          let most = behind_layer net proof (crowd_after_take t.leaf n.can.move t.a t.b crowd) u m (n.layer + 1) (omega arith) in
          let same = behind_same e (n.layer + 1) in
          later (behind net proof crowd t n) (omega (arith, most, same)) (omega arith)
      by_layer e (inr l) (inr k) = same_layer e (omega arith)

      by_leaf : (u.leaf < t.leaf) ⊎ (t.leaf ≤ u.leaf) → (t.leaf < u.leaf) ⊎ (u.leaf ≤ t.leaf) → left net proof (crowd_after_take t.leaf n.can.move t.a t.b crowd) u m < left net proof crowd t n
      by_leaf (inl l) k = absurd (quiet m.layer m.place u m.can (inl l))
      by_leaf (inr l) (inl k) =
          let most = behind_leaf net proof (crowd_after_take t.leaf n.can.move t.a t.b crowd) u m (t.leaf + 1) (omega arith) in
          later (parts_bound (drop (t.leaf + 1) proof.leaves)) most (omega arith)
      by_leaf (inr l) (inr k) = by_layer (omega arith) (cases_lt m.layer n.layer) (cases_lt n.layer m.layer)

  lasts : (crowd end : CrowdModel) (t : Take) (n : IsNext net proof crowd t) (takes : List Take) → InRanges net crowd → LeadsBy net proof (crowd_after_take t.leaf n.can.move t.a t.b crowd) takes end → length (t ∷ takes) ≤ left net proof crowd t n
  lasts crowd end t n [] in_ranges l =
      let some = uses_fuel net proof are crowd n.layer n.place t n.can in_ranges (valid t.leaf n.can.leaf n.can.part n.can.leaf_is n.can.part_is) in
      omega (arith, some)
  lasts crowd end t n (u ∷ takes) in_ranges l =
      let v = valid t.leaf n.can.leaf n.can.part n.can.leaf_is n.can.part_is in
      let more = lasts (crowd_after_take t.leaf n.can.move t.a t.b crowd) end u l.0 takes (next_ranges net proof are crowd n.layer n.place t n.can in_ranges v) l.1 in
      let fewer = fewer_left crowd t u n in_ranges l.0 in
      omega (arith, more, fewer)

pub few_takes : (net : NetModel) (proof : Proof) (crowd end : CrowdModel) (takes : List Take) → IsNet net → AreLayersValid net proof → InRanges net crowd → LeadsBy net proof crowd takes end → length takes ≤ proof_bound proof * length crowd
few_takes net proof crowd end [] is v in_ranges l = omega arith
few_takes net proof crowd end (t ∷ takes) is v in_ranges l =
    let n = l.0 in
    let most = lasts net proof is.leaves v.valid crowd end t n takes in_ranges l.1 in
    let bound = left_most net proof crowd t n (proof_bound proof) in_ranges (v.valid t.leaf n.can.leaf n.can.part n.can.leaf_is n.can.part_is) (behind_leaf net proof crowd t n 0 (omega arith)) in
    omega (arith, most, bound)

pub are_short : AreShort
are_short net proof crowd end takes is v crowd_is l = few_takes net proof crowd end takes is v (crowd_ranges net crowd crowd_is) l
