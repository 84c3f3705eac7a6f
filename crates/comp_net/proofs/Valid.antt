-- The built net is a net, and its proof is valid.
use Rattle.std.proofs.Common.{◌≡◌, inl, inr, true, false, subst, ℕ, ◌^◌, zero, suc, ◌+◌, ◌-◌, ◌≤◌, List, [], ◌∷◌, ◌++◌, length, map, get_or, refl, ap, sym, ◌∙◌, zero-add, arith}
use Rattle.std.specs.Prelude.{ℤ, pos, Some, None, IsSomeAnd, All, replicate, AllPairs, slice_get, sum_by}
use Rattle.std.proofs.lemmas.Bool.{le-ltb, cases_lt, false≢true}
use Rattle.std.proofs.lemmas.List.{length-map, length-append, length-replicate}
use Rattle.std.proofs.lemmas.List.Folds.{list_any_none}
use Rattle.std.proofs.lemmas.List.Sums.{sum_by-cons}
use Rattle.std.proofs.lemmas.List.FromFn.{length-map-range_with_len}
use Rattle.std.proofs.lemmas.List.Elements.{All-nil, All-cons, All-head, All-tail, All-append, All-map, All-weaker}
use Rattle.pop_io.specs.Names.{AreNames, variable_name}
use Rattle.pop_io.specs.declared.names.TheConstants.{VARIABLE_LIMIT}
use Rattle.pop_leaf.specs.declared.limits.TheConstants.{NARROW_STATE_LIMIT, WIDE_LEAF_LIMIT, DEPTH_LIMIT, HELPER_LIMIT}
use Rattle.pop_leaf.specs.declared.item.Item.{Item}
use Rattle.pop_leaf.specs.LeafModel.{LeafModel, IsLeaf}
use Rattle.pop_leaf.specs.NetModel.{NetModel, IsNet, depth_operators, number_of_helpers, helpers_of, is_wide_leaf, is_wide}
use Rattle.pop_leaf.specs.Reaction.{Differ, IsSingle}
use Rattle.pop_leaf.proofs.Quiet.{All-slice_get}
use Rattle.pres_ast.specs.PredTree.{PredTree, LessThan, Congruent, Negation, Conjunction, Disjunction}
use Rattle.pres_ast.specs.PredModel.{HasAtoms, IsAtomSum, IsPred}
use Rattle.cert_base.specs.FactsAndCases.{over_count}
use Rattle.cert_base.specs.declared.proof.LeafProof.{LeafProof}
use Rattle.cert_base.specs.TameLayers.{TameLayers}
use Rattle.theory_tame.specs.Laws.{AreTameEach}
use Rattle.cert_base.specs.ValidProof.{trees, ValidLeafProof, ValidProof}
use Rattle.cert_base.specs.ProofBound.{layers_bound}
use Rattle.cert_base.specs.ProofLimits.{IsLeafProofWithin, IsProofWithin}
use Rattle.pop_checker.specs.Sound.{IsRight}
use Rattle.pop_checker.proofs.RightEnds.{sound}
use Rattle.comp_threshold.specs.ThresholdLeaf.{threshold_width, place_of_value, threshold_state_count, threshold_state_name}
use Rattle.comp_threshold.proofs.Formed.{threshold-formed}
use Rattle.comp_threshold.proofs.Single.{moves-single as threshold_single}
use Rattle.comp_remainder.specs.RemainderLeaf.{remainder_state_name}
use Rattle.comp_remainder.proofs.Formed.{remainder-formed}
use Rattle.comp_remainder.proofs.SingleMoves.{moves-single as remainder_single}
use Rattle.comp_counting.specs.FlockAtoms.{enough_for}
use Rattle.comp_counting.specs.FullState.{flock_start}
use Rattle.comp_flock.specs.CountLeaf.{count_state_name}
use Rattle.comp_flock.specs.FlockLeaf.{power_worths, offset_helpers, offset_helper_count}
use Rattle.comp_flock.proofs.FlockValid.{flock-formed, offset-formed}
use Rattle.comp_flock.proofs.MoveLists.{moves-single}
use Rattle.comp_flock.specs.PrefixLeaf.{last_place}
use Rattle.comp_flock.proofs.TopFound.{top-low, top-prefix}
use Rattle.comp_flock.proofs.Valid.{prefix-right}
use Rattle.comp_powers_leaf.specs.declared.role.Role.TheVariants.{Nothing}
use Rattle.comp_powers_leaf.specs.PowersLeaf.{roles, place, start_of, coefficient_of, lacking, bit_role, helper_roles, all_helper_roles, state_name_at}
use Rattle.comp_powers_leaf.proofs.RangeFound.{range-suffices}
use Rattle.comp_powers_leaf.proofs.Formed.{powers-formed}
use Rattle.comp_powers_leaf.proofs.Single.{moves-single as powers_single}
use Rattle.comp_net.specs.declared.choice.NetLeaves.{NetLeaves}
use Rattle.comp_net.specs.declared.choice.LessLeaf.{LessLeaf}
use Rattle.comp_net.specs.declared.choice.LessLeaf.TheVariants.{Threshold, Flock, Offset, Prefix, Powers, NoLeaf}
use Rattle.comp_net.specs.Atoms.{atoms, postfix, less_leaf_for, is_none, less_helpers, most_helpers, less_size, atom_size, size_limit, narrow_limit, AreBuildable}
use Rattle.comp_net.specs.BuiltNet.{less_leaf, leaf_of, net_of}
use Rattle.comp_net.specs.BuiltBound.{atom_steps}
use Rattle.comp_net.specs.Building.{AreAtomProofs}
use Rattle.comp_net.specs.CompileFaults.{fault_in}
use Rattle.comp_net.proofs.Postfix.{value_at, combined-postfix, tree-again, depth-most, items-most, some_atom, names-below}
use Rattle.comp_net.proofs.Narrow.{KeepsSizes, keeps_sizes, buildable}
use Rattle.comp_net.proofs.Chosen.{has_helpers, IsChosen, chosen, helpers-held, helpers-none}
use Rattle.std.proofs.lemmas.Option.{same_Some}

-- ---- all atoms

-- the leaf of an atom in a net over n variables with so many helpers; it isn't wide where its size is low
pub record IsBuiltLeaf (n helpers : ℕ) (is_low : Type 0) (leaf : LeafModel) : Type 0 where
  pub formed : IsLeaf leaf
  pub inputs : length leaf.inputs ≡ n
  pub helped : length leaf.helpers ≡ helpers
  pub narrow : is_low → is_wide_leaf leaf ≡ false
  pub single : AllPairs Differ leaf.moves

abbrev IsBuilt : NetLeaves → ℕ → ℕ → PredTree → Type 0
IsBuilt choice helpers n atom =
    IsBuiltLeaf n helpers (atom_size choice atom ≤ narrow_limit choice) (leaf_of choice helpers atom)

-- what is known of the number of helpers
pub record IsHelped (choice : NetLeaves) (helpers : ℕ) (tree : PredTree) : Type 0 where
  pub enough : most_helpers choice tree ≤ helpers
  pub few : helpers ≤ HELPER_LIMIT
  pub none : has_helpers choice ≡ false → helpers ≡ 0

-- those of the net
pub net_helped : (choice : NetLeaves) (tree : PredTree) → IsHelped choice (most_helpers choice tree) tree
net_helped choice tree = record {
  enough = omega arith;
  few = helpers-held choice tree;
  none = helpers-none choice tree;
}

less_built : (choice : NetLeaves) (helpers : ℕ) (coefs : List ℤ) (bound : ℤ) (leaf : LessLeaf) → IsChosen choice coefs bound leaf → IsAtomSum coefs → is_none leaf ≡ false → less_size coefs bound leaf ≤ size_limit choice → less_helpers bound leaf ≤ helpers → helpers ≤ HELPER_LIMIT → (has_helpers choice ≡ false → helpers ≡ 0)
    → IsBuiltLeaf (length coefs) helpers (less_size coefs bound leaf ≤ narrow_limit choice) (less_leaf coefs bound helpers leaf)
less_built choice helpers coefs bound Threshold is sum some few enough most none = record {
  formed = threshold-formed coefs bound sum.some sum.few (let limit = is.1 in omega (arith, few, limit));
  inputs = length-map coefs (place_of_value (threshold_width coefs bound));
  helped = sym (none is.0);
  narrow = λ l. le-ltb NARROW_STATE_LIMIT _ (let limit = is.2 in omega (arith, length-map-range_with_len (threshold_state_name (threshold_width coefs bound)) 0 (threshold_state_count (threshold_width coefs bound)), l, limit));
  single = threshold_single (threshold_width coefs bound) (place_of_value (threshold_width coefs bound) bound);
}
less_built choice helpers coefs bound (Flock k) is sum some few enough most none =
    let found = is.1 in
    record {
      formed = flock-formed coefs k (record { some = sum.some; few = sum.few; are = found.are; low = found.low; high = found.high });
      inputs = length-map coefs (flock_start (2 ^ k) k);
      helped = sym (none is.0);
      narrow = λ l. le-ltb NARROW_STATE_LIMIT _ (let high = found.high in omega (arith, length-map-range_with_len (count_state_name (power_worths k)) 0 (k + 2), high));
      single = moves-single true (power_worths k) (2 ^ k) k;
    }
less_built choice helpers coefs bound (Offset k) is sum some few enough most none =
    let spare = helpers - offset_helper_count bound k in
    let held = length-append (offset_helpers bound k) (replicate spare 0) in
    let more = length-replicate spare (let nobody : ℕ = 0 in nobody) in
    record {
      formed = offset-formed coefs bound k spare (record { sum = sum; are = is.are; high = is.high; within = is.within }) (let room : offset_helper_count bound k + spare ≤ HELPER_LIMIT = omega (arith, enough, most) in room);
      inputs = length-map coefs (flock_start (enough_for bound) k);
      helped = (let h : length (offset_helpers bound k ++ replicate spare 0) ≡ helpers = omega (arith, held, more, enough) in h);
      narrow = λ l. le-ltb NARROW_STATE_LIMIT _ (let high = is.high in omega (arith, length-map-range_with_len (count_state_name (power_worths k)) 0 (k + 2), high));
      single = moves-single true (power_worths k) (2 ^ k) k;
    }
less_built choice helpers coefs bound (Prefix top) is sum some few enough most none =
    let one = top-prefix coefs bound top sum is.1 in
    let right = prefix-right coefs bound top one in
    record {
      formed = right.formed;
      inputs = length-map coefs (flock_start (enough_for bound) (last_place bound top));
      helped = sym (none is.0);
      narrow = λ l. le-ltb NARROW_STATE_LIMIT _ (let states = right.few in let low = top-low coefs bound top is.1 in omega (arith, states, low));
      single = right.single;
    }
less_built choice helpers coefs bound (Powers k) is sum some few enough most none =
    let spare = helpers - (k + 2) in
    let fits = range-suffices coefs bound k is.2 sum.some sum.few (let limit = is.0 in omega (arith, few, limit)) in
    let held = length-append (helper_roles bound k) (replicate spare (Nothing false)) in
    let own = length-map-range_with_len (bit_role (lacking k bound)) 0 k in
    let more = length-replicate spare (Nothing false) in
    record {
      formed = powers-formed coefs bound k spare fits (let room : k + 2 + spare ≤ HELPER_LIMIT = omega (arith, enough, most) in room);
      inputs = length-map-range_with_len (λ j. place coefs k (start_of k j (coefficient_of coefs j))) 0 (length coefs);
      helped = length-map (all_helper_roles bound k spare) (place coefs k) ∙ (let h : length (all_helper_roles bound k spare) ≡ helpers = omega (arith, held, own, more, enough) in h);
      narrow = λ l. le-ltb NARROW_STATE_LIMIT _ (let limit = is.1 in omega (arith, length-map-range_with_len state_name_at 0 (length (roles coefs k)), l, limit));
      single = powers_single coefs k;
    }
less_built choice helpers coefs bound NoLeaf is sum some few enough most none = absurd (let e : true ≡ false = some in cc)

pub all_built : (choice : NetLeaves) (helpers n : ℕ) (tree : PredTree) → HasAtoms n tree → AreBuildable choice tree → IsHelped choice helpers tree → All (IsBuilt choice helpers n) (atoms tree)
all_built choice helpers n (LessThan coefs bound) has can helped =
    let long = has.0.0 in
    All-cons (IsBuilt choice helpers n) (LessThan coefs bound) []
    (subst (λ m. IsBuilt choice helpers m (LessThan coefs bound)) long (less_built choice helpers coefs bound (less_leaf_for choice coefs bound) (chosen choice coefs bound) can.0 can.2 can.3 helped.enough helped.few helped.none))
    (All-nil (IsBuilt choice helpers n))
all_built choice helpers n (Congruent coefs m rest) has can helped =
    let long = has.0.0 in
    All-cons (IsBuilt choice helpers n) (Congruent coefs m rest) []
    (subst (λ k. IsBuilt choice helpers k (Congruent coefs m rest)) long
    (record {
      formed = remainder-formed coefs m rest helpers can.0.some can.0.few (let low = can.1.low in omega arith) can.1.high helped.few;
      inputs = length-map coefs _;
      helped = length-replicate helpers (let leader : ℕ = 0 in leader);
      narrow = λ l. le-ltb NARROW_STATE_LIMIT _ (let high = can.1.high in omega (arith, length-map-range_with_len (remainder_state_name m) 0 (m + 2), high));
      single = remainder_single m rest;
    }))
    (All-nil (IsBuilt choice helpers n))
all_built choice helpers n (Negation p) has can helped = all_built choice helpers n p has can (record { enough = helped.enough; few = helped.few; none = helped.none })
all_built choice helpers n (Conjunction p q) has can helped =
    let enough = helped.enough in
    All-append (IsBuilt choice helpers n) (atoms p) (atoms q)
    (all_built choice helpers n p has.0 can.0 (record { enough = omega (arith, enough); few = helped.few; none = helped.none }))
    (all_built choice helpers n q has.1 can.1 (record { enough = omega (arith, enough); few = helped.few; none = helped.none }))
all_built choice helpers n (Disjunction p q) has can helped =
    let enough = helped.enough in
    All-append (IsBuilt choice helpers n) (atoms p) (atoms q)
    (all_built choice helpers n p has.0 can.0 (record { enough = omega (arith, enough); few = helped.few; none = helped.none }))
    (all_built choice helpers n q has.1 can.1 (record { enough = omega (arith, enough); few = helped.few; none = helped.none }))

pub pred_buildable : (choice : NetLeaves) (n : ℕ) (tree : PredTree) → IsPred n tree → fault_in choice tree ≡ None → AreBuildable choice tree
pred_buildable choice n tree is none = buildable choice n tree is.some_variable is.variables is.atoms (keeps_sizes choice tree none).fits

-- with the helpers of the net
abbrev IsBuiltIn : NetLeaves → PredTree → ℕ → PredTree → Type 0
IsBuiltIn choice tree n = IsBuilt choice (most_helpers choice tree) n

pub pred_built : (choice : NetLeaves) (n : ℕ) (tree : PredTree) → IsPred n tree → fault_in choice tree ≡ None → All (IsBuiltIn choice tree n) (atoms tree)
pred_built choice n tree is none = all_built choice (most_helpers choice tree) n tree is.atoms (pred_buildable choice n tree is none) (net_helped choice tree)

-- ---- the whole proof

parts-long : (choice : NetLeaves) (helpers : ℕ) (xs : List PredTree) (parts : List LeafProof) → AreAtomProofs choice helpers xs parts → length parts ≡ length xs
parts-long choice helpers [] [] h = refl
parts-long choice helpers [] (part ∷ parts) h = absurd h
parts-long choice helpers (a ∷ xs) [] h = absurd h
parts-long choice helpers (a ∷ xs) (part ∷ parts) h = ap suc (parts-long choice helpers xs parts h.1)

parts-trees : (choice : NetLeaves) (helpers : ℕ) (xs : List PredTree) (parts : List LeafProof) → AreAtomProofs choice helpers xs parts → map (λ (part : LeafProof). part.pred.tree) parts ≡ xs
parts-trees choice helpers [] [] h = refl
parts-trees choice helpers [] (part ∷ parts) h = absurd h
parts-trees choice helpers (a ∷ xs) [] h = absurd h
parts-trees choice helpers (a ∷ xs) (part ∷ parts) h = ap (λ t. t ∷ map (λ (part : LeafProof). part.pred.tree) parts) h.0.tree_is ∙ ap (λ ts. a ∷ ts) (parts-trees choice helpers xs parts h.1)

parts-valid : (choice : NetLeaves) (helpers : ℕ) (xs : List PredTree) (parts : List LeafProof) → AreAtomProofs choice helpers xs parts → (i : ℕ) (leaf : LeafModel) (part : LeafProof) → slice_get (map (leaf_of choice helpers) xs) i ≡ Some leaf → slice_get parts i ≡ Some part → ValidLeafProof leaf part
parts-valid choice helpers [] [] h i leaf part e f = cc
parts-valid choice helpers [] (p ∷ parts) h i leaf part e f = absurd h
parts-valid choice helpers (a ∷ xs) [] h i leaf part e f = absurd h
parts-valid choice helpers (a ∷ xs) (p ∷ parts) h zero leaf part e f =
    subst (λ l. ValidLeafProof l part) (same_Some _ _ e) (subst (ValidLeafProof (leaf_of choice helpers a)) (same_Some _ _ f) h.0.valid)
parts-valid choice helpers (a ∷ xs) (p ∷ parts) h (suc i) leaf part e f = parts-valid choice helpers xs parts h.1 i leaf part e f

-- the layers of each leaf are tame
parts-tame : (choice : NetLeaves) (helpers : ℕ) (xs : List PredTree) (parts : List LeafProof) → AreAtomProofs choice helpers xs parts → (i : ℕ) (leaf : LeafModel) (part : LeafProof) → slice_get (map (leaf_of choice helpers) xs) i ≡ Some leaf → slice_get parts i ≡ Some part → TameLayers leaf part.layers
parts-tame choice helpers [] [] h i leaf part e f = cc
parts-tame choice helpers [] (p ∷ parts) h i leaf part e f = absurd h
parts-tame choice helpers (a ∷ xs) [] h i leaf part e f = absurd h
parts-tame choice helpers (a ∷ xs) (p ∷ parts) h zero leaf part e f =
    subst (λ l. TameLayers l part.layers) (same_Some _ _ e) (subst (λ (q : LeafProof). TameLayers (leaf_of choice helpers a) q.layers) (same_Some _ _ f) h.0.tame)
parts-tame choice helpers (a ∷ xs) (p ∷ parts) h (suc i) leaf part e f = parts-tame choice helpers xs parts h.1 i leaf part e f

pub net-tame : (choice : NetLeaves) (names : List (List ℕ)) (tree : PredTree) (parts : List LeafProof) → AreAtomProofs choice (most_helpers choice tree) (atoms tree) parts → AreTameEach (net_of choice names tree) (record { leaves = parts })
net-tame choice names tree parts h = parts-tame choice (most_helpers choice tree) (atoms tree) parts h

parts-within : (choice : NetLeaves) (helpers : ℕ) (n : ℕ) (xs : List PredTree) (parts : List LeafProof) → AreAtomProofs choice helpers xs parts → All (IsBuilt choice helpers n) xs → All (IsLeafProofWithin n) parts
parts-within choice helpers n [] [] h built = All-nil (IsLeafProofWithin n)
parts-within choice helpers n [] (part ∷ parts) h built = absurd h
parts-within choice helpers n (a ∷ xs) [] h built = absurd h
parts-within choice helpers n (a ∷ xs) (part ∷ parts) h built =
    All-cons (IsLeafProofWithin n) part parts (subst (λ k. IsLeafProofWithin k part) (built 0 a (omega arith)).inputs h.0.within) (parts-within choice helpers n xs parts h.1 (All-tail (IsBuilt choice helpers n) a xs built))

pub proof-valid : (choice : NetLeaves) (names : List (List ℕ)) (n : ℕ) (tree : PredTree) (parts : List LeafProof) → AreAtomProofs choice (most_helpers choice tree) (atoms tree) parts → ValidProof (net_of choice names tree) (over_count n tree) (record { leaves = parts })
proof-valid choice names n tree parts h = record {
  one_each = parts-long choice (most_helpers choice tree) (atoms tree) parts h ∙ sym (length-map (atoms tree) (leaf_of choice (most_helpers choice tree)));
  leaves = parts-valid choice (most_helpers choice tree) (atoms tree) parts h;
  combination =
      combined-postfix (trees (map (λ (part : LeafProof). part.pred.tree) parts)) tree
      ∙ ap (λ ps. Some (value_at (trees ps) 0 tree)) (parts-trees choice (most_helpers choice tree) (atoms tree) parts h)
      ∙ ap Some (tree-again (atoms tree) 0 tree (λ i l. ap (λ k. get_or (atoms tree) k (LessThan [] (pos 0))) (zero-add i)));
}

-- the proof is within the limits
pub proof-within : (choice : NetLeaves) (names : List (List ℕ)) (n : ℕ) (tree : PredTree) (parts : List LeafProof) → AreAtomProofs choice (most_helpers choice tree) (atoms tree) parts → IsPred n tree → fault_in choice tree ≡ None → IsProofWithin n (length (net_of choice names tree).leaves) (record { leaves = parts })
proof-within choice names n tree parts h is none = record {
  one_each = parts-long choice (most_helpers choice tree) (atoms tree) parts h ∙ sym (length-map (atoms tree) (leaf_of choice (most_helpers choice tree)));
  parts = parts-within choice (most_helpers choice tree) n (atoms tree) parts h (pred_built choice n tree is none);
}

-- each atom is a predicate, and so is that of its proof
atom_preds : (n : ℕ) (tree : PredTree) → 1 ≤ n → n ≤ VARIABLE_LIMIT → HasAtoms n tree → All (IsPred n) (atoms tree)
atom_preds n (LessThan coefs bound) some few has =
    All-cons (IsPred n) (LessThan coefs bound) [] (record { some_variable = some; variables = few; atoms = has; weight = omega arith }) (All-nil (IsPred n))
atom_preds n (Congruent coefs m rest) some few has =
    All-cons (IsPred n) (Congruent coefs m rest) [] (record { some_variable = some; variables = few; atoms = has; weight = omega arith }) (All-nil (IsPred n))
atom_preds n (Negation p) some few has = atom_preds n p some few has
atom_preds n (Conjunction p q) some few has = All-append (IsPred n) (atoms p) (atoms q) (atom_preds n p some few has.0) (atom_preds n q some few has.1)
atom_preds n (Disjunction p q) some few has = All-append (IsPred n) (atoms p) (atoms q) (atom_preds n p some few has.0) (atom_preds n q some few has.1)

abbrev IsPart : ℕ → LeafProof → Type 0
IsPart n part = IsPred n part.pred.tree

part_preds : (choice : NetLeaves) (helpers : ℕ) (n : ℕ) (xs : List PredTree) (parts : List LeafProof) → AreAtomProofs choice helpers xs parts → All (IsPred n) xs → All (IsPart n) parts
part_preds choice helpers n [] [] h preds = All-nil (IsPart n)
part_preds choice helpers n [] (part ∷ parts) h preds = absurd h
part_preds choice helpers n (a ∷ xs) [] h preds = absurd h
part_preds choice helpers n (a ∷ xs) (part ∷ parts) h preds =
    All-cons (IsPart n) part parts (subst (IsPred n) (sym h.0.tree_is) (All-head (IsPred n) a xs preds)) (part_preds choice helpers n xs parts h.1 (All-tail (IsPred n) a xs preds))

pub proof-preds : (choice : NetLeaves) (n : ℕ) (tree : PredTree) (parts : List LeafProof) → AreAtomProofs choice (most_helpers choice tree) (atoms tree) parts → IsPred n tree → All (IsPart n) parts
proof-preds choice n tree parts h is = part_preds choice (most_helpers choice tree) n (atoms tree) parts h (atom_preds n tree is.some_variable is.variables is.atoms)

-- no leaf has two moves that take the same states
pub net-single : (choice : NetLeaves) (names : List (List ℕ)) (n : ℕ) (tree : PredTree) → IsPred n tree → fault_in choice tree ≡ None → IsSingle (net_of choice names tree)
net-single choice names n tree is none =
    All-map (λ leaf. AllPairs Differ leaf.moves) (leaf_of choice (most_helpers choice tree)) (atoms tree) (All-weaker (IsBuiltIn choice tree n) (λ a. AllPairs Differ (leaf_of choice (most_helpers choice tree) a).moves) (λ a b. b.single) (atoms tree) (pred_built choice n tree is none))

-- ---- the net

all_helped : (choice : NetLeaves) (helpers n : ℕ) (xs : List PredTree) → 1 ≤ length xs → All (IsBuilt choice helpers n) xs → helpers_of (map (leaf_of choice helpers) xs) ≡ helpers
all_helped choice helpers n [] some built = absurd (omega (arith, some))
all_helped choice helpers n (a ∷ xs) some built = (built 0 a (omega arith)).helped

not-wide : (choice : NetLeaves) (tree : PredTree) (n : ℕ) → All (IsBuiltIn choice tree n) (atoms tree) → KeepsSizes choice tree → is_wide (map (leaf_of choice (most_helpers choice tree)) (atoms tree)) ≡ true → length (atoms tree) ≤ WIDE_LEAF_LIMIT
not-wide choice tree n built keeps wide = elim (cases_lt WIDE_LEAF_LIMIT (length (atoms tree))) [
  | inl many ↦ absurd (false≢true (sym (list_any_none is_wide_leaf (map (leaf_of choice (most_helpers choice tree)) (atoms tree)) (All-map (λ leaf. is_wide_leaf leaf ≡ false) (leaf_of choice (most_helpers choice tree)) (atoms tree) (λ k d l. (built k d l).narrow (keeps.not_wide many k d l)))) ∙ wide))
  | inr few ↦ few
]

pub net-formed : (choice : NetLeaves) (names : List (List ℕ)) (tree : PredTree) → AreNames variable_name names → IsPred (length names) tree → fault_in choice tree ≡ None → IsNet (net_of choice names tree)
net-formed choice names tree formed is none =
    let n = length names in
    let built = pred_built choice n tree is none in
    let keeps = keeps_sizes choice tree none in
    let long = length-map (atoms tree) (leaf_of choice (most_helpers choice tree)) in
    record {
      variable_names = formed;
      some_variable = is.some_variable;
      variables = is.variables;
      some_leaf = (let e = some_atom tree in omega (arith, long));
      leaf_count = (let few = keeps.few in omega (arith, long));
      leaves = All-map IsLeaf (leaf_of choice (most_helpers choice tree)) (atoms tree) (All-weaker (IsBuiltIn choice tree n) (λ a. IsLeaf (leaf_of choice (most_helpers choice tree) a)) (λ a b. b.formed) (atoms tree) built);
      inputs = All-map (λ leaf. length leaf.inputs ≡ n) (leaf_of choice (most_helpers choice tree)) (atoms tree) (All-weaker (IsBuiltIn choice tree n) (λ a. length (leaf_of choice (most_helpers choice tree) a).inputs ≡ n) (λ a b. b.inputs) (atoms tree) built);
      items = (let e = items-most 0 tree in let w = is.weight in let few = keeps.few in omega (arith, e, w, few));
      leaf_numbers = names-below 0 (length (map (leaf_of choice (most_helpers choice tree)) (atoms tree))) tree (omega (arith, long));
      depth = subst (λ o. IsSomeAnd o (λ d. d ≤ DEPTH_LIMIT)) (sym (combined-postfix depth_operators tree)) (let e = depth-most 0 tree in let w = is.weight in omega (arith, e, w));
      helpers = All-map (λ leaf. length leaf.helpers ≡ number_of_helpers (net_of choice names tree)) (leaf_of choice (most_helpers choice tree)) (atoms tree) (All-weaker (IsBuiltIn choice tree n) (λ a. length (leaf_of choice (most_helpers choice tree) a).helpers ≡ number_of_helpers (net_of choice names tree)) (λ a b. b.helped ∙ sym (all_helped choice (most_helpers choice tree) n (atoms tree) (some_atom tree) built)) (atoms tree) built);
      wide = λ w. (let few = not-wide choice tree n built keeps w in omega (arith, long, few));
    }

-- the proof allows the steps of all atoms together
pub bound-is : (choice : NetLeaves) (helpers : ℕ) (xs : List PredTree) (parts : List LeafProof) → AreAtomProofs choice helpers xs parts → sum_by (λ (part : LeafProof). layers_bound part.layers) parts ≡ sum_by (atom_steps choice) xs
bound-is choice helpers [] [] h = refl
bound-is choice helpers [] (part ∷ parts) h = absurd h
bound-is choice helpers (x ∷ xs) [] h = absurd h
bound-is choice helpers (x ∷ xs) (part ∷ parts) h =
    let a = sum_by-cons (λ (part : LeafProof). layers_bound part.layers) part parts in
    let b = sum_by-cons (atom_steps choice) x xs in
    let here = h.0.bound in
    let more = bound-is choice helpers xs parts h.1 in
    omega (arith, a, b, here, more)

-- so the net is right
pub net-right : (choice : NetLeaves) (names : List (List ℕ)) (tree : PredTree) (parts : List LeafProof) → AreAtomProofs choice (most_helpers choice tree) (atoms tree) parts → AreNames variable_name names → IsPred (length names) tree
    → fault_in choice tree ≡ None → IsRight (net_of choice names tree) (over_count (length names) tree) (record { leaves = parts })
net-right choice names tree parts h formed is none =
    let n = length names in
    let within = (proof-within choice names n tree parts h is none).parts in
    let preds = proof-preds choice n tree parts h is in
    sound (net_of choice names tree) (over_count n tree) (record { leaves = parts }) (net-formed choice names tree formed is none)
    (λ i part at.
    let over = (All-slice_get (IsLeafProofWithin n) parts i part within at).pred in
    (over, subst (λ k. HasAtoms k part.pred.tree) (sym over) (All-slice_get (IsPart n) parts i part preds at).atoms))
    (proof-valid choice names n tree parts h)

-- the net as the code puts it together
pub net-as : (choice : NetLeaves) (names copies : List (List ℕ)) (tree : PredTree) (leaves : List LeafModel) (items : List Item) → copies ≡ names → leaves ≡ map (leaf_of choice (most_helpers choice tree)) (atoms tree) → items ≡ postfix 0 tree → record { variables = copies; leaves = leaves; combine = items } ≡ net_of choice names tree
net-as choice names copies tree leaves items en el ei =
    let net : List (List ℕ) → List LeafModel → List Item → NetModel = λ n l i. record { variables = n; leaves = l; combine = i } in
    ap (λ n. net n leaves items) en ∙ ap (λ l. net names l items) el ∙ ap (λ i. net names (map (leaf_of choice (most_helpers choice tree)) (atoms tree)) i) ei
