-- What is known of the leaf that an atom `LessThan` gets.
use Rattle.std.proofs.Common.{◌≡◌, ℕ, ◌+◌, ◌<◌, ◌≤◌, Bool, true, false, List, length, refl, subst, arith}
use Rattle.std.specs.Prelude.{ℤ, Option, Some, None}
use Rattle.std.specs.List.{range_with_len}
use Rattle.std.proofs.lemmas.Option.{slice_get_within, get_or_from_slice_get}
use Rattle.std.proofs.lemmas.List.FromFn.{length-range_with_len, get_or-range_with_len}
use Rattle.pop_leaf.proofs.Found.{find_some}
use Rattle.pop_leaf.specs.declared.limits.TheConstants.{STATE_LIMIT, NARROW_STATE_LIMIT, HELPER_LIMIT}
use Rattle.pres_ast.specs.PredModel.{IsAtomSum}
use Rattle.pres_ast.specs.PredTree.{PredTree, LessThan, Congruent, Negation, Conjunction, Disjunction}
use Rattle.comp_threshold.specs.declared.limits.TheConstants.{WIDTH_LIMIT}
use Rattle.comp_threshold.specs.ThresholdLeaf.{threshold_width}
use Rattle.comp_threshold.specs.declared.fault.ThresholdFault.{ThresholdFault}
use Rattle.comp_threshold.specs.declared.fault.ThresholdFault.TheVariants.{TooWide}
use Rattle.comp_threshold.specs.Built.{IsWidthFault}
use Rattle.comp_counting.specs.FlockAtoms.{power_of, offset_power, IsOffset}
use Rattle.comp_counting.specs.declared.limits.TheConstants.{POWER_LIMIT}
use Rattle.comp_flock.proofs.Offsets.{helpers-most}
use Rattle.comp_flock.proofs.PowerFound.{IsPower, power_is, IsOffsetPower, offset_power_is}
use Rattle.comp_flock.specs.PrefixLeaf.{IsPrefix, prefix_top}
use Rattle.comp_flock.proofs.TopFound.{IsTop, top-is, top-low, top-prefix}
use Rattle.comp_trees.specs.declared.range.TheConstants.{RANGE_LIMIT}
use Rattle.comp_powers_leaf.specs.PowersLeaf.{roles, IsPowers}
use Rattle.comp_powers_leaf.specs.PowersRange.{suffices, powers_range}
use Rattle.comp_powers_leaf.proofs.RangeFound.{range-suffices}
use Rattle.comp_net.specs.declared.limits.TheConstants.{NARROW_WIDTH_LIMIT}
use Rattle.comp_net.specs.declared.choice.NetLeaves.{NetLeaves}
use Rattle.comp_net.specs.declared.choice.NetLeaves.TheVariants.{Plain, Flocks, Alone, Helped}
use Rattle.comp_net.specs.declared.choice.LessLeaf.{LessLeaf}
use Rattle.comp_net.specs.declared.choice.LessLeaf.TheVariants.{Threshold, Flock, Offset, Prefix, Powers, NoLeaf}
use Rattle.comp_net.specs.Atoms.{flock_or_threshold, offset_or, prefix_or_none, powers_or_none, less_leaf_for, less_helpers, most_helpers, less_size, atom_size, size_limit, narrow_limit}

-- the range is one of those that are tried
pub range-low : (coefs : List ℤ) (bound : ℤ) (k : ℕ) → powers_range coefs bound ≡ Some k → k ≤ RANGE_LIMIT
range-low coefs bound k e =
    let found = find_some (suffices coefs bound) (range_with_len 0 (RANGE_LIMIT + 1)) k e in
    let below : found.0 < RANGE_LIMIT + 1 = omega (arith, slice_get_within (range_with_len 0 (RANGE_LIMIT + 1)) found.0 k found.1, length-range_with_len 0 (RANGE_LIMIT + 1)) in
    let at = get_or-range_with_len 0 (RANGE_LIMIT + 1) found.0 k below in
    let got = get_or_from_slice_get (range_with_len 0 (RANGE_LIMIT + 1)) found.0 k k found.1 in
    omega (arith, below, at, got)

abbrev pub has_helpers : NetLeaves → Bool
has_helpers Plain = false
has_helpers Flocks = false
has_helpers Alone = false
has_helpers Helped = true

-- what is known with each leaf: which limits hold, and where its number comes from
abbrev pub IsChosen : NetLeaves → List ℤ → ℤ → LessLeaf → Type 0
IsChosen choice coefs bound Threshold =
    (has_helpers choice ≡ false) × (size_limit choice ≡ WIDTH_LIMIT) × (narrow_limit choice ≡ NARROW_WIDTH_LIMIT)
IsChosen choice coefs bound (Flock k) = (has_helpers choice ≡ false) × IsPower coefs bound k
IsChosen choice coefs bound (Offset k) = IsOffsetPower coefs bound k
IsChosen choice coefs bound (Prefix top) = (has_helpers choice ≡ false) × IsTop coefs bound top
IsChosen choice coefs bound (Powers k) =
    (size_limit choice ≡ STATE_LIMIT) × (narrow_limit choice ≡ NARROW_STATE_LIMIT) × (powers_range coefs bound ≡ Some k)
IsChosen choice coefs bound NoLeaf = Unit {0}

pub chosen : (choice : NetLeaves) (coefs : List ℤ) (bound : ℤ) → IsChosen choice coefs bound (less_leaf_for choice coefs bound)
chosen Plain coefs bound = (refl, refl, refl)
chosen Flocks coefs bound = go (power_of coefs bound) refl
  where
    go : (o : Option ℕ) → power_of coefs bound ≡ o → IsChosen Flocks coefs bound (flock_or_threshold o)
    go None e = (refl, refl, refl)
    go (Some k) e = (refl, power_is coefs bound k e)
chosen Alone coefs bound = go (prefix_top coefs bound) refl
  where
    go : (o : Option ℕ) → prefix_top coefs bound ≡ o → IsChosen Alone coefs bound (prefix_or_none o)
    go None e = tt
    go (Some top) e = (refl, top-is coefs bound top e)
chosen Helped coefs bound = first (offset_power coefs bound) refl
  where
    go : (o : Option ℕ) → powers_range coefs bound ≡ o → IsChosen Helped coefs bound (powers_or_none o)
    go None e = tt
    go (Some k) e = (refl, refl, e)

    first : (o : Option ℕ) → offset_power coefs bound ≡ o → IsChosen Helped coefs bound (offset_or (powers_or_none (powers_range coefs bound)) o)
    first None e = go (powers_range coefs bound) refl
    first (Some k) e = offset_power_is coefs bound k e

pub chosen_as : (choice : NetLeaves) (coefs : List ℤ) (bound : ℤ) (leaf : LessLeaf) → less_leaf_for choice coefs bound ≡ leaf → IsChosen choice coefs bound leaf
chosen_as choice coefs bound leaf e = subst (IsChosen choice coefs bound) e (chosen choice coefs bound)

pub range_found : (choice : NetLeaves) (coefs : List ℤ) (bound : ℤ) (k : ℕ) → less_leaf_for choice coefs bound ≡ Powers k → k ≤ RANGE_LIMIT
range_found choice coefs bound k e = let is = chosen_as choice coefs bound (Powers k) e in range-low coefs bound k is.2

pub offset_low : (choice : NetLeaves) (coefs : List ℤ) (bound : ℤ) (k : ℕ) → less_leaf_for choice coefs bound ≡ Offset k → k ≤ POWER_LIMIT
offset_low choice coefs bound k e = (chosen_as choice coefs bound (Offset k) e).high

pub offset_is_one : (choice : NetLeaves) (coefs : List ℤ) (bound : ℤ) (k : ℕ) → less_leaf_for choice coefs bound ≡ Offset k → IsAtomSum coefs → IsOffset coefs bound k
offset_is_one choice coefs bound k e sum =
    let is = chosen_as choice coefs bound (Offset k) e in record { sum = sum; are = is.are; high = is.high; within = is.within }

pub top_low : (choice : NetLeaves) (coefs : List ℤ) (bound : ℤ) (top : ℕ) → less_leaf_for choice coefs bound ≡ Prefix top → top ≤ POWER_LIMIT
top_low choice coefs bound top e = top-low coefs bound top (chosen_as choice coefs bound (Prefix top) e).1

pub prefix_is_one : (choice : NetLeaves) (coefs : List ℤ) (bound : ℤ) (top : ℕ) → less_leaf_for choice coefs bound ≡ Prefix top → IsAtomSum coefs → IsPrefix coefs bound top
prefix_is_one choice coefs bound top e sum = top-prefix coefs bound top sum (chosen_as choice coefs bound (Prefix top) e).1

-- the range suffices where the leaf isn't too large
pub powers_found : (choice : NetLeaves) (coefs : List ℤ) (bound : ℤ) (k : ℕ) → less_leaf_for choice coefs bound ≡ Powers k → IsAtomSum coefs → atom_size choice (LessThan coefs bound) ≤ size_limit choice → IsPowers coefs bound k
powers_found choice coefs bound k e sum few =
    let is = chosen_as choice coefs bound (Powers k) e in
    let size : length (roles coefs k) ≤ size_limit choice = subst (λ (l : LessLeaf). less_size coefs bound l ≤ size_limit choice) e few in
    let limit = is.0 in
    range-suffices coefs bound k is.2 sum.some sum.few (omega (arith, size, limit))

-- a threshold isn't too wide
pub threshold_narrow : (choice : NetLeaves) (coefs : List ℤ) (bound : ℤ) → less_leaf_for choice coefs bound ≡ Threshold → atom_size choice (LessThan coefs bound) ≤ size_limit choice → threshold_width coefs bound ≤ WIDTH_LIMIT
threshold_narrow choice coefs bound e few =
    let is = chosen_as choice coefs bound Threshold e in
    let size : threshold_width coefs bound ≤ size_limit choice = subst (λ (l : LessLeaf). less_size coefs bound l ≤ size_limit choice) e few in
    let limit = is.1 in
    omega (arith, size, limit)

pub not_too_wide : (coefs : List ℤ) (bound : ℤ) (f : ThresholdFault) → threshold_width coefs bound ≤ WIDTH_LIMIT → IsWidthFault coefs bound f → ⊥
not_too_wide coefs bound (TooWide s) narrow wide = let same = wide.0 in let over = wide.1 in omega (arith, narrow, same, over)

-- ---- helpers

few_helpers : (choice : NetLeaves) (coefs : List ℤ) (bound : ℤ) (leaf : LessLeaf) → IsChosen choice coefs bound leaf → less_helpers bound leaf ≤ RANGE_LIMIT + 2
few_helpers choice coefs bound Threshold is = omega arith
few_helpers choice coefs bound (Flock k) is = omega arith
few_helpers choice coefs bound (Offset k) is = let most = helpers-most bound k in let high = is.high in omega (arith, most, high)
few_helpers choice coefs bound (Prefix top) is = omega arith
few_helpers choice coefs bound (Powers k) is = let low = range-low coefs bound k is.2 in omega (arith, low)
few_helpers choice coefs bound NoLeaf is = omega arith

pub helpers-few : (choice : NetLeaves) (tree : PredTree) → most_helpers choice tree ≤ RANGE_LIMIT + 2
helpers-few choice (LessThan coefs bound) = few_helpers choice coefs bound (less_leaf_for choice coefs bound) (chosen choice coefs bound)
helpers-few choice (Congruent coefs m rest) = omega arith
helpers-few choice (Negation p) = helpers-few choice p
helpers-few choice (Conjunction p q) = let a = helpers-few choice p in let b = helpers-few choice q in omega (arith, a, b)
helpers-few choice (Disjunction p q) = let a = helpers-few choice p in let b = helpers-few choice q in omega (arith, a, b)

pub helpers-held : (choice : NetLeaves) (tree : PredTree) → most_helpers choice tree ≤ HELPER_LIMIT
helpers-held choice tree = let few = helpers-few choice tree in omega (arith, few)

-- only succinct nets have helpers, where not all atoms can do without
no_prefix_helpers : (bound : ℤ) (o : Option ℕ) → less_helpers bound (prefix_or_none o) ≡ 0
no_prefix_helpers bound None = refl
no_prefix_helpers bound (Some top) = refl

no_flock_helpers : (bound : ℤ) (o : Option ℕ) → less_helpers bound (flock_or_threshold o) ≡ 0
no_flock_helpers bound None = refl
no_flock_helpers bound (Some k) = refl

pub helpers-none : (choice : NetLeaves) (tree : PredTree) → has_helpers choice ≡ false → most_helpers choice tree ≡ 0
helpers-none Plain (LessThan coefs bound) e = refl
helpers-none Flocks (LessThan coefs bound) e = no_flock_helpers bound (power_of coefs bound)
helpers-none Alone (LessThan coefs bound) e = no_prefix_helpers bound (prefix_top coefs bound)
helpers-none Helped (LessThan coefs bound) e = cc
helpers-none choice (Congruent coefs m rest) e = refl
helpers-none choice (Negation p) e = helpers-none choice p e
helpers-none choice (Conjunction p q) e = let a = helpers-none choice p e in let b = helpers-none choice q e in omega (arith, a, b)
helpers-none choice (Disjunction p q) e = let a = helpers-none choice p e in let b = helpers-none choice q e in omega (arith, a, b)
