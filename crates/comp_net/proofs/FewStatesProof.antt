-- In a succinct net the leaf of a comparison has few states.
use Rattle.std.proofs.Common.{◌≡◌, ◌⊎◌, ◌∙◌, inl, inr, subst, ℕ, ◌+◌, ◌-◌, ◌*◌, ◌^◌, ◌<◌, ◌≤◌, Bool, true, false, List, length, refl, ap, sym, arith}
use Rattle.std.specs.Prelude.{ℤ, pos, negsuc, nat_abs, nat_le, All, Option, Some, None, slice_get, if◌then◌else◌}
use Rattle.std.specs.List.{list_all}
use Rattle.std.proofs.lemmas.Bool.{cases_lt, le-leb}
use Rattle.std.proofs.lemmas.Nat.{mul-le}
use Rattle.std.proofs.lemmas.Option.{slice_get-map, same_Some}
use Rattle.std.specs.Option.{option_map}
use Rattle.std.proofs.lemmas.List.Sums.{list_all-from_AllPass}
use Rattle.std.proofs.lemmas.List.FromFn.{length-map-range_with_len}
use Rattle.pop_leaf.specs.LeafModel.{LeafModel}
use Rattle.pop_leaf.proofs.Quiet.{All-slice_get}
use Rattle.pres_ast.specs.PredTree.{PredTree, LessThan}
use Rattle.comp_trees.specs.declared.range.TheConstants.{RANGE_LIMIT}
use Rattle.comp_trees.proofs.Bits.{some_power}
use Rattle.comp_counting.specs.FlockAtoms.{enough_for, offset_power}
use Rattle.comp_counting.proofs.FirstFound.{find-first}
use Rattle.comp_flock.specs.FlockLeaf.{power_worths}
use Rattle.comp_flock.proofs.PowerFound.{offset_least}
use Rattle.comp_flock.specs.PrefixLeaf.{prefix_top, bound_worths, last_place}
use Rattle.comp_flock.specs.CountLeaf.{count_state_name}
use Rattle.comp_flock.proofs.Chain.{worths-chain}
use Rattle.comp_flock.proofs.TopFound.{top-is}
use Rattle.comp_powers_leaf.specs.PowersRange.{bound_size, suffices, powers_range}
use Rattle.comp_powers_leaf.proofs.Formed.{states-long}
use Rattle.comp_powers_leaf.proofs.Building.{states-few}
use Rattle.comp_net.specs.declared.choice.LeafChoice.TheVariants.{Succinct}
use Rattle.comp_net.specs.declared.choice.NetLeaves.TheVariants.{Alone, Helped}
use Rattle.comp_net.specs.Atoms.{atoms, prefix_or_none, powers_or_none, offset_or, less_leaf_for, is_none, are_alone, leaves_for, most_helpers}
use Rattle.comp_net.specs.BuiltNet.{less_leaf, leaf_of}
use Rattle.comp_net.specs.FewStates.{FewStatesLaw}
use Rattle.comp_net.proofs.Narrow.{Fits, keeps_sizes}
use Rattle.comp_net.proofs.FewerStates.{enough-within, lower}

sized : (a : ℤ) (d : ℕ) → nat_abs a < 2 ^ d → bound_size a ≤ 2 ^ d
sized (pos n) d l = omega (arith, l)
sized (negsuc n) d l = omega (arith, l)

module _ (coefs : List ℤ) (bound : ℤ) (d : ℕ) (small : All (λ a. nat_abs a < 2 ^ d) coefs) (low : nat_abs bound < 2 ^ d) where
  abbrev most : ℕ
  most = 2 * d + 5 + (d + 1) * length coefs

  enough : enough_for bound ≤ 2 ^ d
  enough = enough-within bound (2 ^ d) (let s = some_power d in omega (arith, s)) (sized bound d low)

  passes : suffices coefs bound d ≡ true
  passes =
      let each = list_all-from_AllPass (λ a. nat_le (nat_abs a) (2 ^ d)) coefs (λ j x l. le-leb _ _ (let s = small j x l in omega (arith, s))) in
      rw (each, le-leb (bound_size bound) (2 ^ d) (sized bound d low)) refl

  range-low : (k : ℕ) → powers_range coefs bound ≡ Some k → k ≤ d
  range-low k e = go (cases_lt d k)
    where
      go : (d < k) ⊎ (k ≤ d) → k ≤ d
      go (inl m) = let none = find-first (suffices coefs bound) 0 (RANGE_LIMIT + 1) k e d (omega arith) m in absurd (let f : true ≡ false = sym passes ∙ none in cc)
      go (inr m) = m

  module _ (helpers : ℕ) where
    prefix-few : (o : Option ℕ) → prefix_top coefs bound ≡ o → is_none (prefix_or_none o) ≡ false → length (less_leaf coefs bound helpers (prefix_or_none o)).states ≤ most
    prefix-few None e some = absurd (let f : true ≡ false = some in cc)
    prefix-few (Some top) e some =
        let is = top-is coefs bound top e in
        let chain = worths-chain (enough_for bound) top is.least is.most in
        let top_low = lower top d (let least = is.least in omega (arith, least, enough)) in
        let states = length-map-range_with_len (count_state_name (bound_worths bound top)) 0 (last_place bound top + 2) in
        let long = chain.long in
        let few = chain.few in
        omega (arith, states, long, few, top_low)

    powers-few : (o : Option ℕ) → powers_range coefs bound ≡ o → is_none (powers_or_none o) ≡ false → length (less_leaf coefs bound helpers (powers_or_none o)).states ≤ most
    powers-few None e some = absurd (let f : true ≡ false = some in cc)
    powers-few (Some k) e some =
        let range = range-low k e in
        let long = states-long coefs bound k in
        let few = states-few coefs k in
        let times = mul-le (k + 1) (length coefs) (d + 1) (length coefs) (omega (arith, range)) (omega arith) in
        omega (arith, range, long, few, times)

    offset-few : (o : Option ℕ) → offset_power coefs bound ≡ o → is_none (offset_or (powers_or_none (powers_range coefs bound)) o) ≡ false → length (less_leaf coefs bound helpers (offset_or (powers_or_none (powers_range coefs bound)) o)).states ≤ most
    offset-few None e some = powers-few (powers_range coefs bound) refl some
    offset-few (Some k) e some =
        let power_low = (offset_least coefs bound k e).least d enough in
        let states = length-map-range_with_len (count_state_name (power_worths k)) 0 (k + 2) in
        omega (arith, states, power_low)

    leaf-few : (alone : Bool) → is_none (less_leaf_for (if alone then Alone else Helped) coefs bound) ≡ false → length (less_leaf coefs bound helpers (less_leaf_for (if alone then Alone else Helped) coefs bound)).states ≤ most
    leaf-few true some = prefix-few (prefix_top coefs bound) refl some
    leaf-few false some = offset-few (offset_power coefs bound) refl some

pub few_states : FewStatesLaw
few_states names tree i d coefs bound leaf none at here small low =
    let choice = leaves_for Succinct tree in
    let helpers = most_helpers choice tree in
    let keeps = keeps_sizes choice tree none in
    let fits = All-slice_get (Fits choice) (atoms tree) i (LessThan coefs bound) keeps.fits at in
    let same : leaf_of choice helpers (LessThan coefs bound) ≡ leaf =
    same_Some _ _ (sym (slice_get-map (leaf_of choice helpers) (atoms tree) i ∙ ap (option_map (leaf_of choice helpers)) at) ∙ here) in
    subst (λ (l : LeafModel). length l.states ≤ 2 * d + 5 + (d + 1) * length coefs) same (leaf-few coefs bound d small low helpers (are_alone tree) fits.0)
