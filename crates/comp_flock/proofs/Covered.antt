-- What all nodes of a built leaf rest on.
use Rattle.std.proofs.Common.{◌≡◌, ◌∙◌, ℕ, ◌+◌, ◌^◌, ◌≤◌, Bool, false, List, [], map, get_or, sym, subst, arith}
use Rattle.std.specs.Prelude.{ℤ, pos, nat_abs}
use Rattle.std.specs.List.{range_with_len}
use Rattle.std.proofs.lemmas.Int.{ints}
use Rattle.std.proofs.lemmas.List.{length-map}
use Rattle.std.proofs.lemmas.List.Elements.{All-nil, All-get_or}
use Rattle.pop_leaf.specs.LeafModel.{LeafModel}
use Rattle.pres_ast.specs.declared.limits.TheConstants.{COEFFICIENT_LIMIT}
use Rattle.comp_trees.proofs.Mixes.{IsPlain}
use Rattle.comp_counting.specs.declared.limits.TheConstants.{POWER_LIMIT}
use Rattle.comp_counting.specs.FlockAtoms.{says_enough, enough_for}
use Rattle.comp_counting.specs.FullState.{flock_start, offset_steps}
use Rattle.pres_ast.specs.PredModel.{PredModel}
use Rattle.cert_base.specs.declared.proof.LeafProof.{LeafProof}
use Rattle.comp_trees.specs.BuiltLeaf.{IsBuilt}
use Rattle.comp_counting.proofs.Opened.{opened_row, opened-long}
use Rattle.comp_counting.proofs.FullNodes.{IsCounting}
use Rattle.comp_flock.specs.CountLeaf.{count_state_name, count_moves, count_leaf}
use Rattle.comp_flock.specs.PrefixLeaf.{bound_worths, last_place, IsPrefix}
use Rattle.comp_flock.specs.Covered.{IsCovered}
use Rattle.comp_flock.proofs.Starts.{start-at, starts-full}
use Rattle.comp_flock.proofs.Formed.{states-long, bound-chain, prefix-formed, places-few}

pub prefix-covered : (coefs : List ℤ) (bound : ℤ) (top : ℕ) → IsPrefix coefs bound top → IsCovered coefs bound false (enough_for bound) (2 ^ POWER_LIMIT) (bound_worths bound top) top (last_place bound top) []
prefix-covered coefs bound top is = record {
  sum = is.sum;
  are = is.are;
  chain = bound-chain coefs bound top is;
  reach = omega arith;
  within = is.within;
  high = omega arith;
  small = λ i l. (let few = All-get_or (λ a. nat_abs a ≤ COEFFICIENT_LIMIT) coefs i (pos 0) l is.sum.small in omega (arith, few));
  formed = prefix-formed coefs bound top is;
  short = places-few coefs bound top is;
  filled = omega (arith, ints);
  low = All-nil (λ q. q ≤ last_place bound top);
}

module _ (coefs : List ℤ) (bound : ℤ) (keeps : Bool) (t most : ℕ) (ws : List ℕ) (top k : ℕ) (helpers : List ℕ) (is : IsCovered coefs bound keeps t most ws top k helpers) where
  pub is-plain : (b : Bool) → IsPlain (count_leaf coefs (says_enough bound) (enough_for bound) keeps t ws k helpers) (opened_row coefs b)
  is-plain b = record {
    helpers = is.formed.helpers;
    inputs = is.formed.inputs;
    moves = is.formed.moves;
    long = opened-long coefs b ∙ sym (length-map coefs (flock_start (enough_for bound) k));
  }

  pub is-counting : IsCounting coefs bound k (map (count_state_name ws) (range_with_len 0 (k + 2))) (count_moves keeps ws t k) helpers
  is-counting = record {
    are = is.are;
    long = states-long ws k;
    starts = λ i l. starts-full ws (enough_for bound) t top k is.chain is.reach (get_or coefs i (pos 0)) (start-at ws (enough_for bound) t top k is.chain is.reach (says_enough bound) coefs i is.are l);
    low = is.low;
    plain = is-plain;
  }

-- the same with equal parts
pub covered-as : (coefs : List ℤ) (bound : ℤ) (keeps : Bool) (t u most more : ℕ) (ws vs : List ℕ) (top k j : ℕ) (helpers others : List ℕ) → u ≡ t → more ≡ most → vs ≡ ws → j ≡ k → others ≡ helpers → IsCovered coefs bound keeps t most ws top k helpers → IsCovered coefs bound keeps u more vs top j others
covered-as coefs bound keeps t u most more ws vs top k j helpers others et em ew ek eh is =
    subst (λ x. IsCovered coefs bound keeps x more vs top j others) (sym et)
    (subst (λ x. IsCovered coefs bound keeps t x vs top j others) (sym em)
    (subst (λ x. IsCovered coefs bound keeps t most x top j others) (sym ew)
    (subst (λ x. IsCovered coefs bound keeps t most ws top x others) (sym ek)
    (subst (IsCovered coefs bound keeps t most ws top k) (sym eh) is))))

pub built-as : (coefs : List ℤ) (says : Bool) (c : ℕ) (keeps : Bool) (t u : ℕ) (ws vs : List ℕ) (k j : ℕ) (helpers others : List ℕ) (pred : PredModel) (leaf : LeafModel) (part : LeafProof) → u ≡ t → vs ≡ ws → j ≡ k → others ≡ helpers → IsBuilt (count_leaf coefs says c keeps u vs j others) pred (offset_steps j) leaf part → IsBuilt (count_leaf coefs says c keeps t ws k helpers) pred (offset_steps k) leaf part
built-as coefs says c keeps t u ws vs k j helpers others pred leaf part et ew ek eh is =
    subst (λ x. IsBuilt (count_leaf coefs says c keeps t ws k x) pred (offset_steps k) leaf part) eh
    (subst (λ x. IsBuilt (count_leaf coefs says c keeps t ws x others) pred (offset_steps x) leaf part) ek
    (subst (λ x. IsBuilt (count_leaf coefs says c keeps t x j others) pred (offset_steps j) leaf part) ew
    (subst (λ x. IsBuilt (count_leaf coefs says c keeps x vs j others) pred (offset_steps j) leaf part) et is)))
