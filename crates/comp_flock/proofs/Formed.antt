-- A built leaf is well formed.
use Rattle.std.proofs.Common.{◌≡◌, ◌⊎◌, ◌∙◌, inl, inr, subst, ℕ, ◌+◌, ◌^◌, ◌<◌, ◌≤◌, Bool, true, false, List, [], ap, length, map, sym, arith}
use Rattle.std.specs.Prelude.{ℤ, All}
use Rattle.std.specs.List.{range_with_len, list_all}
use Rattle.std.proofs.lemmas.Bool.{cases_lt}
use Rattle.std.proofs.lemmas.Fmt.{decimal_injective}
use Rattle.std.proofs.lemmas.List.{length-map}
use Rattle.std.proofs.lemmas.List.Elements.{All-nil, All-get_or, All-from_get_or}
use Rattle.std.proofs.lemmas.List.FromFn.{length-map-range_with_len}
use Rattle.pop_io.specs.declared.names.TheConstants.{VARIABLE_LIMIT}
use Rattle.pop_io.specs.Names.{state_name, AreNames}
use Rattle.pop_leaf.specs.declared.limits.TheConstants.{HELPER_LIMIT}
use Rattle.pop_leaf.specs.declared.leaf.Move.{Move}
use Rattle.pop_leaf.specs.LeafModel.{LeafModel, IsLeaf, IsMoveBelow}
use Rattle.comp_trees.proofs.StateNames.{number-named, named-apart}
use Rattle.comp_trees.proofs.Bits.{power-le}
use Rattle.comp_counting.specs.declared.limits.TheConstants.{POWER_LIMIT}
use Rattle.comp_counting.specs.FlockAtoms.{is_counted, says_enough, enough_for}
use Rattle.comp_counting.specs.FullState.{flock_start, flock_output}
use Rattle.comp_flock.specs.CountLeaf.{worth_in, count_state_name, count_moves, count_leaf}
use Rattle.comp_flock.specs.PrefixLeaf.{prefix_leaf_of, bound_worths, last_place, IsPrefix}
use Rattle.comp_flock.specs.Covered.{IsChain}
use Rattle.comp_flock.proofs.Chain.{worths-chain}
use Rattle.comp_flock.proofs.WorthLaws.{rising, no-more}
use Rattle.comp_flock.proofs.MoveLists.{all_moves, moves-few}
use Rattle.comp_flock.proofs.Starts.{starts-low}

pub states-long : (ws : List ℕ) (k : ℕ) → length (map (count_state_name ws) (range_with_len 0 (k + 2))) ≡ k + 2
states-long ws k = length-map-range_with_len (count_state_name ws) 0 (k + 2)

module _ (keeps : Bool) (ws : List ℕ) (c top k : ℕ) (is : IsChain ws c top k) where
  abbrev w : ℕ → ℕ
  w q = worth_in ws q

  names-formed : c ≤ 2 ^ POWER_LIMIT → AreNames state_name (map (count_state_name ws) (range_with_len 0 (k + 2)))
  names-formed most =
      named-apart (count_state_name ws) (k + 2) (λ i l. number-named (w i) (let a = small i l in omega (arith, a)))
      (λ i j l m e. let a = small i l in let b = small j m in apart i j l m (decimal_injective (w i) (w j) (omega (arith, a)) (omega (arith, b)) e))
    where
      small : (i : ℕ) → i < k + 2 → w i ≤ 2 ^ POWER_LIMIT
      small i l = let a = no-more ws c top k is i (omega (arith, l)) in omega (arith, a, most)

      apart : (i j : ℕ) → i < k + 2 → j < k + 2 → w i ≡ w j → i ≡ j
      apart i j l m e = go (cases_lt i j) (cases_lt j i)
        where
          go : (i < j) ⊎ (j ≤ i) → (j < i) ⊎ (i ≤ j) → i ≡ j
          go (inl n) o = let r = rising ws c top k is i j n (omega (arith, m)) in absurd (omega (arith, r, e))
          go (inr n) (inl o) = let r = rising ws c top k is j i o (omega (arith, l)) in absurd (omega (arith, r, e))
          go (inr n) (inr o) = omega (arith, n, o)

  pub moves-below : All (IsMoveBelow (k + 2)) (count_moves keeps ws c k)
  moves-below =
      all_moves keeps ws c k (IsMoveBelow (k + 2))
      (λ p q l m n. (omega (arith, m), omega (arith, l, m), omega arith, omega arith))
      (λ p q l m e. (omega (arith, m), omega (arith, l, m), omega (arith, m), omega arith))
      (λ q l. (omega arith, omega (arith, l), omega arith, omega arith))

  pub with-formed : (coefs : List ℤ) (says : Bool) (enough : ℕ) (helpers : List ℕ) → 1 ≤ length coefs → length coefs ≤ VARIABLE_LIMIT → list_all (is_counted says enough) coefs ≡ true → enough ≤ c → c ≤ 2 ^ POWER_LIMIT → k ≤ 78 → length helpers ≤ HELPER_LIMIT → All (λ q. q ≤ k) helpers → IsLeaf (count_leaf coefs says enough keeps c ws k helpers)
  with-formed coefs says enough helpers some few are reach most short room low =
      let long = states-long ws k in
      let inputs_long = length-map coefs (flock_start enough k) in
      record {
        names = names-formed most;
        some_state = omega (arith, long);
        states = omega (arith, long, short);
        move_count = (let moves = moves-few keeps ws c k (omega (arith, short)) in omega (arith, moves));
        moves = subst (λ n. All (IsMoveBelow n) (count_moves keeps ws c k)) (sym long) moves-below;
        some_input = omega (arith, inputs_long, some);
        input_count = omega (arith, inputs_long, few);
        inputs = subst (λ n. All (λ q. q < n) (map (flock_start enough k) coefs)) (sym long) (starts-low ws enough c top k is reach says coefs are);
        outputs = length-map-range_with_len (flock_output says k) 0 (k + 2) ∙ sym long;
        helper_count = room;
        helpers = All-from_get_or (λ q. q < length (map (count_state_name ws) (range_with_len 0 (k + 2)))) helpers 0 (λ i l. let at = All-get_or (λ q. q ≤ k) helpers i 0 l low in omega (arith, at, long));
      }

-- ---- the worths of an atom's states

pub place-few : (c top : ℕ) → 2 ^ top ≤ c → c ≤ 2 ^ POWER_LIMIT → top ≤ POWER_LIMIT
place-few c top least most = go (cases_lt POWER_LIMIT top)
  where
    go : (POWER_LIMIT < top) ⊎ (top ≤ POWER_LIMIT) → top ≤ POWER_LIMIT
    go (inl l) = let p = power-le (POWER_LIMIT + 1) top (omega (arith, l)) in absurd (omega (arith, p, least, most))
    go (inr l) = l

module _ (coefs : List ℤ) (bound : ℤ) (top : ℕ) (is : IsPrefix coefs bound top) where
  pub bound-chain : IsChain (bound_worths bound top) (enough_for bound) top (last_place bound top)
  bound-chain =
      let chain = worths-chain (enough_for bound) top is.least is.most in
      let long = chain.long in
      subst (IsChain (bound_worths bound top) (enough_for bound) top) (omega (arith, long)) chain

  pub top-few : top ≤ POWER_LIMIT
  top-few = place-few (enough_for bound) top is.least is.within

  pub places-few : last_place bound top ≤ 78
  places-few = let few = bound-chain.few in let low = top-few in omega (arith, few, low)

  pub prefix-formed : IsLeaf (prefix_leaf_of coefs bound top)
  prefix-formed =
      with-formed false (bound_worths bound top) (enough_for bound) top (last_place bound top) bound-chain coefs (says_enough bound) (enough_for bound) [] is.sum.some is.sum.few is.are (omega arith) is.within places-few (omega arith) (All-nil (λ q. q ≤ last_place bound top))

-- the leaf as the code puts it together
pub leaf-as : (coefs : List ℤ) (says : Bool) (c : ℕ) (keeps : Bool) (t : ℕ) (ws : List ℕ) (k : ℕ) (own : List ℕ) (states : List (List ℕ)) (moves : List Move) (inputs : List ℕ) (outputs : List Bool) (helpers : List ℕ) → states ≡ map (count_state_name ws) (range_with_len 0 (k + 2)) → moves ≡ count_moves keeps ws t k → inputs ≡ map (flock_start c k) coefs → outputs ≡ map (flock_output says k) (range_with_len 0 (k + 2)) → helpers ≡ own → record { states = states; moves = moves; inputs = inputs; outputs = outputs; helpers = helpers } ≡ count_leaf coefs says c keeps t ws k own
leaf-as coefs says c keeps t ws k own states moves inputs outputs helpers es em ei eo eh =
    let leaf : List (List ℕ) → List Move → List ℕ → List Bool → List ℕ → LeafModel = λ a b c d e. record { states = a; moves = b; inputs = c; outputs = d; helpers = e } in
    let names = map (count_state_name ws) (range_with_len 0 (k + 2)) in
    ap (λ a. leaf a moves inputs outputs helpers) es
    ∙ ap (λ b. leaf names b inputs outputs helpers) em
    ∙ ap (λ i. leaf names (count_moves keeps ws t k) i outputs helpers) ei
    ∙ ap (λ d. leaf names (count_moves keeps ws t k) (map (flock_start c k) coefs) d helpers) eo
    ∙ ap (λ e. leaf names (count_moves keeps ws t k) (map (flock_start c k) coefs) (map (flock_output says k) (range_with_len 0 (k + 2))) e) eh
