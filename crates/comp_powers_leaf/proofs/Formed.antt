-- The leaf is well formed.
use Rattle.std.proofs.Common.{◌≡◌, ◌∙◌, subst, ℕ, zero, suc, ◌+◌, ◌*◌, ◌<◌, ◌≤◌, Bool, true, false, List, ◌∷◌, length, map, length-append, refl, ap, sym, arith}
use Rattle.std.specs.Prelude.{ℤ, pos, negsuc, ◌<ℤ◌, replicate, Option, Some, None, All, flat_map, if◌then◌else◌, ◌==◌}
use Rattle.std.specs.List.{range_with_len}
use Rattle.std.proofs.lemmas.Int.{ints}
use Rattle.std.proofs.lemmas.Fmt.{decimal_injective}
use Rattle.std.proofs.lemmas.List.{length-map, length-replicate}
use Rattle.std.proofs.lemmas.List.Elements.{All-cons, All-append, All-map, All-replicate}
use Rattle.std.proofs.lemmas.List.FromFn.{length-map-range_with_len}
use Rattle.pop_io.specs.Names.{state_name, AreNames}
use Rattle.pop_leaf.specs.declared.leaf.Move.{Move}
use Rattle.pop_leaf.specs.LeafModel.{LeafModel, IsLeaf, IsMoveBelow}
use Rattle.base_laws.proofs.Ranges.{all_range}
use Rattle.comp_trees.proofs.StateNames.{number-named, named-apart}
use Rattle.comp_powers_leaf.specs.declared.role.Role.{Role}
use Rattle.comp_powers_leaf.specs.declared.role.Role.TheVariants.{Nothing, Piece}
use Rattle.comp_trees.specs.Bits.{power_in, has_bit}
use Rattle.comp_powers_leaf.specs.PowersLeaf.{coefficient_of, chain_of, rest_of, says, roles, fixed_count, role_at, place, meet, move_by, moves_at, powers_moves, start_by, start_of, powers_inputs, hub_of, lacking, bit_role, helper_roles, all_helper_roles, powers_helper_count, state_name_at, powers_leaf_of, IsPowers, HasRange, HasRoom}
use Rattle.comp_powers_leaf.proofs.Places.{there}
use Rattle.comp_powers_leaf.specs.PowersLeaf.{IsRole}
use Rattle.comp_powers_leaf.proofs.Moves.{power-valid, moves-below, fixed-first}

-- ---- names

names-formed : (n : ℕ) → n ≤ 512 → AreNames state_name (map state_name_at (range_with_len 0 n))
names-formed n few =
    named-apart state_name_at n (λ i l. number-named i (omega arith)) (λ i j l m e. decimal_injective i j (omega arith) (omega arith) e)

-- ---- how many moves

flat-few : {A : Type 0} (f : ℕ → List A) (m a n : ℕ) → ((q : ℕ) → length (f q) ≤ m) → length (flat_map f (range_with_len a n)) ≤ n * m
flat-few f m a zero l = omega arith
flat-few f m a (suc n) l =
    let here = l a in
    let rest = flat-few f m (a + 1) n l in
    let times : suc n * m ≡ m + n * m = grind arith in
    omega (arith, here, rest, times, length-append (f a) (flat_map f (range_with_len (a + 1) n)))

pub moves-few : (coefs : List ℤ) (k : ℕ) → k ≤ 40 → length (powers_moves coefs k) ≤ length (roles coefs k) * 85
moves-few coefs k l =
    flat-few (λ p. flat_map (moves_at coefs k p) (range_with_len 0 (fixed_count k))) 85 0 (length (roles coefs k))
    (λ p. let few = flat-few (moves_at coefs k p) 1 0 (fixed_count k) (λ q. one p q (meet coefs k (role_at coefs k p) (role_at coefs k q))) in omega (arith, few))
  where
    one : (p q : ℕ) (found : Option (Role × Role)) → length (move_by coefs k p q found) ≤ 1
    one p q None = omega arith
    one p q (Some rs) = omega arith

-- ---- inputs and helpers

module _ (coefs : List ℤ) (bound : ℤ) (k : ℕ) where
  pub start-valid : (j : ℕ) → j < length coefs → IsRole coefs k (start_of k j (coefficient_of coefs j))
  start-valid j l = of (coefficient_of coefs j) refl
    where
      rest : (i : ℕ) → i ≤ chain_of k (coefficient_of coefs j) → IsRole coefs k (rest_of j i)
      rest zero m = tt
      rest (suc i) m = (l, (let n : i < chain_of k (coefficient_of coefs j) = omega arith in n))

      number : (n : ℕ) (none : Bool) (o : Option ℕ) → (n == 0) ≡ none → power_in k n ≡ o → coefficient_of coefs j ≡ pos n → IsRole coefs k (if none then Nothing false else start_by k j o)
      number n true o e f h = tt
      number n false (Some i) e f h = power-valid coefs k i false
      number n false None e f h =
          let chain : chain_of k (pos n) ≡ k = rw (e, f) refl in
          rest k (let g = ap (chain_of k) h in omega (arith, g, chain))

      of : (a : ℤ) → coefficient_of coefs j ≡ a → IsRole coefs k (start_of k j a)
      of (pos n) e = number n (n == 0) (power_in k n) refl refl e
      of (negsuc n) e = (l, (let m : coefficient_of coefs j <ℤ pos 0 = omega (arith, ints, e) in m))

  pub inputs-low : All (λ q. q < length (roles coefs k)) (powers_inputs coefs k)
  inputs-low =
      All-map (λ q. q < length (roles coefs k)) (λ j. place coefs k (start_of k j (coefficient_of coefs j))) (range_with_len 0 (length coefs))
      (all_range (λ j. place coefs k (start_of k j (coefficient_of coefs j)) < length (roles coefs k)) 0 (length coefs) (λ j a l. (there coefs k (start_of k j (coefficient_of coefs j)) (start-valid j (omega arith))).low))

  pub bit-valid : (n i : ℕ) → i < k → IsRole coefs k (bit_role n i)
  bit-valid n i l = go (has_bit n i)
    where
      go : (b : Bool) → IsRole coefs k (if b then Piece i false else Nothing false)
      go true = l
      go false = tt

  pub hub-valid : (a : ℤ) → IsRole coefs k (hub_of a)
  hub-valid (pos zero) = tt
  hub-valid (pos (suc n)) = tt
  hub-valid (negsuc n) = tt

  pub helpers-valid : All (IsRole coefs k) (helper_roles bound k)
  helpers-valid =
      let bits = map (bit_role (lacking k bound)) (range_with_len 0 k) in
      All-cons (IsRole coefs k) (hub_of bound) (Nothing false ∷ bits) (hub-valid bound)
      (All-cons (IsRole coefs k) (Nothing false) bits tt
      (All-map (IsRole coefs k) (bit_role (lacking k bound)) (range_with_len 0 k) (all_range (λ i. IsRole coefs k (bit_role (lacking k bound) i)) 0 k (λ i a l. bit-valid (lacking k bound) i (omega arith)))))

  pub all_helpers-valid : (spare : ℕ) → All (IsRole coefs k) (all_helper_roles bound k spare)
  all_helpers-valid spare = All-append (IsRole coefs k) (helper_roles bound k) (replicate spare (Nothing false)) helpers-valid (All-replicate (IsRole coefs k) spare (Nothing false) tt)

  pub helpers-low : (spare : ℕ) → All (λ q. q < length (roles coefs k)) (map (place coefs k) (all_helper_roles bound k spare))
  helpers-low spare =
      All-map (λ q. q < length (roles coefs k)) (place coefs k) (all_helper_roles bound k spare)
      (λ i d l. (there coefs k _ (all_helpers-valid spare i d l)).low)

  pub states-long : length (map state_name_at (range_with_len 0 (length (roles coefs k)))) ≡ length (roles coefs k)
  states-long = length-map-range_with_len state_name_at 0 (length (roles coefs k))

  pub helpers-long : (spare : ℕ) → length (map (place coefs k) (all_helper_roles bound k spare)) ≡ powers_helper_count k + spare
  helpers-long spare = omega (arith, length-map (all_helper_roles bound k spare) (place coefs k), length-append (helper_roles bound k) (replicate spare (Nothing false)), length-replicate spare (Nothing false), length-map-range_with_len (bit_role (lacking k bound)) 0 k)

  pub powers-formed : (spare : ℕ) → IsPowers coefs bound k → HasRoom k spare → IsLeaf (powers_leaf_of coefs bound k spare)
  powers-formed spare is room =
      let few = is.states in
      let many = is.power in
      let long = states-long in
      let inputs = length-map-range_with_len (λ j. place coefs k (start_of k j (coefficient_of coefs j))) 0 (length coefs) in
      record {
        names = names-formed (length (roles coefs k)) few;
        some_state = (let f = fixed-first coefs k in omega (arith, long, f));
        states = omega (arith, long, few);
        move_count = (let moves = moves-few coefs k many in omega (arith, moves, few));
        moves = subst (λ n. All (IsMoveBelow n) (powers_moves coefs k)) (sym long) (moves-below coefs k);
        some_input = (let some = is.some in omega (arith, inputs, some));
        input_count = (let most = is.few in omega (arith, inputs, most));
        inputs = subst (λ n. All (λ q. q < n) (powers_inputs coefs k)) (sym long) inputs-low;
        outputs = length-map (roles coefs k) says ∙ sym long;
        helper_count = omega (arith, helpers-long spare, room);
        helpers = subst (λ n. All (λ q. q < n) (map (place coefs k) (all_helper_roles bound k spare))) (sym long) (helpers-low spare);
      }

pub range_of : (coefs : List ℤ) (bound : ℤ) (k : ℕ) → IsPowers coefs bound k → HasRange coefs k
range_of coefs bound k is = record { few = is.few; power = is.power; within = is.within }

-- the leaf as the code puts it together
pub leaf_as : (coefs : List ℤ) (bound : ℤ) (k spare : ℕ) (states : List (List ℕ)) (moves : List Move) (inputs : List ℕ) (outputs : List Bool) (helpers : List ℕ) → states ≡ map state_name_at (range_with_len 0 (length (roles coefs k))) → moves ≡ powers_moves coefs k → inputs ≡ powers_inputs coefs k → outputs ≡ map says (roles coefs k) → helpers ≡ map (place coefs k) (all_helper_roles bound k spare) → record { states = states; moves = moves; inputs = inputs; outputs = outputs; helpers = helpers } ≡ powers_leaf_of coefs bound k spare
leaf_as coefs bound k spare states moves inputs outputs helpers es em ei eo eh =
    let leaf : List (List ℕ) → List Move → List ℕ → List Bool → List ℕ → LeafModel = λ a b c d e. record { states = a; moves = b; inputs = c; outputs = d; helpers = e } in
    let whole = powers_leaf_of coefs bound k spare in
    ap (λ a. leaf a moves inputs outputs helpers) es
    ∙ ap (λ b. leaf whole.states b inputs outputs helpers) em
    ∙ ap (λ c. leaf whole.states whole.moves c outputs helpers) ei
    ∙ ap (λ d. leaf whole.states whole.moves whole.inputs d helpers) eo
    ∙ ap (λ e. leaf whole.states whole.moves whole.inputs whole.outputs e) eh
