-- The built leaf of `Less` is well formed.
use Rattle.std.proofs.Common.{◌≡◌, subst, ℕ, zero, suc, ◌+◌, ◌-◌, ◌*◌, ◌<◌, ◌≤◌, List, length, map, get_or, refl, ap, sym, ◌∙◌, zero-add, arith}
use Rattle.std.specs.Prelude.{ℤ, pos, All, flat_map}
use Rattle.std.specs.List.{range_with_len}
use Rattle.std.proofs.Math.Nat.{mul-le-mul}
use Rattle.std.proofs.lemmas.List.{length-map, length-append}
use Rattle.std.proofs.lemmas.List.Concat.{length-flat_map}
use Rattle.std.proofs.lemmas.List.Sums.{sum_by-le, length-filter, count_by-le-length}
use Rattle.std.proofs.lemmas.List.Elements.{All-map, All-from_get_or, All-nil}
use Rattle.std.proofs.lemmas.List.FromFn.{length-range_with_len, length-map-range_with_len}
use Rattle.pop_io.specs.declared.names.TheConstants.{VARIABLE_LIMIT}
use Rattle.cert_base.specs.declared.limits.TheConstants.{FACT_LIMIT}
use Rattle.comp_threshold.specs.declared.limits.TheConstants.{WIDTH_LIMIT}
use Rattle.pop_leaf.specs.LeafModel.{IsLeaf, IsMoveBelow}
use Rattle.comp_threshold.specs.ThresholdLeaf.{threshold_width, span_of, place_of_value, threshold_leader_move, alters_states, threshold_pairs, threshold_turns, threshold_moves, threshold_state_count, threshold_state_name, threshold_output, built, threshold_leaf_of}
use Rattle.comp_threshold.proofs.Places.{place-most, width-coef}
use Rattle.comp_threshold.proofs.MoveLists.{all_moves, leader_move-below}
use Rattle.comp_threshold.proofs.StateNames.{names-formed}
use Rattle.base_laws.proofs.Numbers.{triangle, triangle-le}

triangle-most : triangle 161 ≡ 13041
triangle-most = refl

pairs-few : (s t a n : ℕ) → a + n ≡ span_of s → length (flat_map (threshold_pairs s t) (range_with_len a n)) ≤ triangle n
pairs-few s t a zero e = omega arith
pairs-few s t a (suc n) e =
    let more = pairs-few s t (a + 1) n (omega arith) in
    omega (arith, length-append (threshold_pairs s t a) (flat_map (threshold_pairs s t) (range_with_len (a + 1) n)), length-map (range_with_len a (span_of s - a)) (threshold_leader_move s t a), length-range_with_len a (span_of s - a), more)

turns-few : (s t p : ℕ) → length (threshold_turns s t p) ≤ span_of s + span_of s
turns-few s t p =
    let all = map (threshold_leader_move s t p) (range_with_len (span_of s) (span_of s + span_of s)) in
    omega (arith, length-filter alters_states all, count_by-le-length alters_states all, length-map (range_with_len (span_of s) (span_of s + span_of s)) (threshold_leader_move s t p), length-range_with_len (span_of s) (span_of s + span_of s))

turns-all : (s t : ℕ) → length (flat_map (threshold_turns s t) (range_with_len 0 (span_of s))) ≤ span_of s * (span_of s + span_of s)
turns-all s t =
    let numbers = range_with_len 0 (span_of s) in
    let most = sum_by-le (λ p. length (threshold_turns s t p)) (span_of s + span_of s) numbers (λ k d l. turns-few s t (get_or numbers k d)) in
    let long = ap (λ n. n * (span_of s + span_of s)) (length-range_with_len 0 (span_of s)) in
    omega (arith, length-flat_map (threshold_turns s t) numbers, most, long)

-- the greatest number of moves that the counting allows
pub moves-few : (s t : ℕ) → s ≤ WIDTH_LIMIT → length (threshold_moves s t) ≤ 64883
moves-few s t narrow =
    let numbers = range_with_len 0 (span_of s) in
    let l : span_of s ≤ 161 = omega arith in
    let m : span_of s + span_of s ≤ 322 = omega arith in
    let pairs = pairs-few s t 0 (span_of s) (zero-add (span_of s)) in
    let most = triangle-le (span_of s) 161 l in
    let turns = turns-all s t in
    let square = mul-le-mul l m in
    omega (arith, length-append (flat_map (threshold_pairs s t) numbers) (flat_map (threshold_turns s t) numbers), pairs, most, triangle-most, turns, square)

-- with as many facts as the longest case of the leaders' trap has
pub threshold-few : (coefs : List ℤ) (bound : ℤ) → length coefs ≤ VARIABLE_LIMIT → threshold_width coefs bound ≤ WIDTH_LIMIT → length (threshold_leaf_of coefs bound).states + length (threshold_leaf_of coefs bound).moves + length (threshold_leaf_of coefs bound).inputs + 6 ≤ FACT_LIMIT
threshold-few coefs bound few narrow =
    let s = threshold_width coefs bound in
    let moves = moves-few s (place_of_value s bound) narrow in
    omega (arith, length-map-range_with_len (threshold_state_name s) 0 (threshold_state_count s), length-map coefs (place_of_value s), moves)

pub threshold-formed : (coefs : List ℤ) (bound : ℤ) → 1 ≤ length coefs → length coefs ≤ VARIABLE_LIMIT → threshold_width coefs bound ≤ WIDTH_LIMIT → IsLeaf (threshold_leaf_of coefs bound)
threshold-formed coefs bound some few narrow =
    let s = threshold_width coefs bound in
    let t = place_of_value s bound in
    let states_long = length-map-range_with_len (threshold_state_name s) 0 (threshold_state_count s) in
    let inputs_long = length-map coefs (place_of_value s) in
    record {
      names = names-formed s (omega arith);
      some_state = omega arith;
      states = omega arith;
      move_count = (let moves = moves-few s t narrow in omega arith);
      moves = subst (λ n. All (IsMoveBelow n) (threshold_moves s t)) (sym states_long) (all_moves s t (IsMoveBelow (threshold_state_count s)) (λ p q l m. leader_move-below s t p q l m));
      some_input = omega arith;
      input_count = omega arith;
      inputs = subst (λ n. All (λ q. q < n) (map (place_of_value s) coefs)) (sym states_long) (All-map (λ q. q < threshold_state_count s) (place_of_value s) coefs (All-from_get_or (λ a. place_of_value s a < threshold_state_count s) coefs (pos 0) (λ i l. let m = place-most s (get_or coefs i (pos 0)) (width-coef coefs bound i (pos 0) l) in omega arith)));
      outputs = length-map-range_with_len (threshold_output s t) 0 (threshold_state_count s) ∙ sym states_long;
      helper_count = omega arith;
      helpers = All-nil (λ q. q < length (threshold_leaf_of coefs bound).states);
    }

-- the leaf as the code puts it together
pub built-is : (coefs : List ℤ) (bound : ℤ) (s t : ℕ) → s ≡ threshold_width coefs bound → t ≡ place_of_value s bound → built s t (map (place_of_value s) coefs) ≡ threshold_leaf_of coefs bound
built-is coefs bound s t es et =
    ap (λ k. built s k (map (place_of_value s) coefs)) (et ∙ ap (λ k. place_of_value k bound) es) ∙ ap (λ k. built k (place_of_value (threshold_width coefs bound) bound) (map (place_of_value k) coefs)) es

pub built-formed : (coefs : List ℤ) (bound : ℤ) (s t : ℕ) → s ≡ threshold_width coefs bound → t ≡ place_of_value s bound → 1 ≤ length coefs → length coefs ≤ VARIABLE_LIMIT → s ≤ WIDTH_LIMIT → IsLeaf (built s t (map (place_of_value s) coefs))
built-formed coefs bound s t es et some few narrow =
    subst IsLeaf (sym (built-is coefs bound s t es et)) (threshold-formed coefs bound some few (subst (λ k. k ≤ WIDTH_LIMIT) es narrow))
