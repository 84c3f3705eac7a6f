-- The layers by kinds are within the limits of proofs.
use Rattle.std.proofs.Common.{◌≡◌, ℕ, suc, ◌+◌, ◌^◌, ◌<◌, ◌≤◌, Bool, true, false, List, [], ◌∷◌, length, arith}
use Rattle.std.specs.Prelude.{ℤ, All, if◌then◌else◌, Some, slice_get, ◌==◌}
use Rattle.cert_base.specs.ProofLimits.{IsSmall, IsLayerWithin}
use Rattle.pop_leaf.specs.declared.leaf.Move.{Move}
use Rattle.pop_leaf.specs.declared.limits.TheConstants.{MOVE_LIMIT, STATE_LIMIT}
use Rattle.std.proofs.lemmas.Option.{slice_get_within}
use Rattle.cert_base.specs.FactsAndCases.{places_from}
use Rattle.cert_base.proofs.Indicators.{all_places}
use Rattle.comp_trees.specs.SortedLayers.{sorted_layer}

-- a layer of the moves of a kind
places-few : {A : Type 0} (k : ℕ) (test : A → Bool) (xs : List A) → length (places_from k test xs) ≤ length xs
places-few k test [] = omega arith
places-few {A} k test (x ∷ xs) = go (test x) (places-few (k + 1) test xs)
  where
    go : (b : Bool) → length (places_from (k + 1) test xs) ≤ length xs → length (if b then (k ∷ places_from (k + 1) test xs) else places_from (k + 1) test xs) ≤ suc (length xs)
    go true l = omega arith
    go false l = omega arith

below_length : {A : Type 0} (xs : List A) (j : ℕ) (x : A) → slice_get xs j ≡ Some x → length xs ≤ MOVE_LIMIT → 0 + j < 2 ^ 32
below_length xs j x h few = let l = slice_get_within xs j x h in omega arith

pub layer-within : (moves : List Move) (kind : Move → ℕ) (i : ℕ) (weights : List ℤ) → length moves ≤ MOVE_LIMIT → length weights ≤ STATE_LIMIT → All IsSmall weights → IsLayerWithin (sorted_layer moves kind i weights)
layer-within moves kind i weights few short small = record {
  move_count = (let l = places-few 0 (λ t. kind t == i) moves in omega arith);
  moves = all_places (λ number. number < 2 ^ 32) (λ t. kind t == i) 0 moves (λ j t h e. below_length moves j t h few);
  weight_count = short;
  weights = small;
}
