-- Crowds with the same agents have the same agents at each leaf.
use Rattle.std.proofs.Common.{◌≡◌, ℕ, List, [], ◌∷◌, map, refl, ap, sym, subst, ◌∙◌}
use Rattle.std.specs.Prelude.{slice_set, slice_index_or}
use Rattle.std.specs.List.{swap}
use Rattle.std.specs.List.Sorted.{apply_swaps, SwapsInRange, IsPermutation}
use Rattle.std.proofs.lemmas.List.{map-set, length-map}
use Rattle.std.proofs.Math.ListN.{get_or-map}
use Rattle.pop_leaf.specs.NetModel.{CrowdModel, state_of}
use Rattle.pop_net.proofs.Projection.{component}

module _ {A B : Type 0} (f : A → B) where
  map-swap : (xs : List A) (i j : ℕ) → map f (swap xs i j) ≡ swap (map f xs) i j
  map-swap [] i j = refl
  map-swap (x ∷ xs) i j =
      map-set f (slice_set (x ∷ xs) i (slice_index_or (x ∷ xs) j x)) j (slice_index_or (x ∷ xs) i x)
      ∙ ap (λ zs. slice_set zs j (f (slice_index_or (x ∷ xs) i x))) (map-set f (x ∷ xs) i (slice_index_or (x ∷ xs) j x))
      ∙ ap (λ z. slice_set (slice_set (map f (x ∷ xs)) i z) j (f (slice_index_or (x ∷ xs) i x))) (sym (get_or-map f (x ∷ xs) j x))
      ∙ ap (λ z. slice_set (slice_set (map f (x ∷ xs)) i (slice_index_or (map f (x ∷ xs)) j (f x))) j z) (sym (get_or-map f (x ∷ xs) i x))

  map-swaps : (xs : List A) (ms : List (ℕ × ℕ)) → map f (apply_swaps xs ms) ≡ apply_swaps (map f xs) ms
  map-swaps xs [] = refl
  map-swaps xs (m ∷ ms) = map-swap (apply_swaps xs ms) m.0 m.1 ∙ ap (λ zs. swap zs m.0 m.1) (map-swaps xs ms)

  pub map_permuted : (xs ys : List A) → IsPermutation xs ys → IsPermutation (map f xs) (map f ys)
  map_permuted xs ys p =
      record {
        moves = p.moves;
        below = subst (λ n. SwapsInRange n p.moves) (sym (length-map xs f)) p.below;
        is = ap (map f) p.is ∙ map-swaps xs p.moves;
      }

pub component_permuted : (i : ℕ) (crowd other : CrowdModel) → IsPermutation crowd other → IsPermutation (component i crowd) (component i other)
component_permuted i crowd other p = map_permuted (λ tuple. state_of tuple i) crowd other p
