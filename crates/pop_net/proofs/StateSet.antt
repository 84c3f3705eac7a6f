-- A word with another state of one leaf is valid.
use Rattle.std.proofs.Common.{◌≡◌, ◌⊎◌, inl, inr, ℕ, ◌<◌, List, length, subst}
use Rattle.std.specs.Prelude.{Some, slice_get, slice_set}
use Rattle.std.proofs.lemmas.Bool.{cases_eq}
use Rattle.std.proofs.lemmas.List.{get_or-set_same, get_or-set_other}
use Rattle.pop_leaf.specs.LeafModel.{LeafModel}
use Rattle.pop_leaf.specs.NetModel.{Tuple, AreStates, state_of}
use Rattle.base_laws.proofs.Options.{same_value}

pub states_set : (leaves : List LeafModel) (tuple : Tuple) (i q : ℕ) (leaf : LeafModel) → slice_get leaves i ≡ Some leaf → i < length tuple → q < length leaf.states → AreStates leaves tuple → AreStates leaves (slice_set tuple i q)
states_set leaves tuple i q leaf h within l states j other k = by_leaf (cases_eq j i)
  where
    by_leaf : (j ≡ i) ⊎ (j ≡ i → ⊥) → state_of (slice_set tuple i q) j < length other.states
    by_leaf (inr ne) = rw (get_or-set_other tuple i j q 0 ne) (states j other k)
    by_leaf (inl e) =
        let same : leaf ≡ other = same_value (slice_get leaves i) leaf other h (subst (λ (n : ℕ). slice_get leaves n ≡ Some other) e k) in
        rw (e, get_or-set_same tuple i q 0 within, ← same) l
