-- A list of another length isn't a move.
use Rattle.std.proofs.Common.{◌≡◌, ℕ, ◌<◌, ◌⊎◌, inl, inr, List, [], ◌∷◌, length, map, Some, refl, arith}
use Rattle.std.proofs.lemmas.List.{length-map}
use Rattle.serde_json.specs.Data.{Data}
use Rattle.serde_json.specs.Find.{as_array}
use Rattle.serde_json.specs.View.{view, items_view}
use Rattle.serde_json.specs.declared.value.Value.{Value}
use Rattle.base_json.specs.declared.fault.Why.TheVariants.{Kind}
use Rattle.base_json.specs.Faults.{broken}
use Rattle.base_json.proofs.Lists.{listed_is}
use Rattle.net_json.specs.Examined.{four_at, move_at}

four_at-else : (path : List ℕ) (states : ℕ) (ds : List Data) → (length ds < 4) ⊎ (4 < length ds) → four_at path states ds ≡ broken path Kind
four_at-else path states [] out = refl
four_at-else path states (a ∷ []) out = refl
four_at-else path states (a ∷ b ∷ []) out = refl
four_at-else path states (a ∷ b ∷ c ∷ []) out = refl
four_at-else path states (a ∷ b ∷ c ∷ d ∷ []) (inl lo) = absurd (omega arith)
four_at-else path states (a ∷ b ∷ c ∷ d ∷ []) (inr hi) = absurd (omega arith)
four_at-else path states (a ∷ b ∷ c ∷ d ∷ e ∷ more) out = refl

pub move_at-else : (path : List ℕ) (states : ℕ) (d : Data) (vs : List Value) → Some (items_view vs) ≡ as_array d → (length vs < 4) ⊎ (4 < length vs) → move_at path states d ≡ broken path Kind
unfolding move_at
move_at-else path states d vs is out = rw (← is, listed_is vs) (four_at-else path states (map view vs) (rw length-map out))
