-- A list of values and the items that it stands for.
use Rattle.std.proofs.Common.{◌≡◌, ℕ, ◌≤◌, ◌<◌, ◌⊎◌, inl, inr, List, [], ◌∷◌, length, map, Some, Ok, refl, ap, arith}
use Rattle.std.proofs.lemmas.Bool.Decides.{nat_tests}
use Rattle.std.proofs.lemmas.List.{length-map}
use Rattle.serde_json.specs.Data.{Data}
use Rattle.serde_json.specs.Find.{as_array}
use Rattle.serde_json.specs.View.{view, items_view}
use Rattle.serde_json.specs.declared.value.Value.{Value}
use Rattle.base_json.specs.declared.fault.Why.TheVariants.{Range}
use Rattle.base_json.specs.Faults.{broken}
use Rattle.base_json.specs.Shapes.{listed, within, list_at}

pub listed_is : (vs : List Value) → listed (items_view vs) ≡ map view vs
listed_is [] = refl
listed_is (v ∷ vs) = ap (λ (ds : List Data). view v ∷ ds) (listed_is vs)

within_ok : (path : List ℕ) (least most : ℕ) (ds : List Data) → least ≤ length ds → length ds ≤ most → within path least most ds ≡ Ok ds
within_ok path least most ds lo hi = grind (arith, nat_tests)

within_out : (path : List ℕ) (least most : ℕ) (ds : List Data) → (length ds < least) ⊎ (most < length ds) → within path least most ds ≡ broken path Range
within_out path least most ds (inl lo) = grind (arith, nat_tests)
within_out path least most ds (inr hi) = grind (arith, nat_tests)

pub list_at-ok : (path : List ℕ) (least most : ℕ) (d : Data) (vs : List Value) → Some (items_view vs) ≡ as_array d → least ≤ length vs → length vs ≤ most → list_at path least most d ≡ Ok (map view vs)
unfolding list_at
list_at-ok path least most d vs is lo hi =
    rw (← is, listed_is vs) (within_ok path least most (map view vs) (rw length-map lo) (rw length-map hi))

pub list_at-out : (path : List ℕ) (least most : ℕ) (d : Data) (vs : List Value) → Some (items_view vs) ≡ as_array d → (length vs < least) ⊎ (most < length vs) → list_at path least most d ≡ broken path Range
unfolding list_at
list_at-out path least most d vs is out =
    rw (← is, listed_is vs) (within_out path least most (map view vs) (rw length-map out))
