-- The last of the numbers that were read, by its place.
use Rattle.std.proofs.Common.{◌≡◌, ◌≢◌, inl, inr, ◌⊎◌, ℕ, zero, suc, ◌+◌, ◌-◌, ◌<◌, ◌==◌, true, false, List, [], ◌∷◌, length, map, get_or, Some, refl, arith}
use Rattle.std.specs.Prelude.{option_map, slice_get}
use Rattle.std.proofs.lemmas.Bool.Decides.{eqb_tells}
use Rattle.std.proofs.lemmas.Option.{get_or_from_slice_get}
use Rattle.base_json.specs.Shapes.{last_of}

module _ {A : Type 0} (number : A → ℕ) where
  last_at : (xs : List A) (n : ℕ) → length xs ≡ n + 1 → option_map number (slice_get xs n) ≡ last_of (map number xs)
  last_at [] n e = absurd (omega (arith, e))
  last_at (x ∷ []) zero e = refl
  last_at (x ∷ []) (suc n) e = absurd (omega (arith, e))
  last_at (x ∷ y ∷ xs) zero e = absurd (omega (arith, e))
  last_at (x ∷ y ∷ xs) (suc n) e = last_at (y ∷ xs) n (omega (arith, e))

  pub last_of_all : (xs : List A) → option_map number (slice_get xs (length xs - 1)) ≡ last_of (map number xs)
  last_of_all [] = refl
  last_of_all (x ∷ xs) = last_at (x ∷ xs) (length (x ∷ xs) - 1) (omega arith)

-- what holds for the first ones holds for one more
pub one_more_fits : {A : Type 0} (P : A → Type 0) (xs : List A) (i : ℕ) (x : A) → ((k : ℕ) → k < i → (d : A) → P (get_or xs k d)) → slice_get xs i ≡ Some x → P x → (k : ℕ) → k < i + 1 → (d : A) → P (get_or xs k d)
one_more_fits P xs i x so_far is here k below d = go (eqb_tells k i)
  where
    go : ((k == i) ≡ true) × (k ≡ i) ⊎ ((k == i) ≡ false) × (k ≢ i) → P (get_or xs k d)
    go (inl same) = rw (same.1, get_or_from_slice_get xs i x d is) here
    go (inr other) = let ne = other.1 in so_far k (omega (arith, below, ne)) d
