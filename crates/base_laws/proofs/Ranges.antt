-- Laws of ranges.
use Rattle.std.proofs.Common.{◌≡◌, ℕ, zero, suc, ◌+◌, ◌<◌, ◌≤◌, [], ◌∷◌, ◌++◌, length, map, zero-add, ap, ◌∙◌, arith}
use Rattle.std.specs.Prelude.{Some, slice_get, All}
use Rattle.std.specs.List.{range_with_len}
use Rattle.std.proofs.lemmas.List.Elements.{All-nil, All-cons}
use Rattle.std.proofs.lemmas.List.FromFn.{length-map-range_with_len, get_or-map-range_with_len}
use Rattle.std.proofs.lemmas.Option.{slice_get-get_or}

-- what holds for each number of a range
pub all_range : (P : ℕ → Type 0) (a n : ℕ) → ((z : ℕ) → a ≤ z → z < a + n → P z) → All P (range_with_len a n)
all_range P a zero f = All-nil P
all_range P a (suc n) f =
    All-cons P a (range_with_len (a + 1) n) (f a (omega arith) (omega arith)) (all_range P (a + 1) n (λ z l m. f z (omega arith) (omega arith)))

-- one more number
pub range_next : (a n : ℕ) → range_with_len a (suc n) ≡ range_with_len a n ++ (a + n) ∷ []
range_next a zero = ap (λ z. z ∷ []) (let e : a ≡ a + 0 = omega arith in e)
range_next a (suc n) =
    ap (λ zs. a ∷ zs) (range_next (a + 1) n ∙ ap (λ z. range_with_len (a + 1) n ++ z ∷ []) (let e : a + 1 + n ≡ a + suc n = omega arith in e))

pub range_one_more : (n : ℕ) → range_with_len 0 (n + 1) ≡ range_with_len 0 n ++ n ∷ []
range_one_more n =
    ap (range_with_len 0) (let k : n + 1 ≡ suc n = omega arith in k) ∙ range_next 0 n ∙ ap (λ k. range_with_len 0 n ++ k ∷ []) (zero-add n)

-- what a function gives for number z
pub get-range : {A : Type 0} (f : ℕ → A) (n z : ℕ) → z < n → slice_get (map f (range_with_len 0 n)) z ≡ Some (f z)
get-range f n z l =
    slice_get-get_or (map f (range_with_len 0 n)) z (f z) (let m : z < length (map f (range_with_len 0 n)) = omega (arith, length-map-range_with_len f 0 n) in m)
    ∙ ap Some (get_or-map-range_with_len f 0 n z z (f z) l (zero-add z))
