-- What rows with the coefficients 0 and 1 say of counts.
use Rattle.std.proofs.Common.{◌≡◌, ℕ, zero, suc, ◌+◌, ◌*◌, Bool, true, false, List, [], ◌∷◌, ◌++◌, length, map, refl, ap, ◌∙◌, zero-add, arith}
use Rattle.std.specs.Prelude.{Some, ℤ, pos, ◌+ℤ◌, ◌*ℤ◌, if◌then◌else◌, slice_get, All}
use Rattle.std.proofs.Math.IntN.{zero-*ℤ, pos-*ℤ-pos}
use Rattle.std.proofs.lemmas.Int.{ints}
use Rattle.std.proofs.lemmas.List.{length-replicate}
use Rattle.std.proofs.lemmas.List.Elements.{All-nil, All-cons}
use Rattle.cert_base.specs.Rows.{zeros, dense_row}
use Rattle.cert_base.specs.Valuation.{Valuation, row_value}
use Rattle.cert_base.specs.FactsAndCases.{indicator, places_from}
use Rattle.cert_base.proofs.FlowFacts.{dot, dot-append, terms_value-terms_from}

-- the counts, from number k on, at the places of the items that pass
abbrev pub sum_if : {A : Type 0} → Valuation → (A → Bool) → ℕ → List A → ℕ
sum_if count test k [] = 0
sum_if count test k (x ∷ xs) = (if test x then count k else 0) + sum_if count test (k + 1) xs

indicator_pos : (b : Bool) (n : ℕ) → (indicator b *ℤ pos n) ≡ pos (if b then n else 0)
indicator_pos true n = pos-*ℤ-pos 1 n ∙ ap pos (let e : 1 * n ≡ n = omega arith in e)
indicator_pos false n = zero-*ℤ (pos n)

pub dot-indicators : {A : Type 0} (count : Valuation) (test : A → Bool) (k : ℕ) (xs : List A) → dot count k (map (λ x. indicator (test x)) xs) ≡ pos (sum_if count test k xs)
dot-indicators count test k [] = refl
dot-indicators count test k (x ∷ xs) =
    let here = indicator_pos (test x) (count k) in
    let rest = dot-indicators count test (k + 1) xs in
    omega (arith, ints, here, rest)

dot-zeros : (count : Valuation) (k n : ℕ) → dot count k (zeros n) ≡ pos 0
dot-zeros count k zero = refl
dot-zeros count k (suc n) =
    let here = zero-*ℤ (pos (count k)) in let rest = dot-zeros count (k + 1) n in omega (arith, ints, here, rest)

-- a row of indicators after n zeros
pub row_value-behind : {A : Type 0} (count : Valuation) (test : A → Bool) (n : ℕ) (xs : List A) (constant : ℤ) → row_value count (dense_row (zeros n ++ map (λ x. indicator (test x)) xs) constant) ≡ (pos (sum_if count test n xs) +ℤ constant)
row_value-behind count test n xs constant =
    let terms = terms_value-terms_from count 0 (zeros n ++ map (λ x. indicator (test x)) xs) in
    let split = dot-append count 0 (zeros n) (map (λ x. indicator (test x)) xs) in
    let none = dot-zeros count 0 n in
    let place : 0 + length (zeros n) ≡ n = zero-add (length (zeros n)) ∙ length-replicate n (pos 0) in
    let moved : dot count (0 + length (zeros n)) (map (λ x. indicator (test x)) xs) ≡ dot count n (map (λ x. indicator (test x)) xs) = ap (λ k. dot count k (map (λ x. indicator (test x)) xs)) place in
    let sum = dot-indicators count test n xs in
    omega (arith, ints, terms, split, none, moved, sum)

-- if the sum is 0, so is each count
pub sum_if-none : {A : Type 0} (count : Valuation) (test : A → Bool) (k : ℕ) (xs : List A) → sum_if count test k xs ≡ 0 → (j : ℕ) (x : A) → slice_get xs j ≡ Some x → test x ≡ true → count (k + j) ≡ 0
sum_if-none count test k [] e j x h t = cc
sum_if-none count test k (y ∷ xs) e zero x h t =
    let same : y ≡ x = cc in
    let passes : test y ≡ true = ap test same ∙ t in
    let value : (if test y then count k else 0) ≡ count k = rw passes refl in
    ap count (let n : k + 0 ≡ k = omega arith in n) ∙ (let z : count k ≡ 0 = omega (arith, e, value) in z)
sum_if-none count test k (y ∷ xs) e (suc j) x h t =
    ap count (let n : k + suc j ≡ k + 1 + j = omega arith in n) ∙ sum_if-none count test (k + 1) xs (omega (arith, e)) j x h t

-- if each count is 0, so is the sum
pub sum_if-zero : {A : Type 0} (count : Valuation) (test : A → Bool) (k : ℕ) (xs : List A) → ((j : ℕ) (x : A) → slice_get xs j ≡ Some x → test x ≡ true → count (k + j) ≡ 0) → sum_if count test k xs ≡ 0
sum_if-zero count test k [] e = refl
sum_if-zero {A} count test k (x ∷ xs) e = step (test x) refl (sum_if-zero count test (k + 1) xs later)
  where
    later : (j : ℕ) (y : A) → slice_get xs j ≡ Some y → test y ≡ true → count (k + 1 + j) ≡ 0
    later j y h t = ap count (let n : k + 1 + j ≡ k + suc j = omega arith in n) ∙ e (suc j) y h t

    step : (b : Bool) → test x ≡ b → sum_if count test (k + 1) xs ≡ 0 → (if b then count k else 0) + sum_if count test (k + 1) xs ≡ 0
    step true h rest =
        let here : count k ≡ 0 = ap count (let n : k ≡ k + 0 = omega arith in n) ∙ e 0 x refl h in omega (arith, rest, here)
    step false h rest = omega (arith, rest)

-- what holds at the places of the items that pass
pub all_places : {A : Type 0} (P : ℕ → Type 0) (test : A → Bool) (k : ℕ) (xs : List A) → ((j : ℕ) (x : A) → slice_get xs j ≡ Some x → test x ≡ true → P (k + j)) → All P (places_from k test xs)
all_places P test k [] f = All-nil P
all_places {A} P test k (x ∷ xs) f = step (test x) refl (all_places P test (k + 1) xs later)
  where
    later : (j : ℕ) (y : A) → slice_get xs j ≡ Some y → test y ≡ true → P (k + 1 + j)
    later j y h t = let n : k + suc j ≡ k + 1 + j = omega arith in rw (← n) (f (suc j) y h t)

    step : (b : Bool) → test x ≡ b → All P (places_from (k + 1) test xs) → All P (if b then (k ∷ places_from (k + 1) test xs) else places_from (k + 1) test xs)
    step true h rest =
        All-cons P k (places_from (k + 1) test xs) (let n : k + 0 ≡ k = omega arith in rw (← n) (f 0 x refl h)) rest
    step false h rest = rest

-- one item more
pub places_from-one : {A : Type 0} (k : ℕ) (test : A → Bool) (xs : List A) (x : A) → places_from k test (xs ++ x ∷ []) ≡ places_from k test xs ++ (if test x then ((k + length xs) ∷ []) else [])
places_from-one k test [] x = ap (λ n. if test x then (n ∷ []) else []) (let e : k ≡ k + 0 = omega arith in e)
places_from-one {A} k test (y ∷ xs) x = go (test y) (places_from-one (k + 1) test xs x)
  where
    go : (b : Bool) → places_from (k + 1) test (xs ++ x ∷ []) ≡ places_from (k + 1) test xs ++ (if test x then ((k + 1 + length xs) ∷ []) else []) → (if b then (k ∷ places_from (k + 1) test (xs ++ x ∷ [])) else places_from (k + 1) test (xs ++ x ∷ [])) ≡ (if b then (k ∷ places_from (k + 1) test xs) else places_from (k + 1) test xs) ++ (if test x then ((k + suc (length xs)) ∷ []) else [])
    go true e = ap (λ ys. k ∷ ys) (e ∙ ap (λ n. places_from (k + 1) test xs ++ (if test x then (n ∷ []) else [])) (let f : k + 1 + length xs ≡ k + suc (length xs) = omega arith in f))
    go false e = e ∙ ap (λ n. places_from (k + 1) test xs ++ (if test x then (n ∷ []) else [])) (let f : k + 1 + length xs ≡ k + suc (length xs) = omega arith in f)
