-- Replacing one digit of a number.
use Rattle.std.proofs.Common.{◌≡◌, ℕ, zero, suc, ◌+◌, ◌*◌, ◌/◌, ◌%◌, ◌^◌, ◌<◌, ◌≤◌, ◌∷◌, ap, sym, ◌∙◌, arith}
use Rattle.std.specs.Prelude.{slice_set}
use Rattle.std.proofs.Math.Nat.{pow-zero, pow-suc, div-one, add-mul-mod_self_right, add-mul-div_right, mod-eq_of_lt, div-eq_of_lt, mul-le-mul_right}
use Rattle.std.proofs.lemmas.Nat.{div_below, div-add-mod', mod_below}
use Rattle.pop_net.specs.Lanes.{digits}
use Rattle.pop_net.proofs.Digits.{low_part, high_part, shifted}

-- a small enough quotient means a small number
below_from : (base n x : ℕ) → 0 < base → x / base < base ^ n → x < base ^ suc n
below_from base n x l h =
    let whole = div-add-mod' x base in
    let rest = mod_below x base l in
    let m : x / base + 1 ≤ base ^ n = omega (arith, h) in
    let product = mul-le-mul_right base m in
    let power = pow-suc base n in
    omega (arith, whole, rest, product, power)

-- digit i is replaced, and the others stay
pub digit_set : (base n word i old new result : ℕ) → 0 < base → i < n → word < base ^ n → old ≡ word / base ^ i % base → new < base → result + old * base ^ i ≡ word + new * base ^ i → (digits base n result ≡ slice_set (digits base n word) i new) × (result < base ^ n)
digit_set base zero word i old new result pos l below e small sum = absurd (omega arith)
digit_set base (suc n) word zero old new result pos l below e small sum =
    let one : base ^ 0 ≡ 1 = pow-zero base in
    let was : old ≡ word % base = e ∙ ap (λ m. word / m % base) one ∙ ap (λ m. m % base) (div-one word) in
    let olds : old * base ^ 0 ≡ old = ap (λ m. old * m) one ∙ (let s : old * 1 ≡ old = omega arith in s) in
    let news : new * base ^ 0 ≡ new = ap (λ m. new * m) one ∙ (let s : new * 1 ≡ new = omega arith in s) in
    let is : result ≡ new + word / base * base = omega (arith, sum, olds, news, was, div-add-mod' word base) in
    let low : result % base ≡ new = ap (λ m. m % base) is ∙ add-mul-mod_self_right new (word / base) base ∙ mod-eq_of_lt small in
    let high : result / base ≡ word / base = ap (λ m. m / base) is ∙ add-mul-div_right new (word / base) pos ∙ ap (λ m. m + word / base) (div-eq_of_lt small) ∙ (let s : 0 + word / base ≡ word / base = omega arith in s) in
    let m : word < base ^ n * base = omega (arith, below, pow-suc base n) in
    let few : result / base < base ^ n = omega (arith, high, div_below word base (base ^ n) pos m) in
    ((λ i. low i ∷ digits base n (high i)), below_from base n result pos few)
digit_set base (suc n) word (suc i) old new result pos l below e small sum =
    let p = base ^ i in
    let olds : old * base ^ suc i ≡ old * (p * base) = ap (λ m. old * m) (pow-suc base i) in
    let news : new * base ^ suc i ≡ new * (p * base) = ap (λ m. new * m) (pow-suc base i) in
    let same : result + old * (p * base) ≡ word + new * (p * base) = omega (arith, sum, olds, news) in
    let low : result % base ≡ word % base = sym (low_part base result old p) ∙ ap (λ m. m % base) same ∙ low_part base word new p in
    let high : result / base + old * p ≡ word / base + new * p = sym (high_part base result old p pos) ∙ ap (λ m. m / base) same ∙ high_part base word new p pos in
    let m : word < base ^ n * base = omega (arith, below, pow-suc base n) in
    let rest = digit_set base n (word / base) i old new (result / base) pos (omega arith) (div_below word base (base ^ n) pos m) (e ∙ ap (λ m. m % base) (shifted base word i)) small high in
    ((λ i. low i ∷ rest.0 i), below_from base n result pos rest.1)

-- a digit's part of a number is no greater than the number
pub digit_part : (base word p : ℕ) → word / p % base * p ≤ word
digit_part base word p =
    let x = word / p in
    let m : x % base ≤ x = omega (arith, div-add-mod' x base) in
    let product = mul-le-mul_right p m in
    omega (arith, product, div-add-mod' word p)
