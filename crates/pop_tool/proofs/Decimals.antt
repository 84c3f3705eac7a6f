-- A number below 2^64 is printed as no other number, however great.
use Rattle.std.proofs.Common.{◌≡◌, ◌⊎◌, inl, inr, ℕ, zero, suc, ◌+◌, ◌*◌, ◌/◌, ◌%◌, ◌<◌, ◌≤◌, ◌^◌, Bool, false, List, [], ◌∷◌, length, decimal, if◌then◌else◌, sym, ap, ◌∙◌, arith}
use Rattle.std.specs.Fmt.{digit_glyph, digits_onto, digits}
use Rattle.std.specs.Str.Parse.{digits_value}
use Rattle.std.proofs.Math.Nat as nat
use Rattle.std.proofs.lemmas.Bool.{cases_lt, ne_eqb}
use Rattle.std.proofs.lemmas.Fmt.{decimal_is_IsNumeral, decimal_is_IsNumeral_wide, length-decimal-le}

one_more_digit : (k n : ℕ) (acc : List ℕ) → (n / 10 ≡ 0 → ⊥) → digits_onto (suc k) 10 false n acc ≡ digits_onto k 10 false (n / 10) (digit_glyph false (n % 10) ∷ acc)
one_more_digit k n acc more =
    ap (λ (b : Bool). if b then digit_glyph false (n % 10) ∷ acc else digits_onto k 10 false (n / 10) (digit_glyph false (n % 10) ∷ acc)) (ne_eqb (n / 10) 0 more)

-- a number with at least so many digits
all_digits : (k n : ℕ) (acc : List ℕ) → 10 ^ k ≤ n → length (digits_onto k 10 false n acc) ≡ k + length acc
all_digits zero n acc l = omega arith
all_digits (suc k) n acc l =
    ap length (one_more_digit k n acc some) ∙ all_digits k (n / 10) (digit_glyph false (n % 10) ∷ acc) more
    ∙ (let e : k + suc (length acc) ≡ suc k + length acc = omega arith in e)
  where
    product : 10 ^ suc k ≡ 10 * 10 ^ k
    product = nat.pow-succ' 10 k

    more : 10 ^ k ≤ n / 10
    more = omega (arith, l, product)

    some : n / 10 ≡ 0 → ⊥
    some e = let p : 1 ≤ 10 ^ k = nat.one-le-pow k 10 (omega arith) in omega (arith, e, more, p)

long_decimal : (k : ℕ) → 10 ^ 64 ≤ k → length (decimal k) ≡ 64 + 0
unfolding digits
long_decimal k many = all_digits 64 k [] many

pub one_decimal : (n k : ℕ) → n < 2 ^ 64 → decimal n ≡ decimal k → n ≡ k
one_decimal n k small same = go (cases_lt k (10 ^ 64))
  where
    go : (k < 10 ^ 64) ⊎ (10 ^ 64 ≤ k) → n ≡ k
    go (inl few) =
        sym (decimal_is_IsNumeral n small).1 ∙ ap (digits_value 10) same ∙ (decimal_is_IsNumeral_wide k few).1
    go (inr many) =
        let long = long_decimal k many in
        let short : length (decimal n) ≤ 20 = length-decimal-le 20 n (omega arith) (omega (arith, small)) small in
        let e = ap length same in absurd (omega (arith, long, short, e))
