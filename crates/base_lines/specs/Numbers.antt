-- Numbers in decimal digits.
use Rattle.std.specs.Prelude.{ℕ, ◌^◌, ◌==◌, ◌&&◌, not, Bool, true, false, nat_le, nat_lt, List, [], ◌∷◌, length, Option}
use Rattle.std.specs.Prelude.{Some, None, if◌then◌else◌, option_and_then}
use Rattle.std.specs.Str.{all_ascii_digits}
use Rattle.std.specs.Str.Parse.{digits_value}
use Rattle.base_lines.specs.declared.numbers.TheConstants.{DIGIT_LIMIT}

-- 1 to DIGIT_LIMIT digits of any value; leading zeros are accepted
abbrev pub number_of : List ℕ → Option ℕ
number_of text =
    if (nat_le 1 (length text) && nat_le (length text) DIGIT_LIMIT) && all_ascii_digits text
    then Some (digits_value 10 text)
    else None

-- the same with a value below 2 ^ 64
abbrev pub small_number_of : List ℕ → Option ℕ
small_number_of text = option_and_then (λ n. if nat_lt n (2 ^ 64) then Some n else None) (number_of text)

-- the same with a value from `least` to `most`
abbrev pub number_of_within : ℕ → ℕ → List ℕ → Option ℕ
number_of_within least most text =
    option_and_then (λ n. if nat_le least n && nat_le n most then Some n else None) (number_of text)

-- there is a first digit, and it isn't a zero before another digit
abbrev pub has_no_leading_zero : List ℕ → Bool
has_no_leading_zero [] = false
has_no_leading_zero (c ∷ []) = true
has_no_leading_zero (c ∷ d ∷ text) = not (c == 48)

-- 1 to DIGIT_LIMIT digits of any value, as they are printed
abbrev pub printed_number_of : List ℕ → Option ℕ
printed_number_of text = if has_no_leading_zero text then number_of text else None

-- the same with a value from `least` to `most`
abbrev pub printed_number_of_within : ℕ → ℕ → List ℕ → Option ℕ
printed_number_of_within least most text = if has_no_leading_zero text then number_of_within least most text else None
