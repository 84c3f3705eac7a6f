-- Numbers that are printed, and read again.
use Rattle.std.proofs.Common.{◌≡◌, ℕ, zero, suc, ◌^◌, ◌<◌, ◌≤◌, ◌==◌, ◌&&◌, Bool, true, false, nat_le, List, [], ◌∷◌, length, get_or, Option, Some, None, decimal, refl, ap, sym, ◌∙◌, arith, if◌then◌else◌}
use Rattle.std.specs.Str.{all_ascii_digits}
use Rattle.std.specs.Str.Parse.{digits_value}
use Rattle.std.proofs.lemmas.Bool.{eqb-false, leb-true, le-leb, and_parts, and_from, not-true, ne_eqb, cond-true}
use Rattle.std.proofs.lemmas.Str.Parse.{IsNumeralModel, numerals_by_value, tells_all_ascii_digits}
use Rattle.std.proofs.lemmas.Fmt.{decimal-digits_value, digits_decimal, digits_value-decimal, decimal_nonempty, length-decimal-le, decimal_digit, first_decimal}
use Rattle.base_lines.specs.declared.numbers.TheConstants.{DIGIT_LIMIT}
use Rattle.base_lines.specs.Numbers.{number_of, number_of_within, has_no_leading_zero, printed_number_of}

pub own : IsNumeralModel (λ ds. all_ascii_digits ds ≡ true) (digits_value 10)
own = numerals_by_value (λ ds. all_ascii_digits ds ≡ true) tells_all_ascii_digits

-- a value that is there only if a test holds
pub chosen : (test : Bool) (v n : ℕ) → (if test then Some v else None) ≡ Some n → (test ≡ true) × (v ≡ n)
chosen true v n is = (refl, cc)
chosen false v n is = cc

-- what a number in digits is
pub number_of-Some : (text : List ℕ) (n : ℕ) → number_of text ≡ Some n → (0 < length text) × (length text ≤ DIGIT_LIMIT) × (all_ascii_digits text ≡ true) × (digits_value 10 text ≡ n)
number_of-Some text n is =
    let found = chosen ((nat_le 1 (length text) && nat_le (length text) DIGIT_LIMIT) && all_ascii_digits text) (digits_value 10 text) n is in
    let tests = and_parts (nat_le 1 (length text) && nat_le (length text) DIGIT_LIMIT) (all_ascii_digits text) found.0 in
    let sizes = and_parts (nat_le 1 (length text)) (nat_le (length text) DIGIT_LIMIT) tests.0 in
    (leb-true 1 (length text) sizes.0, leb-true (length text) DIGIT_LIMIT sizes.1, tests.1, found.1)

zero_alone : (text : List ℕ) → has_no_leading_zero text ≡ true → get_or text 0 0 ≡ 48 → length text ≡ 1
zero_alone [] form first = cc
zero_alone (c ∷ []) form first = refl
zero_alone (c ∷ d ∷ text) form first = absurd (eqb-false c 48 (not-true (c == 48) form) first)

-- a text in printed form is the print of its value
pub printed-number_of : (text : List ℕ) (n : ℕ) → has_no_leading_zero text ≡ true → number_of text ≡ Some n → n < 2 ^ 64 → text ≡ decimal n
printed-number_of text n form is small =
    let parts = number_of-Some text n is in
    let same : decimal (digits_value 10 text) ≡ text = decimal-digits_value own text parts.2 parts.0 (zero_alone text form) (rw parts.3 small) in
    sym (rw parts.3 at same)

positive_first : (text : List ℕ) → 0 < length text → 48 < get_or text 0 0 → has_no_leading_zero text ≡ true
positive_first [] some first = absurd (omega arith)
positive_first (c ∷ []) some first = refl
positive_first (c ∷ d ∷ text) some first = rw (ne_eqb c 48 (λ same. omega (arith, same))) refl

form-decimal : (n : ℕ) → n < 2 ^ 64 → has_no_leading_zero (decimal n) ≡ true
form-decimal zero small = rw (decimal_digit 0 (omega arith)) refl
form-decimal (suc n) small = positive_first (decimal (suc n)) (decimal_nonempty (suc n) small) (first_decimal (suc n) (omega arith) small)

pub number_of-decimal : (n : ℕ) → n < 2 ^ 64 → number_of (decimal n) ≡ Some n
number_of-decimal n small =
    let sizes = and_from (nat_le 1 (length (decimal n))) (nat_le (length (decimal n)) DIGIT_LIMIT) (le-leb 1 (length (decimal n)) (decimal_nonempty n small))
    (le-leb (length (decimal n)) DIGIT_LIMIT (length-decimal-le DIGIT_LIMIT n (omega arith) (omega arith) small)) in
    let tests = and_from (nat_le 1 (length (decimal n)) && nat_le (length (decimal n)) DIGIT_LIMIT) (all_ascii_digits (decimal n)) sizes (digits_decimal own n small) in
    cond-true ((nat_le 1 (length (decimal n)) && nat_le (length (decimal n)) DIGIT_LIMIT) && all_ascii_digits (decimal n)) (Some (digits_value 10 (decimal n))) None tests ∙ ap Some (digits_value-decimal own n small)

-- what is printed is read back
pub printed_number_of-decimal : (n : ℕ) → n < 2 ^ 64 → printed_number_of (decimal n) ≡ Some n
printed_number_of-decimal n small = cond-true (has_no_leading_zero (decimal n)) (number_of (decimal n)) None (form-decimal n small) ∙ number_of-decimal n small

-- a value in a range
pub number_within-Some : (least most : ℕ) (text : List ℕ) (found : Option ℕ) (n : ℕ) → number_of text ≡ found → number_of_within least most text ≡ Some n → (number_of text ≡ Some n) × (n ≤ most)
number_within-Some least most text None n read is = absurd (let none : None ≡ Some n = rw read at is in cc)
number_within-Some least most text (Some v) n read is =
    let value = chosen (nat_le least v && nat_le v most) v n (rw read at is) in
    let tests = and_parts (nat_le least v) (nat_le v most) value.0 in
    (read ∙ ap Some value.1, rw (← value.1) (leb-true v most tests.1))
