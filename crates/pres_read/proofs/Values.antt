-- The value of digits that are read from the left.
use Rattle.std.proofs.Common.{◌≡◌, ℕ, ◌+◌, ◌-◌, ◌*◌, ◌<◌, ◌≤◌, List, [], ◌∷◌, length, get_or, drop, None, sym, ap, arith, lt-ltb}
use Rattle.std.proofs.lemmas.List.{drop_more}
use Rattle.pres_read.specs.Numbers.{value_after, value_of_digits, value_within}

pub le-value_after : (n : ℕ) (cs : List ℕ) → n ≤ value_after n cs
le-value_after n [] = omega arith
le-value_after n (c ∷ cs) = omega (arith, le-value_after (n * 10 + (c - 48)) cs)

pub value_past : (limit n : ℕ) → limit < n → value_within limit n ≡ None
value_past limit n h = rw (lt-ltb limit n h)

-- one digit further
pub value_more : (n : ℕ) (digits : List ℕ) (i : ℕ) → i < length digits
    → value_after (n * 10 + (get_or digits i 0 - 48)) (drop (i + 1) digits) ≡ value_after n (drop i digits)
value_more n digits i h = sym (ap (value_after n) (drop_more digits i 0 h))

pub value_too_large : (limit n : ℕ) (digits : List ℕ) (i : ℕ) → i < length digits → value_after n (drop i digits) ≡ value_of_digits digits
    → limit < n * 10 + (get_or digits i 0 - 48) → None ≡ value_within limit (value_of_digits digits)
value_too_large limit n digits i h e past =
    let more = value_more n digits i h in
    let least = le-value_after (n * 10 + (get_or digits i 0 - 48)) (drop (i + 1) digits) in
    sym (value_past limit (value_of_digits digits) (omega (arith, more, e, least, past)))
