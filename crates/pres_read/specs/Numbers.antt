-- The value of a run of digits.
use Rattle.std.specs.Prelude.{ℕ, ◌+◌, ◌-◌, ◌*◌, Option, Some, None, if◌then◌else◌, nat_lt, List, [], ◌∷◌}

-- the digits after those of n
abbrev pub value_after : ℕ → List ℕ → ℕ
value_after n [] = n
value_after n (c ∷ cs) = value_after (n * 10 + (c - 48)) cs

abbrev pub value_of_digits : List ℕ → ℕ
value_of_digits digits = value_after 0 digits

-- the value, if it is at most the limit
abbrev pub value_within : ℕ → ℕ → Option ℕ
value_within limit n = if nat_lt limit n then None else Some n
