-- Bits: the bits of a number, and the power of two that it is.
use Rattle.std.specs.Prelude.{ℕ, ◌+◌, ◌^◌, ◌%◌, ◌==◌, nat_le, Bool, find, Option}
use Rattle.std.specs.List.{range_with_len}

-- whether bit i of n is set
abbrev pub has_bit : ℕ → ℕ → Bool
has_bit n i = nat_le (2 ^ i) (n % 2 ^ (i + 1))

-- the power that n is, up to k
abbrev pub power_in : ℕ → ℕ → Option ℕ
power_in k n = find (λ i. 2 ^ i == n) (range_with_len 0 (k + 1))
