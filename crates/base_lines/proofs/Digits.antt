-- Reading digits one after the other, as a loop does.
use Rattle.std.proofs.Common.{◌≡◌, ℕ, ◌^◌, ◌<◌, List, drop}
use Rattle.std.specs.Str.{all_ascii_digits}
use Rattle.std.specs.Str.Parse.{digits_value, digits_value_after}

pub record Digits (text : List ℕ) (i value : ℕ) : Type 0 where
  pub same : digits_value_after 10 value (drop i text) ≡ digits_value 10 text
  pub digits : all_ascii_digits (drop i text) ≡ all_ascii_digits text
  pub below : value < 10 ^ i
