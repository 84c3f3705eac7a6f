-- Writes at places of one buffer, one after another.
use Rattle.std.specs.Prelude.{◌≡◌, ℕ, ◌+◌, ◌/◌, ◌%◌, List, [], ◌∷◌, ◌++◌, length, take}

-- the new buffer has the bytes after the first `at` of the old one, up to `end`; after them it may hold anything
pub record IsPlaced (old new : List ℕ) (at : ℕ) (bytes : List ℕ) (end : ℕ) : Type 0 where
  pub front : take end new ≡ take at old ++ bytes
  pub moved : end ≡ at + length bytes
  pub size : length new ≡ length old

-- the decimal digits of a number below 1000, with zeros before them
abbrev pub three_digits : ℕ → List ℕ
three_digits n = (48 + n / 100) ∷ (48 + n / 10 % 10) ∷ (48 + n % 10) ∷ []
