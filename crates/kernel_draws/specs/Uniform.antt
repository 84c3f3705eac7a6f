-- Uniform: which number below a size, and which pair of agents, a random word stands for.
use Rattle.std.specs.Prelude.{◌≡◌, ◌≢◌, ℕ, ◌+◌, ◌-◌, ◌*◌, ◌/◌, ◌%◌, ◌^◌, ◌<◌, ◌≤◌, ◌↔◌, min}

-- a word is taken unless it is one of the few that would tip the scales
abbrev pub IsTaken : ℕ → ℕ → Type 0
IsTaken size word = 2 ^ 64 % size ≤ word * size % 2 ^ 64

abbrev pub number_of : ℕ → ℕ → ℕ
number_of size word = word * size / 2 ^ 64

-- the ordered pairs of different agents of n, and their numbers: the second agent counts among those beside the first
abbrev pub pair_count : ℕ → ℕ
pair_count n = n * (n - 1)

abbrev pub number_of_pair : ℕ → ℕ × ℕ → ℕ
number_of_pair n pair = pair.0 * (n - 1) + (pair.1 - min 1 (pair.1 - pair.0))

-- the words that are taken and stand for a number: so many in a row, from a first one on
abbrev pub HasWords : ℕ → ℕ → ℕ → Type 0
HasWords size number many =
    (first : ℕ) × (first + many ≤ 2 ^ 64)
    × ((word : ℕ) → (IsTaken size word × (number_of size word ≡ number)) ↔ ((first ≤ word) × (word < first + many)))

abbrev pub IsPair : ℕ → ℕ × ℕ → Type 0
IsPair n pair = (pair.0 ≢ pair.1) × (pair.0 < n) × (pair.1 < n)

pub record AreUniform : Type 0 where
  -- each number below a size has equally many words
  pub numbers : (size number : ℕ) → number < size → size ≤ 2 ^ 64 → HasWords size number (2 ^ 64 / size)
  -- each ordered pair of different agents has a number of its own, and so equally many words
  pub pairs : (n : ℕ) (pair : ℕ × ℕ) → IsPair n pair → n ≤ 2 ^ 32
      → HasWords (pair_count n) (number_of_pair n pair) (2 ^ 64 / pair_count n)
  pub distinct : (n : ℕ) (one other : ℕ × ℕ) → IsPair n one → IsPair n other
      → number_of_pair n one ≡ number_of_pair n other → (one.0 ≡ other.0) × (one.1 ≡ other.1)
