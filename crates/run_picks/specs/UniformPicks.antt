-- UniformPicks: of the 2^64 words of a draw each ordered pair of agents is the pick of as many as any other, up to what
-- the two remainders leave over.
use Rattle.std.specs.Prelude.{◌≡◌, ◌≢◌, ℕ, zero, suc, ◌+◌, ◌-◌, ◌*◌, ◌/◌, ◌%◌, ◌^◌, ◌<◌, ◌≤◌, ◌==◌, ◌&&◌, Bool, cond, nat_lt}
use Rattle.run_picks.specs.Picks.{pick_of}

-- how many numbers below this one pass the test
abbrev pub count_below : (ℕ → Bool) → ℕ → ℕ
count_below test zero = 0
count_below test (suc k) = count_below test k + cond (test k) 1 0

-- whether a word's pick among n agents is first a, then b
abbrev pub is_pick : (n a b word : ℕ) → Bool
is_pick n a b word = ((pick_of n word).0 == a) && ((pick_of n word).1 == b)

-- how many words of 64 bits pick a and then b among n agents
abbrev pub words_of_pair : (n a b : ℕ) → ℕ
words_of_pair n a b = count_below (is_pick n a b) (2 ^ 64)

-- how many numbers of 32 bits leave the rest r, divided by m
abbrev pub share : (m r : ℕ) → ℕ
share m r = 2 ^ 32 / m + cond (nat_lt r (2 ^ 32 % m)) 1 0

-- the place of b among the agents other than a
abbrev pub place_beside : (a b : ℕ) → ℕ
place_beside a b = cond (nat_lt a b) (b - 1) b

pub record ArePicksUniform : Type 0 where
  pub exact : (n a b : ℕ) → 2 ≤ n → a ≢ b → a < n → b < n
      → words_of_pair n a b ≡ share n a * share (n - 1) (place_beside a b)
  -- so the counts of two pairs differ by no more than these bounds do
  pub least : (n a b : ℕ) → 2 ≤ n → a ≢ b → a < n → b < n
      → 2 ^ 32 / n * (2 ^ 32 / (n - 1)) ≤ words_of_pair n a b
  pub most : (n a b : ℕ) → 2 ≤ n → a ≢ b → a < n → b < n
      → words_of_pair n a b ≤ (2 ^ 32 / n + 1) * (2 ^ 32 / (n - 1) + 1)
