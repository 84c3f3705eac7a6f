-- Picks: the pairs of agents that a worker lets meet, from its stream of random words.
use Rattle.std.specs.Prelude.{◌≡◌, ◌≢◌, ℕ, zero, suc, ◌+◌, ◌-◌, ◌/◌, ◌%◌, ◌^◌, ◌<◌, nat_le, if◌then◌else◌, List, []}
use Rattle.std.specs.Prelude.{◌∷◌}
use Rattle.rand_core.specs.Stream.{Stream, next_u64}
use Rattle.rand_core.specs.Steps.{stream_of, steps_u64_high}
use Rattle.rand_xoshiro.specs.SplitMix64.{splitmix_seed}
use Rattle.rand_xoshiro.specs.Xoshiro256.{of_seed, plus_plus}

-- the words that Xoshiro256++ produces from a state on
abbrev pub words_from : List ℕ → Stream
words_from state = stream_of (steps_u64_high plus_plus) state

-- the state of Xoshiro256++ that `seed_from_u64(seed + worker)` makes
abbrev pub first_state : ℕ → ℕ → List ℕ
first_state seed worker = of_seed (splitmix_seed 32 (seed + worker))

-- the pick of a word among n agents: its high half names one of them, and its low half one of the others
abbrev pub pick_of : ℕ → ℕ → ℕ × ℕ
pick_of n word =
    let a = word / 2 ^ 32 % n in let b = word % 2 ^ 32 % (n - 1) in (a, if nat_le a b then b + 1 else b)

-- the next picks of a stream of words; the last number says how many
abbrev pub picks_from : Stream → ℕ → ℕ → List (ℕ × ℕ)
picks_from words n zero = []
picks_from words n (suc count) = pick_of n (next_u64 words).0 ∷ picks_from (next_u64 words).1 n count

-- the first picks of a worker among n agents
abbrev pub picks : (seed worker n count : ℕ) → List (ℕ × ℕ)
picks seed worker n count = picks_from (words_from (first_state seed worker)) n count

-- two different agents of n
pub record IsPairBelow (n : ℕ) (pair : ℕ × ℕ) : Type 0 where
  pub different : pair.0 ≢ pair.1
  pub first : pair.0 < n
  pub second : pair.1 < n

-- the pair is the pick of the next word, and the picker has moved past that word
pub record IsNextPick (n : ℕ) (before after : List ℕ) (pair : ℕ × ℕ) : Type 0 where
  pub pick : pair ≡ pick_of n (next_u64 (words_from before)).0
  pub rest : words_from after ≡ (next_u64 (words_from before)).1
  -- successive picks are those of the definition
  pub in_row : (count : ℕ) → picks_from (words_from before) n (suc count) ≡ pair ∷ picks_from (words_from after) n count
