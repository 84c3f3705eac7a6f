-- The first picks with seed 0, computed.
use Rattle.std.proofs.Common.{◌≡◌, [], ◌∷◌, refl}
use Rattle.rand_core.specs.Stream.{fill_bytes, next_u64}
use Rattle.rand_core.specs.Steps.{stream_of, word_bytes, u32_at}
use Rattle.rand_xoshiro.specs.Xoshiro256.{plus_plus}
use Rattle.run_picks.specs.Picks.{first_state, picks}

pub state_zero : first_state 0 0 ≡ 0xe220a8397b1dcdaf ∷ 0x6e789e6aa1b965f4 ∷ 0x06c45d188009454f ∷ 0xf88bb8a8724c81ec ∷ []
unfolding fill_bytes next_u64 stream_of word_bytes u32_at
state_zero = refl

pub word_zero : (plus_plus (first_state 0 0)).0 ≡ 0x53175d61490b23df
unfolding fill_bytes next_u64 stream_of word_bytes u32_at
word_zero = refl

pub picks_of_two : picks 0 0 2 2 ≡ (1, 0) ∷ (1, 0) ∷ []
unfolding fill_bytes next_u64 stream_of word_bytes u32_at
picks_of_two = refl

pub picks_of_three : picks 0 0 3 2 ≡ (2, 1) ∷ (1, 2) ∷ []
unfolding fill_bytes next_u64 stream_of word_bytes u32_at
picks_of_three = refl
