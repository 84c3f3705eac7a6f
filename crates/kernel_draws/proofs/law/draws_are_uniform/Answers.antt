use Rattle.std.proofs.Common.{ℕ, ◌<◌, ◌/◌, ◌^◌, arith}
use Rattle.kernel_draws.specs.Uniform.{HasWords, number_of_pair, pair_count}
use Rattle.kernel_draws.proofs.Rows.{first_of, in_row, ends_within}
use Rattle.kernel_draws.proofs.Pairs.{pair_below, pair_distinct}
use Rattle.kernel_draws.proofs.law.draws_are_uniform.Goals as goal

words : (size number : ℕ) → number < size → HasWords size number (2 ^ 64 / size)
words size number below = (
  first_of (2 ^ 64) size number,
  ends_within (2 ^ 64) size number below (omega arith),
  λ word. in_row (2 ^ 64) size number word (omega arith) (omega arith),
)

-- src/law.rt:7:1
pub returns : goal.returns
returns c = record {
  numbers = λ size number below fits. words size number below;
  pairs = λ n pair is fits. words (pair_count n) (number_of_pair n pair) (pair_below n pair is);
  distinct = pair_distinct;
}
