use Rattle.std.proofs.Common.{◌≡◌, ℕ, ◌<◌, ◌≤◌, List, length}
use Rattle.std.specs.Prelude.{slice_index_or, vec_capacity, decimal}
use Rattle.base_lines.specs.Places.{three_digits}
use Rattle.base_lines.proofs.numerals.Numerals.new.Given as goal

abbrev pub invariant-loop-n : goal.invariant-loop-n
invariant-loop-n l = record {
  each : (k : ℕ) (d : List ℕ) → k < l.n → slice_index_or l.plain.items k d ≡ decimal k;
  each_padded : (k : ℕ) (d : List ℕ) → k < l.n → slice_index_or l.padded.items k d ≡ three_digits k;
  size : length l.plain.items ≡ l.n;
  size_padded : length l.padded.items ≡ l.n;
  room : l.most ≤ vec_capacity l.plain;
  room_padded : l.most ≤ vec_capacity l.padded;
}
