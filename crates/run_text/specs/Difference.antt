-- Two lines of a journal that differ.
use Rattle.std.specs.Prelude.{ℕ, List}

-- the number of a line, the line that is kept, and the one that is expected; a missing line is shown as empty
pub record Difference : Type 0 where
  pub line : ℕ
  pub kept : List ℕ
  pub found : List ℕ
