-- Marks: for each number below a count whether it is listed.
use Rattle.std.specs.Prelude.{◌≡◌, ℕ, ◌<◌, Bool, List, length, Some, slice_get}
use Rattle.pop_leaf.specs.Hushed.{is_kept}

pub record AreMarks (count : ℕ) (kept : List ℕ) (marks : List Bool) : Type 0 where
  pub long : length marks ≡ count
  pub each : (n : ℕ) → n < count → slice_get marks n ≡ Some (is_kept kept n)
