-- There are no more lines than bytes.
use Rattle.std.proofs.Common.{◌≡◌, ℕ, ◌≤◌, List, ◌∷◌, length, ap, arith}
use Rattle.base_lines.specs.Lines.{lines_of}
use Rattle.base_lines.proofs.Joined.{length-lines}

pub more_few : (bytes first second : List ℕ) (more : List (List ℕ)) → lines_of bytes ≡ first ∷ second ∷ more → length more ≤ length bytes
more_few bytes first second more is = omega (arith, length-lines bytes, ap length is)
