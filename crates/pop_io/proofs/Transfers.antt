-- What the loops of `read_all` and `write_all` keep.
use Rattle.std.proofs.Common.{ℕ, ◌≤◌, List, length, take}
use Rattle.std.specs.Prelude.{Option}
use Rattle.pop_io.specs.declared.whole.TheConstants.{INPUT_LIMIT}
use Rattle.std.specs.Io.KnownBytes.{Consumes, Appends}

pub record Reading (old new : Option (List ℕ)) (before now : ℕ) (bytes : List ℕ) : Type 0 where
  pub consumed : Consumes old new bytes
  pub later : before ≤ now
  pub short : length bytes ≤ INPUT_LIMIT

pub record Writing (old new : Option (List ℕ)) (before now : ℕ) (bytes : List ℕ) (at : ℕ) (accepted : Type 0) : Type 0 where
  pub appended : Appends old new (take at bytes)
  pub later : before ≤ now
  pub within : at ≤ length bytes
  pub accepts : accepted
