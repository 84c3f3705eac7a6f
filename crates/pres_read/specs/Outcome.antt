-- What a call of the code gives, compared with what the definitions say, unless out of memory.
use Rattle.pop_io.specs.declared.failure.Failure.{Failure}
use Rattle.std.specs.Prelude.{Result}
use Rattle.pop_io.specs.Failures.{fault_of}
use Rattle.pop_io.specs.Gives.{Gives as GivesBy}
use Rattle.pres_read.specs.declared.fault.ReadPred.{ReadPred}
pub use Rattle.pop_io.specs.Gives.{◌>>=◌}

-- what a call gave, seen by `view`, is this, unless out of memory
abbrev pub GivesParsed : {X Y : Type 0} → (X → Y) → Result X (Failure ReadPred) → Result Y ReadPred → Type 0
GivesParsed view result wanted = GivesBy fault_of view result wanted
