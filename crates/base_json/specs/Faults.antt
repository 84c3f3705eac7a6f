-- What reading a file gives: a value, or the first broken rule with its path.
use Rattle.std.specs.Prelude.{◌≡◌, ℕ, List, Option, Some, None, Result, Err}
use Rattle.pop_io.specs.Gives.{Fails as FailsBy, Gives as GivesBy}
use Rattle.base_json.specs.declared.fault.Why.{Why}
use Rattle.base_json.specs.declared.fault.FormatFault.{FormatFault}
use Rattle.base_json.specs.declared.fault.FormatFault.TheVariants.{Broken, NoMemory}
pub use Rattle.pop_io.specs.Gives.{◌>>=◌}

pub record Fault : Type 0 where
  pub path : List ℕ
  pub why : Why

abbrev pub broken : {A : Type 0} → List ℕ → Why → Result A Fault
broken path why = Err (record { path = path; why = why })

-- the broken rule, unless out of memory
abbrev pub fault_of : FormatFault → Option Fault
fault_of NoMemory = None
fault_of (Broken path why) = Some (record { path = path; why = why })

-- the fault says this path and reason, unless out of memory
abbrev pub Says : FormatFault → List ℕ → Why → Type 0
Says NoMemory path why = Unit {0}
Says (Broken p w) path why = (p ≡ path) × (w ≡ why)

-- the fault is what reading gives, unless out of memory
abbrev pub FailsRead : {Y : Type 0} → FormatFault → Result Y Fault → Type 0
FailsRead e read = FailsBy fault_of e read

-- what a function returned, seen by `view`, is what reading gives, unless out of memory
abbrev pub GivesRead : {X Y : Type 0} → (X → Y) → Result X FormatFault → Result Y Fault → Type 0
GivesRead view result read = GivesBy fault_of view result read
