-- A fault that was made is the fault that reading gives.
use Rattle.std.proofs.Common.{◌≡◌, ℕ, List, Result}
use Rattle.base_json.specs.declared.fault.Why.{Why}
use Rattle.base_json.specs.declared.fault.FormatFault.{FormatFault}
use Rattle.base_json.specs.declared.fault.FormatFault.TheVariants.{Broken, NoMemory}
use Rattle.base_json.specs.Faults.{Fault, broken, Says, FailsRead}

pub Fails-said : {Y : Type 0} (e : FormatFault) (path : List ℕ) (why : Why) (read : Result Y Fault) → Says e path why → read ≡ broken path why → FailsRead e read
Fails-said NoMemory path why read said is = tt
Fails-said (Broken p w) path why read said is = rw (said.0, said.1) is
