-- What a failure says. Out of memory says nothing.
use Rattle.std.specs.Prelude.{◌≡◌, Option, Some, None, Result, Ok, Err, IfErr}
use Rattle.pop_io.specs.declared.failure.Failure.{Failure}
use Rattle.pop_io.specs.declared.failure.Failure.TheVariants.{Fault, NoMemory}

-- the fault, if the failure names one
abbrev pub fault_of : {F : Type 0} → Failure F → Option F
fault_of (Fault fault) = Some fault
fault_of NoMemory = None

-- what holds of the fault, if the failure names one
abbrev pub Names : {F : Type 0} → (F → Type 0) → Failure F → Type 0
Names P (Fault fault) = P fault
Names P NoMemory = Unit {0}

-- what holds of the fault, if the call failed by one
abbrev pub IfFault : {T F : Type 0} → Result T (Failure F) → (F → Type 0) → Type 0
IfFault result P = IfErr result (Names P)

-- the call can fail by out of memory alone
abbrev pub OnlyMemory : {T F : Type 0} → Result T (Failure F) → Type 0
OnlyMemory result = IfErr result (λ failure. failure ≡ NoMemory)
