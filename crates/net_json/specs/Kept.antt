-- Faults that name a rule.
use Rattle.base_json.specs.declared.fault.FormatFault.{FormatFault}
use Rattle.base_json.specs.declared.fault.FormatFault.TheVariants.{Broken, NoMemory}

-- the fault names a broken rule: it is not out of memory
abbrev pub IsBroken : FormatFault → Type 0
IsBroken NoMemory = ⊥
IsBroken (Broken path why) = Unit {0}
