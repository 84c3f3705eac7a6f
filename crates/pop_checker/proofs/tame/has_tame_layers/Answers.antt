use Rattle.std.proofs.Common.{◌≡◌}
use Rattle.pop_io.specs.declared.failure.Failure.TheVariants.{NoMemory}
use Rattle.cert_layers.proofs.Valid.{valid-fault}
use Rattle.pop_checker.proofs.tame.has_tame_layers.Goals as goal

pub returns-in-Err-Fault : goal.returns-in-Err-Fault
returns-in-Err-Fault c =
    let none : c.in-Err-Fault.field-0 ≡ NoMemory = valid-fault c.args.leaf.now c.args.part.now.layers c.requires.valid c.in-Err-Fault.field-0 c.in-Err-Fault.ensures.fault in cc
