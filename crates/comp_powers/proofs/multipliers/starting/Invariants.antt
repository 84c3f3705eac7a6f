use Rattle.std.proofs.Common.{◌≡◌, take}
use Rattle.cert_base.specs.FactsAndCases.{places_from, is_in}
use Rattle.comp_powers.specs.PowersProof.{hubs}
use Rattle.comp_powers.proofs.multipliers.starting.Given as goal

abbrev pub invariant-loop-i : goal.invariant-loop-i
invariant-loop-i l = l.inputs.items ≡ places_from 0 (is_in hubs) (take l.i l.leaf.inputs)
