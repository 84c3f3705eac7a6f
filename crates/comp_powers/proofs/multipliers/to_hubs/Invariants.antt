use Rattle.std.proofs.Common.{◌≡◌, take}
use Rattle.cert_base.specs.FactsAndCases.{places_from, puts_into}
use Rattle.comp_powers.specs.PowersProof.{hubs}
use Rattle.comp_powers.proofs.multipliers.to_hubs.Given as goal

abbrev pub invariant-loop-t : goal.invariant-loop-t
invariant-loop-t l = l.moves.items ≡ places_from 0 (puts_into hubs) (take l.t l.leaf.moves)
