use Rattle.std.proofs.Common.{◌≡◌, map, take}
use Rattle.comp_remainder.specs.RemainderLeaf.{residue_of}
use Rattle.comp_remainder.proofs.leaf.inputs.Given as goal

abbrev pub invariant-loop-coef : goal.invariant-loop-coef
invariant-loop-coef l = l.inputs.items ≡ map (residue_of l.modulus.number) (take l.coef-index l.coefs)
