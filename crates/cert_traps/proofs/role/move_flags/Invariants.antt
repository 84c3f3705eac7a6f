use Rattle.std.proofs.Common.{◌≡◌, map, take}
use Rattle.cert_traps.specs.Roles.{passes_role}
use Rattle.cert_traps.proofs.role.move_flags.Given as goal

abbrev pub invariant-loop-t : goal.invariant-loop-t
invariant-loop-t l = l.flags.items ≡ map (passes_role l.set l.role) (take l.t l.leaf.moves)
