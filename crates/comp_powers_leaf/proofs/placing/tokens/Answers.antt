use Rattle.std.proofs.Common.{refl}
use Rattle.comp_trees.proofs.Members.{map_range_push}
use Rattle.comp_powers_leaf.specs.declared.role.Role.TheVariants.{Token}
use Rattle.comp_powers_leaf.proofs.placing.tokens.Goals as goal

pub loop-i-preserved : goal.loop-i-preserved
loop-i-preserved c =
    map_range_push (Token c.args.j) c.loop-i.i c.loop-i.roles.items c.push.new.self.items (Token c.args.j c.loop-i.i) c.loop-i.invariant refl c.in_ok-push.ensures.items
