use Rattle.comp_powers_leaf.proofs.MovePushes.{taken_role, taken_valid}
use Rattle.comp_powers.proofs.values.role_in.Goals as goal

pub returns-clause-role : goal.returns-clause-role
returns-clause-role c = taken_role c.args.coefs.now c.args.k c.args.roles.now c.from.result c.args.q c.requires.roles c.from.ensures c.requires.state

pub returns-clause-there : goal.returns-clause-there
returns-clause-there c = taken_valid c.args.coefs.now c.args.k c.args.roles.now c.from.result c.args.q c.requires.roles c.from.ensures c.requires.state
