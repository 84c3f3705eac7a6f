use Rattle.cert_tree.proofs.nodes.node_cases.Goals as goal

pub returns-in-Linear-clause-passed : goal.returns-in-Linear-clause-passed
returns-in-Linear-clause-passed c = rw c.in-Linear.is (c.linear_node.ensures.passed c.args.leaf.now c.args.dead.now)

pub returns-in-Linear-clause-halts : goal.returns-in-Linear-clause-halts
returns-in-Linear-clause-halts c = rw c.in-Linear.is (c.linear_node.ensures.halts c.args.leaf.now c.args.dead.now)

pub returns-in-Residue-clause-passed : goal.returns-in-Residue-clause-passed
returns-in-Residue-clause-passed c = rw c.in-Residue.is (c.residue_node.ensures.passed c.args.leaf.now c.args.dead.now)

pub returns-in-Residue-clause-halts : goal.returns-in-Residue-clause-halts
returns-in-Residue-clause-halts c = rw c.in-Residue.is (c.residue_node.ensures.halts c.args.leaf.now c.args.dead.now)

pub returns-in-Split-clause-passed : goal.returns-in-Split-clause-passed
returns-in-Split-clause-passed c = rw c.in-Split.is (c.split_node.ensures.passed c.args.dead.now c.args.trail.now)

pub returns-in-Split-clause-halts : goal.returns-in-Split-clause-halts
returns-in-Split-clause-halts c = rw c.in-Split.is (c.split_node.ensures.halts c.args.dead.now c.args.trail.now)

pub returns-in-Open-clause-passed : goal.returns-in-Open-clause-passed
returns-in-Open-clause-passed c = rw c.in-Open.is (c.open_node.ensures.passed c.args.leaf.now c.args.dead.now)

pub returns-in-Open-clause-halts : goal.returns-in-Open-clause-halts
returns-in-Open-clause-halts c = rw c.in-Open.is (c.open_node.ensures.halts c.args.leaf.now c.args.dead.now)

pub returns-in-Present-clause-passed : goal.returns-in-Present-clause-passed
returns-in-Present-clause-passed c = rw c.in-Present.is (c.present_node.ensures.passed c.args.trail.now)

pub returns-in-Present-clause-halts : goal.returns-in-Present-clause-halts
returns-in-Present-clause-halts c = rw c.in-Present.is (c.present_node.ensures.halts c.args.trail.now)

pub returns-in-Twin-clause-passed : goal.returns-in-Twin-clause-passed
returns-in-Twin-clause-passed c = rw c.in-Twin.is (c.twin_node.ensures.passed c.args.trail.now)

pub returns-in-Twin-clause-halts : goal.returns-in-Twin-clause-halts
returns-in-Twin-clause-halts c = rw c.in-Twin.is (c.twin_node.ensures.halts c.args.trail.now)

pub returns-in-Trap-clause-passed : goal.returns-in-Trap-clause-passed
returns-in-Trap-clause-passed c = rw c.in-Trap.is (c.trap_node.ensures.passed c.args.dead.now c.args.trail.now)

pub returns-in-Trap-clause-halts : goal.returns-in-Trap-clause-halts
returns-in-Trap-clause-halts c = rw c.in-Trap.is (c.trap_node.ensures.halts c.args.dead.now c.args.trail.now)

pub returns-in-Siphon-clause-passed : goal.returns-in-Siphon-clause-passed
returns-in-Siphon-clause-passed c = rw c.in-Siphon.is (c.siphon_node.ensures.passed c.args.dead.now c.args.trail.now)

pub returns-in-Siphon-clause-halts : goal.returns-in-Siphon-clause-halts
returns-in-Siphon-clause-halts c = rw c.in-Siphon.is (c.siphon_node.ensures.halts c.args.dead.now c.args.trail.now)

pub returns-in-First-clause-passed : goal.returns-in-First-clause-passed
returns-in-First-clause-passed c = rw c.in-First.is (c.first_node.ensures.passed c.args.dead.now c.args.trail.now)

pub returns-in-First-clause-halts : goal.returns-in-First-clause-halts
returns-in-First-clause-halts c = rw c.in-First.is (c.first_node.ensures.halts c.args.dead.now c.args.trail.now)
