use Rattle.cert_layers.proofs.tame.is_tame.Goals as goal

pub returns-clause-tame : goal.returns-clause-tame
returns-clause-tame c = rw c.as_slice.ensures at c.tested.ensures.tame

pub returns-clause-fault : goal.returns-clause-fault
returns-clause-fault c = rw c.as_slice.ensures at c.tested.ensures.fault
