use Rattle.cert_layers.proofs.Tameness.{decides_in_time, decides_beyond}
use Rattle.cert_layers.proofs.tame.are_tame.Goals as goal

pub returns-then-is_work_within : goal.returns-then-is_work_within
returns-then-is_work_within c =
    decides_in_time c.args.leaf.now c.args.layers.now c.args.layer_of_move.now c.args.table.now c.requires.formed c.requires.placed c.requires.table c.requires.within.few c.is_work_within.result c.some_fight.result c.if-is_work_within.true c.is_work_within.ensures c.some_fight.ensures

pub returns-else-is_work_within : goal.returns-else-is_work_within
returns-else-is_work_within c =
    decides_beyond c.args.leaf.now c.args.layers.now c.args.layer_of_move.now c.args.table.now c.requires.formed c.requires.placed c.requires.table c.requires.within.few c.is_work_within.result c.if-is_work_within.false c.is_work_within.ensures
