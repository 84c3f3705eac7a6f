use Rattle.pop_checker.proofs.tame.is_part_tame.Goals as goal

pub returns-in-Silent : goal.returns-in-Silent
returns-in-Silent c = rw c.in-Silent.is c.has_tame_layers.ensures
