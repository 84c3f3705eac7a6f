use Rattle.net_json.proofs.write.move_value.Goals as goal

pub returns : goal.returns
returns c = c.numbers_value.ensures
