use Rattle.net_json.proofs.leaf.OutputsReadItem.read.Goals as goal

pub returns : goal.returns
returns c = c.truth_of.ensures
