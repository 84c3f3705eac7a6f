use Rattle.cert_json.proofs.read.leaf_proofs_of.Goals as goal

pub returns : goal.returns
returns c = c.each_in.ensures.items
