use Rattle.cert_json.proofs.part.parts_of.Goals as goal

pub returns : goal.returns
returns c = c.each_in.ensures.items
