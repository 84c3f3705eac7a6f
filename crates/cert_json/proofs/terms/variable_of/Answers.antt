use Rattle.cert_json.proofs.terms.variable_of.Goals as goal

pub returns : goal.returns
returns c = c.ascending_of.ensures.number
