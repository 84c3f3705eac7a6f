use Rattle.cert_json.proofs.terms.small_of.Goals as goal

pub returns : goal.returns
returns c = c.integer_of.ensures.number
