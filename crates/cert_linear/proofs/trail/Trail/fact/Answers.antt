use Rattle.std.proofs.Common.{rules}
use Rattle.std.proofs.lemmas.Option.{slice_get_read}
use Rattle.cert_linear.proofs.trail.Trail.fact.Goals as goal

pub returns : goal.returns
returns c = search (rules, slice_get_read)
