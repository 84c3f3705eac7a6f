use Rattle.std.proofs.Common.{◌∙◌}
use Rattle.pres_ast.specs.PredicateValue.{is_multiple}
use Rattle.cert_linear.proofs.Entries.{each-touched}
use Rattle.cert_linear.proofs.sum.Sum.has_multiples.Goals as goal
use Rattle.cert_base.proofs.Integers.{divides-zero}

pub returns : goal.returns
returns c = λ row is. c.has_multiple_values.ensures ∙ each-touched (is_multiple c.args.modulus) row c.args.self.now is c.requires.tidy (divides-zero c.args.modulus)
