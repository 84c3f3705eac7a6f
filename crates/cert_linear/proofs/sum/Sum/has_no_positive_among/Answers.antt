use Rattle.std.proofs.Common.{◌+ℤ◌, ℕ, pos, rules, tests}
use Rattle.std.specs.Prelude.{int_le}
use Rattle.std.proofs.lemmas.Iterator.{YieldsList-from_slice}
use Rattle.std.proofs.lemmas.Iterator.Search.{all_from_yields_List}
use Rattle.cert_linear.specs.Sums.{coefficient_of}
use Rattle.cert_linear.proofs.sum.Sum.has_no_positive_among.Goals as goal

pub returns : goal.returns
returns c =
    all_from_yields_List (λ (q : ℕ). int_le (coefficient_of c.args.self.now q +ℤ coefficient_of c.args.other.now q) (pos 0)) _ _ _ c.all.ensures.ran
    (YieldsList-from_slice c.args.variables.now cc) (λ x b q k. search (rules, tests))
