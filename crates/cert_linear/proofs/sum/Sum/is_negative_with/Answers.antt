use Rattle.std.specs.Prelude.{pos, negsuc, int_le}
use Rattle.std.proofs.Common.{◌≡◌, true, ap, sym, ◌∙◌}
use Rattle.cert_base.specs.ClosingTests.{each_coefficient}
use Rattle.cert_linear.proofs.Named.{and_passed}
use Rattle.cert_linear.proofs.Entries.{none-positive-both}
use Rattle.cert_linear.proofs.sum.Sum.is_negative_with.Goals as goal

pub returns-then-has_negative_constant_with : goal.returns-then-has_negative_constant_with
returns-then-has_negative_constant_with c = λ row are.
    let low : int_le row.constant (negsuc 0) ≡ true = ap (λ z. int_le z (negsuc 0)) (sym are.constant) ∙ sym c.has_negative_constant_with.ensures ∙ c.if-has_negative_constant_with.true in
    and_passed c.have_no_positive.result (each_coefficient (λ a. int_le a (pos 0)) row) (int_le row.constant (negsuc 0))
    (c.have_no_positive.ensures ∙ none-positive-both row c.args.self.now c.args.other.now c.args.positive.now are c.requires.own.0 c.requires.positive)
    low
