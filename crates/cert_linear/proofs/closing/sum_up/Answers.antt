use Rattle.std.proofs.Common.{◌≡◌, ◌*◌, ◌+◌, arith, get_or}
use Rattle.std.specs.Prelude.{pos, slice_get, Some}
use Rattle.cert_base.specs.declared.fact.Term.{Term}
use Rattle.cert_linear.specs.Sums.{may_by}
use Rattle.cert_linear.proofs.Named.{named_at, all_named_more, not_named, scaled_plus, fits_word}
use Rattle.std.proofs.lemmas.Int.{to_z-of_z}
use mir.Syntax.{w64}
use Rattle.cert_linear.proofs.Coefficients.{sum_step, wider}
use Rattle.cert_linear.proofs.closing.sum_up.Goals as goal
use Rattle.cert_linear.specs.declared.sum.TheConstants.{PRODUCT_LIMIT}

abbrev d : Term
d = record { at = 0; by = pos 0 }

pub returns-in_default-clause-sum : goal.returns-in_default-clause-sum
returns-in_default-clause-sum c =
    let t = get_or c.args.terms.now c.loop-term.term-index d in
    let is : slice_get c.args.facts.now t.at ≡ Some c.index-facts-term.result = named_at c.args.facts.now t c.index-facts-term.result (c.requires.named c.loop-term.term-index d (omega arith)) c.index-facts-term.is in
    let by = to_z-of_z w64 t.by (fits_word t.by (c.requires.multipliers.small c.loop-term.term-index d (omega arith))) in
    not_named (may_by c.args.modulus) c.args.facts.now c.args.terms.now c.loop-term.term-index d c.index-facts-term.result (omega arith) is (rw by at c.in_default.ensures)

pub loop-term-preserved : goal.loop-term-preserved
loop-term-preserved c =
    let t = get_or c.args.terms.now c.loop-term.term-index d in
    let is : slice_get c.args.facts.now t.at ≡ Some c.index-facts-term.result = named_at c.args.facts.now t c.index-facts-term.result (c.requires.named c.loop-term.term-index d (omega arith)) c.index-facts-term.is in
    let by = to_z-of_z w64 t.by (fits_word t.by (c.requires.multipliers.small c.loop-term.term-index d (omega arith))) in
    let added = rw by at c.in-Some.ensures in
    record {
      named = all_named_more (may_by c.args.modulus) c.args.facts.now c.args.terms.now c.loop-term.term-index d c.index-facts-term.result (omega arith) is added.0 c.loop-term.invariant.named;
      sum = sum_step c.args.facts.now c.args.terms.now c.loop-term.term-index d c.loop-term.sum c.add.new.self (omega arith) c.loop-term.invariant.sum (scaled_plus c.args.facts.now t c.index-facts-term.result c.in-Some.row.now c.loop-term.sum c.add.new.self is added.1 (rw by at c.in_ok-add.ensures.plus));
      size = wider (c.loop-term.term-index * PRODUCT_LIMIT + PRODUCT_LIMIT) ((c.loop-term.term-index + 1) * PRODUCT_LIMIT) c.add.new.self (omega arith) (c.in_ok-add.ensures.size (c.loop-term.term-index * PRODUCT_LIMIT) c.loop-term.invariant.size);
      tidy = c.in_ok-add.ensures.tidy;
    }
