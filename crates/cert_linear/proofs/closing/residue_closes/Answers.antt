use Rattle.std.proofs.Common.{◌≡◌}
use Rattle.std.specs.Prelude.{IfOk}
use Rattle.cert_base.specs.ClosingTests.{closes_by_residue}
use Rattle.cert_linear.proofs.Refuted.{residue-refuted, told}
use Rattle.cert_linear.proofs.closing.residue_closes.Goals as goal

pub returns : goal.returns
returns c =
    let facts = c.args.facts.now in
    let m = c.args.modulus in
    let terms = c.args.terms.now in
    let is : IfOk c.residue.result (λ closes. closes ≡ closes_by_residue facts m terms) = rw (c.as_slice.ensures, c.as_slice-2.ensures) at c.residue.ensures.closes in
    told facts (closes_by_residue facts m terms) c.residue.result is (residue-refuted facts m terms c.residue.result is)
