use Rattle.std.proofs.Common.{length, ◌∙◌, sym}
use Rattle.cert_tree.proofs.Passed.{all_named, residue_passed}
use Rattle.cert_tree.proofs.nodes.residue_node.Goals as goal

pub returns-clause-passed : goal.returns-clause-passed
returns-clause-passed c =
    let named = rw (c.len.ensures.length, c.as_slice.ensures) at (sym c.name_facts.ensures ∙ c.if-not-name_facts.false) in
    residue_passed c.args.trail.now c.args.modulus c.args.terms.now c.from_vec.result named (sym c.in_ok-is_refuted_by_residue.ensures.answer.closes ∙ c.if-not-branch.false) (c.from_vec.ensures ∙ c.new.ensures.items)

pub is_refuted_by_residue-requires-clause-combination : goal.is_refuted_by_residue-requires-clause-combination
is_refuted_by_residue-requires-clause-combination c =
    let named = rw (c.len.ensures.length, c.as_slice.ensures) at (sym c.name_facts.ensures ∙ c.if-not-name_facts.false) in
    record {
      named = all_named (length c.args.trail.now) c.args.terms.now named;
      multipliers = c.requires.multipliers;
      ordered = c.requires.ordered;
    }
