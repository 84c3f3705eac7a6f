use Rattle.std.proofs.Common.{◌≡◌, ◌<◌, true, false, length, refl, ap, sym, ◌∙◌, arith, rules}
use Rattle.std.proofs.lemmas.Option.{slice_get_within}
use Rattle.cert_base.specs.declared.stable.StablePart.{StablePart}
use Rattle.theory_nets.proofs.LeafByLeaf.{one_more, part_at}
use Rattle.pop_checker.specs.Silent.{IsTamePart}
use Rattle.pop_checker.proofs.tame.are_tame.Goals as goal

pub is_part_tame-requires-clause-valid : goal.is_part_tame-requires-clause-valid
is_part_tame-requires-clause-valid c =
    c.requires.valid c.loop-number.number c.leaf.result.now c.index-parts-number.result c.leaf.ensures
    (part_at c.args.proof.now.leaves c.as_slice-parts.result.now c.loop-number.number c.index-parts-number.result c.as_slice-parts.ensures c.loop-number-test.true c.index-parts-number.is)

pub loop-number-preserved : goal.loop-number-preserved
loop-number-preserved c =
    let yes : c.in_ok-tame.tame ≡ true = search rules in
    let here = part_at c.args.proof.now.leaves c.as_slice-parts.result.now c.loop-number.number c.index-parts-number.result c.as_slice-parts.ensures c.loop-number-test.true c.index-parts-number.is in
    one_more (λ leaf (part : StablePart). IsTamePart leaf part) c.args.net.now c.args.proof.now.leaves c.loop-number.number c.leaf.result.now c.index-parts-number.result c.loop-number.invariant c.leaf.ensures here (c.in_ok-tame.ensures.0 yes)

pub returns-then-not-tame : goal.returns-then-not-tame
returns-then-not-tame c =
    let no : c.in_ok-tame.tame ≡ false = search rules in
    let here = part_at c.args.proof.now.leaves c.as_slice-parts.result.now c.loop-number.number c.index-parts-number.result c.as_slice-parts.ensures c.loop-number-test.true c.index-parts-number.is in (
      (λ (e : false ≡ true). cc),
      (λ each. sym no ∙ c.in_ok-tame.ensures.1 (each c.loop-number.number c.leaf.result.now c.index-parts-number.result c.leaf.ensures here)),
    )

pub returns : goal.returns
returns c = (
  (λ e i leaf part h k.
      let within = slice_get_within c.args.proof.now.leaves i part k in
      c.loop-number.invariant i leaf part (let l : i < c.loop-number.number = omega (arith, within, c.loop-number-test.false, ap length c.as_slice-parts.ensures) in l) h k),
  (λ tame. refl),
)
