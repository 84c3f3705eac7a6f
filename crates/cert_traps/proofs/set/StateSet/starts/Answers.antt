use Rattle.std.proofs.Common.{◌∙◌, ◌++◌, ◌∷◌, [], ap, map, arith}
use Rattle.std.proofs.lemmas.List.{take_all}
use Rattle.cert_base.specs.FactsAndCases.{is_in}
use Rattle.cert_traps.proofs.Lists.{map-take_more}
use Rattle.cert_traps.proofs.set.StateSet.starts.Goals as goal

pub loop-i-preserved : goal.loop-i-preserved
loop-i-preserved c =
    map-take_more (is_in c.args.self.now) c.args.leaf.now.inputs c.loop-i.i c.input.result c.loop-i.flags.items c.push.new.self.items c.input.ensures.start c.loop-i.invariant
    (c.in_ok-push.ensures.items ∙ ap (λ flag. c.loop-i.flags.items ++ flag ∷ []) c.contains.ensures)

pub returns-clause-flags : goal.returns-clause-flags
returns-clause-flags c =
    c.loop-i.invariant
    ∙ ap (map (is_in c.args.self.now)) (take_all c.loop-i.i c.args.leaf.now.inputs (omega (arith, c.input_count-i-end.ensures.count, c.loop-i-test.false)))
