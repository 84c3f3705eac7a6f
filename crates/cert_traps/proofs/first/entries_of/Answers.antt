use Rattle.std.proofs.Common.{◌∙◌, ap, map, arith}
use Rattle.std.specs.Prelude.{filter}
use Rattle.std.proofs.lemmas.List.{take_all}
use Rattle.cert_base.specs.FactsAndCases.{enters, is_possible}
use Rattle.pop_leaf.proofs.Within.{move_small}
use Rattle.cert_traps.proofs.Lists.{cases_more}
use Rattle.cert_traps.proofs.first.entries_of.Goals as goal

pub push_entry-requires : goal.push_entry-requires
push_entry-requires c = move_small c.args.leaf.now c.loop-t.t c.move_at.result c.requires c.move_at.ensures

pub loop-t-preserved : goal.loop-t-preserved
loop-t-preserved c =
    cases_more c.args.leaf.now (enters c.args.set.now) c.loop-t.t c.move_at.result c.loop-t.cases.items c.push_entry.new.cases.items c.move_at.ensures c.loop-t.invariant c.in_ok-push_entry.ensures

pub returns : goal.returns
returns c =
    c.from_vec.ensures
    ∙ c.loop-t.invariant
    ∙ ap (λ moves. map (is_possible c.args.leaf.now) (filter (enters c.args.set.now) moves)) (take_all c.loop-t.t c.args.leaf.now.moves (omega (arith, c.move_count-t-end.ensures, c.loop-t-test.false)))
