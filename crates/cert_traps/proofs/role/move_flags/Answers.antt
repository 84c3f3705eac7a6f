use Rattle.std.proofs.Common.{◌∙◌, ◌++◌, ◌∷◌, [], ap, map, arith}
use Rattle.std.proofs.lemmas.List.{take_all}
use Rattle.cert_traps.specs.Roles.{passes_role}
use Rattle.cert_traps.proofs.Lists.{map-take_more}
use Rattle.cert_traps.proofs.role.move_flags.Goals as goal
use Rattle.pop_leaf.proofs.Within.{move_small}

pub passes-requires : goal.passes-requires
passes-requires c = move_small c.args.leaf.now c.loop-t.t c.move_at.result c.requires c.move_at.ensures

pub loop-t-preserved : goal.loop-t-preserved
loop-t-preserved c =
    map-take_more (passes_role c.args.set.now c.args.role) c.args.leaf.now.moves c.loop-t.t c.move_at.result c.loop-t.flags.items c.push.new.self.items c.move_at.ensures c.loop-t.invariant
    (c.in_ok-push.ensures.items ∙ ap (λ flag. c.loop-t.flags.items ++ flag ∷ []) c.passes.ensures)

pub returns : goal.returns
returns c =
    c.loop-t.invariant
    ∙ ap (map (passes_role c.args.set.now c.args.role)) (take_all c.loop-t.t c.args.leaf.now.moves (omega (arith, c.move_count-t-end.ensures, c.loop-t-test.false)))
