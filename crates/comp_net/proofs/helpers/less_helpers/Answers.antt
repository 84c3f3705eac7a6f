use Rattle.std.proofs.Common.{◌∙◌, sym, arith}
use Rattle.comp_net.proofs.Chosen.{range_found, offset_low}
use Rattle.comp_net.proofs.helpers.less_helpers.Goals as goal

pub overflow_add-result : goal.overflow_add-result
overflow_add-result c =
    let low = range_found c.args.choice c.args.coefs.now _ c.in-Powers.range (sym c.less_leaf.ensures ∙ c.in-Powers.is) in
    omega (arith, low)

pub returns-in-Powers-clause-few : goal.returns-in-Powers-clause-few
returns-in-Powers-clause-few c =
    let low = range_found c.args.choice c.args.coefs.now _ c.in-Powers.range (sym c.less_leaf.ensures ∙ c.in-Powers.is) in
    omega (arith, low)

pub offset_helper_count-requires : goal.offset_helper_count-requires
offset_helper_count-requires c = offset_low c.args.choice c.args.coefs.now _ c.in-Offset.power (sym c.less_leaf.ensures ∙ c.in-Offset.is)

pub returns-in-Offset-clause-few : goal.returns-in-Offset-clause-few
returns-in-Offset-clause-few c =
    let low = offset_low c.args.choice c.args.coefs.now _ c.in-Offset.power (sym c.less_leaf.ensures ∙ c.in-Offset.is) in
    let few = c.offset_helper_count.ensures.few in
    omega (arith, low, few)
