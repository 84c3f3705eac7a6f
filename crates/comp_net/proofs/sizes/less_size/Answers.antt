use Rattle.std.proofs.Common.{◌∙◌, sym}
use Rattle.comp_net.proofs.Chosen.{range_found, top_low}
use Rattle.comp_net.proofs.sizes.less_size.Goals as goal

pub powers_states-requires-clause-range : goal.powers_states-requires-clause-range
powers_states-requires-clause-range c =
    range_found c.args.choice c.args.coefs.now _ c.in-Powers.range (sym c.less_leaf.ensures ∙ c.in-Powers.is)

pub prefix_states-requires : goal.prefix_states-requires
prefix_states-requires c =
    top_low c.args.choice c.args.coefs.now _ c.in-Prefix.top (sym c.less_leaf.ensures ∙ c.in-Prefix.is)
