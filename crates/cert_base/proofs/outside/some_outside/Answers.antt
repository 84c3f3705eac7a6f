use Rattle.std.proofs.Common.{◌∙◌, length, ap}
use Rattle.std.proofs.lemmas.List.FromFn.{length-map-range_with_len}
use Rattle.cert_base.proofs.outside.some_outside.Goals as goal

pub over_states-requires : goal.over_states-requires
over_states-requires c =
    ap length (c.as_slice.ensures.value ∙ c.in_ok-coefs.ensures) ∙ length-map-range_with_len _ 0 (length c.args.leaf.now.states)
