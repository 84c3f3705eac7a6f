use Rattle.std.proofs.Common.{◌∙◌, ap}
use Rattle.std.specs.Prelude.{negsuc}
use Rattle.cert_base.specs.declared.fact.Fact.TheVariants.{Ge}
use Rattle.cert_base.specs.Rows.{move_row}
use Rattle.cert_traps.specs.Roles.{passes_role}
use Rattle.cert_traps.proofs.Lists.{flags_coefs, length-coefs}
use Rattle.cert_traps.proofs.trap.some_taken.Goals as goal

pub over_moves-requires : goal.over_moves-requires
over_moves-requires c =
    length-coefs (passes_role c.args.set.now c.args.role) c.args.leaf.now.moves c.as_slice.result.now c.as_slice-2.result.now (c.as_slice.ensures.value ∙ c.in_ok-flags.ensures) (c.as_slice-2.ensures.value ∙ c.in_ok-coefs.ensures)

pub returns : goal.returns
returns c =
    ap Ge (c.in_ok-over_moves.ensures ∙ ap (λ coefs. move_row c.args.leaf.now coefs (negsuc 0)) (flags_coefs (passes_role c.args.set.now c.args.role) c.args.leaf.now.moves c.as_slice.result.now c.as_slice-2.result.now (c.as_slice.ensures.value ∙ c.in_ok-flags.ensures) (c.as_slice-2.ensures.value ∙ c.in_ok-coefs.ensures)))
