use Rattle.std.proofs.Common.{◌≡◌, None, sym, subst}
use Rattle.pres_ast.specs.PredModel.{PredModel}
use Rattle.comp_net.specs.CompileFaults.{fault_with}
use Rattle.comp_net.specs.declared.choice.LeafChoice.TheVariants.{Plain}
use Rattle.tool_demos.proofs.DemoCases.{case_fits}
use Rattle.tool_demos.proofs.demo.case_of.Goals as goal

pub checked_of-requires-clause-fits : goal.checked_of-requires-clause-fits
checked_of-requires-clause-fits c =
    subst (λ (p : PredModel). fault_with Plain p.tree ≡ None) (sym c.in_ok-pred.ensures.pred) (case_fits c.args.number)
