use Rattle.std.proofs.Common.{refl, rules, subst, w64, SFits}
use Rattle.std.proofs.lemmas.Int.{to_z-of_z}
use Rattle.std.proofs.lemmas.Result.{on_ok_weaker}
use Rattle.pres_ast.specs.PredTree.{LessThan}
use Rattle.comp_net.specs.Building.{IsAtom}
use Rattle.comp_net.proofs.Adding.{one_added}
use Rattle.comp_net.proofs.building.Built.push_less.Goals as goal

pub returns : goal.returns
returns c =
    let fits : SFits w64 c.args.bound = search rules in
    let is = subst (λ z. IsAtom c.args.choice c.args.helpers (LessThan c.args.coefs.now z) c.in_ok-leaf.leaf c.in_ok-leaf.part) (to_z-of_z w64 c.args.bound fits) c.in_ok-leaf.ensures in
    on_ok_weaker c.push_atom.result (one_added c.args.choice c.args.helpers (LessThan c.args.coefs.now c.args.bound) c.in_ok-leaf.leaf c.in_ok-leaf.part _ _ refl (λ n. refl) is) c.push_atom.ensures
