use Rattle.std.proofs.Common.{◌∙◌, ap, sym, rules, w64, SFits}
use Rattle.std.proofs.lemmas.Int.{to_z-of_z}
use Rattle.pres_ast.specs.declared.tree.Tree.{Tree}
use Rattle.pres_ast.specs.PredTree.{LessThan}
use Rattle.pres_ast.specs.TreeOf.{tree_of}
use Rattle.comp_net.specs.Atoms.{are_alone}
use Rattle.comp_net.proofs.choice.+all_alone.Goals as goal

pub returns-in-Less : goal.returns-in-Less
returns-in-Less t c =
    let bound = c.in-Less.bound in
    let fits : SFits w64 bound = search rules in
    c.is_alone.ensures
    ∙ ap (λ z. are_alone (LessThan c.as_slice.result.now z)) (to_z-of_z w64 bound fits)
    ∙ ap (λ coefs. are_alone (LessThan coefs bound)) c.as_slice.ensures
    ∙ sym (ap (λ (t : Tree). are_alone (tree_of t)) c.in-Less.is)
