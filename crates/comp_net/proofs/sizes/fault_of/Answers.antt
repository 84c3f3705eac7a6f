use Rattle.std.proofs.Common.{◌∙◌, ◌++◌, length, ap, sym, subst, arith}
use Rattle.std.proofs.lemmas.List.{length-map}
use Rattle.pres_ast.specs.PredModel.{weight_of}
use Rattle.pres_ast.specs.TreeOf.{tree_of}
use Rattle.comp_net.specs.Atoms.{atoms, atom_size, has_no_leaf, AreShort}
use Rattle.comp_net.specs.CompileFaults.{sizes_of, missing_of}
use Rattle.comp_net.proofs.Postfix.{atoms-most}
use Rattle.comp_net.proofs.Narrow.{short_atoms}
use Rattle.comp_net.proofs.sizes.fault_of.Goals as goal

pub push_sizes-requires : goal.push_sizes-requires
push_sizes-requires c =
    subst AreShort (sym c.tree-tree.ensures.value) (short_atoms c.args.pred.now.variables c.args.pred.now.tree c.tree-tree.ensures.limits.variables c.tree-tree.ensures.limits.atoms)

pub fault_by-requires : goal.fault_by-requires
fault_by-requires c =
    let tree = tree_of c.tree-tree.result.now in
    let sizes = ap length (c.as_slice-2.ensures.value ∙ c.in_ok-push_sizes.ensures ∙ ap (λ xs. xs ++ sizes_of c.args.choice tree) c.new-sizes.ensures.items) in
    let missing = ap length (c.as_slice.ensures.value ∙ c.in_ok-push_missing.ensures ∙ ap (λ xs. xs ++ missing_of c.args.choice tree) c.new-missing.ensures.items) in
    let few = atoms-most tree in
    let most = c.tree-tree.ensures.limits.weight in
    let same = ap weight_of c.tree-tree.ensures.value in
    let one = length-map (atoms tree) (atom_size c.args.choice) in
    let two = length-map (atoms tree) (has_no_leaf c.args.choice) in
    record { few = omega (arith, sizes, one, few, most, same); same = omega (arith, sizes, missing, one, two) }
