-- RefusalLaw: a tree closes exactly when none of its nodes is refused.
use Rattle.std.specs.Prelude.{◌≡◌, ◌↔◌, Bool, List, [], None}
use Rattle.pres_ast.specs.PredModel.{PredModel}
use Rattle.pop_leaf.specs.LeafModel.{LeafModel, IsLeaf}
use Rattle.cert_base.specs.declared.node.Node.{Node}
use Rattle.cert_base.specs.FactsAndCases.{base_list}
use Rattle.cert_base.specs.Closes.{Closes}
use Rattle.cert_tree.specs.Refusals.{first_refused}

abbrev pub RefusalLaw : Type 0
RefusalLaw =
    (leaf : LeafModel) (p : PredModel) (value : Bool) (nodes : List Node) → IsLeaf leaf
    → Closes leaf (base_list leaf p value) nodes [] ↔ (first_refused leaf p value nodes ≡ None)
