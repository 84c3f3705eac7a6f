-- Combination: the net's combination with the leaves' predicates in it, compared item by item with a predicate's tree.
use Rattle.std.specs.Prelude.{◌≡◌, ◌≢◌, ◌↔◌, ℕ, ◌<◌, List, [], ◌∷◌, Option, Some, None, map, take, length, All}
use Rattle.pres_ast.specs.PredTree.{PredTree}
use Rattle.pres_ast.specs.PredModel.{PredModel}
use Rattle.pop_leaf.specs.declared.item.Item.{Item}
use Rattle.pop_leaf.specs.NetModel.{NetModel, Operators, after_items}
use Rattle.cert_base.specs.declared.proof.Proof.{Proof}
use Rattle.cert_base.specs.declared.proof.LeafProof.{LeafProof}
use Rattle.cert_base.specs.ValidProof.{trees, CombinesTo}

-- the net combines the leaves' predicates into this one, and all of them are over the net's variables
pub record IsNetPred (net : NetModel) (proof : Proof) (p : PredModel) : Type 0 where
  pub combination : CombinesTo net proof p
  pub variables : p.variables ≡ length net.variables
  pub parts : All (λ part. part.pred.variables ≡ length net.variables) proof.leaves

abbrev pub leaf_trees : List LeafProof → Operators PredTree
leaf_trees parts = trees (map (λ part. part.pred.tree) parts)

-- the trees that stand open after the first k items, the newest first
abbrev pub open_after : List LeafProof → List Item → ℕ → Option (List PredTree)
open_after parts items k = after_items (leaf_trees parts) (take k items) []

-- the items before `end` leave this tree on top of exactly what those before k leave
pub record BeginsAt (parts : List LeafProof) (items : List Item) (end : ℕ) (tree : PredTree) (k : ℕ) : Type 0 where
  pub before : k < end
  pub same : (rest : List PredTree)
      → (open_after parts items end ≡ Some (tree ∷ rest)) ↔ (open_after parts items k ≡ Some rest)

-- where the tree begins, if the items before `end` end with it; None if they end with another one
abbrev pub IsBegin : List LeafProof → List Item → ℕ → PredTree → Option ℕ → Type 0
IsBegin parts items end tree None = (rest : List PredTree) → open_after parts items end ≢ Some (tree ∷ rest)
IsBegin parts items end tree (Some k) = BeginsAt parts items end tree k
