-- The tree as the code builds it is the tree by recursion.
use Rattle.std.proofs.Common.{◌≡◌, ℕ, zero, suc, ◌+◌, List, [], ◌∷◌, ◌++◌, map, append_assoc, refl, ap, sym, ◌∙◌}
use Rattle.std.specs.Prelude.{reverse}
use Rattle.std.specs.List.{range_with_len}
use Rattle.std.proofs.lemmas.List.{reverse-append}
use Rattle.std.proofs.lemmas.List.FromFn.{length-map-range_with_len}
use Rattle.pop_leaf.specs.LeafModel.{LeafModel}
use Rattle.cert_base.specs.declared.node.Node.{Node}
use Rattle.cert_base.specs.declared.node.Node.TheVariants.{Present}
use Rattle.comp_trees.specs.LeaderTree.{leader_nodes, leader_tree, tree_of_ends, top_nodes, weighed_node, no_leader_mix}

pub reverse-cons : {A : Type 0} (x : A) (xs : List A) → reverse (x ∷ xs) ≡ reverse xs ++ x ∷ []
reverse-cons x xs = reverse-append (x ∷ []) xs

pub nodes-flat : (ends : ℕ → Node) (last : Node) (p k : ℕ) → leader_nodes ends last p k ≡ (map Present (range_with_len p k) ++ last ∷ []) ++ reverse (map ends (range_with_len p k))
nodes-flat ends last p zero = refl
nodes-flat ends last p (suc k) =
    let front = map Present (range_with_len (p + 1) k) ++ last ∷ [] in
    let back = map ends (range_with_len (p + 1) k) in
    ap (λ ns. Present p ∷ (ns ++ ends p ∷ [])) (nodes-flat ends last (p + 1) k)
    ∙ ap (λ ns. Present p ∷ ns) (append_assoc front (reverse back) (ends p ∷ []) ∙ ap (λ ns. front ++ ns) (sym (reverse-cons (ends p) back)))

pub tree-flat : (leaf : LeafModel) (n : ℕ) (ends : ℕ → Node) → tree_of_ends leaf (map ends (range_with_len 0 n)) ≡ leader_tree leaf n ends
tree-flat leaf n ends =
    let nodes = map ends (range_with_len 0 n) in
    ap (λ k. ((top_nodes leaf k ++ map Present (range_with_len 0 k)) ++ weighed_node (no_leader_mix leaf k) ∷ []) ++ reverse nodes) (length-map-range_with_len ends 0 n)
    ∙ ap (λ ns. top_nodes leaf n ++ ns) (sym (nodes-flat ends (weighed_node (no_leader_mix leaf n)) 0 n))
