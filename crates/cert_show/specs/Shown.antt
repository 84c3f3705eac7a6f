-- What is shown of a net, a predicate and a proof.
use Rattle.std.specs.Prelude.{ℕ, List, ◌∷◌, ◌++◌, length, codes, decimal, slice_get, slice_index_or}
use Rattle.std.specs.List.{flat_map}
use Rattle.pres_ast.specs.PredModel.{PredModel}
use Rattle.pres_read.specs.Canonical.{tree_text}
use Rattle.pop_leaf.specs.NetModel.{NetModel}
use Rattle.pop_leaf.specs.declared.item.Item.{Item}
use Rattle.pop_leaf.specs.declared.item.Item.TheVariants.{Leaf, Not, And, Or}
use Rattle.cert_base.specs.declared.stable.StableProof.{StableProof}
use Rattle.cert_show.specs.Lines.{below, each, spaced, name_at}
use Rattle.cert_show.specs.LeafLines.{leaf_lines}

-- an item of the combination
abbrev pub item_text : Item → List ℕ
item_text (Leaf i) = decimal i
item_text Not = codes "not"
item_text And = codes "and"
item_text Or = codes "or"

-- all leaves, numbered from 0, each with its part of the proof
abbrev pub all_leaf_lines : NetModel → StableProof → List (List ℕ)
all_leaf_lines net proof =
    flat_map (λ i. leaf_lines net.variables i (slice_get net.leaves i) (slice_get proof.leaves i))
    (below (length net.leaves))

-- the lines: the predicate, the variables, the combination in postfix, and the leaves
abbrev pub shown_of : NetModel → PredModel → StableProof → List (List ℕ)
shown_of net pred proof =
    (codes "predicate " ++ tree_text net.variables pred.tree)
    ∷ (codes "variables" ++ each (length net.variables) (λ i. spaced (name_at net.variables i)))
    ∷ (codes "combine" ++ each (length net.combine) (λ i. spaced (item_text (slice_index_or net.combine i Not))))
    ∷ all_leaf_lines net proof
