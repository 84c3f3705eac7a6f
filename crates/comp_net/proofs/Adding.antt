-- Leaves, proofs and items of atoms, added one after the other.
use Rattle.std.proofs.Common.{◌≡◌, ◌∙◌, subst, ℕ, List, [], ◌∷◌, ◌++◌, length, ap, sym}
use Rattle.std.specs.Prelude.{ℤ, map}
use Rattle.pop_leaf.specs.LeafModel.{LeafModel}
use Rattle.pop_leaf.specs.declared.item.Item.{Item}
use Rattle.pop_leaf.specs.declared.item.Item.TheVariants.{Leaf}
use Rattle.pres_ast.specs.PredTree.{PredTree, LessThan}
use Rattle.pres_ast.specs.PredModel.{PredModel}
use Rattle.cert_base.specs.declared.proof.LeafProof.{LeafProof}
use Rattle.cert_base.specs.ValidProof.{ValidLeafProof}
use Rattle.cert_base.specs.ProofLimits.{IsLeafProofWithin}
use Rattle.cert_base.specs.TameLayers.{TameLayers}
use Rattle.comp_trees.specs.BuiltLeaf.{IsBuilt}
use Rattle.comp_net.specs.declared.choice.NetLeaves.{NetLeaves}
use Rattle.comp_net.specs.declared.choice.LessLeaf.{LessLeaf}
use Rattle.comp_net.specs.Atoms.{atoms, postfix, less_leaf_for, most_helpers}
use Rattle.comp_net.specs.declared.building.Built.{Built}
use Rattle.comp_net.specs.BuiltNet.{less_leaf, leaf_of}
use Rattle.comp_net.specs.BuiltBound.{less_steps, atom_steps}
use Rattle.comp_net.specs.Building.{IsAtom, IsAtomProof, AreAtomProofs, AddProofs, AddsLeaf, AddsTree}

-- what was built is the leaf of an atom, with a proof for it
pub built_atom : (choice : NetLeaves) (helpers : ℕ) (atom : PredTree) (own : LeafModel) (pred : PredModel) (steps : ℕ) (leaf : LeafModel) (part : LeafProof) → IsBuilt own pred steps leaf part → own ≡ leaf_of choice helpers atom → pred.tree ≡ atom → pred.variables ≡ length own.inputs → steps ≡ atom_steps choice atom → IsAtom choice helpers atom leaf part
built_atom choice helpers atom own pred steps leaf part is own_is tree long steps_are =
    let leaf_is = is.leaf_is ∙ own_is in
    record {
      leaf_is = leaf_is;
      proof = record {
        tree_is = ap (λ (p : PredModel). p.tree) is.pred_is ∙ tree;
        valid = subst (λ l. ValidLeafProof l part) leaf_is is.valid;
        within = subst (λ n. IsLeafProofWithin n part) (long ∙ ap (λ (l : LeafModel). length l.inputs) own_is) is.within;
        bound = is.bound ∙ steps_are;
        tame = subst (λ l. TameLayers l part.layers) leaf_is is.tame;
      };
    }

pub less_atom : (choice : NetLeaves) (helpers : ℕ) (coefs : List ℤ) (bound : ℤ) (kind : LessLeaf) (pred : PredModel) (leaf : LeafModel) (part : LeafProof) → less_leaf_for choice coefs bound ≡ kind → IsBuilt (less_leaf coefs bound helpers kind) pred (less_steps coefs bound kind) leaf part → pred.tree ≡ LessThan coefs bound → pred.variables ≡ length (less_leaf coefs bound helpers kind).inputs → IsAtom choice helpers (LessThan coefs bound) leaf part
less_atom choice helpers coefs bound kind pred leaf part some is tree long =
    built_atom choice helpers (LessThan coefs bound) (less_leaf coefs bound helpers kind) pred (less_steps coefs bound kind) leaf part is (ap (less_leaf coefs bound helpers) (sym some)) tree long (ap (less_steps coefs bound) (sym some))

more_proofs : (choice : NetLeaves) (helpers : ℕ) (xs : List PredTree) (parts : List LeafProof) (a : PredTree) (part : LeafProof) → AreAtomProofs choice helpers xs parts → IsAtomProof choice helpers a part → AreAtomProofs choice helpers (xs ++ a ∷ []) (parts ++ part ∷ [])
more_proofs choice helpers [] [] a part h is = (is, tt)
more_proofs choice helpers [] (p ∷ parts) a part h is = absurd h
more_proofs choice helpers (x ∷ xs) [] a part h is = absurd h
more_proofs choice helpers (x ∷ xs) (p ∷ parts) a part h is = (h.0, more_proofs choice helpers xs parts a part h.1 is)

pub add_one : (choice : NetLeaves) (helpers : ℕ) (before after : List LeafProof) (a : PredTree) (part : LeafProof) → after ≡ before ++ part ∷ [] → IsAtomProof choice helpers a part → AddProofs choice helpers (a ∷ []) before after
add_one choice helpers before after a part e is others h = subst (AreAtomProofs choice helpers (others ++ a ∷ [])) (sym e) (more_proofs choice helpers others before a part h is)

-- an atom is a tree with one leaf
pub one_added : (choice : NetLeaves) (helpers : ℕ) (atom : PredTree) (leaf : LeafModel) (part : LeafProof) (before after : Built) → atoms atom ≡ atom ∷ [] → ((n : ℕ) → postfix n atom ≡ Leaf n ∷ [])
    → IsAtom choice helpers atom leaf part → AddsLeaf leaf part before after → AddsTree choice helpers atom before after
one_added choice helpers atom leaf part before after one item is adds = record {
  leaves = adds.leaves ∙ ap (λ (l : LeafModel). before.leaves.items ++ l ∷ []) is.leaf_is ∙ ap (λ (xs : List PredTree). before.leaves.items ++ map (leaf_of choice helpers) xs) (sym one);
  parts = subst (λ (xs : List PredTree). AddProofs choice helpers xs before.parts.items after.parts.items) (sym one) (add_one choice helpers before.parts.items after.parts.items atom part adds.parts is.proof);
  items = adds.items ∙ ap (λ (xs : List Item). before.items.items ++ xs) (sym (item (length before.leaves.items)));
}

-- what is built of a tree
pub record IsWhole (choice : NetLeaves) (helpers : ℕ) (tree : PredTree) (built : Built) : Type 0 where
  pub leaves : built.leaves.items ≡ map (leaf_of choice helpers) (atoms tree)
  pub parts : AreAtomProofs choice helpers (atoms tree) built.parts.items
  pub items : built.items.items ≡ postfix 0 tree

pub whole : (choice : NetLeaves) (helpers : ℕ) (tree : PredTree) (before after : Built) → before.leaves.items ≡ [] → before.parts.items ≡ [] → before.items.items ≡ []
    → AddsTree choice helpers tree before after → IsWhole choice helpers tree after
whole choice helpers tree before after no_leaves no_parts no_items adds = record {
  leaves = adds.leaves ∙ ap (λ (xs : List LeafModel). xs ++ map (leaf_of choice helpers) (atoms tree)) no_leaves;
  parts = adds.parts [] (subst (AreAtomProofs choice helpers []) (sym no_parts) tt);
  items = adds.items ∙ ap (λ (xs : List Item). xs ++ postfix (length before.leaves.items) tree) no_items ∙ ap (λ (xs : List LeafModel). postfix (length xs) tree) no_leaves;
}

-- with the helpers that were counted
pub whole_as : (choice : NetLeaves) (helpers : ℕ) (tree counted : PredTree) (built : Built) → counted ≡ tree → helpers ≡ most_helpers choice counted
    → IsWhole choice helpers counted built → IsWhole choice (most_helpers choice tree) tree built
whole_as choice helpers tree counted built same most is =
    subst (λ (t : PredTree). IsWhole choice (most_helpers choice t) t built) same (subst (λ (h : ℕ). IsWhole choice h counted built) most is)
