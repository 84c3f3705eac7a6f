-- BuiltNet: the built net of a predicate: one leaf for each atom, from left to right, and the tree in postfix.
use Rattle.std.specs.Prelude.{ℕ, ◌-◌, List, [], ℤ, pos, map}
use Rattle.pop_leaf.specs.LeafModel.{LeafModel}
use Rattle.pop_leaf.specs.NetModel.{NetModel}
use Rattle.pres_ast.specs.PredTree.{PredTree, LessThan, Congruent, Negation, Conjunction, Disjunction}
use Rattle.comp_threshold.specs.ThresholdLeaf.{threshold_leaf_of}
use Rattle.comp_remainder.specs.RemainderLeaf.{remainder_leaf_of}
use Rattle.comp_flock.specs.FlockLeaf.{flock_leaf_of, offset_leaf_of, offset_helper_count}
use Rattle.comp_flock.specs.PrefixLeaf.{prefix_leaf_of}
use Rattle.comp_powers_leaf.specs.PowersLeaf.{powers_leaf_of, powers_helper_count}
use Rattle.comp_net.specs.Atoms.{atoms, postfix, less_leaf_for, most_helpers, leaves_for}
use Rattle.comp_net.specs.declared.choice.LeafChoice.{LeafChoice}
use Rattle.comp_net.specs.declared.choice.LeafChoice.TheVariants.{Plain}
use Rattle.comp_net.specs.declared.choice.NetLeaves.{NetLeaves}
use Rattle.comp_net.specs.declared.choice.LessLeaf.{LessLeaf}
use Rattle.comp_net.specs.declared.choice.LessLeaf.TheVariants.{Threshold, Flock, Offset, Prefix, Powers, NoLeaf}

-- the leaf of an atom in a net with so many helpers; those that the atom has no need of are spare
abbrev pub less_leaf : List ℤ → ℤ → ℕ → LessLeaf → LeafModel
less_leaf coefs bound helpers Threshold = threshold_leaf_of coefs bound
less_leaf coefs bound helpers (Flock power) = flock_leaf_of coefs power
less_leaf coefs bound helpers (Offset power) =
    offset_leaf_of coefs bound power (helpers - offset_helper_count bound power)
less_leaf coefs bound helpers (Prefix top) = prefix_leaf_of coefs bound top
less_leaf coefs bound helpers (Powers range) = powers_leaf_of coefs bound range (helpers - powers_helper_count range)
less_leaf coefs bound helpers NoLeaf = threshold_leaf_of coefs bound

-- no other tree is asked for its leaf
abbrev pub leaf_of : NetLeaves → ℕ → PredTree → LeafModel
leaf_of choice helpers (LessThan coefs bound) = less_leaf coefs bound helpers (less_leaf_for choice coefs bound)
leaf_of choice helpers (Congruent coefs m rest) = remainder_leaf_of coefs m rest helpers
leaf_of choice helpers (Negation p) = threshold_leaf_of [] (pos 0)
leaf_of choice helpers (Conjunction p q) = threshold_leaf_of [] (pos 0)
leaf_of choice helpers (Disjunction p q) = threshold_leaf_of [] (pos 0)

abbrev pub net_of : NetLeaves → List (List ℕ) → PredTree → NetModel
net_of choice names tree =
    record {
      variables = names;
      leaves = map (leaf_of choice (most_helpers choice tree)) (atoms tree);
      combine = postfix 0 tree;
    }

-- with the leaves that are asked for
abbrev pub net_with : LeafChoice → List (List ℕ) → PredTree → NetModel
net_with choice names tree = net_of (leaves_for choice tree) names tree

-- that of `compile`
abbrev pub built_net : List (List ℕ) → PredTree → NetModel
built_net = net_with Plain
