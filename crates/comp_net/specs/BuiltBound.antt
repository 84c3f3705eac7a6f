-- BuiltBound: how many steps per agent the proof of a built net allows: it is the number behind `certified`.
use Rattle.std.specs.Prelude.{ℕ, List, ℤ, sum_by}
use Rattle.pres_ast.specs.PredTree.{PredTree, LessThan, Congruent, Negation, Conjunction, Disjunction}
use Rattle.comp_threshold.specs.Built.{threshold_steps}
use Rattle.comp_remainder.specs.RemainderProof.{remainder_steps}
use Rattle.comp_counting.specs.FullState.{flock_steps, offset_steps}
use Rattle.comp_flock.specs.PrefixLeaf.{last_place}
use Rattle.comp_powers.specs.PowersProof.{powers_steps}
use Rattle.comp_net.specs.Atoms.{atoms, less_leaf_for, leaves_for}
use Rattle.comp_net.specs.declared.choice.LeafChoice.{LeafChoice}
use Rattle.comp_net.specs.declared.choice.NetLeaves.{NetLeaves}
use Rattle.comp_net.specs.declared.choice.LessLeaf.{LessLeaf}
use Rattle.comp_net.specs.declared.choice.LessLeaf.TheVariants.{Threshold, Flock, Offset, Prefix, Powers, NoLeaf}

-- for the leaf that the atom gets
abbrev pub less_steps : List ℤ → ℤ → LessLeaf → ℕ
less_steps coefs bound Threshold = threshold_steps coefs bound
less_steps coefs bound (Flock power) = flock_steps
less_steps coefs bound (Offset power) = offset_steps power
less_steps coefs bound (Prefix top) = offset_steps (last_place bound top)
less_steps coefs bound (Powers range) = powers_steps coefs range
less_steps coefs bound NoLeaf = 0

-- for the leaf of an atom; no other tree is asked
abbrev pub atom_steps : NetLeaves → PredTree → ℕ
atom_steps choice (LessThan coefs bound) = less_steps coefs bound (less_leaf_for choice coefs bound)
atom_steps choice (Congruent coefs m rest) = remainder_steps
atom_steps choice (Negation p) = 0
atom_steps choice (Conjunction p q) = 0
atom_steps choice (Disjunction p q) = 0

-- for all leaves
abbrev pub bound_in : NetLeaves → PredTree → ℕ
bound_in choice tree = sum_by (atom_steps choice) (atoms tree)

-- with the leaves that are asked for
abbrev pub built_bound : LeafChoice → PredTree → ℕ
built_bound choice tree = bound_in (leaves_for choice tree) tree
