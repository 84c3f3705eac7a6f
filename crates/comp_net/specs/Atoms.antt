-- Atoms: the atoms of a predicate's tree from left to right, the tree in postfix, and which leaf an atom gets.
use Rattle.std.specs.Prelude.{◌≡◌, ℕ, ◌+◌, max, ◌≤◌, Bool, true, false, ◌&&◌, if◌then◌else◌, is_some, List, [], ◌∷◌}
use Rattle.std.specs.Prelude.{◌++◌, ℤ, nat_abs, length, Option, Some, None}
use Rattle.pop_io.specs.declared.names.TheConstants.{VARIABLE_LIMIT}
use Rattle.pop_leaf.specs.declared.item.Item.{Item}
use Rattle.pop_leaf.specs.declared.item.Item.TheVariants.{Leaf, Not, And, Or}
use Rattle.pop_leaf.specs.declared.limits.TheConstants.{STATE_LIMIT, NARROW_STATE_LIMIT}
use Rattle.pres_ast.specs.declared.limits.TheConstants.{BOUND_LIMIT}
use Rattle.pres_ast.specs.PredModel.{IsAtomSum, IsResidue}
use Rattle.pres_ast.specs.PredTree.{PredTree, LessThan, Congruent, Negation, Conjunction, Disjunction}
use Rattle.comp_threshold.specs.declared.limits.TheConstants.{WIDTH_LIMIT}
use Rattle.comp_threshold.specs.ThresholdLeaf.{threshold_width}
use Rattle.comp_remainder.specs.RemainderLeaf.{remainder_state_count}
use Rattle.comp_counting.specs.FlockAtoms.{power_of, offset_power}
use Rattle.comp_counting.specs.FullState.{flock_state_count}
use Rattle.comp_flock.specs.FlockLeaf.{offset_helper_count}
use Rattle.comp_flock.specs.PrefixLeaf.{prefix_top, bound_worths}
use Rattle.comp_powers_leaf.specs.PowersLeaf.{roles, powers_helper_count}
use Rattle.comp_powers_leaf.specs.PowersRange.{powers_range}
use Rattle.comp_net.specs.declared.limits.TheConstants.{NARROW_WIDTH_LIMIT}
use Rattle.comp_net.specs.declared.choice.LeafChoice.{LeafChoice}
use Rattle.comp_net.specs.declared.choice.LeafChoice.TheVariants as asked
use Rattle.comp_net.specs.declared.choice.NetLeaves.{NetLeaves}
use Rattle.comp_net.specs.declared.choice.NetLeaves.TheVariants.{Plain, Flocks, Alone, Helped}
use Rattle.comp_net.specs.declared.choice.LessLeaf.{LessLeaf}
use Rattle.comp_net.specs.declared.choice.LessLeaf.TheVariants.{Threshold, Flock, Offset, Prefix, Powers, NoLeaf}

-- each atom is a tree itself
abbrev pub atoms : PredTree → List PredTree
atoms (LessThan coefs bound) = LessThan coefs bound ∷ []
atoms (Congruent coefs m rest) = Congruent coefs m rest ∷ []
atoms (Negation p) = atoms p
atoms (Conjunction p q) = atoms p ++ atoms q
atoms (Disjunction p q) = atoms p ++ atoms q

-- each atom stands for the leaf of its number, the first for leaf n
abbrev pub postfix : ℕ → PredTree → List Item
postfix n (LessThan coefs bound) = Leaf n ∷ []
postfix n (Congruent coefs m rest) = Leaf n ∷ []
postfix n (Negation p) = postfix n p ++ Not ∷ []
postfix n (Conjunction p q) = (postfix n p ++ postfix (n + length (atoms p)) q) ++ And ∷ []
postfix n (Disjunction p q) = (postfix n p ++ postfix (n + length (atoms p)) q) ++ Or ∷ []

-- ---- which leaf an atom `LessThan` gets

abbrev pub flock_or_threshold : Option ℕ → LessLeaf
flock_or_threshold None = Threshold
flock_or_threshold (Some power) = Flock power

abbrev pub powers_or_none : Option ℕ → LessLeaf
powers_or_none None = NoLeaf
powers_or_none (Some range) = Powers range

-- a flock with an offset, which has k + 2 states where powers have 2k + 5 at least
abbrev pub offset_or : LessLeaf → Option ℕ → LessLeaf
offset_or other None = other
offset_or other (Some power) = Offset power

-- one of prefixes, which needs no helpers
abbrev pub prefix_or_none : Option ℕ → LessLeaf
prefix_or_none None = NoLeaf
prefix_or_none (Some top) = Prefix top

abbrev pub less_leaf_for : NetLeaves → List ℤ → ℤ → LessLeaf
less_leaf_for Plain coefs bound = Threshold
less_leaf_for Flocks coefs bound = flock_or_threshold (power_of coefs bound)
less_leaf_for Alone coefs bound = prefix_or_none (prefix_top coefs bound)
less_leaf_for Helped coefs bound =
    offset_or (powers_or_none (powers_range coefs bound)) (offset_power coefs bound)

abbrev pub is_none : LessLeaf → Bool
is_none Threshold = false
is_none (Flock power) = false
is_none (Offset power) = false
is_none (Prefix top) = false
is_none (Powers range) = false
is_none NoLeaf = true

abbrev pub has_no_leaf : NetLeaves → PredTree → Bool
has_no_leaf choice (LessThan coefs bound) = is_none (less_leaf_for choice coefs bound)
has_no_leaf choice (Congruent coefs m rest) = false
has_no_leaf choice (Negation p) = false
has_no_leaf choice (Conjunction p q) = false
has_no_leaf choice (Disjunction p q) = false

-- ---- which leaves a net gets

-- an atom that has a leaf without helpers
abbrev pub stands_alone : List ℤ → ℤ → Bool
stands_alone coefs bound = is_some (prefix_top coefs bound)

abbrev pub are_alone : PredTree → Bool
are_alone (LessThan coefs bound) = stands_alone coefs bound
are_alone (Congruent coefs m rest) = true
are_alone (Negation p) = are_alone p
are_alone (Conjunction p q) = are_alone p && are_alone q
are_alone (Disjunction p q) = are_alone p && are_alone q

-- a succinct net has no helpers where all its atoms can do without
abbrev pub leaves_for : LeafChoice → PredTree → NetLeaves
leaves_for asked.Plain tree = Plain
leaves_for asked.Flocks tree = Flocks
leaves_for asked.Succinct tree = if are_alone tree then Alone else Helped

-- ---- helpers

-- how many helpers the leaf of an atom needs
abbrev pub less_helpers : ℤ → LessLeaf → ℕ
less_helpers bound Threshold = 0
less_helpers bound (Flock power) = 0
less_helpers bound (Offset power) = offset_helper_count bound power
less_helpers bound (Prefix top) = 0
less_helpers bound (Powers range) = powers_helper_count range
less_helpers bound NoLeaf = 0

-- as many as the atom that needs most
abbrev pub most_helpers : NetLeaves → PredTree → ℕ
most_helpers choice (LessThan coefs bound) = less_helpers bound (less_leaf_for choice coefs bound)
most_helpers choice (Congruent coefs m rest) = 0
most_helpers choice (Negation p) = most_helpers choice p
most_helpers choice (Conjunction p q) = max (most_helpers choice p) (most_helpers choice q)
most_helpers choice (Disjunction p q) = max (most_helpers choice p) (most_helpers choice q)

-- ---- sizes

-- the size of an atom's leaf: the width of a threshold, or in a succinct net how many states there are; others have
-- none
abbrev pub less_size : List ℤ → ℤ → LessLeaf → ℕ
less_size coefs bound Threshold = threshold_width coefs bound
less_size coefs bound (Flock power) = 0
less_size coefs bound (Offset power) = flock_state_count power
less_size coefs bound (Prefix top) = length (bound_worths bound top)
less_size coefs bound (Powers range) = length (roles coefs range)
less_size coefs bound NoLeaf = 0

abbrev pub rest_size : NetLeaves → ℕ → ℕ
rest_size Plain m = 0
rest_size Flocks m = 0
rest_size Alone m = remainder_state_count m
rest_size Helped m = remainder_state_count m

abbrev pub atom_size : NetLeaves → PredTree → ℕ
atom_size choice (LessThan coefs bound) = less_size coefs bound (less_leaf_for choice coefs bound)
atom_size choice (Congruent coefs m rest) = rest_size choice m
atom_size choice (Negation p) = 0
atom_size choice (Conjunction p q) = 0
atom_size choice (Disjunction p q) = 0

-- the greatest size of a leaf, and of one that isn't wide
abbrev pub size_limit : NetLeaves → ℕ
size_limit Plain = WIDTH_LIMIT
size_limit Flocks = WIDTH_LIMIT
size_limit Alone = STATE_LIMIT
size_limit Helped = STATE_LIMIT

abbrev pub narrow_limit : NetLeaves → ℕ
narrow_limit Plain = NARROW_WIDTH_LIMIT
narrow_limit Flocks = NARROW_WIDTH_LIMIT
narrow_limit Alone = NARROW_STATE_LIMIT
narrow_limit Helped = NARROW_STATE_LIMIT

-- no atom has more coefficients than a net may have variables
abbrev pub AreShort : PredTree → Type 0
AreShort (LessThan coefs bound) = length coefs ≤ VARIABLE_LIMIT
AreShort (Congruent coefs m rest) = length coefs ≤ VARIABLE_LIMIT
AreShort (Negation p) = AreShort p
AreShort (Conjunction p q) = AreShort p × AreShort q
AreShort (Disjunction p q) = AreShort p × AreShort q

-- each atom is within the limits of its built leaf
abbrev pub AreBuildable : NetLeaves → PredTree → Type 0
AreBuildable choice (LessThan coefs bound) =
    IsAtomSum coefs × (nat_abs bound ≤ BOUND_LIMIT) × (is_none (less_leaf_for choice coefs bound) ≡ false)
    × (atom_size choice (LessThan coefs bound) ≤ size_limit choice)
AreBuildable choice (Congruent coefs m rest) = IsAtomSum coefs × IsResidue m rest
AreBuildable choice (Negation p) = AreBuildable choice p
AreBuildable choice (Conjunction p q) = AreBuildable choice p × AreBuildable choice q
AreBuildable choice (Disjunction p q) = AreBuildable choice p × AreBuildable choice q
