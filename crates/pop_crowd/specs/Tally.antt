-- Tally: the crowd lines, one for each tuple that an agent has.
use Rattle.std.specs.Prelude.{ℕ, List, [], ◌∷◌, ◌++◌, map, fold, count_by, decimal, codes, slice_index_or, nat_eq, All}
use Rattle.std.specs.Prelude.{Contains}
use Rattle.std.specs.List.{join_with_byte, concat}
use Rattle.std.specs.List.Sorted.{IsStrictlySortedBy}
use Rattle.std.specs.declared.cmp.Ordering.{Ordering}
use Rattle.std.specs.Ordering.{nat_cmp}
use Rattle.std.specs.Cmp.Lexicographic.{slice_cmp, pointwise}
use Rattle.std.specs.BTreeSet.{insert_key}
use Rattle.pop_leaf.specs.LeafModel.{LeafModel}
use Rattle.pop_leaf.specs.NetModel.{NetModel, Tuple, CrowdModel}

-- the order of tuples as lists of state numbers, leaf 0 first
abbrev pub tuple_cmp : Tuple → Tuple → Ordering
tuple_cmp = slice_cmp nat_cmp

-- the tuples that agents have: each is put at its place in the order, unless it is already there
abbrev pub tuples_of : CrowdModel → List Tuple
tuples_of crowd = fold (insert_key tuple_cmp) [] crowd

-- how many agents have a tuple
abbrev pub agents_with : CrowdModel → Tuple → ℕ
agents_with crowd tuple = count_by (λ t. pointwise nat_eq t tuple) crowd

-- each tuple that agents have, and how many have it
abbrev pub tuple_counts : CrowdModel → List (Tuple × ℕ)
tuple_counts crowd = map (λ t. (t, agents_with crowd t)) (tuples_of crowd)

-- the name of each leaf's state in a tuple
abbrev pub names_of : List LeafModel → Tuple → List (List ℕ)
names_of [] tuple = []
names_of (leaf ∷ leaves) [] = []
names_of (leaf ∷ leaves) (x ∷ tuple) = slice_index_or leaf.states x [] ∷ names_of leaves tuple

-- the byte between two names
abbrev pub slash : ℕ
slash = 47

-- the state names joined by `/`, a space, the number of agents, and a line feed
abbrev pub crowd_line : NetModel → Tuple → ℕ → List ℕ
crowd_line net tuple count = join_with_byte slash (names_of net.leaves tuple) ++ codes " " ++ decimal count
    ++ codes "\n"

abbrev pub crowd_lines : NetModel → CrowdModel → List ℕ
crowd_lines net crowd = concat (map (λ (t, count). crowd_line net t count) (tuple_counts crowd))

-- exactly the tuples that agents have, each below those after it
pub record AreTuplesOf (crowd : CrowdModel) (tuples : List Tuple) : Type 0 where
  pub had : All (Contains crowd) tuples
  pub whole : All (Contains tuples) crowd
  pub ascending : IsStrictlySortedBy tuple_cmp tuples
