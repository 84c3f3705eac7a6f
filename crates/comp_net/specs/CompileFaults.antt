-- CompileFaults: which predicates have no built net.
use Rattle.std.specs.Prelude.{◌≡◌, ℕ, Bool, nat_lt, nat_le, if◌then◌else◌, List, [], ◌∷◌, length, map, Option, Some}
use Rattle.std.specs.Prelude.{None, position, slice_index}
use Rattle.std.specs.Option.{option_map}
use Rattle.pres_ast.specs.PredTree.{PredTree}
use Rattle.pop_leaf.specs.declared.limits.TheConstants.{LEAF_LIMIT, WIDE_LEAF_LIMIT}
use Rattle.pop_leaf.specs.FirstFault.{unless, first_of}
use Rattle.comp_net.specs.Atoms.{atoms, atom_size, size_limit, narrow_limit, has_no_leaf, leaves_for}
use Rattle.comp_net.specs.declared.choice.LeafChoice.{LeafChoice}
use Rattle.comp_net.specs.declared.choice.NetLeaves.{NetLeaves}
use Rattle.comp_net.specs.declared.choice.NetLeaves.TheVariants.{Plain, Flocks, Alone, Helped}
use Rattle.comp_net.specs.declared.fault.CompileFault.{CompileFault}
use Rattle.comp_net.specs.declared.fault.CompileFault.TheVariants as fault

abbrev pub sizes_of : NetLeaves → PredTree → List ℕ
sizes_of choice tree = map (atom_size choice) (atoms tree)

abbrev pub missing_of : NetLeaves → PredTree → List Bool
missing_of choice tree = map (has_no_leaf choice) (atoms tree)

-- the first atom without a leaf
abbrev pub first_missing : List Bool → Option ℕ
first_missing missing = position (λ m. m) missing

-- the first atom whose size is over a limit
abbrev pub first_size_over : ℕ → List ℕ → Option ℕ
first_size_over limit sizes = position (λ s. nat_lt limit s) sizes

-- among too many atoms for a wide leaf, the first that makes one
abbrev pub first_wide_size : NetLeaves → List ℕ → Option ℕ
first_wide_size choice sizes =
    if nat_lt WIDE_LEAF_LIMIT (length sizes) then first_size_over (narrow_limit choice) sizes else None

-- the atom has a size over the limit
abbrev pub size_fault : NetLeaves → ℕ → ℕ → CompileFault
size_fault Plain atom size = fault.TooWide atom size
size_fault Flocks atom size = fault.TooWide atom size
size_fault Alone atom size = fault.ManyStates atom size
size_fault Helped atom size = fault.ManyStates atom size

-- the first fault of atoms of which some have no leaf, and the others' leaves these sizes
abbrev pub fault_of_sizes : NetLeaves → List Bool → List ℕ → Option CompileFault
fault_of_sizes choice missing sizes =
    first_of
    (unless (nat_le (length sizes) LEAF_LIMIT) (fault.ManyAtoms (length sizes))
    ∷ option_map fault.NoRange (first_missing missing)
    ∷ option_map (λ i. size_fault choice i (slice_index sizes i)) (first_size_over (size_limit choice) sizes)
    ∷ option_map fault.WideNet (first_wide_size choice sizes)
    ∷ [])

abbrev pub fault_in : NetLeaves → PredTree → Option CompileFault
fault_in choice tree = fault_of_sizes choice (missing_of choice tree) (sizes_of choice tree)

-- the fault is the first that the predicate has
abbrev pub RefusesIn : NetLeaves → PredTree → CompileFault → Type 0
RefusesIn choice tree f = fault_in choice tree ≡ Some f

-- with the leaves that are asked for
abbrev pub fault_with : LeafChoice → PredTree → Option CompileFault
fault_with choice tree = fault_in (leaves_for choice tree) tree

abbrev pub RefusesWith : LeafChoice → PredTree → CompileFault → Type 0
RefusesWith choice tree f = fault_with choice tree ≡ Some f
