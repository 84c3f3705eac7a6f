-- A walk over a net's leaves and the parts of its proof, of whatever kind: what holds up to where it stands.
use Rattle.std.proofs.Common.{◌≡◌, ℕ, ◌+◌, ◌*◌, ◌<◌, ◌≤◌, ◌^◌, List, length, get_or, drop, ap, arith}
use Rattle.std.specs.Prelude.{Some, slice_get, sum_by}
use Rattle.pop_io.specs.declared.failure.Failure.{Failure}
use Rattle.pop_io.specs.declared.failure.Failure.TheVariants.{Fault, NoMemory}
use Rattle.pop_io.specs.Failures.{Names}
use Rattle.pop_leaf.specs.LeafModel.{LeafModel}
use Rattle.pop_leaf.specs.NetModel.{NetModel}
use Rattle.cert_layers.proofs.Bounds.{bound_more}
use Rattle.theory_nets.proofs.LeafByLeaf.{HoldBefore, one_more, part_at}

module _ {P : Type 0} (Holds : LeafModel → P → Type 0) (bound_of : P → ℕ) (net : NetModel) (parts : List P) where
  -- the parts before this place hold, and the bound is the sum of theirs
  pub record HoldsSoFar (number bound : ℕ) : Type 0 where
    pub holds : HoldBefore Holds net parts number
    pub so_far : bound + sum_by bound_of (drop number parts) ≡ sum_by bound_of parts
    pub small : bound ≤ number * 2 ^ 49

  -- one part more
  pub part_more : (items : List P) (i bound more : ℕ) (leaf : LeafModel) (part : P) → items ≡ parts → i < length items → part ≡ get_or items i part → slice_get net.leaves i ≡ Some leaf → Holds leaf part → (more ≡ bound_of part) × (more ≤ 2 ^ 49) → HoldsSoFar i bound → HoldsSoFar (i + 1) (bound + more)
  part_more items i bound more leaf part same l is h holds fits before =
      record {
        holds = one_more Holds net parts i leaf part before.holds h (part_at parts items i part same l is) holds;
        so_far = bound_more bound_of parts items i bound more (sum_by bound_of parts) part same l is fits.0 before.so_far;
        small = omega (arith, fits.1, before.small);
      }

  -- behind the last part
  pub all_hold : (items : List P) (number bound : ℕ) → items ≡ parts → length items ≤ number → length parts ≡ length net.leaves → HoldsSoFar number bound → HoldBefore Holds net parts (length net.leaves)
  all_hold items number bound same past one_each walked i leaf part l h k =
      walked.holds i leaf part (omega (arith, l, past, ap length same, one_each)) h k

-- what a fault says of a part, it says of the whole
pub named_by : {F : Type 0} (OfPart OfWhole : F → Type 0) (failure : Failure F) → ((fault : F) → OfPart fault → OfWhole fault) → Names OfPart failure → Names OfWhole failure
named_by OfPart OfWhole (Fault fault) so is = so fault is
named_by OfPart OfWhole NoMemory so is = tt
