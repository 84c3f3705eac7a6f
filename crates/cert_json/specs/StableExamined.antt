-- The order in which a part of a proof is examined: member by member, each whole before the next. The first broken rule
-- is the fault.
use Rattle.std.specs.Prelude.{ℕ, List, [], codes, Option, Some, None, Result, Ok, if◌then◌else◌}
use Rattle.serde_json.specs.Data.{Data}
use Rattle.serde_json.specs.Find.{get}
use Rattle.base_json.specs.Faults.{Fault, ◌>>=◌}
use Rattle.base_json.specs.Paths.{member_path, item_path}
use Rattle.base_json.specs.Shapes.{object_at, member_by, pair_at, each_at}
use Rattle.cert_base.specs.declared.limits.TheConstants.{SET_LIMIT}
use Rattle.cert_base.specs.declared.proof.Goal.{Goal}
use Rattle.cert_base.specs.declared.stable.LeafGoals.{LeafGoals}
use Rattle.cert_base.specs.declared.stable.StablePart.{StablePart}
use Rattle.cert_base.specs.declared.stable.StablePart.TheVariants.{Silent, Stable}
use Rattle.cert_base.specs.declared.stable.StableProof.{StableProof}
use Rattle.cert_json.specs.Examined.{pred_at, set_states_at, nodes_at, layers_at, leaf_proof_at}
use Rattle.cert_json.specs.PartFile.{has_goals_in_place}

abbrev pub set_item : List ℕ → List (List ℕ) → Data → Result (List ℕ) Fault
set_item path found d = set_states_at path d

-- the sets of a goal, none where the member is missing
abbrev pub sets_or_none : List ℕ → Option Data → Result (List (List ℕ)) Fault
sets_or_none path None = Ok []
sets_or_none path (Some d) = each_at set_item path 0 SET_LIMIT d

abbrev pub sets_at : List ℕ → Data → Result (List (List ℕ)) Fault
sets_at path d = sets_or_none (member_path path (codes "sets")) (get (codes "sets") d)

unfoldable pub goal_at : List ℕ → Data → Result Goal Fault
goal_at path d = do
  o ← object_at path d
  ls ← member_by path (codes "layers") layers_at d
  ss ← sets_at path d
  ns ← member_by path (codes "nodes") nodes_at d
  Ok (record { layers = ls; sets = ss; nodes = ns })

-- the goal for true, and then the one for false
unfoldable pub both_goals_at : List ℕ → Data → Result (Goal × Goal) Fault
both_goals_at path d = do
  both ← pair_at path d
  on_true ← goal_at (item_path path 0) both.0
  on_false ← goal_at (item_path path 1) both.1
  Ok (on_true, on_false)

unfoldable pub leaf_goals_at : List (List ℕ) → List ℕ → Data → Result LeafGoals Fault
leaf_goals_at names path d = do
  o ← object_at path d
  p ← member_by path (codes "pred") (pred_at names) d
  goals ← member_by path (codes "goals") both_goals_at d
  Ok (record { pred = p; on_true = goals.0; on_false = goals.1 })

abbrev pub stable_part_at : List (List ℕ) → List ℕ → Data → Result StablePart Fault
stable_part_at names path d = do
  goals ← leaf_goals_at names path d
  Ok (Stable goals)

abbrev pub silent_part_at : List (List ℕ) → List ℕ → Data → Result StablePart Fault
silent_part_at names path d = do
  part ← leaf_proof_at names path d
  Ok (Silent part)

unfoldable pub part_at : List (List ℕ) → List ℕ → Data → Result StablePart Fault
part_at names path d = if has_goals_in_place d then stable_part_at names path d else silent_part_at names path d

abbrev pub part_item : List (List ℕ) → List ℕ → List StablePart → Data → Result StablePart Fault
part_item names path found d = part_at names path d

-- one part for each leaf; a wrong number of them is refused before any is examined
abbrev pub parts_at : List (List ℕ) → ℕ → List ℕ → Data → Result (List StablePart) Fault
parts_at names leaves path d = each_at (part_item names) path leaves leaves d

-- the member `proof` of a bundle, over these names and for this many leaves
unfoldable pub stable_proof_at : List (List ℕ) → ℕ → Data → Result StableProof Fault
stable_proof_at names leaves d = do
  parts ← member_by [] (codes "proof") (parts_at names leaves) d
  Ok (record { leaves = parts })
