-- How many meetings of all rounds change a tuple.
use Rattle.std.proofs.Common.{◌≡◌, ℕ, ◌+◌, ◌<◌, ◌≤◌, ◌^◌, List, [], ◌∷◌, length, get_or, drop, ap, arith, length-append}
use Rattle.std.specs.Prelude.{count_by}
use Rattle.std.proofs.lemmas.List.{drop_more}
use Rattle.std.proofs.lemmas.List.Sums.{count_by-le-length}
use Rattle.pop_leaf.specs.NetModel.{NetModel, CrowdModel}
use Rattle.pop_crowd.specs.declared.crowd.Meeting.{Meeting}
use Rattle.run_spec.specs.RunLimits.{IsWithinLimits}
use Rattle.run_spec.specs.declared.spec.RunSpec.{RunSpec}
use Rattle.run_picks.specs.Run.{joined, IsRun}
use Rattle.run_spec.specs.declared.kind.RunKind.TheVariants.{Whole}
use Rattle.pop_journal.proofs.RunKinds.{run_form}
use Rattle.pop_journal.proofs.Written.{few_meetings}
use Rattle.tool_courses.specs.DemoOutput.{changed}

changed_at_most : (rounds : List (List Meeting)) → changed rounds ≤ length (joined rounds)
changed_at_most [] = omega arith
changed_at_most (r ∷ rounds) =
    let here = count_by-le-length (λ (m : Meeting). m.changed) r in
    let later = changed_at_most rounds in omega (arith, here, later, length-append r (joined rounds))

-- one round more
pub changed_more : (rounds : List (List Meeting)) (i : ℕ) (d : List Meeting) → i < length rounds
    → changed (drop i rounds) ≡ count_by (λ (m : Meeting). m.changed) (get_or rounds i d) + changed (drop (i + 1) rounds)
changed_more rounds i d less = ap changed (drop_more rounds i d less)

pub changed_small : (rounds : List (List Meeting)) → length (joined rounds) < 2 ^ 64 → changed rounds < 2 ^ 64
changed_small rounds few = let most = changed_at_most rounds in omega (arith, most, few)

-- a run doesn't have too many meetings
pub run_small : (net : NetModel) (start : CrowdModel) (spec : RunSpec) (rounds : List (List Meeting)) (end : CrowdModel) → 2 ≤ length start → IsWithinLimits spec → IsRun net start spec rounds end
    → length (joined rounds) < 2 ^ 64
run_small net start spec rounds end two limits run =
    few_meetings Whole spec (length start) rounds limits (run_form net start spec rounds end two Whole run)
