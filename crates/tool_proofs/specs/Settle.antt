-- What `settle` makes of the lines of its input: a bundle and a crowd line.
use Rattle.std.specs.Prelude.{◌≡◌, ℕ, ◌*◌, nat_lt, List, ◌++◌, length, map, codes, decimal, MatchBool, Option}
use Rattle.std.specs.Prelude.{Some, None, Result, Ok, Err}
use Rattle.base_lines.specs.Lines.{ended}
use Rattle.pres_ast.specs.PredicateValue.{predicate_value}
use Rattle.pop_leaf.specs.NetModel.{NetModel, CrowdModel, number_of_helpers}
use Rattle.pop_leaf.specs.InputCrowd.{IsInput, input_crowd}
use Rattle.pop_crowd.specs.Tally.{crowd_lines}
use Rattle.run_text.specs.Journal.{last_line, text_of}
use Rattle.run_text.specs.declared.last.Last.{Last}
use Rattle.cert_base.specs.ProofBound.{proof_bound}
use Rattle.cert_json.specs.declared.stable.StableBundle.{StableBundle}
use Rattle.pop_checker.specs.declared.stable_fault.StableRejected.{StableRejected}
use Rattle.pop_settle.specs.Chosen.{proof_at}
use Rattle.pop_settle.specs.declared.limits.TheConstants.{TAKE_LIMIT}
use Rattle.pop_settle.specs.declared.take.Take.{Take}
use Rattle.pop_settle.specs.Settlement.{IsSettlement}
use Rattle.tool_texts.specs.declared.refusal.Refusal.{Refusal}
use Rattle.tool_texts.specs.declared.refusal.Refusal.TheVariants.{Settle}
use Rattle.tool_texts.specs.declared.output.Output.{Output}
use Rattle.tool_texts.specs.declared.output.Ending.TheVariants.{Done}
use Rattle.tool_texts.specs.Steps.{After}
use Rattle.tool_texts.specs.Lines.{just_two}
use Rattle.tool_rejections.specs.Rejections.{rejection_output}
use Rattle.tool_rejections.specs.Judged.{IsJudged}
use Rattle.tool_bundles.specs.Bundles.{IsBegunBy}
use Rattle.tool_bundles.specs.LastOf.{last_of}

-- the leaf, the move and the two agents
abbrev pub take_line : Take → List ℕ
take_line t = (codes "take " ++ decimal t.leaf) ++ (codes " " ++ decimal t.step) ++ (codes " " ++ decimal t.a)
    ++ (codes " " ++ decimal t.b)

-- the takes, and the lines of the last crowd
abbrev pub takes_text : NetModel → List Take → CrowdModel → List ℕ
takes_text net takes end = text_of (map take_line takes) ++ codes "end\n" ++ crowd_lines net end

-- the takes, the lines of the last crowd, and the last line
abbrev pub settle_text : NetModel → List Take → CrowdModel → Last → List ℕ
settle_text net takes end last = takes_text net takes end ++ ended (last_line last)

abbrev pub settle_output : StableBundle → List ℕ → List Take → CrowdModel → Output
settle_output bundle counts takes end =
    record {
      text = settle_text bundle.net takes end (last_of bundle.proof (predicate_value bundle.pred.tree counts));
      ending = Done;
    }

-- how many takes the layers allow that the counts choose
abbrev pub takes_allowed : StableBundle → List ℕ → ℕ
takes_allowed bundle counts = proof_bound (proof_at counts bundle.proof) * length (input_crowd bundle.net counts)

-- the settlement of the input crowd by the layers that the counts choose, and the predicate's value
pub record IsSettled (bundle : StableBundle) (counts : List ℕ) (given : Result Output Refusal) : Type 0 where
  pub input : IsInput (length bundle.net.variables) (number_of_helpers bundle.net) counts
  pub takes : List Take
  pub end : CrowdModel
  pub settlement : IsSettlement bundle.net (proof_at counts bundle.proof) (input_crowd bundle.net counts) takes end
  pub is : given ≡ Ok (settle_output bundle counts takes end)

-- a valid proof whose layers allow too many takes is refused
abbrev pub OfJudged : StableBundle → List ℕ → Option StableRejected → Result Output Refusal → Type 0
OfJudged bundle counts None given =
    MatchBool (nat_lt TAKE_LIMIT (takes_allowed bundle counts)) (given ≡ Err (Settle (takes_allowed bundle counts)))
    (IsSettled bundle counts given)
OfJudged bundle counts (Some rejected) given = given ≡ Ok (rejection_output rejected)

abbrev pub OfBegun : StableBundle → List ℕ → Result Output Refusal → Type 0
OfBegun bundle counts given =
    (judged : Option StableRejected) × IsJudged bundle judged × OfJudged bundle counts judged given

abbrev pub OfLines : List ℕ × List ℕ → Result Output Refusal → Type 0
OfLines lines given =
    (begin : Result (StableBundle × List ℕ) Refusal) × IsBegunBy lines.0 lines.1 begin
    × After begin (λ begun. OfBegun begun.0 begun.1) given

-- what `settle` gives for the lines of its input
abbrev pub SettleGives : List (List ℕ) → Result Output Refusal → Type 0
SettleGives lines given = After (just_two lines) OfLines given
