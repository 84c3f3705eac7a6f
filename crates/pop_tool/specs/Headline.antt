-- Headline: what a printed text says of a protocol.
use Rattle.std.specs.Prelude.{◌≡◌, ◌↔◌, ◌⊎◌, ◌≤◌, ℕ, Bool, true, false, List, [], ◌∷◌, ◌++◌, length, All, Option}
use Rattle.std.specs.Prelude.{Some, Ok}
use Rattle.serde_json.specs.Data.{Data}
use Rattle.pop_io.specs.declared.whole.TheConstants.{INPUT_LIMIT}
use Rattle.base_lines.specs.Lines.{lines_of, ended}
use Rattle.pres_ast.specs.PredicateValue.{predicate_value}
use Rattle.pres_ast.specs.PredModel.{PredModel}
use Rattle.pres_read.specs.PredText.{IsTextOf}
use Rattle.pop_leaf.specs.NetModel.{NetModel, CrowdModel, output_of}
use Rattle.pop_leaf.specs.InputCrowd.{input_crowd}
use Rattle.pop_leaf.specs.Step.{Step}
use Rattle.pop_leaf.specs.Reachable.{Reachable}
use Rattle.pop_leaf.specs.Terminal.{IsTerminal}
use Rattle.pop_crowd.specs.declared.crowd.Meeting.{Meeting}
use Rattle.run_spec.specs.declared.kind.RunKind.{RunKind}
use Rattle.run_spec.specs.declared.kind.RunKind.TheVariants.{Whole, Watched}
use Rattle.run_spec.specs.declared.spec.RunSpec.{RunSpec}
use Rattle.pop_words.specs.declared.command.Command.TheVariants.{Check, Run, Watch, Replay}
use Rattle.pop_words.specs.declared.command.Command.TheVariants.{ReplayWatched, Settle, Compile, Flocks}
use Rattle.pop_words.specs.declared.command.Command.TheVariants.{Show, Succinct}
use Rattle.pop_words.specs.Words.{meaning_of}
use Rattle.pop_words.specs.Vars.{vars_of}
use Rattle.run_picks.specs.Run.{joined}
use Rattle.run_picks.specs.WatchedRun.{IsRunOfUntil}
use Rattle.run_text.specs.Journal.{journal_text}
use Rattle.run_text.specs.declared.last.Last.{Last}
use Rattle.cert_base.specs.declared.proof.Proof.{Proof}
use Rattle.cert_base.specs.ProofBound.{proof_bound}
use Rattle.cert_base.specs.ValidProof.{ValidProof}
use Rattle.cert_json.specs.declared.bundle.Bundle.{Bundle}
use Rattle.cert_json.specs.StableFile.{IsStableFile}
use Rattle.cert_json.specs.declared.stable.StableBundle.{StableBundle}
use Rattle.theory_goals.specs.OutputStable.{IsOutputStable}
use Rattle.theory_goals.specs.StablyRight.{IsStablyRight}
use Rattle.theory_random.specs.ComputesAlmostSurely.{ComputesInCubicTime}
use Rattle.pop_settle.specs.declared.take.Take.{Take}
use Rattle.pop_settle.specs.Settlement.{IsSettlement}
use Rattle.pop_checker.specs.Computes.{Computes}
use Rattle.pop_checker.specs.Sound.{IsRight}
use Rattle.pop_checker.specs.TameEach.{AreTameInTimeEach}
use Rattle.pop_checker.specs.ValidStable.{ValidStableProof, stable_bound}
use Rattle.pop_checker.specs.Silent.{is_silent, silent_proof, of_silent}
use Rattle.pop_settle.specs.Chosen.{proof_at}
use Rattle.tool_texts.specs.declared.status.Status.{Status}
use Rattle.tool_texts.specs.declared.status.Status.TheVariants.{Done, Undecided}
use Rattle.tool_texts.specs.Json.{HasValue}
use Rattle.tool_bundles.specs.Start.{fitting_in}
use Rattle.tool_bundles.specs.LastOf.{last_of}
use Rattle.tool_courses.specs.Course.{rest_of}
use Rattle.tool_proofs.specs.Certified.{certified_lines, stable_text, AreValidLines}
use Rattle.tool_proofs.specs.Show.{shown_text}
use Rattle.tool_proofs.specs.Settle.{settle_text}
use Rattle.tool_replays.specs.Replay.{holds_text}
use Rattle.comp_net.specs.declared.choice.LeafChoice.{LeafChoice}
use Rattle.comp_net.specs.declared.choice.LeafChoice.TheVariants as leaves
use Rattle.comp_net.specs.BuiltBound.{built_bound}
use Rattle.tool_nets.specs.Compile.{bundle_line, IsCompiled}
use Rattle.pop_tool.specs.Outcome.{IsAnswered}
use Rattle.pop_tool.specs.Runs.{IsLastLine, IsAllowedRun}
use Rattle.pop_tool.specs.Told.{SaysRefused, SaysWhyNot, CheckTold, ShowTold}
use Rattle.pop_tool.specs.ShownText.{ShowTells}

-- the input, within its limit, is one line, which is the file of this bundle
pub record IsBundleLine (input : List ℕ) (bundle : StableBundle) : Type 0 where
  pub short : length input ≤ INPUT_LIMIT
  pub line : List ℕ
  pub lines : lines_of input ≡ line ∷ []
  pub value : Data
  pub reads : HasValue line (Some value)
  pub file : IsStableFile bundle value

-- the first line is the file of this bundle, and the second a crowd line with counts in which the bundle's net can
-- start
pub record IsBundleInput (first second : List ℕ) (bundle : StableBundle) (counts : List ℕ) : Type 0 where
  pub value : Data
  pub reads : HasValue first (Some value)
  pub file : IsStableFile bundle value
  pub fits : fitting_in bundle.net second ≡ Ok counts

abbrev pub HasValidProof : StableBundle → Type 0
HasValidProof bundle = ValidStableProof bundle.net bundle.pred bundle.proof

-- a bundle whose leaves all fall silent, as one whose leaves may have goals
abbrev pub bundle_of_silent : Bundle → StableBundle
bundle_of_silent bundle = record { net = bundle.net; pred = bundle.pred; proof = of_silent bundle.proof }

-- the proof of each leaf that falls silent
abbrev pub silent_in : StableBundle → Proof
silent_in bundle = silent_proof bundle.proof

-- each leaf falls silent, and the proof is valid
pub record IsSilentlyValid (bundle : StableBundle) : Type 0 where
  pub silent : is_silent bundle.proof ≡ true
  pub valid : ValidProof bundle.net bundle.pred (silent_in bundle)

-- `certified` is printed, with this bound, on a line of its own: with the line `tame` behind it, or alone
abbrev pub SaysCertified : ℕ → List ℕ → Status → Type 0
SaysCertified bound text status = (tame : Bool) × (text ≡ certified_lines bound tame) × (status ≡ Done)

-- `certified` is printed, with this bound, and `tame` on the second line
abbrev pub SaysTame : ℕ → List ℕ → Status → Type 0
SaysTame bound text status = (text ≡ certified_lines bound true) × (status ≡ Done)

-- `certified` is printed, with the bound, exactly when the proof is valid. Then the net computes the predicate within
-- the bound, and every fair execution from an input stabilises with the predicate's value as every agent's output.
pub record CheckSays (net : NetModel) (pred : PredModel) (proof : Proof) (text : List ℕ) (status : Status)
    : Type 0 where
  pub certified : SaysCertified (proof_bound proof) text status ↔ ValidProof net pred proof
  pub right : ValidProof net pred proof → IsRight net pred proof
  -- `tame` is printed exactly when the layers of each leaf are tame too, and the work of telling that is within its limit
  pub tame : SaysTame (proof_bound proof) text status ↔ (ValidProof net pred proof × AreTameInTimeEach net proof)
  -- Then random meetings are expected to settle the net soon: of n agents within n * (n - 1) / 2 times the bound and n.
  pub settles : SaysTame (proof_bound proof) text status → ComputesInCubicTime net pred.tree (proof_bound proof)

-- `stable` is printed, with this bound
abbrev pub SaysStable : ℕ → List ℕ → Status → Type 0
SaysStable bound text status = (text ≡ ended (stable_text bound)) × (status ≡ Done)

-- `stable` is printed, with the bound, exactly when the proof is valid. Then at most so many steps for each agent lead
-- from every crowd on the way to one from which on every agent outputs the predicate's value, whatever happens. So
-- every fair execution from an input stabilises to it, though agents may go on changing.
pub record StableSays (bundle : StableBundle) (text : List ℕ) (status : Status) : Type 0 where
  pub stable : SaysStable (stable_bound bundle.proof) text status ↔ HasValidProof bundle
  pub right : HasValidProof bundle → IsStablyRight bundle.net bundle.pred.tree (stable_bound bundle.proof)

-- the input is the line of some bundle whose proof is valid, in which each leaf falls silent
pub record IsValidLine (input : List ℕ) : Type 0 where
  pub bundle : StableBundle
  pub line : IsBundleLine input bundle
  pub valid : IsSilentlyValid bundle

-- the same with tame layers, which settle it soon
pub record IsTameLine (input : List ℕ) : Type 0 where
  pub bundle : StableBundle
  pub line : IsBundleLine input bundle
  pub valid : IsSilentlyValid bundle
  pub tame : AreTameInTimeEach bundle.net (silent_in bundle)
  pub settles : ComputesInCubicTime bundle.net bundle.pred.tree (proof_bound (silent_in bundle))

-- the input is the line of some bundle whose proof is valid, in which some leaf has goals
pub record IsValidStableLine (input : List ℕ) : Type 0 where
  pub bundle : StableBundle
  pub line : IsBundleLine input bundle
  pub goals : is_silent bundle.proof ≡ false
  pub valid : HasValidProof bundle

-- a bundle is shown: the lines of `check`, and then those of its net, its predicate, and its layers or goals
abbrev pub SaysShown : StableBundle → List ℕ → Status → Type 0
SaysShown bundle text status =
    (checked : List ℕ) × AreValidLines bundle.net bundle.proof checked × (text ≡ shown_text bundle checked)
    × (status ≡ Done)

-- the input is the line of some bundle whose proof is valid, so that its net is right, and this bundle is what the text
-- shows
pub record IsShownLine (input text : List ℕ) : Type 0 where
  pub bundle : StableBundle
  pub line : IsBundleLine input bundle
  pub valid : HasValidProof bundle
  pub stably : IsStablyRight bundle.net bundle.pred.tree (stable_bound bundle.proof)
  -- where each leaf falls silent, the net computes the predicate
  pub right : is_silent bundle.proof ≡ true → IsRight bundle.net bundle.pred (silent_in bundle)
  -- the lines of `check`
  pub checked : List ℕ
  pub told : AreValidLines bundle.net bundle.proof checked
  pub settles : is_silent bundle.proof ≡ true → checked ≡ certified_lines (proof_bound (silent_in bundle)) true
      → ComputesInCubicTime bundle.net bundle.pred.tree (proof_bound (silent_in bundle))
  pub printed : text ≡ shown_text bundle checked

-- The printed journal is a run of this kind of the bundle's net from the input crowd. It is at rest where no move of the
-- layers is possible that the counts choose; if each leaf falls silent, where the crowd is terminal. Then its last line
-- is the predicate's value, which every agent outputs from there on, whatever happens, and the status is Done; else it
-- is Undecided.
pub record RunSays (kind : RunKind) (spec : RunSpec) (input text : List ℕ) (status : Status) : Type 0 where
  pub first : List ℕ
  pub second : List ℕ
  pub lines : lines_of input ≡ first ∷ second ∷ []
  pub bundle : StableBundle
  pub counts : List ℕ
  pub begins : IsBundleInput first second bundle counts
  pub right : IsStablyRight bundle.net bundle.pred.tree (stable_bound bundle.proof)
  -- where each leaf falls silent
  pub computes : is_silent bundle.proof ≡ true
      → Computes bundle.net bundle.pred.tree (proof_bound (silent_in bundle))
  pub rounds : List (List Meeting)
  pub end : CrowdModel
  -- by the moves of the net, until it is at rest
  pub run : IsRunOfUntil kind (rest_of bundle counts) bundle.net (input_crowd bundle.net counts) spec rounds end
  pub reached : Reachable (Step bundle.net) (input_crowd bundle.net counts) end
  pub last : Last
  pub printed : text ≡ ended first ++ ended second ++ journal_text kind bundle.net spec rounds end last
  pub ends : IsLastLine (rest_of bundle counts) (last_of bundle.proof (predicate_value bundle.pred.tree counts)) end last
  pub rests : (value : Bool) → last ≡ last_of bundle.proof value → IsTerminal (Step (rest_of bundle counts)) end
  pub value_is : (value : Bool) → last ≡ last_of bundle.proof value → value ≡ predicate_value bundle.pred.tree counts
  pub stays : (value : Bool) → last ≡ last_of bundle.proof value → IsOutputStable bundle.net value end
  pub done : (status ≡ Done) ↔ IsTerminal (Step (rest_of bundle counts)) end
  pub undecided : (status ≡ Undecided) ↔ ¬ IsTerminal (Step (rest_of bundle counts)) end

-- The printed takes lead from the input crowd of the bundle's net to the printed crowd. From there on every agent
-- outputs the predicate's value, which is printed last, whatever happens; if each leaf falls silent, the crowd is
-- terminal.
pub record SettleSays (input text : List ℕ) : Type 0 where
  pub first : List ℕ
  pub second : List ℕ
  pub lines : lines_of input ≡ first ∷ second ∷ []
  pub bundle : StableBundle
  pub counts : List ℕ
  pub begins : IsBundleInput first second bundle counts
  pub right : IsStablyRight bundle.net bundle.pred.tree (stable_bound bundle.proof)
  pub computes : is_silent bundle.proof ≡ true
      → Computes bundle.net bundle.pred.tree (proof_bound (silent_in bundle))
  pub takes : List Take
  pub end : CrowdModel
  -- by the layers that the counts choose
  pub settlement : IsSettlement bundle.net (proof_at counts bundle.proof) (input_crowd bundle.net counts) takes end
  pub reached : Reachable (Step bundle.net) (input_crowd bundle.net counts) end
  pub terminal : is_silent bundle.proof ≡ true → IsTerminal (Step bundle.net) end
  pub outputs : All (λ tuple. output_of bundle.net tuple ≡ predicate_value bundle.pred.tree counts) end
  pub stays : IsOutputStable bundle.net (predicate_value bundle.pred.tree counts) end
  pub printed : text
      ≡ settle_text bundle.net takes end (last_of bundle.proof (predicate_value bundle.pred.tree counts))

-- The input is a bundle whose proof is valid, a crowd line, and the text of a journal. The journal has rounds that are
-- a run of this kind of the bundle's net from the input crowd, with this many meetings. It ends as `run` ends.
pub record IsHeldInput (kind : RunKind) (input : List ℕ) (meetings : ℕ) : Type 0 where
  pub short : length input ≤ INPUT_LIMIT
  pub first : List ℕ
  pub second : List ℕ
  pub bundle : StableBundle
  pub counts : List ℕ
  pub begins : IsBundleInput first second bundle counts
  pub valid : HasValidProof bundle
  pub spec : RunSpec
  pub allowed : IsAllowedRun kind spec
  pub rounds : List (List Meeting)
  pub end : CrowdModel
  pub run : IsRunOfUntil kind (rest_of bundle counts) bundle.net (input_crowd bundle.net counts) spec rounds end
  pub last : Last
  pub ends : IsLastLine (rest_of bundle counts) (last_of bundle.proof (predicate_value bundle.pred.tree counts)) end last
  pub lines : lines_of input ≡ first ∷ second ∷ lines_of (journal_text kind bundle.net spec rounds end last)
  pub all : length (joined rounds) ≡ meetings

-- `holds` is printed, with this many meetings
abbrev pub SaysHolds : ℕ → List ℕ → Status → Type 0
SaysHolds meetings text status = (text ≡ ended (holds_text meetings)) × (status ≡ Done)

-- the lines are a vars line with these names and a text that means this predicate over them
pub record IsAsked (lines names : List (List ℕ)) (pred : PredModel) : Type 0 where
  pub first : List ℕ
  pub second : List ℕ
  pub two : lines ≡ first ∷ second ∷ []
  pub named : vars_of first ≡ Some names
  pub means : IsTextOf names second pred

-- The input asks for a predicate over some names, and the printed line is a bundle of its built net with these leaves,
-- the predicate and a valid proof. Unless it is too long for an input, it is the line of this bundle, so that `check`
-- answers it with `certified`: this is the law `compiled_is_certified`. The net settles soon.
pub record CompileSays (choice : LeafChoice) (input text : List ℕ) : Type 0 where
  pub names : List (List ℕ)
  pub pred : PredModel
  pub asked : IsAsked (lines_of input) names pred
  pub bundle : Bundle
  pub compiled : IsCompiled choice names pred bundle
  -- with the bound k that the atoms give, random meetings settle n agents within k * n * n * (n - 1) / 2 meetings on
  -- average
  pub settles : ComputesInCubicTime bundle.net bundle.pred.tree (built_bound choice pred.tree)
  pub printed : text ≡ bundle_line bundle
  pub line : length text ≤ INPUT_LIMIT → IsBundleLine text (bundle_of_silent bundle)

-- the run was made
abbrev pub WasRun : Status → Type 0
WasRun status = (status ≡ Done) ⊎ (status ≡ Undecided)

pub record Headline (words : List (List ℕ)) (input text : List ℕ) (status : Status) : Type 0 where
  -- of a bundle in which each leaf falls silent
  pub check : (bundle : StableBundle) → meaning_of words ≡ Ok Check → IsBundleLine input bundle
      → is_silent bundle.proof ≡ true → CheckSays bundle.net bundle.pred (silent_in bundle) text status
  -- `certified`, with any number, is printed only for a valid proof
  pub only : meaning_of words ≡ Ok Check → (k : ℕ) (tame : Bool) → text ≡ certified_lines k tame → IsValidLine input
  -- and `tame` on the second line only for tame layers
  pub tame_only : meaning_of words ≡ Ok Check → (k : ℕ) → text ≡ certified_lines k true → IsTameLine input
  -- the same of `stable`, for a bundle in which some leaf has goals
  pub stable : (bundle : StableBundle) → meaning_of words ≡ Ok Check → IsBundleLine input bundle
      → is_silent bundle.proof ≡ false → StableSays bundle text status
  pub stable_only : meaning_of words ≡ Ok Check → (k : ℕ) → text ≡ ended (stable_text k) → IsValidStableLine input
  -- the status and the exit status are those of the text, whatever the input is
  pub check_told : meaning_of words ≡ Ok Check → CheckTold text status
  -- a bundle is shown exactly when its proof is valid
  pub show : (bundle : StableBundle) → meaning_of words ≡ Ok Show → IsBundleLine input bundle
      → SaysShown bundle text status ↔ HasValidProof bundle
  -- what `show` prints shows the very net and predicate that are certified
  pub shown : meaning_of words ≡ Ok Show → status ≡ Done → IsShownLine input text
  pub show_told : meaning_of words ≡ Ok Show → ShowTold text status
  -- the text alone tells which net is right for which predicate
  pub show_tells : meaning_of words ≡ Ok Show → ShowTells text status
  pub run : (spec : RunSpec) → meaning_of words ≡ Ok (Run spec) → WasRun status → RunSays Whole spec input text status
  pub watch : (spec : RunSpec) → meaning_of words ≡ Ok (Watch spec) → WasRun status
      → RunSays Watched spec input text status
  -- where no run was made, the text says why, and nothing of a run
  pub run_told : (spec : RunSpec) → meaning_of words ≡ Ok (Run spec) → WasRun status ⊎ SaysWhyNot text status
  pub watch_told : (spec : RunSpec) → meaning_of words ≡ Ok (Watch spec) → WasRun status ⊎ SaysWhyNot text status
  pub compile : meaning_of words ≡ Ok Compile → status ≡ Done → CompileSays leaves.Plain input text
  pub flocks : meaning_of words ≡ Ok Flocks → status ≡ Done → CompileSays leaves.Flocks input text
  pub succinct : meaning_of words ≡ Ok Succinct → status ≡ Done → CompileSays leaves.Succinct input text
  -- and where no bundle was made, why
  pub compile_told : meaning_of words ≡ Ok Compile → (status ≡ Done) ⊎ SaysRefused text status
  pub flocks_told : meaning_of words ≡ Ok Flocks → (status ≡ Done) ⊎ SaysRefused text status
  pub succinct_told : meaning_of words ≡ Ok Succinct → (status ≡ Done) ⊎ SaysRefused text status
  pub settle : meaning_of words ≡ Ok Settle → status ≡ Done → SettleSays input text
  pub settle_told : meaning_of words ≡ Ok Settle → (status ≡ Done) ⊎ SaysWhyNot text status
  -- `holds`, with any number, is printed exactly for a journal of a run of the kind with this many meetings
  pub replay : meaning_of words ≡ Ok Replay → (k : ℕ) → SaysHolds k text status ↔ IsHeldInput Whole input k
  pub replay_watched : meaning_of words ≡ Ok ReplayWatched → (k : ℕ)
      → SaysHolds k text status ↔ IsHeldInput Watched input k
  -- and with no other status
  pub replay_told : meaning_of words ≡ Ok Replay → (k : ℕ) → text ≡ ended (holds_text k) → status ≡ Done
  pub replay_watched_told : meaning_of words ≡ Ok ReplayWatched → (k : ℕ) → text ≡ ended (holds_text k)
      → status ≡ Done

-- if it is known what the source had left and what the sink holds, then what the sink gained says so
abbrev pub IsHeadline : List (List ℕ) → Option (List ℕ) → Option (List ℕ) → Option (List ℕ) → Status → Type 0
IsHeadline words left old new status =
    (input before text : List ℕ) → left ≡ Some input → old ≡ Some before → new ≡ Some (before ++ text)
    → IsAnswered status → Headline words input text status
