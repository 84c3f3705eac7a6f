-- The table of commands.
use Rattle.std.specs.Prelude.{◌≡◌, ℕ, Bool, true, false, List, Result, Ok, Err}
use Rattle.pop_words.specs.declared.command.Command.{Command}
use Rattle.pop_words.specs.declared.command.Command.TheVariants.{Play, Eval, Check, Run, Watch, Replay, ReplayWatched}
use Rattle.pop_words.specs.declared.command.Command.TheVariants.{Settle, Compile, Flocks, Demo}
use Rattle.pop_words.specs.declared.command.Command.TheVariants.{Show, Succinct}
use Rattle.run_spec.specs.declared.kind.RunKind.TheVariants.{Whole, Watched}
use Rattle.tool_texts.specs.declared.refusal.Refusal.{Refusal}
use Rattle.tool_texts.specs.declared.output.Output.{Output}
use Rattle.tool_texts.specs.Steps.{Stop}
use Rattle.tool_nets.specs.Eval.{eval_output}
use Rattle.tool_nets.specs.Play.{PlayGives}
use Rattle.tool_proofs.specs.Check.{CheckGives}
use Rattle.tool_proofs.specs.Show.{ShowGives}
use Rattle.tool_runs.specs.Run.{RunGives}
use Rattle.tool_replays.specs.Replay.{ReplayGives}
use Rattle.comp_net.specs.declared.choice.LeafChoice.TheVariants as leaves
use Rattle.tool_proofs.specs.Settle.{SettleGives}
use Rattle.tool_nets.specs.Compile.{CompileGives}
use Rattle.tool_demos.specs.Demo.{DemoGives}
use Rattle.tool_courses.specs.declared.prepared.Prepared.{Prepared}
use Rattle.tool_courses.specs.declared.prepared.Prepared.TheVariants.{Text}

-- what each gives for the lines of its input
abbrev pub CommandGives : Command → List (List ℕ) → Result Output Refusal → Type 0
CommandGives Play lines given = PlayGives lines given
CommandGives Eval lines given = given ≡ eval_output lines
CommandGives Check lines given = CheckGives lines given
CommandGives Show lines given = ShowGives lines given
CommandGives (Run spec) lines given = RunGives Whole spec lines given
CommandGives (Watch spec) lines given = RunGives Watched spec lines given
CommandGives Replay lines given = ReplayGives Whole lines given
CommandGives ReplayWatched lines given = ReplayGives Watched lines given
CommandGives Settle lines given = SettleGives lines given
CommandGives Compile lines given = CompileGives leaves.Plain lines given
CommandGives Flocks lines given = CompileGives leaves.Flocks lines given
CommandGives Succinct lines given = CompileGives leaves.Succinct lines given
CommandGives (Demo number) lines given = DemoGives number given

-- which read an input: all but `demo`
abbrev pub reads : Command → Bool
reads Play = true
reads Eval = true
reads Check = true
reads Show = true
reads (Run spec) = true
reads (Watch spec) = true
reads Replay = true
reads ReplayWatched = true
reads Settle = true
reads Compile = true
reads Flocks = true
reads Succinct = true
reads (Demo number) = false

-- which need no threads: all but a run by two or more workers, and `watch`
abbrev pub IsPlain : Command → Type 0
IsPlain Play = Unit {0}
IsPlain Eval = Unit {0}
IsPlain Check = Unit {0}
IsPlain Show = Unit {0}
IsPlain (Run spec) = spec.workers ≡ 1
IsPlain (Watch spec) = ⊥
IsPlain Replay = Unit {0}
IsPlain ReplayWatched = Unit {0}
IsPlain Settle = Unit {0}
IsPlain Compile = Unit {0}
IsPlain Flocks = Unit {0}
IsPlain Succinct = Unit {0}
IsPlain (Demo number) = Unit {0}

-- Which leave no choice: all but a run by two or more workers, `watch`, and `compile`, with one of its words or none,
-- for which any valid proof will do.
abbrev pub IsDetermined : Command → Type 0
IsDetermined Play = Unit {0}
IsDetermined Eval = Unit {0}
IsDetermined Check = Unit {0}
IsDetermined Show = Unit {0}
IsDetermined (Run spec) = spec.workers ≡ 1
IsDetermined (Watch spec) = ⊥
IsDetermined Replay = Unit {0}
IsDetermined ReplayWatched = Unit {0}
IsDetermined Settle = Unit {0}
IsDetermined Compile = ⊥
IsDetermined Flocks = ⊥
IsDetermined Succinct = ⊥
IsDetermined (Demo number) = Unit {0}

-- what is prepared for an output, or a stop
abbrev pub ready : Result Output Stop → Result Prepared Stop
ready (Ok output) = Ok (Text output)
ready (Err stop) = Err stop
