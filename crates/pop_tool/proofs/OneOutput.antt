-- A command that leaves no choice gives one output for its input.
use Rattle.std.proofs.Common.{◌≡◌, ℕ, List, Result, sym, ◌∙◌}
use Rattle.pop_words.specs.declared.command.Command.{Command}
use Rattle.pop_words.specs.declared.command.Command.TheVariants.{Play, Eval, Check, Run, Watch, Replay, ReplayWatched, Settle, Compile, Flocks, Demo}
use Rattle.pop_words.specs.declared.command.Command.TheVariants.{Show, Succinct}
use Rattle.run_spec.specs.declared.kind.RunKind.TheVariants.{Whole, Watched}
use Rattle.tool_texts.specs.declared.refusal.Refusal.{Refusal}
use Rattle.tool_texts.specs.declared.output.Output.{Output}
use Rattle.pop_tool.specs.Commands.{CommandGives, IsDetermined}
use Rattle.tool_nets.proofs.OnePlay.{one_play}
use Rattle.tool_proofs.proofs.OneCheck.{one_check}
use Rattle.tool_proofs.proofs.OneShow.{one_show}
use Rattle.tool_runs.proofs.OneRun.{one_run}
use Rattle.tool_replays.proofs.OneReplay.{one_replay}
use Rattle.tool_proofs.proofs.OneSettle.{one_settle}
use Rattle.tool_demos.proofs.OneDemo.{one_demo}

pub one_given : (command : Command) → IsDetermined command → (lines : List (List ℕ)) (x y : Result Output Refusal) → CommandGives command lines x → CommandGives command lines y → x ≡ y
one_given Play plain lines x y p q = one_play lines x y p q
one_given Eval plain lines x y p q = p ∙ sym q
one_given Check plain lines x y p q = one_check lines x y p q
one_given Show plain lines x y p q = one_show lines x y p q
one_given (Run spec) plain lines x y p q = one_run spec plain lines x y p q
one_given (Watch spec) plain lines x y p q = absurd plain
one_given Replay plain lines x y p q = one_replay Whole lines x y p q
one_given ReplayWatched plain lines x y p q = one_replay Watched lines x y p q
one_given Settle plain lines x y p q = one_settle lines x y p q
one_given Compile plain lines x y p q = absurd plain
one_given Flocks plain lines x y p q = absurd plain
one_given Succinct plain lines x y p q = absurd plain
one_given (Demo number) plain lines x y p q = one_demo number x y p q
