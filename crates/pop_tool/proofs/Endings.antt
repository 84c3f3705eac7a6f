-- No command ends by a fault of reading.
use Rattle.std.proofs.Common.{ℕ, List, Result, sym, subst}
use Rattle.std.specs.Prelude.{◌≢◌}
use Rattle.pop_words.specs.declared.command.Command.{Command}
use Rattle.pop_words.specs.declared.command.Command.TheVariants.{Play, Eval, Check, Run, Watch, Replay, ReplayWatched, Settle, Compile, Flocks, Demo}
use Rattle.pop_words.specs.declared.command.Command.TheVariants.{Show, Succinct}
use Rattle.run_spec.specs.declared.kind.RunKind.TheVariants.{Whole, Watched}
use Rattle.comp_net.specs.declared.choice.LeafChoice.TheVariants as leaves
use Rattle.tool_texts.specs.declared.refusal.Refusal.{Refusal}
use Rattle.tool_texts.specs.declared.output.Output.{Output}
use Rattle.tool_texts.specs.declared.output.Ending.TheVariants.{ReadFault}
use Rattle.tool_texts.specs.Refusals.{output_for}
use Rattle.tool_bundles.proofs.OtherEndings.{IsOther}
use Rattle.tool_nets.proofs.Endings.{eval_other, play_other, compile_other}
use Rattle.tool_proofs.proofs.Endings.{check_other, show_other, settle_other}
use Rattle.tool_runs.proofs.Endings.{run_other}
use Rattle.tool_replays.proofs.Endings.{replay_other}
use Rattle.tool_demos.proofs.Endings.{demo_other}
use Rattle.pop_tool.specs.Commands.{CommandGives}

pub given_ending : (command : Command) (lines : List (List ℕ)) (given : Result Output Refusal) → CommandGives command lines given → (output_for given).ending ≢ ReadFault
given_ending Play lines given is = play_other lines given is
given_ending Eval lines given is = subst IsOther (sym is) (eval_other lines)
given_ending Check lines given is = check_other lines given is
given_ending Show lines given is = show_other lines given is
given_ending (Run spec) lines given is = run_other Whole spec lines given is
given_ending (Watch spec) lines given is = run_other Watched spec lines given is
given_ending Replay lines given is = replay_other Whole lines given is
given_ending ReplayWatched lines given is = replay_other Watched lines given is
given_ending Settle lines given is = settle_other lines given is
given_ending Compile lines given is = compile_other leaves.Plain lines given is
given_ending Flocks lines given is = compile_other leaves.Flocks lines given is
given_ending Succinct lines given is = compile_other leaves.Succinct lines given is
given_ending (Demo number) lines given is = demo_other number given is
