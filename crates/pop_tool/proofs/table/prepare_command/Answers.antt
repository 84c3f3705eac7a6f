use Rattle.pop_words.specs.declared.command.Command.TheVariants.{Play, Eval, Check, Replay, ReplayWatched, Settle, Compile, Flocks}
use Rattle.pop_words.specs.declared.command.Command.TheVariants.{Show, Succinct}
use Rattle.pop_tool.proofs.Ready.{command_ready, step_obeys}
use Rattle.pop_tool.proofs.table.prepare_command.Goals as goal

pub returns-in-Play-clause-leads : goal.returns-in-Play-clause-leads
returns-in-Play-clause-leads c = command_ready c.args.command Play _ c.play_input.result c.ready.result c.in-Play.is c.play_input.ensures c.ready.ensures

pub returns-in-Eval-clause-leads : goal.returns-in-Eval-clause-leads
returns-in-Eval-clause-leads c = command_ready c.args.command Eval _ c.eval_input.result c.ready-in-Eval.result c.in-Eval.is (step_obeys c.eval_input.result _ c.eval_input.ensures) c.ready-in-Eval.ensures

pub returns-in-Check-clause-leads : goal.returns-in-Check-clause-leads
returns-in-Check-clause-leads c = command_ready c.args.command Check _ c.check_input.result c.ready-in-Check.result c.in-Check.is c.check_input.ensures c.ready-in-Check.ensures

pub returns-in-Show-clause-leads : goal.returns-in-Show-clause-leads
returns-in-Show-clause-leads c = command_ready c.args.command Show _ c.show_input.result c.ready-in-Show.result c.in-Show.is c.show_input.ensures c.ready-in-Show.ensures

pub returns-in-Replay-clause-leads : goal.returns-in-Replay-clause-leads
returns-in-Replay-clause-leads c = command_ready c.args.command Replay _ c.replay_input.result c.ready-in-Replay.result c.in-Replay.is c.replay_input.ensures c.ready-in-Replay.ensures

pub returns-in-ReplayWatched-clause-leads : goal.returns-in-ReplayWatched-clause-leads
returns-in-ReplayWatched-clause-leads c = command_ready c.args.command ReplayWatched _ c.replay_input-in-ReplayWatched.result c.ready-in-ReplayWatched.result c.in-ReplayWatched.is c.replay_input-in-ReplayWatched.ensures c.ready-in-ReplayWatched.ensures

pub returns-in-Settle-clause-leads : goal.returns-in-Settle-clause-leads
returns-in-Settle-clause-leads c = command_ready c.args.command Settle _ c.settle_input.result c.ready-in-Settle.result c.in-Settle.is c.settle_input.ensures c.ready-in-Settle.ensures

pub returns-in-Compile-clause-leads : goal.returns-in-Compile-clause-leads
returns-in-Compile-clause-leads c = command_ready c.args.command Compile _ c.compile_input.result c.ready-in-Compile.result c.in-Compile.is c.compile_input.ensures c.ready-in-Compile.ensures

pub returns-in-Flocks-clause-leads : goal.returns-in-Flocks-clause-leads
returns-in-Flocks-clause-leads c = command_ready c.args.command Flocks _ c.compile_input-in-Flocks.result c.ready-in-Flocks.result c.in-Flocks.is c.compile_input-in-Flocks.ensures c.ready-in-Flocks.ensures

pub returns-in-Succinct-clause-leads : goal.returns-in-Succinct-clause-leads
returns-in-Succinct-clause-leads c = command_ready c.args.command Succinct _ c.compile_input-in-Succinct.result c.ready-in-Succinct.result c.in-Succinct.is c.compile_input-in-Succinct.ensures c.ready-in-Succinct.ensures
