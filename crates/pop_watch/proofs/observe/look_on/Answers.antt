use Rattle.std.proofs.Common.{sym}
use Rattle.terminal_test.specs.TableNet.{table_net}
use Rattle.run_picks.proofs.SameLanes.{valid_same}
use Rattle.pop_watch.proofs.observe.look_on.Goals as goal

pub is_terminal-requires : goal.is_terminal-requires
is_terminal-requires g c =
    valid_same c.args.watch.now.run.now.net.now (table_net c.args.watch.now.table.now) (sym c.requires.lanes) c.in_ok-crowd.crowd c.in_ok-crowd.ensures.valid
