use Rattle.std.proofs.Common.{Some}
use Rattle.tool_tests.proofs.Short.{no_words_short}
use Rattle.tool_tests.proofs.limits.no_words_over_a_calm_sink.Goals as goal

pub run_calm-status-requires-clause-room : goal.run_calm-status-requires-clause-room
run_calm-status-requires-clause-room g c = λ _ output reply. rw c.in_ok-sink.ensures (no_words_short (Some c.new-source.result) output reply)
