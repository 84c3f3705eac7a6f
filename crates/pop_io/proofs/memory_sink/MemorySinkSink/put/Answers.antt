use Rattle.std.proofs.Common.{rules}
use Rattle.pop_io.proofs.memory_sink.MemorySinkSink.put.Goals as goal

pub returns-then-count-eq0-clause-count : goal.returns-then-count-eq0-clause-count
returns-then-count-eq0-clause-count c = search rules
