use Rattle.std.proofs.Common.{subst, sym, rules}
use Rattle.pop_tool.proofs.write.write.Goals as goal

pub write_all-requires : goal.write_all-requires
write_all-requires g c = subst (g.K.Sink.accepts c.args.sink.now) (sym c.as_slice.ensures) (rw c.in-Ok.is at c.requires)

pub returns-in-Ok-write_all : goal.returns-in-Ok-write_all
returns-in-Ok-write_all g c = search rules
