use Rattle.std.proofs.Common.{rules}
use Rattle.agent_field.proofs.Moves.{watches}
use Rattle.agent_field.proofs.field.Field.watch.Goals as goal

pub load-requires : goal.load-requires
load-requires c =
    (search rules, search rules, watches c.args.self.now.table.shared.key _ _ c.args.token.now.me c.requires.usable.live c.requires.usable.ours c.requires.all)
