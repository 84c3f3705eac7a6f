use Rattle.std.proofs.Common.{rules}
use Rattle.agent_field.proofs.Moves.{draws}
use Rattle.agent_field.proofs.field.Field.draw.Goals as goal

pub fetch_add-requires : goal.fetch_add-requires
fetch_add-requires c =
    let p = c.requires.pair.read in (
      search rules,
      search rules,
      draws c.args.self.now.table.shared.key _ _ c.args.token.now.me p.a p.b p.x p.y p.x' p.y' c.requires.usable.live c.requires.usable.ours p.known
          (record { pair = p.pair; exactly = c.requires.pair.exactly }),
    )
