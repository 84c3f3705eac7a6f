use Rattle.std.proofs.Common.{refl}
use Rattle.std.specs.Vec.{with_item}
use Rattle.pop_journal.specs.declared.replayer.Replayer.{Replayer}
use Rattle.pop_journal.proofs.Steps.{next_replayed}
use Rattle.pop_journal.proofs.replayer.Replayer.replay_next.Goals as goal

pub returns-clause-next : goal.returns-clause-next
returns-clause-next c start spec before h =
    let net = c.args.net.now in
    let m = c.meet_next.result in
    let next = c.meet_next.new.picker in
    let new : Replayer = record { crowd = c.meet_next.new.crowd; pickers = with_item c.args.self.now.pickers c.args.worker next; last = c.args.self.now.last } in
    let is = c.meet_next.ensures in
    next_replayed net start spec before c.args.self.now new c.args.worker m c.index_mut-picker.result.now next h is c.requires.worker c.index_mut-picker.ensures.value refl
