use Rattle.std.proofs.Common.{◌∙◌, arith}
use Rattle.agent_field.specs.Seats.{log_of}
use Rattle.pair_workers.specs.Work.{agents_of_field}
use Rattle.pair_workers.proofs.LoggedTurns.{turn_more}
use Rattle.pair_workers.proofs.work.work.Goals as goal

pub turns-preserved : goal.turns-preserved
turns-preserved g c =
    let was = c.turns.invariant in
    let m = c.meet.ensures in
    let k = was.kept in
    record {
      ours = m.ours;
      kept = (m.rest.0 ∙ k.0, m.rest.1 ∙ k.1, m.rest.2 ∙ k.2, m.rest.3 ∙ k.3, m.rest.4 ∙ k.4, m.rest.5 ∙ k.5);
      picked = turn_more (agents_of_field c.args.field.now) _ c.turns.turn _ _ _ (log_of c.turns.worker.seat) (log_of c.meet.new.seat) c.meet.result.ticket c.pick-a.result c.meet.result.changed was.picked m.logged c.agents.ensures c.pick-a.ensures.next.in_row;
      room = let r = was.room in let s = m.spare in omega arith;
    }
