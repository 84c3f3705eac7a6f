use Rattle.tool_runs.proofs.run.pending_of.Goals as goal

pub returns : goal.returns
returns c = rw c.in_ok-lines.ensures at c.pending-run.ensures
