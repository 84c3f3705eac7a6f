use Rattle.std.proofs.Common.{arith}
use Rattle.tool_bundles.proofs.Starts.{agents_counted, fits}
use Rattle.tool_bundles.proofs.start.start_of.Goals as goal

pub returns-in-Ok-clause-counts : goal.returns-in-Ok-clause-counts
returns-in-Ok-clause-counts c =
    let n = agents_counted c.args.net.now c.in_ok-counts.counts c.in-Ok.crowd (rw c.as_slice.ensures at c.in-Ok.ensures.start) in
    fits c.args.net.now c.args.line.now c.in_ok-counts.counts (rw c.var_names.ensures.names at c.in_ok-counts.ensures.counts) (omega (arith, n, c.in-Ok.ensures.size.0)) (omega (arith, n, c.in-Ok.ensures.size.1))

pub returns-in-Ok-clause-start : goal.returns-in-Ok-clause-start
returns-in-Ok-clause-start c =
    let n = agents_counted c.args.net.now c.in_ok-counts.counts c.in-Ok.crowd (rw c.as_slice.ensures at c.in-Ok.ensures.start) in
    record {
      input = record {
        one_each = rw c.var_names.ensures.names at c.in_ok-counts.ensures.len;
        two_agents = omega (arith, n, c.in-Ok.ensures.size.0);
      };
      crowd = rw c.as_slice.ensures at c.in-Ok.ensures.start;
      valid = c.in-Ok.ensures.valid;
    }
