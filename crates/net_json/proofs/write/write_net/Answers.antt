use Rattle.std.proofs.Common.{[], ap, nat_lt}
use Rattle.net_json.proofs.NetLaws.{net_at-again}
use Rattle.net_json.proofs.Writes.{net_file}
use Rattle.net_json.proofs.write.write_net.Goals as goal

pub net_value-requires : goal.net_value-requires
net_value-requires c = ap (nat_lt 0) c.helper_count-helped.ensures

pub returns-clause-file : goal.returns-clause-file
returns-clause-file c = rw c.in_ok-value.ensures.value (net_file c.args.net.now c.in_ok-value.ensures.formed)

pub returns-clause-again : goal.returns-clause-again
returns-clause-again c = rw c.in_ok-value.ensures.value (net_at-again [] _ c.args.net.now (net_file c.args.net.now c.in_ok-value.ensures.formed))
