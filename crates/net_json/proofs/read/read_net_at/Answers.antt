use Rattle.std.proofs.Common.{ap, length}
use Rattle.serde_json.specs.View.{view}
use Rattle.base_json.specs.Paths.{path_text}
use Rattle.net_json.proofs.NetLaws.{net_read}
use Rattle.net_json.proofs.read.read_net_at.Goals as goal

pub fitting-requires : goal.fitting-requires
fitting-requires c narrow =
    net_read (path_text c.args.path.now) (view c.args.value.now) _ (length c.as_slice-variables.result.now) (length c.as_slice-count.result.now) _ _ _
    (ap length c.as_slice-variables.ensures)
    (ap length c.as_slice-count.ensures)
    c.in_ok-format.ensures c.in_ok-vars.ensures.names c.in_ok-leaves.ensures.leaves c.in_ok-combine.ensures narrow
