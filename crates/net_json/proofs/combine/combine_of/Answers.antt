use Rattle.std.proofs.Common.{rules}
use Rattle.net_json.specs.Examined.{combine_at}
use Rattle.net_json.proofs.combine.combine_of.Goals as goal

pub returns : goal.returns
unfolding combine_at
returns c = search rules
