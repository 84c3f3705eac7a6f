use Rattle.std.proofs.Common.{refl}
use Rattle.std.specs.Prelude.{option_map}
use Rattle.serde_json.specs.View.{view}
use Rattle.tool_texts.proofs.Goes.{gives_obeys}
use Rattle.tool_bundles.specs.Bundles.{begun, IsBegunBy}
use Rattle.tool_bundles.proofs.bundle.begin.Goals as goal

pub returns-clause-begun : goal.returns-clause-begun
returns-clause-begun c =
    let value = option_map view c.in_ok-value.value in
    gives_obeys (IsBegunBy c.args.lines.0.now c.args.lines.1.now) _ c.bundle_and_start.result (begun value c.args.lines.1.now) (value, c.in_ok-value.ensures, refl) c.bundle_and_start.ensures.begun
