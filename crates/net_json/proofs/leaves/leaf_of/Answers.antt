use Rattle.std.proofs.Common.{ap, length, refl, inl}
use Rattle.serde_json.specs.View.{view}
use Rattle.base_json.specs.Paths.{path_text}
use Rattle.net_json.specs.declared.format.TheConstants.{PLAIN_FORMAT}
use Rattle.net_json.proofs.LeafLaws.{leaf_read}
use Rattle.net_json.proofs.leaves.leaf_of.Goals as goal

pub of_valid-requires : goal.of_valid-requires
of_valid-requires c =
    leaf_read PLAIN_FORMAT c.args.variables (inl refl) c.requires.variables.0 c.requires.variables.1 c.args.range (path_text c.args.path.now) (view c.args.value.now) (length c.as_slice-count.result.now) _ _ _ _ _
    (ap length c.as_slice-count.ensures)
    c.requires.range
    c.in_ok-states.ensures.names c.in_ok-moves.ensures c.in_ok-inputs.ensures c.in_ok-outputs.ensures c.in_ok-helpers.ensures
