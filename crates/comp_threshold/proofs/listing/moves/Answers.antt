use Rattle.std.proofs.Common.{◌∙◌, []}
use Rattle.std.specs.Prelude.{flat_map}
use Rattle.std.specs.List.{range_with_len}
use Rattle.comp_trees.proofs.Members.{flat_range_more}
use Rattle.comp_threshold.specs.ThresholdLeaf.{span_of, threshold_pairs, threshold_turns}
use Rattle.comp_threshold.proofs.listing.moves.Goals as goal

pub loop-p-preserved : goal.loop-p-preserved
loop-p-preserved c =
    flat_range_more (threshold_pairs c.args.width.number c.args.t) c.loop-p.p [] c.loop-p.moves.items c.as_slice.result.now c.extend_from_slice.new.self.items c.loop-p.invariant (c.as_slice.ensures.value ∙ c.in_ok-pairs.ensures) c.in_ok-extend_from_slice.ensures.items

pub loop-p-2-preserved : goal.loop-p-2-preserved
loop-p-2-preserved c =
    flat_range_more (threshold_turns c.args.width.number c.args.t) c.loop-p-2.p (flat_map (threshold_pairs c.args.width.number c.args.t) (range_with_len 0 (span_of c.args.width.number))) c.loop-p-2.moves.items c.as_slice-in-loop-p-2.result.now c.extend_from_slice-in-loop-p-2.new.self.items c.loop-p-2.invariant (c.as_slice-in-loop-p-2.ensures.value ∙ c.in_ok-turns.ensures) c.in_ok-extend_from_slice-2.ensures.items
