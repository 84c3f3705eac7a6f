use Rattle.std.proofs.Common.{◌≡◌, ◌<◌, ◌≤◌, length, refl, ap, sym, ◌∙◌, arith}
use Rattle.std.specs.Prelude.{Some, slice_get}
use Rattle.std.proofs.lemmas.List.{take_all}
use Rattle.std.proofs.lemmas.Option.{slice_get_read}
use Rattle.cert_base.specs.ValidLayers.{moves_of_layers}
use Rattle.std.specs.Prelude.{ℕ, List}
use Rattle.cert_base.specs.declared.proof.LeafProof.{LeafProof}
use Rattle.pop_leaf.specs.Hushed.{hushed}
use Rattle.pop_settle.specs.HushedNet.{hushed_leaves}
use Rattle.pop_leaf.proofs.Copied.{one_copied}
use Rattle.pop_settle.proofs.HushedLeaves.{hushed_length, hushed_at}
use Rattle.pop_settle.proofs.hushing.hushed_leaves.Goals as goal

pub loop-i-preserved : goal.loop-i-preserved
loop-i-preserved c =
    let leaves = c.args.net.now.leaves in
    let parts = c.args.proof.now.leaves in
    let part = c.index-parts-i.result in
    let i = c.loop-i.i in
    let items = c.as_slice-parts.result.now in
    let long : i < length items = omega (arith, c.loop-i-test.true, c.leaf_count-i-end.ensures.count, ap length c.as_slice-parts.ensures, c.requires) in
    let there : slice_get parts i ≡ Some part = rw c.as_slice-parts.ensures at (slice_get_read items (length items) i part refl long c.index-parts-i.is) in
    let moves = c.as_slice-in-loop-i.ensures.value ∙ c.in_ok-moves.ensures ∙ ap moves_of_layers c.as_slice.ensures ∙ ap (λ (p : LeafProof). moves_of_layers p.layers) (sym c.index-parts-i.is) in
    let made : hushed c.leaf.result.now (moves_of_layers part.layers) ≡ c.in_ok-hushed_leaf.field-0 = sym (c.in_ok-hushed_leaf.ensures ∙ ap (λ (kept : List ℕ). hushed c.leaf.result.now kept) moves) in
    one_copied (hushed_leaves leaves parts) i c.in_ok-hushed_leaf.field-0 c.loop-i.invariant
    (hushed_at leaves parts i c.leaf.result.now part c.leaf.ensures there ∙ ap Some made)
    c.in_ok-push.ensures.items

pub returns : goal.returns
returns c =
    let leaves = c.args.net.now.leaves in
    let parts = c.args.proof.now.leaves in
    let lengths = hushed_length leaves parts in
    let all : length (hushed_leaves leaves parts) ≤ c.loop-i.i = omega (arith, lengths, c.loop-i-test.false, c.leaf_count-i-end.ensures.count) in
    c.from_vec.ensures ∙ c.loop-i.invariant ∙ take_all c.loop-i.i (hushed_leaves leaves parts) all
