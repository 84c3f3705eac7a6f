use Rattle.std.proofs.Common.{◌≡◌, ℕ, ◌<◌, List, length, get_or, ap, sym, subst, ◌∙◌, arith}
use Rattle.std.specs.Prelude.{Option, Some, IfSome, slice_get}
use Rattle.std.proofs.lemmas.Option.{slice_get-get_or}
use Rattle.pop_leaf.specs.LeafModel.{LeafModel}
use Rattle.pop_net.specs.Lanes.{crowd_of}
use Rattle.pop_leaf.proofs.Quiet.{nothing}
use Rattle.cert_base.specs.declared.proof.LeafProof.{LeafProof}
use Rattle.pop_settle.specs.Walks.{IsQuietBefore}
use Rattle.pop_settle.proofs.Hushed.{quiet_leaf}
use Rattle.pop_settle.proofs.Walking.{walk_join}
use Rattle.pop_settle.proofs.settling.settle_leaf.Goals as goal

pub loop-number-preserved : goal.loop-number-preserved
loop-number-preserved c =
    let h = slice_get-get_or c.args.by.now.net.now.leaves c.args.leaf nothing c.requires.leaf_in in
    record {
      walked = walk_join c.args.by.now.net.now c.args.by.now.proof.now c.args.walk.now c.loop-number.walk c.settle_layer.new.walk c.loop-number.invariant.walked c.in_ok-settle_layer.ensures.walked;
      count = subst (λ (o : Option LeafModel). IfSome o (λ leaf. length c.settle_layer.new.groups.groups.items ≡ length leaf.states)) (sym h)
          (c.settle_layer.ensures.count ∙ subst (λ (o : Option LeafModel). IfSome o (λ leaf. length c.loop-number.groups.groups.items ≡ length leaf.states)) h c.loop-number.invariant.count);
      grouped = c.in_ok-settle_layer.ensures.grouped;
      quiet = c.in_ok-settle_layer.ensures.quiet;
    }

pub returns-clause-quiet : goal.returns-clause-quiet
returns-clause-quiet c =
    let parts = c.args.by.now.proof.now.leaves in
    let part = c.index-as_slice-leaf.result in
    let l : c.args.leaf < length parts = omega (arith, c.requires.leaf_in, c.requires.layers.layers.one_each) in
    let at : slice_get parts c.args.leaf ≡ Some part = slice_get-get_or parts c.args.leaf part l ∙ ap Some (ap (λ (ps : List LeafProof). get_or ps c.args.leaf part) (sym c.as_slice-2.ensures) ∙ sym c.index-as_slice-leaf.is) in
    quiet_leaf c.args.by.now.net.now c.args.by.now.proof.now (crowd_of c.args.by.now.net.now c.loop-number.walk.words.items) c.args.leaf part at
    (subst (λ (n : ℕ). IsQuietBefore c.args.by.now.net.now c.args.by.now.proof.now (crowd_of c.args.by.now.net.now c.loop-number.walk.words.items) c.args.leaf n)
    (let e : c.loop-number.number ≡ length part.layers = omega (arith, c.loop-number-test.false, c.loop-number.auto.number-end, ap length c.as_slice-layer-items.ensures) in e)
    c.loop-number.invariant.quiet)
