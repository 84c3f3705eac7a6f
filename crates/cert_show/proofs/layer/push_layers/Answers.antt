use Rattle.std.proofs.Common.{◌≡◌, ℕ, List, ◌++◌, length, ap, subst, ◌∙◌}
use Rattle.std.specs.Prelude.{slice_get}
use Rattle.cert_base.specs.declared.layer.Layer.{Layer}
use Rattle.cert_show.specs.Lines.{text_of, below, each}
use Rattle.cert_show.specs.LeafLines.{layer_lines}
use Rattle.cert_show.proofs.Pieces.{blocks}
use Rattle.cert_show.proofs.layer.push_layers.Goals as goal

pub returns : goal.returns
returns c =
    let leaf = c.args.leaf.now in
    let layers = c.args.layers.now in
    let t0 = c.args.out.now.items in
    let t1 = c.push_all.new.out.items in
    let each_layer : t1 ≡ t0 ++ each (length layers) (λ i. text_of (layer_lines leaf i (slice_get layers i))) =
    subst (λ (ls : List Layer). t1 ≡ t0 ++ each (length ls) (λ i. text_of (layer_lines leaf i (slice_get ls i)))) c.as_slice-layers.ensures c.in_ok-push_all.ensures in
    each_layer ∙ ap (λ (t : List ℕ). t0 ++ t) (blocks (λ i. layer_lines leaf i (slice_get layers i)) (below (length layers)))
