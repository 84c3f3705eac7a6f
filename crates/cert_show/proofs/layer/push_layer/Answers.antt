use Rattle.std.proofs.Common.{ℕ, List, ◌∷◌, ◌++◌, codes, decimal, length, map, ap, ◌∙◌}
use Rattle.cert_show.specs.Lines.{each, spaced}
use Rattle.cert_show.specs.LeafLines.{weight_text, listed_line}
use Rattle.cert_show.proofs.Pieces.{by_place, one_line}
use Rattle.cert_show.proofs.layer.push_layer.Goals as goal

pub returns : goal.returns
returns c =
    let leaf = c.args.leaf.now in
    let layer = c.args.layer.now in
    let t1 = c.push_number_line.new.out.items in
    let t2 = c.push_line.new.out.items in
    let t3 = c.push_all.new.out.items in
    let weights : List ℕ = codes "weights" ++ each (length leaf.states) (λ q. spaced (weight_text leaf layer q)) in
    let lists : List (List ℕ) = map (listed_line leaf) layer.moves in
    one_line c.args.out.now.items t1 t3 (codes "layer " ++ decimal c.args.number) (weights ∷ lists) c.in_ok-push_number_line.ensures
    (one_line t1 t2 t3 weights lists c.in_ok-push_line.ensures
    (c.in_ok-push_all.ensures ∙ ap (λ (t : List ℕ). t2 ++ t) (by_place (listed_line leaf) layer.moves 0)))
