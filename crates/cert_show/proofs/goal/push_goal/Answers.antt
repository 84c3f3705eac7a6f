use Rattle.std.proofs.Common.{◌≡◌, ℕ, List, [], ◌++◌, length, map, ap, subst, ◌∙◌}
use Rattle.std.specs.Prelude.{slice_index_or}
use Rattle.base_lines.specs.Lines.{ended}
use Rattle.cert_show.specs.Lines.{each}
use Rattle.cert_show.specs.LeafLines.{all_layer_lines, set_line, goal_title}
use Rattle.cert_show.proofs.Pieces.{by_place, one_line, two_blocks}
use Rattle.cert_show.proofs.goal.push_goal.Goals as goal

pub returns : goal.returns
returns c =
    let leaf = c.args.leaf.now in
    let aim = c.args.goal.now in
    let t0 = c.args.out.now.items in
    let t1 = c.push_title.new.out.items in
    let t2 = c.push_layers.new.out.items in
    let t3 = c.push_all.new.out.items in
    let layers : List (List ℕ) = all_layer_lines leaf aim.layers in
    let sets : List (List ℕ) = map (set_line leaf) aim.sets in
    let title : t1 ≡ t0 ++ ended (goal_title c.args.value) =
    subst (λ (t : List ℕ). t1 ≡ t0 ++ ended t) c.goal_title.ensures c.in_ok-push_title.ensures in
    let each_set : t3 ≡ t2 ++ each (length aim.sets) (λ i. ended (set_line leaf (slice_index_or aim.sets i []))) =
    subst (λ (ss : List (List ℕ)). t3 ≡ t2 ++ each (length ss) (λ i. ended (set_line leaf (slice_index_or ss i [])))) c.as_slice-sets.ensures c.in_ok-push_all.ensures in
    one_line t0 t1 t3 (goal_title c.args.value) (layers ++ sets) title
    (two_blocks t1 t2 t3 layers sets c.in_ok-push_layers.ensures (each_set ∙ ap (λ (t : List ℕ). t2 ++ t) (by_place (set_line leaf) aim.sets [])))
