use Rattle.std.proofs.Common.{◌≡◌, ℕ, List, ◌∷◌, ◌++◌, codes, length, ap, subst, ◌∙◌}
use Rattle.std.specs.Prelude.{slice_get, slice_index_or}
use Rattle.base_lines.specs.Lines.{ended}
use Rattle.pop_leaf.specs.declared.item.Item.TheVariants.{Not}
use Rattle.pres_read.specs.Canonical.{tree_text}
use Rattle.cert_show.specs.Lines.{below, each, spaced, name_at}
use Rattle.cert_show.specs.LeafLines.{leaf_lines}
use Rattle.cert_show.specs.Shown.{item_text, all_leaf_lines}
use Rattle.cert_show.proofs.Pieces.{blocks, one_line}
use Rattle.cert_show.proofs.whole.push_shown.Goals as goal

pub returns : goal.returns
returns c =
    let net = c.args.net.now in
    let proof = c.args.proof.now in
    let tree = c.args.pred.now.tree in
    let t0 = c.args.out.now.items in
    let t1 = c.push_pred_line.new.out.items in
    let t2 = c.push_line.new.out.items in
    let t3 = c.push_line-2.new.out.items in
    let t4 = c.push_all.new.out.items in
    let variables : List ℕ = codes "variables" ++ each (length net.variables) (λ i. spaced (name_at net.variables i)) in
    let combine : List ℕ = codes "combine" ++ each (length net.combine) (λ i. spaced (item_text (slice_index_or net.combine i Not))) in
    let named = c.var_names-names.ensures.names in
    let first : t1 ≡ t0 ++ ended (codes "predicate " ++ tree_text net.variables tree) =
    subst (λ (ns : List (List ℕ)). t1 ≡ t0 ++ ended (codes "predicate " ++ tree_text ns tree)) named c.in_ok-push_pred_line.ensures in
    let second : t2 ≡ t1 ++ ended variables =
    subst (λ (ns : List (List ℕ)). t2 ≡ t1 ++ ended (codes "variables" ++ each (length ns) (λ i. spaced (name_at ns i)))) (c.as_slice-names.ensures ∙ named) c.in_ok-push_line.ensures in
    one_line t0 t1 t4 (codes "predicate " ++ tree_text net.variables tree) (variables ∷ combine ∷ all_leaf_lines net proof) first
    (one_line t1 t2 t4 variables (combine ∷ all_leaf_lines net proof) second
    (one_line t2 t3 t4 combine (all_leaf_lines net proof) c.in_ok-push_line-2.ensures
    (c.in_ok-push_all.ensures ∙ ap (λ (t : List ℕ). t3 ++ t) (blocks (λ i. leaf_lines net.variables i (slice_get net.leaves i) (slice_get proof.leaves i)) (below (length net.leaves))))))
