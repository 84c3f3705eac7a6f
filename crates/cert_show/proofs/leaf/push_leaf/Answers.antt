use Rattle.std.proofs.Common.{◌≡◌, ℕ, List, ◌∷◌, ◌++◌, codes, decimal, map, ap, subst, ◌∙◌}
use Rattle.pres_read.specs.Canonical.{tree_text}
use Rattle.cert_base.specs.StableProof.{pred_of_part}
use Rattle.base_lines.specs.Lines.{ended}
use Rattle.cert_show.specs.Lines.{text_of}
use Rattle.cert_show.specs.LeafLines.{head_lines, answer_lines, move_line, part_lines}
use Rattle.cert_show.proofs.Pieces.{by_place, one_line, four_blocks}
use Rattle.cert_show.proofs.leaf.push_leaf.Goals as goal

pub returns : goal.returns
returns c =
    let leaf = c.args.leaf.now in
    let part = c.args.part.now in
    let names = c.args.names.now in
    let t1 = c.push_number_line.new.out.items in
    let t2 = c.push_pred_line.new.out.items in
    let t3 = c.push_head.new.out.items in
    let t4 = c.push_answers.new.out.items in
    let t5 = c.push_all.new.out.items in
    let t6 = c.push_part.new.out.items in
    let pred : List ℕ = codes "computes " ++ tree_text names (pred_of_part part).tree in
    let move_lines : List (List ℕ) = map (move_line leaf) leaf.moves in
    let rest : List (List ℕ) = head_lines names leaf ++ (answer_lines leaf ++ (move_lines ++ part_lines leaf part)) in
    let number : t1 ≡ c.args.out.now.items ++ ended (codes "leaf " ++ decimal c.args.number) =
    subst (λ (n : ℕ). t1 ≡ c.args.out.now.items ++ ended (codes "leaf " ++ decimal n)) c.from.ensures c.in_ok-push_number_line.ensures in
    let head : t3 ≡ t2 ++ text_of (head_lines names leaf) =
    subst (λ (ns : List (List ℕ)). t3 ≡ t2 ++ text_of (head_lines ns leaf)) c.as_slice.ensures c.in_ok-push_head.ensures in
    let moves = c.in_ok-push_all.ensures ∙ ap (λ (t : List ℕ). t4 ++ t) (by_place (move_line leaf) leaf.moves (record { p = 0; q = 0; r = 0; s = 0 })) in
    one_line c.args.out.now.items t1 t6 (codes "leaf " ++ decimal c.args.number) (pred ∷ rest) number
    (one_line t1 t2 t6 pred rest (rw c.pred_of.ensures at c.in_ok-push_pred_line.ensures)
    (four_blocks t2 t3 t4 t5 t6 (head_lines names leaf) (answer_lines leaf) move_lines (part_lines leaf part) head c.in_ok-push_answers.ensures moves c.in_ok-push_part.ensures))
