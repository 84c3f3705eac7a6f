use Rattle.std.proofs.Common.{◌≡◌, ◌+◌, ◌≤◌, false, length, get_or, ap, sym, ◌∙◌, arith}
use Rattle.std.specs.Prelude.{Some}
use Rattle.std.proofs.lemmas.List.{take_all}
use Rattle.std.proofs.lemmas.Option.{slice_get_within, get_or_from_slice_get}
use Rattle.pop_leaf.specs.Hushed.{is_kept, hush_unless, hushed_moves}
use Rattle.pop_leaf.proofs.Copied.{one_copied}
use Rattle.pop_leaf.proofs.HushedMoves.{hushed_at, hushed_length}
use Rattle.pop_leaf.proofs.hushed.moves_of.Goals as goal

pub loop-t-preserved : goal.loop-t-preserved
loop-t-preserved c =
    let kept = c.args.kept.now in
    let t = c.loop-t.t in
    let taken = c.move_at.result in
    let within = slice_get_within c.args.leaf.now.moves t taken c.move_at.ensures in
    let mark : get_or c.args.marks.now t false ≡ is_kept kept t = get_or_from_slice_get c.args.marks.now t (is_kept kept t) false (c.requires.each t within) in
    let place : 0 + t ≡ t = omega arith in
    one_copied (hushed_moves kept 0 c.args.leaf.now.moves) t c.hush_if_unmarked.result c.loop-t.invariant
    (hushed_at kept 0 c.args.leaf.now.moves t taken c.move_at.ensures
    ∙ ap (λ k. Some (hush_unless (is_kept kept k) taken)) place
    ∙ ap (λ b. Some (hush_unless b taken)) (sym mark)
    ∙ ap Some (sym c.hush_if_unmarked.ensures))
    c.in_ok-push.ensures.items

pub returns : goal.returns
returns c =
    let same = hushed_length c.args.kept.now 0 c.args.leaf.now.moves in
    let all : length (hushed_moves c.args.kept.now 0 c.args.leaf.now.moves) ≤ c.loop-t.t = omega (arith, same, c.loop-t-test.false) in
    c.from_vec.ensures ∙ c.loop-t.invariant ∙ take_all c.loop-t.t (hushed_moves c.args.kept.now 0 c.args.leaf.now.moves) all
