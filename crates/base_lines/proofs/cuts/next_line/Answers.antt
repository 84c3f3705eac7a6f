use Rattle.std.proofs.Common.{◌≡◌, [], arith, ap, sym, ◌∙◌}
use Rattle.std.proofs.lemmas.Bool.{eqb-true, eqb-false}
use Rattle.std.proofs.lemmas.List.{nil_from_length}
use Rattle.base_lines.specs.Lines.{lines_of}
use Rattle.base_lines.proofs.Pieces.{lines-nil, lines-one, lines-more}
use Rattle.base_lines.proofs.cuts.next_line.Goals as goal

pub returns-then-is_empty : goal.returns-then-is_empty
returns-then-is_empty c =
    let none : c.args.bytes.now ≡ [] = nil_from_length c.args.bytes.now (eqb-true _ _ (sym c.if-is_empty.ensures)) in
    (none, ap lines_of none ∙ lines-nil)

pub returns-in-None : goal.returns-in-None
returns-in-None c = lines-one c.args.bytes.now c.cut.result.0.now (grind (arith, eqb-false _ _ (sym c.if-is_empty.ensures))) (rw c.in-None.is at c.cut.ensures)

pub returns-in-Some : goal.returns-in-Some
returns-in-Some c = lines-more c.args.bytes.now c.cut.result.0.now c.in-Some.rest.now (rw c.in-Some.is at c.cut.ensures).0
