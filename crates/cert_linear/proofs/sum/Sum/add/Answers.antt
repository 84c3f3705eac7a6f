use Rattle.std.proofs.Common.{refl, ap, ◌∙◌, arith, rules, get_or, w64, to_z, of_z}
use Rattle.std.specs.Prelude.{pos, ◌*ℤ◌, ◌+ℤ◌}
use mir.Val.{SFits}
use mir.Syntax.{w128}
use Rattle.std.proofs.lemmas.Int.{to_z-of_z}
use Rattle.cert_base.specs.declared.fact.Term.{Term}
use Rattle.cert_linear.proofs.Coefficients.{entered_step, entered_all, entered_size, sum_fits}
use Rattle.cert_linear.proofs.sum.Sum.add.Goals as goal
use Rattle.cert_linear.specs.declared.sum.TheConstants.{ROOM_LIMIT}

abbrev d : Term
d = record { at = 0; by = pos 0 }

pub enter-requires-clause-room : goal.enter-requires-clause-room
enter-requires-clause-room c =
    let h = c.loop-term.invariant.entered.size ROOM_LIMIT c.requires.room (get_or c.as_slice-term-items.result.now c.loop-term.term-index d).at in
    omega (arith, h)

pub loop-term-preserved : goal.loop-term-preserved
loop-term-preserved c =
    let fits : SFits w64 (get_or c.as_slice-term-items.result.now c.loop-term.term-index d).by = search rules in
    let whole = to_z-of_z w128 c.product.result (record { sfits = c.product.type_inv }) in
    let by = whole ∙ c.product.ensures.value ∙ ap (λ z. to_z w64 (of_z w64 c.args.by) *ℤ z) (to_z-of_z w64 _ fits) in
    record {
      entered = entered_step (to_z w64 (of_z w64 c.args.by)) c.as_slice-term-items.result.now c.loop-term.term-index d c.args.self.now c.loop-term.self c.enter.new.self (to_z w128 (of_z w128 c.product.result)) (rw c.as_slice-term-items.ensures c.requires.ascending) (omega arith) by (rw whole c.product.ensures.size) c.loop-term.invariant.entered c.in_ok-enter.ensures.terms c.enter.ensures.constant;
      tidy = c.in_ok-enter.ensures.tidy;
    }

pub returns-clause-plus : goal.returns-clause-plus
returns-clause-plus c =
    let entered = rw (c.as_slice-term-items.ensures, to_z-of_z w64 c.args.by c.ranges.by) at c.loop-term.invariant.entered in
    let fits = sum_fits c.loop-term.self.constant c.product-2.result (rw c.loop-term.invariant.entered.constant c.requires.room.constant) c.product-2.ensures.size in
    let constant : SFits w64 c.args.row.now.constant = search rules in
    let by = c.product-2.ensures.value ∙ rw (to_z-of_z w64 c.args.by c.ranges.by, to_z-of_z w64 c.args.row.now.constant constant) refl in
    let all = rw c.as_slice-term-items.ensures at c.loop-term-test.false in
    entered_all c.args.by c.args.row.now c.args.self.now c.loop-term.self _ c.loop-term.term-index all entered (λ q. refl) (fits ∙ ap (λ z. c.loop-term.self.constant +ℤ z) by)

pub returns-clause-size : goal.returns-clause-size
returns-clause-size c =
    let fits = sum_fits c.loop-term.self.constant c.product-2.result (rw c.loop-term.invariant.entered.constant c.requires.room.constant) c.product-2.ensures.size in
    entered_size (to_z w64 (of_z w64 c.args.by)) _ c.args.self.now c.loop-term.self _ c.product-2.result c.loop-term.invariant.entered (λ q. refl) fits c.product-2.ensures.size
