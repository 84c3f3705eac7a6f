use Rattle.std.proofs.Common.{◌≡◌, length, not, sym, ap, arith}
use Rattle.std.specs.Prelude.{◌==◌}
use Rattle.std.proofs.lemmas.Bool.{eq-eqb, ne_eqb}
use Rattle.std.proofs.lemmas.Bool.Decides.{Decides-eqb}
use Rattle.pop_leaf.specs.LeafModel.{LeafModel}
use Rattle.pop_leaf.proofs.FirstFault.{found_position, none_position}
use Rattle.pop_net.proofs.rules.bad_leaf.Goals as goal

pub returns-then-input_count-inputs-clause-first : goal.returns-then-input_count-inputs-clause-first
returns-then-input_count-inputs-clause-first c =
    let n = c.args.inputs in
    let leaf = c.index-leaves-i.result in
    let count = ap (λ (l : LeafModel). length l.inputs) c.index-leaves-i.is in
    sym (found_position (λ (leaf : LeafModel). not (length leaf.inputs == n)) c.args.leaves.now c.loop-i.i leaf c.loop-i-test.true
    (λ k l. ap not (eq-eqb _ n (c.loop-i.invariant.equal k leaf l)))
    (ap not (ne_eqb _ n (λ e. omega (arith, e, count, c.input_count.ensures.count, c.if-input_count-inputs.true)))))

pub returns-clause-first : goal.returns-clause-first
returns-clause-first c =
    let n = c.args.inputs in
    sym ((none_position (λ (leaf : LeafModel). length leaf.inputs == n) (λ (leaf : LeafModel). length leaf.inputs ≡ n) (λ leaf. Decides-eqb (length leaf.inputs) n) c.args.leaves.now).1
    (λ k d l. c.loop-i.invariant.equal k d (omega arith)))
