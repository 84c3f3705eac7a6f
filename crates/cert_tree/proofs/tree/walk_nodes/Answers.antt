use Rattle.std.proofs.Common.{◌≡◌, ◌≤◌, ◌+◌, ◌∙◌, List, refl, ap, sym, drop, length, arith}
use Rattle.std.specs.Prelude.{Some, []}
use Rattle.std.proofs.lemmas.List.{drop_all}
use Rattle.std.proofs.lemmas.Result.{err_from_is_err_and}
use Rattle.cert_tree.specs.declared.fault.TreeWhy.TheVariants.{Missing}
use Rattle.cert_tree.specs.declared.fault.TreeFault.{TreeFault}
use Rattle.pop_io.specs.declared.failure.Failure.TheVariants.{Fault}
use Rattle.pop_io.specs.Failures.{Names}
use Rattle.cert_tree.specs.Refusals.{Waiting, waits, first_from, IsFaultFor}
use Rattle.cert_tree.specs.Walks.{waiting, StandsAt}
use Rattle.cert_tree.proofs.ClosedWalk.{unrefused-ClosesFor}
use Rattle.cert_tree.proofs.Verdicts.{broken_at, missing_at, none_at, only_memory, item_at}
use Rattle.cert_tree.proofs.tree.walk_nodes.Goals as goal

pub loop-number-init : goal.loop-number-init
loop-number-init c =
    record {
      sound = c.in_ok-walk.ensures.sound;
      same = ap (λ (cases : List Waiting). first_from c.args.leaf.now c.args.dead.now cases 0 c.args.nodes.now) (sym c.in_ok-walk.ensures.waits);
    }

pub returns-in-Err : goal.returns-in-Err
returns-in-Err c =
    let items = c.as_slice-node-items.ensures in
    let d = item_at c.args.nodes.now c.as_slice-node-items.result.now c.loop-number.number c.node-item.result items c.loop-number-test.true c.node-item.is in
    let fault : Names (IsFaultFor c.args.leaf.now c.args.dead.now c.args.facts c.args.nodes.now) c.at_node.result =
    rw c.at_node.ensures (broken_at c.args.leaf.now c.args.dead.now c.args.facts c.args.nodes.now (drop (c.loop-number.number + 1) c.args.nodes.now) (waiting c.loop-number.walk) c.loop-number.number c.node-item.result c.in-Err.halt c.loop-number.invariant.same d c.in-Err.ensures.halts) in
    record {
      closes = tt;
      fault = fault;
      accepts = only_memory c.args.leaf.now c.args.dead.now c.args.facts c.args.nodes.now c.at_node.result fault;
    }

pub loop-number-preserved : goal.loop-number-preserved
loop-number-preserved c =
    let items = c.as_slice-node-items.ensures in
    let d = item_at c.args.nodes.now c.as_slice-node-items.result.now c.loop-number.number c.node-item.result items c.loop-number-test.true c.node-item.is in
    record {
      sound = c.in_default.ensures.sound;
      same = c.loop-number.invariant.same ∙ ap (first_from c.args.leaf.now c.args.dead.now (waiting c.loop-number.walk) c.loop-number.number) d ∙ c.in_default.ensures.goes_on c.loop-number.number (drop (c.loop-number.number + 1) c.args.nodes.now);
    }

pub returns-then-branch : goal.returns-then-branch
returns-then-branch c =
    let at : StandsAt (waiting c.loop-number.walk) c.next_case.new.self = rw c.if-branch.true at c.in_ok-next_case.ensures in
    let past : length c.args.nodes.now ≤ c.loop-number.number = rw c.as_slice-node-items.ensures at c.loop-number-test.false in
    let walk = c.next_case.new.self in
    let missing = missing_at c.args.leaf.now c.args.dead.now c.args.facts c.args.nodes.now (waits at.above walk.room.is_still walk.room.stack.trail) (waiting c.loop-number.walk) (waiting walk) c.loop-number.number c.loop-number.invariant.same (drop_all c.loop-number.number c.args.nodes.now past) at.first in
    let end : c.loop-number.number ≡ length c.as_slice.result.now = omega (arith, past, c.loop-number.auto.number-end, ap length c.as_slice-node-items.ensures, ap length c.as_slice.ensures) in
    let named : TreeFault = record { node = length c.as_slice.result.now; why = Missing } in
    let fault : IsFaultFor c.args.leaf.now c.args.dead.now c.args.facts c.args.nodes.now named = missing ∙ ap (λ n. Some (n, Missing)) end in
    record {
      closes = tt;
      fault = fault;
      accepts = only_memory c.args.leaf.now c.args.dead.now c.args.facts c.args.nodes.now (Fault named) fault;
    }

pub returns : goal.returns
returns c =
    let none : waiting c.loop-number.walk ≡ [] = rw c.if-branch.false at c.in_ok-next_case.ensures in
    let past : length c.args.nodes.now ≤ c.loop-number.number = rw c.as_slice-node-items.ensures at c.loop-number-test.false in
    record {
      closes = unrefused-ClosesFor c.args.leaf.now c.args.dead.now c.args.facts c.args.nodes.now c.requires.fit.few (none_at c.args.leaf.now c.args.dead.now c.args.facts c.args.nodes.now (waiting c.loop-number.walk) c.loop-number.number c.loop-number.invariant.same (drop_all c.loop-number.number c.args.nodes.now past) none);
      fault = tt;
      accepts = λ closed. tt;
    }

pub returns-in_err-next_case : goal.returns-in_err-next_case
returns-in_err-next_case c =
    let p = err_from_is_err_and c.from_residual-in_err-next_case.result c.from_residual-in_err-next_case.ensures.1 in
    rw (p.1, p.2) (record { closes = tt; fault = tt; accepts = λ closed. refl })
