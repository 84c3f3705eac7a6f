use Rattle.std.proofs.Common.{refl, arith}
use Rattle.std.proofs.lemmas.Result.{err_from_is_err_and}
use Rattle.cert_tree.specs.declared.walk.Walk.{Walk}
use Rattle.cert_tree.specs.Walks.{waiting, StandsAt}
use Rattle.cert_tree.proofs.Passages.{passed_sound}
use Rattle.cert_tree.proofs.Visits.{visit_ends, visit_fails}
use Rattle.cert_tree.proofs.Refused.{refused_at}
use Rattle.cert_tree.proofs.walk.Walk.visit.Goals as goal

pub pass-requires-clause-low : goal.pass-requires-clause-low
pass-requires-clause-low c =
    let at : StandsAt (waiting c.args.self.now) c.next_case.new.self = rw c.if-not-branch.false at c.in_ok-next_case.ensures in
    at.sound.inside.low

pub pass-requires-clause-ordered : goal.pass-requires-clause-ordered
pass-requires-clause-ordered c =
    let at : StandsAt (waiting c.args.self.now) c.next_case.new.self = rw c.if-not-branch.false at c.in_ok-next_case.ensures in
    at.ordered

pub enter_before-requires-clause-sound : goal.enter_before-requires-clause-sound
enter_before-requires-clause-sound c =
    let at : StandsAt (waiting c.args.self.now) c.next_case.new.self = rw c.if-not-branch.false at c.in_ok-next_case.ensures in
    record {
      inside = passed_sound c.args.leaf.now c.args.dead.now c.next_case.new.self.room c.args.node.now c.pass.new.self c.requires.within at.ordered c.in_ok-pass.ensures.passed at.sound.inside;
      outside = at.sound.outside;
    }

pub enter_before-requires-clause-above : goal.enter_before-requires-clause-above
enter_before-requires-clause-above c = let deep = c.in_ok-pass.ensures.passed.depth in omega (arith, deep)

pub enter_before-requires-clause-low : goal.enter_before-requires-clause-low
enter_before-requires-clause-low c =
    let deep = c.in_ok-pass.ensures.passed.depth in
    let low = c.in_ok-pass.ensures.passed.low in
    omega (arith, deep, low)

pub enter_before-requires-clause-ordered : goal.enter_before-requires-clause-ordered
enter_before-requires-clause-ordered c =
    let at : StandsAt (waiting c.args.self.now) c.next_case.new.self = rw c.if-not-branch.false at c.in_ok-next_case.ensures in
    rw c.in_ok-pass.ensures.passed.trail at.ordered

pub returns-clause-goes_on : goal.returns-clause-goes_on
returns-clause-goes_on c =
    let at : StandsAt (waiting c.args.self.now) c.next_case.new.self = rw c.if-not-branch.false at c.in_ok-next_case.ensures in
    let mid : Walk = record { room = c.pass.new.self; outside = c.next_case.new.self.outside } in
    visit_ends c.args.leaf.now c.args.dead.now (waiting c.args.self.now) c.args.node.now c.next_case.new.self mid at c.in_ok-pass.ensures.passed refl c.enter_before.new.self c.enter_before.result c.enter_before.ensures.entered

pub returns-clause-halts : goal.returns-clause-halts
returns-clause-halts c =
    let at : StandsAt (waiting c.args.self.now) c.next_case.new.self = rw c.if-not-branch.false at c.in_ok-next_case.ensures in
    let mid : Walk = record { room = c.pass.new.self; outside = c.next_case.new.self.outside } in
    visit_fails c.args.leaf.now c.args.dead.now (waiting c.args.self.now) c.args.node.now c.next_case.new.self mid at c.in_ok-pass.ensures.passed refl c.enter_before.result c.enter_before.ensures.halts

pub returns-in_err-pass-clause-halts : goal.returns-in_err-pass-clause-halts
returns-in_err-pass-clause-halts c =
    let at : StandsAt (waiting c.args.self.now) c.next_case.new.self = rw c.if-not-branch.false at c.in_ok-next_case.ensures in
    let room = c.next_case.new.self.room in
    let halted = refused_at c.args.leaf.now c.args.dead.now at.above room.is_still room.stack.trail (waiting c.args.self.now) (waiting c.next_case.new.self) c.args.node.now c.in_err-pass.field-0.0 at.first (c.in_err-pass.ensures.halts at.above at.depth) in
    let p = err_from_is_err_and c.from_residual-in_err-pass.result c.from_residual-in_err-pass.ensures.1 in
    rw (p.1, p.2) halted
