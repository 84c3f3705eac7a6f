use Rattle.std.proofs.Common.{refl}
use Rattle.std.specs.Prelude.{remove}
use Rattle.cert_tree.proofs.Stacks.{first_and_rest, entered_when, room_for}
use Rattle.cert_tree.proofs.stack.Stack.enter_case.Goals as goal

pub append-requires : goal.append-requires
append-requires c =
    let cases = first_and_rest c.args.frame.cases.items c.remove-own.result c.requires.some_case in
    let cases' = rw (← c.remove-own.ensures.value) at cases in
    rw c.cut.ensures (room_for c.args.self.now.trail c.args.self.now.frames.items c.args.frame c.remove-own.result (remove c.args.frame.cases.items 0) cases' c.requires.fit)

pub returns : goal.returns
returns c =
    let cases = first_and_rest c.args.frame.cases.items c.remove-own.result c.requires.some_case in
    let cases' = rw (← c.remove-own.ensures.value) at cases in
    entered_when c.args.self.now.trail c.args.self.now.frames.items c.args.frame _ c.remove-own.result (remove c.args.frame.cases.items 0) _ c.append.result cases' c.requires.within c.requires.nested (rw (← c.cut.ensures) c.append.ensures.appended) c.in_ok-push.ensures.items refl c.remove-own.ensures.items
