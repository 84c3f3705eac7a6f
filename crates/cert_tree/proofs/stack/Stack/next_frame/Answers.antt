use Rattle.std.proofs.Common.{◌≡◌, ◌∙◌, sym, length, vec_len, rules}
use Rattle.std.proofs.lemmas.Bool.{eqb-true}
use Rattle.cert_tree.proofs.Stacks.{nested_more, popped_empty, popped_nested}
use Rattle.cert_tree.proofs.stack.Stack.next_frame.Goals as goal

pub loop-frame-preserved : goal.loop-frame-preserved
loop-frame-preserved c =
    let empty = eqb-true (vec_len c.in-Some.frame.cases) 0 (sym c.if-not-is_empty.ensures) in
    let same : length c.in-Some.frame.cases.items ≡ vec_len c.in-Some.frame.cases = search rules in
    let none = same ∙ empty in
    let nested = popped_nested _ c.loop-frame.self.frames.items c.pop.new.self.items c.in-Some.frame c.in-Some.ensures.items c.loop-frame.invariant.nested in
    record {
      trail = c.loop-frame.invariant.trail;
      waits = c.loop-frame.invariant.waits ∙ popped_empty c.loop-frame.self.trail c.loop-frame.self.frames.items c.pop.new.self.items c.in-Some.frame c.in-Some.ensures.items none;
      nested = nested_more c.in-Some.frame.len _ _ nested.0 nested.1;
    }
