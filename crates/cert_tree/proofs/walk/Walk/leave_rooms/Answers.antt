use Rattle.std.proofs.Common.{refl, sym, subst, ◌∙◌}
use Rattle.cert_tree.specs.declared.room.Room.{Room}
use Rattle.cert_tree.specs.declared.walk.Walk.{Walk}
use Rattle.cert_tree.specs.Frames.{stacked, StandsAtFirst}
use Rattle.cert_tree.specs.Walks.{StandsAt}
use Rattle.cert_tree.proofs.Places.{found, next_outside, split_sound}
use Rattle.cert_tree.proofs.walk.Walk.leave_rooms.Goals as goal

pub next_case-requires-clause-fit : goal.next_case-requires-clause-fit
next_case-requires-clause-fit c =
    (split_sound c.loop-room.self.outside.items c.pop.new.self.items c.in-Some.room c.in-Some.ensures.items c.loop-room.invariant.sound).0.fit

pub returns-then-branch : goal.returns-then-branch
returns-then-branch c =
    let old = c.in-Some.room in
    let sound = split_sound c.loop-room.self.outside.items c.pop.new.self.items old c.in-Some.ensures.items c.loop-room.invariant.sound in
    let room : Room = record { above = old.above; is_still = old.is_still; stack = c.next_case.new.self } in
    let walk : Walk = record { room = room; outside = c.pop.new.self } in
    let at : StandsAtFirst (stacked old.stack) c.next_case.new.self = rw c.if-branch.true at c.in_ok-next_case.ensures in
    let before = c.loop-room.invariant.waits ∙ next_outside c.loop-room.self.outside.items c.pop.new.self.items old c.in-Some.ensures.items in
    subst (λ cases. StandsAt cases walk) (sym before) (found old walk refl refl sound.0 sound.1 at)
