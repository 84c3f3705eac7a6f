use Rattle.std.proofs.Common.{refl}
use Rattle.cert_tree.specs.declared.room.Room.{Room}
use Rattle.cert_tree.specs.declared.walk.Walk.{Walk}
use Rattle.cert_tree.specs.Frames.{stacked, StandsAtFirst}
use Rattle.cert_tree.proofs.Places.{found}
use Rattle.cert_tree.proofs.walk.Walk.next_case.Goals as goal

pub returns-then-branch : goal.returns-then-branch
returns-then-branch c =
    let old = c.args.self.now.room in
    let room : Room = record { above = old.above; is_still = old.is_still; stack = c.next_case.new.self } in
    let walk : Walk = record { room = room; outside = c.args.self.now.outside } in
    let at : StandsAtFirst (stacked old.stack) c.next_case.new.self = rw c.if-branch.true at c.in_ok-next_case.ensures in
    found old walk refl refl c.requires.inside c.requires.outside at
