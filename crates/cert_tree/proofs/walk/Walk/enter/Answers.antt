use Rattle.std.proofs.Common.{◌≡◌, ◌+◌, ◌-◌, ◌≤◌, true, false, length, ap, sym, subst, ◌∙◌, arith}
use Rattle.std.specs.Prelude.{nat_eq}
use Rattle.cert_base.specs.FactsAndCases.{before_entry}
use Rattle.cert_tree.specs.Refusals.{all_fit}
use Rattle.cert_tree.specs.Rooms.{depth_in, Opens}
use Rattle.cert_tree.proofs.Entries.{room_within, opened_sound, has_entered}
use Rattle.cert_tree.proofs.walk.Walk.enter.Goals as goal

pub new-requires : goal.new-requires
new-requires c =
    let fit : all_fit c.as_slice-3.result.now c.as_slice-4.result.now ≡ true = sym c.has_room.ensures ∙ c.if-not-has_room.false in
    let some : nat_eq (length c.as_slice-4.result.now) 0 ≡ false = ap (λ cases. nat_eq (length cases) 0) (c.as_slice-4.ensures ∙ sym c.as_slice.ensures) ∙ sym c.is_empty.ensures ∙ c.if-is_empty.false in
    let few = room_within c.as_slice-3.result.now c.as_slice-4.result.now fit some in
    let same : length c.as_slice-3.result.now ≡ length c.in_ok-facts.facts = ap length c.as_slice-3.ensures in
    omega (arith, few, same)

pub go_into-requires-clause-inside : goal.go_into-requires-clause-inside
go_into-requires-clause-inside c =
    let leaf = c.args.leaf.now in
    let set = c.args.set.now in
    let known = c.args.self.now.room.stack.trail in
    let facts_are : c.in_ok-facts.facts ≡ before_entry leaf set known = c.in_ok-facts.ensures ∙ ap (before_entry leaf set) c.as_slice-2.ensures in
    let opens = subst (λ facts. Opens (c.depth.result - 1) true facts c.in_ok-cases.cases c.in_ok-room.room) facts_are c.in_ok-room.ensures in
    let opens' = subst (λ cases. Opens (c.depth.result - 1) true (before_entry leaf set known) cases c.in_ok-room.room) c.in_ok-cases.ensures opens in
    let fit : all_fit c.as_slice-3.result.now c.as_slice-4.result.now ≡ true = sym c.has_room.ensures ∙ c.if-not-has_room.false in
    let fit' = subst (λ facts. all_fit facts c.as_slice-4.result.now ≡ true) (c.as_slice-3.ensures ∙ facts_are) fit in
    let fit'' = subst (λ cases. all_fit (before_entry leaf set known) cases ≡ true) (c.as_slice-4.ensures ∙ c.in_ok-cases.ensures) fit' in
    let low : c.depth.result - 1 ≤ 4096 = omega (arith, c.depth.ensures, c.requires.low) in
    opened_sound leaf set known c.in_ok-room.room (c.depth.result - 1) opens' fit'' low c.requires.ordered

pub returns-clause-entered : goal.returns-clause-entered
returns-clause-entered c =
    let leaf = c.args.leaf.now in
    let set = c.args.set.now in
    let known = c.args.self.now.room.stack.trail in
    let facts_are : c.in_ok-facts.facts ≡ before_entry leaf set known = c.in_ok-facts.ensures ∙ ap (before_entry leaf set) c.as_slice-2.ensures in
    let opens = subst (λ facts. Opens (c.depth.result - 1) true facts c.in_ok-cases.cases c.in_ok-room.room) facts_are c.in_ok-room.ensures in
    let opens' = subst (λ cases. Opens (c.depth.result - 1) true (before_entry leaf set known) cases c.in_ok-room.room) c.in_ok-cases.ensures opens in
    let fit : all_fit c.as_slice-3.result.now c.as_slice-4.result.now ≡ true = sym c.has_room.ensures ∙ c.if-not-has_room.false in
    let fit' = subst (λ facts. all_fit facts c.as_slice-4.result.now ≡ true) (c.as_slice-3.ensures ∙ facts_are) fit in
    let fit'' = subst (λ cases. all_fit (before_entry leaf set known) cases ≡ true) (c.as_slice-4.ensures ∙ c.in_ok-cases.ensures) fit' in
    let depth : (c.depth.result - 1) + 1 ≡ depth_in c.args.self.now.room = omega (arith, c.depth.ensures, c.requires.above) in
    has_entered leaf set c.args.self.now c.go_into.new.self c.in_ok-room.room (c.depth.result - 1) depth fit'' opens' c.in_ok-go_into.ensures.waits
