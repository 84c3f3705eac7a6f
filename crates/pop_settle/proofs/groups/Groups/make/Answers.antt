use Rattle.std.proofs.Common.{◌≡◌, length, sym, ◌∙◌}
use Rattle.std.proofs.lemmas.Bool.{both_ways}
use Rattle.pop_leaf.specs.LeafModel.{silent_move}
use Rattle.pop_settle.proofs.Grouping.{alike_groups, puts_alike, no_first, no_second, no_other, put_back, least_pair, made_groups}
use Rattle.pop_settle.proofs.groups.Groups.make.Goals.{then-is_silent-via-then-is_silent, then-is_silent-via-else-is_silent+then-is_empty}
use Rattle.pop_settle.proofs.groups.Groups.make.Goals as goal

pub returns-then-is_silent-clause-made : goal.returns-then-is_silent-clause-made
returns-then-is_silent-clause-made c =
    elim c.then-is_silent.branch [
      | then-is_silent-via-then-is_silent w ↦
          (λ states are. (are, (λ a b can. both_ways (silent_move c.args.t) can.non_silent (sym c.is_silent.ensures ∙ w.if-is_silent.true))))
      | then-is_silent-via-else-is_silent+then-is_empty w ↦
          (λ states are. (are, no_second states c.args.self.now.groups.items c.args.t are c.requires.1 (w.is_empty.ensures w.if-is_empty.true)))
    ]

pub returns-in_default-clause-made : goal.returns-in_default-clause-made
returns-in_default-clause-made c = λ states are.
    let old = c.args.self.now.groups.items in
    (alike_groups states old c.pop.new.self.groups.items are c.in_default.ensures.same c.pop.ensures.count, no_first states old c.args.t are c.requires.0 c.in_default.ensures.none)

pub returns-in_default-pop-clause-made : goal.returns-in_default-pop-clause-made
returns-in_default-pop-clause-made c = λ states are.
    let old = c.args.self.now.groups.items in
    let without = c.pop.new.self.groups.items in
    let back = c.put.new.self.groups.items in
    let size : length back ≡ length old = c.put.ensures.count ∙ c.pop-2.ensures.count ∙ c.pop.ensures.count in (
      put_back states old c.args.t c.in-Some.a without are c.requires.0 c.requires.1 c.in-Some.ensures.some c.in-Some.ensures.gone back c.pop.ensures.count size
          (puts_alike without c.pop-2.new.self.groups.items back c.args.t.p c.in-Some.a c.in_default-pop.ensures.same c.in_ok-put.ensures.put),
      no_other states old c.args.t c.in-Some.a without are c.requires.0 c.requires.1 c.in-Some.ensures.some c.in-Some.ensures.gone c.in_default-pop.ensures.none,
    )

pub returns-clause-made : goal.returns-clause-made
returns-clause-made c = λ states are.
    let old = c.args.self.now.groups.items in
    let without = c.pop.new.self.groups.items in
    let both = c.pop-2.new.self.groups.items in
    let first = c.put-2.new.self.groups.items in
    let after = c.put-3.new.self.groups.items in
    let s1 : length without ≡ length old = c.pop.ensures.count in
    let s2 : length both ≡ length old = c.pop-2.ensures.count ∙ s1 in
    let s3 : length first ≡ length old = c.put-2.ensures.count ∙ s2 in
    let s4 : length after ≡ length old = c.put-3.ensures.count ∙ s3 in
    let a = c.in-Some.a in
    let b = c.in-Some-pop.b in
    let some = c.in-Some.ensures.some in
    let gone = c.in-Some.ensures.gone in
    let second = c.in-Some-pop.ensures.some in (
      least_pair states old c.args.t a without are c.requires.0 c.requires.1 some gone b second (sym c.is_silent.ensures ∙ c.if-is_silent.false),
      made_groups states old c.args.t a without are c.requires.0 c.requires.1 some gone b second both first after s1 s2 s3 s4 c.in-Some-pop.ensures.gone c.in_ok-put-2.ensures.put c.in_ok-put-3.ensures.put,
    )
