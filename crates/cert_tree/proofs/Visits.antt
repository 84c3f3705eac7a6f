-- One step of the walk: the next node is passed.
use Rattle.std.proofs.Common.{◌≡◌, ◌+◌, ◌<◌, true, List, ◌∷◌, ◌++◌, ap, sym, subst, ◌∙◌, append_assoc, arith}
use Rattle.std.specs.Prelude.{Some, None, if◌then◌else◌, Result, Ok, Err, OnOk, IfErr}
use Rattle.pop_leaf.specs.LeafModel.{LeafModel}
use Rattle.cert_base.specs.declared.node.Node.{Node}
use Rattle.pop_io.specs.declared.failure.Failure.{Failure}
use Rattle.cert_tree.specs.declared.fault.TreeWhy.{TreeWhy}
use Rattle.cert_tree.specs.declared.fault.TreeWhy.TheVariants.{TooManyFacts}
use Rattle.cert_tree.specs.declared.walk.Walk.{Walk}
use Rattle.cert_tree.specs.Refusals.{Waiting, dead_at, cases_at, cases_under, entries, facts_before, all_fit, first_from}
use Rattle.cert_tree.specs.Rooms.{waiting_in, depth_in, HasPassed}
use Rattle.cert_tree.specs.Halts.{HaltsBy}
use Rattle.cert_tree.specs.Walks.{waiting_outside, waiting, StandsAt, HasEntered, IsRefusedBefore}
use Rattle.cert_tree.specs.Halts.{GoesOn, HaltsAt}
use Rattle.cert_tree.proofs.Passing.{unrefused}
use Rattle.cert_tree.proofs.ClosedWalk.{passed_on}
use Rattle.cert_tree.proofs.Passages.{passed_waits}
use Rattle.cert_tree.proofs.Refused.{refused_at, refused_before}

-- the walk stands at a case, and its room has passed the node
module _ (leaf dead : LeafModel) (before : List Waiting) (node : Node) (walk mid : Walk) (at : StandsAt before walk) (passed : HasPassed leaf dead walk.room node mid.room) (outside : waiting_outside mid ≡ waiting_outside walk) where
  low : at.above < 4096
  low = omega (arith, at.depth, passed.low)

  pub deep : depth_in mid.room ≡ at.above + 1 + 1
  deep = omega (arith, at.depth, passed.depth)

  pub visit_goes : (more : Walk) → HasEntered leaf mid node more → GoesOn leaf dead before node (waiting more)
  visit_goes more entered number nodes =
      let facts = walk.room.stack.trail in
      let here = dead_at leaf dead walk.room.is_still in
      let cases = cases_at leaf here facts node in
      let early = cases_under (at.above + 1) true (facts_before leaf facts node) (entries leaf node) in
      let later = cases_under (at.above + 1) walk.room.is_still facts cases in
      let inside = waiting_in walk.room in
      let room = subst (λ known. all_fit (facts_before leaf known node) (entries leaf node) ≡ true) passed.trail entered.room in
      let all : waiting more ≡ early ++ waiting mid =
      entered.waits (at.above + 1) deep ∙ ap (λ known. cases_under (at.above + 1) true (facts_before leaf known node) (entries leaf node) ++ waiting mid) passed.trail in
      let mids : waiting mid ≡ (later ++ inside) ++ waiting_outside walk =
      ap (λ ws. waiting_in mid.room ++ ws) outside
      ∙ ap (λ ws. ws ++ waiting_outside walk) (passed_waits leaf dead walk.room node mid.room passed)
      ∙ ap (λ n. (cases_under n walk.room.is_still facts cases ++ inside) ++ waiting_outside walk) at.depth in
      let joined : (early ++ later) ++ waiting walk ≡ waiting more =
      append_assoc early later (waiting walk)
      ∙ ap (λ ws. early ++ ws) (sym (append_assoc later inside (waiting_outside walk)))
      ∙ ap (λ ws. early ++ ws) (sym mids)
      ∙ sym all in
      ap (λ (ws : List Waiting). first_from leaf dead ws number (node ∷ nodes)) at.first
      ∙ passed_on leaf dead at.above walk.room.is_still facts (waiting walk) (waiting more) node nodes number (unrefused leaf here at.above facts node low passed.unrefused passed.room room) joined

  pub visit_halts : (halt : Failure TreeWhy) → IsRefusedBefore leaf mid node halt → HaltsAt leaf dead before node halt
  visit_halts halt refused =
      let facts = walk.room.stack.trail in
      let here = dead_at leaf dead walk.room.is_still in
      let refused' = subst (λ known. HaltsBy (if all_fit (facts_before leaf known node) (entries leaf node) then None else Some TooManyFacts) halt) passed.trail refused in
      refused_at leaf dead at.above walk.room.is_still facts before (waiting walk) node halt at.first
      (refused_before leaf here at.above facts node low passed.unrefused passed.room halt refused')

  pub visit_ends : (more : Walk) (result : Result (Unit {0}) (Failure TreeWhy)) → OnOk result (HasEntered leaf mid node more) → OnOk result (GoesOn leaf dead before node (waiting more))
  visit_ends more (Ok u) entered = visit_goes more entered
  visit_ends more (Err halt) entered = tt

  pub visit_fails : (result : Result (Unit {0}) (Failure TreeWhy)) → IfErr result (IsRefusedBefore leaf mid node) → IfErr result (HaltsAt leaf dead before node)
  visit_fails (Ok u) refused = tt
  visit_fails (Err halt) refused = visit_halts halt refused
