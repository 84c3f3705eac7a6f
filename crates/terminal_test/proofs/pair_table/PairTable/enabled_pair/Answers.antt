use Rattle.std.proofs.Common.{Bool, List, subst, refl, arith, rules}
use Rattle.std.proofs.lemmas.List.{length-map}
use Rattle.pop_net.specs.Lanes.{tuple_of, crowd_of}
use Rattle.pop_crowd.proofs.Words.{crowd_tuples}
use Rattle.terminal_test.specs.Restless.{IsCalm}
use Rattle.terminal_test.specs.TableNet.{table_net}
use Rattle.terminal_test.proofs.Ends.{NoPair, terminal_without, moves_on, not_terminal}
use Rattle.terminal_test.proofs.Searches.{below_more}
use Rattle.terminal_test.proofs.RestlessStates.{calm_below}
use Rattle.terminal_test.proofs.pair_table.PairTable.enabled_pair.Goals.{then-is_restless+in_default, else-is_restless}
use Rattle.terminal_test.proofs.pair_table.PairTable.enabled_pair.Goals as goal

pub returns-in-Some-clause-none : goal.returns-in-Some-clause-none
returns-in-Some-clause-none c = (
  λ e. cc,
  λ t. absurd (not_terminal (table_net c.args.self.now) (crowd_of (table_net c.args.self.now) c.args.crowd.now) (crowd_tuples (table_net c.args.self.now) c.args.crowd.now) c.loop-a.a c.in-Some.b c.in-Some.ensures.0 t),
)

pub returns-in-Some-clause-moves : goal.returns-in-Some-clause-moves
returns-in-Some-clause-moves c =
    moves_on (table_net c.args.self.now) (crowd_of (table_net c.args.self.now) c.args.crowd.now) (crowd_tuples (table_net c.args.self.now) c.args.crowd.now) c.loop-a.a c.in-Some.b c.in-Some.ensures.0

pub loop-a-preserved : goal.loop-a-preserved
loop-a-preserved c =
    let net = table_net c.args.self.now in
    let words = c.args.crowd.now in
    let crowd = crowd_of net words in
    elim c.if-is_restless.branch [
      | then-is_restless+in_default w ↦ below_more net crowd c.loop-a.a c.loop-a.invariant w.in_default.ensures
      | else-is_restless w ↦ below_more net crowd c.loop-a.a c.loop-a.invariant
          (calm_below net words c.in_ok-restless.restless.items c.loop-a.a c.word.result c.word.ensures c.in_ok-restless.ensures
          (subst (λ (marks : List (List Bool)). IsCalm marks (tuple_of net c.word.result)) c.as_slice-in-loop-a.ensures.value (c.is_restless.ensures w.if-is_restless.false)))
    ]

pub returns-clause-none : goal.returns-clause-none
returns-clause-none c =
    let net = table_net c.args.self.now in
    let crowd = crowd_of net c.args.crowd.now in
    let none : NoPair net crowd = λ a b l m. c.loop-a.invariant a b (omega (arith, l, m, length-map c.args.crowd.now (tuple_of net))) l m in
    ((λ e. terminal_without net crowd (crowd_tuples net c.args.crowd.now) none), (λ t. refl))

pub loop-a-init : goal.loop-a-init
loop-a-init c = search rules

pub returns-in-Some-clause-least : goal.returns-in-Some-clause-least
returns-in-Some-clause-least c = search rules
