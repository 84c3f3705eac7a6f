use Rattle.std.proofs.Common.{◌≡◌, ℕ, ◌+◌, ◌<◌, length, get_or, set, ap, sym, subst, ◌∙◌, Vec, Global, arith}
use Rattle.std.specs.Prelude.{Some, nat_le}
use Rattle.std.specs.List.{list_all}
use Rattle.std.proofs.lemmas.List.{length-set, get_or_default}
use Rattle.std.proofs.lemmas.Option.{slice_get-get_or}
use Rattle.pop_net.specs.Lanes.{tuple_of, crowd_of}
use Rattle.pop_net.proofs.Projection.{component, slice_get-component}
use Rattle.pop_leaf.proofs.Quiet.{nothing}
use Rattle.pop_crowd.proofs.Words.{tuple_at}
use Rattle.terminal_test.specs.Restless.{AreSeenTo}
use Rattle.terminal_test.proofs.SeenStates.{counts_stay, seen_more, all_seen}
use Rattle.terminal_test.proofs.restless.seen_states.Goals.{then-index-lt-TWICE+else-are_all_twice, else-index-lt-TWICE}
use Rattle.terminal_test.proofs.restless.seen_states.Goals as goal

pub loop-agent-preserved : goal.loop-agent-preserved
loop-agent-preserved c =
    let net = c.args.net.now in
    let crowd = crowd_of net c.args.crowd.now in
    let seen = c.loop-agent.seen.items in
    let state = c.lane-state.result in
    let is = slice_get-component c.args.leaf crowd c.loop-agent.agent (tuple_of net c.word.result) (tuple_at net c.args.crowd.now c.loop-agent.agent c.word.result c.word.ensures) ∙ ap Some (sym c.lane-state.ensures.state) in
    let here = slice_get-get_or net.leaves c.args.leaf nothing c.requires.leaf_in in
    let size = c.loop-agent.invariant.size (get_or net.leaves c.args.leaf nothing) here in
    let bound : state < length (get_or net.leaves c.args.leaf nothing).states = rw here at c.lane-state.ensures.bound in
    let within : state < length seen = omega (arith, bound, size) in
    let read : c.index.result.now ≡ get_or seen state 0 = c.index.ensures ∙ get_or_default seen state c.index.result.now 0 within in
    elim c.if-index-lt-TWICE.branch [
      | then-index-lt-TWICE+else-are_all_twice w ↦ subst (λ (v : Vec ℕ Global). AreSeenTo net c.args.leaf crowd v.items (c.loop-agent.agent + 1)) (sym w.seen-is)
          (seen_more net c.args.leaf crowd seen c.loop-agent.agent state w.index_mut.result.now is within (w.index_mut.ensures.value ∙ get_or_default seen state w.index_mut.result.now 0 within) c.loop-agent.invariant)
      | else-index-lt-TWICE w ↦ subst (λ (v : Vec ℕ Global). AreSeenTo net c.args.leaf crowd v.items (c.loop-agent.agent + 1)) (sym w.seen-is)
          record { size = c.loop-agent.invariant.size; counted = counts_stay (component c.args.leaf crowd) seen c.loop-agent.agent state is within (let two = w.if-index-lt-TWICE.false in omega (arith, two, read)) c.loop-agent.invariant.counted }
    ]

pub returns-then-are_all_twice : goal.returns-then-are_all_twice
returns-then-are_all_twice c =
    let net = c.args.net.now in
    let seen = c.loop-agent.seen.items in
    let more = set seen c.lane-state.result (c.index_mut.result.now + 1) in
    let here = slice_get-get_or net.leaves c.args.leaf nothing c.requires.leaf_in in
    all_seen net c.args.leaf (get_or net.leaves c.args.leaf nothing) c.args.crowd.now c.word.result more _ here c.requires.valid
    (λ leaf h. length-set seen c.lane-state.result (c.index_mut.result.now + 1) ∙ c.loop-agent.invariant.size leaf h)
    (sym c.if-are_all_twice.true ∙ c.are_all_twice.ensures ∙ ap (list_all (λ count. nat_le 2 count)) c.as_slice.ensures.value)
