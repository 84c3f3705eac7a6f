use Rattle.std.proofs.Common.{◌≡◌, take, ap, ◌∙◌, arith}
use Rattle.std.specs.Option.{unwrap_or}
use Rattle.std.proofs.lemmas.List.{length-map, length-take-le}
use Rattle.pop_net.specs.Lanes.{tuple_of, crowd_of}
use Rattle.pop_crowd.specs.Tally.{agents_with}
use Rattle.pop_crowd.proofs.Written.{had_so_far, few_agents, counted_next}
use Rattle.pop_crowd.proofs.lines.counts.Goals.{After-unwrap_or-had}
use Rattle.pop_crowd.proofs.lines.counts.Goals as goal

so_far : (c : After-unwrap_or-had) → c.unwrap_or-had.result ≡ agents_with (crowd_of c.args.net.now (take c.loop-word.word-index c.args.words.now)) c.in_ok-tuple.tuple.items
so_far c =
    had_so_far c.loop-word.counts.entries (crowd_of c.args.net.now (take c.loop-word.word-index c.args.words.now)) c.in_ok-tuple.tuple.items c.unwrap_or-had.result c.loop-word.invariant
    (c.unwrap_or-had.ensures ∙ ap (λ o. unwrap_or o 0) (c.copied.ensures ∙ c.get.ensures.value))

pub overflow_add-had : goal.overflow_add-had
overflow_add-had c =
    let words = take c.loop-word.word-index c.args.words.now in
    let crowd = crowd_of c.args.net.now words in
    omega (arith, so_far (goal.at.overflow_add-had c).After-unwrap_or-had, few_agents crowd c.in_ok-tuple.tuple.items, length-map words (tuple_of c.args.net.now), length-take-le c.loop-word.word-index c.args.words.now (omega arith))

pub loop-word-preserved : goal.loop-word-preserved
loop-word-preserved c =
    counted_next c.args.net.now c.args.words.now c.loop-word.word-index _ c.loop-word.counts.entries c.insert.new.self.entries c.in_ok-tuple.tuple c.unwrap_or-had.result c.loop-word-test.true c.loop-word.invariant c.in_ok-tuple.ensures (so_far (goal.at.loop-word-preserved c).After-unwrap_or-had) c.in_ok-insert.ensures.entries
