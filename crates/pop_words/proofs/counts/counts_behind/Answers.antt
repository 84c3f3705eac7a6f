use Rattle.std.proofs.Common.{arith, refl, None, rules}
use Rattle.std.proofs.lemmas.List.{length-map}
use Rattle.std.specs.Option.{option_copied}
use Rattle.pop_words.proofs.Cuts.{shorter}
use Rattle.pop_words.proofs.Once.{goes_on, all_without}
use Rattle.pop_words.proofs.counts.counts_behind.Goals as goal

pub words-init : goal.words-init
words-init c =
    rw c.in_ok-found.ensures (refl, length-map c.args.names.now (λ _. None), omega (arith, all_without c.args.names.now))

pub words-smaller : goal.words-smaller
words-smaller c = rw c.in-Some.is (shorter 32 c.in-Some.bytes.now c.cut.result.0.now (option_copied c.cut.result.1) c.cut.ensures)

pub words-preserved : goal.words-preserved
words-preserved c =
    let before = rw c.in-Some.is at c.words.invariant in (
      goes_on c.args.names.now c.words.found.items c.enter.new.found.items c.words.at c.in-Some.bytes.now c.cut.result.0.now (option_copied c.cut.result.1) _ c.cut.ensures c.if-not-enter.ensures.word before.0,
      cc (c.enter.ensures.len, before.1),
      omega (arith, before.2, c.enter.ensures.fewer c.if-not-enter.false),
    )

pub returns-then-not-enter-clause-counts : goal.returns-then-not-enter-clause-counts
returns-then-not-enter-clause-counts c = search rules
