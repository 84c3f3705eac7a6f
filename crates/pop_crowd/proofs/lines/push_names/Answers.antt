use Rattle.std.proofs.Common.{◌<◌, length, ◌++◌, ap, ◌∙◌, arith}
use Rattle.std.specs.List.{join_with_byte}
use Rattle.std.proofs.lemmas.List.{take_all}
use Rattle.pop_crowd.specs.Tally.{slash, names_of}
use Rattle.pop_crowd.proofs.Names.{names_more, length-names_of}
use Rattle.pop_crowd.proofs.lines.push_names.Goals as goal

pub loop-i-preserved : goal.loop-i-preserved
loop-i-preserved c =
    let l : c.loop-i.i < length c.args.net.now.leaves = omega arith in
    c.in_ok-extend_from_slice.ensures.items
    ∙ ap (λ t. c.push_separator.new.text.items ++ t) c.as_bytes.ensures.value
    ∙ ap (λ t. t ++ c.name-name.result.now) c.in_ok-push_separator.ensures
    ∙ names_more c.args.net.now.leaves c.args.tuple.now c.loop-i.i c.leaf.result.now c.name-name.result.now c.loop-i.text.items c.args.text.now.items c.requires.whole l c.leaf.ensures c.name-name.ensures c.loop-i.invariant

pub returns : goal.returns
returns c =
    c.loop-i.invariant
    ∙ ap (λ t. c.args.text.now.items ++ join_with_byte slash t) (take_all c.loop-i.i (names_of c.args.net.now.leaves c.args.tuple.now) (omega (arith, length-names_of c.args.net.now.leaves c.args.tuple.now c.requires.whole)))
