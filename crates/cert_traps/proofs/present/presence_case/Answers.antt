use Rattle.std.proofs.Common.{◌≡◌, ◌<◌, ◌∙◌, false, get_or, length, ap, arith}
use Rattle.std.specs.Prelude.{not, ◌&&◌, ◌==◌}
use Rattle.cert_traps.proofs.Lists.{unmet_more, unmet_all, read_is}
use Rattle.cert_traps.proofs.present.presence_case.Goals as goal

pub loop-q-preserved : goal.loop-q-preserved
loop-q-preserved c =
    unmet_more c.args.leaf.now c.args.state c.loop-q.q c.variable_of_state.result c.meets_other-meets.result c.in_ok-partners.partners.items c.loop-q.facts.items c.push_zero.new.facts.items c.in_ok-partners.ensures (omega (arith, c.state_count-q-end.ensures.count)) c.variable_of_state.ensures.value
    (c.meets_other-meets.ensures ∙ ap (λ table. not (c.loop-q.q == c.args.state) && get_or table c.loop-q.q false) c.as_slice.ensures.value)
    c.loop-q.invariant c.in_ok-push_zero.ensures

pub returns : goal.returns
returns c =
    let all : c.loop-q.q ≡ length c.args.leaf.now.states = omega (arith, c.state_count-q-end.ensures.count) in
    let within : c.args.state < length c.in_ok-partners.partners.items = omega (arith, c.in_ok-partners.ensures.long, c.requires) in
    c.from_vec.ensures
    ∙ unmet_all c.args.leaf.now c.args.state c.loop-q.q c.index.result.now c.in_ok-partners.partners.items c.loop-q.facts.items c.push_alone.new.facts.items c.in_ok-partners.ensures c.requires all
    (read_is c.in_ok-partners.partners.items c.from.result c.args.state c.index.result.now c.index.ensures c.from.ensures within)
    c.loop-q.invariant c.in_ok-push_alone.ensures

pub index-requires : goal.index-requires
index-requires c = omega (arith, c.from.ensures, c.in_ok-partners.ensures.long, c.requires)

pub meets_other-meets-requires : goal.meets_other-meets-requires
meets_other-meets-requires c =
    omega (arith, ap length c.as_slice.ensures.value, c.in_ok-partners.ensures.long, c.state_count-q-end.ensures.count, c.loop-q-test.true)
