use Rattle.std.proofs.Common.{◌≡◌, ◌∙◌, ◌+◌, ◌<◌, subst, sym, ap, length, arith}
use Rattle.std.specs.Prelude.{All}
use Rattle.std.proofs.lemmas.List.FromFn.{length-map-range_with_len}
use Rattle.std.proofs.lemmas.Result.{IfOk-weaker}
use Rattle.comp_flock.specs.CountProof.{ruled_worth}
use Rattle.comp_flock.proofs.Building.{picked-as}
use Rattle.comp_flock.proofs.multipliers.ruled_out.Goals as goal

pub picked-requires : goal.picked-requires
picked-requires c =
    let f = ruled_worth c.args.worths.now.most c.args.worths.now.list.now c.args.worths.now.k c.args.p in
    let listed = c.as_slice.ensures.value ∙ c.in_ok-ruled.ensures in
    let long : length c.args.leaf.now.states ≡ length c.as_slice.result.now = (let e = ap length listed in let g = length-map-range_with_len f 0 (c.args.worths.now.k + 2) in omega (arith, e, g, c.requires.states)) in
    subst (λ xs. All (λ q. q < length c.as_slice.result.now) xs) (sym c.as_slice-2.ensures.value) (subst (λ n. All (λ q. q < n) c.in_ok-states.states.items) long c.in_ok-states.ensures.below)

pub returns : goal.returns
returns c =
    let f = ruled_worth c.args.worths.now.most c.args.worths.now.list.now c.args.worths.now.k c.args.p in
    let same = picked-as c.args.leaf.now c.args.p c.args.worths.now.k f c.as_slice.result.now c.as_slice-2.result.now c.requires.states (c.as_slice.ensures.value ∙ c.in_ok-ruled.ensures) (c.as_slice-2.ensures.value ∙ c.in_ok-states.ensures.states) in
    IfOk-weaker c.picked.result _ _ (λ out h. h ∙ same) c.picked.ensures
