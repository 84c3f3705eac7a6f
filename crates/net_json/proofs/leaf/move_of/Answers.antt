use Rattle.std.proofs.Common.{arith, ap, inl, inr, ◌<◌, ◌⊎◌, length}
use Rattle.std.proofs.lemmas.Bool.Decides.{nat_tests}
use Rattle.base_json.specs.declared.fault.Why.TheVariants.{Kind}
use Rattle.base_json.proofs.FaultLemmas.{Fails-said}
use Rattle.net_json.proofs.Moves.{move_at-else}
use Rattle.net_json.specs.Examined.{move_at}
use Rattle.std.proofs.lemmas.Grind.{common_steps}
use Rattle.net_json.proofs.leaf.move_of.Goals as goal
use Rattle.net_json.proofs.leaf.move_of.Goals.{in_default-as_slice-via-then-as_slice-lt4, in_default-as_slice-via-else-as_slice-lt4+else-this-lt5}

pub returns-in_default-as_slice : goal.returns-in_default-as_slice
returns-in_default-as_slice c =
    let vs = c.in-Some.list.now.items in
    let out : (length vs < 4) ⊎ (4 < length vs) = elim c.in_default-as_slice.branch [ in_default-as_slice-via-then-as_slice-lt4 w ↦ inl (grind (arith, nat_tests, ap length c.as_slice.ensures.value)) | in_default-as_slice-via-else-as_slice-lt4+else-this-lt5 w ↦ inr (grind (arith, nat_tests, ap length c.as_slice.ensures.value)) ] in
    Fails-said _ _ Kind _ c.broken-in_default-as_slice.ensures (move_at-else _ _ _ vs c.in-Some.ensures out)

pub returns-in_err-p : goal.returns-in_err-p
unfolding move_at
returns-in_err-p c = grind (arith, common_steps)

pub returns-in_err-r : goal.returns-in_err-r
unfolding move_at
returns-in_err-r c = grind (arith, common_steps)

pub returns-in_err-s : goal.returns-in_err-s
unfolding move_at
returns-in_err-s c = grind (arith, common_steps)

pub returns : goal.returns
unfolding move_at
returns c = grind (arith, common_steps)
