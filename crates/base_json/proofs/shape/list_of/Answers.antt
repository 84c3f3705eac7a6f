use Rattle.std.proofs.Common.{arith, inl, inr, ◌<◌, ◌⊎◌, length}
use Rattle.base_json.specs.declared.fault.Why.TheVariants.{Range}
use Rattle.base_json.proofs.FaultLemmas.{Fails-said}
use Rattle.base_json.proofs.Lists.{list_at-ok, list_at-out}
use Rattle.base_json.proofs.shape.list_of.Goals as goal
use Rattle.base_json.proofs.shape.list_of.Goals.{then-len-least-via-then-len-least, then-len-least-via-else-len-least+then-most-len}

pub returns-then-len-least-clause-list : goal.returns-then-len-least-clause-list
returns-then-len-least-clause-list c =
    let vs = c.in-Some.list.now.items in
    let out : (length vs < c.args.least) ⊎ (c.args.most < length vs) = elim c.then-len-least.branch [ then-len-least-via-then-len-least w ↦ inl (omega arith) | then-len-least-via-else-len-least+then-most-len w ↦ inr (omega arith) ] in
    Fails-said _ _ Range _ c.broken-then-len-least.ensures (list_at-out _ _ _ _ vs c.in-Some.ensures out)

pub returns-clause-list : goal.returns-clause-list
returns-clause-list c = list_at-ok _ _ _ _ _ c.in-Some.ensures (omega arith) (omega arith)
