-- A bundle's proof has one first fault, or none.
use Rattle.std.proofs.Common.{◌≡◌, Option, Some, None, refl, ap}
use Rattle.cert_json.specs.declared.stable.StableBundle.{StableBundle}
use Rattle.pop_checker.specs.declared.stable_fault.StableRejected.{StableRejected}
use Rattle.pop_checker.proofs.OneStableFault.{one_stable_rejected, none_stable_rejected}
use Rattle.tool_rejections.specs.Judged.{IsJudged}

pub one_judged : (bundle : StableBundle) (v w : Option StableRejected) → IsJudged bundle v → IsJudged bundle w → v ≡ w
one_judged bundle None None p q = refl
one_judged bundle None (Some rejected) p q = absurd (none_stable_rejected bundle.net bundle.pred bundle.proof rejected p q)
one_judged bundle (Some rejected) None p q = absurd (none_stable_rejected bundle.net bundle.pred bundle.proof rejected q p)
one_judged bundle (Some v) (Some w) p q =
    ap (λ (r : StableRejected). Some r) (one_stable_rejected bundle.net bundle.pred bundle.proof v w p q)
