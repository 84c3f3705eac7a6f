-- What the check says of a bundle's proof.
use Rattle.std.specs.Prelude.{Option, Some, None}
use Rattle.cert_json.specs.declared.stable.StableBundle.{StableBundle}
use Rattle.pop_checker.specs.declared.stable_fault.StableRejected.{StableRejected}
use Rattle.pop_checker.specs.ValidStable.{ValidStableProof}
use Rattle.pop_checker.specs.StableRejections.{IsStableRejected}

-- the proof is valid, or this is its first part that is not valid
abbrev pub IsJudged : StableBundle → Option StableRejected → Type 0
IsJudged bundle None = ValidStableProof bundle.net bundle.pred bundle.proof
IsJudged bundle (Some rejected) = IsStableRejected bundle.net bundle.pred bundle.proof rejected
