-- The last line of a run that has come to rest.
use Rattle.std.specs.Prelude.{Bool, if◌then◌else◌}
use Rattle.cert_base.specs.declared.stable.StableProof.{StableProof}
use Rattle.pop_checker.specs.Silent.{is_silent}
use Rattle.run_text.specs.declared.last.Last.{Last}
use Rattle.run_text.specs.declared.last.Last.TheVariants.{Verdict, Settled}

-- the predicate's value: where each leaf falls silent it is the verdict, else agents may go on changing
abbrev pub last_of : StableProof → Bool → Last
last_of proof value = if is_silent proof then Verdict value else Settled value
