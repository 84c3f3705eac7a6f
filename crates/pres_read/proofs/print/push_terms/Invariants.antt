use Rattle.std.proofs.Common.{◌≡◌, ◌++◌, true, drop, string_bytes}
use Rattle.pres_read.specs.Canonical.{terms_text}
use Rattle.pres_read.proofs.print.push_terms.Given as goal

abbrev pub invariant-loop-i : goal.invariant-loop-i
invariant-loop-i l =
    string_bytes l.out ++ terms_text l.first (drop l.i l.names) (drop l.i l.coefs) ≡ string_bytes l.initial.out ++ terms_text true l.names l.coefs
