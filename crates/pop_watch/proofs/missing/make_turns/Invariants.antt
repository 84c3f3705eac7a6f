use Rattle.pop_watch.specs.Playing.{HasPlayedOn}
use Rattle.pop_watch.proofs.missing.make_turns.Given as goal

abbrev pub invariant-turns : goal.invariant-turns
invariant-turns l = HasPlayedOn l.net l.worker l.turn l.initial.played l.played
