use Rattle.std.proofs.Common.{◌≡◌, ◌≤◌, ◌-◌, length, drop}
use Rattle.pres_tokens.specs.Tokens.{tokens_from}
use Rattle.pres_tokens.proofs.scan.next_token.Given as goal

abbrev pub invariant-loop-start : goal.invariant-loop-start
invariant-loop-start l = record {
  later : l.at ≤ l.start;
  within : l.start ≤ length l.text;
  tokens : tokens_from 0 l.start (drop l.start l.text) ≡ tokens_from 0 l.at (drop l.at l.text);
}

abbrev pub decreases-loop-start : goal.decreases-loop-start
decreases-loop-start l = length l.text - l.start
