use Rattle.std.proofs.Common.{◌≡◌, ◌≤◌, ◌-◌, length, drop}
use Rattle.pres_ast.specs.declared.limits.TheConstants.{WEIGHT_LIMIT}
use Rattle.pres_read.specs.declared.depth.TheConstants.{PARENTHESIS_LIMIT}
use Rattle.pres_tokens.specs.Tokens.{tokens_from, tokens_of}
use Rattle.pres_read.specs.Reading.{run}
use Rattle.pres_read.specs.Sound.{IsSoundProgress}
use Rattle.pres_read.specs.Views.{progress_of, depth_of}
use Rattle.pres_read.proofs.read.Reader.read_tokens.Given as goal

abbrev pub invariant-loop-token : goal.invariant-loop-token
invariant-loop-token l = record {
  within : l.at ≤ length l.text;
  sound : IsSoundProgress (length l.names) (progress_of l.self.parser) l.self.depth.charge;
  charge : l.self.depth.charge ≤ WEIGHT_LIMIT;
  parentheses : l.self.depth.parentheses ≤ PARENTHESIS_LIMIT;
  rest : run l.names (length l.text) (progress_of l.self.parser) (depth_of l.self.depth) (tokens_from 0 l.at (drop l.at l.text))
      ≡ run l.names (length l.text) (progress_of l.fn.self.parser) (depth_of l.fn.self.depth) (tokens_of l.text);
}

abbrev pub decreases-loop-token : goal.decreases-loop-token
decreases-loop-token l = length l.text - l.at
