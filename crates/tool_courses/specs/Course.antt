-- Course: by what a bundle's net is run from given counts.
use Rattle.std.specs.Prelude.{ℕ, Bool, List, if◌then◌else◌}
use Rattle.pres_ast.specs.PredicateValue.{predicate_value}
use Rattle.pop_leaf.specs.NetModel.{NetModel}
use Rattle.cert_base.specs.declared.stable.StableProof.{StableProof}
use Rattle.run_text.specs.declared.last.Last.{Last}
use Rattle.run_text.specs.declared.last.Outcome.{Outcome}
use Rattle.run_text.specs.declared.last.Outcome.TheVariants.{Agreed, Known}
use Rattle.cert_json.specs.declared.stable.StableBundle.{StableBundle}
use Rattle.pop_checker.specs.Silent.{is_silent}
use Rattle.pop_settle.specs.Resting.{resting_net}
use Rattle.tool_bundles.specs.LastOf.{last_of}

pub record Course : Type 0 where
  -- agents meet by this net
  pub net : NetModel
  -- a run ends where the crowd is terminal in this one
  pub rest : NetModel
  -- the last line of a run that ends there
  pub told : Last
  -- what is known there of the agents' outputs
  pub outcome : Outcome

-- Where each leaf falls silent a run ends in a terminal crowd. Else it ends where no move of the layers is possible that
-- the counts choose.
abbrev pub rest_of : StableBundle → List ℕ → NetModel
rest_of bundle counts = if is_silent bundle.proof then bundle.net else resting_net bundle.net bundle.proof counts

-- in a terminal crowd the agents' outputs are looked at; else the value is known, which all output for ever
abbrev pub outcome_of : StableProof → Bool → Outcome
outcome_of proof value = if is_silent proof then Agreed else Known value

abbrev pub course_of : StableBundle → List ℕ → Course
course_of bundle counts =
    record {
      net = bundle.net;
      rest = rest_of bundle counts;
      told = last_of bundle.proof (predicate_value bundle.pred.tree counts);
      outcome = outcome_of bundle.proof (predicate_value bundle.pred.tree counts);
    }
