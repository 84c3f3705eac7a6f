-- A net whose proof is valid, and where its runs end.
use Rattle.std.specs.Prelude.{◌≡◌, ℕ, List, length, None}
use Rattle.pres_ast.specs.PredModel.{PredModel}
use Rattle.pres_ast.specs.PredicateValue.{predicate_value}
use Rattle.pop_leaf.specs.NetModel.{NetModel}
use Rattle.run_picks.specs.SameLanes.{HaveSameLanes}
use Rattle.run_text.specs.declared.last.Last.{Last}
use Rattle.run_text.specs.declared.last.Last.TheVariants.{Verdict, Settled}
use Rattle.run_text.specs.declared.last.Outcome.{Outcome}
use Rattle.run_text.specs.declared.last.Outcome.TheVariants.{Agreed, Known}
use Rattle.cert_json.specs.declared.stable.StableBundle.{StableBundle}
use Rattle.tool_courses.specs.declared.proved.Proved.{Proved}
use Rattle.tool_courses.specs.declared.proved.Proved.TheVariants as proved
use Rattle.tool_rejections.specs.Judged.{IsJudged}
use Rattle.tool_courses.specs.Course.{Course, course_of}

abbrev pub proved_net : Proved → NetModel
proved_net (proved.Silent net pred) = net
proved_net (proved.Stable net rest pred) = net

abbrev pub proved_rest : Proved → NetModel
proved_rest (proved.Silent net pred) = net
proved_rest (proved.Stable net rest pred) = rest

abbrev pub proved_pred : Proved → PredModel
proved_pred (proved.Silent net pred) = pred
proved_pred (proved.Stable net rest pred) = pred

abbrev pub proved_last : Proved → List ℕ → Last
proved_last (proved.Silent net pred) counts = Verdict (predicate_value pred.tree counts)
proved_last (proved.Stable net rest pred) counts = Settled (predicate_value pred.tree counts)

abbrev pub proved_outcome : Proved → List ℕ → Outcome
proved_outcome (proved.Silent net pred) counts = Agreed
proved_outcome (proved.Stable net rest pred) counts = Known (predicate_value pred.tree counts)

abbrev pub proved_course : Proved → List ℕ → Course
proved_course p counts =
    record {
      net = proved_net p;
      rest = proved_rest p;
      told = proved_last p counts;
      outcome = proved_outcome p counts;
    }

-- words mean the same in both nets, and the predicate is over the net's variables
pub record IsProved (p : Proved) : Type 0 where
  pub lanes : HaveSameLanes (proved_rest p) (proved_net p)
  pub variables : (proved_pred p).variables ≡ length (proved_net p).variables

-- the proof of the bundle is valid, and runs of its net from these counts take this course
pub record IsProvedOf (bundle : StableBundle) (counts : List ℕ) (p : Proved) : Type 0 where
  pub valid : IsJudged bundle None
  pub course : proved_course p counts ≡ course_of bundle counts
  pub formed : IsProved p
