-- What is proved of a bundle.
use Rattle.std.proofs.Common.{◌≡◌, ℕ, Bool, true, false, cond, List, refl, ap, sym, subst, ◌∙◌}
use Rattle.std.specs.Prelude.{length, None}
use Rattle.pres_ast.specs.PredicateValue.{predicate_value}
use Rattle.pop_leaf.specs.NetModel.{NetModel}
use Rattle.cert_json.specs.declared.stable.StableBundle.{StableBundle}
use Rattle.pop_checker.specs.Silent.{is_silent}
use Rattle.pop_settle.specs.Chosen.{proof_at}
use Rattle.pop_settle.specs.Resting.{resting_net}
use Rattle.pop_settle.proofs.HushedLeaves.{states_listed, hushed_length}
use Rattle.run_text.specs.declared.last.Last.TheVariants.{Verdict, Settled}
use Rattle.run_text.specs.declared.last.Outcome.TheVariants.{Agreed, Known}
use Rattle.run_picks.specs.SameLanes.{HaveSameLanes}
use Rattle.tool_courses.specs.declared.proved.Proved.{Proved}
use Rattle.tool_courses.specs.declared.proved.Proved.TheVariants as proved
use Rattle.tool_rejections.specs.Judged.{IsJudged}
use Rattle.tool_bundles.specs.Bundles.{IsBundleWithin}
use Rattle.tool_bundles.specs.declared.start.Start.{Start}
use Rattle.tool_bundles.specs.Start.{IsStart}
use Rattle.tool_courses.specs.Course.{Course, course_of}
use Rattle.tool_courses.specs.Proved.{proved_net, proved_course, IsProvedOf}

module _ (bundle : StableBundle) (counts : List ℕ) (within : IsBundleWithin bundle) (valid : IsJudged bundle None) where
  silent_course : is_silent bundle.proof ≡ true → proved_course (proved.Silent bundle.net bundle.pred) counts ≡ course_of bundle counts
  silent_course is = rw is refl

  goal_course : is_silent bundle.proof ≡ false → proved_course (proved.Stable bundle.net (resting_net bundle.net bundle.proof counts) bundle.pred) counts ≡ course_of bundle counts
  goal_course is = rw is refl

  -- where each leaf falls silent
  pub silent_proved : is_silent bundle.proof ≡ true → IsProvedOf bundle counts (proved.Silent bundle.net bundle.pred)
  silent_proved is =
      record {
        valid = valid;
        course = silent_course is;
        formed = record { lanes = refl; variables = within.variables };
      }

  -- where some leaf has goals
  pub stable_proved : is_silent bundle.proof ≡ false → (rest : NetModel) → rest ≡ resting_net bundle.net bundle.proof counts
      → IsProvedOf bundle counts (proved.Stable bundle.net rest bundle.pred)
  stable_proved goals rest is =
      record {
        valid = valid;
        course = ap (λ (r : NetModel). proved_course (proved.Stable bundle.net r bundle.pred) counts) is ∙ goal_course goals;
        formed = record {
          lanes = subst (λ (r : NetModel). HaveSameLanes r bundle.net) (sym is) (states_listed bundle.net.leaves (proof_at counts bundle.proof).leaves);
          variables = within.variables;
        };
      }

pub net_proved : (bundle : StableBundle) (counts : List ℕ) (p : Proved) → IsProvedOf bundle counts p → proved_net p ≡ bundle.net
net_proved bundle counts p of = ap (λ (course : Course). course.net) of.course

pub proved_start : (bundle : StableBundle) (counts : List ℕ) (p : Proved) (start : Start) → IsProvedOf bundle counts p → IsStart bundle.net start → IsStart (proved_net p) start
proved_start bundle counts p start of is = subst (λ (n : NetModel). IsStart n start) (sym (net_proved bundle counts p of)) is

-- the net that decides where a run ends has as many leaves
pub same_leaves : (bundle : StableBundle) (counts : List ℕ) → length (course_of bundle counts).rest.leaves ≡ length bundle.net.leaves
same_leaves bundle counts = by_kind (is_silent bundle.proof)
  where
    by_kind : (b : Bool) → length (cond b bundle.net (resting_net bundle.net bundle.proof counts)).leaves ≡ length bundle.net.leaves
    by_kind true = refl
    by_kind false = hushed_length bundle.net.leaves (proof_at counts bundle.proof).leaves
