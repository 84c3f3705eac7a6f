-- The line that is expected in place of `end`.
use Rattle.std.proofs.Common.{◌≡◌, ℕ, ◌+◌, Bool, true, false, List, ◌∷◌, ◌++◌, length, codes, take, drop, Option, Some, None, refl, sym, ap, ◌∙◌, arith}
use Rattle.std.specs.Prelude.{is_none, Err}
use Rattle.std.proofs.lemmas.Bool.{cond-false, false≢true}
use Rattle.std.proofs.lemmas.List.{take_all, drop_all}
use Rattle.base_lines.specs.Lines.{lines_of}
use Rattle.pop_leaf.specs.NetModel.{NetModel, CrowdModel}
use Rattle.pop_crowd.specs.declared.crowd.Meeting.{Meeting}
use Rattle.pop_crowd.specs.Replay.{replay}
use Rattle.run_spec.specs.declared.spec.RunSpec.{RunSpec}
use Rattle.run_picks.specs.Run.{joined}
use Rattle.run_text.specs.Journal.{meeting_line}
use Rattle.run_text.specs.Ending.{is_terminal, least_pair, common_output, ending_with, ending_until, last_is_undecided}
use Rattle.run_text.specs.declared.last.Outcome.{Outcome}
use Rattle.run_text.specs.declared.last.Outcome.TheVariants.{Agreed, Known}
use Rattle.pop_io.specs.declared.failure.Failure.{Failure}
use Rattle.run_text.specs.declared.fault.VerifyFault.{VerifyFault}
use Rattle.pop_journal.specs.Expected.{Compared, both, next_meeting, line_at_end, rounds_compared, tail_compared, whole_tail_until, first_difference}
use Rattle.pop_journal.specs.Standing.{IsForEnd, Passes, lacking_behind}
use Rattle.pop_journal.proofs.Spelled.{meeting_no_end}
use Rattle.pop_journal.proofs.AlongTheJournal.{carried}

undecided : (outcome : Outcome) (pair : Option (ℕ × ℕ)) (output : Option Bool) → last_is_undecided (ending_with outcome pair output) ≡ true → is_none pair ≡ false
undecided Agreed None None e = absurd (false≢true e)
undecided Agreed None (Some v) e = absurd (false≢true e)
undecided (Known value) None output e = absurd (false≢true e)
undecided outcome (Some p) output e = refl

module _ (rest : NetModel) (outcome : Outcome) (net : NetModel) (start : CrowdModel) (spec : RunSpec) (before : List Meeting) (k : ℕ) where
  abbrev last : CrowdModel
  last = replay net before start

  -- a worker that lacks a meeting
  pub meeting_due : (w : ℕ) (m : Meeting) → last_is_undecided (ending_until rest outcome net last) ≡ true → m ≡ next_meeting net start spec before w → IsForEnd (line_at_end rest net start spec before k (Some w)) (Some (meeting_line m))
  meeting_due w m e is =
      let expected : line_at_end rest net start spec before k (Some w) ≡ meeting_line (next_meeting net start spec before w) =
      cond-false (is_terminal rest last) (codes "end") (meeting_line (next_meeting net start spec before w)) (undecided outcome (least_pair rest last) (common_output net last) e) in
      (expected ∙ ap meeting_line (sym is), λ same. meeting_no_end (next_meeting net start spec before w) (sym same ∙ expected))

-- after the last round, `end` and the tail are left
module _ (rest : NetModel) (outcome : Outcome) (net : NetModel) (start : CrowdModel) (spec : RunSpec) (rounds : List (List Meeting)) (tail : List (List ℕ)) (k : ℕ) (shown : List (List Meeting)) (worker : Option ℕ) (kept : List (List ℕ))
    (same : shown ≡ rounds) (lacks : worker ≡ lacking_behind spec shown (length shown)) (tails : kept ≡ tail) (walked : List (List Meeting)) (walks : walked ≡ rounds) (all : k ≡ length walked) where
  abbrev before : List Meeting
  before = joined (take k rounds)

  abbrev tail_after : List (List ℕ) → List Meeting → List Compared
  tail_after kept meetings = tail_compared kept (lines_of (whole_tail_until rest outcome net (replay net meetings start)))

  abbrev told : List Compared
  told = both (codes "end") (line_at_end rest net start spec before (length shown + 1) worker) ∷ tail_after kept before

  abbrev wanted : List Compared
  wanted = rounds_compared rest net start spec before (k + 1) (lacking_behind spec rounds k) (drop k rounds) ++ tail_after tail (joined rounds)

  end_left : told ≡ wanted
  end_left =
      let whole : k ≡ length rounds = all ∙ ap length walks in
      let long : length shown ≡ k = omega (arith, whole, ap length same) in
      let number : length shown + 1 ≡ k + 1 = omega (arith, long) in
      let least : worker ≡ lacking_behind spec rounds k = lacks ∙ ap (λ (p : List (List Meeting) × ℕ). lacking_behind spec p.0 p.1) (λ i. (same i, long i)) in
      ap (λ (p : ℕ × Option ℕ × List (List ℕ)). both (codes "end") (line_at_end rest net start spec before p.0 p.1) ∷ tail_after p.2 before) (λ i. (number i, least i, tails i))
      ∙ ap (λ (rs : List (List Meeting)). both (codes "end") (line_at_end rest net start spec before (k + 1) (lacking_behind spec rounds k)) ∷ tail_after tail (joined rs)) (take_all k rounds (omega (arith, whole)))
      ∙ ap (λ (rs : List (List Meeting)). rounds_compared rest net start spec before (k + 1) (lacking_behind spec rounds k) rs ++ tail_after tail (joined rounds)) (sym (drop_all k rounds (omega (arith, whole))))

  -- what is found here is what all lines show
  module _ (first line : ℕ) (lines : List Compared) (passed : first_difference first lines ≡ first_difference line wanted) where
    pub end_passes : first_difference line told ≡ None → first_difference first lines ≡ None
    end_passes none = passed ∙ ap (first_difference line) (sym end_left) ∙ none

    pub end_differs : (A B : Type 0) (fault : Failure VerifyFault) → Passes {A = A} line told (Err fault) → Passes {A = B} first lines (Err fault)
    end_differs A B fault found = carried A B first line lines told wanted fault (λ d h. ap (first_difference line) (sym end_left) ∙ h) passed found
