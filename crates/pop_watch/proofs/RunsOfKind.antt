-- Runs of either kind, while they are made.
use Rattle.std.proofs.Common.{◌≡◌, ◌⊎◌, inl, ℕ, ◌+◌, ◌-◌, ◌<◌, ◌≤◌, min, Bool, true, false, List, [], ◌∷◌, ◌++◌, length, refl, sym, ap, subst, ◌∙◌}
use Rattle.std.specs.Prelude.{◌↔◌}
use Rattle.pop_leaf.specs.NetModel.{NetModel, CrowdModel}
use Rattle.pop_leaf.specs.Step.{Step}
use Rattle.pop_leaf.specs.Terminal.{IsTerminal}
use Rattle.pop_net.specs.Lanes.{crowd_of, AreValid}
use Rattle.pop_net.specs.declared.net.Word.{Word}
use Rattle.pop_crowd.specs.declared.crowd.Meeting.{Meeting}
use Rattle.run_spec.specs.declared.kind.RunKind.{RunKind}
use Rattle.run_spec.specs.declared.kind.RunKind.TheVariants.{Whole, Watched}
use Rattle.run_spec.specs.declared.spec.RunSpec.{RunSpec}
use Rattle.run_picks.specs.declared.alone.End.{End}
use Rattle.pair_workers.specs.declared.round_end.RoundEnd.{RoundEnd}
use Rattle.run_picks.specs.Run.{made_by}
use Rattle.run_picks.specs.Turns.{ArePlayed}
use Rattle.run_picks.specs.Ends.{RunGoesOn, IsEndOf}
use Rattle.run_picks.specs.SameLanes.{HaveSameLanes}
use Rattle.run_picks.proofs.ManyRounds.{AreOnTheRun, all_more_rounds}
use Rattle.run_picks.proofs.RunEnds.{goes_at, ends_at, over_by, run_ended}
use Rattle.run_picks.specs.TakenRun.{Step as Taking, TakesAll}
use Rattle.pop_watch.specs.Playing.{AreAllMade}
use Rattle.pop_watch.specs.RunsOfKind.{IsRoundOf, IsRunOfKindUntil}
use Rattle.pop_watch.proofs.WatchedRounds.{IsOnTheWay, one_round_more, run_over, ends_by}

-- the rounds so far of a run of this kind
abbrev pub IsOnTheWayOf : RunKind → NetModel → NetModel → CrowdModel → RunSpec → List (List Meeting) → CrowdModel → List (List ℕ) → ℕ → Type 0
IsOnTheWayOf Whole rest net start spec rounds crowd pickers left = AreOnTheRun rest net start spec rounds crowd pickers left
IsOnTheWayOf Watched rest net start spec rounds crowd pickers left = IsOnTheWay rest net start spec rounds crowd pickers left

pub begun_of : (kind : RunKind) (rest net : NetModel) (start : CrowdModel) (spec : RunSpec) (pickers : List (List ℕ)) → AreOnTheRun rest net start spec [] start pickers spec.turns → IsOnTheWayOf kind rest net start spec [] start pickers spec.turns
begun_of Whole rest net start spec pickers on = on
begun_of Watched rest net start spec pickers on = inl on

-- one more round
module _ (rest net : NetModel) (start : CrowdModel) (spec : RunSpec) (rounds : List (List Meeting)) (last : List Word) (pickers : List (List ℕ)) (left turns : ℕ) (least : turns ≡ min 4096 left) (p : RoundEnd) where
  pub round_more_of : (kind : RunKind) → IsOnTheWayOf kind rest net start spec rounds (crowd_of net last) pickers left → 1 ≤ left → (IsTerminal (Step rest) (crowd_of net last) → ⊥) → IsRoundOf kind rest net last spec.workers turns pickers p
      → IsOnTheWayOf kind rest net start spec (rounds ++ p.meetings.items ∷ []) (crowd_of net p.crowd) p.pickers.items (left - turns)
  round_more_of Whole on some goes is =
      let played = subst (λ (n : ℕ). ArePlayed net (crowd_of net last) spec.workers n pickers p.pickers.items p.meetings.items (crowd_of net p.crowd)) least is.played in
      subst (λ (n : ℕ). AreOnTheRun rest net start spec (rounds ++ p.meetings.items ∷ []) (crowd_of net p.crowd) p.pickers.items n) (ap (λ n. left - n) (sym least))
      (all_more_rounds net start spec rounds (crowd_of net last) pickers left on (crowd_of net p.crowd) p.pickers.items p.meetings.items played some goes)
  round_more_of Watched on some goes is =
      let few : (w : ℕ) → w < spec.workers → made_by w p.meetings.items ≤ min 4096 left = (λ w l. subst (λ (n : ℕ). made_by w p.meetings.items ≤ n) least (is.part.few w l)) in
      let ends : AreAllMade spec.workers (min 4096 left) p.meetings.items ⊎ IsTerminal (Step rest) (crowd_of net p.crowd) =
      subst (λ (n : ℕ). AreAllMade spec.workers n p.meetings.items ⊎ IsTerminal (Step rest) (crowd_of net p.crowd)) least is.ends in
      subst (λ (n : ℕ). IsOnTheWay rest net start spec (rounds ++ p.meetings.items ∷ []) (crowd_of net p.crowd) p.pickers.items n) (ap (λ n. left - n) (sym least))
      (one_round_more rest net start spec rounds (crowd_of net last) pickers left (crowd_of net p.crowd) p.pickers.items p.meetings.items is.part.played on some goes few ends)

-- what a round of either kind leaves
pub record KeepsSizes (net : NetModel) (last : List Word) (workers : ℕ) (p : RoundEnd) : Type 0 where
  pub valid : AreValid net p.crowd
  pub agents : length p.crowd ≡ length last
  pub pickers : length p.pickers.items ≡ workers

pub sizes_of : (kind : RunKind) (rest net : NetModel) (last : List Word) (workers turns : ℕ) (pickers : List (List ℕ)) (p : RoundEnd) → length pickers ≡ workers → IsRoundOf kind rest net last workers turns pickers p → KeepsSizes net last workers p
sizes_of Whole rest net last workers turns pickers p long is = record { valid = is.valid; agents = is.agents; pickers = is.pickers ∙ long }
sizes_of Watched rest net last workers turns pickers p long is = record { valid = is.part.valid; agents = is.part.agents; pickers = is.part.pickers }

-- rounds after which no further one is made are a run
module _ (rest net : NetModel) (first last : List Word) (spec : RunSpec) (rounds : List (List Meeting)) (pickers : List (List ℕ)) (left : ℕ) (more : Bool) (end : End) where
  pub run_ended_of : (kind : RunKind) → IsOnTheWayOf kind rest net (crowd_of net first) spec rounds (crowd_of net last) pickers left → AreValid net last → length last ≡ length first → more ≡ false → HaveSameLanes rest net
      → (more ≡ true) ↔ RunGoesOn rest (crowd_of rest last) left → IsEndOf rest (crowd_of rest last) end → IsRunOfKindUntil kind rest net first spec (record { rounds = rounds; crowd = last; end = end })
  run_ended_of Whole on valid agents none lanes goes is = run_ended rest net first last spec rounds rounds pickers left more end on valid agents none lanes goes is refl
  run_ended_of Watched on valid agents none lanes goes is =
      let going = goes_at rest net last left more lanes goes in
      let ended = ends_at rest net last end lanes is in
      let run = run_over rest net (crowd_of net first) spec rounds (crowd_of net last) pickers left on (over_by rest (crowd_of net last) left more none going end ended) in
      record { run = run; ends = ends_by rest (crowd_of net last) spec rounds end ended run.over; valid = valid; agents = agents }

-- some rounds of a run of this kind were made and taken
pub record Made {S : Type 0} (kind : RunKind) (takes : Taking S) (rest net : NetModel) (start : CrowdModel) (spec : RunSpec) (before after : S) (crowd : CrowdModel) (pickers : List (List ℕ)) (left number : ℕ) : Type 0 where
  pub rounds : List (List Meeting)
  pub run : IsOnTheWayOf kind rest net start spec rounds crowd pickers left
  pub taken : TakesAll takes before 1 rounds after
  pub next : number ≡ length rounds + 1
