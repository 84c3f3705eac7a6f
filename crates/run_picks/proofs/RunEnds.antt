-- Why a run ends.
use Rattle.std.proofs.Common.{◌≡◌, ◌⊎◌, inl, inr, ℕ, zero, suc, ◌*◌, ◌≤◌, Bool, true, false, List, length, sym, subst, refl, arith}
use Rattle.std.specs.Prelude.{◌↔◌}
use Rattle.pop_net.specs.declared.net.Word.{Word}
use Rattle.pop_leaf.specs.NetModel.{NetModel, CrowdModel}
use Rattle.pop_leaf.specs.Step.{Step}
use Rattle.pop_leaf.specs.Terminal.{IsTerminal}
use Rattle.pop_net.specs.Lanes.{crowd_of, AreValid}
use Rattle.pop_crowd.specs.declared.crowd.Meeting.{Meeting}
use Rattle.run_spec.specs.declared.spec.RunSpec.{RunSpec}
use Rattle.run_picks.specs.declared.alone.TheConstants.{ROUND_TURNS}
use Rattle.run_picks.specs.declared.alone.End.{End}
use Rattle.run_picks.specs.declared.alone.End.TheVariants.{Terminal, Open}
use Rattle.run_picks.specs.Run.{IsRunUntil}
use Rattle.run_picks.specs.SameLanes.{HaveSameLanes}
use Rattle.run_picks.specs.Ends.{RunGoesOn, IsEndOf, EndsBy, IsRunFrom, IsRunFromUntil}
use Rattle.run_picks.proofs.ManyRounds.{AreOnTheRun, all_run_over}
use Rattle.run_picks.proofs.SameLanes.{crowd_same}

-- what a table says of a crowd's words holds for the crowd of a net with the same lanes
module _ (rest net : NetModel) (last : List Word) where
  pub goes_at : (left : ℕ) (more : Bool) → HaveSameLanes rest net → (more ≡ true) ↔ RunGoesOn rest (crowd_of rest last) left → (more ≡ true) ↔ RunGoesOn rest (crowd_of net last) left
  goes_at left more lanes goes = subst (λ (f : List Word → CrowdModel). (more ≡ true) ↔ RunGoesOn rest (f last) left) (crowd_same rest net lanes) goes

  pub ends_at : (end : End) → HaveSameLanes rest net → IsEndOf rest (crowd_of rest last) end → IsEndOf rest (crowd_of net last) end
  ends_at end lanes is = subst (λ (f : List Word → CrowdModel). IsEndOf rest (f last) end) (crowd_same rest net lanes) is

-- if no further round is made, the crowd is terminal or no turns are left
pub over_by : (net : NetModel) (crowd : CrowdModel) (left : ℕ) (more : Bool) → more ≡ false → (more ≡ true) ↔ RunGoesOn net crowd left → (end : End) → IsEndOf net crowd end → IsTerminal (Step net) crowd ⊎ (left ≡ 0)
over_by net crowd left more none goes Terminal is = inl is
over_by net crowd zero more none goes (Open a b) is = inr refl
over_by net crowd (suc left) more none goes (Open a b) is = let on : more ≡ true = goes.1 (omega arith, is.1) in absurd cc

ends_by : (net : NetModel) (crowd : CrowdModel) (spec : RunSpec) (rounds : ℕ) (end : End) → IsEndOf net crowd end → IsTerminal (Step net) crowd ⊎ (spec.turns ≤ ROUND_TURNS * rounds) → EndsBy net crowd spec rounds end
ends_by net crowd spec rounds Terminal is over = is
ends_by net crowd spec rounds (Open a b) is (inl terminal) = absurd (is.1 terminal)
ends_by net crowd spec rounds (Open a b) is (inr spent) = (is.0, spent, is.1)

-- rounds after which no further one is made are a run; the list made of the rounds as the rounds
pub run_ended : (rest net : NetModel) (first last : List Word) (spec : RunSpec) (rounds kept : List (List Meeting)) (pickers : List (List ℕ)) (left : ℕ) (more : Bool) (end : End) → AreOnTheRun rest net (crowd_of net first) spec rounds (crowd_of net last) pickers left
    → AreValid net last → length last ≡ length first → more ≡ false → HaveSameLanes rest net → (more ≡ true) ↔ RunGoesOn rest (crowd_of rest last) left → IsEndOf rest (crowd_of rest last) end → kept ≡ rounds → IsRunFromUntil rest net first spec (record { rounds = kept; crowd = last; end = end })
run_ended rest net first last spec rounds kept pickers left more end on valid agents none lanes goes is list =
    let going = goes_at rest net last left more lanes goes in
    let ended = ends_at rest net last end lanes is in
    let run : IsRunUntil rest net (crowd_of net first) spec rounds (crowd_of net last) = all_run_over net _ spec rounds _ _ left on (over_by rest (crowd_of net last) left more none going end ended) in
    subst (λ (all : List (List Meeting)). IsRunFromUntil rest net first spec (record { rounds = all; crowd = last; end = end })) (sym list)
    (record {
      run = run;
      ends = ends_by rest (crowd_of net last) spec (length rounds) end ended run.over;
      valid = valid;
      agents = agents;
    })

-- the same for a table of the net itself
pub run_ended_at_net : (looked net : NetModel) (first last : List Word) (spec : RunSpec) (rounds kept : List (List Meeting)) (pickers : List (List ℕ)) (left : ℕ) (more : Bool) (end : End) → AreOnTheRun net net (crowd_of net first) spec rounds (crowd_of net last) pickers left
    → AreValid net last → length last ≡ length first → more ≡ false → looked ≡ net → (more ≡ true) ↔ RunGoesOn looked (crowd_of looked last) left → IsEndOf looked (crowd_of looked last) end → kept ≡ rounds → IsRunFrom net first spec (record { rounds = kept; crowd = last; end = end })
run_ended_at_net looked net first last spec rounds kept pickers left more end on valid agents none same goes is list =
    let going = subst (λ (n : NetModel). (more ≡ true) ↔ RunGoesOn n (crowd_of n last) left) same goes in
    let ended = subst (λ (n : NetModel). IsEndOf n (crowd_of n last) end) same is in
    run_ended net net first last spec rounds kept pickers left more end on valid agents none refl going ended list
