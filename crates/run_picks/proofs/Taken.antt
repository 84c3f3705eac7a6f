-- A run by one worker that is being made and given away.
use Rattle.std.proofs.Common.{◌≡◌, ℕ, ◌+◌, List, [], ◌∷◌, ◌++◌, length, refl, subst, arith}
use Rattle.pop_leaf.specs.NetModel.{NetModel, CrowdModel}
use Rattle.pop_crowd.specs.declared.crowd.Meeting.{Meeting}
use Rattle.run_spec.specs.declared.spec.RunSpec.{RunSpec}
use Rattle.run_picks.specs.TakenRun.{Step, TakesAll}
use Rattle.run_picks.proofs.ManyRounds.{AreOnTheRun}

-- some rounds were made and taken
pub record Making {S : Type 0} (takes : Step S) (rest net : NetModel) (start : CrowdModel) (spec : RunSpec) (before after : S) (crowd : CrowdModel) (picker : List ℕ) (left number : ℕ) : Type 0 where
  pub rounds : List (List Meeting)
  pub run : AreOnTheRun rest net start spec rounds crowd (picker ∷ []) left
  pub taken : TakesAll takes before 1 rounds after
  pub next : number ≡ length rounds + 1

-- a round more
pub takes_more : {S : Type 0} (takes : Step S) (before between after : S) (n k : ℕ) (rounds : List (List Meeting)) (round : List Meeting) → k ≡ length rounds + n → TakesAll takes before n rounds between → takes between k round after
    → TakesAll takes before n (rounds ++ round ∷ []) after
takes_more takes before between after n k [] round is so_far last = (after, subst (λ b. takes b n round after) so_far (subst (λ m. takes between m round after) (let e : k ≡ n = omega arith in e) last), refl)
takes_more takes before between after n k (first ∷ rounds) round is so_far last =
    (so_far.0, so_far.1, takes_more takes so_far.0 between after (n + 1) k rounds round (omega arith) so_far.2 last)
