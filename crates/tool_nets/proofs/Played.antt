-- Meetings line by line.
use Rattle.std.proofs.Common.{◌≡◌, ℕ, ◌+◌, List, ◌∷◌, Result, Ok, Err, refl, sym, ap, subst, ◌∙◌}
use Rattle.pop_leaf.specs.NetModel.{NetModel, CrowdModel}
use Rattle.pop_leaf.specs.Reaction.{after_meeting}
use Rattle.pop_crowd.specs.declared.crowd.Meeting.{Meeting}
use Rattle.pop_crowd.specs.Replay.{replay}
use Rattle.pop_words.specs.Meetings.{meeting_of}
use Rattle.tool_texts.specs.declared.refusal.Refusal.{Refusal}
use Rattle.tool_texts.specs.Steps.{◌>>=◌}
use Rattle.tool_nets.specs.declared.play.TheConstants.{MEETINGS_LINE}
use Rattle.tool_nets.specs.Play.{between, paired, meetings_in, on_from}

-- what the loop over the lines keeps
pub record Playing (same : Type 0) (valid : Type 0) (agents n number left lines : ℕ) : Type 0 where
  pub so_far : same
  pub words : valid
  pub crowd : n ≡ agents
  pub counted_lines : number + left ≡ MEETINGS_LINE + lines

nested : (net : NetModel) (crowd : CrowdModel) (pair : ℕ × ℕ) (r : Result (List Meeting) Refusal)
    → ((r >>= λ more. Ok (between pair ∷ more)) >>= λ meetings. Ok (replay net meetings crowd)) ≡ (r >>= λ meetings. Ok (replay net meetings (after_meeting net pair.0 pair.1 crowd)))
nested net crowd pair (Ok meetings) = refl
nested net crowd pair (Err r) = refl

module _ (net : NetModel) (agents number : ℕ) (crowd : CrowdModel) (line : List ℕ) (lines : List (List ℕ)) where
  pub goes_on : (pair : ℕ × ℕ) → paired number (meeting_of agents line) ≡ Ok pair → on_from net agents number crowd (line ∷ lines) ≡ on_from net agents (number + 1) (after_meeting net pair.0 pair.1 crowd) lines
  goes_on pair is = rw is (nested net crowd pair (meetings_in agents (number + 1) lines))

-- one more line is played
pub one_line : (net : NetModel) (agents n number : ℕ) (before after : CrowdModel) (line : List ℕ) (rest more : List (List ℕ)) (end : Result CrowdModel Refusal) (a b : ℕ)
    → agents ≡ n → rest ≡ line ∷ more → paired number (meeting_of agents line) ≡ Ok (a, b) → after ≡ after_meeting net a b before → on_from net n number before rest ≡ end
    → on_from net n (number + 1) after more ≡ end
one_line net agents n number before after line rest more end a b same is pair met so_far =
    let here : paired number (meeting_of n line) ≡ Ok (a, b) = subst (λ (k : ℕ). paired number (meeting_of k line) ≡ Ok (a, b)) same pair in
    ap (λ (crowd : CrowdModel). on_from net n (number + 1) crowd more) met ∙ sym (goes_on net n number before line more (a, b) here) ∙ sym (ap (on_from net n number before) is) ∙ so_far
