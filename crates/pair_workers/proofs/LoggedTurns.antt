-- Turns that a seat's log tells.
use Rattle.std.proofs.Common.{◌≡◌, ℕ, suc, ◌+◌, Bool, List, [], ◌∷◌, ◌++◌, ap, sym, subst, ◌∙◌}
use Rattle.std.proofs.lemmas.List.{map-append}
use Rattle.agent_field.specs.declared.view.Logged.{Logged}
use Rattle.agent_field.specs.History.{logged}
use Rattle.run_picks.specs.Picks.{picks_from, words_from}
use Rattle.run_picks.specs.Turns.{HasPicked}
use Rattle.run_picks.proofs.Turns.{picked_more}
use Rattle.pair_workers.specs.Work.{pairs_of}

-- one more turn
pub turn_more : (n m turns : ℕ) (before now after : List ℕ) (log next : List Logged) (ticket : ℕ) (pair : ℕ × ℕ) (changed : Bool) → HasPicked n turns before now (pairs_of log)
    → next ≡ log ++ logged ticket pair.0 pair.1 changed ∷ [] → m ≡ n → ((count : ℕ) → picks_from (words_from now) m (suc count) ≡ pair ∷ picks_from (words_from after) m count)
    → HasPicked n (turns + 1) before after (pairs_of next)
turn_more n m turns before now after log next ticket pair changed h longer same picks =
    subst (HasPicked n (turns + 1) before after) (sym (ap pairs_of longer ∙ map-append (λ (e : Logged). (e.a, e.b)) log (logged ticket pair.0 pair.1 changed ∷ [])))
    (picked_more n turns before now after (pairs_of log) pair h (subst (λ (k : ℕ). (count : ℕ) → picks_from (words_from now) k (suc count) ≡ pair ∷ picks_from (words_from after) k count) same picks))
