-- The history of a field: its meetings in the order of their tickets. A meeting's ticket is its place.
use Rattle.std.specs.Prelude.{ℕ, ◌+◌, ◌<◌, Bool, true, false, ◌==◌, List, [], ◌∷◌, length, All, slice_set, Option, Some}
use Rattle.std.specs.Prelude.{None}
use Rattle.pop_net.specs.declared.net.Word.{Word}
use Rattle.pop_leaf.specs.NetModel.{NetModel}
use Rattle.pop_net.specs.Lanes.{crowd_of}
use Rattle.pop_crowd.specs.declared.crowd.Meeting.{Meeting}
use Rattle.pop_crowd.specs.Replay.{AreMeetings, AreMarked}
use Rattle.agent_field.specs.declared.view.Logged.{Logged}

-- from these words on, each meeting is of two different agents, by a number below so many, and correctly says whether
-- it changed a tuple
pub record IsHistory (net : NetModel) (seats : ℕ) (opening : List Word) (history : List Meeting) : Type 0 where
  pub meetings : AreMeetings (length opening) history
  pub marked : AreMarked net history (crowd_of net opening)
  pub numbers : All (λ m. m.worker < seats) history

abbrev pub logged : ℕ → ℕ → ℕ → Bool → Logged
logged ticket a b changed = record { ticket = ticket; a = a; b = b; changed = changed }

abbrev pub made : ℕ → ℕ → ℕ → Bool → Meeting
made number a b changed = record { worker = number; a = a; b = b; changed = changed }

abbrev pub listed_if : Bool → Logged → List Logged → List Logged
listed_if true e es = e ∷ es
listed_if false e es = es

-- the meetings of one number, if the first of the list has this ticket
abbrev pub calls_from : ℕ → ℕ → List Meeting → List Logged
calls_from number ticket [] = []
calls_from number ticket (m ∷ meetings) =
    listed_if (m.worker == number) (logged ticket m.a m.b m.changed) (calls_from number (ticket + 1) meetings)

-- the log of one number: its meetings, with their tickets
abbrev pub calls : ℕ → List Meeting → List Logged
calls number history = calls_from number 0 history

-- one number's log is put at its tickets
abbrev pub placed : ℕ → List Meeting → List Logged → List Meeting
placed number meetings [] = meetings
placed number meetings (e ∷ log) = placed number (slice_set meetings e.ticket (made number e.a e.b e.changed)) log

abbrev pub placed_some : ℕ → List Meeting → Option (List Logged) → List Meeting
placed_some number meetings None = meetings
placed_some number meetings (Some log) = placed number meetings log

-- the same for the logs of many numbers, from this one on
abbrev pub placed_logs : ℕ × List Meeting → List (Option (List Logged)) → List Meeting
placed_logs start [] = start.1
placed_logs start (log ∷ logs) = placed_logs (start.0 + 1, placed_some start.0 start.1 log) logs
