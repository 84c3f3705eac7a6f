-- Which field a seat belongs to, what it keeps, and what its calls promise.
use Rattle.std.specs.Prelude.{◌≡◌, ◌≢◌, All, ℕ, ◌<◌, ◌≤◌, Bool, List, [], length, IsSome, None, Some, Option}
use Rattle.std.specs.Prelude.{slice_index_or}
use Rattle.pop_net.specs.declared.net.Word.{Word}
use Rattle.pop_leaf.specs.NetModel.{NetModel, CrowdModel}
use Rattle.pop_net.specs.Lanes.{crowd_of, AreValid}
use Rattle.pop_crowd.specs.declared.crowd.Meeting.{Meeting}
use Rattle.pop_crowd.specs.Replay.{replay, changes}
use Rattle.agent_field.specs.declared.field.Field.{Field}
use Rattle.agent_field.specs.declared.field.FieldSeat.{FieldSeat}
use Rattle.agent_field.specs.declared.field.Met.{Met}
use Rattle.agent_field.specs.declared.close.Round.{Round}
use Rattle.agent_field.specs.declared.view.Logged.{Logged}
use Rattle.agent_field.specs.declared.view.Look.{Look}
use Rattle.agent_field.specs.History.{IsHistory, calls}
use Rattle.agent_field.specs.Standing.{In, IsLook}

-- what is fixed when a field is opened
abbrev pub net_of : Field → NetModel
net_of f = f.table.shared.key.net.value

abbrev pub opening_of : Field → List Word
opening_of f = f.table.shared.key.opening.value

abbrev pub seats_of : Field → ℕ
seats_of f = f.table.shared.key.seats

abbrev pub shards_of : Field → ℕ
shards_of f = f.table.shared.key.shards

-- the field was opened with these
pub record IsOpened (f : Field) (net : NetModel) (words : List Word) (shards seats : ℕ) : Type 0 where
  pub net_is : net_of f ≡ net
  pub opening_is : opening_of f ≡ words
  pub shards_are : shards_of f ≡ shards
  pub seats_are : seats_of f ≡ seats

-- the crowd with which it is opened
abbrev pub field_start : Field → CrowdModel
field_start f = crowd_of (net_of f) (opening_of f)

-- the seat belongs to this field
abbrev pub IsSeatOf : Field → FieldSeat → Type 0
IsSeatOf f s = (s.seat.table_id ≡ f.table.shared.table_id) × (s.seat.me.0.setup ≡ f.table.shared.key)

-- the seat still belongs to the same field
abbrev pub KeepsField : FieldSeat → FieldSeat → Type 0
KeepsField s t = (t.seat.table_id ≡ s.seat.table_id) × (t.seat.me.0.setup ≡ s.seat.me.0.setup)

abbrev pub seat_number : FieldSeat → ℕ
seat_number s = s.number

-- the field's number 0
abbrev pub IsFirstOf : Field → FieldSeat → Type 0
IsFirstOf f s = IsSeatOf f s × (seat_number s ≡ 0)

-- two different agents of the field
pub record IsPairOf (f : Field) (a b : ℕ) : Type 0 where
  pub different : a ≢ b
  pub a_in : a < length (opening_of f)
  pub b_in : b < length (opening_of f)

-- its own meetings
abbrev pub log_of : FieldSeat → List Logged
log_of s = s.log.items

abbrev pub made_of : FieldSeat → ℕ
made_of s = length s.log.items

-- how many more meetings it has room for
abbrev pub spare_of : FieldSeat → ℕ
spare_of s = s.spare

-- for number 0: the least remaining number, how many remain, and the logs that it has taken in, by number
abbrev pub next_of : FieldSeat → ℕ
next_of s = s.next

abbrev pub left_of : FieldSeat → ℕ
left_of s = s.left

abbrev pub taken_of : FieldSeat → List (Option (List Logged))
taken_of s = s.taken.items

abbrev pub looks_of : FieldSeat → List Look
looks_of s = s.looks.items

abbrev pub spare_looks_of : FieldSeat → ℕ
spare_looks_of s = length s.rooms.items

-- all but the seat's own log and the room for it stays
abbrev pub KeepsRest : FieldSeat → FieldSeat → Type 0
KeepsRest s t =
    (seat_number t ≡ seat_number s) × (next_of t ≡ next_of s) × (left_of t ≡ left_of s) × (taken_of t ≡ taken_of s)
    × (looks_of t ≡ looks_of s) × (spare_looks_of t ≡ spare_looks_of s)

-- all but the logs and the numbers stays
abbrev pub KeepsOwn : FieldSeat → FieldSeat → Type 0
KeepsOwn s t =
    (seat_number t ≡ seat_number s) × (log_of t ≡ log_of s) × (spare_of t ≡ spare_of s) × (looks_of t ≡ looks_of s)
    × (spare_looks_of t ≡ spare_looks_of s)

-- all but the looks and the room for them stays
abbrev pub KeepsLogs : FieldSeat → FieldSeat → Type 0
KeepsLogs s t =
    (seat_number t ≡ seat_number s) × (next_of t ≡ next_of s) × (left_of t ≡ left_of s) × (taken_of t ≡ taken_of s)
    × (log_of t ≡ log_of s) × (spare_of t ≡ spare_of s)

-- a seat that has made nothing and has no room
abbrev pub IsFresh : FieldSeat → Type 0
IsFresh s = (log_of s ≡ []) × (spare_of s ≡ 0) × (looks_of s ≡ []) × (spare_looks_of s ≡ 0)

-- number 0 has taken in every seat that was split from it
abbrev pub IsWhole : FieldSeat → Type 0
IsWhole s = (seat_number s ≡ 0) × ((w : ℕ) → 0 < w → w < next_of s → IsSome (slice_index_or (taken_of s) w None))

-- the ticket is greater than all in the seat's own log and those it took in, and at least that of each of its looks
pub record IsNewestOf (ticket : ℕ) (s : FieldSeat) : Type 0 where
  pub own : (e : Logged) → In e (log_of s) → e.ticket < ticket
  pub taken_in : seat_number s ≡ 0 → (w : ℕ) (l : List Logged) (e : Logged)
      → slice_index_or (taken_of s) w None ≡ Some l → In e l → e.ticket < ticket
  pub looks : (look : Look) → In look (looks_of s) → look.ticket ≤ ticket

-- a history of the field so far, with exactly this log for the number
pub record IsSoFar (f : Field) (number : ℕ) (log : List Logged) (ticket : ℕ) (history : List Meeting) : Type 0 where
  pub long : length history ≡ ticket
  pub right : IsHistory (net_of f) (seats_of f) (opening_of f) history
  pub own : log ≡ calls number history

-- at the ticket there was such a history, and `changed` says whether a meeting of a and b in the crowd after it
-- changes a tuple
abbrev pub IsMetAt : Field → ℕ → List Logged → ℕ → ℕ → ℕ → Bool → Type 0
IsMetAt f number log a b ticket changed =
    (history : List Meeting) × IsSoFar f number log ticket history
    × (changed ≡ changes (net_of f) a b (replay (net_of f) history (field_start f)))

abbrev pub IsMoment : Field → FieldSeat → ℕ → ℕ → Met → Type 0
IsMoment f s a b met = IsMetAt f (seat_number s) (log_of s) a b met.ticket met.changed

-- at the ticket there was such a history, and the look shows the crowd after it
abbrev pub IsGlance : Field → FieldSeat → Look → Type 0
IsGlance f s look =
    (history : List Meeting) × IsSoFar f (seat_number s) (log_of s) look.ticket history
    × IsLook (net_of f) (opening_of f) history look

-- what closing the field gives, once this seat is whole: the words, and the history whose replay they are
pub record IsRoundOf (f : Field) (s : FieldSeat) (r : Round) : Type 0 where
  pub words : crowd_of (net_of f) r.words ≡ replay (net_of f) r.meetings (field_start f)
  pub valid : AreValid (net_of f) r.words
  -- meetings of different agents, by seats of the field, each with the right mark
  pub history : IsHistory (net_of f) (seats_of f) (opening_of f) r.meetings
  -- each number's meetings are its log, with the places as tickets; a number without a log has none
  pub own : calls 0 r.meetings ≡ log_of s
  pub taken : (w : ℕ) (l : List Logged) → slice_index_or (taken_of s) w None ≡ Some l → calls w r.meetings ≡ l
  pub others : (w : ℕ) → w ≢ 0 → slice_index_or (taken_of s) w None ≡ None → calls w r.meetings ≡ []
  -- each look shows the replay of the meetings before its ticket
  pub looks : All (IsLook (net_of f) (opening_of f) r.meetings) (looks_of s)
