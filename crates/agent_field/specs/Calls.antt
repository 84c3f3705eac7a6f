-- What the calls of a field promise.
use Rattle.std.specs.Prelude.{◌≡◌, ℕ, ◌+◌, ◌≤◌, List, [], ◌∷◌, ◌++◌, length, replicate, slice_set, slice_index_or}
use Rattle.std.specs.Prelude.{Some, None, Result, OnOk, OnErr, IfOk, IfErr}
use Rattle.pop_io.specs.declared.fault.NoMemory.{NoMemory}
use Rattle.pop_net.specs.declared.net.Word.{Word}
use Rattle.pop_leaf.specs.NetModel.{NetModel}
use Rattle.pop_net.specs.Lanes.{AreValid}
use Rattle.pop_io.specs.declared.gate.TheConstants.{SHARD_LIMIT}
use Rattle.pop_crowd.specs.declared.limits.TheConstants.{AGENT_LEAST, AGENT_LIMIT}
use Rattle.agent_field.specs.declared.limits.TheConstants.{SEAT_LIMIT}
use Rattle.agent_field.specs.declared.field.Field.{Field}
use Rattle.agent_field.specs.declared.field.FieldSeat.{FieldSeat}
use Rattle.agent_field.specs.declared.field.Met.{Met}
use Rattle.agent_field.specs.History.{logged}
use Rattle.agent_field.specs.Steps.{look_of}
use Rattle.agent_field.specs.Seats.{opening_of, seat_number, log_of, spare_of, next_of, left_of, taken_of, looks_of}
use Rattle.agent_field.specs.Seats.{spare_looks_of}
use Rattle.agent_field.specs.Seats.{IsOpened, IsSeatOf, IsFresh, IsNewestOf, IsMoment, IsGlance, KeepsField, KeepsRest}
use Rattle.agent_field.specs.Seats.{KeepsOwn, KeepsLogs}

-- a field can be opened with these
pub record CanOpen (net : NetModel) (words : List Word) (shards seats : ℕ) : Type 0 where
  pub valid : AreValid net words
  pub agents : (AGENT_LEAST ≤ length words) × (length words ≤ AGENT_LIMIT)
  pub few_shards : (1 ≤ shards) × (shards ≤ SHARD_LIMIT)
  pub few_seats : (1 ≤ seats) × (seats ≤ SEAT_LIMIT)

-- a field with these words, and its number 0, which has made nothing and taken in nobody
pub record IsOpening (f : Field) (s : FieldSeat) (net : NetModel) (words : List Word) (shards seats : ℕ) : Type 0 where
  pub field : IsOpened f net words shards seats
  pub ours : IsSeatOf f s
  pub first : (seat_number s ≡ 0) × (next_of s ≡ 1) × (left_of s + 1 ≡ seats)
  pub fresh : IsFresh s × (taken_of s ≡ replicate seats None)

-- number 0 has given its least remaining number to a new seat, or is unchanged
pub record HasSplit (f : Field) (result : Result FieldSeat NoMemory) (before after : FieldSeat) : Type 0 where
  pub ours : IsSeatOf f after
  pub theirs : IfOk result (IsSeatOf f)
  pub new : IfOk result (λ r. (seat_number r ≡ next_of before) × (left_of r ≡ 0) × IsFresh r)
  pub dealt : OnOk result ((next_of after ≡ next_of before + 1) × (left_of after + 1 ≡ left_of before))
  pub rest : KeepsOwn before after × (taken_of after ≡ taken_of before)
  pub refused : OnErr result ((next_of after ≡ next_of before) × (left_of after ≡ left_of before))

-- number 0 has taken in the other seat's log under its number, or gives the seat back and is unchanged
pub record HasJoined (f : Field) (other : FieldSeat) (result : Result (Unit {0}) (FieldSeat × NoMemory))
    (before after : FieldSeat) : Type 0 where
  pub ours : IsSeatOf f after
  pub taken : OnOk result (taken_of after ≡ slice_set (taken_of before) (seat_number other) (Some (log_of other)))
  pub there : OnOk result (slice_index_or (taken_of after) (seat_number other) None ≡ Some (log_of other))
  pub rest : KeepsOwn before after × (next_of after ≡ next_of before) × (left_of after ≡ left_of before)
  pub refused : IfErr result (λ r. (r.0 ≡ other) × (taken_of after ≡ taken_of before))

-- the seat has room for so many more meetings, or as much as before, and nothing else changes
pub record HasReserved (turns : ℕ) (result : Result (Unit {0}) NoMemory) (before after : FieldSeat) : Type 0 where
  pub room : OnOk result (turns ≤ spare_of after)
  pub none : OnErr result (spare_of after ≡ spare_of before)
  pub own : log_of after ≡ log_of before
  pub rest : KeepsRest before after
  pub field : KeepsField before after

-- the seat has room for so many more looks, or as much as before, and nothing else changes
pub record HasReservedLooks (f : Field) (count : ℕ) (result : Result (Unit {0}) NoMemory)
    (before after : FieldSeat) : Type 0 where
  pub ours : IsSeatOf f after
  pub room : OnOk result (count ≤ spare_looks_of after)
  pub refused : OnErr result (spare_looks_of after ≡ spare_looks_of before)
  pub looks : looks_of after ≡ looks_of before
  pub rest : KeepsLogs before after

-- the agents a and b have met, and the seat's log has one more meeting
pub record HasMetOnField (f : Field) (a b : ℕ) (met : Met) (before after : FieldSeat) : Type 0 where
  pub ours : IsSeatOf f after
  pub logged : log_of after ≡ log_of before ++ logged met.ticket a b met.changed ∷ []
  pub spare : spare_of after + 1 ≡ spare_of before
  -- the ticket is above all that the seat knew, and `changed` is correct at its moment
  pub newest : IsNewestOf met.ticket before
  pub moment : IsMoment f before a b met
  pub rest : KeepsRest before after

-- the seat has one more look, at all agents at one moment
pub record HasLooked (f : Field) (ticket : ℕ) (before after : FieldSeat) : Type 0 where
  pub ours : IsSeatOf f after
  pub looked : (words : List Word) × (looks_of after ≡ looks_of before ++ look_of ticket words ∷ [])
      × (length words ≡ length (opening_of f)) × IsGlance f before (look_of ticket words)
  pub spare : spare_looks_of after + 1 ≡ spare_looks_of before
  pub newest : IsNewestOf ticket before
  pub rest : KeepsLogs before after
