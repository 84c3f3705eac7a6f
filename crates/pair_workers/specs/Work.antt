-- What workers do on the field.
use Rattle.std.specs.Prelude.{◌≡◌, ◌≤◌, ◌<◌, ◌+◌, ℕ, Bool, false, List, [], map, length, slice_index_or, Some, None}
use Rattle.pop_leaf.specs.NetModel.{NetModel}
use Rattle.pop_net.specs.declared.net.Word.{Word}
use Rattle.agent_field.specs.declared.field.Field.{Field}
use Rattle.agent_field.specs.declared.field.FieldSeat.{FieldSeat}
use Rattle.agent_field.specs.declared.view.Logged.{Logged}
use Rattle.agent_field.specs.Seats.{IsOpened, IsSeatOf, IsFresh, IsWhole, KeepsOwn, KeepsRest, opening_of, seats_of}
use Rattle.agent_field.specs.Seats.{seat_number, next_of, left_of, log_of, spare_of, taken_of}
use Rattle.pair_workers.specs.declared.work.Worker.{Worker}
use Rattle.run_picks.specs.CrowdSize.{IsCrowdSize}
use Rattle.run_picks.specs.Turns.{HasPicked}

abbrev pub pairs_of : List Logged → List (ℕ × ℕ)
pairs_of log = map (λ e. (e.a, e.b)) log

abbrev pub agents_of_field : Field → ℕ
agents_of_field f = length (opening_of f)

-- the worker has made nothing, and has room for so many meetings
pub record MayWork (f : Field) (turns : ℕ) (w : Worker) : Type 0 where
  pub ours : IsSeatOf f w.seat
  pub room : turns ≤ spare_of w.seat
  pub log : log_of w.seat ≡ []

-- the meetings of the log are the next picks, at most as many as the turns
pub record HasMade (f : Field) (turns : ℕ) (before after : List ℕ) (log : List Logged) : Type 0 where
  pub few : length log ≤ turns
  pub picked : HasPicked (agents_of_field f) (length log) before after (pairs_of log)

-- the worker has made its next picks: all its turns, or fewer if an observer may have stopped it
pub record HasWorked (f : Field) (turns : ℕ) (observed : Bool) (before after : Worker) : Type 0 where
  pub ours : IsSeatOf f after.seat
  pub kept : KeepsRest before.seat after.seat
  pub made : HasMade f turns before.picker after.picker (log_of after.seat)
  pub all : observed ≡ false → length (log_of after.seat) ≡ turns

-- each worker has made its next picks
abbrev pub HaveWorked : Field → ℕ → Bool → List Worker → List Worker → Type 0
HaveWorked f turns observed before after =
    (i : ℕ) (d : Worker) → i < length before
    → HasWorked f turns observed (slice_index_or before i d) (slice_index_or after i d)

-- number 0 of a field with so many further seats, which has dealt none
pub record IsFirstSeat (f : Field) (count : ℕ) (s : FieldSeat) : Type 0 where
  pub ours : IsSeatOf f s
  pub number : seat_number s ≡ 0
  pub next : next_of s ≡ 1
  pub left : left_of s ≡ count

-- a worker with this number and this picker
pub record IsReady (f : Field) (turns number : ℕ) (picker : List ℕ) (w : Worker) : Type 0 where
  pub may : MayWork f turns w
  pub numbered : seat_number w.seat ≡ number
  pub picker_is : w.picker ≡ picker

-- the worker with this number has made its turns from this picker on, or some of them if it was observed
pub record IsDone (f : Field) (turns : ℕ) (observed : Bool) (number : ℕ) (picker : List ℕ) (w : Worker) : Type 0 where
  pub ours : IsSeatOf f w.seat
  pub numbered : seat_number w.seat ≡ number
  pub made : HasMade f turns picker w.picker (log_of w.seat)
  pub all : observed ≡ false → length (log_of w.seat) ≡ turns

-- the workers on the seats from number 1 on are ready, one for each picker
abbrev pub AreReady : Field → ℕ → List (List ℕ) → List Worker → Type 0
AreReady f turns pickers workers =
    (length workers ≡ length pickers)
    × ((i : ℕ) (d : Worker) (e : List ℕ) → i < length workers
    → IsReady f turns (i + 1) (slice_index_or pickers i e) (slice_index_or workers i d))

abbrev pub AreDone : Field → ℕ → Bool → List (List ℕ) → List Worker → Type 0
AreDone f turns observed pickers workers =
    (length workers ≡ length pickers)
    × ((i : ℕ) (d : Worker) (e : List ℕ) → i < length workers
    → IsDone f turns observed (i + 1) (slice_index_or pickers i e) (slice_index_or workers i d))

-- number 0 has dealt a seat to a worker for each picker, and keeps its own meetings
pub record HasSeated (f : Field) (turns : ℕ) (pickers : List (List ℕ)) (before after : FieldSeat)
    (workers : List Worker)
    : Type 0 where
  pub ours : IsSeatOf f after
  pub own : KeepsOwn before after
  pub taken : taken_of after ≡ taken_of before
  pub dealt : next_of after ≡ length pickers + 1
  pub ready : AreReady f turns pickers workers

-- a field with this crowd, a fresh number 0, and workers on all other seats, one for each picker
pub record HasOpened (net : NetModel) (crowd : List Word) (shards turns : ℕ) (pickers : List (List ℕ))
    (f : Field) (s : FieldSeat) (workers : List Worker) : Type 0 where
  pub field : IsOpened f net crowd shards (length pickers + 1)
  pub agents : IsCrowdSize (length crowd)
  pub ours : IsSeatOf f s
  pub first : seat_number s ≡ 0
  pub fresh : IsFresh s
  pub dealt : next_of s ≡ length pickers + 1
  pub ready : AreReady f turns pickers workers

-- number 0 has dealt a seat to each of these workers
pub record HasDealt (f : Field) (s : FieldSeat) (workers : List Worker) : Type 0 where
  pub ours : IsSeatOf f s
  pub number : seat_number s ≡ 0
  pub next : next_of s ≡ length workers + 1
  pub within : next_of s ≤ seats_of f
  pub each : (i : ℕ) (d : Worker) → i < length workers
      → IsSeatOf f (slice_index_or workers i d).seat × (seat_number (slice_index_or workers i d).seat ≡ i + 1)

-- number 0 has the logs of all these workers, each under its number, and keeps its own
pub record HasAll (f : Field) (workers : List Worker) (before after : FieldSeat) : Type 0 where
  pub ours : IsSeatOf f after
  pub whole : IsWhole after
  pub own : log_of after ≡ log_of before
  pub taken : (i : ℕ) (d : Worker) → i < length workers
      → slice_index_or (taken_of after) (i + 1) None ≡ Some (log_of (slice_index_or workers i d).seat)
