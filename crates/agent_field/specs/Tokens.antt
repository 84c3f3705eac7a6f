-- A seat's token between the steps of a call: what a step needs, and what it makes of the token.
use Rattle.std.specs.Prelude.{◌≡◌, ℕ, ◌<◌, Bool, true, List, [], ◌∷◌, length, slice_index_or}
use Rattle.atomic_table.specs.declared.shared.Seat.{Seat}
use Rattle.pop_net.specs.declared.net.Word.{Word}
use Rattle.agent_field.specs.declared.field.Field.{Field}
use Rattle.agent_field.specs.declared.view.View.{View}
use Rattle.agent_field.specs.History.{logged}
use Rattle.agent_field.specs.Standing.{In, locks_of, shard_of}
use Rattle.agent_field.specs.Steps.{HasPair, HasDrawn, IsNewest, IsDrawnAt, IsSeenAt, looking, recorded, seen}
use Rattle.agent_field.specs.Steps.{with_known}
use Rattle.agent_field.specs.Seats.{IsMetAt}

abbrev pub SeatToken : Type 0
SeatToken = Seat (Unit {0}) View

-- a token of the field's table, with which its seat may take steps
pub record IsUsable (f : Field) (t : SeatToken) : Type 0 where
  pub table : t.table_id ≡ f.table.shared.table_id
  pub live : t.me.0.live ≡ true
  pub ours : t.me.0.setup ≡ f.table.shared.key

-- it holds exactly these locks, the last one first, and owes no word
pub record HoldsJust (f : Field) (locks : List ℕ) (t : SeatToken) : Type 0 where
  pub usable : IsUsable f t
  pub held : t.me.0.held ≡ locks
  pub due : t.me.0.due ≡ []

-- it has just taken these locks: nothing is known under them
pub record HasLocked (f : Field) (locks : List ℕ) (t : SeatToken) : Type 0 where
  pub holds : HoldsJust f locks t
  pub known : t.me.0.known ≡ []

-- it is the token of the seat with this number between its calls, and holds no lock
pub record IsBetweenCalls (f : Field) (number : ℕ) (t : SeatToken) : Type 0 where
  pub free : HasLocked f [] t
  pub number_is : t.me.0.number ≡ number

-- what taking a shard's lock needs
pub record MayLock (f : Field) (number s : ℕ) (t : SeatToken) : Type 0 where
  pub usable : IsUsable f t
  pub number_is : t.me.0.number ≡ number
  pub shard : s < f.shards
  pub due : t.me.0.due ≡ []

-- what giving it back needs: it was taken last
pub record MayUnlock (f : Field) (s : ℕ) (t : SeatToken) : Type 0 where
  pub usable : IsUsable f t
  pub shard : s < f.shards
  pub last : (held : List ℕ) × (t.me.0.held ≡ s ∷ held) × (In s held → ⊥)
  pub due : t.me.0.due ≡ []

-- what reading an agent's word needs: its shard's lock
pub record MayRead (f : Field) (a : ℕ) (t : SeatToken) : Type 0 where
  pub usable : IsUsable f t
  pub agent : a < f.agents
  pub held : In (shard_of f.table.shared.key a) t.me.0.held
  pub due : t.me.0.due ≡ []

-- the words of two agents were read, and no other is known
pub record HasReadPair (f : Field) (t : SeatToken) : Type 0 where
  pub a : ℕ
  pub b : ℕ
  pub x : Word
  pub y : Word
  pub x' : Word
  pub y' : Word
  pub known : t.me.0.known ≡ (b, y) ∷ (a, x) ∷ []
  pub pair : HasPair f.table.shared.key t.me.0 a b x y x' y'

-- what a draw needs: such words, under the locks of their agents' shards and no other
pub record MayDrawPair (f : Field) (t : SeatToken) : Type 0 where
  pub read : HasReadPair f t
  pub exactly : t.me.0.held ≡ locks_of f.table.shared.key read.a read.b

-- what writing an agent's word needs: it is due, and no other is due for that agent
pub record MayWrite (f : Field) (a : ℕ) (x : Word) (t : SeatToken) : Type 0 where
  pub usable : IsUsable f t
  pub agent : a < f.agents
  pub due : In (a, x) t.me.0.due
  pub only : (y : Word) → In (a, y) t.me.0.due → y ≡ x

-- after a step the token is still of its table, and its seat has this view
pub record Becomes (before after : SeatToken) (view : View) : Type 0 where
  pub table : after.table_id ≡ before.table_id
  pub me : after.me ≡ (view, before.me.1)

-- a ticket was drawn for the pair whose words are known: above all that the seat knew, and at a moment when these words
-- stood
pub record IsDraw (ticket : ℕ) (before after : SeatToken) : Type 0 where
  pub table : after.table_id ≡ before.table_id
  pub drawn : HasDrawn ticket before.me after.me
  pub newest : IsNewest ticket before.me.0
  pub moment : IsDrawnAt ticket before.me.0

-- the clock was read under all locks: not below what the seat knew, and at a moment when the known words stood
pub record IsWatch (ticket : ℕ) (before after : SeatToken) : Type 0 where
  pub watched : Becomes before after (looking ticket (seen before.me.0.known) before.me.0)
  pub newest : IsNewest ticket before.me.0
  pub moment : IsSeenAt ticket (seen before.me.0.known) before.me.0

-- the agents a and b have met under their locks, as the meeting with this ticket
pub record HasReacted (f : Field) (a b ticket : ℕ) (changed : Bool) (before after : SeatToken) : Type 0 where
  pub logged : Becomes before after (recorded (logged ticket a b changed) before.me.0)
  pub newest : IsNewest ticket before.me.0
  pub moment : IsMetAt f before.me.0.number before.me.0.log a b ticket changed

-- the words of all agents were read and are known
pub record HasReadAll (agents : ℕ) (words : List Word) (before after : SeatToken) : Type 0 where
  pub known : List (ℕ × Word)
  pub read : Becomes before after (with_known known before.me.0)
  pub these : seen known ≡ words
  pub whole : length words ≡ agents
  pub each : (a : ℕ) (d : Word) → a < agents → In (a, slice_index_or words a d) known
