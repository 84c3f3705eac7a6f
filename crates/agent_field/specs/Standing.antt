-- FieldStands: the rule of the field's table, over its words and the views of all seats.
-- The clock and the founder word come first. After them the lock words of the shards and the words of the agents take
-- turns, as long as there are both.
use Rattle.std.specs.Prelude.{◌≡◌, ℕ, ◌+◌, ◌<◌, ◌≤◌, ◌%◌, ◌⊎◌, ◌==◌, min, max, IsSome, Bool, true, false, List, [], ◌∷◌}
use Rattle.std.specs.Prelude.{◌++◌}
use Rattle.std.specs.Prelude.{length, map, take, replicate, slice_index, slice_index_or, Option as Maybe, Some as Given}
use Rattle.std.specs.Prelude.{None as Missing}
use mathlib.Core.Option.{Option, none, some}
use lib.ListN.{get_elem?}
use Rattle.atomic_table.specs.Table.{State}
use Rattle.pop_net.specs.declared.net.Word.{Word}
use Rattle.pop_leaf.specs.NetModel.{NetModel, Tuple, CrowdModel}
use Rattle.pop_net.specs.Lanes.{tuple_of, crowd_of, IsValid, AreValid}
use Rattle.pop_crowd.specs.declared.crowd.Meeting.{Meeting}
use Rattle.pop_crowd.specs.Replay.{replay}
use Rattle.agent_field.specs.declared.limits.TheConstants.{SEAT_LIMIT, LOG_LIMIT}
use Rattle.agent_field.specs.declared.places.TheConstants.{CLOCK, FOUNDER, HEAD_WORDS}
use Rattle.agent_field.specs.declared.view.Logged.{Logged}
use Rattle.agent_field.specs.declared.view.Look.{Look}
use Rattle.agent_field.specs.declared.view.Setup.{Setup}
use Rattle.agent_field.specs.declared.view.View.{View}
use Rattle.agent_field.specs.History.{IsHistory, calls}

abbrev pub agents_opened : Setup → ℕ
agents_opened k = length k.opening.value

-- the place of a shard's lock, given the number of agents, and that of an agent's word, given the number of shards
abbrev pub lock_place : ℕ → ℕ → ℕ
lock_place agents s = HEAD_WORDS + s + min s agents

abbrev pub agent_place : ℕ → ℕ → ℕ
agent_place shards a = HEAD_WORDS + a + min (a + 1) shards

abbrev pub lock_at : Setup → ℕ → ℕ
lock_at k s = lock_place (agents_opened k) s

abbrev pub agent_at : Setup → ℕ → ℕ
agent_at k a = agent_place k.shards a

abbrev pub shard_of : Setup → ℕ → ℕ
shard_of k a = a % k.shards

abbrev pub packed : ℕ → Word
packed number = record { 0 = number }

-- an agent's word in a table of so many shards
abbrev pub word_of : ℕ → List ℕ → ℕ → Word
word_of shards table a = packed (slice_index table (agent_place shards a))

abbrev pub agent_word : Setup → List ℕ → ℕ → Word
agent_word k words a = word_of k.shards words a

-- the elements of two lists in turns, as long as there are both
abbrev pub in_turns : {X : Type 0} → List X → List X → List X
in_turns [] ys = ys
in_turns (x ∷ xs) [] = x ∷ xs
in_turns (x ∷ xs) (y ∷ ys) = x ∷ y ∷ in_turns xs ys

-- words as they go into a table: the clock, the founder word, and free locks in turns with the agents' words
abbrev pub laid_out : ℕ → List Word → List ℕ
laid_out shards words = 0 ∷ 0 ∷ in_turns (replicate shards 0) (map (λ w. w.0) words)

-- the words with which a field is opened
abbrev pub opening_words : Setup → List ℕ
opening_words k = laid_out k.shards k.opening.value

-- the crowd after the replay of a history from the opening words
abbrev pub crowd_after : Setup → List Meeting → CrowdModel
crowd_after k history = replay k.net.value history (crowd_of k.net.value k.opening.value)

-- an agent's tuple after it
abbrev pub tuple_after : Setup → List Meeting → ℕ → Tuple
tuple_after k history a = slice_index_or (crowd_after k history) a []

-- x is in the list
abbrev pub In : {X : Type 0} → X → List X → Type 0
In x [] = ⊥
In x (y ∷ ys) = (x ≡ y) ⊎ In x ys

-- the locks of a pair's shards, the last one first
abbrev pub pair_locks : ℕ → ℕ → Bool → List ℕ
pair_locks low high true = low ∷ []
pair_locks low high false = high ∷ low ∷ []

abbrev pub locks_of : Setup → ℕ → ℕ → List ℕ
locks_of k a b =
    let low = min (shard_of k a) (shard_of k b) in
    let high = max (shard_of k a) (shard_of k b) in pair_locks low high (low == high)

-- a seat that has nothing
abbrev pub blank_seat : Setup → View
blank_seat k =
    record {
      setup = k;
      founding = false;
      live = false;
      number = 0;
      held = [];
      known = [];
      due = [];
      log = [];
      next = 0;
      taken = [];
      looks = [];
    }

-- the seat that founds the field, before it does
abbrev pub founder : Setup → View
founder k = record (blank_seat k) { founding = true }

abbrev pub no_field : Setup
no_field =
    record {
      net = record { marker = record {}; value = record { variables = []; leaves = []; combine = [] } };
      opening = record { marker = record {}; value = [] };
      shards = 0;
      seats = 0;
    }

-- a seat that was joined away
abbrev pub joined_away : View
joined_away = blank_seat no_field

-- a seat between its calls
abbrev pub idle : Setup → ℕ → List Logged → ℕ → List (Maybe (List Logged)) → List Look → View
idle k number log next taken looks =
    record (blank_seat k) { live = true; number = number; log = log; next = next; taken = taken; looks = looks }

-- NumbersPart, of number 0's view: the numbers from `next` on are fresh and have made no meeting;
-- each number below it has a seat, or its log was taken in and is whole
pub record IsFirst (k : Setup) (history : List Meeting) (seat : ℕ → Option ℕ) (next : ℕ)
    (taken : List (Maybe (List Logged))) : Type 0 where
  pub some_next : (0 < next) × (next ≤ k.seats)
  pub places : length taken ≡ k.seats
  pub fresh : (w : ℕ) → next ≤ w → (seat w ≡ none) × (calls w history ≡ [])
  pub dealt : (w : ℕ) → w < next → seat w ≡ none → IsSome (slice_index_or taken w Missing)
  pub whole : (w : ℕ) (l : List Logged) → slice_index_or taken w Missing ≡ Given l → (w < next) × (seat w ≡ none)
      × (l ≡ calls w history)

-- LocksPart, of a view: the lock words of the shards that it holds name it
abbrev pub LocksPart : Setup → List ℕ → View → Type 0
LocksPart k words v = (s : ℕ) → In s v.held → (s < k.shards) × (slice_index words (lock_at k s) ≡ v.number + 1)

-- KnownPart: if it knows an agent's word, it holds the agent's shard, the table has that word, and none is due
abbrev pub KnownPart : Setup → List ℕ → View → Type 0
KnownPart k words v =
    (a : ℕ) (x : Word) → In (a, x) v.known → (a < agents_opened k) × In (shard_of k a) v.held
    × (agent_word k words a ≡ x) × ((y : Word) → In (a, y) v.due → ⊥)

-- DuePart and ValidPart: if it owes an agent's word, it holds the agent's shard, and that word is valid and what the
-- history gives
abbrev pub DuePart : Setup → List Meeting → View → Type 0
DuePart k history v =
    (a : ℕ) (x : Word) → In (a, x) v.due
    → (a < agents_opened k) × In (shard_of k a) v.held × (tuple_of k.net.value x ≡ tuple_after k history a)
    × IsValid k.net.value x

-- while words of a pair are due, the pair made the view's last meeting, and the view holds exactly the pair's shards
abbrev pub TightPart : Setup → View → Type 0
TightPart k v =
    (c : ℕ) (x : Word) → In (c, x) v.due → (earlier : List Logged) × (last : Logged) × (v.log ≡ earlier ++ last ∷ [])
    × (v.held ≡ locks_of k last.a last.b) × ((c ≡ last.a) ⊎ (c ≡ last.b))

-- the look shows what the meetings before its ticket lead to
abbrev pub IsLook : NetModel → List Word → List Meeting → Look → Type 0
IsLook net opening history look =
    (look.ticket ≤ length history)
    × (crowd_of net look.words ≡ replay net (take look.ticket history) (crowd_of net opening))
    × AreValid net look.words

-- no look has a lower ticket than one before it
abbrev pub LooksAscend : List Look → Type 0
LooksAscend [] = Unit {0}
LooksAscend (look ∷ looks) = ((later : Look) → In later looks → look.ticket ≤ later.ticket) × LooksAscend looks

-- LooksPart
pub record LooksPart (k : Setup) (history : List Meeting) (looks : List Look) : Type 0 where
  pub each : (look : Look) → In look looks → IsLook k.net.value k.opening.value history look
  pub ascending : LooksAscend looks

-- what holds for the view of the seat `id`
pub record Agrees (k : Setup) (words : List ℕ) (history : List Meeting) (seat : ℕ → Option ℕ) (id : ℕ)
    (v : View) : Type 0 where
  pub setup : v.setup ≡ k
  -- NumbersPart
  pub seated : seat v.number ≡ some id
  pub numbered : v.number < k.seats
  pub first : v.number ≡ 0 → IsFirst k history seat v.next v.taken
  -- TicketsPart
  pub logs : v.log ≡ calls v.number history
  pub locks : LocksPart k words v
  pub knows : KnownPart k words v
  pub owes : DuePart k history v
  pub tight : TightPart k v
  pub looked : LooksPart k history v.looks

-- no seat owes the agent's word
abbrev pub IsOwedByNone : List View → ℕ → Type 0
IsOwedByNone views a = (id : ℕ) (v : View) (x : Word) → get_elem? views id ≡ some v → v.live ≡ true → In (a, x) v.due
    → ⊥

-- a seat holds the shard
abbrev pub IsHeldBySome : List View → ℕ → Type 0
IsHeldBySome views s = (id : ℕ) × (v : View) × (get_elem? views id ≡ some v) × (v.live ≡ true) × In s v.held

-- ValidPart: an agent's word
abbrev pub ValidPart : Setup → List ℕ → Type 0
ValidPart k words = (a : ℕ) → a < agents_opened k → IsValid k.net.value (agent_word k words a)

-- SettledPart: the word of an agent that no seat owes is what the history gives
abbrev pub SettledPart : Setup → List ℕ → List View → List Meeting → Type 0
SettledPart k words views history =
    (a : ℕ) → a < agents_opened k → IsOwedByNone views a
    → tuple_of k.net.value (agent_word k words a) ≡ tuple_after k history a

-- the field stands at a history, where `seat` gives the seat of each number that has one
pub record StandsAt (k : Setup) (words : List ℕ) (views : List View) (history : List Meeting)
    (seat : ℕ → Option ℕ) : Type 0 where
  pub wide : length words ≡ HEAD_WORDS + k.shards + agents_opened k
  pub some_shard : 0 < k.shards
  pub few_seats : k.seats ≤ SEAT_LIMIT
  -- FounderPart
  pub founded : slice_index words FOUNDER ≡ 1
  -- TicketsPart: the clock is the number of meetings, and no number has made too many
  pub clock : slice_index words CLOCK ≡ length history
  pub right : IsHistory k.net.value k.seats k.opening.value history
  pub short : (w : ℕ) → length (calls w history) ≤ LOG_LIMIT
  -- NumbersPart
  pub grounded : (id : ℕ) × (seat 0 ≡ some id)
  pub sits : (n id : ℕ) → seat n ≡ some id → (v : View) × (get_elem? views id ≡ some v) × (v.live ≡ true)
      × (v.number ≡ n)
  -- LocksPart: a lock word is 0, or a view holds the shard
  pub locked : (s : ℕ) → s < k.shards → (slice_index words (lock_at k s) ≡ 0) ⊎ IsHeldBySome views s
  pub settled : SettledPart k words views history
  pub valid : ValidPart k words
  pub each : (id : ℕ) (v : View) → get_elem? views id ≡ some v → v.live ≡ true → Agrees k words history seat id v
  pub others : (id : ℕ) (v : View) → get_elem? views id ≡ some v → v.live ≡ false → v ≡ joined_away

-- FounderPart, while the founder word is 0: nothing has happened
pub record IsUnfounded (k : Setup) (words : List ℕ) (views : List View) : Type 0 where
  pub limits : (0 < k.shards) × (0 < k.seats) × (k.seats ≤ SEAT_LIMIT)
  pub valid : AreValid k.net.value k.opening.value
  pub fresh : words ≡ opening_words k
  pub each : (id : ℕ) (v : View) → get_elem? views id ≡ some v → ((id ≡ 0) × (v ≡ founder k)) ⊎ (v ≡ joined_away)

abbrev pub Stands : Setup → List ℕ → List View → Type 0
Stands k words views =
    IsUnfounded k words views
    ⊎ ((history : List Meeting) × (seat : ℕ → Option ℕ) × StandsAt k words views history seat)

abbrev pub FieldStands : Setup → State (Unit {0}) View → Type 0
FieldStands k s = Stands k s.words s.views
