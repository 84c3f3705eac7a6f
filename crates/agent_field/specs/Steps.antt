-- What each step of a seat establishes.
use Rattle.std.specs.Prelude.{zero, suc, ◌≡◌, ◌≢◌, ℕ, ◌+◌, ◌<◌, ◌≤◌, List, [], ◌∷◌, ◌++◌, length, filter, not, ◌==◌}
use Rattle.std.specs.Prelude.{slice_index_or, slice_set, replicate, Option as Maybe, Some as Given, None as Missing}
use Rattle.atomic_table.specs.Table.{Me, Step}
use Rattle.pop_net.specs.declared.net.Word.{Word}
use Rattle.pop_leaf.specs.NetModel.{NetModel}
use Rattle.pop_net.specs.Lanes.{tuple_of, IsValid}
use Rattle.pop_leaf.specs.Reaction.{reaction}
use Rattle.pop_crowd.specs.declared.crowd.Meeting.{Meeting}
use Rattle.pop_crowd.specs.Replay.{reacts}
use Rattle.agent_field.specs.declared.limits.TheConstants.{LOG_LIMIT}
use Rattle.agent_field.specs.declared.places.TheConstants.{CLOCK, FOUNDER}
use Rattle.agent_field.specs.declared.view.Logged.{Logged}
use Rattle.agent_field.specs.declared.view.Look.{Look}
use Rattle.agent_field.specs.declared.view.Setup.{Setup}
use Rattle.agent_field.specs.declared.view.View.{View}
use Rattle.agent_field.specs.History.{logged, calls, IsHistory}
use Rattle.agent_field.specs.Standing.{In, agents_opened, shard_of, lock_at, agent_at, locks_of, idle, packed}
use Rattle.agent_field.specs.Standing.{tuple_after, IsLook}

abbrev pub Mine : Type 0
Mine = Me (Unit {0}) View

abbrev pub nothing_taken : Setup → List (Maybe (List Logged))
nothing_taken k = replicate k.seats Missing

-- number 0, when the field is founded
abbrev pub first_seat : Setup → View
first_seat k = idle k 0 [] 1 (nothing_taken k) []

abbrev pub holding : ℕ → View → View
holding s v = record v { held = s ∷ v.held }

abbrev pub rest_of : {X : Type 0} → List X → List X
rest_of [] = []
rest_of (x ∷ xs) = xs

-- the lock that was taken last is given back, and the seat forgets the words that it read
abbrev pub releasing : View → View
releasing v = record v { held = rest_of v.held; known = [] }

abbrev pub knowing : ℕ → Word → View → View
knowing a x v = record v { known = (a, x) ∷ v.known }

-- x' and y' are valid words of what the tuples of x and y react to
pub record IsReaction (net : NetModel) (x y x' y' : Word) : Type 0 where
  pub tuples : (tuple_of net x', tuple_of net y') ≡ reaction net (tuple_of net x) (tuple_of net y)
  pub first : IsValid net x'
  pub second : IsValid net y'

-- the words of all agents but this one
abbrev pub without : ℕ → List (ℕ × Word) → List (ℕ × Word)
without a words = filter (λ p. not (p.0 == a)) words

-- the agents a and b, with the words x and y, meet: x' and y' are due, and what was known of them is forgotten
abbrev pub meeting_made : ℕ → ℕ → ℕ → Word → Word → Word → Word → View → View
meeting_made ticket a b x y x' y' v =
    record v {
      known = without a (without b v.known);
      due = (a, x') ∷ (b, y') ∷ [];
      log = v.log ++ logged ticket a b
          (reacts v.setup.net.value (tuple_of v.setup.net.value x) (tuple_of v.setup.net.value y)) ∷ [];
    }

abbrev pub writing : ℕ → View → View
writing a v = record v { due = without a v.due }

-- the known words, in the order in which they were read
abbrev pub seen : List (ℕ × Word) → List Word
seen [] = []
seen (p ∷ ps) = seen ps ++ p.1 ∷ []

abbrev pub look_of : ℕ → List Word → Look
look_of ticket words = record { ticket = ticket; words = words }

-- all tickets of meetings that the seat knows are below this one, and those of its looks are at most this one
pub record IsNewest (ticket : ℕ) (v : View) : Type 0 where
  pub own : (e : Logged) → In e v.log → e.ticket < ticket
  pub taken_in : v.number ≡ 0 → (w : ℕ) (l : List Logged) (e : Logged) → slice_index_or v.taken w Missing ≡ Given l
      → In e l → e.ticket < ticket
  pub looks : (look : Look) → In look v.looks → look.ticket ≤ ticket

-- at the ticket there is a history, with exactly this log for the seat's number, after which the known words stand
pub record IsDrawnAt (ticket : ℕ) (v : View) : Type 0 where
  pub history : List Meeting
  pub long : length history ≡ ticket
  pub right : IsHistory v.setup.net.value v.setup.seats v.setup.opening.value history
  pub logs : v.log ≡ calls v.number history
  pub known : (a : ℕ) (x : Word) → In (a, x) v.known → tuple_after v.setup history a ≡ tuple_of v.setup.net.value x

-- when a shard's lock may be taken: while nothing is due
pub record CanLock (k : Setup) (v : View) (s : ℕ) : Type 0 where
  pub inside : s < k.shards
  pub due : v.due ≡ []

-- when it may be given back: if it was taken last, while nothing is due
pub record CanUnlock (v : View) (s : ℕ) : Type 0 where
  pub before : List ℕ
  pub last : v.held ≡ s ∷ before
  pub once : In s before → ⊥
  pub due : v.due ≡ []

-- when an agent's word may be read: under its shard's lock, while none is due for it
pub record CanRead (k : Setup) (v : View) (a : ℕ) : Type 0 where
  pub inside : a < agents_opened k
  pub locked : In (shard_of k a) v.held
  pub due : (y : Word) → In (a, y) v.due → ⊥

-- two different agents whose words are known, and what these react to, while nothing is due
pub record HasPair (k : Setup) (v : View) (a b : ℕ) (x y x' y' : Word) : Type 0 where
  pub first : In (a, x) v.known
  pub second : In (b, y) v.known
  pub reacted : IsReaction k.net.value x y x' y'
  pub due : v.due ≡ []
  pub apart : a ≢ b
  pub room : length v.log < LOG_LIMIT

-- what a draw needs: such a pair, under the locks of its shards and no other
pub record MayDraw (k : Setup) (v : View) (a b : ℕ) (x y x' y' : Word) : Type 0 where
  pub pair : HasPair k v a b x y x' y'
  pub exactly : v.held ≡ locks_of k a b

-- all words, read under all locks
pub record HasSeenAll (k : Setup) (v : View) (words : List Word) : Type 0 where
  pub first : v.number ≡ 0
  pub locked : (s : ℕ) → s < k.shards → In s v.held
  pub whole : length words ≡ agents_opened k
  pub all : (a : ℕ) (d : Word) → a < agents_opened k → In (a, slice_index_or words a d) v.known
  pub due : v.due ≡ []

abbrev pub Founds : Step (Unit {0}) → Mine → ℕ → Mine → Type 0
Founds st m r m' = (r ≡ 0) × (m' ≡ (first_seat m.0.setup, m.1)) × (st.word ≡ FOUNDER) × (st.first ≡ 1)

-- a lock is tried, when that is allowed
abbrev pub Locks : Step (Unit {0}) → Mine → ℕ → Mine → Type 0
Locks st m r m' =
    ((s : ℕ) → st.word ≡ lock_at m.0.setup s → r ≡ 0 → m' ≡ (holding s m.0, m.1))
    × (r ≢ 0 → m' ≡ m)
    × ((s : ℕ) × (st.word ≡ lock_at m.0.setup s) × (st.first ≡ 0) × (st.second ≡ m.0.number + 1)
    × CanLock m.0.setup m.0 s)

-- a lock is given back, when that is allowed
abbrev pub Unlocks : Step (Unit {0}) → Mine → ℕ → Mine → Type 0
Unlocks st m r m' =
    (m' ≡ (releasing m.0, m.1))
    × ((s : ℕ) × (st.word ≡ lock_at m.0.setup s) × (st.first ≡ 0) × CanUnlock m.0 s)

-- a word is read, when that is allowed
abbrev pub Reads : Step (Unit {0}) → Mine → ℕ → Mine → Type 0
Reads st m r m' =
    ((a : ℕ) → st.word ≡ agent_at m.0.setup a → m' ≡ (knowing a (packed r) m.0, m.1))
    × IsValid m.0.setup.net.value (packed r)
    × ((a : ℕ) × (st.word ≡ agent_at m.0.setup a) × CanRead m.0.setup m.0 a)

-- the pair whose words were read meets, when that is allowed, and its new words are due
pub record HasDrawn (ticket : ℕ) (m m' : Mine) : Type 0 where
  pub a : ℕ
  pub b : ℕ
  pub x : Word
  pub y : Word
  pub x' : Word
  pub y' : Word
  pub known : m.0.known ≡ (b, y) ∷ (a, x) ∷ []
  pub may : MayDraw m.0.setup m.0 a b x y x' y'
  pub met : m' ≡ (meeting_made ticket a b x y x' y' m.0, m.1)

abbrev pub Draws : Step (Unit {0}) → Mine → ℕ → Mine → Type 0
Draws st m r m' = HasDrawn r m m' × IsNewest r m.0 × IsDrawnAt r m.0 × (st.word ≡ CLOCK) × (st.first ≡ 1)

-- a word that is due is written
abbrev pub Writes : Step (Unit {0}) → Mine → ℕ → Mine → Type 0
Writes st m r m' =
    ((a : ℕ) → st.word ≡ agent_at m.0.setup a → m' ≡ (writing a m.0, m.1))
    × ((a : ℕ) × (st.word ≡ agent_at m.0.setup a) × In (a, packed st.first) m.0.due)

-- a word that is due is looked for in its place; where it stands there, it is due no more
abbrev pub FindsWritten : Step (Unit {0}) → Mine → ℕ → Mine → Type 0
FindsWritten st m r m' =
    (a : ℕ) × (y : Word) × (st.word ≡ agent_at m.0.setup a) × In (a, y) m.0.due
    × (r ≡ y.0 → m' ≡ (writing a m.0, m.1))
    × (r ≢ y.0 → m' ≡ m)

-- a look: the clock, and all words
abbrev pub looking : ℕ → List Word → View → View
looking ticket words v = record v { looks = v.looks ++ look_of ticket words ∷ [] }

-- at the ticket there is a history, with exactly this log for the seat's number, after which these words stand
pub record IsSeenAt (ticket : ℕ) (words : List Word) (v : View) : Type 0 where
  pub history : List Meeting
  pub long : length history ≡ ticket
  pub right : IsHistory v.setup.net.value v.setup.seats v.setup.opening.value history
  pub logs : v.log ≡ calls v.number history
  pub look : IsLook v.setup.net.value v.setup.opening.value history (look_of ticket words)

-- the clock is read, once the words of all agents were read
abbrev pub Watches : Step (Unit {0}) → Mine → ℕ → Mine → Type 0
Watches st m r m' =
    (m' ≡ (looking r (seen m.0.known) m.0, m.1))
    × IsNewest r m.0
    × IsSeenAt r (seen m.0.known) m.0
    × HasSeenAll m.0.setup m.0 (seen m.0.known)
    × (st.word ≡ CLOCK)

-- number 0 gives its least fresh number away
abbrev pub kept_back : View → View
kept_back v = record v { next = v.next + 1 }

abbrev pub newcomer : View → View
newcomer v = idle v.setup v.next [] 0 [] []

-- number 0 takes in another seat's log
abbrev pub taking_in : View → View → View
taking_in v w = record v { taken = slice_set v.taken w.number (Given w.log) }

-- the agents a and b meet, and no other words were known
abbrev pub pair_made : ℕ → ℕ → ℕ → Word → Word → Word → Word → View → View
pair_made ticket a b x y x' y' v = record (meeting_made ticket a b x y x' y' v) { known = [] }

-- the seat's log has one more meeting
abbrev pub recorded : Logged → View → View
recorded e v = record v { known = []; due = []; log = v.log ++ e ∷ [] }

abbrev pub with_locks : List ℕ → View → View
with_locks held v = record v { held = held; known = []; due = [] }

-- all shards below n, the last one first
abbrev pub below : ℕ → List ℕ
below zero = []
below (suc n) = n ∷ below n

abbrev pub with_known : List (ℕ × Word) → View → View
with_known known v = record v { known = known }
