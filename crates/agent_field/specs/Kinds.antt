-- The kinds of atomic step of a seat, when each is allowed and what it changes; and runs of steps, by any seats in any
-- order.
use Rattle.std.specs.Prelude.{◌≡◌, ◌≢◌, ◌⊎◌, ℕ, ◌+◌, ◌<◌, ◌≤◌, ◌++◌, true, List, [], ◌∷◌, slice_index, slice_set}
use mathlib.Core.Option.{Option, some}
use lib.ListN.{get_elem?}
use Rattle.pop_net.specs.declared.net.Word.{Word}
use Rattle.pop_net.specs.Lanes.{tuple_of, AreValid}
use Rattle.pop_leaf.specs.Step.{Step}
use Rattle.pop_crowd.specs.declared.crowd.Meeting.{Meeting}
use Rattle.pop_crowd.specs.Replay.{reacts}
use Rattle.agent_field.specs.declared.places.TheConstants.{CLOCK, FOUNDER}
use Rattle.agent_field.specs.declared.limits.TheConstants.{SEAT_LIMIT}
use Rattle.agent_field.specs.declared.view.Setup.{Setup}
use Rattle.agent_field.specs.declared.view.View.{View}
use Rattle.agent_field.specs.History.{made}
use Rattle.agent_field.specs.Standing.{In, lock_at, agent_at, agent_word, crowd_after}
use Rattle.agent_field.specs.Standing.{founder, joined_away, opening_words, IsUnfounded, StandsAt, Stands}
use Rattle.agent_field.specs.Steps.{CanLock, CanUnlock, CanRead, MayDraw, HasSeenAll}
use Rattle.agent_field.specs.Steps.{first_seat, holding, releasing, knowing, meeting_made, writing, kept_back}
use Rattle.agent_field.specs.Steps.{newcomer, taking_in, looking}

-- the seat `id` is live and has this view
pub record Sits (views : List View) (id : ℕ) (v : View) : Type 0 where
  pub at : get_elem? views id ≡ some v
  pub live : v.live ≡ true

-- every kind of step but the draw
pub data QuietStep (k : Setup) : List ℕ → List View → List ℕ → List View → Type 0 where
  makes : (words : List ℕ) (views : List View) (id : ℕ) → get_elem? views id ≡ some (founder k)
      → QuietStep k words views (slice_set words FOUNDER 1) (slice_set views id (first_seat k))
  locks : (words : List ℕ) (views : List View) (id : ℕ) (v : View) (s : ℕ) → Sits views id v → CanLock k v s
      → slice_index words (lock_at k s) ≡ 0
      → QuietStep k words views (slice_set words (lock_at k s) (v.number + 1)) (slice_set views id (holding s v))
  finds_locked : (words : List ℕ) (views : List View) (id : ℕ) (v : View) (s : ℕ) → Sits views id v → s < k.shards
      → slice_index words (lock_at k s) ≢ 0
      → QuietStep k words views words views
  reads : (words : List ℕ) (views : List View) (id : ℕ) (v : View) (a : ℕ) → Sits views id v → CanRead k v a
      → QuietStep k words views words (slice_set views id (knowing a (agent_word k words a) v))
  writes : (words : List ℕ) (views : List View) (id : ℕ) (v : View) (a : ℕ) (y : Word) → Sits views id v
      → In (a, y) v.due
      → QuietStep k words views (slice_set words (agent_at k a) y.0) (slice_set views id (writing a v))
  finds_written : (words : List ℕ) (views : List View) (id : ℕ) (v : View) (a : ℕ) (y : Word) → Sits views id v
      → In (a, y) v.due → agent_word k words a ≡ y
      → QuietStep k words views words (slice_set views id (writing a v))
  unlocks : (words : List ℕ) (views : List View) (id : ℕ) (v : View) (s : ℕ) → Sits views id v → CanUnlock v s
      → QuietStep k words views (slice_set words (lock_at k s) 0) (slice_set views id (releasing v))
  splits : (words : List ℕ) (views : List View) (id : ℕ) (v : View) → Sits views id v → v.number ≡ 0 → v.next < k.seats
      → QuietStep k words views words (slice_set views id (kept_back v) ++ newcomer v ∷ [])
  joins : (words : List ℕ) (views : List View) (id other : ℕ) (v w : View) → Sits views id v → v.number ≡ 0 → other ≢ id
      → Sits views other w
      → w.due ≡ [] → w.held ≡ []
      → QuietStep k words views words (slice_set (slice_set views id (taking_in v w)) other joined_away)
  looks : (words : List ℕ) (views : List View) (id : ℕ) (v : View) (shown : List Word) → Sits views id v
      → HasSeenAll k v shown
      → QuietStep k words views words (slice_set views id (looking (slice_index words CLOCK) shown v))

-- the draw, and the meeting that it makes
pub data DrawStep (k : Setup) : List ℕ → List View → Meeting → List ℕ → List View → Type 0 where
  draws : (words : List ℕ) (views : List View) (id : ℕ) (v : View) (a b : ℕ) (x y x' y' : Word) → Sits views id v
      → MayDraw k v a b x y x' y'
      → DrawStep k words views (made v.number a b
      (reacts k.net.value (tuple_of k.net.value x) (tuple_of k.net.value y)))
      (slice_set words CLOCK (slice_index words CLOCK + 1))
      (slice_set views id (meeting_made (slice_index words CLOCK) a b x y x' y' v))

-- any number of steps, with the meetings that they make
pub data FieldRun (k : Setup) : List ℕ → List View → List Meeting → List ℕ → List View → Type 0 where
  stays : (words : List ℕ) (views : List View) → FieldRun k words views [] words views
  goes : (words : List ℕ) (views : List View) (words' : List ℕ) (views' : List View) (meetings : List Meeting)
      (words'' : List ℕ) (views'' : List View)
      → QuietStep k words views words' views' → FieldRun k words' views' meetings words'' views''
      → FieldRun k words views meetings words'' views''
  meets : (words : List ℕ) (views : List View) (m : Meeting) (words' : List ℕ) (views' : List View)
      (meetings : List Meeting)
      (words'' : List ℕ) (views'' : List View)
      → DrawStep k words views m words' views' → FieldRun k words' views' meetings words'' views''
      → FieldRun k words views (m ∷ meetings) words'' views''

-- the field stands at this history, which is empty until it is founded
abbrev pub HasHistory : Setup → List ℕ → List View → List Meeting → Type 0
HasHistory k words views history =
    (IsUnfounded k words views × (history ≡ [])) ⊎ ((seat : ℕ → Option ℕ) × StandsAt k words views history seat)

-- the field stands at every moment, and its history is what the draws made
pub record MomentsStand (k : Setup) : Type 0 where
  pub opened : (0 < k.shards) → (0 < k.seats) → k.seats ≤ SEAT_LIMIT → AreValid k.net.value k.opening.value
      → HasHistory k (opening_words k) (founder k ∷ []) []
  pub stands : (words : List ℕ) (views : List View) (history : List Meeting) → HasHistory k words views history
      → Stands k words views
  pub has_history : (words : List ℕ) (views : List View) → Stands k words views → (history : List Meeting)
      × HasHistory k words views history
  -- there is only one such history
  pub one : (words : List ℕ) (views : List View) (first second : List Meeting) → HasHistory k words views first
      → HasHistory k words views second
      → first ≡ second
  -- no step but the draw changes the history, nor what it gives for any agent
  pub quiet : (words : List ℕ) (views : List View) (words' : List ℕ) (views' : List View) (history : List Meeting)
      → QuietStep k words views words' views' → HasHistory k words views history → HasHistory k words' views' history
  -- the draw adds its meeting, which is a step of the model
  pub draw : (words : List ℕ) (views : List View) (m : Meeting) (words' : List ℕ) (views' : List View)
      (history : List Meeting)
      → DrawStep k words views m words' views' → HasHistory k words views history
      → HasHistory k words' views' (history ++ m ∷ [])
      × Step k.net.value (crowd_after k history) (crowd_after k (history ++ m ∷ []))
  pub runs : (words : List ℕ) (views : List View) (meetings : List Meeting) (words' : List ℕ) (views' : List View)
      (history : List Meeting)
      → FieldRun k words views meetings words' views' → HasHistory k words views history
      → HasHistory k words' views' (history ++ meetings)

abbrev pub EachMomentStands : Type 0
EachMomentStands = (k : Setup) → MomentsStand k
