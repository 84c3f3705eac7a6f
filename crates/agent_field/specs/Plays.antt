-- Plays: each play of a seat is a step of the kinds of `EachMomentStands`, with the word that its atomic operation
-- finds and the one that it leaves.
use Rattle.std.specs.Prelude.{◌≡◌, ◌≢◌, ◌⊎◌, ℕ, ◌+◌, List, slice_index, slice_set}
use mathlib.Core.Option.{some}
use lib.ListN.{get_elem?}
use Rattle.atomic_table.specs.Table.{Step}
use Rattle.pop_crowd.specs.declared.crowd.Meeting.{Meeting}
use Rattle.agent_field.specs.declared.view.Setup.{Setup}
use Rattle.agent_field.specs.declared.view.View.{View}
use Rattle.agent_field.specs.Standing.{founder}
use Rattle.agent_field.specs.Steps.{Mine, Founds, Locks, Unlocks, Reads, Draws, Writes, FindsWritten, Watches}
use Rattle.agent_field.specs.Kinds.{Sits, QuietStep, DrawStep}

-- the seat `id` has this view, which is of this field
pub record IsPlayer (k : Setup) (views : List View) (id : ℕ) (m : Mine) : Type 0 where
  pub sits : Sits views id m.0
  pub ours : m.0.setup ≡ k

-- the play finds the word at the step's place, and then the seat has its new view
abbrev pub IsQuiet : Setup → (Step (Unit {0}) → Mine → ℕ → Mine → Type 0) → (Step (Unit {0}) → List ℕ → List ℕ) → Type 0
IsQuiet k Play leaves =
    (words : List ℕ) (views : List View) (id : ℕ) (st : Step (Unit {0})) (m m' : Mine) → IsPlayer k views id m
    → Play st m (slice_index words st.word) m' → QuietStep k words views (leaves st words) (slice_set views id m'.0)

abbrev pub stored : Step (Unit {0}) → List ℕ → List ℕ
stored st words = slice_set words st.word st.first

abbrev pub loaded : Step (Unit {0}) → List ℕ → List ℕ
loaded st words = words

pub record PlaysOf (k : Setup) : Type 0 where
  pub founds : (words : List ℕ) (views : List View) (id : ℕ) (st : Step (Unit {0})) (m m' : Mine)
      → get_elem? views id ≡ some (founder k) → m.0 ≡ founder k → Founds st m (slice_index words st.word) m'
      → QuietStep k words views (stored st words) (slice_set views id m'.0)
  -- a swap that finds what it compares with, and one that finds another word
  pub locks : (words : List ℕ) (views : List View) (id : ℕ) (st : Step (Unit {0})) (m m' : Mine)
      → IsPlayer k views id m
      → Locks st m (slice_index words st.word) m' → slice_index words st.word ≡ st.first
      → QuietStep k words views (slice_set words st.word st.second) (slice_set views id m'.0)
  pub finds_locked : (words : List ℕ) (views : List View) (id : ℕ) (st : Step (Unit {0})) (m m' : Mine)
      → IsPlayer k views id m
      → Locks st m (slice_index words st.word) m' → slice_index words st.word ≢ st.first
      → QuietStep k words views words views × (m' ≡ m)
  pub unlocks : IsQuiet k Unlocks stored
  pub reads : IsQuiet k Reads loaded
  pub writes : IsQuiet k Writes stored
  -- the word that is due stands there, or the play changes nothing
  pub finds_written : (words : List ℕ) (views : List View) (id : ℕ) (st : Step (Unit {0})) (m m' : Mine)
      → IsPlayer k views id m → FindsWritten st m (slice_index words st.word) m'
      → QuietStep k words views words (slice_set views id m'.0) ⊎ (m' ≡ m)
  pub watches : IsQuiet k Watches loaded
  -- the ticket is what the addition to the clock finds
  pub draws : (words : List ℕ) (views : List View) (id : ℕ) (st : Step (Unit {0})) (m m' : Mine)
      → IsPlayer k views id m → Draws st m (slice_index words st.word) m'
      → (meeting : Meeting) × DrawStep k words views meeting
      (slice_set words st.word (slice_index words st.word + st.first)) (slice_set views id m'.0)

abbrev pub PlaysAreKinds : Type 0
PlaysAreKinds = (k : Setup) → PlaysOf k
