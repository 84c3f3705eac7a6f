-- Each play of a seat is a step of one of the kinds.
use Rattle.std.proofs.Common.{◌≡◌, ◌≢◌, ◌⊎◌, inl, inr, ℕ, ◌+◌, List, refl, sym, ap, subst, ◌∙◌}
use Rattle.std.specs.Prelude.{slice_index, slice_set}
use Rattle.std.proofs.lemmas.Bool.{cases_eq}
use mathlib.Core.Option.{some}
use lib.ListN.{get_elem?}
use Rattle.atomic_table.specs.Table.{Step}
use Rattle.pop_net.specs.declared.net.Word.{Word}
use Rattle.pop_net.specs.Lanes.{tuple_of}
use Rattle.pop_crowd.specs.declared.crowd.Meeting.{Meeting}
use Rattle.pop_crowd.specs.Replay.{reacts}
use Rattle.agent_field.specs.History.{made}
use Rattle.agent_field.specs.declared.places.TheConstants.{CLOCK, FOUNDER}
use Rattle.agent_field.specs.declared.view.Setup.{Setup}
use Rattle.agent_field.specs.declared.view.View.{View}
use Rattle.agent_field.specs.Standing.{packed, lock_at, agent_at, agent_word, founder, In}
use Rattle.agent_field.specs.Steps.{Mine, Founds, Locks, Unlocks, Reads, Draws, Writes, FindsWritten, Watches, CanLock, HasSeenAll, MayDraw, first_seat, holding, releasing, knowing, writing, looking, seen, meeting_made}
use Rattle.agent_field.specs.Kinds.{Sits, QuietStep, makes, locks, finds_locked, reads, writes, finds_written, unlocks, looks, DrawStep, draws}
use Rattle.agent_field.specs.Plays.{IsPlayer, PlaysAreKinds}

module _ (words : List ℕ) (views : List View) (id : ℕ) where
  -- the same step, as the play tells it
  told : (k : Setup) (left now : List ℕ) (v w : View) → now ≡ left → w ≡ v → QuietStep k words views left (slice_set views id v) → QuietStep k words views now (slice_set views id w)
  told k left now v w same view step =
      subst (λ (x : View). QuietStep k words views now (slice_set views id x)) (sym view)
      (subst (λ (x : List ℕ). QuietStep k words views x (slice_set views id v)) (sym same) step)

  module _ (st : Step (Unit {0})) (m m' : Mine) where
    founded : (k : Setup) → get_elem? views id ≡ some (founder k) → m.0 ≡ founder k → Founds st m (slice_index words st.word) m' → QuietStep k words views (slice_set words st.word st.first) (slice_set views id m'.0)
    founded k at is play =
        told k (slice_set words FOUNDER 1) (slice_set words st.word st.first) (first_seat k) m'.0
        (ap (λ (p : ℕ). slice_set words p st.first) play.2 ∙ ap (λ (n : ℕ). slice_set words FOUNDER n) play.3)
        (ap (λ (z : Mine). z.0) play.1 ∙ ap (λ (v : View). first_seat v.setup) is)
        (makes words views id at)

    module _ (sits : Sits views id m.0) where
      abbrev own : Setup
      own = m.0.setup

      locked : Locks st m (slice_index words st.word) m' → slice_index words st.word ≡ st.first → QuietStep m.0.setup words views (slice_set words st.word st.second) (slice_set views id m'.0)
      locked play free =
          let s = play.2.0 in
          let place = play.2.1 in
          let zero : slice_index words st.word ≡ 0 = free ∙ play.2.2 in
          told own (slice_set words (lock_at own s) (m.0.number + 1)) (slice_set words st.word st.second) (holding s m.0) m'.0
          (ap (λ (p : ℕ). slice_set words p st.second) place ∙ ap (λ (n : ℕ). slice_set words (lock_at own s) n) play.2.3)
          (ap (λ (z : Mine). z.0) (play.0 s place zero))
          (locks words views id m.0 s sits play.2.4 (subst (λ (p : ℕ). slice_index words p ≡ 0) place zero))

      was_locked : Locks st m (slice_index words st.word) m' → slice_index words st.word ≢ st.first → QuietStep m.0.setup words views words views × (m' ≡ m)
      was_locked play taken =
          let s = play.2.0 in
          let place = play.2.1 in
          let some : slice_index words st.word ≢ 0 = λ e. taken (e ∙ sym play.2.2) in
          (finds_locked words views id m.0 s sits play.2.4.inside (subst (λ (p : ℕ). slice_index words p ≢ 0) place some), play.1 some)

      unlocked : Unlocks st m (slice_index words st.word) m' → QuietStep m.0.setup words views (slice_set words st.word st.first) (slice_set views id m'.0)
      unlocked play =
          let s = play.1.0 in
          told own (slice_set words (lock_at own s) 0) (slice_set words st.word st.first) (releasing m.0) m'.0
          (ap (λ (p : ℕ). slice_set words p st.first) play.1.1 ∙ ap (λ (n : ℕ). slice_set words (lock_at own s) n) play.1.2)
          (ap (λ (z : Mine). z.0) play.0)
          (unlocks words views id m.0 s sits play.1.3)

      was_read : Reads st m (slice_index words st.word) m' → QuietStep m.0.setup words views words (slice_set views id m'.0)
      was_read play =
          let a = play.2.0 in
          let place = play.2.1 in
          told own words words (knowing a (agent_word own words a) m.0) m'.0 refl
          (ap (λ (z : Mine). z.0) (play.0 a place) ∙ ap (λ (p : ℕ). knowing a (packed (slice_index words p)) m.0) place)
          (reads words views id m.0 a sits play.2.2)

      written : Writes st m (slice_index words st.word) m' → QuietStep m.0.setup words views (slice_set words st.word st.first) (slice_set views id m'.0)
      written play =
          let a = play.1.0 in
          let place = play.1.1 in
          told own (slice_set words (agent_at own a) st.first) (slice_set words st.word st.first) (writing a m.0) m'.0
          (ap (λ (p : ℕ). slice_set words p st.first) place)
          (ap (λ (z : Mine). z.0) (play.0 a place))
          (writes words views id m.0 a (packed st.first) sits play.1.2)

      was_written : FindsWritten st m (slice_index words st.word) m' → QuietStep m.0.setup words views words (slice_set views id m'.0) ⊎ (m' ≡ m)
      was_written play = go (cases_eq (slice_index words st.word) play.1.0)
        where
          stands : slice_index words st.word ≡ play.1.0 → agent_word m.0.setup words play.0 ≡ play.1
          stands e = ap packed (ap (slice_index words) (sym play.2) ∙ e)

          go : (slice_index words st.word ≡ play.1.0) ⊎ (slice_index words st.word ≡ play.1.0 → ⊥) → QuietStep m.0.setup words views words (slice_set views id m'.0) ⊎ (m' ≡ m)
          go (inl e) =
              inl
              (told own words words (writing play.0 m.0) m'.0 refl (ap (λ (z : Mine). z.0) (play.4 e))
              (finds_written words views id m.0 play.0 play.1 sits play.3 (stands e)))
          go (inr e) = inr (play.5 e)

      watched : Watches st m (slice_index words st.word) m' → QuietStep m.0.setup words views words (slice_set views id m'.0)
      watched play =
          told own words words (looking (slice_index words CLOCK) (seen m.0.known) m.0) m'.0 refl
          (ap (λ (z : Mine). z.0) play.0 ∙ ap (λ (p : ℕ). looking (slice_index words p) (seen m.0.known) m.0) play.4)
          (looks words views id m.0 (seen m.0.known) sits play.3)

      drawn : Draws st m (slice_index words st.word) m' → (meeting : Meeting) × DrawStep m.0.setup words views meeting (slice_set words st.word (slice_index words st.word + st.first)) (slice_set views id m'.0)
      drawn play =
          let d = play.0 in
          let place = play.3 in
          let left : slice_set words st.word (slice_index words st.word + st.first) ≡ slice_set words CLOCK (slice_index words CLOCK + 1) =
          ap (λ (p : ℕ). slice_set words p (slice_index words p + st.first)) place ∙ ap (λ (n : ℕ). slice_set words CLOCK (slice_index words CLOCK + n)) play.4 in
          let view : m'.0 ≡ meeting_made (slice_index words CLOCK) d.a d.b d.x d.y d.x' d.y' m.0 =
          ap (λ (z : Mine). z.0) d.met ∙ ap (λ (p : ℕ). meeting_made (slice_index words p) d.a d.b d.x d.y d.x' d.y' m.0) place in
          let meeting : Meeting = made m.0.number d.a d.b (reacts own.net.value (tuple_of own.net.value d.x) (tuple_of own.net.value d.y)) in (
            meeting,
            subst (λ (x : View). DrawStep own words views meeting (slice_set words st.word (slice_index words st.word + st.first)) (slice_set views id x)) (sym view)
                (subst (λ (x : List ℕ). DrawStep own words views meeting x (slice_set views id (meeting_made (slice_index words CLOCK) d.a d.b d.x d.y d.x' d.y' m.0))) (sym left)
                (draws words views id m.0 d.a d.b d.x d.y d.x' d.y' sits d.may)),
          )

pub plays_are_kinds : PlaysAreKinds
plays_are_kinds k = record {
  founds = λ words views id st m m' at is play. founded words views id st m m' k at is play;
  locks = λ words views id st m m' p play free. subst (λ z. QuietStep z words views (slice_set words st.word st.second) (slice_set views id m'.0)) p.ours (locked words views id st m m' p.sits play free);
  finds_locked = λ words views id st m m' p play taken. subst (λ z. QuietStep z words views words views × (m' ≡ m)) p.ours (was_locked words views id st m m' p.sits play taken);
  unlocks = λ words views id st m m' p play. subst (λ z. QuietStep z words views (slice_set words st.word st.first) (slice_set views id m'.0)) p.ours (unlocked words views id st m m' p.sits play);
  reads = λ words views id st m m' p play. subst (λ z. QuietStep z words views words (slice_set views id m'.0)) p.ours (was_read words views id st m m' p.sits play);
  writes = λ words views id st m m' p play. subst (λ z. QuietStep z words views (slice_set words st.word st.first) (slice_set views id m'.0)) p.ours (written words views id st m m' p.sits play);
  finds_written = λ words views id st m m' p play. subst (λ z. QuietStep z words views words (slice_set views id m'.0) ⊎ (m' ≡ m)) p.ours (was_written words views id st m m' p.sits play);
  watches = λ words views id st m m' p play. subst (λ z. QuietStep z words views words (slice_set views id m'.0)) p.ours (watched words views id st m m' p.sits play);
  draws = λ words views id st m m' p play. subst (λ z. (meeting : Meeting) × DrawStep z words views meeting (slice_set words st.word (slice_index words st.word + st.first)) (slice_set views id m'.0)) p.ours (drawn words views id st m m' p.sits play);
}
