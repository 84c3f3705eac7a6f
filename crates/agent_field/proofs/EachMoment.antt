-- The field stands at every moment of every run, and its history is what the draws made.
use Rattle.std.proofs.Common.{◌≡◌, ◌≢◌, ◌⊎◌, ℕ, get_or, zero, suc, ◌+◌, ◌<◌, ◌≤◌, ◌++◌, true≢false, List, [], ◌∷◌, length, set, refl, sym, ap, ◌∙◌, subst, inl, inr, ⊎_elim, append_assoc}
use mathlib.Core.List.{append-nil}
use mathlib.Core.Option.{Option, some, some-injective, some-ne-none}
use lib.ListN.{get_elem?}
use Rattle.std.proofs.lemmas.List.{length-map, set-get_or}
use Rattle.pop_leaf.specs.NetModel.{NetModel}
use Rattle.pop_net.specs.Lanes.{tuple_of, crowd_of, AreValid}
use Rattle.pop_leaf.specs.Step.{Step}
use Rattle.pop_net.specs.declared.net.Word.{Word}
use Rattle.pop_leaf.specs.Reaction.{after_meeting}
use Rattle.pop_net.proofs.Packing.{is_tuple}
use Rattle.pop_leaf.proofs.Reactions.{reaction_step}
use Rattle.std.specs.Prelude.{Some}
use Rattle.std.proofs.lemmas.Option.{slice_get-get_or}
use Rattle.pop_crowd.specs.declared.crowd.Meeting.{Meeting}
use Rattle.pop_crowd.specs.Replay.{reacts}
use Rattle.agent_field.specs.declared.view.Setup.{Setup}
use Rattle.agent_field.specs.declared.view.View.{View}
use Rattle.agent_field.specs.History.{made}
use Rattle.agent_field.specs.Standing.{agents_opened, agent_at, crowd_after, Stands, In, StandsAt, IsUnfounded, founder, joined_away, opening_words}
use Rattle.agent_field.specs.Steps.{IsReaction, first_seat, meeting_made, writing, looking}
use Rattle.agent_field.specs.Kinds.{Sits, QuietStep, makes, locks, finds_locked, reads, writes, finds_written, unlocks, splits, joins, looks, DrawStep, draws, FieldRun, stays, goes, meets, HasHistory, EachMomentStands}
use Rattle.agent_field.proofs.Keeps.{locks_keep, releases_keep, reads_keep, writes_keep}
use Rattle.agent_field.proofs.Draws.{known_after, draws_keep}
use Rattle.agent_field.proofs.Watching.{looks_keep}
use Rattle.agent_field.proofs.Seating.{splits_keep, joins_keep}
use Rattle.agent_field.proofs.Founding.{founds_keep}
use Rattle.agent_field.proofs.OneHistory.{one_history}
use Rattle.pop_crowd.proofs.Reached.{length-replay}
use Rattle.pop_crowd.proofs.InARow.{replay-push}

abbrev At : Setup → List ℕ → List View → List Meeting → Type 0
At k words views history = (seat : ℕ → Option ℕ) × StandsAt k words views history seat

module _ (k : Setup) where
  -- a field with a live seat is founded
  is_founded : (words : List ℕ) (views : List View) (history : List Meeting) (id : ℕ) (v : View) → HasHistory k words views history → Sits views id v → At k words views history
  is_founded words views history id v h s =
      ⊎_elim
      (λ (un : IsUnfounded k words views × (history ≡ [])).
      ⊎_elim
      (λ (t : (id ≡ 0) × (v ≡ founder k)). absurd (true≢false (sym s.live ∙ ap (λ (u : View). u.live) t.1)))
      (λ (e : v ≡ joined_away). absurd (true≢false (sym s.live ∙ ap (λ (u : View). u.live) e)))
      (un.0.each id v s.at))
      (λ (t : At k words views history). t)
      h

  quiet : (words : List ℕ) (views : List View) (words' : List ℕ) (views' : List View) (history : List Meeting) → QuietStep k words views words' views' → HasHistory k words views history → HasHistory k words' views' history
  quiet _ _ _ _ history (makes words views id at) h =
      ⊎_elim
      (λ (un : IsUnfounded k words views × (history ≡ [])). let t = founds_keep k words views un.0 id at in inr (t.0, subst (λ (ms : List Meeting). StandsAt k (set words 1 1) (set views id (first_seat k)) ms t.0) (sym un.1) t.1))
      (λ (t : At k words views history). absurd (true≢false (ap (λ (v : View). v.founding) (t.1.others id (founder k) at refl))))
      h
  quiet _ _ _ _ history (locks words views id v s is may free) h =
      let t = is_founded words views history id v h is in inr (t.0, locks_keep k words views history t.0 t.1 id v is.at is.live s may.inside free may.due)
  quiet _ _ _ _ history (finds_locked words views id v s is inside taken) h = h
  quiet _ _ _ _ history (reads words views id v a is may) h =
      let t = is_founded words views history id v h is in inr (t.0, reads_keep k words views history t.0 t.1 id v is.at is.live a may.inside may.locked may.due)
  quiet _ _ _ _ history (writes words views id v a y is owed) h =
      let t = is_founded words views history id v h is in inr (t.0, writes_keep k words views history t.0 t.1 id v is.at is.live a y owed)
  quiet _ _ _ _ history (finds_written words views id v a y is owed stands) h =
      let t = is_founded words views history id v h is in
      let same : set words (agent_at k a) y.0 ≡ words = ap (λ (z : Word). set words (agent_at k a) z.0) (sym stands) ∙ set-get_or words (agent_at k a) 0 in
      inr (t.0, subst (λ (ws : List ℕ). StandsAt k ws (set views id (writing a v)) history t.0) same (writes_keep k words views history t.0 t.1 id v is.at is.live a y owed))
  quiet _ _ _ _ history (unlocks words views id v s is may) h =
      let t = is_founded words views history id v h is in inr (t.0, releases_keep k words views history t.0 t.1 id v is.at is.live s may.before may.last may.once may.due)
  quiet _ _ _ _ history (splits words views id v is zeroth room) h =
      let t = is_founded words views history id v h is in inr (splits_keep k words views history t.0 t.1 id v is.at is.live zeroth room)
  quiet _ _ _ _ history (joins words views id other v w is zeroth away there none_due none_held) h =
      let t = is_founded words views history id v h is in inr (joins_keep k words views history t.0 t.1 id v is.at is.live zeroth other w away there.at there.live none_due none_held)
  quiet _ _ _ _ history (looks words views id v shown is saw) h =
      let t = is_founded words views history id v h is in
      inr (t.0, subst (λ (n : ℕ). StandsAt k words (set views id (looking n shown v)) history t.0) (sym t.1.clock) (looks_keep k words views history t.0 t.1 id v is.at is.live shown saw.whole saw.all saw.due))

  -- a meeting of two agents whose words are known is a step of the model
  drawn_step : (words : List ℕ) (views : List View) (history : List Meeting) (seat : ℕ → Option ℕ) (st : StandsAt k words views history seat) (id : ℕ) (v : View) → Sits views id v
      → (a b : ℕ) (x y : Word) → In (a, x) v.known → In (b, y) v.known → v.due ≡ [] → a ≢ b → (m : Meeting) → m.a ≡ a → m.b ≡ b → Step k.net.value (crowd_after k history) (crowd_after k (history ++ m ∷ []))
  drawn_step words views history seat st id v is a b x y in_a in_b none_due apart m first second =
      let net = k.net.value in
      let crowd = crowd_after k history in
      let start = crowd_of net k.opening.value in
      let f = st.each id v is.at is.live in
      let long : length crowd ≡ agents_opened k = length-replay net history start ∙ length-map k.opening.value (tuple_of net) in
      let fits_a : a < length crowd = subst (λ (n : ℕ). a < n) (sym long) (f.knows a x in_a).0 in
      let fits_b : b < length crowd = subst (λ (n : ℕ). b < n) (sym long) (f.knows b y in_b).0 in
      let is_a = slice_get-get_or crowd a [] fits_a ∙ ap Some (known_after k words views history seat st id v is.at is.live none_due a x in_a) in
      let is_b = slice_get-get_or crowd b [] fits_b ∙ ap Some (known_after k words views history seat st id v is.at is.live none_due b y in_b) in
      subst (Step net crowd) ((λ i. after_meeting net (sym first i) (sym second i) crowd) ∙ sym (replay-push net history m start))
      (reaction_step net crowd a b (tuple_of net x) (tuple_of net y) apart is_a is_b (is_tuple net x) (is_tuple net y))

  draw : (words : List ℕ) (views : List View) (m : Meeting) (words' : List ℕ) (views' : List View) (history : List Meeting) → DrawStep k words views m words' views' → HasHistory k words views history
      → HasHistory k words' views' (history ++ m ∷ []) × Step k.net.value (crowd_after k history) (crowd_after k (history ++ m ∷ []))
  draw _ _ _ _ _ history (draws words views id v a b x y x' y' is may) h =
      let t = is_founded words views history id v h is in
      let same : v.setup.net.value ≡ k.net.value = ap (λ (z : Setup). z.net.value) (t.1.each id v is.at is.live).setup in
      let met : NetModel → Meeting = λ net. made v.number a b (reacts net (tuple_of net x) (tuple_of net y)) in
      let kept = draws_keep k words views history t.0 t.1 id v is.at is.live a b x y x' y' may.pair.first may.pair.second (subst (λ (net : NetModel). IsReaction net x y x' y') (sym same) may.pair.reacted) may.pair.due may.pair.apart may.pair.room may.exactly in
      let at_ticket = subst (λ (n : ℕ). StandsAt k (set words 0 (n + 1)) (set views id (meeting_made n a b x y x' y' v)) (history ++ met v.setup.net.value ∷ []) t.0) (sym t.1.clock) kept in (
        inr (t.0, subst (λ (net : NetModel). StandsAt k (set words 0 (get_or words 0 0 + 1)) (set views id (meeting_made (get_or words 0 0) a b x y x' y' v)) (history ++ met net ∷ []) t.0) same at_ticket),
        drawn_step words views history t.0 t.1 id v is a b x y may.pair.first may.pair.second may.pair.due may.pair.apart (met k.net.value) refl refl,
      )

  runs : (words : List ℕ) (views : List View) (meetings : List Meeting) (words' : List ℕ) (views' : List View) (history : List Meeting)
      → FieldRun k words views meetings words' views' → HasHistory k words views history → HasHistory k words' views' (history ++ meetings)
  runs _ _ _ _ _ history (stays words views) h = subst (HasHistory k words views) (sym (append-nil history)) h
  runs _ _ _ _ _ history (goes words views words' views' meetings words'' views'' one rest) h =
      runs words' views' meetings words'' views'' history rest (quiet words views words' views' history one h)
  runs _ _ _ _ _ history (meets words views m words' views' meetings words'' views'' one rest) h =
      subst (HasHistory k words'' views'') (append_assoc history (m ∷ []) meetings) (runs words' views' meetings words'' views'' (history ++ m ∷ []) rest (draw words views m words' views' history one h).0)

  opened : 0 < k.shards → 0 < k.seats → k.seats ≤ 64 → AreValid k.net.value k.opening.value → HasHistory k (opening_words k) (founder k ∷ []) []
  opened shards seats few valid = inl (record { limits = (shards, seats, few); valid = valid; fresh = refl; each = each }, refl)
    where
      each : (id : ℕ) (v : View) → get_elem? (founder k ∷ []) id ≡ some v → ((id ≡ 0) × (v ≡ founder k)) ⊎ (v ≡ joined_away)
      each zero v e = inl (refl, sym (some-injective (founder k) v e))
      each (suc id) v e = absurd (some-ne-none v (sym e))

found : (k : Setup) (words : List ℕ) (views : List View) → Stands k words views → (history : List Meeting) × HasHistory k words views history
found k words views h =
    ⊎_elim
    {C = (history : List Meeting) × HasHistory k words views history}
    (λ (un : IsUnfounded k words views). ([], inl (un, refl)))
    (λ (t : (history : List Meeting) × (seat : ℕ → Option ℕ) × StandsAt k words views history seat). (t.0, inr (t.1, t.2)))
    h

pub each_moment : EachMomentStands
each_moment k = record {
  opened = opened k;
  stands = λ words views history h. ⊎_elim (λ (un : IsUnfounded k words views × (history ≡ [])). inl un.0) (λ (t : At k words views history). inr (history, t.0, t.1)) h;
  has_history = found k;
  one = one_history k;
  quiet = quiet k;
  draw = draw k;
  runs = runs k;
}
