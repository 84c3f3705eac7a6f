-- Each step of a seat on the table is allowed, and what it establishes.
use Rattle.std.proofs.Common.{◌≡◌, ℕ, ◌+◌, ◌%◌, ◌^◌, ◌<◌, Bool, true, true≢false, eqb, List, [], ◌∷◌, ◌++◌, length, get_or, set, refl, sym, ap, ◌∙◌, subst, inr, ⊎_elim, arith, eq-eqb, ne_eqb}
use Rattle.std.proofs.lemmas.List.{set-get_or}
use mathlib.Core.Logic.{dite}
use mathlib.Core.Option.{Option, none, some}
use native.Mathlib.Decide.{ℕ_discrete}
use lib.ListN.{get_elem?}
use prog.Atomic.{either}
use Rattle.atomic_table.specs.Table.{State, step, keeps, stepped, Allows, Splits, Joins}
use Rattle.atomic_table.proofs.Lists.{set_again, set_else}
use Rattle.pop_net.specs.declared.net.Word.{Word}
use Rattle.pop_net.specs.Lanes.{tuple_of, IsValid}
use Rattle.pop_crowd.specs.declared.crowd.Meeting.{Meeting}
use Rattle.pop_crowd.specs.Replay.{reacts}
use Rattle.agent_field.specs.declared.view.Setup.{Setup}
use Rattle.agent_field.specs.declared.view.View.{View}
use Rattle.agent_field.specs.History.{made}
use Rattle.agent_field.specs.Standing.{agents_opened, lock_at, agent_at, agent_word, shard_of, In, founder, joined_away, StandsAt, IsUnfounded, FieldStands}
use Rattle.agent_field.specs.Steps.{Mine, CanLock, CanUnlock, CanRead, seen, first_seat, holding, releasing, knowing, IsReaction, MayDraw, HasSeenAll, meeting_made, writing, kept_back, newcomer, taking_in, looking, IsNewest, IsDrawnAt, IsSeenAt, Founds, Locks, Unlocks, Reads, Draws, Writes, FindsWritten, Watches}
use Rattle.agent_field.proofs.InTurns.{lock_once, agent_once}
use Rattle.agent_field.proofs.Keeps.{locks_keep, releases_keep, reads_keep, writes_keep}
use Rattle.agent_field.proofs.Draws.{draws_keep, is_newest, is_drawn_at, history_fits}
use Rattle.agent_field.proofs.Watching.{looks_keep, is_seen_at}
use Rattle.agent_field.proofs.Seating.{splits_keep, joins_keep}
use Rattle.agent_field.proofs.Founding.{founds_keep, founder_word}

abbrev pub St : Type 0
St = State (Unit {0}) View

abbrev pub Standing : Setup → List ℕ → List View → Type 0
Standing k words views = (history : List Meeting) × (seat : ℕ → Option ℕ) × StandsAt k words views history seat

module _ (k : Setup) where
  -- a field with a live seat is founded
  pub founded : (s : St) → FieldStands k s → (id : ℕ) (v : View) → get_elem? s.views id ≡ some v → v.live ≡ true → Standing k s.words s.views
  founded s h id v at live =
      ⊎_elim
      (λ (un : IsUnfounded k s.words s.views).
      ⊎_elim
      (λ (t : (id ≡ 0) × (v ≡ founder k)). absurd (true≢false (sym live ∙ ap (λ (u : View). u.live) t.1)))
      (λ (e : v ≡ joined_away). absurd (true≢false (sym live ∙ ap (λ (u : View). u.live) e)))
      (un.each id v at))
      (λ (t : Standing k s.words s.views). t)
      h

  unmoved : (s : St) (i id : ℕ) (me : Mine) → FieldStands k s → get_elem? s.views id ≡ some me.0 → FieldStands k (stepped s i (get_or s.words i 0) id me.1 me.0 keeps)
  unmoved s i id me h at =
      subst (λ (t : List ℕ × List View). FieldStands k (record { words = t.0; homes = s.homes; views = t.1 })) (λ j. (sym (set-get_or s.words i 0) j, sym (set_again s.views id me.0 at) j)) h

  locks : (slots id : ℕ) (me : Mine) (s n : ℕ) → me.0.live ≡ true → me.0.setup ≡ k → me.0.number + 1 ≡ n → s < k.shards → me.0.due ≡ []
      → Allows (FieldStands k) slots id me (lock_at k s) (λ r. either (eqb r 0) n r) (Locks (step slots (lock_at k s) 0 n none) me)
  locks slots id me s n live setup is inside none_due state h _ at _ =
      let x : ℕ = get_or state.words (lock_at k s) 0 in
      let w = holding s me.0 in
      let may : CanLock me.0.setup me.0 s = record { inside = subst (λ (z : Setup). s < z.shards) (sym setup) inside; due = none_due } in
      let allowed : (t : ℕ) × (lock_at k s ≡ lock_at me.0.setup t) × (◌≡◌ {A = ℕ} 0 0) × (n ≡ me.0.number + 1) × CanLock me.0.setup me.0 t = (s, ap (λ (z : Setup). lock_at z s) (sym setup), refl, sym is, may) in
      dite (ℕ_discrete x 0)
      (λ hit. let t = founded state h id me.0 at live in (
        w,
        keeps,
        tt,
        subst (λ (b : Bool). FieldStands k (stepped state (lock_at k s) (either b n x) id me.1 w keeps)) (sym (eq-eqb x 0 hit))
            (inr (t.0, t.1, subst (λ (m : ℕ). StandsAt k (set state.words (lock_at k s) m) (set state.views id w) t.0 t.1) is (locks_keep k state.words state.views t.0 t.1 t.2 id me.0 at live s inside hit none_due))),
        ((λ t same _. ap (λ (z : ℕ). (holding z me.0, me.1)) (lock_once k s t (same ∙ ap (λ (z : Setup). lock_at z t) setup))), (λ not. absurd (not hit)), allowed),
      ))
      (λ miss. (
        me.0,
        keeps,
        tt,
        subst (λ (b : Bool). FieldStands k (stepped state (lock_at k s) (either b n x) id me.1 me.0 keeps)) (sym (ne_eqb x 0 miss)) (unmoved state (lock_at k s) id me h at),
        ((λ t same hit. absurd (miss hit)), (λ _. refl), allowed),
      ))

  unlocks : (slots id : ℕ) (me : Mine) (s : ℕ) → me.0.live ≡ true → me.0.setup ≡ k → CanUnlock me.0 s
      → Allows (FieldStands k) slots id me (lock_at k s) (λ _. 0) (λ _. Unlocks (step slots (lock_at k s) 0 0 none) me 0)
  unlocks slots id me s live setup may state h _ at _ =
      let t = founded state h id me.0 at live in (
        releasing me.0,
        keeps,
        tt,
        inr (t.0, t.1, releases_keep k state.words state.views t.0 t.1 t.2 id me.0 at live s may.before may.last may.once may.due),
        (refl, (s, ap (λ (z : Setup). lock_at z s) (sym setup), refl, may)),
      )

  reads : (slots id : ℕ) (me : Mine) (a : ℕ) → me.0.live ≡ true → me.0.setup ≡ k → a < agents_opened k → In (shard_of k a) me.0.held → ((y : Word) → In (a, y) me.0.due → ⊥)
      → Allows (FieldStands k) slots id me (agent_at k a) (λ r. r) (Reads (step slots (agent_at k a) 0 0 none) me)
  reads slots id me a live setup in_range held not_due state h _ at _ =
      let t = founded state h id me.0 at live in
      let x : Word = agent_word k state.words a in
      let may : CanRead me.0.setup me.0 a = subst (λ (z : Setup). CanRead z me.0 a) (sym setup) (record { inside = in_range; locked = held; due = not_due }) in (
        knowing a x me.0,
        keeps,
        tt,
        inr (t.0, t.1, subst (λ (ws : List ℕ). StandsAt k ws (set state.views id (knowing a x me.0)) t.0 t.1) (sym (set-get_or state.words (agent_at k a) 0)) (reads_keep k state.words state.views t.0 t.1 t.2 id me.0 at live a in_range held not_due)),
        ((λ b same. ap (λ (z : ℕ). (knowing z x me.0, me.1)) (agent_once k a b (same ∙ ap (λ (z : Setup). agent_at z b) setup))), subst (λ (z : Setup). IsValid z.net.value x) (sym setup) (t.2.valid a in_range), (a, ap (λ (z : Setup). agent_at z a) (sym setup), may)),
      )

  pub draws : (slots id : ℕ) (me : Mine) (a b : ℕ) (x y x' y' : Word) → me.0.live ≡ true → me.0.setup ≡ k → me.0.known ≡ (b, y) ∷ (a, x) ∷ [] → MayDraw k me.0 a b x y x' y'
      → Allows (FieldStands k) slots id me 0 (λ r. (r + 1) % 2 ^ 64) (Draws (step slots 0 1 0 none) me)
  draws slots id me a b x y x' y' live setup known may state h _ at _ =
      let t = founded state h id me.0 at live in
      let st = t.2 in
      let n : ℕ = get_or state.words 0 0 in
      let w = meeting_made (length t.0) a b x y x' y' me.0 in
      let net = me.0.setup.net.value in
      let reacted = subst (λ (z : Setup). IsReaction z.net.value x y x' y') (sym setup) may.pair.reacted in
      let later = t.0 ++ made me.0.number a b (reacts net (tuple_of net x) (tuple_of net y)) ∷ [] in
      let next : length t.0 + 1 ≡ (n + 1) % 2 ^ 64 = let few = history_fits k state.words state.views t.0 t.1 st id me.0 at live in let is = st.clock in omega arith in (
        w,
        keeps,
        tt,
        inr (later, t.1, subst (λ (m : ℕ). StandsAt k (set state.words 0 m) (set state.views id w) later t.1) next (draws_keep k state.words state.views t.0 t.1 st id me.0 at live a b x y x' y' may.pair.first may.pair.second reacted may.pair.due may.pair.apart may.pair.room may.exactly)),
        (
          record {
            a = a;
            b = b;
            x = x;
            y = y;
            x' = x';
            y' = y';
            known = known;
            may = subst (λ (z : Setup). MayDraw z me.0 a b x y x' y') (sym setup) may;
            met = ap (λ (m : ℕ). (meeting_made m a b x y x' y' me.0, me.1)) (sym st.clock);
          },
          subst (λ (m : ℕ). IsNewest m me.0) (sym st.clock) (is_newest k state.words state.views t.0 t.1 st id me.0 at live),
          subst (λ (m : ℕ). IsDrawnAt m me.0) (sym st.clock) (is_drawn_at k state.words state.views t.0 t.1 st id me.0 at live may.pair.due),
          refl,
          refl,
        ),
      )

  pub watches : (slots id : ℕ) (me : Mine) → me.0.live ≡ true → me.0.setup ≡ k → HasSeenAll k me.0 (seen me.0.known) → Allows (FieldStands k) slots id me 0 (λ r. r) (Watches (step slots 0 0 0 none) me)
  watches slots id me live setup saw state h _ at _ =
      let t = founded state h id me.0 at live in
      let st = t.2 in
      let shown = seen me.0.known in
      let w = looking (length t.0) shown me.0 in (
        w,
        keeps,
        tt,
        inr (t.0, t.1, subst (λ (ws : List ℕ). StandsAt k ws (set state.views id w) t.0 t.1) (sym (set-get_or state.words 0 0)) (looks_keep k state.words state.views t.0 t.1 st id me.0 at live shown saw.whole saw.all saw.due)),
        (
          ap (λ (m : ℕ). (looking m shown me.0, me.1)) (sym st.clock),
          subst (λ (m : ℕ). IsNewest m me.0) (sym st.clock) (is_newest k state.words state.views t.0 t.1 st id me.0 at live),
          subst (λ (m : ℕ). IsSeenAt m shown me.0) (sym st.clock) (is_seen_at k state.words state.views t.0 t.1 st id me.0 at live shown saw.whole saw.all saw.due),
          subst (λ (z : Setup). HasSeenAll z me.0 shown) (sym setup) saw,
          refl,
        ),
      )

  writes : (slots id : ℕ) (me : Mine) (a : ℕ) (y : Word) → me.0.live ≡ true → me.0.setup ≡ k → In (a, y) me.0.due
      → Allows (FieldStands k) slots id me (agent_at k a) (λ _. y.0) (λ _. Writes (step slots (agent_at k a) y.0 0 none) me y.0)
  writes slots id me a y live setup is state h _ at _ =
      let t = founded state h id me.0 at live in (
        writing a me.0,
        keeps,
        tt,
        inr (t.0, t.1, writes_keep k state.words state.views t.0 t.1 t.2 id me.0 at live a y is),
        (
          (λ b same. ap (λ (z : ℕ). (writing z me.0, me.1)) (agent_once k a b (same ∙ ap (λ (z : Setup). agent_at z b) setup))),
          (a, ap (λ (z : Setup). agent_at z a) (sym setup), is),
        ),
      )

  finds_written : (slots id : ℕ) (me : Mine) (a : ℕ) (y : Word) → me.0.live ≡ true → me.0.setup ≡ k → In (a, y) me.0.due
      → Allows (FieldStands k) slots id me (agent_at k a) (λ r. r) (FindsWritten (step slots (agent_at k a) 0 0 none) me)
  finds_written slots id me a y live setup is state h _ at _ =
      let x : ℕ = get_or state.words (agent_at k a) 0 in
      let place : agent_at k a ≡ agent_at me.0.setup a = ap (λ (z : Setup). agent_at z a) (sym setup) in
      dite (ℕ_discrete x y.0)
      (λ hit. let t = founded state h id me.0 at live in (
        writing a me.0,
        keeps,
        tt,
        inr (t.0, t.1, subst (λ (n : ℕ). StandsAt k (set state.words (agent_at k a) n) (set state.views id (writing a me.0)) t.0 t.1) (sym hit) (writes_keep k state.words state.views t.0 t.1 t.2 id me.0 at live a y is)),
        (a, y, place, is, (λ _. refl), λ miss. absurd (miss hit)),
      ))
      (λ miss. (me.0, keeps, tt, unmoved state (agent_at k a) id me h at, (a, y, place, is, (λ hit. absurd (miss hit)), λ _. refl)))

  pub splits : (id : ℕ) (v : View) → v.live ≡ true → v.number ≡ 0 → v.next < k.seats → Splits (FieldStands k) id v (kept_back v) (newcomer v)
  splits id v live zeroth room state h at =
      let t = founded state h id v at live in
      let t' = splits_keep k state.words state.views t.0 t.1 t.2 id v at live zeroth room in
      inr (t.0, t'.0, t'.1)

  pub joins : (id : ℕ) (v : View) (other : ℕ) (z : View) → v.live ≡ true → v.number ≡ 0 → z.live ≡ true → z.due ≡ [] → z.held ≡ [] → Joins (FieldStands k) id v other z (taking_in v z) joined_away
  joins id v other z live zeroth alive none_due none_held state h at away there =
      let t = founded state h id v at live in
      let t' = joins_keep k state.words state.views t.0 t.1 t.2 id v at live zeroth other z away (sym (set_else state.views id other (taking_in v z) away) ∙ there) alive none_due none_held in
      inr (t.0, t'.0, t'.1)

  -- the founder's seat finds the founder word at 0
  pub founds : (slots id : ℕ) (me : Mine) → me.0 ≡ founder k → Allows (FieldStands k) slots id me 1 (λ _. 1) (Founds (step slots 1 1 0 none) me)
  founds slots id me is state h _ at _ =
      ⊎_elim
      (λ (un : IsUnfounded k state.words state.views).
      let at' : get_elem? state.views id ≡ some (founder k) = at ∙ ap (λ (v : View). some v) is in
      let t = founds_keep k state.words state.views un id at' in (
        first_seat k,
        keeps,
        tt,
        inr ([], t.0, t.1),
        (founder_word k state.words state.views un, ap (λ (v : View). (first_seat v.setup, me.1)) (sym is), refl, refl),
      ))
      (λ (t : Standing k state.words state.views).
      absurd (true≢false (ap (λ (v : View). v.founding) (sym is) ∙ ap (λ (v : View). v.founding) (t.2.others id me.0 at (ap (λ (v : View). v.live) is)))))
      h

  -- the same, with the word's place written in another way
  pub locks_at : (slots id : ℕ) (me : Mine) (s n i : ℕ) → i ≡ lock_at k s → me.0.live ≡ true → me.0.setup ≡ k → me.0.number + 1 ≡ n → s < k.shards → me.0.due ≡ []
      → Allows (FieldStands k) slots id me i (λ r. either (eqb r 0) n r) (Locks (step slots i 0 n none) me)
  locks_at slots id me s n i is live setup number inside none_due =
      subst (λ (j : ℕ). Allows (FieldStands k) slots id me j (λ r. either (eqb r 0) n r) (Locks (step slots j 0 n none) me)) (sym is) (locks slots id me s n live setup number inside none_due)

  pub unlocks_at : (slots id : ℕ) (me : Mine) (s i : ℕ) → i ≡ lock_at k s → me.0.live ≡ true → me.0.setup ≡ k → CanUnlock me.0 s
      → Allows (FieldStands k) slots id me i (λ _. 0) (λ _. Unlocks (step slots i 0 0 none) me 0)
  unlocks_at slots id me s i is live setup may =
      subst (λ (j : ℕ). Allows (FieldStands k) slots id me j (λ _. 0) (λ _. Unlocks (step slots j 0 0 none) me 0)) (sym is) (unlocks slots id me s live setup may)

  pub reads_at : (slots id : ℕ) (me : Mine) (a i : ℕ) → i ≡ agent_at k a → me.0.live ≡ true → me.0.setup ≡ k → a < agents_opened k → In (shard_of k a) me.0.held → ((y : Word) → In (a, y) me.0.due → ⊥)
      → Allows (FieldStands k) slots id me i (λ r. r) (Reads (step slots i 0 0 none) me)
  reads_at slots id me a i is live setup in_range held not_due =
      subst (λ (j : ℕ). Allows (FieldStands k) slots id me j (λ r. r) (Reads (step slots j 0 0 none) me)) (sym is) (reads slots id me a live setup in_range held not_due)

  pub writes_at : (slots id : ℕ) (me : Mine) (a : ℕ) (y : Word) (i : ℕ) → i ≡ agent_at k a → me.0.live ≡ true → me.0.setup ≡ k → In (a, y) me.0.due
      → Allows (FieldStands k) slots id me i (λ _. y.0) (λ _. Writes (step slots i y.0 0 none) me y.0)
  writes_at slots id me a y i is live setup owed =
      subst (λ (j : ℕ). Allows (FieldStands k) slots id me j (λ _. y.0) (λ _. Writes (step slots j y.0 0 none) me y.0)) (sym is) (writes slots id me a y live setup owed)

  pub finds_written_at : (slots id : ℕ) (me : Mine) (a : ℕ) (y : Word) (i : ℕ) → i ≡ agent_at k a → me.0.live ≡ true → me.0.setup ≡ k → In (a, y) me.0.due
      → Allows (FieldStands k) slots id me i (λ r. r) (FindsWritten (step slots i 0 0 none) me)
  finds_written_at slots id me a y i is live setup owed =
      subst (λ (j : ℕ). Allows (FieldStands k) slots id me j (λ r. r) (FindsWritten (step slots j 0 0 none) me)) (sym is) (finds_written slots id me a y live setup owed)
