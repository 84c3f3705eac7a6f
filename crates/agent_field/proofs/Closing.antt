-- What holds once every seat was taken in.
use Rattle.std.proofs.Common.{◌≡◌, ◌≢◌, ℕ, zero, suc, ◌<◌, ◌≤◌, true, true≢false, List, [], ◌∷◌, length, get_or, refl, sym, ap, ◌∙◌, subst, inl, inr, ⊎_elim, arith, zero-add, Option, Some, None}
use Rattle.std.specs.Prelude.{IsSome, All}
use Rattle.std.proofs.lemmas.Bool.{cases_eq, cases_lt}
use Rattle.std.proofs.lemmas.List.{length-map, get_or-map, ext_get_or}
use Rattle.std.proofs.lemmas.List.FromFn.{length-map-range_with_len, get_or-map-range_with_len}
use Rattle.std.proofs.Math.ListN.{replicate, length-replicate}
use mathlib.Core.Option.{Option as Seated, some, some-injective, some-ne-none}
use lib.ListN.{get_elem?}
use Rattle.atomic_table.specs.Table.{Final, Seen}
use Rattle.pop_net.specs.declared.net.Word.{Word}
use Rattle.pop_net.specs.Lanes.{tuple_of, crowd_of, IsValid, AreValid}
use Rattle.pop_crowd.specs.declared.crowd.Meeting.{Meeting}
use Rattle.agent_field.specs.declared.view.Logged.{Logged}
use Rattle.agent_field.specs.declared.view.Look.{Look}
use Rattle.agent_field.specs.declared.view.Setup.{Setup}
use Rattle.agent_field.specs.declared.view.View.{View}
use Rattle.agent_field.specs.declared.field.Field.{Field}
use Rattle.agent_field.specs.declared.field.FieldSeat.{FieldSeat}
use Rattle.agent_field.specs.History.{IsHistory, calls, placed, placed_logs}
use Rattle.agent_field.specs.Standing.{In, agents_opened, packed, agent_word, crowd_after, IsLook, IsOwedByNone, StandsAt, FieldStands, idle}
use Rattle.agent_field.specs.Layouts.{renewed}
use Rattle.agent_field.specs.Seats.{IsWhole}
use Rattle.agent_field.specs.Steps.{Mine}
use Rattle.agent_field.proofs.Histories.{calls_from-below}
use Rattle.agent_field.proofs.Moves.{founded}
use Rattle.agent_field.proofs.Renewing.{agent_words, all_renewed}
use Rattle.agent_field.proofs.Arranged.{nobody, AreLogsOf, calls_from-has, arranged}
use Rattle.pop_crowd.proofs.Reached.{length-replay}

pub some_value : {A : Type 0} (o : Option A) → IsSome o → (a : A) × (o ≡ Some a)
some_value None h = absurd (true≢false (sym h))
some_value (Some a) h = (a, refl)

module _ (k : Setup) (words : List ℕ) (views : List View) (history : List Meeting) (seat : ℕ → Seated ℕ) (st : StandsAt k words views history seat) (id : ℕ) (v : View) (at : get_elem? views id ≡ some v) (live : v.live ≡ true) (zeroth : v.number ≡ 0)
    (whole : (w : ℕ) → 0 < w → w < v.next → IsSome (get_or v.taken w None)) (none_due : v.due ≡ []) where
  -- no other seat is live
  alone : (j : ℕ) (u : View) → get_elem? views j ≡ some u → u.live ≡ true → u ≡ v
  alone j u e alive =
      let f = st.each id v at live in
      let g = st.each j u e alive in
      let first = f.first zeroth in
      let n = u.number in
      let is_zero : n ≡ 0 = ⊎_elim
      (λ (z : n ≡ 0). z)
      (λ (more : n ≢ 0). ⊎_elim
      (λ (early : n < v.next). let t = some_value (get_or v.taken n None) (whole n (omega arith) early) in absurd (some-ne-none j (sym g.seated ∙ (first.whole n t.0 t.1).1)))
      (λ (late : v.next ≤ n). absurd (some-ne-none j (sym g.seated ∙ (first.fresh n late).0)))
      (cases_lt n v.next))
      (cases_eq n 0) in
      let same : j ≡ id = some-injective j id (sym g.seated ∙ ap seat (is_zero ∙ sym zeroth) ∙ f.seated) in
      some-injective u v (sym e ∙ ap (get_elem? views) same ∙ at)

  owed_by_none : (a : ℕ) → IsOwedByNone views a
  owed_by_none a j u x e alive h = subst (In (a, x)) none_due (subst (λ (z : View). In (a, x) z.due) (alone j u e alive) h)

  closes_words : crowd_of k.net.value (agent_words k words) ≡ crowd_after k history
  closes_words =
      let net = k.net.value in
      let all = agent_words k words in
      let many : length all ≡ agents_opened k = length-map-range_with_len (agent_word k words) 0 (agents_opened k) in
      ext_get_or [] (crowd_of net all) (crowd_after k history)
      (length-map all (tuple_of net) ∙ many ∙ sym (length-replay net history (crowd_of net k.opening.value) ∙ length-map k.opening.value (tuple_of net)))
      (λ a h.
      let fits : a < length all = subst (λ (n : ℕ). a < n) (length-map all (tuple_of net)) h in
      let inside : a < agents_opened k = subst (λ (n : ℕ). a < n) many fits in
      get_or-map (tuple_of net) all a (packed 0) [] fits
      ∙ ap (tuple_of net) (get_or-map-range_with_len (agent_word k words) 0 (agents_opened k) a a (packed 0) inside (zero-add a))
      ∙ st.settled a inside (owed_by_none a))

  closes_valid : AreValid k.net.value (agent_words k words)
  closes_valid a d h =
      let inside : a < agents_opened k = subst (λ (n : ℕ). a < n) (length-map-range_with_len (agent_word k words) 0 (agents_opened k)) h in
      subst (IsValid k.net.value) (sym (get_or-map-range_with_len (agent_word k words) 0 (agents_opened k) a a d inside (zero-add a))) (st.valid a inside)

  -- a number whose log was not taken in has made nothing
  closes_rest : (w : ℕ) → w ≢ 0 → get_or v.taken w None ≡ None → calls w history ≡ []
  closes_rest w more none_taken =
      let first = (st.each id v at live).first zeroth in
      ⊎_elim
      (λ (early : w < v.next). let t = some_value (get_or v.taken w None) (whole w (omega arith) early) in absurd (let clash : None ≡ Some t.0 = sym none_taken ∙ t.1 in cc))
      (λ (late : v.next ≤ w). (first.fresh w late).1)
      (cases_lt w v.next)

  closes_logs : AreLogsOf history v.log v.taken
  closes_logs =
      let f = st.each id v at live in
      let first = f.first zeroth in record {
        own_log = f.logs ∙ ap (λ (n : ℕ). calls n history) zeroth;
        taken_logs = λ w l e. (first.whole w l e).2;
        all = λ i h.
            let w = (get_or history i nobody).worker in
            ⊎_elim
            (λ (z : w ≡ 0). inl z)
            (λ (more : w ≢ 0). inr (⊎_elim
            (λ (early : w < v.next). some_value (get_or v.taken w None) (whole w (omega arith) early))
            (λ (late : v.next ≤ w). absurd (subst (In _) (first.fresh w late).1 (calls_from-has w 0 history i h refl)))
            (cases_lt w v.next)))
            (cases_eq w 0);
      }

-- the words of a closed field, with the logs and looks of its last seat, are those of a history
pub record Ended (k : Setup) (words : List ℕ) (own : List Logged) (taken : List (Option (List Logged))) (looks : List Look) : Type 0 where
  pub history : List Meeting
  pub count : get_or words 0 0 ≡ length history
  pub agents : crowd_of k.net.value (agent_words k words) ≡ crowd_after k history
  pub valid : AreValid k.net.value (agent_words k words)
  pub right : IsHistory k.net.value k.seats k.opening.value history
  pub logs : AreLogsOf history own taken
  pub rest : (w : ℕ) → w ≢ 0 → get_or taken w None ≡ None → calls w history ≡ []
  pub looked : (look : Look) → In look looks → IsLook k.net.value k.opening.value history look

ended : (k : Setup) (words : List ℕ) (slots : List (Unit {0})) (id : ℕ) (v : View) (number : ℕ) (own : List Logged) (next : ℕ) (taken : List (Option (List Logged))) (looks : List Look)
    → Final (Seen (FieldStands k) id v) words slots → v ≡ idle v.setup number own next taken looks → number ≡ 0 → ((w : ℕ) → 0 < w → w < next → IsSome (get_or taken w None)) → Ended k words own taken looks
ended k words slots id v number own next taken looks final is zeroth whole =
    let s = final.0 in
    let live : v.live ≡ true = ap (λ (u : View). u.live) is in
    let t = founded k s final.1.0 id v final.1.1 live in
    let zero : v.number ≡ 0 = ap (λ (u : View). u.number) is ∙ zeroth in
    let whole' : (w : ℕ) → 0 < w → w < v.next → IsSome (get_or v.taken w None) = subst (λ (u : View). (w : ℕ) → 0 < w → w < u.next → IsSome (get_or u.taken w None)) (sym is) whole in
    let none_due : v.due ≡ [] = ap (λ (u : View). u.due) is in
    let logs = closes_logs k s.words s.views t.0 t.1 t.2 id v final.1.1 live zero whole' none_due in
    let agents = closes_words k s.words s.views t.0 t.1 t.2 id v final.1.1 live zero whole' none_due in
    let valid = closes_valid k s.words s.views t.0 t.1 t.2 id v final.1.1 live zero whole' none_due in record {
      history = t.0;
      count = ap (λ (l : List ℕ). get_or l 0 0) (sym final.2) ∙ t.2.clock;
      agents = ap (λ (l : List ℕ). crowd_of k.net.value (agent_words k l)) (sym final.2) ∙ agents;
      valid = subst (λ (l : List ℕ). AreValid k.net.value (agent_words k l)) final.2 valid;
      right = t.2.right;
      logs = subst (λ (u : View). AreLogsOf t.0 u.log u.taken) is logs;
      rest = subst (λ (u : View). (w : ℕ) → w ≢ 0 → get_or u.taken w None ≡ None → calls w t.0 ≡ []) is (closes_rest k s.words s.views t.0 t.1 t.2 id v final.1.1 live zero whole' none_due);
      looked = λ look h. (t.2.each id v final.1.1 live).looked.each look (subst (λ (u : View). In look u.looks) (sym is) h);
    }

pub at_value : (l : List ℕ) (i a : ℕ) → get_elem? l i ≡ some a → get_or l i 0 ≡ a
at_value [] i a e = absurd (some-ne-none a (sym e))
at_value (x ∷ xs) zero a e = some-injective x a e
at_value (x ∷ xs) (suc i) a e = at_value xs i a e

get_or-in : {A : Type 0} (l : List A) (i : ℕ) (d : A) → i < length l → In (get_or l i d) l
get_or-in [] i d h = absurd (omega arith)
get_or-in (x ∷ xs) zero d h = inl refl
get_or-in (x ∷ xs) (suc i) d h = inr (get_or-in xs i d (omega arith))

pub tickets_below : (number count : ℕ) (history : List Meeting) (log : List Logged) → log ≡ calls number history → length history ≡ count → All (λ (e : Logged). e.ticket < count) log
tickets_below number count history log is long i d h =
    let b = calls_from-below number 0 history (get_or log i d) (subst (In (get_or log i d)) is (get_or-in log i d h)) in omega arith

-- what a closed field gives
pub record IsRoundOf (k : Setup) (own : List Logged) (taken : List (Option (List Logged))) (looks : List Look) (words : List Word) (meetings : List Meeting) : Type 0 where
  pub replayed : crowd_of k.net.value words ≡ crowd_after k meetings
  pub valid : AreValid k.net.value words
  pub right : IsHistory k.net.value k.seats k.opening.value meetings
  pub own_log : calls 0 meetings ≡ own
  pub taken_logs : (w : ℕ) (l : List Logged) → get_or taken w None ≡ Some l → calls w meetings ≡ l
  pub no_others : (w : ℕ) → w ≢ 0 → get_or taken w None ≡ None → calls w meetings ≡ []
  pub looked : All (IsLook k.net.value k.opening.value meetings) looks

-- what is put together from the logs is the history
pub history_is : (k : Setup) (all : List ℕ) (own : List Logged) (taken : List (Option (List Logged))) (looks : List Look) (count : ℕ) (meetings : List Meeting)
    (e : Ended k all own taken looks) → get_elem? all 0 ≡ some count → meetings ≡ placed_logs (0, placed 0 (replicate count nobody) own) taken → e.history ≡ meetings
history_is k all own taken looks count meetings e first put =
    let long : length (replicate count nobody) ≡ length e.history = length-replicate count nobody ∙ sym (at_value all 0 count first) ∙ e.count in
    sym (put ∙ arranged e.history (replicate count nobody) own taken long e.logs)

-- and the renewed words are its replay
pub rounds : (k : Setup) (all : List ℕ) (own : List Logged) (taken : List (Option (List Logged))) (looks : List Look) (words : List Word) (meetings : List Meeting)
    (e : Ended k all own taken looks) → e.history ≡ meetings → AreValid k.net.value k.opening.value → words ≡ renewed k.shards all meetings k.opening.value → IsRoundOf k own taken looks words meetings
rounds k all own taken looks words meetings e same opened renews =
    let are : words ≡ agent_words k all = renews ∙ ap (λ (ms : List Meeting). renewed k.shards all ms k.opening.value) (sym same) ∙ all_renewed k all e.history opened e.right e.agents e.valid in record {
      replayed = ap (crowd_of k.net.value) are ∙ e.agents ∙ ap (crowd_after k) same;
      valid = subst (AreValid k.net.value) (sym are) e.valid;
      right = subst (IsHistory k.net.value k.seats k.opening.value) same e.right;
      own_log = ap (calls 0) (sym same) ∙ sym e.logs.own_log;
      taken_logs = λ w l is. ap (calls w) (sym same) ∙ sym (e.logs.taken_logs w l is);
      no_others = λ w more none_taken. ap (calls w) (sym same) ∙ e.rest w more none_taken;
      looked = λ i d h. subst (λ (ms : List Meeting). IsLook k.net.value k.opening.value ms (get_or looks i d)) same (e.looked (get_or looks i d) (get_or-in looks i d h));
    }

pub the_end : (f : Field) (s : FieldSeat) (words : List ℕ) (slots : List (Unit {0})) → Final (Seen (FieldStands f.table.shared.key) s.seat.id s.seat.me.0) words slots → IsWhole s → Ended f.table.shared.key words s.log.items s.taken.items s.looks.items
the_end f s words slots final whole =
    ended f.table.shared.key words slots s.seat.id s.seat.me.0 s.number s.log.items s.next s.taken.items s.looks.items final (ap (λ (m : Mine). m.0) s.is_idle) whole.0 whole.1
