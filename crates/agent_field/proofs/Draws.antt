-- The draw of a ticket keeps the field's rule, with a history that is one meeting longer.
use Rattle.std.proofs.Common.{◌≡◌, ◌≢◌, ℕ, ◌+◌, ◌^◌, ◌<◌, ◌≤◌, true, false, List, [], ◌∷◌, ◌++◌, length, get_or, set, refl, sym, ap, ◌∙◌, subst, inl, inr, ⊎_elim, arith, length-append, length-set, get_or-set_same, get_or-set_other}
use Rattle.std.proofs.lemmas.Bool.{cases_eq}
use Rattle.std.proofs.lemmas.List.{length-map, take-append-le}
use Rattle.std.proofs.Math.Nat.{mul-le-mul_right}
use mathlib.Core.Option.{Option, none, some, some-ne-none}
use lib.ListN.{get_elem?}
use Rattle.atomic_table.proofs.Lists.{set_here}
use Rattle.pop_net.specs.declared.net.Word.{Word}
use Rattle.pop_leaf.specs.NetModel.{NetModel, Tuple, CrowdModel}
use Rattle.pop_net.specs.Lanes.{tuple_of, crowd_of, IsValid}
use Rattle.pop_leaf.specs.Reaction.{reaction, after_meeting}
use Rattle.pop_crowd.specs.declared.crowd.Meeting.{Meeting}
use Rattle.pop_crowd.specs.Replay.{replay, reacts}
use Rattle.agent_field.specs.declared.view.Logged.{Logged}
use Rattle.agent_field.specs.declared.view.Look.{Look}
use Rattle.agent_field.specs.declared.view.Setup.{Setup}
use Rattle.agent_field.specs.declared.view.View.{View}
use Rattle.agent_field.specs.History.{IsHistory, logged, calls, made}
use Rattle.agent_field.specs.Standing.{agents_opened, lock_at, agent_at, shard_of, packed, crowd_after, tuple_after, In, locks_of, joined_away, IsFirst, IsLook, LooksPart, Agrees, IsHeldBySome, StandsAt}
use Rattle.agent_field.specs.Steps.{IsReaction, without, meeting_made, IsNewest, IsDrawnAt}
use Rattle.agent_field.proofs.Without.{in_without}
use Rattle.agent_field.proofs.Histories.{history-push, calls-push_mine, calls-push_other, calls_from-below, length-most, after_meeting-first, after_meeting-second, after_meeting-other}
use Rattle.agent_field.proofs.InTurns.{lock_behind, agent_behind}
use Rattle.agent_field.proofs.Views.{at_length, set_each, one_seat, one_holder, owed_back, held_after, sits_set, not_dead}
use Rattle.agent_field.proofs.Keeps.{owed_by_none}
use Rattle.pop_crowd.proofs.Reached.{length-replay}
use Rattle.pop_crowd.proofs.InARow.{replay-push}

-- a look still shows the same as the history grows
pub look_later : (net : NetModel) (opening : List Word) (history : List Meeting) (m : Meeting) (look : Look) → IsLook net opening history look → IsLook net opening (history ++ m ∷ []) look
look_later net opening history m look h = (
  omega (arith, h.0, length-append history (m ∷ [])),
  h.1 ∙ ap (λ (ms : List Meeting). replay net ms (crowd_of net opening)) (sym (take-append-le look.ticket history (m ∷ []) h.0)),
  h.2,
)

looks_later : (k : Setup) (history : List Meeting) (m : Meeting) (looks : List Look) → LooksPart k history looks → LooksPart k (history ++ m ∷ []) looks
looks_later k history m looks h = record {
  each = λ look i. look_later k.net.value k.opening.value history m look (h.each look i);
  ascending = h.ascending;
}

-- once a and b, with the tuples of x and y, have met, their tuples are those of x' and y'
module _ (net : NetModel) (crowd : CrowdModel) (a b : ℕ) (x y x' y' : Word) (reacted : IsReaction net x y x' y') (apart : a ≢ b) (fits_a : a < length crowd) (fits_b : b < length crowd)
    (is_a : get_or crowd a [] ≡ tuple_of net x) (is_b : get_or crowd b [] ≡ tuple_of net y) where
  met_first : tuple_of net x' ≡ get_or (after_meeting net a b crowd) a []
  met_first =
      ap (λ (p : Tuple × Tuple). p.0) reacted.tuples ∙ (λ i. (reaction net (sym is_a i) (sym is_b i)).0) ∙ sym (after_meeting-first net crowd a b fits_a apart)

  met_second : tuple_of net y' ≡ get_or (after_meeting net a b crowd) b []
  met_second =
      ap (λ (p : Tuple × Tuple). p.1) reacted.tuples ∙ (λ i. (reaction net (sym is_a i) (sym is_b i)).1) ∙ sym (after_meeting-second net crowd a b fits_b)

module _ (k : Setup) (words : List ℕ) (views : List View) (history : List Meeting) (seat : ℕ → Option ℕ) (st : StandsAt k words views history seat) (id : ℕ) (v : View) (at : get_elem? views id ≡ some v) (live : v.live ≡ true) where
  mine : Agrees k words history seat id v
  mine = st.each id v at live

  -- a number without a seat has no part in a meeting of this seat
  first_later : (m : Meeting) → m.worker ≡ v.number → (next : ℕ) (taken : List _) → IsFirst k history seat next taken → IsFirst k (history ++ m ∷ []) seat next taken
  first_later m by next taken f =
      let other : (w : ℕ) → seat w ≡ none → m.worker ≢ w = λ w vacant same. some-ne-none id (sym mine.seated ∙ ap seat (sym by ∙ same) ∙ vacant) in record {
        some_next = f.some_next;
        places = f.places;
        fresh = λ w late. let was = f.fresh w late in (was.0, calls-push_other w history m (other w was.0) ∙ was.1);
        dealt = f.dealt;
        whole = λ w l is. let was = f.whole w l is in (was.0, was.1, was.2 ∙ sym (calls-push_other w history m (other w was.1)));
      }

  pub history_fits : length history < 2 ^ 63
  history_fits =
      let most = length-most k.seats (2 ^ 40) history st.right.numbers st.short in
      let few = st.few_seats in
      let more = mul-le-mul_right (2 ^ 40) few in omega arith

  pub is_newest : IsNewest (length history) v
  is_newest = record {
    own = λ e h. let t = calls_from-below v.number 0 history e (subst (In e) mine.logs h) in omega arith;
    taken_in = λ zeroth w l e is h. let t = calls_from-below w 0 history e (subst (In e) ((mine.first zeroth).whole w l is).2 h) in omega arith;
    looks = λ look h. (mine.looked.each look h).0;
  }

  -- what the seat knows of an agent is what the history gives
  pub known_after : v.due ≡ [] → (a : ℕ) (x : Word) → In (a, x) v.known → tuple_after k history a ≡ tuple_of k.net.value x
  known_after none_due a x h =
      let n = mine.knows a x h in
      sym (st.settled a n.0 (owed_by_none k words views history seat st id v at live a n.1 none_due)) ∙ ap (tuple_of k.net.value) n.2

  pub is_drawn_at : v.due ≡ [] → IsDrawnAt (length history) v
  is_drawn_at none_due =
      let f = mine in record {
        history = history;
        long = refl;
        right = subst (λ (z : Setup). IsHistory z.net.value z.seats z.opening.value history) (sym f.setup) st.right;
        logs = f.logs;
        known = λ a x h. subst (λ (z : Setup). tuple_after z history a ≡ tuple_of z.net.value x) (sym f.setup) (known_after none_due a x h);
      }

  pub draws_keep : (a b : ℕ) (x y x' y' : Word) → In (a, x) v.known → In (b, y) v.known → IsReaction v.setup.net.value x y x' y' → v.due ≡ [] → a ≢ b → length v.log < 2 ^ 40 → v.held ≡ locks_of k a b
      → StandsAt k (set words 0 (length history + 1)) (set views id (meeting_made (length history) a b x y x' y' v)) (history ++ made v.number a b (reacts v.setup.net.value (tuple_of v.setup.net.value x) (tuple_of v.setup.net.value y)) ∷ []) seat
  draws_keep a b x y x' y' in_a in_b reacted none_due apart room exactly =
      let net = k.net.value in
      let f = mine in
      let same_net : v.setup.net.value ≡ net = ap (λ (z : Setup). z.net.value) f.setup in
      let changed = reacts v.setup.net.value (tuple_of v.setup.net.value x) (tuple_of v.setup.net.value y) in
      let m = made v.number a b changed in
      let ticket = length history in
      let w = meeting_made ticket a b x y x' y' v in
      let words' = set words 0 (ticket + 1) in
      let later = history ++ m ∷ [] in
      let crowd = crowd_after k history in
      let know_a = f.knows a x in_a in
      let know_b = f.knows b y in_b in
      let is_a : tuple_after k history a ≡ tuple_of net x = known_after none_due a x in_a in
      let is_b : tuple_after k history b ≡ tuple_of net y = known_after none_due b y in_b in
      let long : length crowd ≡ agents_opened k = length-replay net history (crowd_of net k.opening.value) ∙ length-map k.opening.value (tuple_of net) in
      let fits_a : a < length crowd = subst (λ (n : ℕ). a < n) (sym long) know_a.0 in
      let fits_b : b < length crowd = subst (λ (n : ℕ). b < n) (sym long) know_b.0 in
      let reacts_so : IsReaction net x y x' y' = subst (λ (z : NetModel). IsReaction z x y x' y') same_net reacted in
      let pushed : crowd_after k later ≡ after_meeting net a b crowd = replay-push net history m (crowd_of net k.opening.value) in
      let new_a : tuple_of net x' ≡ tuple_after k later a = met_first net crowd a b x y x' y' reacts_so apart fits_a fits_b is_a is_b ∙ ap (λ (c : CrowdModel). get_or c a []) (sym pushed) in
      let new_b : tuple_of net y' ≡ tuple_after k later b = met_second net crowd a b x y x' y' reacts_so apart fits_a fits_b is_a is_b ∙ ap (λ (c : CrowdModel). get_or c b []) (sym pushed) in
      let kept : (c : ℕ) → c ≢ a → c ≢ b → tuple_after k later c ≡ tuple_after k history c = λ c not_a not_b. ap (λ (z : CrowdModel). get_or z c []) pushed ∙ after_meeting-other net crowd a b c not_a not_b in
      let longer : calls v.number later ≡ calls v.number history ++ logged ticket a b changed ∷ [] = calls-push_mine v.number history m refl in
      let clock_only : (i : ℕ) → i ≢ 0 → get_or words' i 0 ≡ get_or words i 0 = λ i more. get_or-set_other words 0 i (ticket + 1) 0 more in
      let no_agent : (c : ℕ) → get_or words' (agent_at k c) 0 ≡ get_or words (agent_at k c) 0 = λ c. clock_only (agent_at k c) (λ same. agent_behind k 0 c (omega arith) (sym same)) in
      let owes_a : (p : ℕ × Word) → p ≡ (a, x') → (p.0 < agents_opened k) × In (shard_of k p.0) v.held × (tuple_of net p.1 ≡ tuple_after k later p.0) × IsValid net p.1 = λ p same.
      subst (λ (p : ℕ × Word). (p.0 < agents_opened k) × In (shard_of k p.0) v.held × (tuple_of net p.1 ≡ tuple_after k later p.0) × IsValid net p.1) (sym same) (know_a.0, know_a.1, new_a, reacts_so.first) in
      let owes_b : (p : ℕ × Word) → p ≡ (b, y') → (p.0 < agents_opened k) × In (shard_of k p.0) v.held × (tuple_of net p.1 ≡ tuple_after k later p.0) × IsValid net p.1 = λ p same.
      subst (λ (p : ℕ × Word). (p.0 < agents_opened k) × In (shard_of k p.0) v.held × (tuple_of net p.1 ≡ tuple_after k later p.0) × IsValid net p.1) (sym same) (know_b.0, know_b.1, new_b, reacts_so.second) in
      let new : Agrees k words' later seat id w = record {
        setup = f.setup;
        seated = f.seated;
        numbered = f.numbered;
        first = λ zeroth. first_later m refl v.next v.taken (f.first zeroth);
        logs = ap (λ (l : List Logged). l ++ logged ticket a b changed ∷ []) f.logs ∙ sym longer;
        locks = λ s h. ((f.locks s h).0, clock_only (lock_at k s) (λ e. lock_behind k 0 s (omega arith) (sym e)) ∙ (f.locks s h).1);
        knows = λ c z h.
            let i = in_without a c z (without b v.known) h in
            let j = in_without b c z v.known i.0 in
            let was = f.knows c z j.0 in (
              was.0,
              was.1,
              ap packed (no_agent c) ∙ was.2,
              λ u due. ⊎_elim
                  (λ (same : (c, u) ≡ (a, x')). i.1 (ap (λ (p : ℕ × Word). p.0) same))
                  (λ (rest : In (c, u) ((b, y') ∷ [])). ⊎_elim (λ (same : (c, u) ≡ (b, y')). j.1 (ap (λ (p : ℕ × Word). p.0) same)) (λ (none : ⊥). none) rest)
                  due,
            );
        owes = λ c z h. ⊎_elim (owes_a (c, z)) (λ (rest : In (c, z) ((b, y') ∷ [])). ⊎_elim (owes_b (c, z)) (λ (none : ⊥). absurd none) rest) h;
        tight = λ c z h. (
          v.log,
          logged ticket a b changed,
          refl,
          exactly,
          ⊎_elim (λ (same : (c, z) ≡ (a, x')). inl (ap (λ (p : ℕ × Word). p.0) same)) (λ (rest : In (c, z) ((b, y') ∷ [])). ⊎_elim (λ (same : (c, z) ≡ (b, y')). inr (ap (λ (p : ℕ × Word). p.0) same)) (λ (none : ⊥). absurd none) rest) h,
        );
        looked = looks_later k history m v.looks f.looked;
      } in record {
        wide = length-set words 0 (ticket + 1) ∙ st.wide;
        some_shard = st.some_shard;
        few_seats = st.few_seats;
        founded = clock_only 1 (λ e. absurd (omega arith)) ∙ st.founded;
        clock = get_or-set_same words 0 (ticket + 1) 0 (let l = st.wide in omega arith) ∙ sym (length-append history (m ∷ []) ∙ omega arith);
        right = history-push net k.seats k.opening.value history m st.right
            (record { different = apart; first = know_a.0; second = know_b.0 }) f.numbered
            ((λ i. reacts (same_net i) (tuple_of (same_net i) x) (tuple_of (same_net i) y)) ∙ (λ i. reacts net (sym is_a i) (sym is_b i)));
        short = λ n. ⊎_elim
            (λ (same : v.number ≡ n). subst (λ (z : ℕ). length (calls z later) ≤ 2 ^ 40) same
            (let more = ap (length {A = Logged}) longer in let len = length-append (calls v.number history) (logged ticket a b changed ∷ []) in let was = ap (length {A = Logged}) f.logs in omega arith))
            (λ (not_same : v.number ≢ n). subst (λ (l : List Logged). length l ≤ 2 ^ 40) (sym (calls-push_other n history m not_same)) (st.short n))
            (cases_eq v.number n);
        grounded = st.grounded;
        sits = sits_set seat views id v w at live refl st.sits;
        locked = λ t within. ⊎_elim
            (λ (zero_word : get_or words (lock_at k t) 0 ≡ 0). inl (clock_only (lock_at k t) (λ same. lock_behind k 0 t (omega arith) (sym same)) ∙ zero_word))
            (λ (by : IsHeldBySome views t). inr (held_after views id v w t at (λ h. (live, h)) by))
            (st.locked t within);
        settled = λ c inside free_now.
            let here = set_here views id w (at_length views id v at) in
            let not_a : c ≢ a = λ same. free_now id w x' here live (inl (λ i. (same i, x'))) in
            let not_b : c ≢ b = λ same. free_now id w y' here live (inr (inl (λ i. (same i, y')))) in
            ap (λ (z : ℕ). tuple_of net (packed z)) (no_agent c)
            ∙ st.settled c inside (owed_back views id v w c at live (λ z h. absurd (subst (In (c, z)) none_due h)) free_now)
            ∙ sym (kept c not_a not_b);
        valid = λ c inside. subst (λ (z : ℕ). IsValid net (packed z)) (sym (no_agent c)) (st.valid c inside);
        each = set_each views id w (λ j u. u.live ≡ true → Agrees k words' later seat j u) (λ _. new)
            (λ j u other e alive. let g = st.each j u e alive in
            let not_theirs : (c : ℕ) → In (shard_of k c) v.held → (z : ℕ) → In (shard_of k z) u.held → z ≢ c = λ c ours z theirs same. other (one_holder k words history seat id j v u f g (shard_of k c) ours (subst (λ (t : ℕ). In (shard_of k t) u.held) same theirs)) in record {
              setup = g.setup;
              seated = g.seated;
              numbered = g.numbered;
              first = λ zeroth. first_later m refl u.next u.taken (g.first zeroth);
              logs = g.logs ∙ sym (calls-push_other u.number history m (λ same. other (one_seat k words history seat id j v u f g (sym same))));
              locks = λ s h. ((g.locks s h).0, clock_only (lock_at k s) (λ same. lock_behind k 0 s (omega arith) (sym same)) ∙ (g.locks s h).1);
              knows = λ c z h. let was = g.knows c z h in (was.0, was.1, ap packed (no_agent c) ∙ was.2, was.3);
              owes = λ c z h. let o = g.owes c z h in (o.0, o.1, o.2 ∙ sym (kept c (not_theirs a know_a.1 c o.1) (not_theirs b know_b.1 c o.1)), o.3);
              tight = g.tight;
              looked = looks_later k history m u.looks g.looked;
            });
        others = set_each views id w (λ j u. u.live ≡ false → u ≡ joined_away) (not_dead v live (w ≡ joined_away)) (λ j u other e. st.others j u e);
      }
