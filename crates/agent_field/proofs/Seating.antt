-- Splitting a seat off and taking one in keep the field's rule.
use Rattle.std.proofs.Common.{◌≡◌, ◌≢◌, ◌⊎◌, ℕ, zero, suc, ◌<◌, ◌≤◌, Bool, true, false, true≢false, eqb, List, [], ◌∷◌, ◌++◌, length, get_or, set, refl, sym, ap, ◌∙◌, subst, inl, inr, ⊎_elim, arith, length-set, get_or-set_same, get_or-set_other, eq-eqb, ne_eqb, cond}
use Rattle.std.specs.Prelude.{is_some, Some as Given, None as Missing}
use Rattle.std.proofs.lemmas.Bool.{cases_eq, cases_lt}
use mathlib.Core.Option.{Option, none, some, some-injective, some-ne-none}
use lib.ListN.{get_elem?}
use Rattle.atomic_table.proofs.Lists.{at_longer, at_last, set_else}
use Rattle.pop_crowd.specs.declared.crowd.Meeting.{Meeting}
use Rattle.agent_field.specs.declared.view.Setup.{Setup}
use Rattle.agent_field.specs.declared.view.View.{View}
use Rattle.agent_field.specs.History.{calls}
use Rattle.agent_field.specs.Standing.{lock_at, In, joined_away, IsFirst, Agrees, IsHeldBySome, StandsAt}
use Rattle.agent_field.specs.Steps.{kept_back, newcomer, taking_in}
use Rattle.agent_field.proofs.Views.{set_each, one_seat, owed_back, held_after, sits_set}

-- the seat of each number, after number n was given the seat i, or none
pub seat_for : (ℕ → Option ℕ) → ℕ → Option ℕ → ℕ → Option ℕ
seat_for seat n i w = cond (eqb w n) i (seat w)

pub seat_for-same : (seat : ℕ → Option ℕ) (n : ℕ) (i : Option ℕ) → seat_for seat n i n ≡ i
unfolding seat_for
seat_for-same seat n i = ap (λ (b : Bool). cond b i (seat n)) (eq-eqb n n refl)

pub seat_for-other : (seat : ℕ → Option ℕ) (n w : ℕ) (i : Option ℕ) → w ≢ n → seat_for seat n i w ≡ seat w
unfolding seat_for
seat_for-other seat n w i apart = ap (λ (b : Bool). cond b i (seat w)) (ne_eqb w n apart)

-- a view added at the end
at_push : {A : Type 0} (l : List A) (a b : A) (j : ℕ) → get_elem? (l ++ a ∷ []) j ≡ some b → (get_elem? l j ≡ some b) ⊎ ((j ≡ length l) × (a ≡ b))
at_push [] a b zero e = inr (refl, some-injective a b e)
at_push [] a b (suc j) e = absurd (some-ne-none b (sym e))
at_push (x ∷ xs) a b zero e = inl e
at_push (x ∷ xs) a b (suc j) e = ⊎_elim (λ was. inl was) (λ (t : (j ≡ length xs) × (a ≡ b)). inr (ap suc t.0, t.1)) (at_push xs a b j e)

-- what still holds for a view when only the seats of other numbers change
reseated : (k : Setup) (words : List ℕ) (history : List Meeting) (seat seat' : ℕ → Option ℕ) (id : ℕ) (u : View) → Agrees k words history seat id u → seat' u.number ≡ some id → (u.number ≡ 0 → IsFirst k history seat' u.next u.taken) → Agrees k words history seat' id u
reseated k words history seat seat' id u g seated first = record {
  setup = g.setup;
  seated = seated;
  numbered = g.numbered;
  first = first;
  logs = g.logs;
  locks = g.locks;
  knows = g.knows;
  owes = g.owes;
  tight = g.tight;
  looked = g.looked;
}

module _ (k : Setup) (words : List ℕ) (views : List View) (history : List Meeting) (seat : ℕ → Option ℕ) (st : StandsAt k words views history seat) (id : ℕ) (v : View) (at : get_elem? views id ≡ some v) (live : v.live ≡ true) (zeroth : v.number ≡ 0) where
  only : (j : ℕ) (u : View) → j ≢ id → Agrees k words history seat j u → (A : Type 0) → u.number ≡ 0 → A
  only j u apart g A zero_too = absurd (apart (one_seat k words history seat id j v u (st.each id v at live) g (zero_too ∙ sym zeroth)))

  pub splits_keep : v.next < k.seats → (seat' : ℕ → Option ℕ) × StandsAt k words (set views id (kept_back v) ++ newcomer v ∷ []) history seat'
  splits_keep room =
      let f = st.each id v at live in
      let first = f.first zeroth in
      let n = v.next in
      let w = kept_back v in
      let i = length views in
      let seat' = seat_for seat n (some i) in
      let vacant : seat n ≡ none = (first.fresh n (omega arith)).0 in
      let same_seat : (m j : ℕ) → seat m ≡ some j → seat' m ≡ some j = λ m j there. seat_for-other seat n m (some i) (λ is. some-ne-none j (sym there ∙ ap seat is ∙ vacant)) ∙ there in
      let mine' : Agrees k words history seat' id w = record {
        setup = f.setup;
        seated = same_seat v.number id f.seated;
        numbered = f.numbered;
        first = λ _. record {
          some_next = (omega arith, omega arith);
          places = first.places;
          fresh = λ m late. let was = first.fresh m (omega arith) in (seat_for-other seat n m (some i) (λ is. absurd (omega arith)) ∙ was.0, was.1);
          dealt = λ m early vacant'. ⊎_elim
              (λ (same : m ≡ n). absurd (some-ne-none i (sym (seat_for-same seat n (some i)) ∙ ap seat' (sym same) ∙ vacant')))
              (λ (apart : m ≢ n). first.dealt m (omega arith) (sym (seat_for-other seat n m (some i) apart) ∙ vacant'))
              (cases_eq m n);
          whole = λ m l is. let was = first.whole m l is in (let b = was.0 in omega arith, seat_for-other seat n m (some i) (λ same. let b = was.0 in absurd (omega arith)) ∙ was.1, was.2);
        };
        logs = f.logs;
        locks = f.locks;
        knows = f.knows;
        owes = f.owes;
        tight = f.tight;
        looked = f.looked;
      } in
      let new : (j : ℕ) → j ≡ i → Agrees k words history seat' j (newcomer v) = λ j there. record {
        setup = f.setup;
        seated = seat_for-same seat n (some i) ∙ ap (λ (m : ℕ). some m) (sym there);
        numbered = room;
        first = λ is. let b = first.some_next.0 in absurd (omega arith);
        logs = sym (first.fresh n (omega arith)).1;
        locks = λ s h. absurd h;
        knows = λ a x h. absurd h;
        owes = λ a x h. absurd h;
        tight = λ c x h. absurd h;
        looked = record { each = λ look h. absurd h; ascending = tt };
      } in
      let old : (j : ℕ) (u : View) → get_elem? (set views id w) j ≡ some u → u.live ≡ true → Agrees k words history seat' j u =
      set_each views id w (λ j u. u.live ≡ true → Agrees k words history seat' j u) (λ _. mine')
      (λ j u apart e alive. let g = st.each j u e alive in
      reseated k words history seat seat' j u g (same_seat u.number j g.seated) (λ zero_too. only j u apart g (IsFirst k history seat' u.next u.taken) zero_too)) in
      let dead : (j : ℕ) (u : View) → get_elem? (set views id w) j ≡ some u → u.live ≡ false → u ≡ joined_away =
      set_each views id w (λ j u. u.live ≡ false → u ≡ joined_away) (λ no. absurd (true≢false (sym live ∙ no))) (λ j u apart e. st.others j u e) in (
        seat',
        record {
          wide = st.wide;
          some_shard = st.some_shard;
          few_seats = st.few_seats;
          founded = st.founded;
          clock = st.clock;
          right = st.right;
          short = st.short;
          grounded = (st.grounded.0, same_seat 0 st.grounded.0 st.grounded.1);
          sits = λ m j there. ⊎_elim
              (λ (same : m ≡ n).
              let is : i ≡ j = some-injective i j (sym (seat_for-same seat n (some i)) ∙ ap seat' (sym same) ∙ there) in
              (newcomer v, at_last (set views id w) (newcomer v) j (length-set views id w ∙ is), refl, sym same))
              (λ (apart : m ≢ n).
              let old_one = sits_set seat views id v w at live refl st.sits m j (sym (seat_for-other seat n m (some i) apart) ∙ there) in
              (old_one.0, at_longer (set views id w) (newcomer v ∷ []) j old_one.0 old_one.1, old_one.2, old_one.3))
              (cases_eq m n);
          locked = λ t within. ⊎_elim
              (λ (zero_word : get_or words (lock_at k t) 0 ≡ 0). inl zero_word)
              (λ (by : IsHeldBySome views t). let now = held_after views id v w t at (λ h. (live, h)) by in inr (now.0, now.1, at_longer (set views id w) (newcomer v ∷ []) now.0 now.1 now.2, now.3, now.4))
              (st.locked t within);
          settled = λ a inside free_now. st.settled a inside (owed_back views id v w a at live (λ x h. (x, h)) (λ j u x e. free_now j u x (at_longer (set views id w) (newcomer v ∷ []) j u e)));
          valid = st.valid;
          each = λ j u e alive. ⊎_elim
              (λ (was : get_elem? (set views id w) j ≡ some u). old j u was alive)
              (λ (t : (j ≡ length (set views id w)) × (newcomer v ≡ u)). subst (λ (z : View). Agrees k words history seat' j z) t.1 (new j (t.0 ∙ length-set views id w)))
              (at_push (set views id w) (newcomer v) u j e);
          others = λ j u e no. ⊎_elim
              (λ (was : get_elem? (set views id w) j ≡ some u). dead j u was no)
              (λ (t : (j ≡ length (set views id w)) × (newcomer v ≡ u)). absurd (true≢false (ap (λ (z : View). z.live) t.1 ∙ no)))
              (at_push (set views id w) (newcomer v) u j e);
        },
      )

  pub joins_keep : (other : ℕ) (z : View) → other ≢ id → get_elem? views other ≡ some z → z.live ≡ true → z.due ≡ [] → z.held ≡ []
      → (seat' : ℕ → Option ℕ) × StandsAt k words (set (set views id (taking_in v z)) other joined_away) history seat'
  joins_keep other z away there alive_too none_due none_held =
      let f = st.each id v at live in
      let g = st.each other z there alive_too in
      let first = f.first zeroth in
      let n = z.number in
      let w = taking_in v z in
      let seat' = seat_for seat n none in
      let not_first : n ≢ 0 = λ is. only other z away g ⊥ is in
      let not_fresh : n < v.next = ⊎_elim (λ (b : n < v.next). b) (λ (late : v.next ≤ n). absurd (some-ne-none other (sym g.seated ∙ (first.fresh n late).0))) (cases_lt n v.next) in
      let stays : (m j : ℕ) → m ≢ n → seat m ≡ some j → seat' m ≡ some j = λ m j apart is. seat_for-other seat n m none apart ∙ is in
      let vacant : (m : ℕ) → seat m ≡ none → seat' m ≡ none = λ m is. ⊎_elim (λ (same : m ≡ n). ap seat' same ∙ seat_for-same seat n none) (λ (apart : m ≢ n). seat_for-other seat n m none apart ∙ is) (cases_eq m n) in
      let fits : n < length v.taken = subst (λ (c : ℕ). n < c) (sym first.places) g.numbered in
      let mine' : Agrees k words history seat' id w = record {
        setup = f.setup;
        seated = stays v.number id (λ is. not_first (sym is ∙ zeroth)) f.seated;
        numbered = f.numbered;
        first = λ _. record {
          some_next = first.some_next;
          places = length-set v.taken n (Given z.log) ∙ first.places;
          fresh = λ m late. let was = first.fresh m late in (vacant m was.0, was.1);
          dealt = λ m early vacant'. ⊎_elim
              (λ (same : m ≡ n). ap (λ (c : ℕ). is_some (get_or (set v.taken n (Given z.log)) c Missing)) same ∙ ap is_some (get_or-set_same v.taken n (Given z.log) Missing fits))
              (λ (apart : m ≢ n). ap is_some (get_or-set_other v.taken n m (Given z.log) Missing apart) ∙ first.dealt m early (sym (seat_for-other seat n m none apart) ∙ vacant'))
              (cases_eq m n);
          whole = λ m l is. ⊎_elim
              (λ (same : m ≡ n).
              let found : Given z.log ≡ Given l = sym (get_or-set_same v.taken n (Given z.log) Missing fits) ∙ ap (λ (c : ℕ). get_or (set v.taken n (Given z.log)) c Missing) (sym same) ∙ is in
              let whole_log : l ≡ z.log = cc in
              (subst (λ (c : ℕ). c < v.next) (sym same) not_fresh, ap seat' same ∙ seat_for-same seat n none, whole_log ∙ g.logs ∙ ap (λ (c : ℕ). calls c history) (sym same)))
              (λ (apart : m ≢ n). let was = first.whole m l (sym (get_or-set_other v.taken n m (Given z.log) Missing apart) ∙ is) in (was.0, vacant m was.1, was.2))
              (cases_eq m n);
        };
        logs = f.logs;
        locks = f.locks;
        knows = f.knows;
        owes = f.owes;
        tight = f.tight;
        looked = f.looked;
      } in
      let rest : (j : ℕ) (u : View) → j ≢ other → get_elem? (set views id w) j ≡ some u → u.live ≡ true → Agrees k words history seat' j u = λ j u not_other e alive.
      set_each views id w (λ i y. i ≢ other → y.live ≡ true → Agrees k words history seat' i y) (λ _ _. mine')
      (λ i y apart e' not_other' alive'. let h = st.each i y e' alive' in
      reseated k words history seat seat' i y h (stays y.number i (λ same. not_other' (one_seat k words history seat other i z y g h same)) h.seated) (λ zero_too. only i y apart h (IsFirst k history seat' y.next y.taken) zero_too))
      j u e not_other alive in
      let dead : (j : ℕ) (u : View) → get_elem? (set views id w) j ≡ some u → u.live ≡ false → u ≡ joined_away =
      set_each views id w (λ j u. u.live ≡ false → u ≡ joined_away) (λ no. absurd (true≢false (sym live ∙ no))) (λ j u apart e. st.others j u e) in
      let there' : get_elem? (set views id w) other ≡ some z = set_else views id other w away ∙ there in (
        seat',
        record {
          wide = st.wide;
          some_shard = st.some_shard;
          few_seats = st.few_seats;
          founded = st.founded;
          clock = st.clock;
          right = st.right;
          short = st.short;
          grounded = (st.grounded.0, stays 0 st.grounded.0 (λ is. not_first (sym is)) st.grounded.1);
          sits = λ m j sat. ⊎_elim
              (λ (same : m ≡ n). absurd (some-ne-none j (sym sat ∙ ap seat' same ∙ seat_for-same seat n none)))
              (λ (apart : m ≢ n).
              let was = sits_set seat views id v w at live refl st.sits m j (sym (seat_for-other seat n m none apart) ∙ sat) in
              let not_other : j ≢ other = λ same. apart (sym was.3 ∙ ap (λ (u : View). u.number) (some-injective was.0 z (sym was.1 ∙ ap (get_elem? (set views id w)) same ∙ there'))) in
              (was.0, set_else (set views id w) other j joined_away not_other ∙ was.1, was.2, was.3))
              (cases_eq m n);
          locked = λ t within. ⊎_elim
              (λ (zero_word : get_or words (lock_at k t) 0 ≡ 0). inl zero_word)
              (λ (by : IsHeldBySome views t). let now = held_after views id v w t at (λ h. (live, h)) by in
              inr (held_after (set views id w) other z joined_away t there' (λ h. absurd (subst (In t) none_held h)) now))
              (st.locked t within);
          settled = λ a inside free_now. st.settled a inside
              (owed_back views id v w a at live (λ x h. (x, h))
              (λ j u x e alive h. ⊎_elim
              (λ (same : j ≡ other).
              let is : u ≡ z = some-injective u z (sym e ∙ ap (get_elem? (set views id w)) same ∙ there') in
              subst (In (a, x)) none_due (subst (λ (y : View). In (a, x) y.due) is h))
              (λ (apart : j ≢ other). free_now j u x (set_else (set views id w) other j joined_away apart ∙ e) alive h)
              (cases_eq j other)));
          valid = st.valid;
          each = set_each (set views id w) other joined_away (λ j u. u.live ≡ true → Agrees k words history seat' j u) (λ no. absurd (true≢false (sym no))) rest;
          others = set_each (set views id w) other joined_away (λ j u. u.live ≡ false → u ≡ joined_away) (λ _. refl) (λ j u _ e no. dead j u e no);
        },
      )
