-- A look at all agents, under all locks, keeps the field's rule.
use Rattle.std.proofs.Common.{◌≡◌, ◌⊎◌, ℕ, ◌<◌, ◌≤◌, true, List, [], ◌∷◌, ◌++◌, length, get_or, set, refl, sym, ap, ◌∙◌, subst, inl, inr, ⊎_elim, arith}
use Rattle.std.proofs.lemmas.List.{length-map, take_all, get_or-map, ext_get_or}
use mathlib.Core.Option.{Option, some}
use lib.ListN.{get_elem?}
use Rattle.pop_net.specs.declared.net.Word.{Word}
use Rattle.pop_net.specs.Lanes.{tuple_of, crowd_of, IsValid}
use Rattle.pop_crowd.specs.declared.crowd.Meeting.{Meeting}
use Rattle.pop_crowd.specs.Replay.{replay}
use Rattle.agent_field.specs.declared.view.Look.{Look}
use Rattle.agent_field.specs.declared.view.Setup.{Setup}
use Rattle.agent_field.specs.declared.view.View.{View}
use Rattle.agent_field.specs.Standing.{agents_opened, packed, crowd_after, In, IsLook, LooksAscend, StandsAt}
use Rattle.agent_field.specs.History.{IsHistory}
use Rattle.agent_field.specs.Steps.{look_of, looking, IsSeenAt}
use Rattle.agent_field.proofs.Keeps.{views_keep}
use Rattle.agent_field.proofs.Draws.{known_after}
use Rattle.pop_crowd.proofs.Reached.{length-replay}

In-push : {A : Type 0} (l : List A) (a x : A) → In x (l ++ a ∷ []) → In x l ⊎ (x ≡ a)
In-push [] a x h = ⊎_elim (λ e. inr e) (λ (n : ⊥). absurd n) h
In-push (y ∷ ys) a x h = ⊎_elim (λ e. inl (inl e)) (λ i. ⊎_elim (λ was. inl (inr was)) (λ e. inr e) (In-push ys a x i)) h

ascending-push : (looks : List Look) (new : Look) → LooksAscend looks → ((look : Look) → In look looks → look.ticket ≤ new.ticket) → LooksAscend (looks ++ new ∷ [])
ascending-push [] new h late = ((λ later i. absurd i), tt)
ascending-push (look ∷ looks) new h late = (
  (λ later i. ⊎_elim (λ (was : In later looks). h.0 later was) (λ (e : later ≡ new). subst (λ (n : ℕ). look.ticket ≤ n) (ap (λ (l : Look). l.ticket) (sym e)) (late look (inl refl))) (In-push looks new later i)),
  ascending-push looks new h.1 (λ other i. late other (inr i)),
)

module _ (k : Setup) (words : List ℕ) (views : List View) (history : List Meeting) (seat : ℕ → Option ℕ) (st : StandsAt k words views history seat) (id : ℕ) (v : View) (at : get_elem? views id ≡ some v) (live : v.live ≡ true) where
  -- all words that were read under all locks are those after the history so far
  is_look : (shown : List Word) → length shown ≡ agents_opened k → ((a : ℕ) (d : Word) → a < agents_opened k → In (a, get_or shown a d) v.known) → v.due ≡ []
      → IsLook k.net.value k.opening.value history (look_of (length history) shown)
  is_look shown whole all none_due =
      let net = k.net.value in
      let all_words = shown in
      let long : length (crowd_of net all_words) ≡ length (crowd_after k history) = length-map all_words (tuple_of net) ∙ whole ∙ sym (length-replay net history (crowd_of net k.opening.value) ∙ length-map k.opening.value (tuple_of net)) in
      let inside : (a : ℕ) → a < length all_words → a < agents_opened k = λ a h. subst (λ (n : ℕ). a < n) whole h in
      let same : crowd_of net all_words ≡ crowd_after k history = ext_get_or [] (crowd_of net all_words) (crowd_after k history) long
      (λ a h. let fits : a < length all_words = subst (λ (n : ℕ). a < n) (length-map all_words (tuple_of net)) h in
      get_or-map (tuple_of net) all_words a (packed 0) [] fits ∙ sym (known_after k words views history seat st id v at live none_due a (get_or all_words a (packed 0)) (all a (packed 0) (inside a fits)))) in (
        (let r : length history ≤ length history = omega arith in r),
        same ∙ ap (λ (ms : List Meeting). replay net ms (crowd_of net k.opening.value)) (sym (take_all (length history) history (let r : length history ≤ length history = omega arith in r))),
        (λ a d h. let n = (st.each id v at live).knows a (get_or all_words a d) (all a d (inside a h)) in subst (IsValid net) n.2 (st.valid a n.0)),
      )

  pub looks_keep : (shown : List Word) → length shown ≡ agents_opened k → ((a : ℕ) (d : Word) → a < agents_opened k → In (a, get_or shown a d) v.known) → v.due ≡ []
      → StandsAt k words (set views id (looking (length history) shown v)) history seat
  looks_keep shown whole all none_due =
      let f = st.each id v at live in
      let new = look_of (length history) shown in
      views_keep k words views history seat st id v at live (looking (length history) shown v) live refl refl refl
      (record {
        setup = f.setup;
        seated = f.seated;
        numbered = f.numbered;
        first = f.first;
        logs = f.logs;
        locks = f.locks;
        knows = f.knows;
        owes = f.owes;
        tight = f.tight;
        looked = record {
          each = λ look i. ⊎_elim
              (λ (was : In look v.looks). f.looked.each look was)
              (λ (e : look ≡ new). subst (IsLook k.net.value k.opening.value history) (sym e) (is_look shown whole all none_due))
              (In-push v.looks new look i);
          ascending = ascending-push v.looks new f.looked.ascending (λ look i. (f.looked.each look i).0);
        };
      })

  pub is_seen_at : (shown : List Word) → length shown ≡ agents_opened k → ((a : ℕ) (d : Word) → a < agents_opened k → In (a, get_or shown a d) v.known) → v.due ≡ [] → IsSeenAt (length history) shown v
  is_seen_at shown whole all none_due =
      let f = st.each id v at live in record {
        history = history;
        long = refl;
        right = subst (λ (z : Setup). IsHistory z.net.value z.seats z.opening.value history) (sym f.setup) st.right;
        logs = f.logs;
        look = subst (λ (z : Setup). IsLook z.net.value z.opening.value history (look_of (length history) shown)) (sym f.setup) (is_look shown whole all none_due);
      }
