-- The steps that leave the history unchanged keep the field's rule: a lock, an unlock, a read, a write and a look.
use Rattle.std.proofs.Common.{◌≡◌, ◌≢◌, ℕ, ◌+◌, ◌<◌, true, false, List, [], ◌∷◌, length, get_or, set, refl, sym, ap, ◌∙◌, subst, inl, inr, ⊎_elim, arith, length-set, get_or-set_same, get_or-set_other}
use Rattle.std.proofs.lemmas.Bool.{cases_eq}
use mathlib.Core.Option.{Option, some, some-injective}
use lib.ListN.{get_elem?}
use Rattle.atomic_table.proofs.Lists.{set_here}
use Rattle.pop_net.specs.declared.net.Word.{Word}
use Rattle.pop_net.specs.Lanes.{tuple_of, IsValid}
use Rattle.pop_crowd.specs.declared.crowd.Meeting.{Meeting}
use Rattle.agent_field.specs.declared.view.Setup.{Setup}
use Rattle.agent_field.specs.declared.view.View.{View}
use Rattle.agent_field.specs.Standing.{agents_opened, lock_at, agent_at, shard_of, packed, agent_word, tuple_after, In, joined_away, Agrees, IsOwedByNone, IsHeldBySome, StandsAt}
use Rattle.agent_field.specs.Steps.{holding, rest_of, releasing, knowing, without, writing}
use Rattle.agent_field.proofs.Without.{in_without, in_without_back}
use Rattle.agent_field.proofs.InTurns.{lock_place-inside, agent_place-inside, lock_once, agent_once, lock_is_no_agent, lock_behind, agent_behind}
use Rattle.agent_field.proofs.Views.{at_length, set_each, agrees_word, one_holder, owed_back, held_after, sits_set, not_dead}

module _ (k : Setup) (words : List ℕ) (views : List View) (history : List Meeting) (seat : ℕ → Option ℕ) (st : StandsAt k words views history seat) (id : ℕ) (v : View) (at : get_elem? views id ≡ some v) (live : v.live ≡ true) where
  mine : Agrees k words history seat id v
  mine = st.each id v at live

  pub locks_keep : (s : ℕ) → s < k.shards → get_or words (lock_at k s) 0 ≡ 0 → v.due ≡ [] → StandsAt k (set words (lock_at k s) (v.number + 1)) (set views id (holding s v)) history seat
  locks_keep s inside free none_due =
      let n = v.number + 1 in
      let w = holding s v in
      let f = mine in
      let fits : lock_at k s < length words = subst (λ (n : ℕ). lock_at k s < n) (sym st.wide) (lock_place-inside k.shards (agents_opened k) s inside) in
      let words' = set words (lock_at k s) n in
      let no_agent : (a : ℕ) → a < agents_opened k → get_or words' (agent_at k a) 0 ≡ get_or words (agent_at k a) 0 = λ a h. get_or-set_other words (lock_at k s) (agent_at k a) n 0 (λ e. lock_is_no_agent k s a inside h (sym e)) in
      let new : Agrees k words' history seat id w = record {
        setup = f.setup;
        seated = f.seated;
        numbered = f.numbered;
        first = f.first;
        logs = f.logs;
        locks = λ t h. ⊎_elim
            (λ (same : t ≡ s). (subst (λ (z : ℕ). z < k.shards) (sym same) inside, ap (λ (z : ℕ). get_or words' (lock_at k z) 0) same ∙ get_or-set_same words (lock_at k s) n 0 fits))
            (λ (i : In t v.held). ((f.locks t i).0, get_or-set_other words (lock_at k s) (lock_at k t) n 0 (λ e. let p = (f.locks t i).1 in let q : get_or words (lock_at k t) 0 ≡ get_or words (lock_at k s) 0 = ap (λ (z : ℕ). get_or words z 0) e in omega arith) ∙ (f.locks t i).1))
            h;
        knows = λ a x h. let was = f.knows a x h in (was.0, inr was.1, ap packed (no_agent a was.0) ∙ was.2, was.3);
        owes = λ a x h. let was = f.owes a x h in (was.0, inr was.1, was.2, was.3);
        tight = λ c x h. absurd (subst (In (c, x)) none_due h);
        looked = f.looked;
      } in record {
        wide = length-set words (lock_at k s) n ∙ st.wide;
        some_shard = st.some_shard;
        few_seats = st.few_seats;
        founded = get_or-set_other words (lock_at k s) 1 n 0 (lock_behind k 1 s (omega arith)) ∙ st.founded;
        clock = get_or-set_other words (lock_at k s) 0 n 0 (lock_behind k 0 s (omega arith)) ∙ st.clock;
        right = st.right;
        short = st.short;
        grounded = st.grounded;
        sits = sits_set seat views id v w at live refl st.sits;
        locked = λ t within. ⊎_elim
            (λ (same : t ≡ s). inr (id, w, set_here views id w (at_length views id v at), live, inl same))
            (λ (apart : t ≢ s). ⊎_elim
            (λ (zero_word : get_or words (lock_at k t) 0 ≡ 0). inl (get_or-set_other words (lock_at k s) (lock_at k t) n 0 (λ e. apart (lock_once k t s e)) ∙ zero_word))
            (λ (by : IsHeldBySome views t). inr (held_after views id v w t at (λ h. (live, inr h)) by))
            (st.locked t within))
            (cases_eq t s);
        settled = λ a in_range free_now. ap (λ (z : ℕ). tuple_of k.net.value (packed z)) (no_agent a in_range) ∙ st.settled a in_range (owed_back views id v w a at live (λ x h. (x, h)) free_now);
        valid = λ a in_range. subst (λ (z : ℕ). IsValid k.net.value (packed z)) (sym (no_agent a in_range)) (st.valid a in_range);
        each = set_each views id w (λ j u. u.live ≡ true → Agrees k words' history seat j u) (λ _. new)
            (λ j u apart e alive. agrees_word k words history seat j u (lock_at k s) n (st.each j u e alive)
            (λ t h same. let p = ((st.each j u e alive).locks t h).1 in let q : get_or words (lock_at k t) 0 ≡ get_or words (lock_at k s) 0 = ap (λ (z : ℕ). get_or words z 0) same in omega arith)
            (λ a x h in_range same. lock_is_no_agent k s a inside in_range (sym same)));
        others = set_each views id w (λ j u. u.live ≡ false → u ≡ joined_away) (not_dead v live (w ≡ joined_away)) (λ j u apart e. st.others j u e);
      }

  -- giving back the lock that was taken last, while nothing is due
  pub releases_keep : (s : ℕ) (held : List ℕ) → v.held ≡ s ∷ held → (In s held → ⊥) → v.due ≡ [] → StandsAt k (set words (lock_at k s) 0) (set views id (releasing v)) history seat
  releases_keep s held is once none_due =
      let w = releasing v in
      let f = mine in
      let inside : s < k.shards = (f.locks s (subst (In s) (sym is) (inl refl))).0 in
      let words' = set words (lock_at k s) 0 in
      let left : (t : ℕ) → In t (rest_of v.held) → In t held = λ t h. subst (In t) (ap rest_of is) h in
      let no_agent : (a : ℕ) → a < agents_opened k → get_or words' (agent_at k a) 0 ≡ get_or words (agent_at k a) 0 = λ a h. get_or-set_other words (lock_at k s) (agent_at k a) 0 0 (λ e. lock_is_no_agent k s a inside h (sym e)) in
      let new : Agrees k words' history seat id w = record {
        setup = f.setup;
        seated = f.seated;
        numbered = f.numbered;
        first = f.first;
        logs = f.logs;
        locks = λ t h. let was = f.locks t (subst (In t) (sym is) (inr (left t h))) in
            (was.0, get_or-set_other words (lock_at k s) (lock_at k t) 0 0 (λ e. once (subst (λ (z : ℕ). In z held) (lock_once k t s e) (left t h))) ∙ was.1);
        knows = λ a x h. absurd h;
        owes = λ a x h. absurd (subst (In (a, x)) none_due h);
        tight = λ c x h. absurd (subst (In (c, x)) none_due h);
        looked = f.looked;
      } in record {
        wide = length-set words (lock_at k s) 0 ∙ st.wide;
        some_shard = st.some_shard;
        few_seats = st.few_seats;
        founded = get_or-set_other words (lock_at k s) 1 0 0 (lock_behind k 1 s (omega arith)) ∙ st.founded;
        clock = get_or-set_other words (lock_at k s) 0 0 0 (lock_behind k 0 s (omega arith)) ∙ st.clock;
        right = st.right;
        short = st.short;
        grounded = st.grounded;
        sits = sits_set seat views id v w at live refl st.sits;
        locked = λ t within. ⊎_elim
            (λ (same : t ≡ s). inl (ap (λ (z : ℕ). get_or words' (lock_at k z) 0) same ∙ get_or-set_same words (lock_at k s) 0 0 (subst (λ (n : ℕ). lock_at k s < n) (sym st.wide) (lock_place-inside k.shards (agents_opened k) s inside))))
            (λ (apart : t ≢ s). ⊎_elim
            (λ (zero_word : get_or words (lock_at k t) 0 ≡ 0). inl (get_or-set_other words (lock_at k s) (lock_at k t) 0 0 (λ e. apart (lock_once k t s e)) ∙ zero_word))
            (λ (by : IsHeldBySome views t). inr (held_after views id v w t at (λ h. (live, subst (In t) (sym (ap rest_of is)) (⊎_elim (λ (e : t ≡ s). absurd (apart e)) (λ (i : In t held). i) (subst (In t) is h)))) by))
            (st.locked t within))
            (cases_eq t s);
        settled = λ a in_range free_now. ap (λ (z : ℕ). tuple_of k.net.value (packed z)) (no_agent a in_range) ∙ st.settled a in_range (owed_back views id v w a at live (λ x h. (x, h)) free_now);
        valid = λ a in_range. subst (λ (z : ℕ). IsValid k.net.value (packed z)) (sym (no_agent a in_range)) (st.valid a in_range);
        each = set_each views id w (λ j u. u.live ≡ true → Agrees k words' history seat j u) (λ _. new)
            (λ j u apart e alive. let g = st.each j u e alive in agrees_word k words history seat j u (lock_at k s) 0 g
            (λ t h same. apart (one_holder k words history seat id j v u f g s (subst (In s) (sym is) (inl refl)) (subst (λ (z : ℕ). In z u.held) (lock_once k t s same) h)))
            (λ a x h in_range same. lock_is_no_agent k s a inside in_range (sym same)));
        others = set_each views id w (λ j u. u.live ≡ false → u ≡ joined_away) (not_dead v live (w ≡ joined_away)) (λ j u apart e. st.others j u e);
      }

  -- a step that changes only this view, and neither its locks nor what it owes
  pub views_keep : (w : View) → w.live ≡ true → w.number ≡ v.number → w.held ≡ v.held → w.due ≡ v.due → Agrees k words history seat id w → StandsAt k words (set views id w) history seat
  views_keep w alive number held due new = record {
    wide = st.wide;
    some_shard = st.some_shard;
    few_seats = st.few_seats;
    founded = st.founded;
    clock = st.clock;
    right = st.right;
    short = st.short;
    grounded = st.grounded;
    sits = sits_set seat views id v w at alive number st.sits;
    locked = λ t within. ⊎_elim
        (λ (zero_word : get_or words (lock_at k t) 0 ≡ 0). inl zero_word)
        (λ (by : IsHeldBySome views t). inr (held_after views id v w t at (λ h. (alive, subst (In t) (sym held) h)) by))
        (st.locked t within);
    settled = λ b inside free_now. st.settled b inside (owed_back views id v w b at alive (λ y h. (y, subst (In (b, y)) (sym due) h)) free_now);
    valid = st.valid;
    each = set_each views id w (λ j u. u.live ≡ true → Agrees k words history seat j u) (λ _. new) (λ j u apart e alive. st.each j u e alive);
    others = set_each views id w (λ j u. u.live ≡ false → u ≡ joined_away) (not_dead w alive (w ≡ joined_away)) (λ j u apart e. st.others j u e);
  }

  pub reads_keep : (a : ℕ) → a < agents_opened k → In (shard_of k a) v.held → ((y : Word) → In (a, y) v.due → ⊥) → StandsAt k words (set views id (knowing a (agent_word k words a) v)) history seat
  reads_keep a in_range held not_due =
      let f = mine in
      views_keep (knowing a (agent_word k words a) v) live refl refl refl
      (record {
        setup = f.setup;
        seated = f.seated;
        numbered = f.numbered;
        first = f.first;
        logs = f.logs;
        locks = f.locks;
        knows = λ b y h. ⊎_elim
            (λ (same : (b, y) ≡ (a, agent_word k words a)).
            subst (λ (p : ℕ × Word). (p.0 < agents_opened k) × In (shard_of k p.0) v.held × (agent_word k words p.0 ≡ p.1) × ((z : Word) → In (p.0, z) v.due → ⊥)) (sym same) (in_range, held, refl, not_due))
            (λ (i : In (b, y) v.known). f.knows b y i)
            h;
        owes = f.owes;
        tight = f.tight;
        looked = f.looked;
      })

  pub writes_keep : (a : ℕ) (y : Word) → In (a, y) v.due → StandsAt k (set words (agent_at k a) y.0) (set views id (writing a v)) history seat
  writes_keep a y here =
      let w = writing a v in
      let f = mine in
      let owed = f.owes a y here in
      let fits : agent_at k a < length words = subst (λ (n : ℕ). agent_at k a < n) (sym st.wide) (agent_place-inside k.shards (agents_opened k) a owed.0) in
      let words' = set words (agent_at k a) y.0 in
      let left : (b : ℕ) (x : Word) → In (b, x) (without a v.due) → In (b, x) v.due = λ b x h. (in_without a b x v.due h).0 in
      let written : (b : ℕ) → b ≡ a → agent_word k words' b ≡ y = λ b same. ap (λ (z : ℕ). agent_word k words' z) same ∙ ap packed (get_or-set_same words (agent_at k a) y.0 0 fits) in
      let other : (b : ℕ) → b ≢ a → agent_word k words' b ≡ agent_word k words b = λ b apart. ap packed (get_or-set_other words (agent_at k a) (agent_at k b) y.0 0 (λ e. apart (agent_once k b a e))) in
      let new : Agrees k words' history seat id w = record {
        setup = f.setup;
        seated = f.seated;
        numbered = f.numbered;
        first = f.first;
        logs = f.logs;
        locks = λ s h. ((f.locks s h).0, get_or-set_other words (agent_at k a) (lock_at k s) y.0 0 (lock_is_no_agent k s a (f.locks s h).0 owed.0) ∙ (f.locks s h).1);
        knows = λ b x h. let was = f.knows b x h in
            (was.0, was.1, other b (λ same. was.3 y (subst (λ (z : ℕ). In (z, y) v.due) (sym same) here)) ∙ was.2, λ z i. was.3 z (left b z i));
        owes = λ b x h. f.owes b x (left b x h);
        tight = λ b x h. f.tight b x (left b x h);
        looked = f.looked;
      } in record {
        wide = length-set words (agent_at k a) y.0 ∙ st.wide;
        some_shard = st.some_shard;
        few_seats = st.few_seats;
        founded = get_or-set_other words (agent_at k a) 1 y.0 0 (agent_behind k 1 a (omega arith)) ∙ st.founded;
        clock = get_or-set_other words (agent_at k a) 0 y.0 0 (agent_behind k 0 a (omega arith)) ∙ st.clock;
        right = st.right;
        short = st.short;
        grounded = st.grounded;
        sits = sits_set seat views id v w at live refl st.sits;
        locked = λ t within. ⊎_elim
            (λ (zero_word : get_or words (lock_at k t) 0 ≡ 0). inl (get_or-set_other words (agent_at k a) (lock_at k t) y.0 0 (lock_is_no_agent k t a within owed.0) ∙ zero_word))
            (λ (by : IsHeldBySome views t). inr (held_after views id v w t at (λ h. (live, h)) by))
            (st.locked t within);
        settled = λ b inside free_now. ⊎_elim
            (λ (same : b ≡ a). ap (tuple_of k.net.value) (written b same) ∙ owed.2 ∙ ap (tuple_after k history) (sym same))
            (λ (apart : b ≢ a). ap (tuple_of k.net.value) (other b apart)
            ∙ st.settled b inside (owed_back views id v w b at live
            (λ x h. (x, in_without_back a b x v.due h apart))
            free_now))
            (cases_eq b a);
        valid = λ b inside. ⊎_elim
            (λ (same : b ≡ a). subst (IsValid k.net.value) (sym (written b same)) owed.3)
            (λ (apart : b ≢ a). subst (IsValid k.net.value) (sym (other b apart)) (st.valid b inside))
            (cases_eq b a);
        each = set_each views id w (λ j u. u.live ≡ true → Agrees k words' history seat j u) (λ _. new)
            (λ j u apart e alive. let g = st.each j u e alive in agrees_word k words history seat j u (agent_at k a) y.0 g
            (λ t h same. lock_is_no_agent k t a (g.locks t h).0 owed.0 same)
            (λ b x h _ same. apart (one_holder k words history seat id j v u f g (shard_of k a) owed.1 (subst (λ (z : ℕ). In (shard_of k z) u.held) (agent_once k b a same) (g.knows b x h).1))));
        others = set_each views id w (λ j u. u.live ≡ false → u ≡ joined_away) (not_dead v live (w ≡ joined_away)) (λ j u apart e. st.others j u e);
      }

  pub owed_by_none : (a : ℕ) → In (shard_of k a) v.held → v.due ≡ [] → IsOwedByNone views a
  owed_by_none a held none_due j u x e alive h =
      let same : j ≡ id = one_holder k words history seat id j v u mine (st.each j u e alive) (shard_of k a) held ((st.each j u e alive).owes a x h).1 in
      let is : u ≡ v = some-injective u v (sym e ∙ ap (get_elem? views) same ∙ at) in
      subst (In (a, x)) none_due (subst (λ (z : View). In (a, x) z.due) is h)
