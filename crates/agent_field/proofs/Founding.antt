-- The founding of a field: from its opening words to an empty history.
use Rattle.std.proofs.Common.{◌≡◌, ◌≢◌, ℕ, zero, suc, ◌+◌, ◌<◌, true, false, true≢false, min, List, [], ◌∷◌, length, map, get_or, set, refl, sym, ap, ◌∙◌, subst, inl, ⊎_elim, arith, length-set, get_or-set_same, get_or-set_other}
use Rattle.std.specs.Prelude.{Some as Given, None as Missing}
use Rattle.std.proofs.lemmas.Bool.{cases_eq}
use Rattle.std.proofs.lemmas.List.{length-map, get_or-map}
use Rattle.std.proofs.lemmas.List.Elements.{All-nil}
use Rattle.std.proofs.Math.ListN.{replicate, length-replicate, get_or-replicate}
use mathlib.Core.Option.{Option, none, some, some-injective, some-ne-none}
use lib.ListN.{get_elem?}
use Rattle.atomic_table.proofs.Lists.{set_here}
use Rattle.pop_net.specs.declared.net.Word.{Word}
use Rattle.pop_net.specs.Lanes.{tuple_of, IsValid}
use Rattle.pop_crowd.specs.declared.crowd.Meeting.{Meeting}
use Rattle.pop_crowd.specs.Replay.{IsMeeting}
use Rattle.agent_field.specs.declared.places.TheConstants.{HEAD_WORDS}
use Rattle.agent_field.specs.declared.view.Setup.{Setup}
use Rattle.agent_field.specs.declared.view.View.{View}
use Rattle.agent_field.specs.Standing.{agents_opened, lock_at, agent_at, packed, agent_word, founder, joined_away, in_turns, Agrees, StandsAt, IsUnfounded}
use Rattle.agent_field.specs.Steps.{first_seat}
use Rattle.agent_field.proofs.InTurns.{lock_behind, agent_behind, length-in_turns, get_or-in_turns_first, get_or-in_turns_second}
use Rattle.agent_field.proofs.Views.{at_length, set_each}
use Rattle.agent_field.proofs.Seating.{seat_for, seat_for-same, seat_for-other}

nothing_there : {A : Type 0} (a : A) (n w : ℕ) → get_or (replicate n a) w a ≡ a
nothing_there a zero w = refl
nothing_there a (suc n) zero = refl
nothing_there a (suc n) (suc w) = nothing_there a n w

module _ (k : Setup) (words : List ℕ) (views : List View) (un : IsUnfounded k words views) where
  zeros : List ℕ
  zeros = replicate k.shards 0

  numbers : List ℕ
  numbers = map (λ (w : Word). w.0) k.opening.value

  pub founder_word : get_or words 1 0 ≡ 0
  founder_word = ap (λ (l : List ℕ). get_or l 1 0) un.fresh

  wide : length words ≡ HEAD_WORDS + k.shards + agents_opened k
  unfolding zeros numbers
  wide =
      let long : length zeros ≡ k.shards = length-replicate k.shards 0 in
      let many : length numbers ≡ agents_opened k = length-map k.opening.value (λ (w : Word). w.0) in
      ap (length {A = ℕ}) un.fresh ∙ ap (λ (n : ℕ). suc (suc n)) (length-in_turns zeros numbers) ∙ omega (arith, long, many)

  -- the locks are free, and the agents' words are the opening words
  free_lock : (s : ℕ) → s < k.shards → get_or words (lock_at k s) 0 ≡ 0
  unfolding zeros numbers
  free_lock s h =
      let long : length zeros ≡ k.shards = length-replicate k.shards 0 in
      let many : length numbers ≡ agents_opened k = length-map k.opening.value (λ (w : Word). w.0) in
      ap (λ (l : List ℕ). get_or l (lock_at k s) 0) un.fresh
      ∙ ap (λ (i : ℕ). get_or (0 ∷ 0 ∷ in_turns zeros numbers) i 0) (let at : lock_at k s ≡ suc (suc (s + min s (length numbers))) = omega arith in at)
      ∙ get_or-in_turns_first 0 zeros numbers s (omega arith)
      ∙ get_or-replicate k.shards s 0 0 h

  opening_word : (a : ℕ) → a < agents_opened k → agent_word k words a ≡ get_or k.opening.value a (packed 0)
  unfolding zeros numbers
  opening_word a h =
      let long : length zeros ≡ k.shards = length-replicate k.shards 0 in
      let many : length numbers ≡ agents_opened k = length-map k.opening.value (λ (w : Word). w.0) in
      ap packed
      (ap (λ (l : List ℕ). get_or l (agent_at k a) 0) un.fresh
      ∙ ap (λ (i : ℕ). get_or (0 ∷ 0 ∷ in_turns zeros numbers) i 0) (let at : agent_at k a ≡ suc (suc (a + min (a + 1) (length zeros))) = omega arith in at)
      ∙ get_or-in_turns_second 0 zeros numbers a (omega arith)
      ∙ get_or-map (λ (w : Word). w.0) k.opening.value a (packed 0) 0 h)

  pub founds_keep : (id : ℕ) → get_elem? views id ≡ some (founder k) → (seat : ℕ → Option ℕ) × StandsAt k (set words 1 1) (set views id (first_seat k)) [] seat
  founds_keep id at =
      let w = first_seat k in
      let words' = set words 1 1 in
      let lims = un.limits in
      let long : length words ≡ HEAD_WORDS + k.shards + agents_opened k = wide in
      let net = k.net.value in
      let as_before : (i : ℕ) → i ≢ 1 → get_or words' i 0 ≡ get_or words i 0 = λ i apart. get_or-set_other words 1 i 1 0 apart in
      let agent : (a : ℕ) → a < agents_opened k → agent_word k words' a ≡ get_or k.opening.value a (packed 0) = λ a h. ap packed (as_before (agent_at k a) (λ e. agent_behind k 1 a (omega arith) (sym e))) ∙ opening_word a h in
      let at_zero : id ≡ 0 = ⊎_elim (λ (t : (id ≡ 0) × (founder k ≡ founder k)). t.0) (λ (s : founder k ≡ joined_away). absurd (true≢false (ap (λ (u : View). u.founding) s))) (un.each id (founder k) at) in
      let only_joined_away : (j : ℕ) (u : View) → j ≢ id → get_elem? views j ≡ some u → u ≡ joined_away = λ j u apart e. ⊎_elim (λ (t : (j ≡ 0) × (u ≡ founder k)). absurd (apart (t.0 ∙ sym at_zero))) (λ (s : u ≡ joined_away). s) (un.each j u e) in
      let seat = seat_for (λ n. none) 0 (some id) in
      let seated : seat 0 ≡ some id = seat_for-same (λ n. none) 0 (some id) in
      let new : Agrees k words' [] seat id w = record {
        setup = refl;
        seated = seated;
        numbered = lims.1;
        first = λ _. record {
          some_next = (omega arith, let l = lims.1 in omega arith);
          places = length-replicate k.seats Missing;
          fresh = λ m late. (seat_for-other (λ n. none) 0 m (some id) (λ is. absurd (omega arith)), refl);
          dealt = λ m early vacant'. absurd (some-ne-none id (sym seated ∙ ap seat (let z : 0 ≡ m = omega arith in z) ∙ vacant'));
          whole = λ m l is. absurd (let clash : Missing ≡ Given l = sym (nothing_there Missing k.seats m) ∙ is in cc);
        };
        logs = refl;
        locks = λ s h. absurd h;
        knows = λ a x h. absurd h;
        owes = λ a x h. absurd h;
        tight = λ c x h. absurd h;
        looked = record { each = λ look h. absurd h; ascending = tt };
      } in (
        seat,
        record {
          wide = length-set words 1 1 ∙ long;
          some_shard = lims.0;
          few_seats = lims.2;
          founded = get_or-set_same words 1 1 0 (omega arith);
          clock = as_before 0 (λ e. absurd (omega arith)) ∙ ap (λ (l : List ℕ). get_or l 0 0) un.fresh;
          right = record { meetings = All-nil (IsMeeting (agents_opened k)); marked = tt; numbers = All-nil (λ (m : Meeting). m.worker < k.seats) };
          short = λ n. omega arith;
          grounded = (id, seated);
          sits = λ n j there. ⊎_elim
              (λ (same : n ≡ 0).
              let is : id ≡ j = some-injective id j (sym seated ∙ ap seat (sym same) ∙ there) in
              (w, ap (get_elem? (set views id w)) (sym is) ∙ set_here views id w (at_length views id (founder k) at), refl, sym same))
              (λ (apart : n ≢ 0). absurd (some-ne-none j (sym there ∙ seat_for-other (λ m. none) 0 n (some id) apart)))
              (cases_eq n 0);
          locked = λ s within. inl (as_before (lock_at k s) (λ e. lock_behind k 1 s (omega arith) (sym e)) ∙ free_lock s within);
          settled = λ a inside free_now. ap (tuple_of net) (agent a inside) ∙ sym (get_or-map (tuple_of net) k.opening.value a (packed 0) [] inside);
          valid = λ a inside. subst (IsValid net) (sym (agent a inside)) (un.valid a (packed 0) inside);
          each = set_each views id w (λ j u. u.live ≡ true → Agrees k words' [] seat j u) (λ _. new)
              (λ j u apart e alive. absurd (true≢false (sym alive ∙ ap (λ (z : View). z.live) (only_joined_away j u apart e))));
          others = set_each views id w (λ j u. u.live ≡ false → u ≡ joined_away) (λ no. absurd (true≢false no)) (λ j u apart e no. only_joined_away j u apart e);
        },
      )
