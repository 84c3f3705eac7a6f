-- The least worker that lacks meetings of a round, and what that says about rounds and spent turns.
use Rattle.std.proofs.Common.{◌≡◌, ◌⊎◌, inl, inr, ℕ, zero, suc, ◌+◌, ◌-◌, ◌*◌, ◌<◌, ◌≤◌, min, nat_lt, cond, Bool, true, false, List, [], ◌∷◌, length, get_or, Option, Some, None, refl, sym, ap, subst, ◌∙◌, arith}
use Rattle.std.specs.Prelude.{IfSome, find, slice_get}
use Rattle.std.specs.List.{range_with_len}
use Rattle.std.proofs.lemmas.Bool.{ltb-true, ltb-false}
use Rattle.pop_crowd.specs.declared.crowd.Meeting.{Meeting}
use Rattle.run_spec.specs.declared.spec.RunSpec.{RunSpec}
use Rattle.run_picks.specs.Run.{IsRound, joined, made_by, turns_in}
use Rattle.run_picks.specs.WatchedRun.{IsWatchedRound, AreSpent}
use Rattle.run_picks.proofs.SpentTurns.{HasTurns, joined_made, turns_on, first_turns, next_turns, made_most, has_turns}
use Rattle.pop_journal.specs.Expected.{lacking}
use Rattle.pop_journal.specs.Standing.{lacking_behind}

-- the first number that passes a test
first_some : (b : Bool) (a w : ℕ) (rest : Option ℕ) → cond b (Some a) rest ≡ Some w → ((b ≡ true) × (a ≡ w)) ⊎ (rest ≡ Some w)
first_some true a w rest e = inl (refl, cc)
first_some false a w rest e = inr e

first_none : (b : Bool) (a : ℕ) (rest : Option ℕ) → cond b (Some a) rest ≡ None → (b ≡ false) × (rest ≡ None)
first_none true a rest e = absurd cc
first_none false a rest e = (refl, e)

found_on : (p : ℕ → Bool) (a n w : ℕ) → ((p a ≡ true) × (a ≡ w)) ⊎ (find p (range_with_len (a + 1) n) ≡ Some w) → (find p (range_with_len (a + 1) n) ≡ Some w → (w < a + 1 + n) × (p w ≡ true)) → (w < a + suc n) × (p w ≡ true)
found_on p a n w (inl h) on = let same = h.1 in (omega (arith, same), ap p (sym same) ∙ h.0)
found_on p a n w (inr h) on = let rest = on h in let less : w < a + 1 + n = rest.0 in (omega (arith, less), rest.1)

found_in : (p : ℕ → Bool) (a n w : ℕ) → find p (range_with_len a n) ≡ Some w → (w < a + n) × (p w ≡ true)
found_in p a zero w e = absurd cc
found_in p a (suc n) w e = found_on p a n w (first_some (p a) a w (find p (range_with_len (a + 1) n)) e) (λ h. found_in p (a + 1) n w h)

none_in : (p : ℕ → Bool) (a n i : ℕ) → find p (range_with_len a n) ≡ None → i < n → p (a + i) ≡ false
none_in p a zero i e l = absurd (omega (arith, l))
none_in p a (suc n) zero e l = ap p (let s : a + 0 ≡ a = omega arith in s) ∙ (first_none (p a) a (find p (range_with_len (a + 1) n)) e).0
none_in p a (suc n) (suc i) e l =
    ap p (let s : a + suc i ≡ a + 1 + i = omega arith in s) ∙ none_in p (a + 1) n i (first_none (p a) a (find p (range_with_len (a + 1) n)) e).1 (omega (arith, l))

-- tests that agree find the same number
pub found_alike : (p q : ℕ → Bool) (a n : ℕ) → ((i : ℕ) → i < n → p (a + i) ≡ q (a + i)) → find p (range_with_len a n) ≡ find q (range_with_len a n)
found_alike p q a zero same = refl
found_alike p q a (suc n) same =
    let here : p a ≡ q a = ap p (let e : a ≡ a + 0 = omega arith in e) ∙ same 0 (omega arith) ∙ ap q (let e : a + 0 ≡ a = omega arith in e) in
    let next : (i : ℕ) → i < n → p (a + 1 + i) ≡ q (a + 1 + i) =
    λ i l. ap p (let e : a + 1 + i ≡ a + suc i = omega arith in e) ∙ same (suc i) (omega (arith, l)) ∙ ap q (let e : a + suc i ≡ a + 1 + i = omega arith in e) in
    let rest = found_alike p q (a + 1) n next in
    ap (λ (b : Bool). cond b (Some a) (find p (range_with_len (a + 1) n))) here ∙ ap (λ (o : Option ℕ). cond (q a) (Some a) o) rest

module _ (spec : RunSpec) where
  pub lacking_some : (k : ℕ) (ms : List Meeting) (w : ℕ) → lacking spec k ms ≡ Some w → (w < spec.workers) × (made_by w ms < turns_in spec k)
  lacking_some k ms w e =
      let found = found_in (λ (v : ℕ). nat_lt (made_by v ms) (turns_in spec k)) 0 spec.workers w e in
      let less : w < 0 + spec.workers = found.0 in (omega (arith, less), ltb-true (made_by w ms) (turns_in spec k) found.1)

  lacking_none : (k : ℕ) (ms : List Meeting) → lacking spec k ms ≡ None → (w : ℕ) → w < spec.workers → turns_in spec k ≤ made_by w ms
  lacking_none k ms e w l =
      let test : ℕ → Bool = λ v. nat_lt (made_by v ms) (turns_in spec k) in
      ltb-false (made_by w ms) (turns_in spec k) (ap test (let s : w ≡ 0 + w = omega arith in s) ∙ none_in test 0 spec.workers w e l)

  pub lacking_below : (k : ℕ) (ms : List Meeting) → IfSome (lacking spec k ms) (λ w. w < spec.workers)
  lacking_below k ms = by_found (lacking spec k ms) refl
    where
      by_found : (o : Option ℕ) → lacking spec k ms ≡ o → IfSome o (λ w. w < spec.workers)
      by_found None e = tt
      by_found (Some w) e = (lacking_some k ms w e).0

  pub behind_below : (rounds : List (List Meeting)) (k : ℕ) → IfSome (lacking_behind spec rounds k) (λ w. w < spec.workers)
  behind_below rounds zero = tt
  behind_below rounds (suc k) = lacking_below (suc k) (get_or rounds k [])

  -- a round that lacks nothing is whole
  round_whole : (k : ℕ) (ms : List Meeting) → IsWatchedRound spec k ms → lacking spec k ms ≡ None → IsRound spec k ms
  round_whole k ms h e =
      record {
        some_turn = h.some_turn;
        each_worker = λ w l. let most = h.each_worker w l in let least = lacking_none k ms e w l in omega (arith, most, least);
        nobody_else = h.nobody_else;
      }

  -- the least worker that lacks meetings of the last of these rounds, or of the round before them
  abbrev pub lacking_after : ℕ → Option ℕ → List (List Meeting) → Option ℕ
  lacking_after k worker [] = worker
  lacking_after k worker (r ∷ rounds) = lacking_after (k + 1) (lacking spec k r) rounds

  after_below : (k : ℕ) (worker : Option ℕ) (rounds : List (List Meeting)) → IfSome worker (λ w. w < spec.workers) → IfSome (lacking_after k worker rounds) (λ w. w < spec.workers)
  after_below k worker [] below = below
  after_below k worker (r ∷ rounds) below = after_below (k + 1) (lacking spec k r) rounds (lacking_below k r)

  -- if the last round lacks nothing, all rounds are whole
  pub all_whole : (k : ℕ) (worker : Option ℕ) (rounds : List (List Meeting)) → lacking_after k worker rounds ≡ None
      → ((i : ℕ) (r : List Meeting) → slice_get rounds i ≡ Some r → IsWatchedRound spec (k + i) r)
      → ((i : ℕ) (r : List Meeting) → i + 1 < length rounds → slice_get rounds i ≡ Some r → IsRound spec (k + i) r)
      → (i : ℕ) (r : List Meeting) → slice_get rounds i ≡ Some r → IsRound spec (k + i) r
  all_whole k worker [] none each whole i r h = absurd cc
  all_whole k worker (s ∷ []) none each whole zero r h =
      let same : s ≡ r = cc in
      subst (IsRound spec (k + 0)) same (round_whole (k + 0) s (each 0 s refl) (ap (λ (n : ℕ). lacking spec n s) (let e : k + 0 ≡ k = omega arith in e) ∙ none))
  all_whole k worker (s ∷ []) none each whole (suc i) r h = absurd cc
  all_whole k worker (s ∷ t ∷ rest) none each whole zero r h = whole zero r (omega arith) h
  all_whole k worker (s ∷ t ∷ rest) none each whole (suc i) r h =
      subst (λ (n : ℕ). IsRound spec n r) (let e : k + 1 + i ≡ k + suc i = omega arith in e)
      (all_whole (k + 1) (lacking spec k s) (t ∷ rest) none
      (λ j q g. subst (λ (n : ℕ). IsWatchedRound spec n q) (let e : k + suc j ≡ k + 1 + j = omega arith in e) (each (suc j) q g))
      (λ j q l g. subst (λ (n : ℕ). IsRound spec n q) (let e : k + suc j ≡ k + 1 + j = omega arith in e) (whole (suc j) q (omega (arith, l)) g))
      i r h)

  module _ (w : ℕ) where
    -- rounds from round k on have fewer meetings than turns are left, if the worker lacks one in the last
    made_less : (k : ℕ) (worker : Option ℕ) (rounds : List (List Meeting)) → lacking_after (k + 1) worker rounds ≡ Some w → HasTurns spec w k rounds → (worker ≡ Some w) ⊎ (made_by w (joined rounds) < spec.turns - 4096 * k)
    made_less k worker [] e each = inl e
    made_less k worker (r ∷ rounds) e each = inr (by_rest (made_less (k + 1) (lacking spec (k + 1) r) rounds e next))
      where
        next : HasTurns spec w (k + 1) rounds
        next = next_turns spec w k r rounds each

        by_rest : (lacking spec (k + 1) r ≡ Some w) ⊎ (made_by w (joined rounds) < spec.turns - 4096 * (k + 1)) → made_by w (joined (r ∷ rounds)) < spec.turns - 4096 * k
        by_rest (inl h) =
            let here : made_by w r < min 4096 (spec.turns - 4096 * k) =
            subst (λ (n : ℕ). made_by w r < min 4096 (spec.turns - 4096 * n)) (let same : k + 1 - 1 ≡ k = omega arith in same) (lacking_some (k + 1) r w h).1 in
            let rest = made_most spec w (k + 1) rounds next in
            let all = turns_on spec.turns k in
            let sum = joined_made w r rounds in omega (arith, here, rest, all, sum)
        by_rest (inr less) =
            let first = first_turns spec w k r rounds each in
            let all = turns_on spec.turns k in
            let sum = joined_made w r rounds in omega (arith, first, less, all, sum)

  module _ (rounds : List (List Meeting)) (each : (i : ℕ) (r : List Meeting) → slice_get rounds i ≡ Some r → IsWatchedRound spec (i + 1) r) (spent : AreSpent spec rounds) where
    -- if all turns are spent, the last round lacks nothing
    pub spent_none : lacking_after 1 None rounds ≡ None
    spent_none = by_last (lacking_after 1 None rounds) refl
      where
        by_less : (w : ℕ) → w < spec.workers → (◌≡◌ {A = Option ℕ} None (Some w)) ⊎ (made_by w (joined rounds) < spec.turns - 4096 * 0) → ⊥
        by_less w l (inl e) = absurd cc
        by_less w l (inr less) = let all = spent w l in omega (arith, less, all)

        by_last : (o : Option ℕ) → lacking_after 1 None rounds ≡ o → lacking_after 1 None rounds ≡ None
        by_last None e = e
        by_last (Some w) e =
            let below : w < spec.workers = subst (λ (o : Option ℕ). IfSome o (λ v. v < spec.workers)) e (after_below 1 None rounds tt) in
            absurd (by_less w below (made_less w 0 None rounds e (has_turns spec rounds each w below)))
