-- A run by one worker is the only one: its meetings are picks, and its rounds have as many meetings as their turns say.
use Rattle.std.proofs.Common.{◌≡◌, ◌⊎◌, inl, inr, ℕ, suc, ◌+◌, ◌*◌, ◌<◌, ◌≤◌, List, [], ◌∷◌, ◌++◌, length, take, refl, ap, sym, subst, ◌∙◌, arith}
use Rattle.std.specs.Prelude.{All, Some, slice_get}
use Rattle.std.proofs.lemmas.Bool.{cases_lt}
use Rattle.std.proofs.lemmas.List.{length-append, take_all}
use Rattle.std.proofs.lemmas.List.Elements.{All-head, All-tail, All-weaker, All-nil, All-append}
use Rattle.std.proofs.lemmas.Option.{slice_get-get_or}
use Rattle.rand_core.specs.Stream.{Stream, next_u64}
use Rattle.pop_leaf.specs.NetModel.{NetModel, CrowdModel}
use Rattle.pop_leaf.specs.Step.{Step}
use Rattle.pop_leaf.specs.Terminal.{IsTerminal}
use Rattle.pop_leaf.specs.Reaction.{after_meeting}
use Rattle.pop_crowd.specs.declared.crowd.Meeting.{Meeting}
use Rattle.pop_crowd.specs.Replay.{replay, changes, AreMarked}
use Rattle.run_spec.specs.declared.spec.RunSpec.{RunSpec}
use Rattle.run_picks.specs.Picks.{pick_of, picks_from, words_from, first_state}
use Rattle.run_picks.specs.Run.{IsRunUntil, IsRound, joined, pairs, turns_in}
use Rattle.run_picks.specs.OneRun.{IsOnlyRunUntil}
use Rattle.run_picks.proofs.Rounds.{all_mine}
use Rattle.base_laws.proofs.Lists.{heads, tails}

pub same_meeting : (m n : Meeting) → m.worker ≡ n.worker → m.a ≡ n.a → m.b ≡ n.b → m.changed ≡ n.changed → m ≡ n
same_meeting m n w a b c = λ i. record { worker = w i; a = a i; b = b i; changed = c i }

take_none : {A : Type 0} (xs : List A) → take 0 xs ≡ []
take_none [] = refl
take_none (x ∷ xs) = refl

abbrev Mine : Meeting → Type 0
Mine m = m.worker ≡ 0

-- correctly marked meetings that are picks are a prefix of any longer list of such meetings
firsts : (net : NetModel) (words : Stream) (n : ℕ) (crowd : CrowdModel) (ms more : List Meeting) → All Mine ms → All Mine more → pairs ms ≡ picks_from words n (length ms) → pairs more ≡ picks_from words n (length more) → AreMarked net ms crowd → AreMarked net more crowd → length ms ≤ length more
    → ms ≡ take (length ms) more
firsts net words n crowd [] more h k p q a b l = sym (take_none more)
firsts net words n crowd (m ∷ ms) [] h k p q a b l = absurd (omega (arith, l))
firsts net words n crowd (m ∷ ms) (o ∷ more) h k p q a b l =
    let pick = pick_of n (next_u64 words).0 in
    let rest = (next_u64 words).1 in
    let first = heads (m.a, m.b) pick (pairs ms) (picks_from rest n (length ms)) p in
    let other = heads (o.a, o.b) pick (pairs more) (picks_from rest n (length more)) q in
    let agents : ◌≡◌ {A = ℕ × ℕ} (m.a, m.b) (o.a, o.b) = first ∙ sym other in
    let worker = All-head Mine m ms h ∙ sym (All-head Mine o more k) in
    let changed : m.changed ≡ o.changed = a.0 ∙ ap (λ (t : ℕ × ℕ). changes net t.0 t.1 crowd) agents ∙ sym b.0 in
    let same = same_meeting m o worker (ap (λ (t : ℕ × ℕ). t.0) agents) (ap (λ (t : ℕ × ℕ). t.1) agents) changed in
    let tail =
    firsts net rest n (after_meeting net m.a m.b crowd) ms more (All-tail Mine m ms h) (All-tail Mine o more k) (tails (m.a, m.b) pick (pairs ms) (picks_from rest n (length ms)) p) (tails (o.a, o.b) pick (pairs more) (picks_from rest n (length more)) q)
    a.1 (subst (λ (t : ℕ × ℕ). AreMarked net more (after_meeting net t.0 t.1 crowd)) (sym agents) b.1) (omega (arith, l)) in
    ap (λ (x : Meeting). x ∷ ms) same ∙ ap (λ (xs : List Meeting). o ∷ xs) tail

-- two lists whose first parts have equal length
parts : {A : Type 0} (a a' b b' : List A) → length a ≡ length a' → a ++ b ≡ take (length (a ++ b)) (a' ++ b') → (a ≡ a') × (b ≡ take (length b) b')
parts [] [] b b' l e = (refl, e)
parts [] (y ∷ a') b b' l e = absurd (omega (arith, l))
parts (x ∷ a) [] b b' l e = absurd (omega (arith, l))
parts (x ∷ a) (y ∷ a') b b' l e =
    let more = parts a a' b b' (omega (arith, l)) (tails x y (a ++ b) (take (length (a ++ b)) (a' ++ b')) e) in
    let head = heads x y (a ++ b) (take (length (a ++ b)) (a' ++ b')) e in
    (ap (λ z. z ∷ a) head ∙ ap (λ zs. y ∷ zs) more.0, more.1)

-- equally many meetings in each round that both have
abbrev AlikeLong : List (List Meeting) → List (List Meeting) → Type 0
AlikeLong rounds others =
    (k : ℕ) (r o : List Meeting) → slice_get rounds k ≡ Some r → slice_get others k ≡ Some o → length r ≡ length o

rounds_first : (rounds others : List (List Meeting)) → AlikeLong rounds others → length rounds ≤ length others → joined rounds ≡ take (length (joined rounds)) (joined others) → rounds ≡ take (length rounds) others
rounds_first [] others alike l e = sym (take_none others)
rounds_first (r ∷ rounds) [] alike l e = absurd (omega (arith, l))
rounds_first (r ∷ rounds) (o ∷ others) alike l e =
    let both = parts r o (joined rounds) (joined others) (alike 0 r o refl refl) e in
    ap (λ z. z ∷ rounds) both.0 ∙ ap (λ zs. o ∷ zs) (rounds_first rounds others (λ k a b h j. alike (suc k) a b h j) (omega (arith, l)) both.1)

fewer_meetings : (rounds others : List (List Meeting)) → AlikeLong rounds others → length rounds ≤ length others → length (joined rounds) ≤ length (joined others)
fewer_meetings [] others alike l = omega arith
fewer_meetings (r ∷ rounds) [] alike l = absurd (omega (arith, l))
fewer_meetings (r ∷ rounds) (o ∷ others) alike l =
    omega (arith, length-append r (joined rounds), length-append o (joined others), alike 0 r o refl refl, fewer_meetings rounds others (λ k a b h j. alike (suc k) a b h j) (omega (arith, l)))

module _ (net : NetModel) (start : CrowdModel) (spec : RunSpec) (alone : spec.workers ≡ 1) where
  mine : (k : ℕ) (r : List Meeting) → IsRound spec k r → All Mine r
  mine k r is = All-weaker (λ (m : Meeting). m.worker < spec.workers) Mine (λ m l. omega (arith, l, alone)) r is.nobody_else

  round_long : (k : ℕ) (r : List Meeting) → IsRound spec k r → length r ≡ turns_in spec k
  round_long k r is = ap length (sym (all_mine r (mine k r is))) ∙ is.each_worker 0 (omega (arith, alone))

  joined_mine : (rounds : List (List Meeting)) (k : ℕ) → ((i : ℕ) (r : List Meeting) → slice_get rounds i ≡ Some r → IsRound spec (k + i + 1) r) → All Mine (joined rounds)
  joined_mine [] k each = All-nil Mine
  joined_mine (r ∷ rounds) k each =
      All-append Mine r (joined rounds) (mine (k + 0 + 1) r (each 0 r refl))
      (joined_mine rounds (k + 1) (λ i s h. subst (λ n. IsRound spec n s) (let e : k + suc i + 1 ≡ k + 1 + i + 1 = omega arith in e) (each (suc i) s h)))

  module _ {rest : NetModel} (rounds others : List (List Meeting)) (end other : CrowdModel) (run : IsRunUntil rest net start spec rounds end) (second : IsRunUntil rest net start spec others other) where
    alike : AlikeLong rounds others
    alike k r o h j = round_long (k + 1) r (run.each_round k r h) ∙ sym (round_long (k + 1) o (second.each_round k o j))

    all_of : (rs : List (List Meeting)) (e : CrowdModel) → IsRunUntil rest net start spec rs e → All Mine (joined rs)
    all_of rs e is = joined_mine rs 0 (λ i r h. subst (λ n. IsRound spec n r) (let e : i + 1 ≡ 0 + i + 1 = omega arith in e) (is.each_round i r h))

    picked_of : (rs : List (List Meeting)) (e : CrowdModel) → IsRunUntil rest net start spec rs e → pairs (joined rs) ≡ picks_from (words_from (first_state spec.seed 0)) (length start) (length (joined rs))
    picked_of rs e is = rw (all_mine (joined rs) (all_of rs e is)) at (is.picked 0 (omega (arith, alone)))

    -- a run with no more rounds is a prefix of the other
    begins : length rounds ≤ length others → rounds ≡ take (length rounds) others
    begins l =
        rounds_first rounds others alike l
        (firsts net (words_from (first_state spec.seed 0)) (length start) start (joined rounds) (joined others) (all_of rounds end run) (all_of others other second) (picked_of rounds end run) (picked_of others other second) run.marked second.marked (fewer_meetings rounds others alike l))

    -- and it has no fewer rounds
    not_fewer : length rounds < length others → ⊥
    not_fewer l = ended run.over
      where
        goes : IsTerminal (Step rest) end → ⊥
        goes t =
            second.goes_on (length rounds) l
            (subst (λ (rs : List (List Meeting)). IsTerminal (Step rest) (replay net (joined rs) start)) (begins (omega (arith, l))) (subst (IsTerminal (Step rest)) (sym run.replays) t))

        ended : IsTerminal (Step rest) end ⊎ (spec.turns ≤ 4096 * length rounds) → ⊥
        ended (inl t) = goes t
        ended (inr spent) =
            let round = second.each_round (length rounds) _ (slice_get-get_or others (length rounds) [] l) in
            absurd (omega (arith, round.some_turn, spent))

-- two runs by one worker are equal
pub only_run : {rest : NetModel} (net : NetModel) (start : CrowdModel) (spec : RunSpec) (rounds : List (List Meeting)) (end : CrowdModel) → spec.workers ≡ 1 → IsRunUntil rest net start spec rounds end → IsOnlyRunUntil rest net start spec rounds end
only_run {rest} net start spec rounds end alone run others other second = by_length (cases_lt (length rounds) (length others)) (cases_lt (length others) (length rounds))
  where
    ends : others ≡ rounds → (others ≡ rounds) × (other ≡ end)
    ends same = (same, sym second.replays ∙ ap (λ rs. replay net (joined rs) start) same ∙ run.replays)

    by_length : (length rounds < length others) ⊎ (length others ≤ length rounds) → (length others < length rounds) ⊎ (length rounds ≤ length others) → (others ≡ rounds) × (other ≡ end)
    by_length (inl l) right = absurd (not_fewer net start spec alone rounds others end other run second l)
    by_length (inr l) (inl m) = absurd (not_fewer net start spec alone others rounds other end second run m)
    by_length (inr l) (inr m) =
        ends (begins net start spec alone others rounds other end second run l ∙ take_all (length others) rounds m)
