-- Rounds of many workers, one after the other.
use Rattle.std.proofs.Common.{◌≡◌, ◌⊎◌, inl, inr, ℕ, zero, suc, ◌+◌, ◌-◌, ◌*◌, ◌<◌, ◌≤◌, ◌==◌, min, List, [], ◌∷◌, ◌++◌, length, get_or, set, take, refl, ap, sym, subst, ◌∙◌, arith, get_or-set_same}
use Rattle.std.specs.Prelude.{Some, slice_get}
use Rattle.std.proofs.lemmas.Bool.{cases_lt}
use Rattle.std.proofs.Math.Nat.{min-eq_left, le-min}
use Rattle.std.proofs.lemmas.List.{append-nil, length-append, length-map, map-append, take_all, take-append-le}
use Rattle.std.proofs.lemmas.List.Elements.{All-weaker, filter-append}
use Rattle.pop_leaf.specs.NetModel.{NetModel, CrowdModel}
use Rattle.pop_leaf.specs.Step.{Step}
use Rattle.pop_leaf.specs.Terminal.{IsTerminal}
use Rattle.pop_crowd.specs.declared.crowd.Meeting.{Meeting}
use Rattle.pop_crowd.specs.Replay.{replay, AreMarked}
use Rattle.pop_crowd.proofs.InARow.{replay_append}
use Rattle.run_spec.specs.declared.spec.RunSpec.{RunSpec}
use Rattle.run_picks.specs.Picks.{picks, picks_from, words_from, first_state}
use Rattle.run_picks.specs.Run.{IsRunUntil, IsRound, joined, pairs, meetings_of, turns_in}
use Rattle.run_picks.specs.Played.{IsPlayed}
use Rattle.run_picks.specs.Turns.{HasPicked, ArePlayed}
use Rattle.run_picks.proofs.Played.{marked_append}
use Rattle.run_picks.proofs.Rounds.{get_pushed, joined_push, all_mine}
use Rattle.run_picks.proofs.Turns.{picked_none, picked_on}
use Rattle.pop_crowd.proofs.Reached.{length-replay}

-- what one worker plays alone is a round of one worker
pub alone_played : (net : NetModel) (start : CrowdModel) (turns : ℕ) (pickers : List (List ℕ)) (before after : List ℕ) (ms : List Meeting) (end : CrowdModel) → IsPlayed net start (words_from before) ms end (words_from after)
    → length ms ≡ turns → length pickers ≡ 1 → ((d : List ℕ) → before ≡ get_or pickers 0 d) → ArePlayed net start 1 turns pickers (set pickers 0 after) ms end
alone_played net start turns pickers before after ms end h size one found =
    record {
      marked = h.marked;
      replays = h.replays;
      picked = picked;
      nobody_else = All-weaker (λ (m : Meeting). m.worker ≡ 0) (λ (m : Meeting). m.worker < 1) (λ m z. omega (arith, z)) ms h.alone;
    }
  where
    mine : HasPicked (length start) turns before after (pairs ms)
    mine = record {
      long = length-map ms (λ (m : Meeting). (m.a, m.b)) ∙ size;
      picked = λ count. ap (λ (k : ℕ). picks_from (words_from before) (length start) (k + count)) (sym size) ∙ h.picked count;
    }

    picked : (w : ℕ) (d : List ℕ) → w < 1 → HasPicked (length start) turns (get_or pickers w d) (get_or (set pickers 0 after) w d) (pairs (meetings_of w ms))
    picked zero d l =
        let stands : after ≡ get_or (set pickers 0 after) 0 d = sym (get_or-set_same pickers 0 after d (omega (arith, one))) in
        let all : pairs ms ≡ pairs (meetings_of 0 ms) = ap pairs (sym (all_mine ms h.alone)) in
        subst (λ (t : List ℕ × List ℕ × List (ℕ × ℕ)). HasPicked (length start) turns t.0 t.1 t.2) (λ i. (found d i, stands i, all i)) mine
    picked (suc w) d l = absurd (omega (arith, l))

-- the rounds so far, the crowd after them, the states of the pickers, and the turns that are left
pub record AreOnTheRun (rest net : NetModel) (start : CrowdModel) (spec : RunSpec) (rounds : List (List Meeting)) (crowd : CrowdModel) (pickers : List (List ℕ)) (left : ℕ) : Type 0 where
  pub each : (k : ℕ) (meetings : List Meeting) → slice_get rounds k ≡ Some meetings → IsRound spec (k + 1) meetings
  pub picked : (w : ℕ) (d : List ℕ) → w < spec.workers → HasPicked (length start) (length (meetings_of w (joined rounds))) (first_state spec.seed w) (get_or pickers w d) (pairs (meetings_of w (joined rounds)))
  pub marked : AreMarked net (joined rounds) start
  pub replays : replay net (joined rounds) start ≡ crowd
  pub goes_on : (k : ℕ) → k < length rounds → IsTerminal (Step rest) (replay net (joined (take k rounds)) start) → ⊥
  pub unspent : left ≡ spec.turns - 4096 * length rounds

pub all_no_rounds : (rest net : NetModel) (start : CrowdModel) (spec : RunSpec) (pickers : List (List ℕ)) → ((w : ℕ) (d : List ℕ) → w < spec.workers → get_or pickers w d ≡ first_state spec.seed w) → AreOnTheRun rest net start spec [] start pickers spec.turns
all_no_rounds rest net start spec pickers first =
    record {
      each = λ k meetings h. cc;
      picked = λ w d l. subst (λ (p : List ℕ). HasPicked (length start) 0 (first_state spec.seed w) p []) (sym (first w d l)) (picked_none (length start) (first_state spec.seed w));
      marked = tt;
      replays = refl;
      goes_on = λ k l. absurd (omega (arith, l));
      unspent = omega arith;
    }

-- a single picker belongs to worker 0
pub first_alone : (spec : RunSpec) (picker : List ℕ) → spec.workers ≡ 1 → picker ≡ first_state spec.seed 0 → (w : ℕ) (d : List ℕ) → w < spec.workers → get_or (picker ∷ []) w d ≡ first_state spec.seed w
first_alone spec picker one is zero d l = is
first_alone spec picker one is (suc w) d l = absurd (omega (arith, l, one))

module _ {rest : NetModel} (net : NetModel) (start : CrowdModel) (spec : RunSpec) (rounds : List (List Meeting)) (crowd : CrowdModel) (pickers : List (List ℕ)) (left : ℕ) (h : AreOnTheRun rest net start spec rounds crowd pickers left) where
  -- the turns of the next round
  pub next_turns : turns_in spec (length rounds + 1) ≡ min 4096 left
  next_turns = ap (λ n. min 4096 n) (let e : spec.turns - 4096 * (length rounds + 1 - 1) ≡ left = omega (arith, h.unspent) in e)

  some : 1 ≤ left → 1 ≤ min 4096 left
  some l = let four : 1 ≤ 4096 = omega arith in le-min four l

  fewer : left - min 4096 left ≡ spec.turns - 4096 * (length rounds + 1)
  fewer = by_size (cases_lt left 4096)
    where
      by_size : (left < 4096) ⊎ (4096 ≤ left) → left - min 4096 left ≡ spec.turns - 4096 * (length rounds + 1)
      by_size (inl l) = let all : left ≤ min 4096 left = (let m : left ≤ 4096 = omega (arith, l) in let n : left ≤ left = omega arith in le-min m n) in omega (arith, l, all, h.unspent)
      by_size (inr l) = omega (arith, l, h.unspent, min-eq_left l)

  pub as_many : length crowd ≡ length start
  as_many = ap length (sym h.replays) ∙ length-replay net (joined rounds) start

  -- what one more round adds to the rounds so far
  module _ (round : List Meeting) where
    pub all_of : (w : ℕ) → meetings_of w (joined (rounds ++ round ∷ [])) ≡ meetings_of w (joined rounds) ++ meetings_of w round
    all_of w = ap (meetings_of w) (joined_push rounds round) ∙ filter-append (λ (m : Meeting). m.worker == w) (joined rounds) round

    pub all_marked : AreMarked net round crowd → AreMarked net (joined (rounds ++ round ∷ [])) start
    all_marked marked =
        subst (λ (ms : List Meeting). AreMarked net ms start) (sym (joined_push rounds round))
        (marked_append net (joined rounds) round start h.marked (subst (AreMarked net round) (sym h.replays) marked))

    pub all_replayed : (end : CrowdModel) → replay net round crowd ≡ end → replay net (joined (rounds ++ round ∷ [])) start ≡ end
    all_replayed end is =
        ap (λ (ms : List Meeting). replay net ms start) (joined_push rounds round)
        ∙ replay_append net (joined rounds) round start
        ∙ ap (replay net round) h.replays ∙ is

    pub all_go_on : (IsTerminal (Step rest) crowd → ⊥) → (k : ℕ) → k < length (rounds ++ round ∷ [])
        → IsTerminal (Step rest) (replay net (joined (take k (rounds ++ round ∷ []))) start) → ⊥
    all_go_on goes k b t = by_place (cases_lt k (length rounds))
      where
        by_place : (k < length rounds) ⊎ (length rounds ≤ k) → ⊥
        by_place (inl c) = h.goes_on k c (subst (λ (rs : List (List Meeting)). IsTerminal (Step rest) (replay net (joined rs) start)) (take-append-le k rounds (round ∷ []) (omega (arith, c))) t)
        by_place (inr c) =
            let all : take k (rounds ++ round ∷ []) ≡ rounds = take-append-le k rounds (round ∷ []) (omega (arith, b, length-append rounds (round ∷ []))) ∙ take_all k rounds c in
            goes (subst (IsTerminal (Step rest)) (ap (λ (rs : List (List Meeting)). replay net (joined rs) start) all ∙ h.replays) t)

  module _ (end : CrowdModel) (after : List (List ℕ)) (round : List Meeting) (p : ArePlayed net crowd spec.workers (min 4096 left) pickers after round end) where
    made : (w : ℕ) → w < spec.workers → length (meetings_of w round) ≡ min 4096 left
    made w l = sym (length-map (meetings_of w round) (λ (m : Meeting). (m.a, m.b))) ∙ (p.picked w [] l).long

    more_picked : (w : ℕ) (d : List ℕ) → w < spec.workers → HasPicked (length start) (length (meetings_of w (joined rounds) ++ meetings_of w round)) (first_state spec.seed w) (get_or after w d) (pairs (meetings_of w (joined rounds) ++ meetings_of w round))
    more_picked w d l =
        let xs = meetings_of w (joined rounds) in
        let ys = meetings_of w round in
        let size : length xs + min 4096 left ≡ length (xs ++ ys) = omega (arith, length-append xs ys, made w l) in
        let both : pairs xs ++ pairs ys ≡ pairs (xs ++ ys) = sym (map-append (λ (m : Meeting). (m.a, m.b)) xs ys) in
        let next = subst (λ (n : ℕ). HasPicked n (min 4096 left) (get_or pickers w d) (get_or after w d) (pairs ys)) as_many (p.picked w d l) in
        subst (λ (t : ℕ × List (ℕ × ℕ)). HasPicked (length start) t.0 (first_state spec.seed w) (get_or after w d) t.1) (λ i. (size i, both i))
        (picked_on (length start) (length xs) (min 4096 left) (first_state spec.seed w) (get_or pickers w d) (get_or after w d) (pairs xs) (pairs ys) (h.picked w d l) next)

    -- one more round
    pub all_more_rounds : 1 ≤ left → (IsTerminal (Step rest) crowd → ⊥) → AreOnTheRun rest net start spec (rounds ++ round ∷ []) end after (left - min 4096 left)
    all_more_rounds l goes =
        record {
          each = λ k meetings e. each_case k meetings (get_pushed rounds round meetings k e);
          picked = λ w d b. subst (λ (ms : List Meeting). HasPicked (length start) (length ms) (first_state spec.seed w) (get_or after w d) (pairs ms)) (sym (all_of round w)) (more_picked w d b);
          marked = all_marked round p.marked;
          replays = all_replayed round end p.replays;
          goes_on = all_go_on round goes;
          unspent = fewer ∙ ap (λ n. spec.turns - 4096 * n) (sym (length-append rounds (round ∷ [])));
        }
      where
        each_case : (k : ℕ) (meetings : List Meeting) → (slice_get rounds k ≡ Some meetings) ⊎ ((k ≡ length rounds) × (round ≡ meetings)) → IsRound spec (k + 1) meetings
        each_case k meetings (inl e) = h.each k meetings e
        each_case k meetings (inr e) =
            rw (e.0, ← e.1) (record {
              some_turn = subst (λ n. 1 ≤ n) (sym next_turns) (some l);
              each_worker = λ w b. made w b ∙ sym next_turns;
              nobody_else = p.nobody_else;
            })

  -- a run that is over
  pub all_run_over : IsTerminal (Step rest) crowd ⊎ (left ≡ 0) → IsRunUntil rest net start spec rounds crowd
  all_run_over end =
      record {
        each_round = h.each;
        picked = picked;
        marked = h.marked;
        replays = h.replays;
        goes_on = h.goes_on;
        over = over end;
      }
    where
      picked : (w : ℕ) → w < spec.workers → pairs (meetings_of w (joined rounds)) ≡ picks spec.seed w (length start) (length (meetings_of w (joined rounds)))
      picked w l =
          let ms = meetings_of w (joined rounds) in
          sym (append-nil (pairs ms))
          ∙ sym ((h.picked w [] l).picked 0)
          ∙ ap (λ n. picks spec.seed w (length start) n) (let e : length ms + 0 ≡ length ms = omega arith in e)

      over : IsTerminal (Step rest) crowd ⊎ (left ≡ 0) → IsTerminal (Step rest) crowd ⊎ (spec.turns ≤ 4096 * length rounds)
      over (inl t) = inl t
      over (inr e) = inr (omega (arith, e, h.unspent))
