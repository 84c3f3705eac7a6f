-- The meetings of seats as those of workers: only their numbers change.
use Rattle.std.proofs.Common.{◌≡◌, ℕ, ◌+◌, ◌-◌, ◌<◌, ◌≤◌, Bool, true, false, cond, eqb, eq-eqb, List, [], ◌∷◌, ◌++◌, map, length, take, drop, set, get_or, refl, sym, ap, ◌∙◌, arith, ⊎_elim}
use Rattle.std.proofs.Math.Seq.{set-append_seam, get_or-append_seam}
use Rattle.std.proofs.lemmas.List.{length-map, length-take-le, take_more, drop_more, map-append, append_assoc}
use Rattle.std.specs.Prelude.{All}
use Rattle.std.proofs.lemmas.Bool.{cases_eq, ne_eqb, eqb-false}
use Rattle.std.proofs.lemmas.List.Elements.{All-head, All-tail, All-nil, All-cons}
use Rattle.pop_leaf.specs.NetModel.{NetModel, CrowdModel}
use Rattle.pop_leaf.specs.Reaction.{after_meeting}
use Rattle.pop_crowd.specs.declared.crowd.Meeting.{Meeting}
use Rattle.pop_crowd.specs.Replay.{replay, AreMarked}
use Rattle.agent_field.specs.declared.view.Logged.{Logged}
use Rattle.agent_field.specs.History.{calls_from, logged, listed_if}
use Rattle.run_picks.specs.Run.{meetings_of, pairs}
use Rattle.pop_watch.specs.Playing.{of_worker}

abbrev pub IsOfWorker : Meeting → Type 0
IsOfWorker m = 1 ≤ m.worker

none_if : (b : Bool) (e : Logged) (es : List Logged) → listed_if b e es ≡ [] → (b ≡ false) × (es ≡ [])
none_if true e es h = cc
none_if false e es h = (refl, h)

-- if number 0 has made no meeting, all meetings are of workers
pub all_of_workers : (t : ℕ) (ms : List Meeting) → calls_from 0 t ms ≡ [] → All IsOfWorker ms
all_of_workers t [] h = All-nil IsOfWorker
all_of_workers t (m ∷ ms) h =
    let none = none_if (eqb m.worker 0) (logged t m.a m.b m.changed) (calls_from 0 (t + 1) ms) h in
    let apart = eqb-false m.worker 0 none.0 in
    let some : 1 ≤ m.worker = omega (arith, apart) in
    All-cons IsOfWorker m ms some (all_of_workers (t + 1) ms none.1)

same_test : (k w : ℕ) → 1 ≤ k → eqb (k - 1) w ≡ eqb k (w + 1)
same_test k w some =
    ⊎_elim
    (λ (e : k - 1 ≡ w). eq-eqb (k - 1) w e ∙ sym (eq-eqb k (w + 1) (omega (arith, e, some))))
    (λ (n : k - 1 ≡ w → ⊥). let apart : k ≡ w + 1 → ⊥ = (λ e. n (omega (arith, e))) in ne_eqb (k - 1) w n ∙ sym (ne_eqb k (w + 1) apart))
    (cases_eq (k - 1) w)

pairs_alike : (b : Bool) (m : Meeting) (xs ys : List Meeting) → pairs xs ≡ pairs ys → pairs (cond b (of_worker m ∷ xs) xs) ≡ pairs (cond b (m ∷ ys) ys)
pairs_alike true m xs ys h = ap (λ (ps : List (ℕ × ℕ)). (m.a, m.b) ∷ ps) h
pairs_alike false m xs ys h = h

-- the pairs of a worker are those of its seat
pub pairs_of_worker : (w : ℕ) (ms : List Meeting) → All IsOfWorker ms → pairs (meetings_of w (map of_worker ms)) ≡ pairs (meetings_of (w + 1) ms)
pairs_of_worker w [] h = refl
pairs_of_worker w (m ∷ ms) h =
    let xs = meetings_of w (map of_worker ms) in
    let ys = meetings_of (w + 1) ms in
    ap (λ (b : Bool). pairs (cond b (of_worker m ∷ xs) xs)) (same_test m.worker w (All-head IsOfWorker m ms h))
    ∙ pairs_alike (eqb m.worker (w + 1)) m xs ys (pairs_of_worker w ms (All-tail IsOfWorker m ms h))

pub replay_of_workers : (net : NetModel) (ms : List Meeting) (crowd : CrowdModel) → replay net (map of_worker ms) crowd ≡ replay net ms crowd
replay_of_workers net [] crowd = refl
replay_of_workers net (m ∷ ms) crowd = replay_of_workers net ms (after_meeting net m.a m.b crowd)

pub marked_of_workers : (net : NetModel) (ms : List Meeting) (crowd : CrowdModel) → AreMarked net ms crowd → AreMarked net (map of_worker ms) crowd
marked_of_workers net [] crowd h = h
marked_of_workers net (m ∷ ms) crowd h = (h.0, marked_of_workers net ms (after_meeting net m.a m.b crowd) h.1)

-- the numbers of workers are one less than those of their seats
pub numbers_of_workers : (workers seats : ℕ) (ms : List Meeting) → seats ≡ workers + 1 → All IsOfWorker ms → All (λ (m : Meeting). m.worker < seats) ms → All (λ (m : Meeting). m.worker < workers) (map of_worker ms)
numbers_of_workers workers seats [] one some h = All-nil (λ (m : Meeting). m.worker < workers)
numbers_of_workers workers seats (m ∷ ms) one some h =
    let first : m.worker - 1 < workers = omega (arith, one, All-head IsOfWorker m ms some, All-head (λ (m : Meeting). m.worker < seats) m ms h) in
    All-cons (λ (m : Meeting). m.worker < workers) (of_worker m) (map of_worker ms) first
    (numbers_of_workers workers seats ms one (All-tail IsOfWorker m ms some) (All-tail (λ (m : Meeting). m.worker < seats) m ms h))

-- the next meeting of a list is turned, in its place
pub turn_next : (meetings now : List Meeting) (i : ℕ) (d : Meeting) → i < length meetings → map of_worker (take i meetings) ++ drop i meetings ≡ now
    → map of_worker (take (i + 1) meetings) ++ drop (i + 1) meetings ≡ set now i (of_worker (get_or now i d))
turn_next meetings now i d l done =
    let here = get_or meetings i d in
    let turned = map of_worker (take i meetings) in
    let later = drop (i + 1) meetings in
    let long : length turned ≡ i = length-map (take i meetings) of_worker ∙ length-take-le i meetings (omega (arith, l)) in
    let parts : now ≡ turned ++ here ∷ later = sym done ∙ ap (λ (ms : List Meeting). turned ++ ms) (drop_more meetings i d l) in
    let same : here ≡ get_or now i d =
    sym (ap (λ (ms : List Meeting). get_or ms i d) parts ∙ ap (λ (n : ℕ). get_or (turned ++ here ∷ later) n d) (sym long) ∙ get_or-append_seam turned here later d) in
    ap (λ (ms : List Meeting). map of_worker ms ++ later) (take_more meetings i d l)
    ∙ ap (λ (ms : List Meeting). ms ++ later) (map-append of_worker (take i meetings) (here ∷ []))
    ∙ append_assoc turned (of_worker here ∷ []) later
    ∙ ap (λ (x : Meeting). turned ++ of_worker x ∷ later) same
    ∙ sym (set-append_seam turned here later (of_worker (get_or now i d)))
    ∙ ap (λ (n : ℕ). set (turned ++ here ∷ later) n (of_worker (get_or now i d))) long
    ∙ ap (λ (ms : List Meeting). set ms i (of_worker (get_or now i d))) (sym parts)
