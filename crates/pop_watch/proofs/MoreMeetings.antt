-- One more meeting in a round under way, and many more.
use Rattle.std.proofs.Common.{◌≡◌, ℕ, suc, ◌+◌, ◌<◌, Bool, true, false, cond, eqb, eq-eqb, if◌then◌else◌, ◌==◌, List, [], ◌∷◌, ◌++◌, length, get_or, set, refl, sym, ap, subst, ◌∙◌, arith, ⊎_elim, length-append, get_or-set_same, get_or-set_other}
use Rattle.std.proofs.lemmas.Bool.{cases_eq, ne_eqb, eqb-false, eqb-true}
use Rattle.std.proofs.lemmas.List.{append-nil, map-append}
use Rattle.std.proofs.lemmas.List.Elements.{All-nil, All-cons, All-append, filter-append}
use Rattle.pop_leaf.specs.NetModel.{NetModel, CrowdModel}
use Rattle.pop_leaf.specs.Reaction.{after_meeting}
use Rattle.pop_net.specs.Lanes.{crowd_of}
use Rattle.pop_net.specs.declared.net.Word.{Word}
use Rattle.pop_crowd.specs.declared.crowd.Meeting.{Meeting}
use Rattle.pop_crowd.specs.Replay.{replay, changes, AreMarked}
use Rattle.pop_crowd.proofs.InARow.{replay_append}
use Rattle.run_picks.specs.Picks.{picks_from, words_from}
use Rattle.run_picks.specs.Turns.{HasPicked}
use Rattle.run_picks.specs.Run.{meetings_of, pairs, made_by}
use Rattle.run_picks.proofs.Played.{marked_append}
use Rattle.run_picks.proofs.Turns.{picked_more}
use Rattle.pair_workers.specs.declared.round_end.RoundEnd.{RoundEnd}
use Rattle.pop_watch.specs.Playing.{ArePlaying, IsPlayedFrom, KeepsPlaying, HasMore}

-- one more meeting, if it is the worker's
picked_if : (b : Bool) (n : ℕ) (ms : List Meeting) (m : Meeting) (first now next : List ℕ) → HasPicked n (length ms) first now (pairs ms)
    → (b ≡ true → (count : ℕ) → picks_from (words_from now) n (suc count) ≡ (m.a, m.b) ∷ picks_from (words_from next) n count) → (b ≡ false → now ≡ next)
    → HasPicked n (length (ms ++ cond b (m ∷ []) [])) first next (pairs (ms ++ cond b (m ∷ []) []))
picked_if true n ms m first now next h mine other =
    subst (λ (t : ℕ × List (ℕ × ℕ)). HasPicked n t.0 first next t.1) (λ i. (sym (length-append ms (m ∷ [])) i, sym (map-append (λ (m : Meeting). (m.a, m.b)) ms (m ∷ [])) i))
    (picked_more n (length ms) first now next (pairs ms) (m.a, m.b) h (mine refl))
picked_if false n ms m first now next h mine other =
    subst (λ (t : List Meeting × List ℕ). HasPicked n (length t.0) first t.1 (pairs t.0)) (λ i. (sym (append-nil ms) i, other refl i)) h

module _ (net : NetModel) (start : CrowdModel) (workers : ℕ) (before after : List (List ℕ)) (meetings : List Meeting) (end : CrowdModel) (h : ArePlaying net start workers before after meetings end) where
  pub one_more : (w : ℕ) (now next : List ℕ) (m : Meeting) → w < workers → workers ≡ length after → ((d : List ℕ) → get_or after w d ≡ now) → m.worker ≡ w → m.changed ≡ changes net m.a m.b end
      → ((count : ℕ) → picks_from (words_from now) (length start) (suc count) ≡ (m.a, m.b) ∷ picks_from (words_from next) (length start) count)
      → ArePlaying net start workers before (set after w next) (meetings ++ m ∷ []) (after_meeting net m.a m.b end)
  one_more w now next m within long found mine right picks =
      record {
        marked = marked_append net meetings (m ∷ []) start h.marked (subst (AreMarked net (m ∷ [])) (sym h.replays) (right, tt));
        replays = replay_append net meetings (m ∷ []) start ∙ ap (replay net (m ∷ [])) h.replays;
        picked = each;
        nobody_else = All-append (λ (m : Meeting). m.worker < workers) meetings (m ∷ []) h.nobody_else (All-cons (λ (m : Meeting). m.worker < workers) m [] below (All-nil (λ (m : Meeting). m.worker < workers)));
      }
    where
      below : m.worker < workers
      below = omega (arith, mine, within)

      each : (v : ℕ) (d : List ℕ) → v < workers → HasPicked (length start) (made_by v (meetings ++ m ∷ [])) (get_or before v d) (get_or (set after w next) v d) (pairs (meetings_of v (meetings ++ m ∷ [])))
      each v d l =
          let same : (eqb m.worker v ≡ true) → v ≡ w = (λ e. sym (eqb-true m.worker v e) ∙ mine) in
          let apart : (eqb m.worker v ≡ false) → v ≡ w → ⊥ = (λ e f. eqb-false m.worker v e (mine ∙ sym f)) in
          subst (λ (ms : List Meeting). HasPicked (length start) (length ms) (get_or before v d) (get_or (set after w next) v d) (pairs ms)) (sym (filter-append (λ (m : Meeting). m.worker == v) meetings (m ∷ [])))
          (picked_if (eqb m.worker v) (length start) (meetings_of v meetings) m (get_or before v d) (get_or after v d) (get_or (set after w next) v d) (h.picked v d l)
          (λ e. subst (λ (t : List ℕ × List ℕ). (count : ℕ) → picks_from (words_from t.0) (length start) (suc count) ≡ (m.a, m.b) ∷ picks_from (words_from t.1) (length start) count)
          (λ i. (sym (ap (λ (k : ℕ). get_or after k d) (same e) ∙ found d) i, sym (ap (λ (k : ℕ). get_or (set after w next) k d) (same e) ∙ get_or-set_same after w next d (omega (arith, within, long))) i)) picks)
          (λ e. sym (get_or-set_other after w v next d (apart e))))

one_if : (w v : ℕ) (m : Meeting) → m.worker ≡ w → length (meetings_of v (m ∷ [])) ≡ (if v == w then 1 else 0)
one_if w v m mine =
    ⊎_elim
    (λ (e : v ≡ w). ap (λ (b : Bool). length (cond b (m ∷ []) [])) (eq-eqb m.worker v (mine ∙ sym e)) ∙ sym (ap (λ (b : Bool). if b then 1 else 0) (eq-eqb v w e)))
    (λ (n : v ≡ w → ⊥). let apart : m.worker ≡ v → ⊥ = (λ e. n (sym e ∙ mine)) in ap (λ (b : Bool). length (cond b (m ∷ []) [])) (ne_eqb m.worker v apart) ∙ sym (ap (λ (b : Bool). if b then 1 else 0) (ne_eqb v w n)))
    (cases_eq v w)

-- one more meeting by a worker
pub made_more : (w : ℕ) (meetings : List Meeting) (m : Meeting) → m.worker ≡ w → (v : ℕ) → made_by v (meetings ++ m ∷ []) ≡ made_by v meetings + (if v == w then 1 else 0)
made_more w meetings m mine v =
    ap length (filter-append (λ (m : Meeting). m.worker == v) meetings (m ∷ []))
    ∙ length-append (meetings_of v meetings) (meetings_of v (m ∷ []))
    ∙ ap (λ (n : ℕ). made_by v meetings + n) (one_if w v m mine)

sum_if : (b : Bool) (n turns more : ℕ) → n + (if b then turns else 0) + (if b then more else 0) ≡ n + (if b then turns + more else 0)
sum_if true n turns more = omega arith
sum_if false n turns more = omega arith

nothing_if : (b : Bool) (n : ℕ) → n ≡ n + (if b then 0 else 0)
nothing_if true n = omega arith
nothing_if false n = omega arith

pub has_no_more : (w : ℕ) (p : RoundEnd) → HasMore w 0 p p
has_no_more w p v = nothing_if (v == w) (made_by v p.meetings.items)

pub has_more_on : (w turns more : ℕ) (p q r : RoundEnd) → HasMore w turns p q → HasMore w more q r → HasMore w (turns + more) p r
has_more_on w turns more p q r h k v =
    k v
    ∙ ap (λ (n : ℕ). n + (if v == w then more else 0)) (h v)
    ∙ sum_if (v == w) (made_by v p.meetings.items) turns more

pub goes_on_none : (net : NetModel) (p : RoundEnd) → KeepsPlaying net p p
goes_on_none net p = record { more = λ start first h. h; pickers = refl; agents = refl }

-- equal parts make an equal round
pub keeps_same : (net : NetModel) (p q : RoundEnd) → q.crowd ≡ p.crowd → q.pickers.items ≡ p.pickers.items → q.meetings.items ≡ p.meetings.items → KeepsPlaying net p q
keeps_same net p q crowd pickers meetings = record {
  more = λ start first is. subst (λ (t : List Word × List (List ℕ) × List Meeting). ArePlaying net start (length p.pickers.items) first t.1 t.2 (crowd_of net t.0)) (λ i. (sym crowd i, sym pickers i, sym meetings i)) is;
  pickers = ap (length {A = List ℕ}) pickers;
  agents = ap (length {A = Word}) crowd;
}

pub goes_on_more : (net : NetModel) (p q r : RoundEnd) → KeepsPlaying net p q → KeepsPlaying net q r → KeepsPlaying net p r
goes_on_more net p q r h k =
    record {
      more = λ start first is. subst (λ (n : ℕ). IsPlayedFrom net start n first r) h.pickers (k.more start first (subst (λ (n : ℕ). IsPlayedFrom net start n first q) (sym h.pickers) (h.more start first is)));
      pickers = k.pickers ∙ h.pickers;
      agents = k.agents ∙ h.agents;
    }

-- the worker's own meetings, and another's
pub has_mine : (w turns : ℕ) (p q : RoundEnd) → HasMore w turns p q → made_by w q.meetings.items ≡ made_by w p.meetings.items + turns
has_mine w turns p q h =
    h w
    ∙ ap (λ (b : Bool). made_by w p.meetings.items + (if b then turns else 0)) (eq-eqb w w refl)

pub has_others : (w turns v : ℕ) (p q : RoundEnd) → (v ≡ w → ⊥) → HasMore w turns p q → made_by v q.meetings.items ≡ made_by v p.meetings.items
has_others w turns v p q apart h =
    h v
    ∙ ap (λ (b : Bool). made_by v p.meetings.items + (if b then turns else 0)) (ne_eqb v w apart)
    ∙ omega arith
