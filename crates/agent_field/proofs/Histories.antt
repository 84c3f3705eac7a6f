-- A history that is one meeting longer.
use Rattle.std.proofs.Common.{◌≡◌, ◌≢◌, ℕ, zero, suc, ◌+◌, ◌*◌, ◌<◌, ◌≤◌, Bool, true, false, eqb, eq-eqb, ne_eqb, List, [], ◌∷◌, ◌++◌, length, get_or, set, refl, sym, ap, ◌∙◌, subst, ⊎_elim, arith, length-set, get_or-set_same, get_or-set_other, add-zero}
use Rattle.std.specs.Prelude.{All}
use Rattle.std.proofs.lemmas.Bool.{cases_eq}
use Rattle.std.proofs.lemmas.List.Elements.{All-head, All-tail, All-push}
use mathlib.Core.List.{append-nil}
use Rattle.pop_net.specs.declared.net.Word.{Word}
use Rattle.pop_leaf.specs.NetModel.{NetModel, CrowdModel}
use Rattle.pop_net.specs.Lanes.{crowd_of}
use Rattle.pop_leaf.specs.Reaction.{reaction, after_meeting}
use Rattle.pop_crowd.specs.declared.crowd.Meeting.{Meeting}
use Rattle.pop_crowd.specs.Replay.{replay, changes, IsMeeting, AreMarked}
use Rattle.agent_field.specs.declared.view.Logged.{Logged}
use Rattle.agent_field.specs.History.{IsHistory, logged, listed_if, calls_from, calls}
use Rattle.agent_field.specs.Standing.{In}

marked-push : (net : NetModel) (history : List Meeting) (m : Meeting) (crowd : CrowdModel) → AreMarked net history crowd → m.changed ≡ changes net m.a m.b (replay net history crowd) → AreMarked net (history ++ m ∷ []) crowd
marked-push net [] m crowd marked is = (is, tt)
marked-push net (x ∷ xs) m crowd marked is = (marked.0, marked-push net xs m (after_meeting net x.a x.b crowd) marked.1 is)

pub history-push : (net : NetModel) (seats : ℕ) (opening : List Word) (history : List Meeting) (m : Meeting) → IsHistory net seats opening history
    → IsMeeting (length opening) m → m.worker < seats → m.changed ≡ changes net m.a m.b (replay net history (crowd_of net opening)) → IsHistory net seats opening (history ++ m ∷ [])
history-push net seats opening history m h meets numbered is = record {
  meetings = All-push (IsMeeting (length opening)) history m h.meetings meets;
  marked = marked-push net history m (crowd_of net opening) h.marked is;
  numbers = All-push (λ (n : Meeting). n.worker < seats) history m h.numbers numbered;
}

listed_if-append : (b : Bool) (e : Logged) (xs ys : List Logged) → listed_if b e (xs ++ ys) ≡ listed_if b e xs ++ ys
listed_if-append true e xs ys = refl
listed_if-append false e xs ys = refl

calls_from-push : (number ticket : ℕ) (history : List Meeting) (m : Meeting)
    → calls_from number ticket (history ++ m ∷ []) ≡ calls_from number ticket history ++ listed_if (eqb m.worker number) (logged (ticket + length history) m.a m.b m.changed) []
calls_from-push number ticket [] m = ap (λ (t : ℕ). listed_if (eqb m.worker number) (logged t m.a m.b m.changed) []) (sym (add-zero ticket))
calls_from-push number ticket (x ∷ xs) m =
    let rest = calls_from-push number (ticket + 1) xs m in
    let more = listed_if (eqb m.worker number) (logged (ticket + length (x ∷ xs)) m.a m.b m.changed) [] in
    let moved : listed_if (eqb m.worker number) (logged ((ticket + 1) + length xs) m.a m.b m.changed) [] ≡ more = ap (λ (t : ℕ). listed_if (eqb m.worker number) (logged t m.a m.b m.changed) []) (omega arith) in
    ap (listed_if (eqb x.worker number) (logged ticket x.a x.b x.changed)) (rest ∙ ap (λ (l : List Logged). calls_from number (ticket + 1) xs ++ l) moved)
    ∙ listed_if-append (eqb x.worker number) (logged ticket x.a x.b x.changed) (calls_from number (ticket + 1) xs) more

pub calls-push_mine : (number : ℕ) (history : List Meeting) (m : Meeting) → m.worker ≡ number → calls number (history ++ m ∷ []) ≡ calls number history ++ logged (length history) m.a m.b m.changed ∷ []
calls-push_mine number history m is =
    calls_from-push number 0 history m
    ∙ ap (λ (b : Bool). calls number history ++ listed_if b (logged (0 + length history) m.a m.b m.changed) []) (eq-eqb m.worker number is)
    ∙ ap (λ (t : ℕ). calls number history ++ logged t m.a m.b m.changed ∷ []) (omega arith)

pub calls-push_other : (number : ℕ) (history : List Meeting) (m : Meeting) → m.worker ≢ number → calls number (history ++ m ∷ []) ≡ calls number history
calls-push_other number history m other =
    calls_from-push number 0 history m
    ∙ ap (λ (b : Bool). calls number history ++ listed_if b (logged (0 + length history) m.a m.b m.changed) []) (ne_eqb m.worker number other)
    ∙ append-nil (calls number history)

below_if : (b : Bool) (number ticket : ℕ) (x : Meeting) (xs : List Meeting) (e : Logged) → (In e (calls_from number (ticket + 1) xs) → e.ticket < ticket + 1 + length xs)
    → In e (listed_if b (logged ticket x.a x.b x.changed) (calls_from number (ticket + 1) xs)) → e.ticket < ticket + length (x ∷ xs)
below_if true number ticket x xs e later h =
    ⊎_elim
    (λ (is : e ≡ logged ticket x.a x.b x.changed). let t : e.ticket ≡ ticket = ap (λ (l : Logged). l.ticket) is in omega arith)
    (λ (i : In e (calls_from number (ticket + 1) xs)). let l = later i in omega arith)
    h
below_if false number ticket x xs e later h = let l = later h in omega arith

-- a ticket of the history is below its length
pub calls_from-below : (number ticket : ℕ) (history : List Meeting) (e : Logged) → In e (calls_from number ticket history) → e.ticket < ticket + length history
calls_from-below number ticket [] e h = absurd h
calls_from-below number ticket (x ∷ xs) e h =
    below_if (eqb x.worker number) number ticket x xs e (calls_from-below number (ticket + 1) xs e) h

-- the sum of f over the numbers below n
sum_below : (ℕ → ℕ) → ℕ → ℕ
sum_below f zero = 0
sum_below f (suc n) = f n + sum_below f n

sum_below-most : (f : ℕ → ℕ) (n most : ℕ) → ((w : ℕ) → f w ≤ most) → sum_below f n ≤ n * most
unfolding sum_below
sum_below-most f zero most all = omega arith
sum_below-most f (suc n) most all = let here = all n in let rest = sum_below-most f n most all in omega arith

more_below : (k n : ℕ) (e : Logged) (rest : ℕ → List Logged)
    → (k < n → sum_below (λ w. length (listed_if (eqb k w) e (rest w))) n ≡ 1 + sum_below (λ w. length (rest w)) n)
    × (n ≤ k → sum_below (λ w. length (listed_if (eqb k w) e (rest w))) n ≡ sum_below (λ w. length (rest w)) n)
unfolding sum_below
more_below k zero e rest = ((λ h. absurd (omega arith)), (λ h. refl))
more_below k (suc n) e rest =
    let ih = more_below k n e rest in (
      (λ h. ⊎_elim
          (λ (same : k ≡ n). let t : length (listed_if (eqb k n) e (rest n)) ≡ 1 + length (rest n) = ap (λ (b : Bool). length (listed_if b e (rest n))) (eq-eqb k n same) ∙ omega arith in let s = ih.1 (omega arith) in omega arith)
          (λ (not_same : k ≢ n). let t : length (listed_if (eqb k n) e (rest n)) ≡ length (rest n) = ap (λ (b : Bool). length (listed_if b e (rest n))) (ne_eqb k n not_same) in let s = ih.0 (omega arith) in omega arith)
          (cases_eq k n)),
      (λ h. let t : length (listed_if (eqb k n) e (rest n)) ≡ length (rest n) = ap (λ (b : Bool). length (listed_if b e (rest n))) (ne_eqb k n (λ same. omega arith)) in let s = ih.1 (omega arith) in omega arith),
    )

length-sum : (seats ticket : ℕ) (history : List Meeting) → All (λ (m : Meeting). m.worker < seats) history → sum_below (λ w. length (calls_from w ticket history)) seats ≡ length history
unfolding sum_below
length-sum seats ticket [] known = zeros seats
  where
    zeros : (n : ℕ) → sum_below (λ w. 0) n ≡ 0
    zeros zero = refl
    zeros (suc n) = let ih = zeros n in omega arith
length-sum seats ticket (x ∷ xs) known =
    (more_below x.worker seats (logged ticket x.a x.b x.changed) (λ w. calls_from w (ticket + 1) xs)).0 (All-head (λ (m : Meeting). m.worker < seats) x xs known)
    ∙ (let ih = length-sum seats (ticket + 1) xs (All-tail (λ (m : Meeting). m.worker < seats) x xs known) in omega arith)

-- if no number has made more than `most` meetings, the history has at most that many for each number
pub length-most : (seats most : ℕ) (history : List Meeting) → All (λ (m : Meeting). m.worker < seats) history → ((w : ℕ) → length (calls w history) ≤ most) → length history ≤ seats * most
length-most seats most history known all =
    subst (λ (n : ℕ). n ≤ seats * most) (length-sum seats 0 history known) (sum_below-most (λ w. length (calls w history)) seats most all)

-- the tuples of the pair, and of the others
module _ (net : NetModel) (crowd : CrowdModel) (a b : ℕ) where
  pub after_meeting-second : b < length crowd → get_or (after_meeting net a b crowd) b [] ≡ (reaction net (get_or crowd a []) (get_or crowd b [])).1
  after_meeting-second within =
      let r = reaction net (get_or crowd a []) (get_or crowd b []) in
      get_or-set_same (set crowd a r.0) b r.1 [] (subst (λ (n : ℕ). b < n) (sym (length-set crowd a r.0)) within)

  pub after_meeting-first : a < length crowd → a ≢ b → get_or (after_meeting net a b crowd) a [] ≡ (reaction net (get_or crowd a []) (get_or crowd b [])).0
  after_meeting-first within apart =
      let r = reaction net (get_or crowd a []) (get_or crowd b []) in
      get_or-set_other (set crowd a r.0) b a r.1 [] apart ∙ get_or-set_same crowd a r.0 [] within

  pub after_meeting-other : (c : ℕ) → c ≢ a → c ≢ b → get_or (after_meeting net a b crowd) c [] ≡ get_or crowd c []
  after_meeting-other c not_a not_b =
      let r = reaction net (get_or crowd a []) (get_or crowd b []) in
      get_or-set_other (set crowd a r.0) b c r.1 [] not_b ∙ get_or-set_other crowd a c r.0 [] not_a
