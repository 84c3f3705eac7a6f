-- The logs of all numbers, put at their tickets, are the history.
use Rattle.std.proofs.Common.{◌≡◌, ◌≢◌, ◌⊎◌, ℕ, zero, suc, ◌+◌, ◌<◌, Bool, true, false, eqb, eq-eqb, List, [], ◌∷◌, length, get_or, set, refl, sym, ap, ◌∙◌, subst, inl, inr, ⊎_elim, arith, length-set, get_or-set_same, get_or-set_other, Option, Some, None}
use Rattle.std.proofs.lemmas.Bool.{cases_eq, eqb-true}
use Rattle.std.proofs.lemmas.List.{ext_get_or}
use Rattle.agent_field.specs.declared.view.Logged.{Logged}
use Rattle.pop_crowd.specs.declared.crowd.Meeting.{Meeting}
use Rattle.agent_field.specs.History.{logged, listed_if, calls_from, calls, made, placed, placed_some, placed_logs}
use Rattle.agent_field.specs.Standing.{In}

abbrev pub nobody : Meeting
nobody = made 0 0 0 false

module _ (history : List Meeting) where
  -- each entry of the log is a meeting of the history
  abbrev pub IsTrueLog : ℕ → List Logged → Type 0
  IsTrueLog number log = (e : Logged) → In e log → (e.ticket < length history) × (get_or history e.ticket nobody ≡ made number e.a e.b e.changed)

  pub length-placed : (number : ℕ) (ms : List Meeting) (log : List Logged) → length (placed number ms log) ≡ length ms
  length-placed number ms [] = refl
  length-placed number ms (e ∷ es) = length-placed number (set ms e.ticket (made number e.a e.b e.changed)) es ∙ length-set ms e.ticket (made number e.a e.b e.changed)

  -- a correct place stays correct
  after_one : (number : ℕ) (ms : List Meeting) (e : Logged) (k : ℕ) → length ms ≡ length history → (e.ticket < length history) × (get_or history e.ticket nobody ≡ made number e.a e.b e.changed)
      → ((k ≡ e.ticket) ⊎ (get_or ms k nobody ≡ get_or history k nobody)) → get_or (set ms e.ticket (made number e.a e.b e.changed)) k nobody ≡ get_or history k nobody
  after_one number ms e k long is right =
      let here : k ≡ e.ticket → get_or (set ms e.ticket (made number e.a e.b e.changed)) k nobody ≡ get_or history k nobody = λ same.
      ap (λ (j : ℕ). get_or (set ms e.ticket (made number e.a e.b e.changed)) j nobody) same
      ∙ get_or-set_same ms e.ticket (made number e.a e.b e.changed) nobody (subst (λ (n : ℕ). e.ticket < n) (sym long) is.0)
      ∙ sym is.1 ∙ ap (λ (j : ℕ). get_or history j nobody) (sym same) in
      ⊎_elim
      here
      (λ (was : get_or ms k nobody ≡ get_or history k nobody). ⊎_elim here (λ (apart : k ≢ e.ticket). get_or-set_other ms e.ticket k (made number e.a e.b e.changed) nobody apart ∙ was) (cases_eq k e.ticket))
      right

  pub placed-keeps : (number : ℕ) (ms : List Meeting) (log : List Logged) (k : ℕ) → length ms ≡ length history → IsTrueLog number log → get_or ms k nobody ≡ get_or history k nobody → get_or (placed number ms log) k nobody ≡ get_or history k nobody
  placed-keeps number ms [] k long is right = right
  placed-keeps number ms (e ∷ es) k long is right =
      placed-keeps number (set ms e.ticket (made number e.a e.b e.changed)) es k (length-set ms e.ticket (made number e.a e.b e.changed) ∙ long) (λ d h. is d (inr h)) (after_one number ms e k long (is e (inl refl)) (inr right))

  pub placed-hits : (number : ℕ) (ms : List Meeting) (log : List Logged) (d : Logged) → length ms ≡ length history → IsTrueLog number log → In d log → get_or (placed number ms log) d.ticket nobody ≡ get_or history d.ticket nobody
  placed-hits number ms [] d long is h = absurd h
  placed-hits number ms (e ∷ es) d long is h =
      let ms' = set ms e.ticket (made number e.a e.b e.changed) in
      let long' = length-set ms e.ticket (made number e.a e.b e.changed) ∙ long in
      ⊎_elim
      (λ (same : d ≡ e). placed-keeps number ms' es d.ticket long' (λ c i. is c (inr i)) (after_one number ms e d.ticket long (is e (inl refl)) (inl (ap (λ (l : Logged). l.ticket) same))))
      (λ (i : In d es). placed-hits number ms' es d long' (λ c j. is c (inr j)) i)
      h

  abbrev pub IsTrueSome : ℕ → Option (List Logged) → Type 0
  IsTrueSome number o = (l : List Logged) → o ≡ Some l → IsTrueLog number l

  some_length : (number : ℕ) (ms : List Meeting) (o : Option (List Logged)) → length (placed_some number ms o) ≡ length ms
  some_length number ms None = refl
  some_length number ms (Some l) = length-placed number ms l

  some_keeps : (number : ℕ) (ms : List Meeting) (o : Option (List Logged)) (k : ℕ) → length ms ≡ length history → IsTrueSome number o → get_or ms k nobody ≡ get_or history k nobody → get_or (placed_some number ms o) k nobody ≡ get_or history k nobody
  some_keeps number ms None k long is right = right
  some_keeps number ms (Some l) k long is right = placed-keeps number ms l k long (is l refl) right

  pub length-placed_logs : (number : ℕ) (ms : List Meeting) (ls : List (Option (List Logged))) → length (placed_logs (number, ms) ls) ≡ length ms
  length-placed_logs number ms [] = refl
  length-placed_logs number ms (o ∷ os) = length-placed_logs (number + 1) (placed_some number ms o) os ∙ some_length number ms o

  abbrev pub AreTrueLogs : ℕ → List (Option (List Logged)) → Type 0
  AreTrueLogs number ls = (j : ℕ) (l : List Logged) → get_or ls j None ≡ Some l → IsTrueLog (number + j) l

  later_logs : (number : ℕ) (o : Option (List Logged)) (os : List (Option (List Logged))) → AreTrueLogs number (o ∷ os) → AreTrueLogs (number + 1) os
  later_logs number o os are j l e = subst (λ (n : ℕ). IsTrueLog n l) (omega arith) (are (suc j) l e)

  first_log : (number : ℕ) (o : Option (List Logged)) (os : List (Option (List Logged))) → AreTrueLogs number (o ∷ os) → IsTrueSome number o
  first_log number o os are l e = subst (λ (n : ℕ). IsTrueLog n l) (omega arith) (are 0 l e)

  pub logs_keep : (number : ℕ) (ms : List Meeting) (ls : List (Option (List Logged))) (k : ℕ) → length ms ≡ length history → AreTrueLogs number ls → get_or ms k nobody ≡ get_or history k nobody → get_or (placed_logs (number, ms) ls) k nobody ≡ get_or history k nobody
  logs_keep number ms [] k long are right = right
  logs_keep number ms (o ∷ os) k long are right =
      logs_keep (number + 1) (placed_some number ms o) os k (some_length number ms o ∙ long) (later_logs number o os are) (some_keeps number ms o k long (first_log number o os are) right)

  some_hits : (number : ℕ) (ms : List Meeting) (o : Option (List Logged)) (l : List Logged) (d : Logged) → o ≡ Some l → length ms ≡ length history → IsTrueSome number o → In d l → get_or (placed_some number ms o) d.ticket nobody ≡ get_or history d.ticket nobody
  some_hits number ms None l d e long is h = absurd (cc)
  some_hits number ms (Some l') l d e long is h = let same : l' ≡ l = cc in placed-hits number ms l' d long (is l' refl) (subst (In d) (sym same) h)

  pub logs_hit : (number : ℕ) (ms : List Meeting) (ls : List (Option (List Logged))) (j : ℕ) (l : List Logged) (d : Logged) → get_or ls j None ≡ Some l → length ms ≡ length history → AreTrueLogs number ls → In d l → get_or (placed_logs (number, ms) ls) d.ticket nobody ≡ get_or history d.ticket nobody
  logs_hit number ms [] j l d e long are h = absurd (cc)
  logs_hit number ms (o ∷ os) zero l d e long are h =
      logs_keep (number + 1) (placed_some number ms o) os d.ticket (some_length number ms o ∙ long) (later_logs number o os are) (some_hits number ms o l d e long (first_log number o os are) h)
  logs_hit number ms (o ∷ os) (suc j) l d e long are h =
      logs_hit (number + 1) (placed_some number ms o) os j l d e (some_length number ms o ∙ long) (later_logs number o os are) h

-- an entry of a number's log is a meeting of the history, at its ticket
found_if : (b : Bool) (number ticket : ℕ) (x : Meeting) (xs : List Meeting) (e : Logged) → eqb x.worker number ≡ b
    → (In e (calls_from number (ticket + 1) xs) → (i : ℕ) × (i < length xs) × (e.ticket ≡ ticket + 1 + i) × (get_or xs i nobody ≡ made number e.a e.b e.changed))
    → In e (listed_if b (logged ticket x.a x.b x.changed) (calls_from number (ticket + 1) xs)) → (i : ℕ) × (i < length (x ∷ xs)) × (e.ticket ≡ ticket + i) × (get_or (x ∷ xs) i nobody ≡ made number e.a e.b e.changed)
found_if true number ticket x xs e is later h =
    ⊎_elim
    (λ (same : e ≡ logged ticket x.a x.b x.changed).
    let who : x.worker ≡ number = eqb-true x.worker number is in
    (0, omega arith, ap (λ (l : Logged). l.ticket) same ∙ omega arith, (λ i. made (who i) (sym same i).a (sym same i).b (sym same i).changed)))
    (λ (i : In e (calls_from number (ticket + 1) xs)). let t = later i in (suc t.0, (let s = t.1 in omega arith), (let s = t.2 in omega arith), t.3))
    h
found_if false number ticket x xs e is later h = let t = later h in (suc t.0, (let s = t.1 in omega arith), (let s = t.2 in omega arith), t.3)

pub calls_from-found : (number ticket : ℕ) (xs : List Meeting) (e : Logged) → In e (calls_from number ticket xs) → (i : ℕ) × (i < length xs) × (e.ticket ≡ ticket + i) × (get_or xs i nobody ≡ made number e.a e.b e.changed)
calls_from-found number ticket [] e h = absurd h
calls_from-found number ticket (x ∷ xs) e h = found_if (eqb x.worker number) number ticket x xs e refl (calls_from-found number (ticket + 1) xs e) h

pub calls-are_true : (history : List Meeting) (number : ℕ) → IsTrueLog history number (calls number history)
calls-are_true history number e h =
    let t = calls_from-found number 0 history e h in
    let at : e.ticket ≡ t.0 = t.2 ∙ omega arith in
    (subst (λ (n : ℕ). n < length history) (sym at) t.1, ap (λ (n : ℕ). get_or history n nobody) at ∙ t.3)

listed_later : (b : Bool) (d e : Logged) (es : List Logged) → In e es → In e (listed_if b d es)
listed_later true d e es h = inr h
listed_later false d e es h = h

-- a meeting of the history is in its number's log
pub calls_from-has : (number ticket : ℕ) (xs : List Meeting) (i : ℕ) → i < length xs → (get_or xs i nobody).worker ≡ number
    → In (logged (ticket + i) (get_or xs i nobody).a (get_or xs i nobody).b (get_or xs i nobody).changed) (calls_from number ticket xs)
calls_from-has number ticket [] i h who = absurd (omega arith)
calls_from-has number ticket (x ∷ xs) zero h who =
    subst (λ (b : Bool). In (logged (ticket + 0) x.a x.b x.changed) (listed_if b (logged ticket x.a x.b x.changed) (calls_from number (ticket + 1) xs))) (sym (eq-eqb x.worker number who))
    (inl (ap (λ (t : ℕ). logged t x.a x.b x.changed) (omega arith)))
calls_from-has number ticket (x ∷ xs) (suc i) h who =
    let m = get_or xs i nobody in
    listed_later (eqb x.worker number) (logged ticket x.a x.b x.changed) (logged (ticket + suc i) m.a m.b m.changed) (calls_from number (ticket + 1) xs)
    (subst (λ (t : ℕ). In (logged t m.a m.b m.changed) (calls_from number (ticket + 1) xs)) (omega arith) (calls_from-has number (ticket + 1) xs i (omega arith) who))

-- the logs of number 0 and of all that it took in
pub record AreLogsOf (history : List Meeting) (own : List Logged) (taken : List (Option (List Logged))) : Type 0 where
  pub own_log : own ≡ calls 0 history
  pub taken_logs : (w : ℕ) (l : List Logged) → get_or taken w None ≡ Some l → l ≡ calls w history
  pub all : (i : ℕ) → i < length history → ((get_or history i nobody).worker ≡ 0) ⊎ ((l : List Logged) × (get_or taken (get_or history i nobody).worker None ≡ Some l))

pub arranged : (history ms : List Meeting) (own : List Logged) (taken : List (Option (List Logged))) → length ms ≡ length history → AreLogsOf history own taken → placed_logs (0, placed 0 ms own) taken ≡ history
arranged history ms own taken long are =
    let true_own : IsTrueLog history 0 own = subst (IsTrueLog history 0) (sym are.own_log) (calls-are_true history 0) in
    let true_logs : AreTrueLogs history 0 taken = λ j l e. subst (IsTrueLog history (0 + j)) (sym (are.taken_logs j l e)) (subst (λ (n : ℕ). IsTrueLog history n (calls j history)) (omega arith) (calls-are_true history j)) in
    let long' = length-placed history 0 ms own ∙ long in
    ext_get_or nobody (placed_logs (0, placed 0 ms own) taken) history (length-placed_logs history 0 (placed 0 ms own) taken ∙ long')
    (λ i h.
    let inside : i < length history = subst (λ (n : ℕ). i < n) (length-placed_logs history 0 (placed 0 ms own) taken ∙ long') h in
    let m = get_or history i nobody in
    let e = logged (0 + i) m.a m.b m.changed in
    let at : 0 + i ≡ i = omega arith in
    subst (λ (n : ℕ). get_or (placed_logs (0, placed 0 ms own) taken) n nobody ≡ get_or history n nobody) at
    (⊎_elim
    (λ (who : m.worker ≡ 0). logs_keep history 0 (placed 0 ms own) taken (0 + i) long' true_logs (placed-hits history 0 ms own e long true_own (subst (In e) (sym are.own_log) (calls_from-has 0 0 history i inside who))))
    (λ (t : (l : List Logged) × (get_or taken m.worker None ≡ Some l)). logs_hit history 0 (placed 0 ms own) taken m.worker t.0 e t.1 long' true_logs (subst (In e) (sym (are.taken_logs m.worker t.0 t.1)) (calls_from-has m.worker 0 history i inside refl)))
    (are.all i inside)))
