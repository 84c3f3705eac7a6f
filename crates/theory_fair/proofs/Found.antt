-- Whether a crowd is terminal is decidable, so by Markov's principle a time is found at which it is.
use Rattle.std.proofs.Common.{◌≡◌, ◌⊎◌, inl, inr, ℕ, zero, suc, ◌<◌, ◌≤◌, Bool, true, false, length, refl, subst, arith}
use Rattle.std.specs.Prelude.{All}
use Rattle.std.proofs.lemmas.Bool.{cases_lt}
use Rattle.pop_leaf.specs.NetModel.{NetModel, CrowdModel, IsTuple}
use Rattle.pop_leaf.specs.Step.{TupleChange, Step}
use Rattle.pop_leaf.specs.Terminal.{IsTerminal}
use Rattle.pop_crowd.specs.Replay.{changes}
use Rattle.terminal_test.proofs.Ends.{terminal_without, not_terminal}
use Rattle.theory_fair.proofs.Reached.{agents_tuples, multisets_tuples}
use Rattle.theory_fair.proofs.Stable.{steps_compute, terminal_stable}
use Rattle.theory_fair.specs.Times.{MarkovsPrinciple, MiddleGivesMarkov, TimesAreFound}

-- one of the numbers below n has Q, or all of them have P
search_below : (P Q : ℕ → Type 0) → ((k : ℕ) → P k ⊎ Q k) → (n : ℕ) → ((k : ℕ) → k < n → P k) ⊎ ((k : ℕ) × (k < n) × Q k)
search_below P Q either zero = inl (λ k l. absurd (omega (arith, l)))
search_below P Q either (suc n) = go (search_below P Q either n) (either n)
  where
    more : ((k : ℕ) → k < n → P k) → P n → (k : ℕ) → k < suc n → P k
    more all p k l = at (cases_lt k n)
      where
        at : (k < n) ⊎ (n ≤ k) → P k
        at (inl low) = all k low
        at (inr high) = subst P (let e : n ≡ k = omega (arith, high, l) in e) p

    go : ((k : ℕ) → k < n → P k) ⊎ ((k : ℕ) × (k < n) × Q k) → P n ⊎ Q n → ((k : ℕ) → k < suc n → P k) ⊎ ((k : ℕ) × (k < suc n) × Q k)
    go (inl all) (inl p) = inl (more all p)
    go (inl all) (inr q) = inr (n, omega arith, q)
    go (inr (k, l, q)) either = inr (k, omega (arith, l), q)

bool_cases : (b : Bool) → (b ≡ false) ⊎ (b ≡ true)
bool_cases true = inr refl
bool_cases false = inl refl

module _ (net : NetModel) (crowd : CrowdModel) where
  -- the agents below b don't change when they meet it
  abbrev Calm : ℕ → Type 0
  Calm b = (a : ℕ) → a < b → changes net a b crowd ≡ false

  abbrev Loud : ℕ → Type 0
  Loud b = (a : ℕ) × (a < b) × (changes net a b crowd ≡ true)

  calm_or_loud : (b : ℕ) → Calm b ⊎ Loud b
  calm_or_loud b = search_below (λ a. changes net a b crowd ≡ false) (λ a. changes net a b crowd ≡ true) (λ a. bool_cases (changes net a b crowd)) b

  -- no two agents change, or two do
  terminal_or_not : All (IsTuple net) crowd → IsTerminal (Step net) crowd ⊎ ¬ IsTerminal (Step net) crowd
  terminal_or_not tuples = go (search_below Calm Loud calm_or_loud (length crowd))
    where
      go : ((b : ℕ) → b < length crowd → Calm b) ⊎ ((b : ℕ) × (b < length crowd) × Loud b) → IsTerminal (Step net) crowd ⊎ ¬ IsTerminal (Step net) crowd
      go (inl calm) = inl (terminal_without net crowd tuples (λ a b l m. calm b m a l))
      go (inr (b, m, (a, l, e))) = inr (not_terminal net crowd tuples a b (record { lower = l; within = m; changed = e }))

is_left : {A B : Type 0} → A ⊎ B → Bool
is_left (inl a) = true
is_left (inr b) = false

left_of : {A B : Type 0} (c : A ⊎ B) → is_left c ≡ true → A
unfolding is_left
left_of (inl a) e = a
left_of (inr b) e = cc

right_of : {A B : Type 0} (c : A ⊎ B) → is_left c ≡ false → B
unfolding is_left
right_of (inl a) e = cc
right_of (inr b) e = b

pub middle_gives : MiddleGivesMarkov
middle_gives middle test not_never = go (middle test)
  where
    go : ((i : ℕ) × (test i ≡ true)) ⊎ ((i : ℕ) → test i ≡ false) → (i : ℕ) × (test i ≡ true)
    go (inl some) = some
    go (inr never) = absurd (not_never never)

-- by Markov's principle, what is decidable at each time holds at some time, unless it never does
found : MarkovsPrinciple → (P : ℕ → Type 0) → ((i : ℕ) → P i ⊎ ¬ P i) → ¬ ((i : ℕ) → ¬ P i) → (i : ℕ) × P i
found markov P decide not_never =
    let at = markov (λ i. is_left (decide i)) (λ fails. not_never (λ i. right_of (decide i) (fails i))) in
    (at.0, left_of (decide at.0) at.1)

pub times_found : TimesAreFound
times_found markov net tree ends = (
  λ counts e input run fair.
      let stable = (steps_compute net tree ends).of_maps counts e input run fair in
      let at = found markov (λ i. IsTerminal (Step net) (e i)) (λ i. terminal_or_not net (e i) (agents_tuples net (TupleChange net) (λ x y x' y' hx hy c. c) counts e run.0 run.1 i)) (λ never. stable (λ i s. never i (s.terminal i (omega arith)))) in
      (at.0, (terminal_stable net tree ends).0 counts e input run at.0 at.1),
  λ counts e input run fair.
      let stable = (steps_compute net tree ends).of_multisets counts e input run fair in
      let at = found markov (λ i. IsTerminal (Step net) (e i)) (λ i. terminal_or_not net (e i) (multisets_tuples net (TupleChange net) (λ x y x' y' hx hy c. c) counts e run.0 run.1 i)) (λ never. stable (λ i s. never i (s.terminal i (omega arith)))) in
      (at.0, (terminal_stable net tree ends).1 counts e input run at.0 at.1),
)
