-- A fair execution of any process in which a configuration has finitely many next ones: each time that it comes up, it is
-- the next one's turn.
use Rattle.std.proofs.Common.{◌≡◌, ℕ, zero, suc, ◌+◌, ◌-◌, ◌*◌, ◌%◌, ◌<◌, ◌≤◌, Bool, true, false, cond, List, [], ◌∷◌, length, get_or, refl, ap, sym, subst, ◌∙◌, arith}
use Rattle.std.specs.Prelude.{Decides, Some, slice_get, Contains}
use Rattle.std.proofs.Math.Nat as nat
use Rattle.std.proofs.lemmas.Nat.{mod-mul-add}
use Rattle.std.proofs.lemmas.List.{get_or_default}
use Rattle.pop_leaf.specs.Reachable.{Leads}
use Rattle.theory_fair.specs.Executions.{OccursInfinitelyOften, IsFair}

module _ {A : Type 0} (same : A → A → Bool) (tells : (c d : A) → Decides (same c d) (c ≡ d)) (next : A → List A) where
  -- how often c came up
  seen : A → List A → ℕ
  seen c [] = 0
  seen c (d ∷ before) = cond (same c d) (suc (seen c before)) (seen c before)

  -- a configuration, and those before it
  record Moment : Type 0 where
    here : A
    before : List A

  chosen : Moment → A
  chosen m = get_or (next m.here) (seen m.here m.before % length (next m.here)) m.here

  moment : A → ℕ → Moment
  moment first zero = record { here = first; before = [] }
  moment first (suc i) = record { here = chosen (moment first i); before = (moment first i).here ∷ (moment first i).before }

  module _ (first : A) where
    pub turns : ℕ → A
    turns i = (moment first i).here

    visits : A → ℕ → ℕ
    visits c i = seen c (moment first i).before

    pub turns_first : turns 0 ≡ first
    unfolding turns moment
    turns_first = refl

    turns_next : (i : ℕ) → turns (suc i) ≡ get_or (next (turns i)) (visits (turns i) i % length (next (turns i))) (turns i)
    unfolding turns visits moment chosen
    turns_next i = refl

    -- what comes next is one of the list
    pub turns_one : (i : ℕ) → 0 < length (next (turns i)) → Contains (next (turns i)) (turns (suc i))
    turns_one i some =
        let k = visits (turns i) i % length (next (turns i)) in
        let low = nat.mod-lt (visits (turns i) i) some in
        (k, low, get_or_default (next (turns i)) k (turns (suc i)) (turns i) low ∙ sym (turns_next i))

    visits_next : (c : A) (i : ℕ) → visits c (suc i) ≡ cond (same c (turns i)) (suc (visits c i)) (visits c i)
    unfolding turns visits moment seen
    visits_next c i = refl

    visits_more : (c : A) (i : ℕ) → turns i ≡ c → visits c (suc i) ≡ suc (visits c i)
    visits_more c i e = visits_next c i ∙ ap (λ b. cond b (suc (visits c i)) (visits c i)) ((tells c (turns i)).1 (sym e))

    -- c comes up at time j, as often seen as at time i
    abbrev ComesAfter : A → ℕ → ℕ → Type 0
    ComesAfter c i k = (j : ℕ) × (i ≤ j) × (turns j ≡ c) × (visits c j ≡ k + visits c i)

    -- the first time from i on
    first_time : (c : A) (n i : ℕ) → turns (i + n) ≡ c → ComesAfter c i 0
    first_time c zero i e = (i, omega arith, ap turns (let k : i ≡ i + 0 = omega arith in k) ∙ e, omega arith)
    first_time c (suc n) i e =
        go (same c (turns i)) refl (first_time c n (suc i) (ap turns (let k : suc i + n ≡ i + suc n = omega arith in k) ∙ e))
      where
        go : (b : Bool) → same c (turns i) ≡ b → ComesAfter c (suc i) 0 → ComesAfter c i 0
        go true h later = (i, omega arith, sym ((tells c (turns i)).0 h), omega arith)
        go false h later =
            let none : visits c (suc i) ≡ visits c i = visits_next c i ∙ ap (λ b. cond b (suc (visits c i)) (visits c i)) h in
            let l = later.1 in
            let v = later.3 in
            (later.0, omega (arith, l), later.2, omega (arith, v, none))

    module _ (c : A) (often : OccursInfinitelyOften (λ x y. x ≡ y) turns c) where
      once : (i : ℕ) → ¬ ¬ ComesAfter c i 0
      once i none =
          often i (λ (j, l, h). none (first_time c (j - i) i (ap turns (let k : i + (j - i) ≡ j = omega (arith, l) in k) ∙ h)))

      again : (k i : ℕ) → ¬ ¬ ComesAfter c i k
      again zero i none = once i none
      again (suc k) i none =
          again k i
          (λ at. once (suc at.0)
          (λ later.
          let l = at.1 in
          let m = later.1 in
          let v = at.3 in
          let w = later.3 in
          let more = visits_more c at.0 at.2 in
          none (later.0, omega (arith, l, m), later.2, omega (arith, v, w, more))))

      -- so each of the list has its turn again
      pub comes : (d : A) → Contains (next c) d → OccursInfinitelyOften (λ x y. x ≡ y) turns d
      comes d (r, low, is) i none =
          again (visits c i * (length (next c) - 1) + r) i
          (λ at.
          let v = at.3 in
          let all : visits c at.0 ≡ visits c i * length (next c) + r = v ∙ whole (length (next c)) (visits c i) r low in
          let turn : visits c at.0 % length (next c) ≡ r = ap (λ n. n % length (next c)) all ∙ mod-mul-add (visits c i) (length (next c)) r low in
          let here : turns (suc at.0) ≡ get_or (next c) (visits c at.0 % length (next c)) c = turns_next at.0 ∙ ap (λ x. get_or (next x) (visits x at.0 % length (next x)) x) at.2 in
          let l = at.1 in
          none (suc at.0, omega (arith, l), here ∙ ap (λ n. get_or (next c) n c) turn ∙ get_or_default (next c) r c d low ∙ is))
        where
          whole : (n v r : ℕ) → r < n → v * (n - 1) + r + v ≡ v * n + r
          whole zero v r l = absurd (omega (arith, l))
          whole (suc n) v r l =
              let same : suc n - 1 ≡ n = omega arith in
              let product : v * suc n ≡ v * n + v = nat.mul-suc v n in
              ap (λ m. v * m + r + v) same ∙ (let e : v * n + r + v ≡ v * suc n + r = omega (arith, product) in e)

-- ---- a path, and then an execution from its end

pub joined : {A : Type 0} → A → List A → (ℕ → A) → ℕ → A
joined c [] later i = later i
joined c (d ∷ path) later zero = c
joined c (d ∷ path) later (suc i) = joined d path later i

module _ {A : Type 0} (later : ℕ → A) where
  pub joined_first : (R : A → A → Type 0) (c : A) (path : List A) (last : A) → Leads R c path last → later 0 ≡ last → joined c path later 0 ≡ c
  unfolding joined
  joined_first R c [] last way e = e ∙ way
  joined_first R c (d ∷ path) last way e = refl

  pub joined_runs : (R : A → A → Type 0) (c : A) (path : List A) (last : A) → Leads R c path last → later 0 ≡ last → ((i : ℕ) → R (later i) (later (suc i))) → (i : ℕ) → R (joined c path later i) (joined c path later (suc i))
  unfolding joined
  joined_runs R c [] last way e run i = run i
  joined_runs R c (d ∷ path) last way e run zero =
      subst (λ x. R c x) (sym (joined_first R d path last way.1 e)) way.0
  joined_runs R c (d ∷ path) last way e run (suc i) = joined_runs R d path last way.1 e run i

  pub joined_begins : (R : A → A → Type 0) (c : A) (path : List A) (last : A) → Leads R c path last → later 0 ≡ last → (i : ℕ) (x : A) → slice_get (c ∷ path) i ≡ Some x → joined c path later i ≡ x
  unfolding joined
  joined_begins R c path last way e zero x h = joined_first R c path last way e ∙ (let s : c ≡ x = cc in s)
  joined_begins R c [] last way e (suc i) x h = cc
  joined_begins R c (d ∷ path) last way e (suc i) x h = joined_begins R d path last way.1 e i x h

  pub joined_later : (c : A) (path : List A) (i : ℕ) → joined c path later (length path + i) ≡ later i
  unfolding joined
  joined_later c [] i = ap later (omega arith)
  joined_later c (d ∷ path) i =
      ap (joined c (d ∷ path) later) (let e : length (d ∷ path) + i ≡ suc (length path + i) = omega arith in e) ∙ joined_later d path i

  -- what comes up infinitely often does so after the path, and the other way round
  pub joined_fair : (S : A → A → Type 0) (c : A) (path : List A) → ((x y : A) → S x y → OccursInfinitelyOften (λ p q. p ≡ q) later x → OccursInfinitelyOften (λ p q. p ≡ q) later y) → IsFair (λ p q. p ≡ q) S (joined c path later)
  joined_fair S c path fair x y s often i none =
      fair x y s
      (λ k never. often (length path + k)
      (λ (j, l, h). never (j - length path, omega (arith, l), sym (joined_later c path (j - length path)) ∙ ap (joined c path later) (let e : length path + (j - length path) ≡ j = omega (arith, l) in e) ∙ h)))
      i
      (λ (j, l, h). none (length path + j, omega (arith, l), joined_later c path j ∙ h))
