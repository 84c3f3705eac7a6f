-- What occurs infinitely often: of finitely many configurations one does, and with it all that steps lead to from it.
use Rattle.std.proofs.Common.{◌≡◌, ◌⊎◌, inl, inr, ℕ, zero, suc, pred, ◌+◌, ◌<◌, ◌≤◌, List, [], ◌∷◌, length, ap, sym, subst, ◌∙◌, arith}
use Rattle.std.specs.Prelude.{All}
use Rattle.std.proofs.lemmas.Bool.{cases_lt}
use Rattle.std.proofs.lemmas.List.Elements.{All-head, All-tail}
use Rattle.std.proofs.lemmas.List.{nil_from_length}
use Rattle.pop_leaf.specs.Reachable.{Leads, Reachable}
use Rattle.theory_fair.specs.Executions.{OccursInfinitelyOften, IsFair}

-- N holds at infinitely many times
abbrev pub Often : (ℕ → Type 0) → Type 0
Often N = (i : ℕ) → ¬ ¬ ((j : ℕ) × (i ≤ j) × N j)

pub often_weaker : (N M : ℕ → Type 0) → ((j : ℕ) → N j → M j) → Often N → Often M
often_weaker N M f often i none = often i (λ (j, l, n). none (j, l, f j n))

-- in each sequence that has P at infinitely many times, some value occurs at infinitely many of them
abbrev pub IsFinite : {A : Type 0} → (A → Type 0) → Type 1
IsFinite {A} P =
    (N : ℕ → Type 0) (e : ℕ → A) → Often N → ((j : ℕ) → N j → P (e j)) → ¬ ((c : A) → ¬ Often (λ j. N j × (e j ≡ c)))

-- the numbers below n
pub finite_below : (n : ℕ) → IsFinite (λ (q : ℕ). q < n)
finite_below zero N e often all none =
    often 0 (λ (j, l, h). let low : e j < 0 = all j h in absurd (omega (arith, low)))
finite_below (suc n) N e often all none =
    finite_below n (λ j. N j × (e j < n)) e lower (λ j h. h.1)
    (λ c more. none c (often_weaker (λ j. (N j × (e j < n)) × (e j ≡ c)) (λ j. N j × (e j ≡ c)) (λ j h. (h.0.0, h.1)) more))
  where
    lower : Often (λ j. N j × (e j < n))
    lower i never = none n (λ k never'. often (i + k) (λ (j, l, h). go never' j l h (cases_lt (e j) n)))
      where
        go : {k : ℕ} → ¬ ((j : ℕ) × (k ≤ j) × (N j × (e j ≡ n))) → (j : ℕ) → i + k ≤ j → N j → (e j < n) ⊎ (n ≤ e j) → ⊥
        go never' j l h (inl low) = never (j, (let m : i ≤ j = omega (arith, l) in m), (h, low))
        go {k} never' j l h (inr high) =
            let low : e j < suc n = all j h in
            never' (j, (let m : k ≤ j = omega (arith, l) in m), (h, (let is : e j ≡ n = omega (arith, low, high) in is)))

abbrev head_or : {A : Type 0} → A → List A → A
head_or d [] = d
head_or d (x ∷ xs) = x

abbrev tail_of : {A : Type 0} → List A → List A
tail_of [] = []
tail_of (x ∷ xs) = xs

-- the lists of n elements that all have P
abbrev pub ListOf : {A : Type 0} → (A → Type 0) → ℕ → List A → Type 0
ListOf P n xs = (length xs ≡ n) × All P xs

head_has : {A : Type 0} (P : A → Type 0) (d : A) (n : ℕ) (xs : List A) → ListOf P (suc n) xs → P (head_or d xs)
head_has P d n [] h = let e : 0 ≡ suc n = h.0 in absurd (omega (arith, e))
head_has P d n (x ∷ xs) h = All-head P x xs h.1

tail_has : {A : Type 0} (P : A → Type 0) (n : ℕ) (xs : List A) → ListOf P (suc n) xs → ListOf P n (tail_of xs)
tail_has P n [] h = let e : 0 ≡ suc n = h.0 in absurd (omega (arith, e))
tail_has P n (x ∷ xs) h = (ap pred h.0, All-tail P x xs h.1)

joined : {A : Type 0} (d : A) (n : ℕ) (xs : List A) (x : A) (rest : List A) → length xs ≡ suc n → head_or d xs ≡ x → tail_of xs ≡ rest → xs ≡ x ∷ rest
joined d n [] x rest e h t = absurd (omega (arith, e))
joined d n (y ∷ ys) x rest e h t = ap (λ z. z ∷ ys) h ∙ ap (λ zs. x ∷ zs) t

pub finite_lists : {A : Type 0} (P : A → Type 0) (d : A) → IsFinite P → (n : ℕ) → IsFinite (ListOf P n)
finite_lists P d finite zero N e often all none =
    none [] (often_weaker N (λ j. N j × (e j ≡ [])) (λ j h. (h, nil_from_length (e j) (all j h).0)) often)
finite_lists {A} P d finite (suc n) N e often all none =
    finite N (λ j. head_or d (e j)) often (λ j h. head_has P d n (e j) (all j h))
    (λ x heads. finite_lists P d finite n (λ j. N j × (head_or d (e j) ≡ x)) (λ j. tail_of (e j)) heads (λ j h. tail_has P n (e j) (all j h.0))
    (λ rest tails. none (x ∷ rest) (often_weaker (λ j. (N j × (head_or d (e j) ≡ x)) × (tail_of (e j) ≡ rest)) (λ j. N j × (e j ≡ x ∷ rest))
    (λ j h. (h.0.0, joined d n (e j) x rest (all j h.0.0).0 h.0.1 h.1)) tails)))

module _ {A : Type 0} (Same S : A → A → Type 0) (e : ℕ → A) (fair : IsFair Same S e) where
  -- what steps lead to from a configuration that occurs infinitely often does so too
  often_led : (c : A) (path : List A) (d : A) → Leads S c path d → OccursInfinitelyOften Same e c → OccursInfinitelyOften Same e d
  often_led c [] d way often = subst (λ x. OccursInfinitelyOften Same e x) (sym way) often
  often_led c (next ∷ path) d way often = often_led next path d way.1 (fair c next way.0 often)

  -- if each configuration can be led to an end, an end occurs
  pub end_occurs : (P : A → Type 0) → IsFinite P → ((j : ℕ) → P (e j)) → (IsEnd : A → Type 0) → ((j : ℕ) → (c : A) × Same (e j) c × ((end : A) × Reachable S c end × IsEnd end)) → ¬ ((j : ℕ) (end : A) → IsEnd end → ¬ Same (e j) end)
  end_occurs P finite all IsEnd ends never =
      finite (λ j. Unit {0}) e (λ i none. none (i, omega arith, tt)) (λ j h. all j) recurs
    where
      recurs : (c : A) → ¬ Often (λ j. Unit {0} × (e j ≡ c))
      recurs c often = often 0 (λ (j, l, h). at j h.1)
        where
          at : (j : ℕ) → e j ≡ c → ⊥
          at j is =
              let to = ends j in
              let same : Same c to.0 = subst (λ x. Same x to.0) is to.1 in
              let here : OccursInfinitelyOften Same e to.0 = λ i none. often i (λ (k, l, h). none (k, l, subst (λ x. Same x to.0) (sym h.1) same)) in
              often_led to.0 to.2.1.0 to.2.0 to.2.1.1 here 0 (λ (k, l, h). never k to.2.0 to.2.2 h)
