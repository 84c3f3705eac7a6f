-- What a list of lists that are joined contains, and when each of its elements is there once.
use Rattle.std.proofs.Common.{◌≡◌, ◌≢◌, ℕ, zero, suc, pred, ◌+◌, ◌<◌, Bool, true, false, cond, List, [], ◌∷◌, ◌++◌, length, get_or, map, refl, ap, sym, subst, ◌∙◌, arith}
use Rattle.std.specs.Prelude.{All, AllPairs, Contains, filter, flat_map, sum_by}
use Rattle.std.proofs.lemmas.List.Sums.{sum_by-cons, sum_by-append}
use Rattle.std.proofs.lemmas.List.Elements.{All-nil, All-cons, All-append, All-head, All-tail, All-map, Contains-append_left, Contains-append_right}
use Rattle.std.proofs.lemmas.List.Kept.{AllPairs-cons}
use Rattle.base_laws.proofs.Lists.{heads, tails, has_first, has_later, has_map}
use Rattle.theory_random.specs.UniformRuns.{lists_of}

pub all_flat : {A B : Type 0} (P : B → Type 0) (f : A → List B) (xs : List A) → All (λ x. All P (f x)) xs → All P (flat_map f xs)
all_flat P f [] all = All-nil P
all_flat P f (x ∷ xs) all =
    All-append P (f x) (flat_map f xs) (All-head (λ y. All P (f y)) x xs all) (all_flat P f xs (All-tail (λ y. All P (f y)) x xs all))

pub has_flat : {A B : Type 0} (f : A → List B) (xs : List A) (x : A) (y : B) → Contains xs x → Contains (f x) y → Contains (flat_map f xs) y
has_flat f [] x y c d = absurd (omega (arith, c.1))
has_flat f (z ∷ xs) x y (zero, l, e) d = Contains-append_left (f z) (flat_map f xs) y (subst (λ w. Contains (f w) y) (sym e) d)
has_flat f (z ∷ xs) x y (suc k, l, e) d =
    Contains-append_right (f z) (flat_map f xs) y (has_flat f xs x y (k, (omega (arith, l)), e) d)

pub has_filter : {A : Type 0} (test : A → Bool) (xs : List A) (x : A) → Contains xs x → test x ≡ true → Contains (filter test xs) x
has_filter test [] x c h = absurd (omega (arith, c.1))
has_filter {A} test (y ∷ xs) x (zero, l, e) h = subst (λ b. Contains (filter test (y ∷ xs)) b) e (let passes : test y ≡ true = ap test e ∙ h in rw passes (has_first y (filter test xs)))
has_filter {A} test (y ∷ xs) x (suc k, l, e) h = go (test y) (has_filter test xs x (k, (omega (arith, l)), e) h)
  where
    go : (b : Bool) → Contains (filter test xs) x → Contains (cond b (y ∷ filter test xs) (filter test xs)) x
    go true c = has_later x y (filter test xs) c
    go false c = c

-- P holds of what is in the list
pub at_contained : {A : Type 0} (P : A → Type 0) (xs : List A) (x : A) → All P xs → Contains xs x → P x
at_contained P xs x all (k, l, e) = subst P e (all k x l)

pub sum_flat : {A B : Type 0} (f : B → ℕ) (g : A → List B) (xs : List A) → sum_by f (flat_map g xs) ≡ sum_by (λ x. sum_by f (g x)) xs
sum_flat f g [] = refl
sum_flat f g (x ∷ xs) =
    sum_by-append f (g x) (flat_map g xs) ∙ ap (λ n. sum_by f (g x) + n) (sum_flat f g xs) ∙ sym (sum_by-cons (λ y. sum_by f (g y)) x xs)

-- ---- each element once

once_head : {A : Type 0} (x : A) (xs : List A) → AllPairs ◌≢◌ (x ∷ xs) → All (λ y. x ≢ y) xs
once_head x xs h k d l = h 0 (suc k) d (omega arith) (omega (arith, l))

once_tail : {A : Type 0} (x : A) (xs : List A) → AllPairs ◌≢◌ (x ∷ xs) → AllPairs ◌≢◌ xs
once_tail x xs h i j d l m = h (suc i) (suc j) d (omega (arith, l)) (omega (arith, m))

once_append : {A : Type 0} (xs ys : List A) → AllPairs ◌≢◌ xs → AllPairs ◌≢◌ ys → All (λ x. All (λ y. x ≢ y) ys) xs → AllPairs ◌≢◌ (xs ++ ys)
once_append [] ys h k apart = k
once_append (x ∷ xs) ys h k apart =
    AllPairs-cons ◌≢◌ x (xs ++ ys) (All-append (λ y. x ≢ y) xs ys (once_head x xs h) (All-head (λ z. All (λ y. z ≢ y) ys) x xs apart))
    (once_append xs ys (once_tail x xs h) k (All-tail (λ z. All (λ y. z ≢ y) ys) x xs apart))

module _ {A B D : Type 0} (f : A → B → D) (firsts : (a c : A) (b d : B) → f a b ≡ f c d → a ≡ c) (seconds : (a c : A) (b d : B) → f a b ≡ f c d → b ≡ d) where
  once_map : (a : A) (rests : List B) → AllPairs ◌≢◌ rests → AllPairs ◌≢◌ (map (λ b. f a b) rests)
  once_map a [] h = λ i j d l m. absurd (omega (arith, m))
  once_map a (b ∷ rests) h =
      AllPairs-cons ◌≢◌ (f a b) (map (λ c. f a c) rests)
      (All-map (λ z. f a b ≢ z) (λ c. f a c) rests (λ k d l e. once_head b rests h k d l (seconds a a b (get_or rests k d) e)))
      (once_map a rests (once_tail b rests h))

  -- f of each of these and each of those
  pub once_flat : (xs : List A) (rests : List B) → AllPairs ◌≢◌ xs → AllPairs ◌≢◌ rests → AllPairs ◌≢◌ (flat_map (λ a. map (λ b. f a b) rests) xs)
  once_flat [] rests h k = λ i j d l m. absurd (omega (arith, m))
  once_flat (x ∷ xs) rests h k =
      once_append (map (λ b. f x b) rests) (flat_map (λ a. map (λ b. f a b) rests) xs) (once_map x rests k) (once_flat xs rests (once_tail x xs h) k)
      (All-map (λ z. All (λ y. z ≢ y) (flat_map (λ a. map (λ b. f a b) rests) xs)) (λ b. f x b) rests
      (λ i b l. all_flat (λ y. f x (get_or rests i b) ≢ y) (λ a. map (λ c. f a c) rests) xs
      (λ j a m. All-map (λ y. f x (get_or rests i b) ≢ y) (λ c. f (get_or xs j a) c) rests
      (λ n c o e. once_head x xs h j a m (firsts x (get_or xs j a) (get_or rests i b) (get_or rests n c) e)))))

module _ {A : Type 0} (xs : List A) where
  pub once_lists : AllPairs ◌≢◌ xs → (l : ℕ) → AllPairs ◌≢◌ (lists_of xs l)
  once_lists h zero = λ i j d l m. absurd (omega (arith, l, m))
  once_lists h (suc l) =
      once_flat (λ x rest. x ∷ rest) (λ a c b d e. heads a c b d e) (λ a c b d e. tails a c b d e) xs (lists_of xs l) h (once_lists h l)

  -- the lists of l elements of xs
  abbrev pub IsOf : ℕ → List A → Type 0
  IsOf l run = (length run ≡ l) × All (Contains xs) run

  pub all_of : (l : ℕ) → All (IsOf l) (lists_of xs l)
  all_of zero = All-cons (IsOf 0) [] [] (refl, All-nil (Contains xs)) (All-nil (IsOf 0))
  all_of (suc l) =
      all_flat (IsOf (suc l)) (λ x. map (λ rest. x ∷ rest) (lists_of xs l)) xs
      (λ k d m. All-map (IsOf (suc l)) (λ rest. get_or xs k d ∷ rest) (lists_of xs l)
      (λ i e n. let h = all_of l i e n in (ap suc h.0, All-cons (Contains xs) (get_or xs k d) (get_or (lists_of xs l) i e) (contained k d m) h.1)))
    where
      contained : (k : ℕ) (d : A) → k < length xs → Contains xs (get_or xs k d)
      contained k d m = (k, m, inside xs k d m)
        where
          inside : (ys : List A) (k : ℕ) (d : A) → k < length ys → get_or ys k (get_or ys k d) ≡ get_or ys k d
          inside [] k d l = absurd (omega (arith, l))
          inside (y ∷ ys) zero d l = refl
          inside (y ∷ ys) (suc k) d l = inside ys k d (omega (arith, l))

  pub has_of : (l : ℕ) (run : List A) → IsOf l run → Contains (lists_of xs l) run
  has_of zero [] h = has_first [] []
  has_of zero (x ∷ run) h = let e = h.0 in absurd (omega (arith, e))
  has_of (suc l) [] h = let e = h.0 in absurd (omega (arith, e))
  has_of (suc l) (x ∷ run) h =
      has_flat (λ y. map (λ rest. y ∷ rest) (lists_of xs l)) xs x (x ∷ run) (All-head (Contains xs) x run h.1)
      (has_map (λ rest. x ∷ rest) (lists_of xs l) run (has_of l run (ap pred h.0, All-tail (Contains xs) x run h.1)))
