-- Laws of lists: their ends, one more item, one item replaced.
use Rattle.std.proofs.Common.{◌≡◌, ◌≢◌, ℕ, zero, suc, pred, ◌+◌, ◌<◌, Bool, true, false, cond, replicate, filter, List, [], ◌∷◌, ◌++◌, length, map, take, subst, refl, ap, ◌∙◌, arith}
use Rattle.std.specs.Prelude.{Some, slice_get, slice_set, All, Contains}
use Rattle.std.proofs.lemmas.List.{length-append, get_or-append-add, get_or_append_left, take_more}
use Rattle.std.proofs.lemmas.Option.{slice_get_within, get_or_from_slice_get}
use Rattle.std.proofs.lemmas.List.Elements.{All-nil, All-cons}

-- equal lists have equal first items and equal rests
pub heads : {A : Type 0} (x y : A) (xs ys : List A) → x ∷ xs ≡ y ∷ ys → x ≡ y
heads x y xs ys e = cc

pub tails : {A : Type 0} (x y : A) (xs ys : List A) → x ∷ xs ≡ y ∷ ys → xs ≡ ys
tails x y xs ys e = cc

-- lists of the same items are the same
pub same_lists : {A : Type 0} (xs ys : List A) → length xs ≡ length ys → ((i : ℕ) → i < length xs → slice_get xs i ≡ slice_get ys i) → xs ≡ ys
same_lists [] [] l e = refl
same_lists [] (y ∷ ys) l e = cc
same_lists (x ∷ xs) [] l e = cc
same_lists (x ∷ xs) (y ∷ ys) l e =
    let first = e 0 (omega arith) in
    let same : x ≡ y = cc in
    let rest = same_lists xs ys (ap pred l) (λ i k. e (suc i) (omega arith)) in
    cc

-- ---- one more item

pub take_one_more : {A : Type 0} (xs : List A) (k : ℕ) (x : A) → slice_get xs k ≡ Some x → take (k + 1) xs ≡ take k xs ++ x ∷ []
take_one_more xs k x h =
    take_more xs k x (slice_get_within xs k x h) ∙ ap (λ z. take k xs ++ z ∷ []) (get_or_from_slice_get xs k x x h)

-- ---- one item replaced

pub get-set_same : {A : Type 0} (xs : List A) (a : ℕ) (y : A) → a < length xs → slice_get (slice_set xs a y) a ≡ Some y
get-set_same [] a y l = absurd (omega arith)
get-set_same (x ∷ xs) zero y l = refl
get-set_same (x ∷ xs) (suc a) y l = get-set_same xs a y (omega arith)

pub slice_get-set_same : {A : Type 0} (xs : List A) (a : ℕ) (x y : A) → slice_get xs a ≡ Some x → slice_get (slice_set xs a y) a ≡ Some y
slice_get-set_same xs a x y h = get-set_same xs a y (slice_get_within xs a x h)

-- a write elsewhere changes nothing here
pub slice_get-set_apart : {A : Type 0} (xs : List A) (a b : ℕ) (x : A) → a ≢ b
    → slice_get (slice_set xs a x) b ≡ slice_get xs b
slice_get-set_apart [] a b x ne = refl
slice_get-set_apart (z ∷ xs) zero zero x ne = absurd (ne refl)
slice_get-set_apart (z ∷ xs) zero (suc b) x ne = refl
slice_get-set_apart (z ∷ xs) (suc a) zero x ne = refl
slice_get-set_apart (z ∷ xs) (suc a) (suc b) x ne = slice_get-set_apart xs a b x (λ e. ne (ap suc e))

pub slice_get-set_other : {A : Type 0} (xs : List A) (a b : ℕ) (x y : A) → a ≢ b → slice_get xs b ≡ Some y
    → slice_get (slice_set xs a x) b ≡ Some y
slice_get-set_other xs a b x y ne h = slice_get-set_apart xs a b x ne ∙ h

-- ---- two lists in one

pub at_front : {A : Type 0} (xs ys : List A) (k : ℕ) → k < length xs → slice_get (xs ++ ys) k ≡ slice_get xs k
at_front [] ys k l = absurd (omega arith)
at_front (x ∷ xs) ys zero l = refl
at_front (x ∷ xs) ys (suc k) l = at_front xs ys k (omega arith)

-- what follows the first list
pub at_end : {A : Type 0} (xs ys : List A) (n k : ℕ) → length xs ≡ n → slice_get (xs ++ ys) (n + k) ≡ slice_get ys k
at_end [] ys n k e = ap (slice_get ys) (let f : n + k ≡ k = omega arith in f)
at_end (x ∷ xs) ys zero k e = absurd (omega arith)
at_end (x ∷ xs) ys (suc n) k e = ap (slice_get (x ∷ (xs ++ ys))) (let f : suc n + k ≡ suc (n + k) = omega arith in f) ∙ at_end xs ys n k (omega arith)

-- what holds for both holds for each
pub all_front : {A : Type 0} (P : A → Type 0) (xs ys : List A) → All P (xs ++ ys) → All P xs
all_front P xs ys h k d l = subst P (get_or_append_left xs ys d k l) (h k d (omega (arith, length-append xs ys)))

pub all_back : {A : Type 0} (P : A → Type 0) (xs ys : List A) → All P (xs ++ ys) → All P ys
all_back P xs ys h k d l = subst P (get_or-append-add xs ys k d) (h (length xs + k) d (omega (arith, length-append xs ys)))

-- ---- what a list contains

pub has_first : {A : Type 0} (x : A) (xs : List A) → Contains (x ∷ xs) x
has_first x xs = (0, (let e : 0 < length (x ∷ xs) = omega arith in e), refl)

pub has_later : {A : Type 0} (x y : A) (xs : List A) → Contains xs x → Contains (y ∷ xs) x
has_later x y xs c = (suc c.0, (let l = c.1 in let e : suc c.0 < length (y ∷ xs) = omega arith in e), c.2)

pub has_map : {A B : Type 0} (g : A → B) (xs : List A) (x : A) → Contains xs x → Contains (map g xs) (g x)
has_map g [] x c = absurd (omega (arith, c.1))
has_map g (y ∷ xs) x (zero, l, e) = subst (λ b. Contains (g y ∷ map g xs) b) (ap g e) (has_first (g y) (map g xs))
has_map g (y ∷ xs) x (suc k, l, e) = has_later (g x) (g y) (map g xs) (has_map g xs x (k, (omega (arith, l)), e))

-- what holds for the items that pass a test
pub all_filtered : {A : Type 0} (test : A → Bool) (P : A → Type 0) (xs : List A)
    → All (λ x. test x ≡ true → P x) xs → All P (filter test xs)
all_filtered test P [] all = All-nil P
all_filtered {A} test P (x ∷ xs) all = go (test x) refl (all_filtered test P xs (λ k d l. all (suc k) d (omega arith)))
  where
    go : (b : Bool) → test x ≡ b → All P (filter test xs) → All P (cond b (x ∷ filter test xs) (filter test xs))
    go true e rest = All-cons P x (filter test xs) (all 0 x (omega arith) e) rest
    go false e rest = rest

-- ---- lists of one item

pub map-replicate : {A B : Type 0} (f : A → B) (n : ℕ) (x : A) → map f (replicate n x) ≡ replicate n (f x)
map-replicate f zero x = refl
map-replicate f (suc n) x = ap (λ xs. f x ∷ xs) (map-replicate f n x)
