-- Properties of elements one by one, and of whole lists.
use Rattle.std.proofs.Common.{◌≡◌, ℕ, zero, suc, true, false, List, [], ◌∷◌, ◌++◌, get_or, refl, sym, ap, ◌∙◌, arith}
use Rattle.std.specs.Prelude.{◌≢◌, All, AllPairs}
use Rattle.std.specs.List.{list_any}
use Rattle.std.specs.Str.{bytes_eq}
use Rattle.std.proofs.lemmas.List.Elements.{All-nil, All-cons, All-head, All-tail}
use Rattle.std.proofs.lemmas.List.Kept.{AllPairs-cons}
use Rattle.std.proofs.lemmas.List.Folds.{list_any-append}
use Rattle.std.proofs.lemmas.Slice.Eq.{bytes_eq-Decides}
use Rattle.std.proofs.lemmas.Bool.{or_left, or_right, or_from, false_from_ne_true}
use Rattle.base_json.proofs.Readers.{EachFrom}

module _ {A : Type 0} (P : A → Type 0) where
  pub EachFrom-All : (found xs : List A) → EachFrom (λ _ x. P x) found xs → All P xs
  EachFrom-All found [] each_one = All-nil P
  EachFrom-All found (x ∷ xs) each_one = All-cons P x xs each_one.0 (EachFrom-All (found ++ x ∷ []) xs each_one.1)

  pub All-EachFrom : (found xs : List A) → All P xs → EachFrom (λ _ x. P x) found xs
  All-EachFrom found [] all = tt
  All-EachFrom found (x ∷ xs) all = (All-head P x xs all, All-EachFrom (found ++ x ∷ []) xs (All-tail P x xs all))

module _ {A : Type 0} (P Q : List A → A → Type 0) (so : (found : List A) (x : A) → P found x → Q found x) where
  pub EachFrom-weaker : (found xs : List A) → EachFrom P found xs → EachFrom Q found xs
  EachFrom-weaker found [] each_one = tt
  EachFrom-weaker found (x ∷ xs) each_one = (so found x each_one.0, EachFrom-weaker (found ++ x ∷ []) xs each_one.1)

-- none of the texts found before is this one
abbrev pub IsFresh : List (List ℕ) → List ℕ → Type 0
IsFresh found s = list_any (bytes_eq s) found ≡ false

-- one that was found is none of the fresh ones
unlike : (s : List ℕ) (found xs : List (List ℕ)) → list_any (bytes_eq s) found ≡ true → EachFrom IsFresh found xs → All (λ t. s ≢ t) xs
unlike s found [] is each_one = All-nil (λ t. s ≢ t)
unlike s found (x ∷ xs) is each_one =
    All-cons (λ t. s ≢ t) x xs
    (λ same. absurd (cc (ap (λ (t : List ℕ). list_any (bytes_eq t) found) same, is, each_one.0)))
    (unlike s (found ++ x ∷ []) xs (list_any-append (bytes_eq s) found (x ∷ []) ∙ or_left (list_any (bytes_eq s) found) (list_any (bytes_eq s) (x ∷ [])) is) each_one.1)

pub fresh-distinct : (found xs : List (List ℕ)) → EachFrom IsFresh found xs → AllPairs ◌≢◌ xs
fresh-distinct found [] each_one = λ i j d lt within. absurd (omega arith)
fresh-distinct found (x ∷ xs) each_one =
    AllPairs-cons ◌≢◌ x xs
    (unlike x (found ++ x ∷ []) xs (list_any-append (bytes_eq x) found (x ∷ []) ∙ or_right (list_any (bytes_eq x) found) (list_any (bytes_eq x) (x ∷ [])) (or_left (bytes_eq x x) false ((bytes_eq-Decides x x).1 refl))) each_one.1)
    (fresh-distinct (found ++ x ∷ []) xs each_one.1)

pairs_head : (x : List ℕ) (xs : List (List ℕ)) → AllPairs ◌≢◌ (x ∷ xs) → All (λ t. x ≢ t) xs
pairs_head x xs pairs = λ i d within. pairs zero (suc i) d (omega arith) (omega arith)

pairs_tail : (x : List ℕ) (xs : List (List ℕ)) → AllPairs ◌≢◌ (x ∷ xs) → AllPairs ◌≢◌ xs
pairs_tail x xs pairs = λ i j d lt within. pairs (suc i) (suc j) d (omega arith) (omega arith)

still_fresh : (found : List (List ℕ)) (x t : List ℕ) → IsFresh found t → x ≢ t → IsFresh (found ++ x ∷ []) t
still_fresh found x t fresh other =
    list_any-append (bytes_eq t) found (x ∷ []) ∙ or_from (list_any (bytes_eq t) found) (list_any (bytes_eq t) (x ∷ [])) fresh (or_from (bytes_eq t x) false (false_from_ne_true (bytes_eq t x) (λ e. other (sym ((bytes_eq-Decides t x).0 e)))) refl)

pub distinct-fresh : (found xs : List (List ℕ)) → All (IsFresh found) xs → AllPairs ◌≢◌ xs → EachFrom IsFresh found xs
distinct-fresh found [] fresh pairs = tt
distinct-fresh found (x ∷ xs) fresh pairs =
    let later = All-tail (IsFresh found) x xs fresh in
    let unlike_x = pairs_head x xs pairs in
    let fresh_ones : All (IsFresh (found ++ x ∷ [])) xs = λ i d within. still_fresh found x (get_or xs i d) (later i d within) (unlike_x i d within) in
    (All-head (IsFresh found) x xs fresh, distinct-fresh (found ++ x ∷ []) xs fresh_ones (pairs_tail x xs pairs))
