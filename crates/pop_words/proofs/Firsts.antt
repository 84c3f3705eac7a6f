-- Words as they are borrowed, and the first fault among them.
use Rattle.std.proofs.Common.{◌≡◌, ℕ, zero, suc, ◌+◌, ◌<◌, Bool, List, [], ◌∷◌, Option, Some, None, map, refl, ap, ◌∙◌, arith}
use Rattle.std.specs.Prelude.{position}
use Rattle.std.proofs.lemmas.List.{length-map}
use Rattle.std.specs.List.{list_any, range_with_len, position_or_len}
use Rattle.pop_words.specs.Options.{first_given}

pub list_any_map : {A B : Type 0} (f : A → B) (p : B → Bool) (xs : List A) → list_any p (map f xs) ≡ list_any (λ x. p (f x)) xs
list_any_map f p [] = refl
list_any_map f p (x ∷ xs) = rw (list_any_map f p xs) refl

position_or_len_map : {A B : Type 0} (f : A → B) (p : B → Bool) (xs : List A) → position_or_len p (map f xs) ≡ position_or_len (λ x. p (f x)) xs
position_or_len_map f p [] = refl
position_or_len_map f p (x ∷ xs) = rw (position_or_len_map f p xs) refl

pub position_map : {A B : Type 0} (f : A → B) (p : B → Bool) (xs : List A) → position p (map f xs) ≡ position (λ x. p (f x)) xs
position_map f p xs = rw (position_or_len_map f p xs, length-map xs f) refl

-- the first item for which f gives something
pub given_at : {B : Type 0} (f : ℕ → Option B) (a n i : ℕ) (y : B) → i < n → ((k : ℕ) → k < i → f (a + k) ≡ None) → f (a + i) ≡ Some y → first_given f (range_with_len a n) ≡ Some y
given_at f a zero i y within before is = absurd (omega arith)
given_at f a (suc n) zero y within before is =
    let here : f a ≡ Some y = ap f (let e : a ≡ a + 0 = omega arith in e) ∙ is in
    rw here refl
given_at f a (suc n) (suc i) y within before is =
    let here : f a ≡ None = ap f (let e : a ≡ a + 0 = omega arith in e) ∙ before 0 (omega arith) in
    let shift : (k : ℕ) → f (a + 1 + k) ≡ f (a + suc k) = λ k. ap f (let e : a + 1 + k ≡ a + suc k = omega arith in e) in
    rw here (given_at f (a + 1) n i y (omega arith) (λ k less. shift k ∙ before (suc k) (omega arith)) (shift i ∙ is))

pub none_given : {B : Type 0} (f : ℕ → Option B) (a n : ℕ) → ((k : ℕ) → k < n → f (a + k) ≡ None) → first_given f (range_with_len a n) ≡ None
none_given f a zero none = refl
none_given f a (suc n) none =
    let here : f a ≡ None = ap f (let e : a ≡ a + 0 = omega arith in e) ∙ none 0 (omega arith) in
    let shift : (k : ℕ) → f (a + 1 + k) ≡ f (a + suc k) = λ k. ap f (let e : a + 1 + k ≡ a + suc k = omega arith in e) in
    rw here (none_given f (a + 1) n (λ k less. shift k ∙ none (suc k) (omega arith)))
