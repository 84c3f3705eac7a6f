-- Lists of words that are written alike are alike.
use Rattle.std.proofs.Common.{◌≡◌, ℕ, zero, suc, ◌+◌, ◌<◌, ◌≤◌, ◌==◌, Bool, true, false, cond, if◌then◌else◌, List, [], ◌∷◌, ◌++◌, length, get_or, map, codes, All, filter, refl, sym, ap, ◌∙◌, subst, append_assoc, map-id, arith}
use Rattle.std.specs.Prelude.{◌&&◌, ◌||◌}
use Rattle.std.specs.List.{concat, range_with_len}
use Rattle.std.proofs.lemmas.Bool.{eqb-true, eqb-false}
use Rattle.std.proofs.lemmas.List.{append_cancel_left, get_or-map, length-map}
use Rattle.std.proofs.lemmas.List.FromFn.{fill_by_all}
use Rattle.std.proofs.lemmas.List.Elements.{All-head, All-tail}
use Rattle.cert_show.specs.Lines.{below, spaced, named}
use Rattle.cert_show.proofs.Spans.{Passes, Stops, cut}
use Rattle.cert_show.proofs.Quoted.{other_than}

-- ---- values that their texts tell

pub same_values : {A X B : Type 0} (f g : A → X) (v w : A → B) (P Q : A → Type 0) → ((x y : A) → P x → Q y → f x ≡ g y → v x ≡ w y)
    → (xs ys : List A) → All P xs → All Q ys → map f xs ≡ map g ys → map v xs ≡ map w ys
same_values f g v w P Q told [] [] p q e = refl
same_values f g v w P Q told [] (y ∷ ys) p q e = absurd (cc e)
same_values f g v w P Q told (x ∷ xs) [] p q e = absurd (cc e)
same_values f g v w P Q told (x ∷ xs) (y ∷ ys) p q e =
    let head : f x ≡ g y = cc e in
    let tail : map f xs ≡ map g ys = cc e in
    let first = told x y (All-head P x xs p) (All-head Q y ys q) head in
    let more = same_values f g v w P Q told xs ys (All-tail P x xs p) (All-tail Q y ys q) tail in
    cc (first, more)

pub same_items : {A X : Type 0} (f g : A → X) (P Q : A → Type 0) → ((x y : A) → P x → Q y → f x ≡ g y → x ≡ y)
    → (xs ys : List A) → All P xs → All Q ys → map f xs ≡ map g ys → xs ≡ ys
same_items {A} f g P Q told xs ys p q e = sym (map-id xs) ∙ same_values f g (λ (x : A). x) (λ (x : A). x) P Q told xs ys p q e ∙ map-id ys

-- what is said of each place is said of each item
pub placed : {A X : Type 0} (h : A → X) (xs : List A) (d : A) → map (λ i. h (get_or xs i d)) (below (length xs)) ≡ map h xs
placed h xs d = sym (fill_by_all (λ i. h (get_or xs i d)) (map h xs) (length xs) (h d) (length-map xs h) (λ k less. get_or-map h xs k d (h d) less))

-- ---- words

abbrev pub words : {A : Type 0} → (A → List ℕ) → List A → List ℕ
words text xs = concat (map (λ x. spaced (text x)) xs)

words_stop : {A : Type 0} (text : A → List ℕ) (xs : List A) → Stops (other_than 32) (words text xs)
words_stop text [] = tt
words_stop text (x ∷ xs) = refl

pub same_words : {A B : Type 0} (f : A → List ℕ) (g : B → List ℕ) → ((x : A) → Passes (other_than 32) (f x)) → ((y : B) → Passes (other_than 32) (g y))
    → (xs : List A) (ys : List B) → words f xs ≡ words g ys → map f xs ≡ map g ys
same_words f g p q [] [] e = refl
same_words f g p q [] (y ∷ ys) e = let h : ◌≡◌ {A = List ℕ} [] (32 ∷ (g y ++ words g ys)) = e in absurd (cc h)
same_words f g p q (x ∷ xs) [] e = let h : ◌≡◌ {A = List ℕ} (32 ∷ (f x ++ words f xs)) [] = e in absurd (cc h)
same_words f g p q (x ∷ xs) (y ∷ ys) e =
    let h : ◌≡◌ {A = List ℕ} (32 ∷ (f x ++ words f xs)) (32 ∷ (g y ++ words g ys)) = e in
    let tail : f x ++ words f xs ≡ g y ++ words g ys = cc h in
    let both = cut (other_than 32) (f x) (g y) (words f xs) (words g ys) (p x) (q y) (words_stop f xs) (words_stop g ys) tail in
    let first = both.0 in
    let more = same_words f g p q xs ys both.1 in
    cc (first, more)

-- values behind the same names
pub same_named : {A : Type 0} (name v w : A → List ℕ) → ((x : A) → Passes (other_than 32) (v x)) → ((x : A) → Passes (other_than 32) (w x))
    → (xs : List A) → words (λ x. named (name x) (v x)) xs ≡ words (λ x. named (name x) (w x)) xs → map v xs ≡ map w xs
same_named name v w p q [] e = refl
same_named name v w p q (x ∷ xs) e =
    let r = words (λ x. named (name x) (v x)) xs in
    let s = words (λ x. named (name x) (w x)) xs in
    let front = name x ++ codes ": " in
    let h : ◌≡◌ {A = List ℕ} (32 ∷ ((front ++ v x) ++ r)) (32 ∷ ((front ++ w x) ++ s)) = e in
    let tail : (front ++ v x) ++ r ≡ (front ++ w x) ++ s = cc h in
    let rest = append_cancel_left front (v x ++ r) (w x ++ s) (sym (append_assoc front (v x) r) ∙ tail ∙ append_assoc front (w x) s) in
    let both = cut (other_than 32) (v x) (w x) r s (p x) (q x) (words_stop (λ x. named (name x) (v x)) xs) (words_stop (λ x. named (name x) (w x)) xs) rest in
    let first = both.0 in
    let more = same_named name v w p q xs both.1 in
    cc (first, more)

-- ---- words that are left out

filtered_if : {A : Type 0} (text : A → List ℕ) (b : Bool) (x : A) (xs : List A) (rest : List ℕ) → rest ≡ words text xs
    → (if b then spaced (text x) else []) ++ rest ≡ words text (cond b (x ∷ xs) xs)
filtered_if text true x xs rest e = ap (λ (t : List ℕ). spaced (text x) ++ t) e
filtered_if text false x xs rest e = e

pub filtered : {A : Type 0} (text : A → List ℕ) (test : A → Bool) (xs : List A)
    → concat (map (λ x. if test x then spaced (text x) else []) xs) ≡ words text (filter test xs)
filtered text test [] = refl
filtered text test (x ∷ xs) = filtered_if text (test x) x (filter test xs) (concat (map (λ x. if test x then spaced (text x) else []) xs)) (filtered text test xs)

abbrev has : ℕ → List ℕ → Bool
has q [] = false
has q (x ∷ xs) = x == q || has q xs

no_more : (b : Bool) → false ≡ (b && false)
no_more true = refl
no_more false = refl

and_true : (b : Bool) → (b && true) ≡ b
and_true true = refl
and_true false = refl

has_if : (test : ℕ → Bool) (q x : ℕ) (xs : List ℕ) (b same : Bool) → test x ≡ b → (x == q) ≡ same → has q (filter test xs) ≡ (test q && has q xs)
    → has q (cond b (x ∷ filter test xs) (filter test xs)) ≡ (test q && (same || has q xs))
has_if test q x xs true true is eq more =
    let this : test q ≡ true = subst (λ (y : ℕ). test y ≡ true) (eqb-true x q eq) is in
    ap (λ b. b || has q (filter test xs)) eq ∙ sym (ap (λ b. b && true) this)
has_if test q x xs true false is eq more = ap (λ b. b || has q (filter test xs)) eq ∙ more
has_if test q x xs false true is eq more =
    let this : test q ≡ false = subst (λ (y : ℕ). test y ≡ false) (eqb-true x q eq) is in
    more ∙ ap (λ b. b && has q xs) this ∙ sym (ap (λ b. b && true) this)
has_if test q x xs false false is eq more = more

has_filter : (test : ℕ → Bool) (q : ℕ) (xs : List ℕ) → has q (filter test xs) ≡ (test q && has q xs)
has_filter test q [] = no_more (test q)
has_filter test q (x ∷ xs) = has_if test q x xs (test x) (x == q) refl refl (has_filter test q xs)

has_by : (q a n : ℕ) (same : Bool) → (a == q) ≡ same → (a + 1 ≤ q → has q (range_with_len (a + 1) n) ≡ true) → a ≤ q → (same || has q (range_with_len (a + 1) n)) ≡ true
has_by q a n true eq more low = refl
has_by q a n false eq more low = more (let other = eqb-false a q eq in omega (arith, other, low))

has_below : (q a n : ℕ) → a ≤ q → q < a + n → has q (range_with_len a n) ≡ true
has_below q a zero low high = absurd (omega (arith, low, high))
has_below q a (suc n) low high = has_by q a n (a == q) refl (λ more. has_below q (a + 1) n more (omega (arith, high))) low

-- the tests agree that leave the same numbers
pub same_tests : (test other : ℕ → Bool) (n : ℕ) → filter test (below n) ≡ filter other (below n) → (q : ℕ) → q < n → test q ≡ other q
same_tests test other n e q less =
    let there : has q (below n) ≡ true = has_below q 0 n (omega arith) (omega (arith, less)) in
    sym (and_true (test q)) ∙ sym (ap (λ b. test q && b) there) ∙ sym (has_filter test q (below n)) ∙ ap (has q) e
    ∙ has_filter other q (below n) ∙ ap (λ b. other q && b) there ∙ and_true (other q)
