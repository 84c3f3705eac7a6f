-- Lists that are made of ranges: what holds for them, and what they contain.
use Rattle.std.proofs.Common.{◌≡◌, subst, ℕ, zero, suc, ◌+◌, ◌-◌, ◌<◌, ◌≤◌, Bool, true, false, List, [], ◌∷◌, ◌++◌, length, map, append_assoc, zero-add, ap, sym, ◌∙◌, arith}
use Rattle.std.specs.Prelude.{All, Contains, filter, flat_map, cond}
use Rattle.std.specs.List.{range_with_len}
use Rattle.std.proofs.lemmas.List.{append-nil}
use Rattle.std.proofs.lemmas.List.Concat.{flat_map-append}
use Rattle.std.proofs.lemmas.List.Elements.{All-append, All-nil, Contains-append_left, Contains-append_right}
use Rattle.std.proofs.lemmas.List.FromFn.{length-range_with_len, get_or-range_with_len, map-range_with_len_more}
use Rattle.base_laws.proofs.Ranges.{range_next}
use Rattle.base_laws.proofs.Lists.{has_later, has_first}

pub all_flat : {A B : Type 0} (P : B → Type 0) (f : A → List B) (xs : List A) → All (λ x. All P (f x)) xs → All P (flat_map f xs)
all_flat P f [] all = All-nil P
all_flat {A} {B} P f (x ∷ xs) all =
    All-append P (f x) (flat_map f xs) (all 0 x (omega arith)) (all_flat P f xs (λ k d l. all (suc k) d (omega arith)))

pub range_has : (a n q : ℕ) → a ≤ q → q < a + n → Contains (range_with_len a n) q
range_has a n q l m =
    (q - a, (let e : q - a < length (range_with_len a n) = omega (arith, length-range_with_len a n) in e), get_or-range_with_len a n (q - a) q (omega arith) ∙ (let e : a + (q - a) ≡ q = omega arith in e))

pub has_filter : {A : Type 0} (test : A → Bool) (xs : List A) (x : A) → Contains xs x → test x ≡ true → Contains (filter test xs) x
has_filter test [] x c h = absurd (omega (arith, c.1))
has_filter {A} test (y ∷ xs) x (zero, l, e) h = subst (λ b. Contains (filter test (y ∷ xs)) b) e (let passes : test y ≡ true = ap test e ∙ h in rw passes (has_first y (filter test xs)))
has_filter {A} test (y ∷ xs) x (suc k, l, e) h = go (test y) (has_filter test xs x (k, (omega (arith, l)), e) h)
  where
    go : (b : Bool) → Contains (filter test xs) x → Contains (cond b (y ∷ filter test xs) (filter test xs)) x
    go true c = has_later x y (filter test xs) c
    go false c = c

pub has_flat : {A B : Type 0} (f : A → List B) (xs : List A) (x : A) (y : B) → Contains xs x → Contains (f x) y → Contains (flat_map f xs) y
has_flat f [] x y c d = absurd (omega (arith, c.1))
has_flat f (z ∷ xs) x y (zero, l, e) d = Contains-append_left (f z) (flat_map f xs) y (subst (λ w. Contains (f w) y) (sym e) d)
has_flat f (z ∷ xs) x y (suc k, l, e) d =
    Contains-append_right (f z) (flat_map f xs) y (has_flat f xs x y (k, (omega (arith, l)), e) d)

-- one more piece of a list of pieces
pub flat_range_more : {A : Type 0} (f : ℕ → List A) (n : ℕ) (start before own after : List A) → before ≡ start ++ flat_map f (range_with_len 0 n) → own ≡ f n → after ≡ before ++ own → after ≡ start ++ flat_map f (range_with_len 0 (n + 1))
flat_range_more f n start before own after b o e =
    e
    ∙ ap (λ xs. xs ++ own) b
    ∙ append_assoc start (flat_map f (range_with_len 0 n)) own
    ∙ ap (λ xs. start ++ xs) (ap (λ xs. flat_map f (range_with_len 0 n) ++ xs) (o ∙ sym (append-nil (f n))) ∙ sym (flat_map-append f (range_with_len 0 n) (n ∷ [])) ∙ ap (flat_map f) (ap (λ k. range_with_len 0 n ++ k ∷ []) (sym (zero-add n)) ∙ sym (range_next 0 n) ∙ ap (range_with_len 0) (let k : suc n ≡ n + 1 = omega arith in k)))

-- one more item of a list by index
pub map_range_push : {A : Type 0} (f : ℕ → A) (n : ℕ) (before after : List A) (x : A) → before ≡ map f (range_with_len 0 n) → x ≡ f n → after ≡ before ++ x ∷ [] → after ≡ map f (range_with_len 0 (n + 1))
map_range_push f n before after x b h e =
    e ∙ ap (λ xs. xs ++ x ∷ []) b ∙ ap (λ y. map f (range_with_len 0 n) ++ y ∷ []) h ∙ sym (map-range_with_len_more f 0 n n (zero-add n))
