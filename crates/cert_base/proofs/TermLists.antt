-- The terms of rows, variable by variable.
use Rattle.std.proofs.Common.{◌≡◌, ℕ, zero, suc, ◌+◌, ◌<◌, ◌≤◌, Bool, true, false, List, [], ◌∷◌, ◌++◌, length, map, drop, get_or, append_assoc, refl, ap, sym, ◌∙◌, zero-add, arith, w64, to_z, of_z, SFits}
use Rattle.std.specs.Prelude.{ℤ, pos, negsuc, neg_ℤ, ◌==◌, if◌then◌else◌}
use Rattle.std.specs.List.{range_with_len}
use Rattle.std.proofs.lemmas.Int.{to_z-of_z}
use Rattle.cert_base.specs.declared.fact.Row.{Row}
use Rattle.std.specs.Ordering.{int_eq}
use Rattle.std.proofs.lemmas.List.{drop_more, append-nil, drop_all}
use Rattle.std.proofs.lemmas.Bool.{eq-eqb, ne_eqb}
use Rattle.cert_base.specs.declared.fact.Term.{Term}
use Rattle.cert_base.specs.Rows.{terms_from, zeros, dense_row}
use Rattle.cert_base.specs.FactsAndCases.{indicator}
use Rattle.cert_base.specs.Parts.{term_of}

pub terms_from-cons : (k : ℕ) (a : ℤ) (coefs : List ℤ) → terms_from k (a ∷ coefs) ≡ term_of k a ++ terms_from (k + 1) coefs
terms_from-cons k a coefs = go (int_eq a (pos 0))
  where
    go : (b : Bool) → (if b then terms_from (k + 1) coefs else (record { at = k; by = a } ∷ terms_from (k + 1) coefs)) ≡ (if b then [] else (record { at = k; by = a } ∷ [])) ++ terms_from (k + 1) coefs
    go true = refl
    go false = refl

-- the terms from place i on
pub terms_from-drop : (k i : ℕ) (coefs : List ℤ) → i < length coefs → terms_from (k + i) (drop i coefs) ≡ term_of (k + i) (get_or coefs i (pos 0)) ++ terms_from (k + (i + 1)) (drop (i + 1) coefs)
terms_from-drop k i coefs l =
    ap (terms_from (k + i)) (drop_more coefs i (pos 0) l)
    ∙ terms_from-cons (k + i) (get_or coefs i (pos 0)) (drop (i + 1) coefs)
    ∙ ap (λ n. term_of (k + i) (get_or coefs i (pos 0)) ++ terms_from n (drop (i + 1) coefs)) (let e : k + i + 1 ≡ k + (i + 1) = omega arith in e)

pub terms_from-append : (k : ℕ) (xs ys : List ℤ) → terms_from k (xs ++ ys) ≡ terms_from k xs ++ terms_from (k + length xs) ys
terms_from-append k [] ys = ap (λ n. terms_from n ys) (let e : k ≡ k + 0 = omega arith in e)
terms_from-append k (x ∷ xs) ys =
    terms_from-cons k x (xs ++ ys)
    ∙ ap (λ ts. term_of k x ++ ts) (terms_from-append (k + 1) xs ys ∙ ap (λ n. terms_from (k + 1) xs ++ terms_from n ys) (let e : k + 1 + length xs ≡ k + suc (length xs) = omega arith in e))
    ∙ sym (append_assoc (term_of k x) (terms_from (k + 1) xs) (terms_from (k + suc (length xs)) ys))
    ∙ ap (λ ts. ts ++ terms_from (k + suc (length xs)) ys) (sym (terms_from-cons k x xs))

pub terms_from-zeros : (k n : ℕ) (xs : List ℤ) → terms_from k (zeros n ++ xs) ≡ terms_from (k + n) xs
terms_from-zeros k zero xs = ap (λ m. terms_from m xs) (let e : k ≡ k + 0 = omega arith in e)
terms_from-zeros k (suc n) xs =
    terms_from-zeros (k + 1) n xs ∙ ap (λ m. terms_from m xs) (let e : k + 1 + n ≡ k + suc n = omega arith in e)

-- ---- the term of one state

abbrev pub minus_one_at : ℕ → ℕ → ℤ
minus_one_at q z = neg_ℤ (indicator (z == q))

term_of-same : (k q z : ℕ) → (z == q) ≡ true → term_of k (minus_one_at q z) ≡ record { at = k; by = negsuc 0 } ∷ []
term_of-same k q z e = rw e refl

term_of-other : (k q z : ℕ) → (z == q) ≡ false → term_of k (minus_one_at q z) ≡ []
term_of-other k q z e = rw e refl

terms_from-past : (q k a n : ℕ) → q < a → terms_from k (map (minus_one_at q) (range_with_len a n)) ≡ []
terms_from-past q k a zero l = refl
terms_from-past q k a (suc n) l =
    terms_from-cons k (minus_one_at q a) (map (minus_one_at q) (range_with_len (a + 1) n))
    ∙ ap (λ ts. ts ++ terms_from (k + 1) (map (minus_one_at q) (range_with_len (a + 1) n))) (term_of-other k q a (ne_eqb a q (λ e. omega arith)))
    ∙ terms_from-past q (k + 1) (a + 1) n (omega arith)

pub terms_from-state : (q k a n d : ℕ) → q ≡ a + d → d < n → terms_from k (map (minus_one_at q) (range_with_len a n)) ≡ record { at = k + d; by = negsuc 0 } ∷ []
terms_from-state q k a zero d e l = absurd (omega arith)
terms_from-state q k a (suc n) zero e l =
    terms_from-cons k (minus_one_at q a) (map (minus_one_at q) (range_with_len (a + 1) n))
    ∙ ap (λ ts. ts ++ terms_from (k + 1) (map (minus_one_at q) (range_with_len (a + 1) n))) (term_of-same k q a (eq-eqb a q (omega arith)))
    ∙ ap (λ ts. record { at = k; by = negsuc 0 } ∷ ts) (terms_from-past q (k + 1) (a + 1) n (omega arith))
    ∙ ap (λ m. record { at = m; by = negsuc 0 } ∷ []) (let f : k ≡ k + 0 = omega arith in f)
terms_from-state q k a (suc n) (suc d) e l =
    terms_from-cons k (minus_one_at q a) (map (minus_one_at q) (range_with_len (a + 1) n))
    ∙ ap (λ ts. ts ++ terms_from (k + 1) (map (minus_one_at q) (range_with_len (a + 1) n))) (term_of-other k q a (ne_eqb a q (λ f. omega arith)))
    ∙ terms_from-state q (k + 1) (a + 1) n d (omega arith) (omega arith)
    ∙ ap (λ m. record { at = m; by = negsuc 0 } ∷ []) (let f : k + 1 + d ≡ k + suc d = omega arith in f)

-- one more term of the walk
pub terms_from-next : (k i : ℕ) (coefs : List ℤ) (before after : List Term) (a : ℤ) → i < length coefs → get_or coefs i (pos 0) ≡ a → after ≡ before ++ term_of (k + i) a → after ++ terms_from (k + (i + 1)) (drop (i + 1) coefs) ≡ before ++ terms_from (k + i) (drop i coefs)
terms_from-next k i coefs before after a l is e =
    ap (λ ts. ts ++ terms_from (k + (i + 1)) (drop (i + 1) coefs)) e
    ∙ append_assoc before (term_of (k + i) a) (terms_from (k + (i + 1)) (drop (i + 1) coefs))
    ∙ ap (λ ts. before ++ ts) (ap (λ z. term_of (k + i) z ++ terms_from (k + (i + 1)) (drop (i + 1) coefs)) (sym is) ∙ sym (terms_from-drop k i coefs l))

pub terms_from-all : (k i : ℕ) (coefs : List ℤ) (terms : List Term) → length coefs ≤ i → terms ++ terms_from (k + i) (drop i coefs) ≡ terms_from k coefs → terms ≡ terms_from k coefs
terms_from-all k i coefs terms l e =
    sym (append-nil terms) ∙ ap (λ cs. terms ++ terms_from (k + i) cs) (sym (drop_all i coefs l)) ∙ e

-- one more term of the walk, as the code reads it
pub terms_from-read : (k i : ℕ) (coefs : List ℤ) (before after : List Term) → i < length coefs → SFits w64 (get_or coefs i (pos 0)) → after ≡ before ++ term_of (k + i) (to_z w64 (of_z w64 (get_or coefs i (pos 0)))) → after ++ terms_from (k + (i + 1)) (drop (i + 1) coefs) ≡ before ++ terms_from (k + i) (drop i coefs)
terms_from-read k i coefs before after l fits e =
    terms_from-next k i coefs before after (get_or coefs i (pos 0)) l refl (e ∙ ap (λ a. before ++ term_of (k + i) a) (to_z-of_z w64 (get_or coefs i (pos 0)) fits))

pub row_written : (row : Row) (terms others : List Term) (constant : ℤ) → SFits w64 constant → row ≡ record { terms = terms; constant = to_z w64 (of_z w64 constant) } → terms ≡ others → row ≡ record { terms = others; constant = constant }
row_written row terms others constant fits e f =
    let same = to_z-of_z w64 constant fits in e ∙ rw (same, f) refl

-- a row after n zeros, as the code writes it
pub row_behind : (n first : ℕ) (coefs : List ℤ) (constant : ℤ) (row : Row) → SFits w64 constant → first ≡ n → row ≡ record { terms = terms_from first coefs; constant = to_z w64 (of_z w64 constant) } → row ≡ dense_row (zeros n ++ coefs) constant
row_behind n first coefs constant row fits e f =
    row_written row (terms_from first coefs) (terms_from 0 (zeros n ++ coefs)) constant fits f
    (ap (λ k. terms_from k coefs) (e ∙ sym (zero-add n)) ∙ sym (terms_from-zeros 0 n coefs))
