-- The first number that passes a test.
use Rattle.std.proofs.Common.{◌≡◌, ℕ, zero, suc, ◌+◌, ◌<◌, ◌≤◌, Bool, true, false, cond, ◌⊎◌, inl, inr, refl, ap, sym, ◌∙◌, arith}
use Rattle.std.specs.Prelude.{Some, find}
use Rattle.std.specs.List.{range_with_len, list_any}
use Rattle.std.proofs.lemmas.Bool.{or_parts, cases_eq}
use Rattle.pop_leaf.specs.FirstFault.{first_below}

-- what the first is, of n numbers from a on
abbrev IsFirstFrom : (ℕ → Bool) → ℕ → ℕ → ℕ → Type 0
IsFirstFrom p a n k = (a ≤ k) × (k < a + n) × (p k ≡ true) × ((j : ℕ) → a ≤ j → j < k → p j ≡ false)

found_from : (p : ℕ → Bool) (a n k : ℕ) → find p (range_with_len a n) ≡ Some k → IsFirstFrom p a n k
found_from p a zero k e = cc
found_from p a (suc n) k e = by_test (p a) refl e (λ f. found_from p (a + 1) n k f)
  where
    by_test : (b : Bool) → p a ≡ b → cond b (Some a) (find p (range_with_len (a + 1) n)) ≡ Some k → (find p (range_with_len (a + 1) n) ≡ Some k → IsFirstFrom p (a + 1) n k) → IsFirstFrom p a (suc n) k
    by_test true is f more =
        let same : a ≡ k = cc in
        ((let l : a ≤ k = omega arith in l), (let l : k < a + suc n = omega arith in l), ap p (sym same) ∙ is, λ j l m. absurd (omega arith))
    by_test false is f more =
        let g = more f in
        ((let l : a ≤ k = omega (arith, g.0) in l), (let l : k < a + suc n = omega (arith, g.1) in l), g.2, λ j l m. earlier j l m g.3)
      where
        earlier : (j : ℕ) → a ≤ j → j < k → ((i : ℕ) → a + 1 ≤ i → i < k → p i ≡ false) → p j ≡ false
        earlier j l m rest = elim (cases_eq j a) [ inl here ↦ ap p here ∙ is | inr after ↦ rest j (omega arith) m ]

pub first_below-Some : (n : ℕ) (p : ℕ → Bool) (k : ℕ) → first_below n p ≡ Some k → (k < n) × (p k ≡ true) × ((j : ℕ) → j < k → p j ≡ false)
first_below-Some n p k e =
    let f = found_from p 0 n k e in ((let l : k < n = omega (arith, f.1) in l), f.2, λ j l. f.3 j (omega arith) l)

none_from : (p : ℕ → Bool) (a n : ℕ) → list_any p (range_with_len a n) ≡ false → (k : ℕ) → a ≤ k → k < a + n → p k ≡ false
none_from p a zero e k l m = absurd (omega arith)
none_from p a (suc n) e k l m = by_case (cases_eq k a) (λ h. none_from p (a + 1) n (or_parts (p a) (list_any p (range_with_len (a + 1) n)) e).1 k h (omega arith))
  where
    by_case : (k ≡ a) ⊎ (k ≡ a → ⊥) → (a + 1 ≤ k → p k ≡ false) → p k ≡ false
    by_case (inl here) more = ap p here ∙ (or_parts (p a) (list_any p (range_with_len (a + 1) n)) e).0
    by_case (inr after) more = more (omega arith)

-- no number below n passes
pub list_any-none : (n : ℕ) (p : ℕ → Bool) → list_any p (range_with_len 0 n) ≡ false → (k : ℕ) → k < n → p k ≡ false
list_any-none n p e k l = none_from p 0 n e k (omega arith) (omega arith)
