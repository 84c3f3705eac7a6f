-- What is found in a range is the first.
use Rattle.std.proofs.Common.{◌≡◌, ◌∙◌, inl, inr, ℕ, zero, suc, ◌+◌, ◌<◌, ◌≤◌, Bool, true, false, cond, refl, ap, sym, arith}
use Rattle.std.specs.Prelude.{Some, None, find}
use Rattle.std.specs.List.{range_with_len}
use Rattle.std.proofs.lemmas.Bool.{cases_eq}
use Rattle.pop_leaf.proofs.Found.{find_some}

pub find-first : (p : ℕ → Bool) (a n k : ℕ) → find p (range_with_len a n) ≡ Some k → (j : ℕ) → a ≤ j → j < k → p j ≡ false
find-first p a zero k e j l m = absurd (let g : None ≡ Some k = e in cc)
find-first p a (suc n) k e j l m = go (p a) refl e (λ f h. find-first p (a + 1) n k f j h m)
  where
    go : (b : Bool) → p a ≡ b → cond b (Some a) (find p (range_with_len (a + 1) n)) ≡ Some k → (find p (range_with_len (a + 1) n) ≡ Some k → a + 1 ≤ j → p j ≡ false) → p j ≡ false
    go true h f rest = absurd (let g : Some a ≡ Some k = f in let same : a ≡ k = cc in omega (arith, same, l, m))
    go false h f rest = elim (cases_eq a j) [
      | inl g ↦ ap p (sym g) ∙ h
      | inr g ↦ rest f (omega (arith, g, l))
    ]

pub find-in : (p : ℕ → Bool) (a n k : ℕ) → find p (range_with_len a n) ≡ Some k → p k ≡ true
find-in p a n k e = (find_some p (range_with_len a n) k e).2

pub find-any : (p : ℕ → Bool) (a n i : ℕ) → a ≤ i → i < a + n → p i ≡ true → (k : ℕ) × (find p (range_with_len a n) ≡ Some k)
find-any p a zero i l m e = absurd (omega (arith, l, m))
find-any p a (suc n) i l m e = go (p a) refl (λ h. find-any p (a + 1) n i h (omega (arith, m)) e)
  where
    go : (b : Bool) → p a ≡ b → (a + 1 ≤ i → (k : ℕ) × (find p (range_with_len (a + 1) n) ≡ Some k)) → (k : ℕ) × (cond b (Some a) (find p (range_with_len (a + 1) n)) ≡ Some k)
    go true h rest = (a, refl)
    go false h rest = elim (cases_eq a i) [
      | inl g ↦ absurd (let f : true ≡ false = sym e ∙ ap p (sym g) ∙ h in cc)
      | inr g ↦ rest (omega (arith, g, l))
    ]
