-- Which numbers are kept.
use Rattle.std.proofs.Common.{◌≡◌, ◌⊎◌, inl, inr, ℕ, zero, suc, true, List, [], ◌∷◌, refl, sym, subst, ◌∙◌, arith}
use Rattle.std.specs.Prelude.{Contains, ◌==◌}
use Rattle.std.proofs.lemmas.Bool.{eq-eqb, eqb-true, or_cases, cases_Bool, false≢true}
use Rattle.std.proofs.Math.Bool.{or-true}
use Rattle.base_laws.proofs.Lists.{has_first, has_later}
use Rattle.pop_leaf.specs.Hushed.{is_kept}

pub kept_listed : (kept : List ℕ) (n : ℕ) → is_kept kept n ≡ true → Contains kept n
kept_listed [] n e = cc
kept_listed (m ∷ kept) n e = by (or_cases (m == n) (is_kept kept n) e) (kept_listed kept n)
  where
    by : ((m == n) ≡ true) ⊎ (is_kept kept n ≡ true) → (is_kept kept n ≡ true → Contains kept n) → Contains (m ∷ kept) n
    by (inl h) more = subst (λ k. Contains (m ∷ kept) k) (eqb-true m n h) (has_first m kept)
    by (inr h) more = has_later n m kept (more h)

pub listed_kept : (kept : List ℕ) (n : ℕ) → Contains kept n → is_kept kept n ≡ true
listed_kept [] n c = absurd (omega (arith, c.1))
listed_kept (m ∷ kept) n (zero, l, e) = rw (eq-eqb m n e) refl
listed_kept (m ∷ kept) n (suc k, l, e) = rw (listed_kept kept n (k, (omega (arith, l)), e)) (or-true (m == n))

-- a number is listed, or isn't
pub listed_cases : (kept : List ℕ) (n : ℕ) → Contains kept n ⊎ (¬ Contains kept n)
listed_cases kept n = elim (cases_Bool (is_kept kept n)) [
  | inl h ↦ inl (kept_listed kept n h)
  | inr h ↦ inr (λ c. false≢true (sym h ∙ listed_kept kept n c))
]
