-- Laws of numbers.
use Rattle.std.proofs.Common.{◌≡◌, ◌≢◌, ◌⊎◌, inl, inr, true, false, sym, ◌∙◌, eq-eqb, ne_eqb, ℕ, zero, suc, ◌+◌, ◌≤◌, refl, arith}
use Rattle.std.specs.Prelude.{ℤ, pos, neg_ℤ, ◌+ℤ◌, nat_abs, ◌==◌}
use Rattle.std.proofs.lemmas.Int.{ints}
use Rattle.std.proofs.lemmas.Bool.Decides.{eqb_tells}

-- what the test of two numbers says
abbrev pub Tells : ℕ → ℕ → Type 0
Tells m n = ((m == n) ≡ true) × (m ≡ n) ⊎ ((m == n) ≡ false) × (m ≢ n)

pub same_turned : (a b : ℕ) → (a == b) ≡ (b == a)
same_turned a b = elim (eqb_tells a b) [
  | inl h ↦ h.0 ∙ sym (eq-eqb b a (sym h.1))
  | inr h ↦ h.0 ∙ sym (ne_eqb b a (λ e. h.1 (sym e)))
]

-- the size of a sum is at most the sum of the sizes
pub size-add : (a b : ℤ) → nat_abs (a +ℤ b) ≤ nat_abs a + nat_abs b
size-add a b = omega (arith, ints)

pub size-neg : (n : ℕ) → nat_abs (neg_ℤ (pos n)) ≡ n
size-neg zero = refl
size-neg (suc n) = refl

-- how many pairs n things form, each with itself and those after it
abbrev pub triangle : ℕ → ℕ
triangle zero = 0
triangle (suc n) = suc n + triangle n

pub triangle-le : (n k : ℕ) → n ≤ k → triangle n ≤ triangle k
triangle-le zero k l = omega arith
triangle-le (suc n) zero l = absurd (omega arith)
triangle-le (suc n) (suc k) l = let e = triangle-le n k (omega arith) in omega (arith, e)
