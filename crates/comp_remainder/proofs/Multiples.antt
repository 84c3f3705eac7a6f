-- Remainders and multiples of a modulus.
use Rattle.std.proofs.Common.{◌≡◌, ◌≢◌, ◌⊎◌, inl, inr, ℕ, ◌+◌, ◌-◌, ◌*◌, ◌/◌, ◌%◌, ◌<◌, ◌≤◌, true, false, ap, ◌∙◌, arith}
use Rattle.std.specs.Prelude.{ℤ, pos, negsuc, neg_ℤ, ◌+ℤ◌, ◌-ℤ◌, ◌==◌}
use Rattle.std.proofs.lemmas.Int.{ints}
use Rattle.std.proofs.lemmas.Bool.{eq-eqb, ne_eqb, cases_lt}
use Rattle.std.proofs.Math.Nat.{mul-mod_left, mod-add-div', mod-lt, mod-eq_of_lt, add-mul, one-mul}
use Rattle.pres_ast.specs.PredicateValue.{is_multiple}
use Rattle.comp_remainder.specs.RemainderLeaf.{residue_of}
use Rattle.base_laws.proofs.Numbers.{size-neg}

pub divides-multiple : (m k : ℕ) → is_multiple m (pos (k * m)) ≡ true
divides-multiple m k = eq-eqb _ 0 (mul-mod_left k m)

pub divides-neg : (m n : ℕ) → is_multiple m (neg_ℤ (pos n)) ≡ is_multiple m (pos n)
divides-neg m n = ap (λ k. (k % m) == 0) (size-neg n)

-- a number and its remainder
pub residue-even : (m : ℕ) (a : ℤ) → 0 < m → is_multiple m (pos (residue_of m a) -ℤ a) ≡ true
residue-even m (pos k) l =
    let e = mod-add-div' k m in
    let f : (pos (k % m) -ℤ pos k) ≡ neg_ℤ (pos (k / m * m)) = omega (arith, ints, e) in
    ap (is_multiple m) f ∙ divides-neg m (k / m * m) ∙ divides-multiple m (k / m)
residue-even m (negsuc k) l =
    let e = mod-add-div' k m in
    let low = mod-lt k l in
    let g = add-mul 1 (k / m) m in
    let h = one-mul m in
    let f : (pos (m - 1 - k % m) -ℤ negsuc k) ≡ pos ((1 + k / m) * m) = omega (arith, ints, e, low, g, h) in
    ap (is_multiple m) f ∙ divides-multiple m (1 + k / m)

-- a sum and its remainder
pub sum-even : (m p q : ℕ) → is_multiple m ((pos ((p + q) % m) +ℤ pos 0) -ℤ (pos p +ℤ pos q)) ≡ true
sum-even m p q =
    let e = mod-add-div' (p + q) m in
    let f : ((pos ((p + q) % m) +ℤ pos 0) -ℤ (pos p +ℤ pos q)) ≡ neg_ℤ (pos ((p + q) / m * m)) = omega (arith, ints, e) in
    ap (is_multiple m) f ∙ divides-neg m ((p + q) / m * m) ∙ divides-multiple m ((p + q) / m)

-- two different remainders don't differ by a multiple
short : (m d : ℕ) → 0 < d → d < m → is_multiple m (pos d) ≡ false
short m d l k = ne_eqb (d % m) 0 (λ e. let f = mod-eq_of_lt k in omega (arith, e, f))

pub differ-odd : (m r p : ℕ) → r < m → p < m → r ≢ p → is_multiple m (pos r -ℤ pos p) ≡ false
differ-odd m r p l k ne = go (cases_lt r p)
  where
    go : (r < p) ⊎ (p ≤ r) → is_multiple m (pos r -ℤ pos p) ≡ false
    go (inl h) = ap (is_multiple m) (let f : (pos r -ℤ pos p) ≡ neg_ℤ (pos (p - r)) = omega (arith, ints) in f) ∙ divides-neg m (p - r) ∙ short m (p - r) (omega arith) (omega arith)
    go (inr h) = ap (is_multiple m) (let f : (pos r -ℤ pos p) ≡ pos (r - p) = omega (arith, ints) in f) ∙ short m (r - p) (omega arith) (omega arith)
