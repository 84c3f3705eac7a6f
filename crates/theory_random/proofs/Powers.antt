-- Powers, and Bernoulli's inequality.
use Rattle.std.proofs.Common.{◌≡◌, ℕ, zero, suc, ◌+◌, ◌*◌, ◌^◌, ◌<◌, ◌≤◌, ap, sym, subst, ◌∙◌, arith}
use Rattle.std.proofs.Math.Nat as nat
use Rattle.std.proofs.lemmas.Nat.{pow-add}

pub pow_many : (n m w : ℕ) → n ^ (m * w) ≡ (n ^ w) ^ m
pow_many n zero w = ap (λ k. n ^ k) (let e : 0 * w ≡ 0 = omega arith in e) ∙ nat.pow-zero n ∙ sym (nat.pow-zero (n ^ w))
pow_many n (suc m) w =
    ap (λ k. n ^ k) (let e : suc m * w ≡ m * w + w = omega arith in e)
    ∙ pow-add n (m * w) w
    ∙ ap (λ k. k * n ^ w) (pow_many n m w)
    ∙ sym (nat.pow-suc (n ^ w) m)

-- Bernoulli: (1 + m / x) <= (1 + 1 / y) ^ m, with x = y + 1
bernoulli : (y m : ℕ) → (m + suc y) * y ^ m ≤ suc y * suc y ^ m
bernoulli y zero =
    subst (λ k. (0 + suc y) * k ≤ suc y * suc y ^ 0) (sym (nat.pow-zero y)) (subst (λ k. (0 + suc y) * 1 ≤ suc y * k) (sym (nat.pow-zero (suc y))) (omega arith))
bernoulli y (suc m) =
    let p = y ^ m in
    let q = suc y ^ m in
    let before : (m + suc y) * p ≤ suc y * q = bernoulli y m in
    let scaled : suc y * ((m + suc y) * p) ≤ suc y * (suc y * q) = nat.mul-le-mul_left (suc y) before in
    let less : (suc m + suc y) * y ≤ suc y * (m + suc y) = shorter y m in
    let times : (suc m + suc y) * y * p ≤ suc y * (m + suc y) * p = nat.mul-le-mul_right p less in
    let left : (suc m + suc y) * y ^ suc m ≡ (suc m + suc y) * y * p = ap (λ k. (suc m + suc y) * k) (nat.pow-succ' y m) ∙ sym (nat.mul_assoc (suc m + suc y) y p) in
    let middle : suc y * (m + suc y) * p ≡ suc y * ((m + suc y) * p) = nat.mul_assoc (suc y) (m + suc y) p in
    let right : suc y * suc y ^ suc m ≡ suc y * (suc y * q) = ap (λ k. suc y * k) (nat.pow-succ' (suc y) m) in
    subst (λ k. k ≤ suc y * suc y ^ suc m) (sym left) (subst (λ k. (suc m + suc y) * y * p ≤ k) (sym right) (nat.le_trans times (subst (λ k. k ≤ suc y * (suc y * q)) (sym middle) scaled)))
  where
    shorter : (y m : ℕ) → (suc m + suc y) * y ≤ suc y * (m + suc y)
    shorter y m =
        let a : (suc m + suc y) * y ≡ m * y + (y * y + (y + y)) = nat.add-mul (suc m) (suc y) y ∙ (let e : suc m * y + suc y * y ≡ m * y + (y * y + (y + y)) = omega arith in e) in
        let b : suc y * (m + suc y) ≡ m * y + (y * y + (y + y)) + (m + 1) = nat.mul-add (suc y) m (suc y) ∙ (let e : suc y * m + suc y * suc y ≡ m * y + (y * y + (y + y)) + (m + 1) = grown y m in e) in
        omega (arith, a, b)
      where
        grown : (y m : ℕ) → suc y * m + suc y * suc y ≡ m * y + (y * y + (y + y)) + (m + 1)
        grown y m =
            let s : suc y * suc y ≡ y * y + (y + y) + 1 = nat.mul-suc (suc y) y ∙ (let e : suc y * y + suc y ≡ y * y + (y + y) + 1 = omega arith in e) in
            let t : suc y * m ≡ m * y + m = nat.mul_comm (suc y) m ∙ nat.mul-suc m y in
            omega (arith, s, t)

-- (1 - 1 / x) ^ (e * x) < 1 / e, with x = y + 1
pub pow_vanishes : (e y : ℕ) → e * y ^ (e * suc y) < suc y ^ (e * suc y)
pow_vanishes e y =
    let m = e * suc y in
    let b : (m + suc y) * y ^ m ≤ suc y * suc y ^ m = bernoulli y m in
    let left : (m + suc y) * y ^ m ≡ suc y * (suc e * y ^ m) = ap (λ k. k * y ^ m) (let e : e * suc y + suc y ≡ suc e * suc y = omega arith in e) ∙ ap (λ k. k * y ^ m) (nat.mul_comm (suc e) (suc y)) ∙ nat.mul_assoc (suc y) (suc e) (y ^ m) in
    let least : suc e * y ^ m ≤ suc y ^ m = nat.le_of_mul-le-mul_left (subst (λ k. k ≤ suc y * suc y ^ m) left b) (omega arith) in
    let one = nat.one-le-pow m (suc y) (omega arith) in
    go (y ^ m) (suc y ^ m) least one
  where
    go : (p q : ℕ) → suc e * p ≤ q → 1 ≤ q → e * p < q
    go zero q l one = let z : e * 0 ≡ 0 = nat.mul-zero e in omega (arith, z, one)
    go (suc p) q l one = omega (arith, l)
