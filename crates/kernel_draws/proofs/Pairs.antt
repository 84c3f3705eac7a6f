-- A product over a power of two, from the parts of one factor; and the numbers of pairs.
use Rattle.std.specs.Prelude.{min}
use Rattle.std.proofs.Common.{◌≡◌, ℕ, ◌+◌, ◌-◌, ◌*◌, ◌/◌, ◌%◌, ◌<◌, ap, ◌∙◌, arith}
use Rattle.std.proofs.Math.Nat.{add-mul-div_right, add-mul-mod_self_right}
use Rattle.std.proofs.lemmas.Nat.{div-add-mod', same_from_place, mul-add-lt}
use Rattle.kernel_draws.specs.Uniform.{IsPair, number_of_pair, pair_count}

parts : (w x n m : ℕ) → x * (n * m) ≡ x * n % w * m + x * n / w * m * w
parts w x n m = let e = div-add-mod' (x * n) w in omega (arith, ap (λ k. k * m) e)

pub carried : (w x n m : ℕ) → 0 < w → x * (n * m) / w ≡ x * n / w * m + x * n % w * m / w
carried w x n m pos =
    let e = ap (λ k. k / w) (parts w x n m) ∙ add-mul-div_right (x * n % w * m) (x * n / w * m) pos in omega arith

pub rest_carried : (w x n m : ℕ) → x * (n * m) % w ≡ x * n % w * m % w
rest_carried w x n m = ap (λ k. k % w) (parts w x n m) ∙ add-mul-mod_self_right (x * n % w * m) (x * n / w * m) w

pub pair_below : (n : ℕ) (pair : ℕ × ℕ) → IsPair n pair → number_of_pair n pair < pair_count n
pair_below n pair is =
    let h = mul-add-lt pair.0 (n - 1) (pair.1 - min 1 (pair.1 - pair.0)) n is.1 (omega (arith, is.0, is.1, is.2)) in
    omega arith

pub pair_distinct : (n : ℕ) (one other : ℕ × ℕ) → IsPair n one → IsPair n other
    → number_of_pair n one ≡ number_of_pair n other → (one.0 ≡ other.0) × (one.1 ≡ other.1)
pair_distinct n one other p q e =
    let same = same_from_place one.0 (one.1 - min 1 (one.1 - one.0)) other.0 (other.1 - min 1 (other.1 - other.0))
    (n - 1) (omega (arith, p.0, p.1, p.2)) (omega (arith, q.0, q.1, q.2)) e in
    (same.0, omega (arith, same.0, same.1, p.0, q.0))
