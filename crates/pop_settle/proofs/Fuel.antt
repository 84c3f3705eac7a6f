-- How many takes a layer may still make, by the weights of its agents.
use Rattle.std.proofs.Common.{◌≡◌, ℕ, ◌*◌, ◌<◌, ◌≤◌, List, length, ap, ◌∙◌, arith}
use Rattle.std.specs.Prelude.{ℤ, pos, negsuc, ◌+ℤ◌, ◌-ℤ◌, ◌*ℤ◌, ◌<ℤ◌, ◌≤ℤ◌, nat_abs, All}
use Rattle.std.proofs.Math.IntN.{pos-*ℤ-pos}
use Rattle.std.proofs.lemmas.Int.{ints}
use Rattle.cert_base.specs.ProofBound.{weights_spread}
use Rattle.cert_base.proofs.Integers.{add-mul}
use Rattle.cert_base.proofs.WeightBounds.{within, total-above, total-below}
use Rattle.cert_base.proofs.Weights.{total}

-- the weights of all agents, beyond the least that they may be
abbrev pub fuel : List ℤ → List ℕ → ℕ
fuel w states = nat_abs (total w states -ℤ ((within w).low *ℤ pos (length states)))

abs_falls : (x y : ℤ) → pos 0 ≤ℤ x → x <ℤ y → nat_abs x < nat_abs y
abs_falls (pos m) (pos n) l k = omega (arith, ints, k)
abs_falls (pos m) (negsuc n) l k = absurd (omega (arith, ints, k))
abs_falls (negsuc m) y l k = absurd (omega (arith, ints, l))

abs_most : (x : ℤ) (n : ℕ) → pos 0 ≤ℤ x → x ≤ℤ pos n → nat_abs x ≤ n
abs_most (pos m) n l k = omega (arith, ints, k)
abs_most (negsuc m) n l k = absurd (omega (arith, ints, l))

-- a lighter crowd has less
pub fuel_falls : (w : List ℤ) (before after : List ℕ) → total w after <ℤ total w before → length after ≡ length before → All (λ q. q < length w) after → fuel w after < fuel w before
fuel_falls w before after lighter size range =
    let low = (within w).low in
    let least = total-above w low after (within w).above range in
    let same : (low *ℤ pos (length after)) ≡ (low *ℤ pos (length before)) = ap (λ n. low *ℤ pos n) size in
    abs_falls (total w after -ℤ (low *ℤ pos (length after))) (total w before -ℤ (low *ℤ pos (length before))) (omega (arith, ints, least)) (omega (arith, ints, lighter, same))

-- it is at most the spread for each agent
pub fuel_most : (w : List ℤ) (states : List ℕ) → All (λ q. q < length w) states → fuel w states ≤ weights_spread w * length states
fuel_most w states range =
    let i = within w in
    let n = length states in
    let least = total-above w i.low states i.above range in
    let most = total-below w i.high states i.below range in
    let product : (i.high *ℤ pos n) ≡ ((i.low *ℤ pos n) +ℤ pos (weights_spread w * n)) = ap (λ z. z *ℤ pos n) i.apart ∙ add-mul i.low (pos (weights_spread w)) (pos n) ∙ ap (λ z. (i.low *ℤ pos n) +ℤ z) (pos-*ℤ-pos (weights_spread w) n) in
    abs_most (total w states -ℤ (i.low *ℤ pos n)) (weights_spread w * n) (omega (arith, ints, least)) (omega (arith, ints, most, product))
