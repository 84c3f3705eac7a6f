-- Quotients by a kept inverse, and what they leave.
use Rattle.std.proofs.Common.{◌≡◌, ◌<◌, ◌≤◌, ◌+◌, ◌-◌, ◌*◌, ◌/◌, ◌%◌, ◌^◌, ℕ, ap, subst, sym, ◌∙◌, arith}
use Rattle.std.proofs.lemmas.Nat.{mul-le, mod-mul-add}

-- from an inverse that is at most one below its bound: the quotient is right, or one too small
near : (n d m r q s : ℕ) → m * d + r + 1 ≡ 2 ^ 64 → r < d → q * 2 ^ 64 + s ≡ n * m → s < 2 ^ 64 → n < 2 ^ 32
    → d < 2 ^ 32 → (q * d ≤ n) × (n ≤ q * d + d)
near n d m r q s whole low part small n_low d_low =
    let times_d : (q * 2 ^ 64 + s) * d ≡ n * m * d = ap (λ x. x * d) part in
    let times_n : n * (m * d + r + 1) ≡ n * 2 ^ 64 = ap (λ x. n * x) whole in
    let rest : s * d ≤ (2 ^ 64 - 1) * d = mul-le s d (2 ^ 64 - 1) d (omega arith) (omega arith) in
    let lost : n * (r + 1) ≤ (2 ^ 32 - 1) * d = mul-le n (r + 1) (2 ^ 32 - 1) d (omega arith) (omega arith) in
    (omega arith, omega arith)

pub near_quotient : (n d m : ℕ) → m ≡ (2 ^ 64 - 1) / d → n < 2 ^ 32 → 0 < d → d < 2 ^ 32
    → (n * m / 2 ^ 64 * d ≤ n) × (n ≤ n * m / 2 ^ 64 * d + d)
near_quotient n d m inverse n_low above d_low =
    let r : ℕ = (2 ^ 64 - 1) % d in
    let whole : m * d + r + 1 ≡ 2 ^ 64 = subst (λ m. m * d + r + 1 ≡ 2 ^ 64) (sym inverse) (omega arith) in
    near n d m r (n * m / 2 ^ 64) (n * m % 2 ^ 64) whole (omega arith) (omega arith) (omega arith) n_low d_low

rest_is : (n d q : ℕ) → q * d ≤ n → n - q * d < d → n - q * d ≡ n % d
rest_is n d q below low =
    let whole : q * d + (n - q * d) ≡ n = omega arith in
    sym (subst (λ x. x % d ≡ n - q * d) whole (mod-mul-add q d (n - q * d) low))

pub right_quotient : (n d m : ℕ) → m ≡ (2 ^ 64 - 1) / d → n < 2 ^ 32 → 0 < d → d < 2 ^ 32
    → n - n * m / 2 ^ 64 * d < d → n - n * m / 2 ^ 64 * d ≡ n % d
right_quotient n d m inverse n_low above d_low low =
    rest_is n d (n * m / 2 ^ 64) (near_quotient n d m inverse n_low above d_low).0 low

pub low_quotient : (n d m : ℕ) → m ≡ (2 ^ 64 - 1) / d → n < 2 ^ 32 → 0 < d → d < 2 ^ 32
    → d ≤ n - n * m / 2 ^ 64 * d → n - n * m / 2 ^ 64 * d - d ≡ n % d
low_quotient n d m inverse n_low above d_low high =
    let q : ℕ = n * m / 2 ^ 64 in
    let near = near_quotient n d m inverse n_low above d_low in
    let same : n - q * d - d ≡ n - (q + 1) * d = omega arith in
    same ∙ rest_is n d (q + 1) (omega arith) (omega arith)
