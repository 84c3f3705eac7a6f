-- Lanes by shifts.
use Rattle.std.proofs.Common.{◌≡◌, ℕ, zero, suc, ◌+◌, ◌-◌, ◌*◌, ◌/◌, ◌%◌, ◌^◌, ◌<◌, ◌≤◌, ap, sym, ◌∙◌, arith}
use Rattle.std.specs.Int.Bits.{bit_and}
use Rattle.std.proofs.Math.Nat.{pow-zero, pow-suc, pow-le-pow_right, div-eq_of_lt}
use Rattle.std.proofs.lemmas.Nat.{pow-add, and_mask, mul-add-lt, shl_whole, div-add-mod', mod_below, pow_pos}

pub lane_pow : (b i : ℕ) → 2 ^ (b * i) ≡ (2 ^ b) ^ i
lane_pow b zero = ap (λ n. 2 ^ n) (let s : b * 0 ≡ 0 = omega arith in s) ∙ sym (pow-zero (2 ^ b))
lane_pow b (suc i) =
    ap (λ n. 2 ^ n) (let s : b * suc i ≡ b * i + b = omega arith in s) ∙ pow-add 2 (b * i) b ∙ ap (λ p. p * 2 ^ b) (lane_pow b i) ∙ sym (pow-suc (2 ^ b) i)

pub masked : (b word i : ℕ) → bit_and (word / 2 ^ (b * i)) (2 ^ b - 1) ≡ word / (2 ^ b) ^ i % 2 ^ b
masked b word i = and_mask (word / 2 ^ (b * i)) b ∙ ap (λ p. word / p % 2 ^ b) (lane_pow b i)

pub shifted : (b state i : ℕ) → state < 2 ^ b → b * (i + 1) ≤ 64 → state * 2 ^ (b * i) % 2 ^ 64 ≡ state * (2 ^ b) ^ i
shifted b state i l m = shl_whole state b (b * i) 64 l (omega (arith, m)) ∙ ap (λ p. state * p) (lane_pow b i)

pub used : (base word state i : ℕ) → word < base ^ i → state < base → word + state * base ^ i < base ^ (i + 1)
used base word state i l m =
    let h : base ^ (i + 1) ≡ base ^ i * base = ap (λ n. base ^ n) (let s : i + 1 ≡ suc i = omega arith in s) ∙ pow-suc base i in
    omega (arith, mul-add-lt state (base ^ i) word base m l, h)

pub fits : (b i : ℕ) → b * i ≤ 64 → (2 ^ b) ^ i ≤ 2 ^ 64
fits b i l = rw (← lane_pow b i) (pow-le-pow_right {n = 2} (omega arith) l)

pub no_more : (b word n : ℕ) → word / 2 ^ (b * n) ≡ 0 → word < (2 ^ b) ^ n
no_more b word n e =
    let p : 0 < (2 ^ b) ^ n = rw (← lane_pow b n) (pow_pos (b * n)) in
    let d : word / (2 ^ b) ^ n ≡ 0 = ap (λ p. word / p) (sym (lane_pow b n)) ∙ e in
    let m : word / (2 ^ b) ^ n * (2 ^ b) ^ n ≡ 0 * (2 ^ b) ^ n = ap (λ q. q * (2 ^ b) ^ n) d in
    omega (arith, m, div-add-mod' word ((2 ^ b) ^ n), mod_below word ((2 ^ b) ^ n) p)

pub no_lane : (b word n : ℕ) → word < (2 ^ b) ^ n → word / 2 ^ (b * n) ≡ 0
no_lane b word n l = ap (λ p. word / p) (lane_pow b n) ∙ div-eq_of_lt l
