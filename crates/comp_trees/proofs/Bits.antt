-- Bits of numbers.
use Rattle.std.proofs.Common.{◌≡◌, ◌⊎◌, inl, inr, ◌∙◌, ℕ, zero, suc, pow-add, ◌+◌, ◌-◌, ◌*◌, ◌^◌, ◌%◌, ◌/◌, ◌<◌, ◌≤◌, true, false, refl, ap, sym, arith}
use Rattle.std.specs.Prelude.{if◌then◌else◌}
use Rattle.std.proofs.lemmas.Bool.{le-leb, lt-leb}
use Rattle.std.proofs.lemmas.Nat.{mod-pow-add, mod_low, pow_pos, mod_below}
use Rattle.std.proofs.Math.Nat.{two-pow-succ, pow-le-pow_right, mod-eq_of_lt}
use Rattle.comp_trees.specs.declared.range.TheConstants.{RANGE_LIMIT}
use Rattle.comp_trees.specs.Bits.{has_bit}

pub double : (i : ℕ) → 2 ^ (i + 1) ≡ 2 ^ i + 2 ^ i
double i = ap (λ m. 2 ^ m) (let e : i + 1 ≡ suc i = omega arith in e) ∙ two-pow-succ i

pub some_power : (i : ℕ) → 0 < 2 ^ i
some_power i = pow_pos i

pub power-le : (i j : ℕ) → i ≤ j → 2 ^ i ≤ 2 ^ j
power-le i j l = pow-le-pow_right (let some : 0 < 2 = omega arith in some) l

-- a bit is set or not
bit_cases : (d : ℕ) → d < 2 → (d ≡ 0) ⊎ (d ≡ 1)
bit_cases zero l = inl refl
bit_cases (suc zero) l = inr refl
bit_cases (suc (suc d)) l = absurd (omega arith)

-- the last i + 1 bits are the last i and bit i
pub more_bits : (n i : ℕ) → n % 2 ^ (i + 1) ≡ n % 2 ^ i + (if has_bit n i then 2 ^ i else 0)
more_bits n i = go (bit_cases d below)
  where
    d : ℕ
    d = n / 2 ^ i % 2 ^ 1

    below : d < 2
    below = mod_below (n / 2 ^ i) (2 ^ 1) (omega arith)

    split : n % 2 ^ (i + 1) ≡ d * 2 ^ i + n % 2 ^ i
    split = ap (λ m. n % 2 ^ m) (let e : i + 1 ≡ 1 + i = omega arith in e) ∙ mod-pow-add n 1 i

    less : n % 2 ^ i < 2 ^ i
    less = mod_below n (2 ^ i) (some_power i)

    go : (d ≡ 0) ⊎ (d ≡ 1) → n % 2 ^ (i + 1) ≡ n % 2 ^ i + (if has_bit n i then 2 ^ i else 0)
    go (inl e) =
        let none : d * 2 ^ i ≡ 0 = ap (λ m. m * 2 ^ i) e ∙ (let f : 0 * 2 ^ i ≡ 0 = omega arith in f) in
        let unset : has_bit n i ≡ false = lt-leb (2 ^ i) (n % 2 ^ (i + 1)) (omega (arith, split, none, less)) in
        rw unset (omega (arith, split, none))
    go (inr e) =
        let one : d * 2 ^ i ≡ 2 ^ i = ap (λ m. m * 2 ^ i) e ∙ (let f : 1 * 2 ^ i ≡ 2 ^ i = omega arith in f) in
        let set : has_bit n i ≡ true = le-leb (2 ^ i) (n % 2 ^ (i + 1)) (omega (arith, split, one)) in
        rw set (omega (arith, split, one))

pub no_bits : (n : ℕ) → n % 2 ^ 0 ≡ 0
no_bits n = let l = mod_below n (2 ^ 0) (omega arith) in omega (arith, l)

pub all_bits : (n k : ℕ) → n < 2 ^ k → n % 2 ^ k ≡ n
all_bits n k l = mod-eq_of_lt l

less_one : (a b : ℕ) → 0 < a → (a - 1) * b + b ≡ a * b
less_one zero b l = absurd (omega arith)
less_one (suc a) b l =
    let e : suc a - 1 ≡ a = omega arith in
    ap (λ m. m * b + b) e ∙ (let f : a * b + b ≡ suc a * b = grind arith in f)

-- the last i bits of what is owed, where 2^i is enough
pub owed-paid : (k i n : ℕ) → i ≤ k → n + 1 ≤ 2 ^ i → (2 ^ k - (n + 1)) % 2 ^ i + (n + 1) ≡ 2 ^ i
owed-paid k i n l m =
    let j = k - i in
    let whole : 2 ^ j * 2 ^ i ≡ 2 ^ k = sym (pow-add 2 j i) ∙ ap (λ m. 2 ^ m) (let e : j + i ≡ k = omega arith in e) in
    let some = some_power j in
    let product : (2 ^ j - 1) * 2 ^ i + 2 ^ i ≡ 2 ^ j * 2 ^ i = less_one (2 ^ j) (2 ^ i) some in
    let le = power-le i k l in
    let low = mod_low (2 ^ j - 1) i (2 ^ i - (n + 1)) (omega (arith, some_power i)) in
    let same : (2 ^ j - 1) * 2 ^ i + (2 ^ i - (n + 1)) ≡ 2 ^ k - (n + 1) = omega (arith, whole, product, m, le) in
    let e = ap (λ x. x % 2 ^ i) same in
    omega (arith, e, low, m)

pub power_small : (i : ℕ) → i ≤ RANGE_LIMIT + 1 → 2 ^ i ≤ 2 ^ (RANGE_LIMIT + 1)
power_small i l = power-le i (RANGE_LIMIT + 1) l
