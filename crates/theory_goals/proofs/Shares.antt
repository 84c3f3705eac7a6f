-- Sums of shares that fall by the same factor from window to window.
use Rattle.std.proofs.Common.{◌≡◌, ℕ, zero, suc, ◌+◌, ◌*◌, ◌/◌, ◌%◌, ◌^◌, ◌<◌, ◌≤◌, refl, ap, sym, subst, ◌∙◌, arith}
use Rattle.std.proofs.Math.Nat as nat
use Rattle.std.proofs.lemmas.Nat.{pow-add, mod-mul-add, div-mul-add, div-add-mod'}
use Rattle.theory_random.proofs.Powers.{pow_many}
use Rattle.theory_goals.specs.AlmostSurely.{sum_of_shares}

pub no_shares : (n l : ℕ) → sum_of_shares (λ i. 0) n l ≡ 0
no_shares n zero = refl
no_shares n (suc l) = ap (λ k. (k + 0) * n) (no_shares n l) ∙ (let e : (0 + 0) * n ≡ 0 = omega arith in e)

module _ (n w y : ℕ) (power_is : suc y ≡ n ^ w) (some : 0 < w) where
  -- after m windows of w moves and d moves more
  pub few : ℕ → ℕ
  few i = y ^ (i / w) * n ^ (i % w)

  few_at : (m d : ℕ) → d < w → few (m * w + d) ≡ y ^ m * n ^ d
  unfolding few
  few_at m d l = ap (λ k. y ^ k * n ^ ((m * w + d) % w)) (div-mul-add m w d l) ∙ ap (λ k. y ^ m * n ^ k) (mod-mul-add m w d l)

  pub few_is : (i : ℕ) → y ^ (i / w) * n ^ (i % w) ≡ few i
  unfolding few
  few_is i = refl

  total : ℕ → ℕ
  total l = sum_of_shares few n l

  total_next : (l : ℕ) → total (suc l) ≡ (total l + few l) * n
  unfolding total
  total_next l = refl

  total_none : total 0 ≡ 0
  unfolding total
  total_none = refl

  one_more : (q a d p : ℕ) → (q * (a + d * p) + p * q) * n ≡ n * q * (a + suc d * p)
  one_more q a d p =
      let turned : p * q ≡ q * p = nat.mul_comm p q in
      let inner : q * (a + d * p) + q * p ≡ q * (a + d * p + p) = sym (nat.mul-add q (a + d * p) p) in
      let same : a + d * p + p ≡ a + suc d * p = omega arith in
      ap (λ k. (q * (a + d * p) + k) * n) turned
      ∙ ap (λ k. k * n) inner
      ∙ nat.mul_comm (q * (a + d * p + p)) n
      ∙ sym (nat.mul_assoc n q (a + d * p + p))
      ∙ ap (λ k. n * q * k) same

  -- within a window
  block : (m d : ℕ) → d ≤ w → total (m * w + d) ≡ n ^ d * (total (m * w) + d * y ^ m)
  block m zero l =
      ap total (let e : m * w + 0 ≡ m * w = omega arith in e)
      ∙ (let e : total (m * w) ≡ 1 * (total (m * w) + 0 * y ^ m) = omega arith in e)
      ∙ ap (λ k. k * (total (m * w) + 0 * y ^ m)) (sym (nat.pow-zero n))
  block m (suc d) l =
      ap total (let e : m * w + suc d ≡ suc (m * w + d) = omega arith in e)
      ∙ total_next (m * w + d)
      ∙ ap (λ k. (k + few (m * w + d)) * n) (block m d (omega (arith, l)))
      ∙ ap (λ k. (n ^ d * (total (m * w) + d * y ^ m) + k) * n) (few_at m d (omega (arith, l)))
      ∙ one_more (n ^ d) (total (m * w)) d (y ^ m)
      ∙ ap (λ k. k * (total (m * w) + suc d * y ^ m)) (sym (nat.pow-succ' n d))

  -- the bound
  most : ℕ
  most = w * suc y

  one_window : (a p c : ℕ) → a + most * p ≡ most * c → suc y * (a + w * p) + most * (y * p) ≡ most * (suc y * c)
  unfolding most
  one_window a p c before =
      let first : w * suc y * (y * p) ≡ suc y * (w * (y * p)) = ap (λ k. k * (y * p)) (nat.mul_comm w (suc y)) ∙ nat.mul_assoc (suc y) w (y * p) in
      let joined : w * p + w * (y * p) ≡ w * suc y * p = sym (nat.mul-add w p (y * p)) ∙ ap (λ k. w * k) (let e : p + y * p ≡ suc y * p = omega arith in e) ∙ sym (nat.mul_assoc w (suc y) p) in
      let last : suc y * (w * suc y * c) ≡ w * suc y * (suc y * c) = nat.mul_left_comm (suc y) (w * suc y) c in
      ap (λ k. suc y * (a + w * p) + k) first
      ∙ sym (nat.mul-add (suc y) (a + w * p) (w * (y * p)))
      ∙ ap (λ k. suc y * k) (let e : a + w * p + w * (y * p) ≡ a + w * suc y * p = omega (arith, joined) in e)
      ∙ ap (λ k. suc y * k) before
      ∙ last

  -- after whole windows
  windows : (m : ℕ) → total (m * w) + most * y ^ m ≡ most * suc y ^ m
  windows zero =
      ap (λ k. total k + most * y ^ 0) (let e : 0 * w ≡ 0 = omega arith in e)
      ∙ ap (λ k. k + most * y ^ 0) total_none
      ∙ (let e : 0 + most * y ^ 0 ≡ most * y ^ 0 = omega arith in e)
      ∙ ap (λ k. most * k) (nat.pow-zero y ∙ sym (nat.pow-zero (suc y)))
  windows (suc m) =
      let step : total (suc m * w) ≡ suc y * (total (m * w) + w * y ^ m) = ap total (let e : suc m * w ≡ m * w + w = omega arith in e) ∙ block m w (omega arith) ∙ ap (λ k. k * (total (m * w) + w * y ^ m)) (sym power_is) in
      ap (λ k. k + most * y ^ suc m) step
      ∙ ap (λ k. suc y * (total (m * w) + w * y ^ m) + most * k) (nat.pow-succ' y m)
      ∙ one_window (total (m * w)) (y ^ m) (suc y ^ m) (windows m)
      ∙ ap (λ k. most * k) (sym (nat.pow-succ' (suc y) m))

  at_most : (m d : ℕ) → d < w → total (m * w + d) ≤ most * n ^ (m * w + d)
  unfolding most
  at_most m d l =
      let p = y ^ m in
      let q = n ^ d in
      let c = suc y ^ m in
      let low : d ≤ most = under in
      let times : d * p ≤ most * p = nat.mul-le-mul_right p low in
      let whole = windows m in
      let less : total (m * w) + d * p ≤ most * c = omega (arith, times, whole) in
      let scaled : q * (total (m * w) + d * p) ≤ q * (most * c) = nat.mul-le-mul_left q less in
      let power : n ^ (m * w + d) ≡ c * q = pow-add n (m * w) d ∙ ap (λ k. k * q) (pow_many n m w ∙ ap (λ k. k ^ m) (sym power_is)) in
      let turned : q * (most * c) ≡ most * n ^ (m * w + d) = nat.mul_left_comm q most c ∙ ap (λ k. most * k) (nat.mul_comm q c ∙ sym power) in
      let is = block m d (omega (arith, l)) in
      subst (λ k. k ≤ most * n ^ (m * w + d)) (sym is) (subst (λ k. q * (total (m * w) + d * p) ≤ k) turned scaled)
    where
      under : d ≤ most
      under = grown (suc y) (omega arith)
        where
          grown : (x : ℕ) → 1 ≤ x → d ≤ w * x
          grown x one = let wide : w * 1 ≤ w * x = nat.mul-le-mul_left w one in omega (arith, wide, l)

  pub shares_sum : (l : ℕ) → sum_of_shares few n l ≤ w * n ^ w * n ^ l
  unfolding total most
  shares_sum l =
      let whole = div-add-mod' l w in
      let low = nat.mod-lt l some in
      subst (λ k. sum_of_shares few n l ≤ w * k * n ^ l) power_is
      (subst (λ k. sum_of_shares few n k ≤ w * suc y * n ^ k) whole (at_most (l / w) (l % w) low))
