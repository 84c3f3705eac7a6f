-- The words of a number stand in a row.
use Rattle.std.proofs.Common.{◌≡◌, ℕ, ◌+◌, ◌-◌, ◌*◌, ◌/◌, ◌%◌, ◌<◌, ◌≤◌, ◌↔◌, ap, sym, ◌∙◌, arith, div-lt_iff_lt-mul, le-div_iff_mul-le, mul-le-mul_right}
use Rattle.std.proofs.Math.Nat.{add-mul-div_right, mod-lt}
use Rattle.std.proofs.lemmas.Nat.{div-add-mod', div-mul-add, mod-mul-add}

-- the first word of the number k
abbrev pub first_of : ℕ → ℕ → ℕ → ℕ
first_of w s k = (k * w + w % s + (s - 1)) / s

-- the first word of the next one
abbrev pub end_of : ℕ → ℕ → ℕ → ℕ
end_of w s k = (k * w + w + (s - 1)) / s

pub row : (w s k : ℕ) → 0 < s → first_of w s k + w / s ≡ end_of w s k
row w s k p =
    let e = div-add-mod' w s in
    let g : k * w + w + (s - 1) ≡ (k * w + w % s + (s - 1)) + w / s * s = omega arith in
    sym (add-mul-div_right (k * w + w % s + (s - 1)) (w / s) p) ∙ ap (λ n. n / s) (sym g)

pub from_first : (s a x : ℕ) → 0 < s → ((a + (s - 1)) / s ≤ x) ↔ (a ≤ x * s)
from_first s a x p = (
  λ h. let l = (div-lt_iff_lt-mul {x = a + (s - 1)} {y = x + 1} p).0 (omega arith) in omega arith,
  λ h. let l = (div-lt_iff_lt-mul {x = a + (s - 1)} {y = x + 1} p).1 (omega arith) in omega arith,
)

pub to_end : (s a x : ℕ) → 0 < s → (x < (a + (s - 1)) / s) ↔ (x * s < a)
to_end s a x p = (
  λ h. let l = (le-div_iff_mul-le {x = x + 1} {y = a + (s - 1)} p).0 (omega arith) in omega arith,
  λ h. let l = (le-div_iff_mul-le {x = x + 1} {y = a + (s - 1)} p).1 (omega arith) in omega arith,
)

-- the words of the number k are those from its first one to the next one's
pub in_row : (w s k x : ℕ) → 0 < s → 0 < w
    → ((w % s ≤ x * s % w) × (x * s / w ≡ k)) ↔ ((first_of w s k ≤ x) × (x < first_of w s k + w / s))
in_row w s k x p pw = (
  λ h. let e = div-add-mod' (x * s) w in
      let f : x * s / w * w ≡ k * w = ap (λ n. n * w) h.1 in
      let below : x * s % w < w = mod-lt (x * s) pw in
      let one : first_of w s k ≤ x = (from_first s (k * w + w % s) x p).1 (omega arith) in
      let two : x < end_of w s k = (to_end s (k * w + w) x p).1 (omega arith) in
      (one, omega (arith, row w s k p)),
  λ h. let low : k * w + w % s ≤ x * s = (from_first s (k * w + w % s) x p).0 h.0 in
      let high : x * s < k * w + w = (to_end s (k * w + w) x p).0 (omega (arith, h.1, row w s k p)) in
      let rest : x * s ≡ k * w + (x * s - k * w) = omega arith in
      let small : x * s - k * w < w = omega arith in
      let q : x * s / w ≡ k = ap (λ n. n / w) rest ∙ div-mul-add k w (x * s - k * w) small in
      let r : x * s % w ≡ x * s - k * w = ap (λ n. n % w) rest ∙ mod-mul-add k w (x * s - k * w) small in
      (omega arith, q),
)

pub ends_within : (w s k : ℕ) → k < s → 0 < s → first_of w s k + w / s ≤ w
ends_within w s k below p =
    let m = mul-le-mul_right w below in
    let l : end_of w s k < w + 1 = (div-lt_iff_lt-mul {x = k * w + w + (s - 1)} {y = w + 1} p).1 (omega arith) in
    omega (arith, row w s k p)
