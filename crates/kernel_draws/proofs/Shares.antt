-- A share, in two steps.
use Rattle.std.proofs.Common.{◌≡◌, ℕ, ◌+◌, ◌*◌, ◌/◌, ◌%◌, ◌<◌, ap, sym, ◌∙◌, arith, mod-eq_of_lt, div-lt_iff_lt-mul, mul-lt-mul_of_pos_right}
use Rattle.std.proofs.Math.Nat.{add-mul-div_right, mod-lt}
use Rattle.std.proofs.lemmas.Nat.{div-add-mod', div-mul-add}

pub in_steps : (w g a : ℕ) → 0 < a → g * (w * w) / a ≡ g * w / a * w + g * w % a * w / a
in_steps w g a p =
    let e = ap (λ n. n * w) (div-add-mod' (g * w) a) in
    let s : g * (w * w) ≡ g * w % a * w + g * w / a * w * a = omega (arith, e) in
    let d = ap (λ n. n / a) s ∙ add-mul-div_right (g * w % a * w) (g * w / a * w) p in omega arith

pub narrow : (w g a : ℕ) → g < a → a < w
    → g * w % (w * w) / a * w % (w * w) + g * w % (w * w) % a * w % (w * w) / a ≡ g * (w * w) / a
narrow w g a less fits =
    let pos : 0 < w = omega arith in
    let one : g * w % (w * w) ≡ g * w = mod-eq_of_lt (mul-lt-mul_of_pos_right {k = w} (omega arith) pos) in
    let below : g * w / a < w = (div-lt_iff_lt-mul {x = g * w} {y = w} (omega arith)).1 (omega (arith, mul-lt-mul_of_pos_right {k = w} less pos)) in
    let two : g * w / a * w % (w * w) ≡ g * w / a * w = mod-eq_of_lt (mul-lt-mul_of_pos_right {k = w} below pos) in
    let rest : g * w % a < a = mod-lt (g * w) (omega arith) in
    let three : g * w % a * w % (w * w) ≡ g * w % a * w = mod-eq_of_lt (mul-lt-mul_of_pos_right {k = w} (omega arith) pos) in
    rw (one, two, three) (sym (in_steps w g a (omega arith)))
