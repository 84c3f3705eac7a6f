-- A product by halves of its factors.
use Rattle.std.proofs.Common.{◌≡◌, ℕ, ◌+◌, ◌*◌, ◌/◌, ◌%◌, ◌<◌, ap, sym, ◌∙◌, arith}
use Rattle.std.proofs.Math.Nat.{add-mul-div_right, div-div-eq-div-mul}
use Rattle.std.proofs.lemmas.Nat.{div-add-mod'}

-- of the parts' products, what is above w times w
abbrev pub halves : ℕ → ℕ → ℕ → ℕ → ℕ → ℕ
halves w ah al bh bl =
    ah * bh + ah * bl / w + al * bh / w + (al * bl / w + ah * bl % w + al * bh % w) / w

spread : (w ah al bh bl : ℕ) → (ah * w + al) * (bh * w + bl) ≡ al * bl + (ah * bh * w + ah * bl + al * bh) * w
spread w ah al bh bl = grind arith

gathered : (w ah al bh bl : ℕ) → al * bl / w + (ah * bh * w + ah * bl + al * bh)
    ≡ (al * bl / w + ah * bl % w + al * bh % w) + (ah * bh + ah * bl / w + al * bh / w) * w
gathered w ah al bh bl = omega (arith, div-add-mod' (ah * bl) w, div-add-mod' (al * bh) w)

pub parted : (w ah al bh bl : ℕ) → 0 < w → (ah * w + al) * (bh * w + bl) / (w * w) ≡ halves w ah al bh bl
parted w ah al bh bl p =
    let one = ap (λ n. n / w) (spread w ah al bh bl)
    ∙ add-mul-div_right (al * bl) (ah * bh * w + ah * bl + al * bh) p in
    let two = ap (λ n. n / w) (gathered w ah al bh bl)
    ∙ add-mul-div_right (al * bl / w + ah * bl % w + al * bh % w) (ah * bh + ah * bl / w + al * bh / w) p in
    let all = sym (div-div-eq-div-mul ((ah * w + al) * (bh * w + bl)) w w) ∙ ap (λ n. n / w) one ∙ two in
    omega arith

pub by_halves : (w a b : ℕ) → 0 < w → a * b / (w * w) ≡ halves w (a / w) (a % w) (b / w) (b % w)
by_halves w a b p =
    let e : a * b ≡ (a / w * w + a % w) * (b / w * w + b % w) =
    ap (λ n. n * b) (sym (div-add-mod' a w)) ∙ ap (λ n. (a / w * w + a % w) * n) (sym (div-add-mod' b w)) in
    ap (λ n. n / (w * w)) e ∙ parted w (a / w) (a % w) (b / w) (b % w) p
