-- A long number's digits are those of its thousands, and its last three.
use Rattle.std.proofs.Common.{◌≡◌, ℕ, ◌+◌, ◌/◌, ◌%◌, ◌^◌, ◌<◌, ◌≤◌, List, [], ◌∷◌, ◌++◌, ap, ◌∙◌, arith}
use Rattle.std.proofs.lemmas.Fmt.{decimal_step}
use Rattle.std.specs.Prelude.{decimal}
use mathlib.Core.List.{append_assoc}
use Rattle.base_lines.specs.Places.{three_digits}

pub decimal_parts : (n : ℕ) → 1000 ≤ n → n < 2 ^ 32 → decimal n ≡ decimal (n / 1000) ++ three_digits (n % 1000)
decimal_parts n long fits =
    let tens : ℕ = n / 10 in
    let hundreds : ℕ = n / 10 / 10 in
    let thousands : n / 10 / 10 / 10 ≡ n / 1000 = omega arith in
    let first : 48 + hundreds % 10 ≡ 48 + n % 1000 / 100 = omega arith in
    let second : 48 + tens % 10 ≡ 48 + n % 1000 / 10 % 10 = omega arith in
    let third : 48 + n % 10 ≡ 48 + n % 1000 % 10 = omega arith in
    let steps : decimal n ≡ ((decimal (n / 10 / 10 / 10) ++ (48 + hundreds % 10) ∷ []) ++ (48 + tens % 10) ∷ []) ++ (48 + n % 10) ∷ [] =
    decimal_step n (omega arith) (omega arith)
    ∙ ap (λ (l : List ℕ). l ++ (48 + n % 10) ∷ []) (decimal_step tens (omega arith) (omega arith)
    ∙ ap (λ (l : List ℕ). l ++ (48 + tens % 10) ∷ []) (decimal_step hundreds (omega arith) (omega arith))) in
    steps
    ∙ ap (λ (l : List ℕ). l ++ (48 + n % 10) ∷ []) (append_assoc (decimal (n / 10 / 10 / 10)) ((48 + hundreds % 10) ∷ []) ((48 + tens % 10) ∷ []))
    ∙ append_assoc (decimal (n / 10 / 10 / 10)) ((48 + hundreds % 10) ∷ (48 + tens % 10) ∷ []) ((48 + n % 10) ∷ [])
    ∙ (λ i. decimal (thousands i) ++ first i ∷ second i ∷ third i ∷ [])
