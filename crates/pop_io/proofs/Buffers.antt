-- What a source over memory gives into a buffer.
use Rattle.std.proofs.Common.{◌≡◌, ℕ, ◌+◌, ◌-◌, ◌≤◌, List, ◌++◌, length, take, drop, sym, ap, ◌∙◌, arith, length-drop}
use Rattle.std.proofs.lemmas.List.{take_at, take-append-drop, drop-drop, length-take}

-- what was left is what was given, and the rest
pub gave : (xs out given : List ℕ) (at count : ℕ) → at + count ≤ length xs → given ≡ take ((at + count) - at) (drop at xs)
    → drop at xs ≡ take count (given ++ drop count out) ++ drop (at + count) xs
gave xs out given at count within copied =
    let same : (at + count) - at ≡ count = omega arith in
    let prefix : given ≡ take count (drop at xs) = copied ∙ ap (λ n. take n (drop at xs)) same in
    let long : length given ≡ count = ap length prefix ∙ length-take count (drop at xs) ∙ omega (arith, length-drop at xs) in
    rw (take_at given (drop count out) count long, prefix, ← drop-drop count at xs) (sym (take-append-drop count (drop at xs)))
