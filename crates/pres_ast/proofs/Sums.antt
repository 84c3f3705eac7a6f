-- The sum of products, product by product from the left.
use Rattle.std.proofs.Common.{◌≡◌, ℕ, ◌+◌, ◌<◌, List, length, get_or, drop, refl, arith, ℤ, pos, ◌+ℤ◌, ◌*ℤ◌}
use Rattle.std.proofs.lemmas.List.{drop_more}
use Rattle.std.proofs.lemmas.Int.{ints}
use Rattle.pres_ast.specs.PredicateValue.{weighted_sum}

pub sum_step : (t : ℤ) (coefs : List ℤ) (v : List ℕ) (i : ℕ) (a : ℤ) (n : ℕ) → i < length coefs → i < length v
    → a ≡ get_or coefs i a → n ≡ get_or v i n
    → (t +ℤ (a *ℤ pos n)) +ℤ weighted_sum (drop (i + 1) coefs) (drop (i + 1) v) ≡ t +ℤ weighted_sum (drop i coefs) (drop i v)
sum_step t coefs v i a n p q e f =
    let whole : weighted_sum (drop i coefs) (drop i v) ≡ (a *ℤ pos n) +ℤ weighted_sum (drop (i + 1) coefs) (drop (i + 1) v) =
    rw (drop_more coefs i a p, drop_more v i n q, ← e, ← f) refl in
    omega (arith, ints, whole)
