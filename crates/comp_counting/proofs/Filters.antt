-- Lists whose items all pass a test, or none.
use Rattle.std.proofs.Common.{◌≡◌, ℕ, Bool, true, false, List, [], ◌∷◌, refl, ap, arith}
use Rattle.std.specs.Prelude.{if◌then◌else◌, filter, All, count_by}
use Rattle.std.proofs.lemmas.List.Elements.{All-head, All-tail}
use Rattle.comp_trees.proofs.HelperSums.{count-more}

pub filter-all : {A : Type 0} (test : A → Bool) (xs : List A) → All (λ x. test x ≡ true) xs → filter test xs ≡ xs
filter-all test [] all = refl
filter-all test (x ∷ xs) all =
    let here = All-head (λ x. test x ≡ true) x xs all in
    let rest = filter-all test xs (All-tail (λ x. test x ≡ true) x xs all) in
    rw here (ap (λ ys. x ∷ ys) rest)

pub count-none : (test : ℕ → Bool) (qs : List ℕ) → All (λ q. test q ≡ false) qs → count_by test qs ≡ 0
count-none test [] all = refl
count-none test (q ∷ qs) all =
    let here = ap {B = ℕ} (λ (b : Bool). if b then 1 else 0) (All-head (λ q. test q ≡ false) q qs all) in
    let rest = count-none test qs (All-tail (λ q. test q ≡ false) q qs all) in
    let more = count-more test q qs in
    omega (arith, here, rest, more)
