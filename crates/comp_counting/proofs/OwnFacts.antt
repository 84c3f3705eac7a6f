-- The coefficients of the facts that the nodes add, and how many facts say that moves weren't taken.
use Rattle.std.proofs.Common.{◌≡◌, ◌≢◌, ◌∙◌, ℕ, suc, ◌+◌, ◌<◌, Bool, true, false, List, [], ◌∷◌, ◌++◌, length, refl, ap, arith}
use Rattle.std.specs.Prelude.{ℤ, pos, negsuc, neg_ℤ, ◌+ℤ◌, ◌*ℤ◌, if◌then◌else◌, ◌==◌, All}
use Rattle.std.specs.List.{range_with_len}
use Rattle.std.proofs.Math.IntN.{*ℤ-zero}
use Rattle.std.proofs.lemmas.List.Elements.{All-head, All-tail}
use Rattle.pop_leaf.specs.LeafModel.{LeafModel}
use Rattle.cert_base.specs.FactsAndCases.{indicator, not_twice, places_from}
use Rattle.cert_base.specs.WeightedSums.{coefficient, total}
use Rattle.cert_base.proofs.FlowSums.{total-same, total-none_range, total-one}
use Rattle.comp_trees.proofs.LeaderEnds.{shifted}
use Rattle.std.proofs.lemmas.Bool.{ne_eqb}

pub not_twice-at : (leaf : LeafModel) (q x : ℕ) → coefficient x (not_twice leaf q) ≡ neg_ℤ (indicator ((length leaf.inputs + q) == x))
not_twice-at leaf q x = go ((length leaf.inputs + q) == x)
  where
    go : (b : Bool) → ((if b then negsuc 0 else pos 0) +ℤ pos 0) ≡ neg_ℤ (if b then pos 1 else pos 0)
    go true = refl
    go false = refl

-- ---- places

pub places-none : {A : Type 0} (k : ℕ) (test : A → Bool) (xs ys : List A) → All (λ x. test x ≡ false) xs → places_from k test (xs ++ ys) ≡ places_from (k + length xs) test ys
places-none k test [] ys all = ap (λ n. places_from n test ys) (let e : k ≡ k + 0 = omega arith in e)
places-none k test (x ∷ xs) ys all =
    let here = All-head (λ x. test x ≡ false) x xs all in
    let rest = places-none (k + 1) test xs ys (All-tail (λ x. test x ≡ false) x xs all) in
    let shift : places_from (k + 1 + length xs) test ys ≡ places_from (k + suc (length xs)) test ys = ap (λ n. places_from n test ys) (let e : k + 1 + length xs ≡ k + suc (length xs) = omega arith in e) in
    rw here (rest ∙ shift)

-- ---- totals over the states

-- of the count of a state, and of another variable
pub total-counts : (n : ℕ) (w : ℕ → ℤ) (m z : ℕ) → z < m → total (λ q. w q *ℤ indicator ((n + q) == (n + z))) (range_with_len 0 m) ≡ w z
total-counts n w m z l =
    total-same (λ q. w q *ℤ indicator ((n + q) == (n + z))) (λ q. w q *ℤ indicator (z == q)) (range_with_len 0 m) (λ q. ap (λ c. w q *ℤ indicator c) (shifted n q z))
    ∙ total-one w m z l

pub total-others : (n : ℕ) (w : ℕ → ℤ) (m x : ℕ) → ((q : ℕ) → q < m → (n + q) ≢ x) → total (λ q. w q *ℤ indicator ((n + q) == x)) (range_with_len 0 m) ≡ pos 0
total-others n w m x ne =
    total-none_range (λ q. w q *ℤ indicator ((n + q) == x)) 0 m (λ q l. ap (λ c. w q *ℤ indicator c) (ne_eqb (n + q) x (ne q (omega arith))) ∙ *ℤ-zero (w q))
