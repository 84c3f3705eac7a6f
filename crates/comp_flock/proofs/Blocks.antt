-- Sums over ranges of states of what is counted for each, by the variable that they are looked up at.
use Rattle.std.proofs.Common.{◌≡◌, ◌≢◌, ◌⊎◌, ◌∙◌, inl, inr, ℕ, zero, suc, ◌+◌, ◌-◌, ◌<◌, ◌≤◌, List, length, refl, ap, arith}
use Rattle.std.specs.Prelude.{ℤ, pos, neg_ℤ, ◌*ℤ◌, ◌==◌}
use Rattle.std.specs.List.{range_with_len}
use Rattle.std.proofs.lemmas.Int.{ints}
use Rattle.std.proofs.Math.IntN.{*ℤ-zero}
use Rattle.std.proofs.lemmas.Bool.{ne_eqb, eq-eqb}
use Rattle.pop_leaf.specs.LeafModel.{LeafModel}
use Rattle.cert_base.specs.FactsAndCases.{indicator, absent_fact, not_twice}
use Rattle.cert_base.specs.WeightedSums.{coefficient, total}
use Rattle.cert_base.proofs.FlowSums.{total-same, total-neg, mul-neg, times-one}
use Rattle.comp_trees.proofs.LeaderEnds.{absent-at}
use Rattle.comp_counting.proofs.OwnFacts.{not_twice-at}
use Rattle.comp_flock.proofs.WorthLaws.{total-split}

pub range-none : (f : ℕ → ℤ) (a m : ℕ) → ((q : ℕ) → a ≤ q → q < a + m → f q ≡ pos 0) → total f (range_with_len a m) ≡ pos 0
range-none f a zero none = refl
range-none f a (suc m) none =
    let here = none a (omega arith) (omega arith) in
    let rest = range-none f (a + 1) m (λ q l n. none q (omega (arith, l)) (omega (arith, n))) in
    omega (arith, ints, here, rest)

-- a state of the block, one outside it, and another variable
pub block-past : (n : ℕ) (f : ℕ → ℤ) (a m x : ℕ) → ((q : ℕ) → a ≤ q → q < a + m → (n + q) ≢ x) → total (λ q. f q *ℤ indicator ((n + q) == x)) (range_with_len a m) ≡ pos 0
block-past n f a m x ne =
    range-none (λ q. f q *ℤ indicator ((n + q) == x)) a m (λ q l o. ap (λ b. f q *ℤ indicator b) (ne_eqb (n + q) x (ne q l o)) ∙ *ℤ-zero (f q))

pub block-out : (n : ℕ) (f : ℕ → ℤ) (a m z : ℕ) → (z < a) ⊎ (a + m ≤ z) → total (λ q. f q *ℤ indicator ((n + q) == (n + z))) (range_with_len a m) ≡ pos 0
block-out n f a m z (inl l) = block-past n f a m (n + z) (λ q g h e. omega (arith, l, g, e))
block-out n f a m z (inr l) = block-past n f a m (n + z) (λ q g h e. omega (arith, l, h, e))

pub block-in : (n : ℕ) (f : ℕ → ℤ) (a m z : ℕ) → a ≤ z → z < a + m → total (λ q. f q *ℤ indicator ((n + q) == (n + z))) (range_with_len a m) ≡ f z
block-in n f a m z l o =
    let g : ℕ → ℤ = λ q. f q *ℤ indicator ((n + q) == (n + z)) in
    let r = a + m - (z + 1) in
    let count = ap (λ m. total g (range_with_len a m)) (let e : m ≡ (z - a) + suc r = omega (arith, l, o) in e) in
    let split = total-split g a (z - a) (suc r) in
    let place = ap (λ b. total g (range_with_len b (suc r))) (let e : a + (z - a) ≡ z = omega (arith, l) in e) in
    let early = block-past n f a (z - a) (n + z) (λ q b h e. omega (arith, h, e, l)) in
    let late = block-past n f (z + 1) r (n + z) (λ q b h e. omega (arith, b, e)) in
    let here : g z ≡ f z = ap (λ b. f z *ℤ indicator b) (eq-eqb (n + z) (n + z) refl) ∙ times-one (f z) in
    omega (arith, ints, count, split, place, early, late, here)

module _ (leaf : LeafModel) where
  abbrev n : ℕ
  n = length leaf.inputs

  -- of states that occur at most once, and of states that are absent
  pub twins-at : (f : ℕ → ℤ) (qs : List ℕ) (x : ℕ) → total (λ q. f q *ℤ coefficient x (not_twice leaf q)) qs ≡ neg_ℤ (total (λ q. f q *ℤ indicator ((n + q) == x)) qs)
  twins-at f qs x =
      total-same (λ q. f q *ℤ coefficient x (not_twice leaf q)) (λ q. neg_ℤ (f q *ℤ indicator ((n + q) == x))) qs (λ q. ap (λ c. f q *ℤ c) (not_twice-at leaf q x) ∙ mul-neg (f q) (indicator ((n + q) == x)))
      ∙ total-neg (λ q. f q *ℤ indicator ((n + q) == x)) qs

  pub absents-at : (f : ℕ → ℤ) (qs : List ℕ) (x : ℕ) → total (λ q. f q *ℤ coefficient x (absent_fact leaf q)) qs ≡ total (λ q. f q *ℤ indicator ((n + q) == x)) qs
  absents-at f qs x =
      total-same (λ q. f q *ℤ coefficient x (absent_fact leaf q)) (λ q. f q *ℤ indicator ((n + q) == x)) qs (λ q. ap (λ c. f q *ℤ c) (absent-at leaf q x))
