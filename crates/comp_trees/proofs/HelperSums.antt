-- The states' values, each times the helpers that start there, are the helpers' values.
use Rattle.std.proofs.Common.{◌≡◌, ◌∙◌, ap, ℕ, ◌+◌, ◌<◌, Bool, true, false, List, [], ◌∷◌, ◌++◌, length, map, refl, arith}
use Rattle.std.specs.Prelude.{ℤ, pos, ◌+ℤ◌, ◌*ℤ◌, ◌==◌, if◌then◌else◌, All, count_by}
use Rattle.std.specs.List.{range_with_len}
use Rattle.std.proofs.lemmas.Int.{ints}
use Rattle.std.proofs.Math.IntN.{*ℤ-zero}
use Rattle.std.proofs.lemmas.List.Elements.{All-head, All-tail}
use Rattle.std.proofs.lemmas.List.Sums.{sum_by-cons}
use Rattle.pop_leaf.specs.LeafModel.{LeafModel}
use Rattle.cert_base.specs.FactsAndCases.{indicator, states_of, flow}
use Rattle.cert_base.specs.WeightedSums.{sum_of_facts, constant_of, total}
use Rattle.cert_base.proofs.Integers.{mul-add}
use Rattle.cert_base.proofs.FlowSums.{total-same, total-none, total-plus, total-one, law-constant}

pub count-more : {A : Type 0} (test : A → Bool) (h : A) (hs : List A) → count_by test (h ∷ hs) ≡ (if test h then 1 else 0) + count_by test hs
count-more test h hs = sum_by-cons (λ z. if test z then 1 else 0) h hs

count-cons : (q h : ℕ) (hs : List ℕ) → pos (count_by (λ z. z == q) (h ∷ hs)) ≡ (indicator (h == q) +ℤ pos (count_by (λ z. z == q) hs))
count-cons q h hs = let more = count-more (λ z. z == q) h hs in let is = one (h == q) in omega (arith, ints, more, is)
  where
    one : (b : Bool) → pos (if b then 1 else 0) ≡ indicator b
    one true = refl
    one false = refl

-- helpers that all pass a test
pub count-all : {A : Type 0} (test : A → Bool) (hs : List A) → All (λ h. test h ≡ true) hs → count_by test hs ≡ length hs
count-all test [] all = refl
count-all test (h ∷ hs) all =
    let here = ap {B = ℕ} (λ (b : Bool). if b then 1 else 0) (All-head (λ h. test h ≡ true) h hs all) in
    let rest = count-all test hs (All-tail (λ h. test h ≡ true) h hs all) in
    let more = count-more test h hs in
    omega (arith, here, rest, more)

total-starting : (w : ℕ → ℤ) (n : ℕ) (hs : List ℕ) → All (λ q. q < n) hs → total (λ q. w q *ℤ pos (count_by (λ z. z == q) hs)) (range_with_len 0 n) ≡ total w hs
total-starting w n [] all = total-none (λ q. w q *ℤ pos 0) (range_with_len 0 n) (λ q. *ℤ-zero (w q))
total-starting w n (h ∷ hs) all =
    let here = total-one w n h (All-head (λ q. q < n) h hs all) in
    let rest = total-starting w n hs (All-tail (λ q. q < n) h hs all) in
    let split = total-same (λ q. w q *ℤ pos (count_by (λ z. z == q) (h ∷ hs))) (λ q. (w q *ℤ indicator (h == q)) +ℤ (w q *ℤ pos (count_by (λ z. z == q) hs))) (range_with_len 0 n) (λ q. ap (λ c. w q *ℤ c) (count-cons q h hs) ∙ mul-add (w q) (indicator (h == q)) (pos (count_by (λ z. z == q) hs))) in
    let both = total-plus (λ q. w q *ℤ indicator (h == q)) (λ q. w q *ℤ pos (count_by (λ z. z == q) hs)) (range_with_len 0 n) in
    omega (arith, ints, here, rest, split, both)

-- the constant of the flow facts' sum
pub constant-helpers : (leaf : LeafModel) (w : ℕ → ℤ) → All (λ q. q < length leaf.states) leaf.helpers → sum_of_facts constant_of (map (flow leaf) (states_of leaf)) (map w (states_of leaf)) ≡ total w leaf.helpers
constant-helpers leaf w all = law-constant leaf w ∙ total-starting w (length leaf.states) leaf.helpers all

-- ---- totals over lists

pub total-append : {A : Type 0} (f : A → ℤ) (xs ys : List A) → total f (xs ++ ys) ≡ (total f xs +ℤ total f ys)
total-append f [] ys = omega (arith, ints)
total-append f (x ∷ xs) ys = let e = total-append f xs ys in omega (arith, ints, e)
