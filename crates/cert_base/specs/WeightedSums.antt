-- WeightedSums: sums of facts whose multipliers are written in the order of the facts.
use Rattle.std.specs.Prelude.{◌≡◌, ℕ, ◌+◌, Bool, true, false, ◌&&◌, ◌||◌, List, [], ◌∷◌, ℤ, pos, ◌+ℤ◌, ◌*ℤ◌, slice_get}
use Rattle.std.specs.Ordering.{int_eq}
use Rattle.cert_base.specs.declared.fact.Fact.{Fact}
use Rattle.cert_base.specs.ClosingTests.{row_of, coefficient_in}

-- the sum of the facts' values, each times the multiplier at its place; the last facts may lack one
abbrev pub sum_of_facts : (Fact → ℤ) → List Fact → List ℤ → ℤ
sum_of_facts value [] ms = pos 0
sum_of_facts value (f ∷ facts) [] = pos 0
sum_of_facts value (f ∷ facts) (m ∷ ms) = (m *ℤ value f) +ℤ sum_of_facts value facts ms

abbrev pub coefficient : ℕ → Fact → ℤ
coefficient x f = coefficient_in (row_of f).terms x

abbrev pub constant_of : Fact → ℤ
constant_of f = (row_of f).constant

-- whether each fact may have its multiplier; one whose multiplier is 0 isn't named
abbrev pub may_weigh : (ℤ → Fact → Bool) → List Fact → List ℤ → Bool
may_weigh may [] [] = true
may_weigh may [] (m ∷ ms) = false
may_weigh may (f ∷ facts) [] = true
may_weigh may (f ∷ facts) (m ∷ ms) = (int_eq m (pos 0) || may m f) && may_weigh may facts ms

-- the facts stand in a list from place k on
abbrev pub StandFrom : List Fact → ℕ → List Fact → Type 0
StandFrom all k facts = (j : ℕ) → slice_get all (k + j) ≡ slice_get facts j

-- the sum over the items of a list
abbrev pub total : {A : Type 0} → (A → ℤ) → List A → ℤ
total f [] = pos 0
total f (x ∷ xs) = f x +ℤ total f xs
