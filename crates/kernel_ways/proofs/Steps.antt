-- One meeting more.
use Rattle.std.specs.Prelude.{◌≡◌, ◌≢◌, ◌<◌, ℕ, List, ◌∷◌, length, Option, Some, None, MatchOption}
use Rattle.std.proofs.Common.{inl, inr, subst, sym}
use Rattle.kernel_ways.specs.declared.table.Table.{Table}
use Rattle.kernel_ways.specs.declared.tally.Change.{Change}
use Rattle.kernel_ways.specs.Results.{MeetingOf, IsStep, HasCome}

pub one_more : (table : Table) (first before after : List ℕ) → HasCome table first before → IsStep table before after
    → HasCome table first after
one_more table first before after come step =
    elim step [
      | inl same ↦ let P : List ℕ → Type 0 = λ crowd. HasCome table first crowd in subst P (sym same) come
      | inr meets ↦ (before ∷ come.0, (meets, come.1))
    ]

pub step_of : (table : Table) (before after : List ℕ) (i j : ℕ) (change : Option Change) → i ≢ j → i < length before
    → j < length before → MatchOption change (after ≡ before) (λ made. MeetingOf table before i j made after)
    → IsStep table before after
step_of table before after i j None differ one other is = inl is
step_of table before after i j (Some made) differ one other is = inr (i, j, differ, one, other, (made, is))
