-- UniformRuns: one move after the other is drawn, each of the moves as likely as the others. So all runs of l moves are
-- equally likely, and the probability of an event is the number of runs that have it, divided by the number of all.
use Rattle.std.specs.Prelude.{ℕ, zero, suc, ◌+◌, Bool, cond, List, [], ◌∷◌, map, flat_map}

-- the lists of l elements of xs
abbrev pub lists_of : {A : Type 0} → List A → ℕ → List (List A)
lists_of xs zero = [] ∷ []
lists_of xs (suc l) = flat_map (λ x. map (λ rest. x ∷ rest) (lists_of xs l)) xs

-- what the moves of a run make of c, one after the other
abbrev pub after_run : {A C : Type 0} → (A → C → C) → List A → C → C
after_run make [] c = c
after_run make (x ∷ run) c = after_run make run (make x c)

-- how many moves a run makes before it comes to an end: all its moves if it comes to none
abbrev pub time : {A C : Type 0} → (A → C → C) → (C → Bool) → List A → C → ℕ
time make ended [] c = 0
time make ended (x ∷ run) c = cond (ended c) 0 (1 + time make ended run (make x c))
