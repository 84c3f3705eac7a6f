-- The lines of an input, as many as its command takes.
use Rattle.std.specs.Prelude.{ℕ, List, [], ◌∷◌, Result, Ok, Err}
use Rattle.base_lines.specs.declared.fault.LineFault.{LineFault}
use Rattle.base_lines.specs.declared.fault.LineFault.TheVariants as fault
use Rattle.tool_texts.specs.declared.refusal.Refusal.{Refusal}
use Rattle.tool_texts.specs.declared.refusal.Refusal.TheVariants.{Line}
use Rattle.tool_texts.specs.declared.refusal.LineWhy.TheVariants.{Missing, Extra}

abbrev pub missing : {A : Type 0} → ℕ → Result A Refusal
missing n = Err (Line n Missing)

abbrev pub extra : {A : Type 0} → ℕ → Result A Refusal
extra n = Err (Line n Extra)

-- exactly one line
abbrev pub just_one : List (List ℕ) → Result (List ℕ) Refusal
just_one [] = missing 1
just_one (line ∷ []) = Ok line
just_one (line ∷ second ∷ more) = extra 2

-- at least two lines
abbrev pub two_and_more : List (List ℕ) → Result (List ℕ × List ℕ × List (List ℕ)) Refusal
two_and_more [] = missing 1
two_and_more (first ∷ []) = missing 2
two_and_more (first ∷ second ∷ more) = Ok (first, second, more)

-- at least three lines: the first two, and all the others
abbrev pub two_and_some : List (List ℕ) → Result (List ℕ × List ℕ × List (List ℕ)) Refusal
two_and_some [] = missing 1
two_and_some (first ∷ []) = missing 2
two_and_some (first ∷ second ∷ []) = missing 3
two_and_some (first ∷ second ∷ third ∷ more) = Ok (first, second, third ∷ more)

-- exactly two lines
abbrev pub just_two : List (List ℕ) → Result (List ℕ × List ℕ) Refusal
just_two [] = missing 1
just_two (first ∷ []) = missing 2
just_two (first ∷ second ∷ []) = Ok (first, second)
just_two (first ∷ second ∷ third ∷ more) = extra 3

-- exactly three lines
abbrev pub just_three : List (List ℕ) → Result (List ℕ × List ℕ × List ℕ) Refusal
just_three [] = missing 1
just_three (first ∷ []) = missing 2
just_three (first ∷ second ∷ []) = missing 3
just_three (first ∷ second ∷ third ∷ []) = Ok (first, second, third)
just_three (first ∷ second ∷ third ∷ fourth ∷ more) = extra 4

-- how too few or too many lines are refused
abbrev pub line_refusal : LineFault → Refusal
line_refusal (fault.Missing number) = Line number Missing
line_refusal (fault.Extra number) = Line number Extra
