-- How many lines there are, and what is missing or too many.
use Rattle.std.proofs.Common.{◌≡◌, ℕ, List, [], ◌∷◌, refl, arith}
use Rattle.base_lines.specs.Lines.{IsTooFew, IsLineFault}
use Rattle.base_lines.specs.declared.fault.LineFault.{LineFault}
use Rattle.base_lines.specs.declared.fault.LineFault.TheVariants.{Missing, Extra}
use Rattle.tool_texts.specs.Steps.{Stops}
use Rattle.tool_texts.specs.Lines.{line_refusal, two_and_more, just_one, just_two, just_three}
use Rattle.pop_io.specs.declared.failure.Failure.TheVariants.{Fault}

pub two_missing : (lines : List (List ℕ)) (fault : LineFault) → IsTooFew 2 lines fault → Stops (Fault (line_refusal fault)) (two_and_more lines)
two_missing [] fault few = rw few.1 refl
two_missing (first ∷ []) fault few = rw few.1 refl
two_missing (first ∷ second ∷ more) fault few = absurd (omega (arith, few.0))

pub not_one : (lines : List (List ℕ)) (fault : LineFault) → IsLineFault 1 lines fault → Stops (Fault (line_refusal fault)) (just_one lines)
not_one [] (Missing n) bad = let same : n ≡ 1 = cc in rw same refl
not_one (first ∷ more) (Missing n) bad = absurd (omega (arith, bad.0))
not_one [] (Extra n) bad = absurd (omega (arith, bad.0))
not_one (first ∷ []) (Extra n) bad = absurd (omega (arith, bad.0))
not_one (first ∷ second ∷ more) (Extra n) bad = rw bad.1 refl

pub not_two : (lines : List (List ℕ)) (fault : LineFault) → IsLineFault 2 lines fault → Stops (Fault (line_refusal fault)) (just_two lines)
not_two [] (Missing n) bad = let same : n ≡ 1 = cc in rw same refl
not_two (first ∷ []) (Missing n) bad = let same : n ≡ 2 = cc in rw same refl
not_two (first ∷ second ∷ more) (Missing n) bad = absurd (omega (arith, bad.0))
not_two [] (Extra n) bad = absurd (omega (arith, bad.0))
not_two (first ∷ []) (Extra n) bad = absurd (omega (arith, bad.0))
not_two (first ∷ second ∷ []) (Extra n) bad = absurd (omega (arith, bad.0))
not_two (first ∷ second ∷ third ∷ more) (Extra n) bad = rw bad.1 refl

pub not_three : (lines : List (List ℕ)) (fault : LineFault) → IsLineFault 3 lines fault → Stops (Fault (line_refusal fault)) (just_three lines)
not_three [] (Missing n) bad = let same : n ≡ 1 = cc in rw same refl
not_three (first ∷ []) (Missing n) bad = let same : n ≡ 2 = cc in rw same refl
not_three (first ∷ second ∷ []) (Missing n) bad = let same : n ≡ 3 = cc in rw same refl
not_three (first ∷ second ∷ third ∷ more) (Missing n) bad = absurd (omega (arith, bad.0))
not_three [] (Extra n) bad = absurd (omega (arith, bad.0))
not_three (first ∷ []) (Extra n) bad = absurd (omega (arith, bad.0))
not_three (first ∷ second ∷ []) (Extra n) bad = absurd (omega (arith, bad.0))
not_three (first ∷ second ∷ third ∷ []) (Extra n) bad = absurd (omega (arith, bad.0))
not_three (first ∷ second ∷ third ∷ fourth ∷ more) (Extra n) bad = rw bad.1 refl
