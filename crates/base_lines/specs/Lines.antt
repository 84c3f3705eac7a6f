-- Pieces between separator bytes, and lines.
use Rattle.std.specs.Prelude.{◌≡◌, ◌≢◌, ℕ, ◌+◌, ◌<◌, ◌==◌, List, [], ◌∷◌, ◌++◌}
use Rattle.std.specs.Prelude.{length, codes, All, Option, Some, None, if◌then◌else◌}
use Rattle.std.specs.List.{slice_split, flat_map}
use Rattle.base_lines.specs.declared.fault.LineFault.{LineFault}
use Rattle.base_lines.specs.declared.fault.LineFault.TheVariants.{Missing, Extra}

-- a line with its line feed
abbrev pub ended : List ℕ → List ℕ
ended line = line ++ codes "\n"

-- the pieces between the bytes c, at least one
abbrev pub pieces : ℕ → List ℕ → List (List ℕ)
pieces c bytes = slice_split (λ b. b == c) bytes

abbrev pub without_last_empty : List (List ℕ) → List (List ℕ)
without_last_empty [] = []
without_last_empty ([] ∷ []) = []
without_last_empty ((b ∷ bs) ∷ []) = (b ∷ bs) ∷ []
without_last_empty (l ∷ m ∷ ls) = l ∷ without_last_empty (m ∷ ls)

-- Lines are cut at each line feed. A final line feed starts no further line, and an empty text has no lines.
unfoldable pub lines_of : List ℕ → List (List ℕ)
lines_of bytes = without_last_empty (pieces 10 bytes)

-- a piece, and the bytes after the byte that ends it
abbrev pub IsCut : ℕ → List ℕ → List ℕ → Option (List ℕ) → Type 0
IsCut c bytes piece None = (pieces c bytes ≡ piece ∷ []) × (piece ≡ bytes)
IsCut c bytes piece (Some rest) = (pieces c bytes ≡ piece ∷ pieces c rest) × (bytes ≡ piece ++ c ∷ rest)

-- the bytes, with a line feed at the end if it is missing
abbrev pub completed : List ℕ → List ℕ
completed [] = []
completed (b ∷ []) = if b == 10 then b ∷ [] else b ∷ 10 ∷ []
completed (b ∷ c ∷ bytes) = b ∷ completed (c ∷ bytes)

-- Lines without a line feed in them that, each ended by one, make up the bytes; no other list of lines does.
pub record AreLinesOf (bytes : List ℕ) (lines : List (List ℕ)) : Type 0 where
  pub joined : flat_map (λ line. line ++ 10 ∷ []) lines ≡ completed bytes
  pub unbroken : All (λ line. All (λ b. b ≢ 10) line) lines

-- joined again, the lines of a text are its bytes
abbrev pub LinesLaw : Type 0
LinesLaw = (bytes : List ℕ) → AreLinesOf bytes (lines_of bytes)

-- if `wanted` lines are asked for and there are fewer: the first missing one, counted from 1
abbrev pub IsTooFew : ℕ → List (List ℕ) → LineFault → Type 0
IsTooFew wanted lines fault = (length lines < wanted) × (fault ≡ Missing (length lines + 1))

-- if exactly `wanted` lines are asked for: the first missing one, or the first too many, counted from 1
abbrev pub IsLineFault : ℕ → List (List ℕ) → LineFault → Type 0
IsLineFault wanted lines (Missing n) = IsTooFew wanted lines (Missing n)
IsLineFault wanted lines (Extra n) = (wanted < length lines) × (n ≡ wanted + 1)
