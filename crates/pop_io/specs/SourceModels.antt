-- What contracts see of a source over memory, and what a call gives.
use Rattle.std.specs.Prelude.{ℕ, min, max, List, length, drop, Option, Some, None}
use Rattle.pop_io.specs.declared.trouble.Trouble.{Trouble}
use Rattle.pop_io.specs.declared.trouble.TroubleKind.{TroubleKind}
use Rattle.pop_io.specs.declared.trouble.TroubleKind.TheVariants.{Fail, Part}
use Rattle.pop_io.specs.Script.{next, trouble_at}

pub record MemorySourceModel : Type 0 where
  pub left : List ℕ
  pub calls : ℕ
  pub faults : ℕ
  pub troubles : List Trouble

-- how many bytes a call with this trouble gives, unless it fails
abbrev pub given : Option TroubleKind → ℕ → ℕ → Option ℕ
given None room count = Some (min room count)
given (Some Fail) room count = None
given (Some (Part most)) room count = Some (min (max most 1) (min room count))

-- how many bytes the next call gives, unless it fails
abbrev pub count_given : MemorySourceModel → ℕ → Option ℕ
count_given s room = given (trouble_at s.troubles (next s.calls)) room (length s.left)

-- the source after a call that gave so many bytes, or failed
abbrev pub after_give : MemorySourceModel → Option ℕ → MemorySourceModel
after_give s None = record { left = s.left; calls = next s.calls; faults = next s.faults; troubles = s.troubles }
after_give s (Some k) = record { left = drop k s.left; calls = next s.calls; faults = s.faults; troubles = s.troubles }
