-- What contracts see of a sink over memory, and what a call takes.
use Rattle.std.specs.Prelude.{ℕ, ◌-◌, ◌==◌, ◌&&◌, nat_lt, min, List, ◌++◌}
use Rattle.std.specs.Prelude.{length, take, Option, Some, None, if◌then◌else◌}
use Rattle.pop_io.specs.declared.trouble.Trouble.{Trouble}
use Rattle.pop_io.specs.declared.trouble.TroubleKind.{TroubleKind}
use Rattle.pop_io.specs.declared.trouble.TroubleKind.TheVariants.{Fail, Part}
use Rattle.pop_io.specs.Script.{next, trouble_at}

pub record MemorySinkModel : Type 0 where
  pub held : List ℕ
  pub room : ℕ
  pub calls : ℕ
  pub faults : ℕ
  pub troubles : List Trouble

pub record CalmSinkModel : Type 0 where
  pub held : List ℕ
  pub spare : ℕ

-- how many bytes fit, unless the call fails: a full sink fails at a piece with bytes
abbrev pub fitting : ℕ → ℕ → Option ℕ
fitting count free = if nat_lt 0 count && free == 0 then None else Some (min count free)

-- how many bytes a call with this trouble takes, unless it fails
abbrev pub taken : Option TroubleKind → ℕ → ℕ → Option ℕ
taken None count free = fitting count free
taken (Some Fail) count free = None
taken (Some (Part most)) count free = if nat_lt 0 count && free == 0 then None else Some (min most (min count free))

-- how many bytes of a piece the next call takes, unless it fails
abbrev pub count_taken : MemorySinkModel → ℕ → Option ℕ
count_taken s count = taken (trouble_at s.troubles (next s.calls)) count (s.room - length s.held)

-- the sink after a call that took so many bytes of the piece, or failed
abbrev pub after_take : MemorySinkModel → List ℕ → Option ℕ → MemorySinkModel
after_take s piece None = record {
  held = s.held;
  room = s.room;
  calls = next s.calls;
  faults = next s.faults;
  troubles = s.troubles;
}
after_take s piece (Some k) = record {
  held = s.held ++ take k piece;
  room = s.room;
  calls = next s.calls;
  faults = if nat_lt 0 (length piece) && k == 0 then next s.faults else s.faults;
  troubles = s.troubles;
}
