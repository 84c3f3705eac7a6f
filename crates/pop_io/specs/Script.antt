-- Which trouble a call has, and how counts go up.
use Rattle.std.specs.Prelude.{ℕ, ◌+◌, ◌==◌, min, List, Option, None, if◌then◌else◌, find, option_map}
use Rattle.pop_io.specs.declared.trouble.TheConstants.{LAST_COUNT}
use Rattle.pop_io.specs.declared.trouble.Trouble.{Trouble}
use Rattle.pop_io.specs.declared.trouble.TroubleKind.{TroubleKind}

-- a count that stops at the greatest number of its type
abbrev pub next : ℕ → ℕ
next n = min (n + 1) LAST_COUNT

-- the first trouble with this call's number; the greatest number names no call
abbrev pub trouble_at : List Trouble → ℕ → Option TroubleKind
trouble_at ts call =
    if call == LAST_COUNT
    then None
    else option_map (λ (t : Trouble). t.kind) (find (λ (t : Trouble). t.call == call) ts)
