-- The JSON value of a line.
use Rattle.std.specs.Prelude.{◌≡◌, ℕ, List, Option, Some, None, IsUtf8}
use Rattle.serde_json.specs.Data.{Data}
use Rattle.serde_json.specs.Read.{read}

-- the line is this value's text; or it has no value, being no text of JSON
abbrev pub HasValue : List ℕ → Option Data → Type 0
HasValue line (Some d) = IsUtf8 line × (read line ≡ Some d)
HasValue line None = IsUtf8 line → read line ≡ None
