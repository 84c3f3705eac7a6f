-- HelperRange: how many helpers a leaf may have.
use Rattle.std.specs.Prelude.{ℕ, ◌≤◌, Option, IfSome}
use Rattle.pop_leaf.specs.declared.limits.TheConstants.{HELPER_LIMIT}

-- no more than any leaf may have
abbrev pub IsHelperRange : Option (ℕ × ℕ) → Type 0
IsHelperRange range = IfSome range (λ r. r.1 ≤ HELPER_LIMIT)
