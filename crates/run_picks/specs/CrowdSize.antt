-- How many agents a crowd may have.
use Rattle.std.specs.Prelude.{ℕ, ◌≤◌}
use Rattle.pop_crowd.specs.declared.limits.TheConstants.{AGENT_LEAST, AGENT_LIMIT}

abbrev pub IsCrowdSize : ℕ → Type 0
IsCrowdSize agents = (AGENT_LEAST ≤ agents) × (agents ≤ AGENT_LIMIT)
