use Rattle.std.proofs.Common.{◌≡◌, ℕ, ◌≤◌, Bool, true, false, not, refl, arith}
use Rattle.std.specs.Prelude.{◌↔◌}
use Rattle.run_picks.proofs.ends.goes_on.Goals as goal

-- a test for the end, negated
turned : {P : Type 0} (left : ℕ) (terminal : Bool) → 1 ≤ left → (terminal ≡ true) ↔ P → (not terminal ≡ true) ↔ ((1 ≤ left) × (P → ⊥))
turned left true some says = (λ e. cc, λ more. absurd (more.1 (says.0 refl)))
turned left false some says = (λ _. (some, λ p. let e = says.1 p in cc), λ _. refl)

pub returns : goal.returns
returns c = turned c.args.left c.in_ok-terminal.terminal (omega (arith, c.if-left-eq0.false)) c.in_ok-terminal.ensures.terminal
