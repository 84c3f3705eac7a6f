-- Format: the limits of a node in a proof's text.
use Rattle.std.specs.Prelude.{◌≤◌, nat_abs, All}
use Rattle.pres_ast.specs.declared.limits.TheConstants.{MODULUS_LIMIT}
use Rattle.cert_base.specs.declared.limits.TheConstants.{SIZE_LIMIT}
use Rattle.cert_base.specs.declared.node.Node.{Node}
use Rattle.cert_base.specs.declared.node.Node.TheVariants.{Linear, Residue, Split, Present, Twin, Trap, Siphon, Open}
use Rattle.cert_base.specs.declared.node.Node.TheVariants.{First}
use Rattle.cert_linear.specs.Conditions.{AreAscending, AreMultipliers}

-- few and small multipliers, a modulus within its limits, ascending variables with small coefficients and a small
-- constant
abbrev pub IsWithinFormat : Node → Type 0
IsWithinFormat (Linear terms) = AreMultipliers terms
IsWithinFormat (Residue m terms) = (2 ≤ m) × (m ≤ MODULUS_LIMIT) × AreMultipliers terms
IsWithinFormat (Split row) =
    AreAscending row.terms × All (λ t. nat_abs t.by ≤ SIZE_LIMIT) row.terms × (nat_abs row.constant ≤ SIZE_LIMIT)
IsWithinFormat (Present p) = Unit {0}
IsWithinFormat (Twin p) = Unit {0}
IsWithinFormat (Trap set) = Unit {0}
IsWithinFormat (Siphon set) = Unit {0}
IsWithinFormat (Open f) = Unit {0}
IsWithinFormat (First set) = Unit {0}
