-- The last line of a play.
use Rattle.std.proofs.Common.{◌≡◌, ℕ, Option, Some, None, refl}
use Rattle.std.specs.Prelude.{◌↔◌, IfSome, option_map}
use Rattle.pop_leaf.specs.NetModel.{NetModel, CrowdModel}
use Rattle.pop_leaf.specs.Step.{Step}
use Rattle.pop_leaf.specs.Terminal.{IsTerminal}
use Rattle.terminal_test.specs.Pairs.{IsLeastPair}
use Rattle.tool_bundles.specs.LastPair.{IsLast}

pub last_is : (net : NetModel) (crowd : CrowdModel) (pair : Option (ℕ × ℕ)) → (pair ≡ None) ↔ IsTerminal (Step net) crowd → IfSome pair (λ p. IsLeastPair net crowd p.0 p.1)
    → IsLast net crowd (option_map (λ p. (p.0, p.1)) pair)
last_is net crowd None terminal least = terminal.0 refl
last_is net crowd (Some (a, b)) terminal least = least
