-- Same lanes: words stand for the same crowds in two nets.
use Rattle.std.specs.Prelude.{◌≡◌, length, map}
use Rattle.pop_leaf.specs.NetModel.{NetModel}

-- the leaves of both nets have, in order, equally many states
abbrev pub HaveSameLanes : NetModel → NetModel → Type 0
HaveSameLanes one other =
    map (λ leaf. length leaf.states) one.leaves ≡ map (λ leaf. length leaf.states) other.leaves
