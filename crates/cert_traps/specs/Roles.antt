-- What a move does to a set of states.
use Rattle.std.specs.Prelude.{ℕ, Bool, not, ◌&&◌, List}
use Rattle.pop_leaf.specs.declared.leaf.Move.{Move}
use Rattle.cert_base.specs.FactsAndCases.{takes_from, puts_into, touches}
use Rattle.cert_traps.specs.declared.role.Role.{Role}
use Rattle.cert_traps.specs.declared.role.Role.TheVariants.{Takes, Puts, Leaves, Enters, Touches}

abbrev pub passes_role : List ℕ → Role → Move → Bool
passes_role set Takes t = takes_from set t
passes_role set Puts t = puts_into set t
passes_role set Leaves t = takes_from set t && not (puts_into set t)
passes_role set Enters t = puts_into set t && not (takes_from set t)
passes_role set Touches t = touches set t
