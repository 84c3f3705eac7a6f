-- What a coin gives is of the coin of its number.
use Rattle.std.specs.Prelude.{◌≡◌, ◌<◌, ℕ, List, length, Option, Some, None, IfSome, Contains, refl}
use Rattle.std.proofs.Common.{get_or}
use Rattle.std.proofs.lemmas.Option.{slice_get_read}
use Rattle.kernel_ways.specs.declared.table.Coin.{Coin}
use Rattle.kernel_ways.specs.Results.{IsTossed, results}

pub tossed_of : (coins : List Coin) (number : ℕ) (coin : Coin) (made : Option (ℕ × ℕ)) → number < length coins
    → coin ≡ get_or coins number coin
    → IfSome made (λ pair. Contains (results coin.outcomes.items) pair) → IfSome made (λ pair. IsTossed coins number pair)
tossed_of coins number coin None below is of = tt
tossed_of coins number coin (Some pair) below is of =
    (coin, slice_get_read coins (length coins) number coin refl below is, of)
