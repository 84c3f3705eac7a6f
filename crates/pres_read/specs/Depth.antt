-- The charge for the signs, and the number of open parentheses.
use Rattle.std.specs.Prelude.{ℕ, ◌+◌, ◌-◌, ◌||◌, if◌then◌else◌, nat_lt, Result, Ok, Err}
use Rattle.pres_ast.specs.declared.limits.TheConstants.{WEIGHT_LIMIT}
use Rattle.pres_read.specs.declared.depth.TheConstants.{PARENTHESIS_LIMIT}
use Rattle.pres_tokens.specs.declared.token.Relation.{Relation}
use Rattle.pres_tokens.specs.declared.token.Relation.TheVariants.{Less, AtMost, Greater, AtLeast, Equal, Unequal}
use Rattle.pres_tokens.specs.Symbols.{Symbol, Name, Number, Plus, Minus, Star, Compare}
use Rattle.pres_tokens.specs.Symbols.{And, Or, Not, Open, Close, Mod, Stray, Placed}
use Rattle.pres_read.specs.declared.fault.ReadPred.{ReadPred}
use Rattle.pres_read.specs.declared.fault.ReadPred.TheVariants.{TooDeep}

pub record Depth : Type 0 where
  pub charge : ℕ
  pub parentheses : ℕ

abbrev pub surface : Depth
surface = record { charge = 0; parentheses = 0 }

abbrev pub charge_of_relation : Relation → ℕ
charge_of_relation Less = 0
charge_of_relation AtMost = 0
charge_of_relation Greater = 0
charge_of_relation AtLeast = 0
charge_of_relation Equal = 1
charge_of_relation Unequal = 2

abbrev pub symbol_charge : Symbol → ℕ
symbol_charge (Name word) = 0
symbol_charge (Number digits) = 0
symbol_charge Plus = 0
symbol_charge Minus = 0
symbol_charge Star = 0
symbol_charge (Compare r) = charge_of_relation r
symbol_charge And = 1
symbol_charge Or = 1
symbol_charge Not = 1
symbol_charge Open = 0
symbol_charge Close = 0
symbol_charge Mod = 0
symbol_charge Stray = 0

-- the open parentheses after a symbol
abbrev pub parentheses_after : ℕ → Symbol → ℕ
parentheses_after n (Name word) = n
parentheses_after n (Number digits) = n
parentheses_after n Plus = n
parentheses_after n Minus = n
parentheses_after n Star = n
parentheses_after n (Compare r) = n
parentheses_after n And = n
parentheses_after n Or = n
parentheses_after n Not = n
parentheses_after n Open = n + 1
parentheses_after n Close = n - 1
parentheses_after n Mod = n
parentheses_after n Stray = n

abbrev pub deeper : Depth → Symbol → Depth
deeper d s = record { charge = d.charge + symbol_charge s; parentheses = parentheses_after d.parentheses s }

-- at most 64 of each
abbrev pub within_depth : Placed → Depth → Result Depth ReadPred
within_depth t d =
    if nat_lt WEIGHT_LIMIT d.charge || nat_lt PARENTHESIS_LIMIT d.parentheses then Err (TooDeep t.place) else Ok d

abbrev pub sunk : Depth → Placed → Result Depth ReadPred
sunk d t = within_depth t (deeper d t.symbol)
