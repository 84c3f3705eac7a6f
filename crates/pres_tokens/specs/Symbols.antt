-- The terminal symbols of predicate texts, and the code's tokens as such symbols.
use Rattle.std.specs.Prelude.{ℕ, List}
use Rattle.pres_tokens.specs.declared.token.Relation.{Relation}
use Rattle.pres_tokens.specs.declared.token.Kind.{Kind}
use Rattle.pres_tokens.specs.declared.token.Kind.TheVariants as kind
use Rattle.pres_tokens.specs.declared.token.Token.{Token}

pub data Symbol : Type 0 where
  -- a word other than `mod`
  Name : List ℕ → Symbol
  -- the digits of a number
  Number : List ℕ → Symbol
  Plus : Symbol
  Minus : Symbol
  Star : Symbol
  Compare : Relation → Symbol
  And : Symbol
  Or : Symbol
  Not : Symbol
  Open : Symbol
  Close : Symbol
  Mod : Symbol
  -- a byte that begins no token
  Stray : Symbol

-- a symbol and the offset of its first byte
pub record Placed : Type 0 where
  pub place : ℕ
  pub symbol : Symbol

abbrev pub symbol_of : Kind → Symbol
symbol_of (kind.Name word) = Name word.now
symbol_of (kind.Number digits) = Number digits.now
symbol_of kind.Plus = Plus
symbol_of kind.Minus = Minus
symbol_of kind.Star = Star
symbol_of (kind.Compare r) = Compare r
symbol_of kind.And = And
symbol_of kind.Or = Or
symbol_of kind.Not = Not
symbol_of kind.Open = Open
symbol_of kind.Close = Close
symbol_of kind.Mod = Mod
symbol_of kind.Stray = Stray

abbrev pub token_of : Token → Placed
token_of t = record { place = t.place; symbol = symbol_of t.kind }
