-- The tokens of a text. The longest token is taken; blanks only separate tokens.
use Rattle.std.specs.Prelude.{ℕ, ◌+◌, ◌-◌, Bool, ◌&&◌, ◌||◌, ◌==◌, if◌then◌else◌}
use Rattle.std.specs.Prelude.{nat_le, List, [], ◌∷◌, Option, Some, None, codes}
use Rattle.std.proofs.Common.{zero, suc}
use Rattle.std.specs.List.{take_while, prefix_len}
use Rattle.std.specs.Str.{bytes_eq}
use Rattle.pop_io.specs.Names.{is_name_start, is_name_byte}
use Rattle.pres_tokens.specs.declared.token.Relation.TheVariants.{Less, AtMost, Greater, AtLeast, Equal, Unequal}
use Rattle.pres_tokens.specs.Symbols.{Symbol, Name, Number, Plus, Minus, Star, Compare}
use Rattle.pres_tokens.specs.Symbols.{And, Or, Not, Open, Close, Mod, Stray, Placed}

-- a space or a tab
abbrev pub is_blank_byte : ℕ → Bool
is_blank_byte b = b == 32 || b == 9

abbrev pub digit : ℕ → Bool
digit b = nat_le 48 b && nat_le b 57

-- `<=`, `>=`, `!=`, `&&` and `||`
abbrev pub pair_symbol : ℕ → ℕ → Option Symbol
pair_symbol a b =
    if a == 60 && b == 61 then Some (Compare AtMost)
    else (if a == 62 && b == 61 then Some (Compare AtLeast)
    else (if a == 33 && b == 61 then Some (Compare Unequal)
    else (if a == 38 && b == 38 then Some And
    else (if a == 124 && b == 124 then Some Or else None))))

-- `+ - * < > = ! ( )`; any other byte begins no token
abbrev pub byte_symbol : ℕ → Symbol
byte_symbol b =
    if b == 43 then Plus
    else (if b == 45 then Minus
    else (if b == 42 then Star
    else (if b == 60 then Compare Less
    else (if b == 62 then Compare Greater
    else (if b == 61 then Compare Equal
    else (if b == 33 then Not
    else (if b == 40 then Open
    else (if b == 41 then Close else Stray))))))))

abbrev pub word_symbol : List ℕ → Symbol
word_symbol word = if bytes_eq word (codes "mod") then Mod else Name word

-- a symbol other than a word or a number, and its length: two bytes if they form one
abbrev pub sign_or : Symbol → Option Symbol → Symbol × ℕ
sign_or one None = (one, 1)
sign_or one (Some two) = (two, 2)

abbrev pub first_sign : List ℕ → Symbol × ℕ
first_sign [] = (Stray, 1)
first_sign (b ∷ []) = (byte_symbol b, 1)
first_sign (b ∷ c ∷ bytes) = sign_or (byte_symbol b) (pair_symbol b c)

-- the longest symbol that the bytes begin with, and its length
abbrev pub first_symbol : List ℕ → Symbol × ℕ
first_symbol [] = (Stray, 1)
first_symbol (b ∷ bytes) =
    if is_name_start b then (word_symbol (take_while is_name_byte (b ∷ bytes)), prefix_len is_name_byte (b ∷ bytes))
    else (if digit b then (Number (take_while digit (b ∷ bytes)), prefix_len digit (b ∷ bytes))
    else first_sign (b ∷ bytes))

-- the tokens of the bytes at a place; the first `skip` bytes belong to the token before them
abbrev pub tokens_from : (skip place : ℕ) → List ℕ → List Placed
tokens_from skip place [] = []
tokens_from (suc k) place (b ∷ bytes) = tokens_from k (place + 1) bytes
tokens_from zero place (b ∷ bytes) =
    if is_blank_byte b then tokens_from 0 (place + 1) bytes
    else (record { place = place; symbol = (first_symbol (b ∷ bytes)).0 }
    ∷ tokens_from ((first_symbol (b ∷ bytes)).1 - 1) (place + 1) bytes)

abbrev pub tokens_of : List ℕ → List Placed
tokens_of text = tokens_from 0 0 text
