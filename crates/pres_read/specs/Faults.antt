-- When each fault of a text comes, in terms of the grammar: the tokens before its place begin a text of the grammar and
-- keep all rules, and what is at the place breaks one.
use Rattle.std.specs.Prelude.{◌≡◌, ◌<◌, ◌⊎◌, ℕ, false, List, [], ◌∷◌, ◌++◌, length}
use Rattle.pres_tokens.specs.Symbols.{Symbol, Number, Placed}
use Rattle.pres_tokens.specs.Tokens.{tokens_of}
use Rattle.pres_read.specs.declared.fault.ReadPred.{ReadPred}
use Rattle.pres_read.specs.declared.fault.ReadPred.TheVariants.{Syntax, UnknownName, TooLarge, TooDeep, LongText}
use Rattle.pres_read.specs.declared.read.TheConstants.{TEXT_LIMIT}
use Rattle.pres_read.specs.Depth.{surface}
use Rattle.pres_read.specs.Grammar.{Term, term_symbols}
use Rattle.pres_read.specs.Texts.{symbols_of, Begins, IsStuck, place_of}
use Rattle.pres_read.specs.Rules.{IsKnown, AreKnown, NumbersFit, IsShallow, KeepsRules, last_is, is_star}

-- no text of the grammar goes on like this, or ends here
pub record IsSyntaxFault (names : List (List ℕ)) (text : List ℕ) (at : ℕ) : Type 0 where
  pub before : List Placed
  pub rest : List Placed
  pub tokens : tokens_of text ≡ before ++ rest
  pub begins : Begins (symbols_of before)
  pub kept : KeepsRules names (symbols_of before)
  pub broken : IsStuck (symbols_of before) rest
  pub place : place_of rest (length text) ≡ at

-- a name that no variable has
pub record IsUnknownName (names : List (List ℕ)) (text : List ℕ) (at : ℕ) : Type 0 where
  pub before : List Placed
  pub name : Placed
  pub rest : List Placed
  pub tokens : tokens_of text ≡ before ++ name ∷ rest
  pub begins : Begins (symbols_of before ++ name.symbol ∷ [])
  pub kept : KeepsRules names (symbols_of before)
  pub broken : IsKnown names name.symbol → ⊥
  pub place : name.place ≡ at

-- the symbols of a term, which has no `*` before it, or of a constant or a modulus
abbrev pub IsNumeral : List Symbol → List Symbol → Type 0
IsNumeral before own =
    ((term : Term) × (own ≡ term_symbols term) × (last_is is_star false before ≡ false))
    ⊎ ((digits : List ℕ) × (own ≡ Number digits ∷ []))

-- a term, a constant or a modulus that is outside its limits, by its first token
pub record IsTooLarge (names : List (List ℕ)) (text : List ℕ) (at : ℕ) : Type 0 where
  pub before : List Placed
  pub own : List Placed
  pub rest : List Placed
  pub tokens : tokens_of text ≡ before ++ (own ++ rest)
  pub number : IsNumeral (symbols_of before) (symbols_of own)
  pub begins : Begins (symbols_of before ++ symbols_of own)
  pub kept : KeepsRules names (symbols_of before)
  pub known : AreKnown names (symbols_of own)
  pub broken : NumbersFit names (symbols_of before ++ symbols_of own) → ⊥
  pub place : place_of own (length text) ≡ at

-- a sign or a parenthesis that makes it too deep
pub record IsTooDeep (names : List (List ℕ)) (text : List ℕ) (at : ℕ) : Type 0 where
  pub before : List Placed
  pub sign : Placed
  pub rest : List Placed
  pub tokens : tokens_of text ≡ before ++ sign ∷ rest
  pub begins : Begins (symbols_of before ++ sign.symbol ∷ [])
  pub kept : KeepsRules names (symbols_of before)
  pub broken : IsShallow surface (symbols_of before ++ sign.symbol ∷ []) → ⊥
  pub place : sign.place ≡ at

-- the fault of a text
abbrev pub IsReadFault : List (List ℕ) → List ℕ → ReadPred → Type 0
IsReadFault names text (Syntax at) = IsSyntaxFault names text at
IsReadFault names text (UnknownName at) = IsUnknownName names text at
IsReadFault names text (TooLarge at) = IsTooLarge names text at
IsReadFault names text (TooDeep at) = IsTooDeep names text at
IsReadFault names text (LongText n) = (n ≡ length text) × (TEXT_LIMIT < length text)
