-- Texts of the grammar, and where one can't go on.
use Rattle.pop_io.specs.declared.failure.Failure.{Failure}
use Rattle.pop_io.specs.declared.failure.Failure.TheVariants.{Fault, NoMemory}
use Rattle.std.specs.Prelude.{◌≡◌, ℕ, List, [], ◌∷◌, ◌++◌, map, Result, Ok, Err}
use Rattle.pres_ast.specs.PredTree.{PredTree}
use Rattle.pres_ast.specs.PredModel.{PredModel}
use Rattle.pres_tokens.specs.Symbols.{Symbol, Placed}
use Rattle.pres_tokens.specs.Tokens.{tokens_of}
use Rattle.pres_read.specs.declared.fault.ReadPred.{ReadPred}
use Rattle.pres_read.specs.declared.fault.ReadPred.TheVariants.{Syntax, UnknownName, TooLarge}
use Rattle.pres_read.specs.declared.fault.ReadPred.TheVariants.{TooDeep, LongText}
use Rattle.pres_read.specs.Grammar.{APred, Phrase, symbols}

abbrev pub symbols_of : List Placed → List Symbol
symbols_of ts = map (λ (t : Placed). t.symbol) ts

-- the symbols of a text
abbrev pub text_symbols : List ℕ → List Symbol
text_symbols text = symbols_of (tokens_of text)

-- some text of the grammar begins with these symbols
pub record Begins (prefix : List Symbol) : Type 0 where
  pub more : List Symbol
  pub phrase : Phrase APred
  pub spelled : symbols phrase ≡ prefix ++ more

-- no text of the grammar has the next token after these symbols, or none ends after them
abbrev pub IsStuck : List Symbol → List Placed → Type 0
IsStuck prefix [] = (p : Phrase APred) → symbols p ≡ prefix → ⊥
IsStuck prefix (t ∷ ts) = (p : Phrase APred) (more : List Symbol) → symbols p ≡ prefix ++ t.symbol ∷ more → ⊥

-- the place of the next token, or the text's length
abbrev pub place_of : List Placed → ℕ → ℕ
place_of [] end = end
place_of (t ∷ ts) end = t.place

-- the outcomes for a text that the grammar relates to this tree: the tree, or any fault but one of syntax
abbrev pub IsReadAs : PredTree → Result PredModel (Failure ReadPred) → Type 0
IsReadAs tree (Ok pred) = pred.tree ≡ tree
IsReadAs tree (Err (Fault (Syntax at))) = ⊥
IsReadAs tree (Err (Fault (UnknownName at))) = Unit {0}
IsReadAs tree (Err (Fault (TooLarge at))) = Unit {0}
IsReadAs tree (Err (Fault (TooDeep at))) = Unit {0}
IsReadAs tree (Err (Fault (LongText n))) = Unit {0}
IsReadAs tree (Err NoMemory) = Unit {0}

-- the tree is read, unless out of memory
abbrev pub IsReadTo : PredTree → Result PredModel (Failure ReadPred) → Type 0
IsReadTo tree (Ok pred) = pred.tree ≡ tree
IsReadTo tree (Err (Fault fault)) = ⊥
IsReadTo tree (Err NoMemory) = Unit {0}
