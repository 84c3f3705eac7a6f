-- PredText: which predicate a text means, by the grammar.
use Rattle.std.specs.Prelude.{◌≡◌, ℕ, ◌≤◌, List, length}
use Rattle.pres_ast.specs.PredModel.{PredModel}
use Rattle.pres_read.specs.declared.read.TheConstants.{TEXT_LIMIT}
use Rattle.pres_read.specs.Depth.{surface}
use Rattle.pres_read.specs.Grammar.{APred, Phrase, symbols, meaning}
use Rattle.pres_read.specs.Rules.{Fits, IsShallow}
use Rattle.pres_read.specs.Texts.{text_symbols}

-- the text is short and in the grammar, means this predicate over these names, and its numbers and depth are
-- within the limits
pub record IsTextOf (names : List (List ℕ)) (text : List ℕ) (p : PredModel) : Type 0 where
  pub variables : p.variables ≡ length names
  pub short : length text ≤ TEXT_LIMIT
  pub phrase : Phrase APred
  pub spelled : symbols phrase ≡ text_symbols text
  pub means : meaning names phrase ≡ p.tree
  pub fits : Fits names phrase
  pub shallow : IsShallow surface (text_symbols text)
