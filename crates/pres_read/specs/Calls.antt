-- Calls: what reading a predicate requires and promises.
use Rattle.pop_io.specs.declared.failure.Failure.{Failure}
use Rattle.std.specs.Prelude.{◌≡◌, ℕ, ◌≤◌, List, length, Result, Ok, IfOk, IfErr, IfSome}
use Rattle.pop_io.specs.Failures.{IfFault}
use Rattle.pop_io.specs.declared.fault.NoMemory.{NoMemory}
use Rattle.pop_io.specs.declared.names.TheConstants.{VARIABLE_LIMIT}
use Rattle.pop_io.specs.Names.{variable_name, AreNames}
use Rattle.pres_ast.specs.PredTree.{PredTree}
use Rattle.pres_ast.specs.PredModel.{PredModel}
use Rattle.pres_read.specs.declared.fault.ReadPred.{ReadPred}
use Rattle.pres_read.specs.declared.read.TheConstants.{TEXT_LIMIT}
use Rattle.pres_read.specs.Outcome.{GivesParsed}
use Rattle.pres_read.specs.Canonical.{tree_text}
use Rattle.pres_read.specs.Depth.{surface}
use Rattle.pres_read.specs.Reading.{pred_read}
use Rattle.pres_read.specs.Grammar.{APred, Phrase, symbols, meaning, Derives}
use Rattle.pres_read.specs.Faults.{IsReadFault}
use Rattle.pres_read.specs.PredText.{IsTextOf}
use Rattle.pres_read.specs.Texts.{text_symbols, IsReadAs, IsReadTo}
use Rattle.pres_read.specs.Rules.{Fits, IsShallow, KeepsRules}

-- the names of 1 to VARIABLE_LIMIT variables
pub record AreVariableNames (variables : List (List ℕ)) : Type 0 where
  pub some : 1 ≤ length variables
  pub few : length variables ≤ VARIABLE_LIMIT
  pub names : AreNames variable_name variables

-- what was read of a text, as a predicate over these names
pub record IsReadFrom (text : List ℕ) (variables : List (List ℕ)) (result : Result PredModel (Failure ReadPred)) : Type 0 where
  -- the result is that of reading token by token, down to each fault and its place
  pub exact : GivesParsed (λ pred. pred) result (pred_read variables text)
  -- the grammar gives the text this meaning, and no other
  pub meant : IfOk result (IsTextOf variables text)
  pub derived : IfOk result (λ pred. Derives variables (text_symbols text) pred.tree)
  -- its names are the variables', and its numbers, signs and parentheses are within the limits
  pub kept_rules : IfOk result (λ pred. KeepsRules variables (text_symbols text))
  -- a text that the grammar relates to a tree is read as no other tree, and gives no fault of syntax
  pub only : (tree : PredTree) → Derives variables (text_symbols text) tree → IsReadAs tree result
  -- a text of the grammar is read if it is short, its names are known, and its numbers and depth are within the
  -- limits
  pub kept : (phrase : Phrase APred) → symbols phrase ≡ text_symbols text → length text ≤ TEXT_LIMIT
      → Fits variables phrase → IsShallow surface (text_symbols text) → IsReadTo (meaning variables phrase) result
  -- the tokens before the place begin a text of the grammar and keep all rules, and the next breaks the fault's rule
  pub faults : IfFault result (IsReadFault variables text)

-- the canonical text of a predicate over these names was printed
pub record IsPrinted (variables : List (List ℕ)) (pred : PredModel) (result : Result (List ℕ) NoMemory) : Type 0 where
  pub canonical : IfOk result (λ text. text ≡ tree_text variables pred.tree)
  -- the grammar relates the text to the predicate's tree
  pub derived : IfOk result (λ text. Derives variables (text_symbols text) pred.tree)
  -- reading it gives the predicate again
  pub again : IfOk result (λ text. pred_read variables text ≡ Ok pred)
