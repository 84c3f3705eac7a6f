-- What is known of a predicate after a prefix of its tokens.
use Rattle.std.specs.Prelude.{ℕ, Bool, List, [], Option, None, ℤ}
use Rattle.pres_ast.specs.PredTree.{PredTree}
use Rattle.pres_read.specs.Atoms.{Factor}
use Rattle.pres_tokens.specs.declared.token.Relation.{Relation}

-- what was read after an open parenthesis: the disjunction before the last `
-- `, the conjunction after it and
-- before the last `&&`, and how many `!` follow
pub record Span : Type 0 where
  pub ors : Option PredTree
  pub ands : Option PredTree
  pub nots : ℕ

abbrev pub clear : Span
clear = record { ors = None; ands = None; nots = 0 }

-- the spans of the open parentheses, the innermost first, and the span after them
pub record Around : Type 0 where
  pub above : List Span
  pub span : Span

-- what comes next, and what the tokens of the atom so far have given
pub data Next : Type 0 where
  AUnit : Next
  ATerm : (coefs : List ℤ) (negative : Bool) → Next
  AStar : (coefs : List ℤ) (factor : Factor) → Next
  AName : (coefs : List ℤ) (factor : Factor) → Next
  -- a relation, or a further term
  ARelation : (coefs : List ℤ) → Next
  AConstant : (coefs : List ℤ) (relation : Relation) → Next
  -- a constant's number, after its `-`
  ANumber : (coefs : List ℤ) (relation : Relation) → Next
  -- `mod`, or what follows a unit
  AModulo : (coefs : List ℤ) (unequal : Bool) (constant : ℤ) → Next
  AModulus : (coefs : List ℤ) (unequal : Bool) (constant : ℤ) → Next
  -- `&&`, `||`, `)` or the end, after this conjunction
  ASign : (tree : PredTree) → Next

pub record Progress : Type 0 where
  pub around : Around
  pub next : Next

abbrev pub start : Progress
start = record { around = record { above = []; span = clear }; next = AUnit }
