-- What a reader may take from the lines of `show`: no two nets, and no two predicates, are written alike.
use Rattle.std.specs.Prelude.{◌≡◌, ◌≢◌, ℕ, List, length, All}
use Rattle.pop_io.specs.Names.{AreNames, variable_name}
use Rattle.pres_ast.specs.PredTree.{PredTree}
use Rattle.pres_ast.specs.PredModel.{IsPred}
use Rattle.pres_read.specs.Canonical.{tree_text}
use Rattle.pop_leaf.specs.declared.leaf.Move.{Move}
use Rattle.pop_leaf.specs.LeafModel.{LeafModel, IsLeaf, IsMoveBelow}
use Rattle.cert_show.specs.Lines.{text_of, each, spaced, quoted, name_at, move_text}

abbrev pub AreUnbroken : List (List ℕ) → Type 0
AreUnbroken lines = All (λ line. All (λ b. b ≢ 10) line) lines

-- What each part of the text tells: whoever knows the part knows what was written.
pub record LinesTell : Type 0 where
  -- lines in which no line feed stands
  pub lines : (xs ys : List (List ℕ)) → AreUnbroken xs → AreUnbroken ys → text_of xs ≡ text_of ys → xs ≡ ys
  -- a name has one spelling, in quotes or without
  pub name : (a b : List ℕ) → quoted a ≡ quoted b → a ≡ b
  -- the states that a line names, one behind the other
  pub states : (a b : LeafModel) → IsLeaf a → IsLeaf b
      → each (length a.states) (λ q. spaced (name_at a.states q))
      ≡ each (length b.states) (λ q. spaced (name_at b.states q)) → a.states ≡ b.states
  -- a move, by the names of its states
  pub move : (leaf : LeafModel) → IsLeaf leaf → (t u : Move) → IsMoveBelow (length leaf.states) t
      → IsMoveBelow (length leaf.states) u → move_text leaf.states t ≡ move_text leaf.states u → t ≡ u
  -- a predicate, by the names of its variables
  pub predicate : (names : List (List ℕ)) → AreNames variable_name names → (p q : PredTree)
      → IsPred (length names) p → IsPred (length names) q → tree_text names p ≡ tree_text names q → p ≡ q
