-- The first meeting line of `play`.
use Rattle.std.specs.Prelude.{◌≡◌, ◌≢◌, ℕ, ◌<◌, List, ◌∷◌, Ok}
use Rattle.base_lines.specs.Lines.{lines_of}
use Rattle.pop_words.specs.Meetings.{meeting_of}

-- a text begins with a line that names these two agents, and this follows it
pub record IsFirstPair (agents : ℕ) (text : List ℕ) (a b : ℕ) (rest : List ℕ) : Type 0 where
  pub line : List ℕ
  pub lines : lines_of text ≡ line ∷ lines_of rest
  pub pair : meeting_of agents line ≡ Ok (a, b)
  pub different : a ≢ b
  pub first_in : a < agents
  pub second_in : b < agents
