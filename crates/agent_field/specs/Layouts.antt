-- Layouts: the words of a crowd as they go into a table, and how they are brought up to date from it.
use Rattle.std.specs.Prelude.{◌≡◌, ℕ, ◌⊎◌, Bool, true, false, List, [], ◌∷◌, slice_set}
use Rattle.pop_net.specs.declared.net.Word.{Word}
use Rattle.pop_crowd.specs.declared.crowd.Meeting.{Meeting}
use Rattle.agent_field.specs.declared.layout.Layout.{Layout}
use Rattle.agent_field.specs.Standing.{laid_out, word_of}

-- nothing is laid out
abbrev pub IsBare : Layout → Type 0
IsBare layout = layout.words.items ≡ []

-- a field with these words can be opened on the layout: they are laid out, or nothing is
abbrev pub Serves : Layout → List Word → ℕ → Type 0
Serves layout words shards = IsBare layout ⊎ (layout.words.items ≡ laid_out shards words)

-- the agents of a meeting that changed something get their words from the table
abbrev pub renewed_if : Bool → ℕ → List ℕ → Meeting → List Word → List Word
renewed_if true shards table m words =
    slice_set (slice_set words m.a (word_of shards table m.a)) m.b (word_of shards table m.b)
renewed_if false shards table m words = words

-- those of all such meetings
abbrev pub renewed : ℕ → List ℕ → List Meeting → List Word → List Word
renewed shards table [] words = words
renewed shards table (m ∷ meetings) words =
    renewed shards table meetings (renewed_if m.changed shards table m words)
