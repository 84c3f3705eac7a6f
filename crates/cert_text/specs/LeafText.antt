-- LeafText: how the text of a leaf begins.
use Rattle.std.specs.Prelude.{ℕ, Bool, true, false, List, ◌++◌, codes}
use Rattle.serde_json.specs.Written.{compact_text}
use Rattle.pop_leaf.specs.LeafModel.{LeafModel}
use Rattle.net_json.specs.Written.{numbers_data}

-- what stands before the inputs, in format 1 or in format 2
abbrev pub leaf_head : Bool → LeafModel → List ℕ
leaf_head false leaf = codes "{\"input\":"
leaf_head true leaf = codes "{\"helpers\":" ++ (compact_text (numbers_data leaf.helpers) ++ codes ",\"input\":")
