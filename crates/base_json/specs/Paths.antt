-- The text of a path: a `/` and a name or a number for each step from the root.
use Rattle.std.specs.Prelude.{ℕ, List, [], ◌∷◌, ◌++◌, decimal}
use Rattle.base_json.specs.declared.path.Path.{Path, Root, Member', Item'}

abbrev pub member_path : List ℕ → List ℕ → List ℕ
member_path path name = path ++ 47 ∷ name

abbrev pub item_path : List ℕ → ℕ → List ℕ
item_path path n = path ++ 47 ∷ decimal n

abbrev pub path_text : Path → List ℕ
path_text Root = []
path_text (Member' p above name) = member_path (path_text above) name.now
path_text (Item' p above n) = item_path (path_text above) n
