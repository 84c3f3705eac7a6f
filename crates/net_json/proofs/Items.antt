-- Reading a combination item by item.
use Rattle.std.proofs.Common.{◌≡◌, ℕ, ◌≤◌, ◌&&◌, Bool, true, false, List, [], ◌∷◌, ◌++◌, length, Some, option_and_then, Result, Ok, refl, sym, ap, ◌∙◌}
use Rattle.serde_json.specs.Data.{Data}
use Rattle.serde_json.specs.Find.{as_str}
use Rattle.base_json.specs.declared.fault.Why.TheVariants.{Shape}
use Rattle.base_json.specs.declared.fault.FormatFault.{FormatFault}
use Rattle.base_json.specs.declared.fault.FormatFault.TheVariants.{Broken, NoMemory}
use Rattle.base_json.specs.Faults.{Fault, ◌>>=◌, Says, FailsRead}
use Rattle.base_json.specs.Paths.{item_path}
use Rattle.base_json.proofs.FaultLemmas.{Fails-said}
use Rattle.pop_leaf.specs.declared.item.Item.{Item}
use Rattle.pop_leaf.specs.NetModel.{after_item, after_items, depth_operators}
use Rattle.pop_net.specs.NetFaults.{are_low}
use Rattle.net_json.specs.Examined.{operand_at, open_depths, item_at, combine_item}
use Rattle.base_laws.proofs.Options.{then_itself}
use Rattle.pop_net.proofs.Trees.{after_items-append}

-- what the loop over the items keeps
pub record Reading (so_far : Type 0) (items : List Item) (trees : List ℕ) (i : ℕ) : Type 0 where
  pub read : so_far
  pub trees_open : open_depths items ≡ Some trees
  pub few : length trees ≤ i

-- the trees after one more item
pub open_next : (items : List Item) (trees : List ℕ) (item : Item) → open_depths items ≡ Some trees → open_depths (items ++ item ∷ []) ≡ after_item depth_operators item trees
open_next items trees item is =
    after_items-append depth_operators items (item ∷ []) [] ∙ ap (option_and_then (after_items depth_operators (item ∷ []))) is ∙ then_itself (after_item depth_operators item trees)

fails_on : {A B : Type 0} (e : FormatFault) (read : Result A Fault) (f : A → Result B Fault) → FailsRead e read → FailsRead e (read >>= f)
fails_on NoMemory read f failed = tt
fails_on (Broken p w) read f failed = rw failed refl

module _ (path : List ℕ) (leaves : ℕ) (found : List Item) (i : ℕ) (d : Data) where
  pub operand-fails : (e : FormatFault) → FailsRead e (operand_at (item_path path i) leaves d (as_str d)) → FailsRead e (combine_item path leaves found i d)
  unfolding item_at
  operand-fails e failed = fails_on e (operand_at (item_path path i) leaves d (as_str d)) _ failed

  pub shape-fails : (e : FormatFault) (item : Item) (trees : List ℕ) → operand_at (item_path path i) leaves d (as_str d) ≡ Ok item → open_depths found ≡ Some trees → are_low (after_item depth_operators item trees) ≡ false → Says e (item_path path i) Shape → FailsRead e (combine_item path leaves found i d)
  unfolding item_at
  shape-fails e item trees read is high said =
      Fails-said e (item_path path i) Shape (combine_item path leaves found i d) said (rw (read, open_next found trees item is, high) refl)

  pub item-goes : (item : Item) (trees : List ℕ) → operand_at (item_path path i) leaves d (as_str d) ≡ Ok item → open_depths found ≡ Some trees → are_low (after_item depth_operators item trees) ≡ true → combine_item path leaves found i d ≡ Ok item
  unfolding item_at
  item-goes item trees read is low = rw (read, open_next found trees item is, low) refl

pub and_second : (r a b : Bool) → r ≡ (a && b) → a ≡ true → b ≡ r
and_second r true b e is = sym e
and_second r false b e is = absurd cc
