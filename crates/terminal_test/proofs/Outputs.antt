-- The outputs of a crowd's words.
use Rattle.std.proofs.Common.{◌≡◌, ℕ, ◌<◌, Bool, List, length, get_or}
use Rattle.std.proofs.lemmas.List.Elements.{All-map}
use Rattle.pop_net.specs.declared.net.Word.{Word}
use Rattle.pop_leaf.specs.NetModel.{NetModel, output_of}
use Rattle.pop_net.specs.Lanes.{tuple_of, crowd_of}
use Rattle.terminal_test.specs.Agreement.{AllOutput}

pub all_output : (net : NetModel) (words : List Word) (v : Bool) → ((d : ℕ) (w : Word) → d < length words → output_of net (tuple_of net (get_or words d w)) ≡ v) → AllOutput net (crowd_of net words) v
all_output net words v h = All-map (λ t. output_of net t ≡ v) (tuple_of net) words (λ k d l. h k d l)
