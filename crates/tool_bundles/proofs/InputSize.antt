-- How many agents an input crowd has.
use Rattle.std.proofs.Common.{◌≡◌, ℕ, ◌+◌, List, length, map, ap, ◌∙◌, length-append}
use Rattle.std.specs.Prelude.{sum}
use Rattle.std.specs.List.{range_with_len}
use Rattle.std.proofs.lemmas.List.FromFn.{length-map-range_with_len}
use Rattle.pop_leaf.specs.NetModel.{NetModel, number_of_helpers}
use Rattle.pop_leaf.specs.InputCrowd.{input_crowd, starts_from, start_of, helper_of}
use Rattle.pop_net.proofs.Tuples.{length-starts_from}
use Rattle.pop_crowd.specs.Crowds.{input_size}

pub length-input_crowd : (net : NetModel) (counts : List ℕ) → length (input_crowd net counts) ≡ input_size net counts
length-input_crowd net counts =
    let helpers = map (helper_of net) (range_with_len 0 (number_of_helpers net)) in
    length-append (starts_from (start_of net) 0 counts) helpers
    ∙ ap (λ n. n + length helpers) (length-starts_from (start_of net) 0 counts)
    ∙ ap (λ n. sum counts + n) (length-map-range_with_len (helper_of net) 0 (number_of_helpers net))
