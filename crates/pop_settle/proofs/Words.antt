-- A word that is rewritten, in a crowd.
use Rattle.std.proofs.Common.{◌≡◌, ℕ, ◌+◌, ◌<◌, ◌≤◌, List, [], ◌∷◌, ◌++◌, length, take, get_or, ap, sym, ◌∙◌}
use Rattle.std.specs.Prelude.{Some, slice_get, slice_set, slice_index_or}
use Rattle.std.specs.Option.{option_map}
use Rattle.std.proofs.lemmas.List.{map-set, map-append, take_more, length-map, length-take-le}
use Rattle.std.proofs.lemmas.Option.{slice_get-map, get_or_from_slice_get}
use Rattle.pop_net.specs.declared.net.Word.{Word}
use Rattle.pop_leaf.specs.NetModel.{NetModel, state_of}
use Rattle.pop_net.specs.Lanes.{tuple_of, crowd_of}
use Rattle.pop_settle.specs.Settlement.{states_in, tuple_with_state}

-- the tuple of an agent's word
pub tuple_at_word : (net : NetModel) (words : List Word) (a : ℕ) (word : Word) → slice_get words a ≡ Some word → slice_index_or (crowd_of net words) a [] ≡ tuple_of net word
tuple_at_word net words a word h =
    get_or_from_slice_get (crowd_of net words) a (tuple_of net word) [] (slice_get-map (tuple_of net) words a ∙ ap (option_map (tuple_of net)) h)

pub word_set : (net : NetModel) (words : List Word) (a : ℕ) (word next : Word) (i q : ℕ) → slice_get words a ≡ Some word → tuple_of net next ≡ slice_set (tuple_of net word) i q → crowd_of net (slice_set words a next) ≡ slice_set (crowd_of net words) a (tuple_with_state i a q (crowd_of net words))
word_set net words a word next i q h e =
    map-set (tuple_of net) words a next
    ∙ ap (λ t. slice_set (crowd_of net words) a t) (e ∙ ap (λ t. slice_set t i q) (sym (tuple_at_word net words a word h)))

-- one more agent's state
pub states_more : (net : NetModel) (i : ℕ) (words : List Word) (k q : ℕ) → k < length words → q ≡ state_of (tuple_of net (get_or words k (record { 0 = 0 }))) i → states_in i (crowd_of net (take (k + 1) words)) ≡ states_in i (crowd_of net (take k words)) ++ q ∷ []
states_more net i words k q l e =
    let word = get_or words k (record { 0 = 0 }) in
    ap (λ ws. states_in i (crowd_of net ws)) (take_more words k (record { 0 = 0 }) l)
    ∙ ap (λ c. states_in i c) (map-append (tuple_of net) (take k words) (word ∷ []))
    ∙ map-append (λ tuple. state_of tuple i) (crowd_of net (take k words)) (tuple_of net word ∷ [])
    ∙ ap (λ s. states_in i (crowd_of net (take k words)) ++ s ∷ []) (sym e)

pub length-states_take : (net : NetModel) (i : ℕ) (words : List Word) (k : ℕ) → k ≤ length words → length (states_in i (crowd_of net (take k words))) ≡ k
length-states_take net i words k l =
    length-map (crowd_of net (take k words)) (λ tuple. state_of tuple i) ∙ length-map (take k words) (tuple_of net) ∙ length-take-le k words l
