-- The input crowd, one variable after the other.
use Rattle.std.proofs.Common.{◌≡◌, ℕ, suc, ◌+◌, ◌<◌, ◌≤◌, List, [], ◌∷◌, ◌++◌, length, map, take, replicate, get_or, sum, append_assoc, ap, sym, ◌∙◌, arith, append-nil}
use Rattle.std.proofs.lemmas.List.{length-append, length-map, map-append, take_more, take_all, length-take-le}
use Rattle.std.proofs.lemmas.List.Elements.{All-append, All-replicate}
use Rattle.pop_net.specs.declared.net.Word.{Word}
use Rattle.std.specs.List.{range_with_len}
use Rattle.std.proofs.lemmas.List.FromFn.{length-map-range_with_len, map-range_with_len_more}
use Rattle.pop_leaf.specs.NetModel.{NetModel, number_of_helpers}
use Rattle.pop_leaf.specs.InputCrowd.{starts_from, start_of, helper_of, input_crowd}
use Rattle.pop_net.specs.Lanes.{tuple_of, crowd_of, IsValid, AreValid}
use Rattle.pop_crowd.specs.Crowds.{input_size}
use Rattle.pop_net.proofs.Tuples.{length-starts_from}
use Rattle.base_laws.proofs.Lists.{map-replicate}

starts_from-push : {A : Type 0} (start : ℕ → A) (k n : ℕ) (counts : List ℕ) → starts_from start k (counts ++ n ∷ []) ≡ starts_from start k counts ++ replicate n (start (k + length counts))
starts_from-push start k n [] = append-nil (replicate n (start k)) ∙ ap (λ j. replicate n (start j)) (let s : k ≡ k + 0 = omega arith in s)
starts_from-push start k n (c ∷ counts) =
    ap (λ ys. replicate c (start k) ++ ys) (starts_from-push start (k + 1) n counts)
    ∙ ap (λ j. replicate c (start k) ++ (starts_from start (k + 1) counts ++ replicate n (start j))) (let s : k + 1 + length counts ≡ k + suc (length counts) = omega arith in s)
    ∙ sym (append_assoc (replicate c (start k)) (starts_from start (k + 1) counts) (replicate n (start (k + suc (length counts)))))

-- the words of one more variable
pub start_more : (net : NetModel) (counts : List ℕ) (v : ℕ) (old new : List Word) (word : Word) → v < length counts → new ≡ old ++ replicate (get_or counts v 0) word → tuple_of net word ≡ start_of net v → crowd_of net old ≡ starts_from (start_of net) 0 (take v counts) → crowd_of net new ≡ starts_from (start_of net) 0 (take (v + 1) counts)
start_more net counts v old new word l e is before =
    ap (crowd_of net) e
    ∙ map-append (tuple_of net) old (replicate (get_or counts v 0) word)
    ∙ ap (λ xs. xs ++ map (tuple_of net) (replicate (get_or counts v 0) word)) before
    ∙ ap (λ xs. starts_from (start_of net) 0 (take v counts) ++ xs) (map-replicate (tuple_of net) (get_or counts v 0) word ∙ ap (replicate (get_or counts v 0)) (is ∙ ap (start_of net) (let s : v ≡ 0 + length (take v counts) = omega (arith, length-take-le v counts (omega arith)) in s)))
    ∙ sym (starts_from-push (start_of net) 0 (get_or counts v 0) (take v counts))
    ∙ ap (starts_from (start_of net) 0) (sym (take_more counts v 0 l))

pub valid_more : (net : NetModel) (n : ℕ) (old new : List Word) (word : Word) → new ≡ old ++ replicate n word → IsValid net word → AreValid net old → AreValid net new
valid_more net n old new word e h before = rw e (All-append (IsValid net) old (replicate n word) before (All-replicate (IsValid net) n word h))

pub all_started : (net : NetModel) (counts : List ℕ) (v : ℕ) (words : List Word) → length counts ≤ v → crowd_of net words ≡ starts_from (start_of net) 0 (take v counts) → crowd_of net words ≡ starts_from (start_of net) 0 counts
all_started net counts v words l e = e ∙ ap (starts_from (start_of net) 0) (take_all v counts l)

-- one more helper
pub helper_more : (net : NetModel) (j : ℕ) (start old new : List Word) (word : Word) → new ≡ old ++ word ∷ [] → tuple_of net word ≡ helper_of net j → crowd_of net old ≡ crowd_of net start ++ map (helper_of net) (range_with_len 0 j) → crowd_of net new ≡ crowd_of net start ++ map (helper_of net) (range_with_len 0 (j + 1))
helper_more net j start old new word e is before =
    ap (crowd_of net) e
    ∙ map-append (tuple_of net) old (word ∷ [])
    ∙ ap (λ xs. xs ++ tuple_of net word ∷ []) before
    ∙ ap (λ t. crowd_of net start ++ map (helper_of net) (range_with_len 0 j) ++ t ∷ []) is
    ∙ append_assoc (crowd_of net start) (map (helper_of net) (range_with_len 0 j)) (helper_of net j ∷ [])
    ∙ ap (λ xs. crowd_of net start ++ xs) (sym (map-range_with_len_more (helper_of net) 0 j j (omega arith)))

-- the input crowd is the starts, then the helpers
pub joined : (net : NetModel) (counts : List ℕ) (starts words : List Word) → crowd_of net starts ≡ starts_from (start_of net) 0 counts → crowd_of net words ≡ crowd_of net starts ++ map (helper_of net) (range_with_len 0 (number_of_helpers net)) → crowd_of net words ≡ input_crowd net counts
joined net counts starts words e h = h ∙ ap (λ xs. xs ++ map (helper_of net) (range_with_len 0 (number_of_helpers net))) e

pub agents_started : (net : NetModel) (counts : List ℕ) (words : List Word) → crowd_of net words ≡ input_crowd net counts → length words ≡ input_size net counts
agents_started net counts words e =
    sym (length-map words (tuple_of net)) ∙ ap length e
    ∙ length-append (starts_from (start_of net) 0 counts) (map (helper_of net) (range_with_len 0 (number_of_helpers net)))
    ∙ ap (λ n. n + length (map (helper_of net) (range_with_len 0 (number_of_helpers net)))) (length-starts_from (start_of net) 0 counts)
    ∙ ap (λ n. sum counts + n) (length-map-range_with_len (helper_of net) 0 (number_of_helpers net))
