-- The steps of counting tuples and of writing their lines.
use Rattle.std.proofs.Common.{◌≡◌, ℕ, ◌+◌, ◌<◌, ◌≤◌, List, [], ◌∷◌, ◌++◌, length, map, take, get_or, append_assoc, ap, sym, ◌∙◌}
use Rattle.std.specs.Prelude.{All, Vec, unwrap_or, nat_eq}
use Rattle.std.specs.List.{concat}
use Rattle.std.specs.Ordering.{nat_cmp}
use Rattle.std.specs.Cmp.Lexicographic.{slice_cmp, pointwise}
use Rattle.std.specs.BTreeMap.{insert_entry, is_at}
use Rattle.std.specs.Map.{lookup}
use Rattle.std.proofs.lemmas.List.{take_more, map-append}
use Rattle.std.proofs.lemmas.List.Elements.{All-map, All-contains}
use Rattle.std.proofs.lemmas.List.Sums.{count_by-le-length}
use Rattle.pop_net.specs.declared.net.Word.{Word}
use Rattle.pop_leaf.specs.NetModel.{NetModel, Tuple, CrowdModel, IsTuple, HasStates}
use Rattle.pop_net.specs.Lanes.{tuple_of, crowd_of, AreValid}
use Rattle.pop_net.proofs.Packing.{is_tuple}
use Rattle.pop_crowd.specs.Tally.{tuple_cmp, tuples_of, agents_with, tuple_counts, crowd_line}
use Rattle.pop_crowd.specs.Shown.{shown}
use Rattle.pop_crowd.proofs.Counted.{shown-insert, shown-lookup, counts_more, count_found, tuples_of-crowd}

-- the number that the map has for a tuple is how many agents have it
pub had_so_far : {A : Type 0} (es : List (Vec ℕ A × ℕ)) (crowd : CrowdModel) (x : Tuple) (had : ℕ) → shown es ≡ tuple_counts crowd → had ≡ unwrap_or (lookup (is_at (λ (y : Vec ℕ A). slice_cmp nat_cmp x y.items)) es) 0 → had ≡ agents_with crowd x
had_so_far es crowd x had e h =
    h ∙ ap (λ o. unwrap_or o 0) (shown-lookup es x) ∙ ap (λ l. unwrap_or (lookup (is_at (tuple_cmp x)) l) 0) e ∙ count_found crowd x

pub few_agents : (crowd : CrowdModel) (x : Tuple) → agents_with crowd x ≤ length crowd
few_agents crowd x = count_by-le-length (λ t. pointwise nat_eq t x) crowd

-- one more word is counted
pub counted_next : {A : Type 0} (net : NetModel) (words : List Word) (i : ℕ) (d : Word) (es new : List (Vec ℕ A × ℕ)) (tuple : Vec ℕ A) (had : ℕ) → i < length words → shown es ≡ tuple_counts (crowd_of net (take i words)) → tuple.items ≡ tuple_of net (get_or words i d) → had ≡ agents_with (crowd_of net (take i words)) tuple.items → new ≡ insert_entry (λ (x y : Vec ℕ A). slice_cmp nat_cmp x.items y.items) es tuple (had + 1) → shown new ≡ tuple_counts (crowd_of net (take (i + 1) words))
counted_next net words i d es new tuple had l e is h put =
    let crowd = crowd_of net (take i words) in
    ap shown put
    ∙ shown-insert es tuple (had + 1)
    ∙ ap (λ l. insert_entry tuple_cmp l tuple.items (had + 1)) e
    ∙ ap (λ n. insert_entry tuple_cmp (tuple_counts crowd) tuple.items (n + 1)) h
    ∙ counts_more crowd tuple.items
    ∙ ap (λ t. tuple_counts (crowd ++ t ∷ [])) is
    ∙ ap tuple_counts (sym (ap (crowd_of net) (take_more words i d l) ∙ map-append (tuple_of net) (take i words) (get_or words i d ∷ [])))

-- the tuple has the states of the net's leaves
abbrev pub IsGood : NetModel → Tuple × ℕ → Type 0
IsGood net e = IsTuple net e.0 × HasStates net e.0

pub good_counts : (net : NetModel) (words : List Word) → AreValid net words → All (IsGood net) (tuple_counts (crowd_of net words))
good_counts net words valid = All-map (IsGood net) (λ t. (t, agents_with crowd t)) (tuples_of crowd) (λ k d l. All-contains GoodTuple crowd _ good ((tuples_of-crowd crowd).had k d l))
  where
    crowd : CrowdModel
    crowd = crowd_of net words

    GoodTuple : Tuple → Type 0
    GoodTuple t = IsTuple net t × HasStates net t

    good : All GoodTuple crowd
    good = All-map GoodTuple (tuple_of net) words (λ k d l. (is_tuple net (get_or words k d), (let v = valid k d l in v.states)))

abbrev pub lines_left : NetModel → List (Tuple × ℕ) → List ℕ
lines_left net es = concat (map (λ (e : Tuple × ℕ). crowd_line net e.0 e.1) es)

-- one more line is written
pub line_written : {A : Type 0} (net : NetModel) (old new all : List ℕ) (tuple : Vec ℕ A) (count : ℕ) (es rest : List (Vec ℕ A × ℕ)) → es ≡ (tuple, count) ∷ rest → new ≡ old ++ crowd_line net tuple.items count → old ++ lines_left net (shown es) ≡ all → new ++ lines_left net (shown rest) ≡ all
line_written net old new all tuple count es rest e h before =
    ap (λ t. t ++ lines_left net (shown rest)) h
    ∙ append_assoc old (crowd_line net tuple.items count) (lines_left net (shown rest))
    ∙ ap (λ l. old ++ lines_left net (shown l)) (sym e)
    ∙ before
