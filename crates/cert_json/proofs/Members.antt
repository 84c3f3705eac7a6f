-- Members that are put in, and items that are pushed, one after the other.
use Rattle.std.proofs.Common.{◌≡◌, ◌∙◌, ℕ, List, [], ◌∷◌, ◌++◌, map, codes, refl, ap, Result, IfOk, IsOkAnd}
use Rattle.std.proofs.lemmas.List.{map-append}
use Rattle.serde_json.specs.Data.{Data, string, array, object, Members, no_members, put}
use Rattle.serde_json.specs.View.{view, items_of}
use Rattle.serde_json.specs.declared.value.Value.{Value}
use Rattle.base_json.proofs.Put.{made}
use Rattle.net_json.specs.Written.{list_data, numbers_data}
use Rattle.cert_base.specs.declared.layer.Layer.{Layer}
use Rattle.cert_base.specs.declared.proof.LeafProof.{LeafProof}
use Rattle.cert_json.specs.Written.{integers_data, nodes_data, layer_data, one_part, two_parts, leaf_proof_members}

pub layer_written : {E : Type 0} (layer : Layer) (moves weights : Result Value E) (one two : Members)
    → IfOk moves (λ v. view v ≡ numbers_data layer.moves) → IsOkAnd moves (λ v. one ≡ put (codes "moves") (view v) no_members)
    → IfOk weights (λ v. view v ≡ integers_data layer.weights) → IsOkAnd weights (λ v. two ≡ put (codes "weights") (view v) one)
    → object two ≡ layer_data layer
unfolding layer_data
layer_written layer moves weights one two m a w b =
    let a' = made moves (numbers_data layer.moves) (codes "moves") no_members one m a in
    let b' = made weights (integers_data layer.weights) (codes "weights") one two w b in
    rw (b', a') refl

pub leaf_proof_written : {E : Type 0} (part : LeafProof) (on_false layers on_true : Result Value E) (one two three four : Members) (pred : Data)
    → one ≡ put (codes "pred") pred no_members
    → IfOk on_false (λ v. view v ≡ nodes_data part.on_false) → IsOkAnd on_false (λ v. two ≡ put (codes "false") (view v) one)
    → IfOk layers (λ v. view v ≡ list_data (map layer_data part.layers)) → IsOkAnd layers (λ v. three ≡ put (codes "layers") (view v) two)
    → IfOk on_true (λ v. view v ≡ nodes_data part.on_true) → IsOkAnd on_true (λ v. four ≡ put (codes "true") (view v) three)
    → object four ≡ leaf_proof_members (nodes_data part.on_false) (list_data (map layer_data part.layers)) pred (nodes_data part.on_true)
leaf_proof_written part on_false layers on_true one two three four pred a f b l c t d =
    let b' = made on_false (nodes_data part.on_false) (codes "false") one two f b in
    let c' = made layers (list_data (map layer_data part.layers)) (codes "layers") two three l c in
    let d' = made on_true (nodes_data part.on_true) (codes "true") three four t d in
    rw (d', c', b', a) refl

-- the items of a node: its word, and one part or two
pub one_pushed : (word : List ℕ) (old new : List Value) (part : Value) → map view old ≡ string word ∷ [] → new ≡ old ++ part ∷ [] → array (items_of (map view new)) ≡ one_part word (view part)
one_pushed word old new part is pushed =
    ap (λ (vs : List Value). array (items_of (map view vs))) pushed
    ∙ ap (λ (ds : List Data). array (items_of ds)) (map-append view old (part ∷ []))
    ∙ ap (λ (ds : List Data). array (items_of (ds ++ view part ∷ []))) is

pub two_pushed : (word : List ℕ) (old mid new : List Value) (part rest : Value) → map view old ≡ string word ∷ [] → mid ≡ old ++ part ∷ [] → new ≡ mid ++ rest ∷ []
    → array (items_of (map view new)) ≡ two_parts word (view part) (view rest)
two_pushed word old mid new part rest is first second =
    ap (λ (vs : List Value). array (items_of (map view vs))) second
    ∙ ap (λ (ds : List Data). array (items_of ds)) (map-append view mid (rest ∷ []))
    ∙ ap (λ (vs : List Value). array (items_of (map view vs ++ view rest ∷ []))) first
    ∙ ap (λ (ds : List Data). array (items_of (ds ++ view rest ∷ []))) (map-append view old (part ∷ []))
    ∙ ap (λ (ds : List Data). array (items_of ((ds ++ view part ∷ []) ++ view rest ∷ []))) is
