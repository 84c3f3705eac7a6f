-- What tests of the moves say of the layers.
use Rattle.std.proofs.Common.{◌≡◌, ℕ, zero, suc, [], ◌∷◌, Bool, true, false, not, ◌&&◌, List, length, get_or, refl, ap, sym, ◌∙◌, arith}
use Rattle.std.specs.Prelude.{Option, Some, None, is_some, ℤ, ◌+ℤ◌, Contains, slice_get}
use Rattle.std.specs.Int.Signed.{lt_z_yes, lt_z_no}
use Rattle.std.proofs.lemmas.Float.{T_from_true}
use Rattle.std.proofs.lemmas.Int.{ints}
use Rattle.std.proofs.lemmas.Bool.{not-true, not-false, and_parts, false≢true}
use Rattle.std.proofs.lemmas.List.{get_or_default}
use Rattle.std.proofs.lemmas.List.Elements.{Contains-append_left, Contains-append_right}
use Rattle.std.proofs.lemmas.Option.{get_or_from_slice_get, slice_get_within}
use Rattle.pop_leaf.specs.declared.leaf.Move.{Move}
use Rattle.pop_leaf.specs.LeafModel.{LeafModel, IsLeaf, IsMoveBelow, silent_move}
use Rattle.pop_leaf.proofs.Quiet.{All-slice_get}
use Rattle.cert_base.specs.declared.layer.Layer.{Layer}
use Rattle.cert_base.specs.ValidLayers.{weight_at, IsLower, moves_of_layers, IsInLayer}
use Rattle.cert_layers.specs.LayerFaults.{ListedAt, LowerAt}
use Rattle.cert_layers.specs.MoveLayers.{layer_of, AreMoveLayers}
use Rattle.cert_layers.specs.Search.{no_layer, numbered_layer, some_move, some_layer, is_unlisted_move, is_lower_after, not_lower}
use Rattle.cert_layers.proofs.Termination.{listed_at}

-- the layer of a placed move
pub placed_layer : (leaf : LeafModel) (layers : List Layer) (layer_of_move : List (Option ℕ)) (n i : ℕ) (d : Layer) → AreMoveLayers leaf layers layer_of_move → layer_of layer_of_move n ≡ Some i → slice_get layers i ≡ Some (get_or layers i d)
placed_layer leaf layers layer_of_move n i d p is =
    let f = p.listed_in n i is in f.1 ∙ ap Some (sym (get_or_from_slice_get layers i f.0 d f.1))

-- the states of a placed move have weights in its layer
pub placed_below : (leaf : LeafModel) (layers : List Layer) (layer_of_move : List (Option ℕ)) (n i : ℕ) (t : Move) (d : Layer) → IsLeaf leaf → AreMoveLayers leaf layers layer_of_move → slice_get leaf.moves n ≡ Some t → layer_of layer_of_move n ≡ Some i → IsMoveBelow (length (get_or layers i d).weights) t
placed_below leaf layers layer_of_move n i t d formed p move is =
    let shape = p.shaped i (get_or layers i d) (placed_layer leaf layers layer_of_move n i d p is) in
    rw shape.weights (All-slice_get (IsMoveBelow (length leaf.states)) leaf.moves n t formed.moves move)

-- whether a placed move lowers the weights of its layer
pub not_lower_at : (leaf : LeafModel) (layers : List Layer) (layer_of_move : List (Option ℕ)) (n i : ℕ) (t : Move) (d : Layer) → AreMoveLayers leaf layers layer_of_move → slice_get leaf.moves n ≡ Some t → layer_of layer_of_move n ≡ Some i → silent_move t ≡ false → not_lower leaf layers layer_of_move n ≡ not (is_lower_after (get_or layers i d).weights t)
not_lower_at leaf layers layer_of_move n i t d p move is loud =
    let within = slice_get_within layers i (get_or layers i d) (placed_layer leaf layers layer_of_move n i d p is) in
    rw (move, is, loud, get_or_default layers i no_layer d within) refl

-- a placed move that is not silent stands in its layer
abbrev pub in_layer : (leaf : LeafModel) (layers : List Layer) (layer_of_move : List (Option ℕ)) (n i : ℕ) (t : Move) → AreMoveLayers leaf layers layer_of_move → slice_get leaf.moves n ≡ Some t → silent_move t ≡ false → layer_of layer_of_move n ≡ Some i → IsInLayer leaf layers i t
in_layer leaf layers layer_of_move n i t p move loud is =
    let f = p.listed_in n i is in
    record { layer = f.0; number = n; layer_is = f.1; lists = f.2; move_is = move; non_silent = loud }

-- and conversely
pub in_place : (leaf : LeafModel) (layers : List Layer) (layer_of_move : List (Option ℕ)) (i : ℕ) (t : Move) → AreMoveLayers leaf layers layer_of_move → (at : IsInLayer leaf layers i t) → layer_of layer_of_move at.number ≡ Some i
in_place leaf layers layer_of_move i t p at = p.placed at.number i at.layer at.layer_is at.lists

pub contains-listed : (layers : List Layer) (i n : ℕ) (layer : Layer) → slice_get layers i ≡ Some layer → Contains layer.moves n → Contains (moves_of_layers layers) n
contains-listed [] i n layer is c = cc
contains-listed (l ∷ layers) zero n layer is c =
    let same : l ≡ layer = cc in rw same (Contains-append_left layer.moves (moves_of_layers layers) n c)
contains-listed (l ∷ layers) (suc i) n layer is c = Contains-append_right l.moves (moves_of_layers layers) n (contains-listed layers i n layer is c)

-- what a test of a move that is not silent says
pub some_move-true : (test : Move → Bool) (o : Option Move) → some_move test o ≡ true → (t : Move) × (o ≡ Some t) × (silent_move t ≡ false) × (test t ≡ true)
some_move-true test None e = cc
some_move-true test (Some t) e =
    let parts = and_parts (not (silent_move t)) (test t) e in (t, refl, not-true (silent_move t) parts.0, parts.1)

pub some_move-false : (test : Move → Bool) (o : Option Move) (t : Move) → some_move test o ≡ false → o ≡ Some t → silent_move t ≡ false → test t ≡ false
some_move-false test None t e is loud = cc
some_move-false test (Some u) t e is loud =
    let same : u ≡ t = cc in
    let found : some_move test (Some t) ≡ false = ap (λ v. some_move test (Some v)) (sym same) ∙ e in
    let said : (not (silent_move t) && test t) ≡ (true && test t) = ap (λ b. not b && test t) loud in
    sym said ∙ found

pub unlisted-no : (leaf : LeafModel) (layers : List Layer) (layer_of_move : List (Option ℕ)) (n : ℕ) → AreMoveLayers leaf layers layer_of_move → is_unlisted_move leaf layer_of_move n ≡ false → ListedAt leaf layers n
unlisted-no leaf layers layer_of_move n p e t move loud =
    by_place (layer_of layer_of_move n) refl (some_move-false (λ t. not (is_some (layer_of layer_of_move n))) (slice_get leaf.moves n) t e move loud)
  where
    by_place : (o : Option ℕ) → layer_of layer_of_move n ≡ o → not (is_some o) ≡ false → Contains (moves_of_layers layers) n
    by_place None is f = cc
    by_place (Some i) is f = let g = p.listed_in n i is in contains-listed layers i n g.0 g.1 g.2

pub unlisted-yes : (leaf : LeafModel) (layers : List Layer) (layer_of_move : List (Option ℕ)) (n : ℕ) → AreMoveLayers leaf layers layer_of_move → is_unlisted_move leaf layer_of_move n ≡ true → ListedAt leaf layers n → ⊥
unlisted-yes leaf layers layer_of_move n p e at =
    let m = some_move-true (λ t. not (is_some (layer_of layer_of_move n))) (slice_get leaf.moves n) e in
    let f = listed_at layers n (at m.0 m.1 m.2) in
    let some : is_some (layer_of layer_of_move n) ≡ true = ap is_some (p.placed n f.0 f.1 f.2 f.3) in
    false≢true (sym (not-true (is_some (layer_of layer_of_move n)) m.3) ∙ some)

pub is_lower-yes : (w : List ℤ) (t : Move) → is_lower_after w t ≡ true → IsLower w t
is_lower-yes w t e = lt_z_yes (T_from_true _ e)

pub is_lower-no : (w : List ℤ) (t : Move) → is_lower_after w t ≡ false → IsLower w t → ⊥
is_lower-no w t e lower =
    let high = lt_z_no {a = weight_at w t.r +ℤ weight_at w t.s} {b = weight_at w t.p +ℤ weight_at w t.q} (T_from_true _ (ap not e)) in omega (arith, ints, high, lower)

pub not_lower-no : (leaf : LeafModel) (layers : List Layer) (layer_of_move : List (Option ℕ)) (n : ℕ) → AreMoveLayers leaf layers layer_of_move → not_lower leaf layers layer_of_move n ≡ false → LowerAt leaf layers n
not_lower-no leaf layers layer_of_move n p e i t at number =
    let place : layer_of layer_of_move n ≡ Some i = ap (layer_of layer_of_move) (sym number) ∙ in_place leaf layers layer_of_move i t p at in
    let move : slice_get leaf.moves n ≡ Some t = ap (slice_get leaf.moves) (sym number) ∙ at.move_is in
    let tested = some_move-false (λ t. some_layer (λ i. not (is_lower_after (numbered_layer layers i).weights t)) (layer_of layer_of_move n)) (slice_get leaf.moves n) t e move at.non_silent in
    let layer : numbered_layer layers i ≡ at.layer = get_or_from_slice_get layers i at.layer no_layer at.layer_is in
    let said : not (is_lower_after (numbered_layer layers i).weights t) ≡ false = sym (ap (some_layer (λ i. not (is_lower_after (numbered_layer layers i).weights t))) place) ∙ tested in
    is_lower-yes at.layer.weights t (ap (λ (l : Layer). is_lower_after l.weights t) (sym layer) ∙ not-false (is_lower_after (numbered_layer layers i).weights t) said)

pub not_lower-yes : (leaf : LeafModel) (layers : List Layer) (layer_of_move : List (Option ℕ)) (n : ℕ) → AreMoveLayers leaf layers layer_of_move → not_lower leaf layers layer_of_move n ≡ true → LowerAt leaf layers n → ⊥
not_lower-yes leaf layers layer_of_move n p e lower = by_move (some_move-true (λ t. some_layer (λ i. not (is_lower_after (numbered_layer layers i).weights t)) (layer_of layer_of_move n)) (slice_get leaf.moves n) e)
  where
    by_place : (t : Move) → slice_get leaf.moves n ≡ Some t → silent_move t ≡ false → (o : Option ℕ) → layer_of layer_of_move n ≡ o → some_layer (λ i. not (is_lower_after (numbered_layer layers i).weights t)) o ≡ true → ⊥
    by_place t move loud None is f = cc
    by_place t move loud (Some i) is f =
        let at = in_layer leaf layers layer_of_move n i t p move loud is in
        let layer : numbered_layer layers i ≡ at.layer = get_or_from_slice_get layers i at.layer no_layer at.layer_is in
        is_lower-no at.layer.weights t (ap (λ (l : Layer). is_lower_after l.weights t) (sym layer) ∙ not-true (is_lower_after (numbered_layer layers i).weights t) f) (lower i t at refl)

    by_move : (t : Move) × (slice_get leaf.moves n ≡ Some t) × (silent_move t ≡ false) × (some_layer (λ i. not (is_lower_after (numbered_layer layers i).weights t)) (layer_of layer_of_move n) ≡ true) → ⊥
    by_move m = by_place m.0 m.1 m.2 (layer_of layer_of_move n) refl m.3
