-- The moves of the layers, entered layer by layer.
use Rattle.std.proofs.Common.{◌≡◌, ◌≢◌, ◌⊎◌, inl, inr, ℕ, zero, suc, ◌+◌, ◌<◌, ◌≤◌, Bool, true, false, List, [], ◌∷◌, ◌++◌, length, map, take, get_or, refl, ap, sym, ◌∙◌, subst, arith, append_assoc, append-nil, add-one, zero-add}
use Rattle.std.specs.Prelude.{Option, Some, None, AllPairs, Contains, slice_get, ◌==◌, if◌then◌else◌}
use Rattle.std.proofs.lemmas.Bool.{eqb-true, eq-eqb, cases_lt}
use Rattle.std.proofs.lemmas.List.{get_or_default, get_or-map, map-append, length-map, length-take-le}
use Rattle.std.proofs.lemmas.List.Elements.{Contains-append_left, Contains-append_right, Contains-append_cases}
use Rattle.std.proofs.Math.Seq.{take-suc, take-length}
use Rattle.std.proofs.lemmas.Option.{get_or_from_slice_get, slice_get_within}
use Rattle.pop_leaf.specs.LeafModel.{LeafModel}
use Rattle.cert_base.specs.declared.layer.Layer.{Layer}
use Rattle.cert_base.specs.ValidLayers.{moves_of_layers}
use Rattle.cert_layers.specs.LayerFaults.{IsShaped, ShapedAt, IsFirstFailing}
use Rattle.cert_layers.specs.MoveLayers.{layer_of, enter_all, entered_layer, AreMoveLayers}
use Rattle.cert_layers.proofs.Entries.{Apart, Holds, tagged, holds-enter_all, fails-enter_all}

-- the entries of the layers, numbered from i on
abbrev pub tags : ℕ → List Layer → List (ℕ × ℕ)
tags i [] = []
tags i (layer ∷ layers) = tagged i layer.moves ++ tags (suc i) layers

tags-append : (i : ℕ) (xs ys : List Layer) → tags i (xs ++ ys) ≡ tags i xs ++ tags (i + length xs) ys
tags-append i [] ys = let same : i ≡ i + 0 = omega arith in ap (λ k. tags k ys) same
tags-append i (x ∷ xs) ys =
    let same : suc i + length xs ≡ i + suc (length xs) = omega arith in
    ap (λ es. tagged i x.moves ++ es) (tags-append (suc i) xs ys ∙ ap (λ k. tags (suc i) xs ++ tags k ys) same)
    ∙ sym (append_assoc (tagged i x.moves) (tags (suc i) xs) (tags (i + suc (length xs)) ys))

-- the entries up to a layer, and those of the layer
tags-take : (layers : List Layer) (i : ℕ) (layer : Layer) → slice_get layers i ≡ Some layer → tags 0 (take (i + 1) layers) ≡ tags 0 (take i layers) ++ tagged i layer.moves
tags-take layers i layer is =
    let within = slice_get_within layers i layer is in
    let front : take (suc i) layers ≡ take i layers ++ layer ∷ [] = take-suc layers i layer within ∙ ap (λ l. take i layers ++ l ∷ []) (get_or_from_slice_get layers i layer layer is) in
    let long : length (take i layers) ≡ i = length-take-le i layers (omega (arith, within)) in
    rw add-one
    (ap (tags 0) front
    ∙ tags-append 0 (take i layers) (layer ∷ [])
    ∙ ap (λ k. tags 0 (take i layers) ++ tags k (layer ∷ [])) (zero-add (length (take i layers)) ∙ long)
    ∙ ap (λ es. tags 0 (take i layers) ++ es) (append-nil (tagged i layer.moves)))

first_of_tagged : (i : ℕ) (ns : List ℕ) → map (λ (e : ℕ × ℕ). e.0) (tagged i ns) ≡ ns
first_of_tagged i [] = refl
first_of_tagged i (n ∷ ns) = ap (λ ms. n ∷ ms) (first_of_tagged i ns)

-- the moves of the entries are those that the layers list
listed-tags : (i : ℕ) (layers : List Layer) → map (λ (e : ℕ × ℕ). e.0) (tags i layers) ≡ moves_of_layers layers
listed-tags i [] = refl
listed-tags i (layer ∷ layers) =
    map-append (λ (e : ℕ × ℕ). e.0) (tagged i layer.moves) (tags (suc i) layers)
    ∙ ap (λ ns. ns ++ map (λ (e : ℕ × ℕ). e.0) (tags (suc i) layers)) (first_of_tagged i layer.moves)
    ∙ ap (λ ns. layer.moves ++ ns) (listed-tags (suc i) layers)

in_tagged : (i : ℕ) (ns : List ℕ) (n : ℕ) → Contains ns n → Contains (tagged i ns) (n, i)
in_tagged i ns n c =
    (c.0, (let l : c.0 < length (tagged i ns) = omega (arith, c.1, length-map {B = ℕ × ℕ} ns (λ n. (n, i))) in l), get_or-map (λ n. (n, i)) ns c.0 n (n, i) c.1 ∙ ap (λ n. (n, i)) c.2)

from_tagged : (i : ℕ) (ns : List ℕ) (e : ℕ × ℕ) → Contains (tagged i ns) e → Contains ns e.0 × (e.1 ≡ i)
from_tagged i ns e c =
    let within : c.0 < length ns = omega (arith, c.1, length-map {B = ℕ × ℕ} ns (λ n. (n, i))) in
    let is : (get_or ns c.0 e.0, i) ≡ e = sym (get_or-map (λ n. (n, i)) ns c.0 e.0 e within) ∙ c.2 in
    ((c.0, within, ap (λ (f : ℕ × ℕ). f.0) is), sym (ap (λ (f : ℕ × ℕ). f.1) is))

in_tags : (i : ℕ) (layers : List Layer) (k : ℕ) (layer : Layer) (n : ℕ) → slice_get layers k ≡ Some layer → Contains layer.moves n → Contains (tags i layers) (n, i + k)
in_tags i [] k layer n is c = cc
in_tags i (l ∷ layers) zero layer n is c =
    let same : l ≡ layer = cc in
    let place : i + 0 ≡ i = omega arith in
    rw (place, same) (Contains-append_left (tagged i layer.moves) (tags (suc i) layers) (n, i) (in_tagged i layer.moves n c))
in_tags i (l ∷ layers) (suc k) layer n is c =
    let place : i + suc k ≡ suc i + k = omega arith in
    rw place (Contains-append_right (tagged i l.moves) (tags (suc i) layers) (n, suc i + k) (in_tags (suc i) layers k layer n is c))

-- a layer that lists the move of an entry
abbrev IsFrom : ℕ → List Layer → ℕ × ℕ → Type 0
IsFrom i layers e = (k : ℕ) × (layer : Layer) × (slice_get layers k ≡ Some layer) × Contains layer.moves e.0 × (e.1 ≡ i + k)

from_tags : (i : ℕ) (layers : List Layer) (e : ℕ × ℕ) → Contains (tags i layers) e → IsFrom i layers e
from_tags i [] e c = absurd (omega (arith, c.1))
from_tags i (layer ∷ layers) e c = by_case (Contains-append_cases (tagged i layer.moves) (tags (suc i) layers) e c) (λ d. from_tags (suc i) layers e d)
  where
    by_case : Contains (tagged i layer.moves) e ⊎ Contains (tags (suc i) layers) e → (Contains (tags (suc i) layers) e → IsFrom (suc i) layers e) → IsFrom i (layer ∷ layers) e
    by_case (inl here) go =
        let f = from_tagged i layer.moves e here in (0, layer, refl, f.0, (let same : e.1 ≡ i + 0 = omega (arith, f.1) in same))
    by_case (inr there) go =
        let f = go there in (suc f.0, f.1, f.2, f.3, (let same : e.1 ≡ i + suc f.0 = omega (arith, f.4) in same))

apart-distinct : (entries : List (ℕ × ℕ)) → AllPairs Apart entries → AllPairs ◌≢◌ (map (λ (e : ℕ × ℕ). e.0) entries)
apart-distinct entries once i j d before within =
    let long = length-map entries (λ (e : ℕ × ℕ). e.0) in
    let first = get_or-map (λ (e : ℕ × ℕ). e.0) entries i (d, 0) d (omega (arith, long)) in
    let second = get_or-map (λ (e : ℕ × ℕ). e.0) entries j (d, 0) d (omega (arith, long)) in
    λ same. once i j (d, 0) before (omega (arith, long)) (sym first ∙ same ∙ second)

distinct-apart : (entries : List (ℕ × ℕ)) → AllPairs ◌≢◌ (map (λ (e : ℕ × ℕ). e.0) entries) → AllPairs Apart entries
distinct-apart entries once i j d before within =
    let long = length-map entries (λ (e : ℕ × ℕ). e.0) in
    let first = get_or-map (λ (e : ℕ × ℕ). e.0) entries i d d.0 (omega arith) in
    let second = get_or-map (λ (e : ℕ × ℕ). e.0) entries j d d.0 within in
    λ same. once i j d.0 before (omega (arith, long)) (first ∙ same ∙ sym second)

-- the layers before layer i have their shape, and their moves are entered
pub record Filled (leaf : LeafModel) (layers : List Layer) (i : ℕ) (layer_of_move : List (Option ℕ)) : Type 0 where
  pub holds : Holds (length leaf.moves) layer_of_move (tags 0 (take i layers))
  pub shaped : (k : ℕ) → k < i → ShapedAt leaf layers k

place_within : (layer_of_move : List (Option ℕ)) (n i : ℕ) → layer_of layer_of_move n ≡ Some i → n < length layer_of_move
place_within [] n i is = cc
place_within (p ∷ layer_of_move) zero i is = omega arith
place_within (p ∷ layer_of_move) (suc n) i is = omega (arith, place_within layer_of_move n i is)

layer_entered : (states : ℕ) (layer_of_move : List (Option ℕ)) (i : ℕ) (layer : Layer) (more : List (Option ℕ)) → entered_layer states layer_of_move i layer ≡ Some more → (length layer.weights ≡ states) × (enter_all layer_of_move i layer.moves ≡ Some more)
layer_entered states layer_of_move i layer more is = by_test (length layer.weights == states) refl is
  where
    by_test : (b : Bool) → (length layer.weights == states) ≡ b → (if b then enter_all layer_of_move i layer.moves else None) ≡ Some more → (length layer.weights ≡ states) × (enter_all layer_of_move i layer.moves ≡ Some more)
    by_test true e h = (eqb-true (length layer.weights) states e, h)
    by_test false e h = cc

layer_refused : (states : ℕ) (layer_of_move : List (Option ℕ)) (i : ℕ) (layer : Layer) → entered_layer states layer_of_move i layer ≡ None → length layer.weights ≡ states → enter_all layer_of_move i layer.moves ≡ None
layer_refused states layer_of_move i layer is long =
    let test = eq-eqb (length layer.weights) states long in
    sym (ap (λ b. if b then enter_all layer_of_move i layer.moves else None) test) ∙ is

-- one more layer
pub filled-enter : (leaf : LeafModel) (layers : List Layer) (i : ℕ) (layer_of_move : List (Option ℕ)) (layer : Layer) (more : List (Option ℕ)) → Filled leaf layers i layer_of_move → slice_get layers i ≡ Some layer → entered_layer (length leaf.states) layer_of_move i layer ≡ Some more → Filled leaf layers (i + 1) more
filled-enter leaf layers i layer_of_move layer more filled is entered =
    record { holds = holds; shaped = shaped }
  where
    parts : (length layer.weights ≡ length leaf.states) × (enter_all layer_of_move i layer.moves ≡ Some more)
    parts = layer_entered (length leaf.states) layer_of_move i layer more entered

    holds : Holds (length leaf.moves) more (tags 0 (take (i + 1) layers))
    holds = rw (tags-take layers i layer is) (holds-enter_all (length leaf.moves) layer_of_move (tags 0 (take i layers)) i layer.moves more filled.holds parts.1)

    in_range : (n : ℕ) → Contains layer.moves n → n < length leaf.moves
    in_range n c =
        let there : Contains (tags 0 (take (i + 1) layers)) (n, i) = rw (tags-take layers i layer is) (Contains-append_right (tags 0 (take i layers)) (tagged i layer.moves) (n, i) (in_tagged i layer.moves n c)) in
        omega (arith, place_within more n i (holds.all (n, i) there), holds.long)

    here : IsShaped leaf layers i layer
    here = record {
      weights = parts.0;
      in_range = λ k d l. in_range (get_or layer.moves k d) (k, l, get_or_default layer.moves k (get_or layer.moves k d) d l);
      once = rw (← listed-tags 0 (take (i + 1) layers)) (apart-distinct (tags 0 (take (i + 1) layers)) holds.once);
    }

    shaped : (k : ℕ) → k < i + 1 → ShapedAt leaf layers k
    shaped k l other got = by_case (cases_lt k i)
      where
        by_case : (k < i) ⊎ (i ≤ k) → IsShaped leaf layers k other
        by_case (inl before) = filled.shaped k before other got
        by_case (inr past) =
            let same : k ≡ i = omega arith in
            let got' : slice_get layers i ≡ Some other = rw same at got in
            let same_layer : layer ≡ other = cc in
            rw (same, ← same_layer) here

-- a layer that is refused is the first out of shape
pub filled-refused : (leaf : LeafModel) (layers : List Layer) (i : ℕ) (layer_of_move : List (Option ℕ)) (layer : Layer) → Filled leaf layers i layer_of_move → slice_get layers i ≡ Some layer → entered_layer (length leaf.states) layer_of_move i layer ≡ None → IsFirstFailing (ShapedAt leaf layers) i
filled-refused leaf layers i layer_of_move layer filled is refused = (no, filled.shaped)
  where
    no : ShapedAt leaf layers i → ⊥
    no shaped =
        let here = shaped layer is in
        let once = distinct-apart (tags 0 (take (i + 1) layers)) (rw (listed-tags 0 (take (i + 1) layers)) here.once) in
        fails-enter_all (length leaf.moves) layer_of_move (tags 0 (take i layers)) i layer.moves filled.holds (layer_refused (length leaf.states) layer_of_move i layer refused here.weights) here.in_range
        (rw (tags-take layers i layer is) at once)

-- all layers are entered
pub filled-layer_of_move : (leaf : LeafModel) (layers : List Layer) (layer_of_move : List (Option ℕ)) → Filled leaf layers (length layers) layer_of_move → AreMoveLayers leaf layers layer_of_move
filled-layer_of_move leaf layers layer_of_move filled =
    let holds = rw (take-length layers) at filled.holds in
    record {
      long = filled.holds.long;
      listed_in = λ n i is.
          let f = from_tags 0 layers (n, i) (holds.each n i is) in
          (f.1, (let same : f.0 ≡ i = omega (arith, f.4) in subst (λ (k : ℕ). slice_get layers k ≡ Some f.1) same f.2), f.3);
      placed = λ n i layer is c.
          let same : 0 + i ≡ i = omega arith in
          holds.all (n, i) (rw same at (in_tags 0 layers i layer n is c));
      shaped = λ k layer is. filled.shaped k (slice_get_within layers k layer is) layer is;
    }
