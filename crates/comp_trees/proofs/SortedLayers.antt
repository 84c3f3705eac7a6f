-- Layers by kinds of moves are valid if each kind lowers its weights and wakes no earlier kind.
use Rattle.std.proofs.Common.{◌≡◌, ◌≢◌, ◌⊎◌, inl, inr, subst, ℕ, zero, suc, ◌+◌, ◌<◌, ◌≤◌, Bool, true, false, List, [], ◌∷◌, ◌++◌, length, get_or, refl, ap, sym, ◌∙◌, zero-add, arith}
use Rattle.std.specs.Prelude.{ℤ, if◌then◌else◌, ◌==◌, All, AllPairs, Contains, Some, slice_get}
use Rattle.std.proofs.lemmas.Bool.{eq-eqb, eqb-true, cases_lt}
use Rattle.std.proofs.lemmas.Option.{slice_get_within, get_or_from_slice_get, slice_get-get_or, same_Some}
use Rattle.std.proofs.lemmas.List.Elements.{All-nil, All-cons, All-append, All-contains, Contains-append_left, Contains-append_right, All-weaker}
use Rattle.std.proofs.lemmas.List.Kept.{AllPairs-cons}
use Rattle.pop_leaf.specs.declared.leaf.Move.{Move}
use Rattle.pop_leaf.specs.LeafModel.{LeafModel, silent_move}
use Rattle.cert_base.specs.declared.layer.Layer.{Layer}
use Rattle.cert_base.specs.FactsAndCases.{places_from}
use Rattle.cert_base.specs.ValidLayers.{moves_of_layers, IsLower, IsInLayer, IsEnabledBefore, ValidLayers}
use Rattle.cert_base.proofs.Indicators.{all_places}
use Rattle.comp_trees.specs.SortedLayers.{sorted_layer, sorted_layers}

-- ---- places

places-have : {A : Type 0} (k : ℕ) (test : A → Bool) (xs : List A) (j : ℕ) (x : A) → slice_get xs j ≡ Some x → test x ≡ true → Contains (places_from k test xs) (k + j)
places-have k test [] j x h e = cc
places-have {A} k test (y ∷ xs) zero x h e =
    let same : y ≡ x = cc in
    let passes : test y ≡ true = ap test same ∙ e in
    rw passes (0, (let l : 0 < length (k ∷ places_from (k + 1) test xs) = omega arith in l), (let m : k ≡ k + 0 = omega arith in m))
places-have {A} k test (y ∷ xs) (suc j) x h e = go (test y) (subst (Contains (places_from (k + 1) test xs)) (let m : k + 1 + j ≡ k + suc j = omega arith in m) (places-have (k + 1) test xs j x h e))
  where
    go : (b : Bool) → Contains (places_from (k + 1) test xs) (k + suc j) → Contains (if b then (k ∷ places_from (k + 1) test xs) else places_from (k + 1) test xs) (k + suc j)
    go true c = (suc c.0, (let l = c.1 in let m : suc c.0 < length (k ∷ places_from (k + 1) test xs) = omega arith in m), c.2)
    go false c = c

places-apart : {A : Type 0} (k : ℕ) (test : A → Bool) (xs : List A) → AllPairs ◌≢◌ (places_from k test xs)
places-apart k test [] = λ i j d l m. absurd (omega (arith, m))
places-apart {A} k test (x ∷ xs) = go (test x) (places-apart (k + 1) test xs)
  where
    later : (j : ℕ) → k ≢ k + 1 + j
    later j e = omega arith

    go : (b : Bool) → AllPairs ◌≢◌ (places_from (k + 1) test xs) → AllPairs ◌≢◌ (if b then (k ∷ places_from (k + 1) test xs) else places_from (k + 1) test xs)
    go true rest = AllPairs-cons ◌≢◌ k (places_from (k + 1) test xs) (all_places (λ m. k ≢ m) test (k + 1) xs (λ j y h e. later j)) rest
    go false rest = rest

pub AllPairs-append : {A : Type 0} (R : A → A → Type 0) (xs ys : List A) → AllPairs R xs → AllPairs R ys → All (λ x. All (R x) ys) xs → AllPairs R (xs ++ ys)
AllPairs-append R [] ys a b c = b
AllPairs-append R (x ∷ xs) ys a b c =
    AllPairs-cons R x (xs ++ ys)
    (All-append (R x) xs ys (λ k d l. a 0 (suc k) d (omega arith) (omega arith)) (c 0 x (omega arith)))
    (AllPairs-append R xs ys (λ i j d l m. a (suc i) (suc j) d (omega arith) (omega arith)) b (λ k d l. c (suc k) d (omega arith)))

-- ---- the moves that a layer lists

module _ (moves : List Move) (kind : Move → ℕ) where
  -- the number of a move of kind i
  pub record IsOfKind (i number : ℕ) : Type 0 where
    pub taken : Move
    pub move_is : slice_get moves number ≡ Some taken
    pub kind_is : kind taken ≡ i

  of_kind : (i : ℕ) → All (IsOfKind i) (places_from 0 (λ t. kind t == i) moves)
  of_kind i = all_places (IsOfKind i) (λ t. kind t == i) 0 moves (λ j t h e. record { taken = t; move_is = ap (slice_get moves) (zero-add j) ∙ h; kind_is = eqb-true _ _ e })

  -- the numbers of moves of a kind that is at least i
  pub record IsFromKind (i number : ℕ) : Type 0 where
    pub kind_of : ℕ
    pub above : i ≤ kind_of
    pub of : IsOfKind kind_of number

  from_kind : (i : ℕ) (ws : List (List ℤ)) → All (IsFromKind i) (moves_of_layers (sorted_layers moves kind i ws))
  from_kind i [] = All-nil (IsFromKind i)
  from_kind i (w ∷ ws) =
      All-append (IsFromKind i) (places_from 0 (λ t. kind t == i) moves) (moves_of_layers (sorted_layers moves kind (i + 1) ws))
      (All-weaker (IsOfKind i) (IsFromKind i) (λ number is. record { kind_of = i; above = omega arith; of = is }) (places_from 0 (λ t. kind t == i) moves) (of_kind i))
      (All-weaker (IsFromKind (i + 1)) (IsFromKind i) (λ number is. record { kind_of = is.kind_of; above = (let a = is.above in omega arith); of = is.of }) (moves_of_layers (sorted_layers moves kind (i + 1) ws)) (from_kind (i + 1) ws))

  other_kinds : (i k a b : ℕ) → i < k → IsOfKind i a → IsOfKind k b → a ≢ b
  other_kinds i k a b l x y e =
      let same : x.taken ≡ y.taken = same_Some _ _ (sym x.move_is ∙ ap (slice_get moves) e ∙ y.move_is) in
      let kinds : i ≡ k = sym x.kind_is ∙ ap kind same ∙ y.kind_is in
      omega arith

  once : (i : ℕ) (ws : List (List ℤ)) → AllPairs ◌≢◌ (moves_of_layers (sorted_layers moves kind i ws))
  once i [] = λ i j d l m. absurd (omega (arith, m))
  once i (w ∷ ws) =
      AllPairs-append ◌≢◌ (places_from 0 (λ t. kind t == i) moves) (moves_of_layers (sorted_layers moves kind (i + 1) ws)) (places-apart 0 (λ t. kind t == i) moves) (once (i + 1) ws)
      (All-weaker (IsOfKind i) (λ a. All (λ b. a ≢ b) (moves_of_layers (sorted_layers moves kind (i + 1) ws))) (λ a x. All-weaker (IsFromKind (i + 1)) (λ b. a ≢ b) (λ b y. other_kinds i y.kind_of a b (let l = y.above in omega arith) x y.of) (moves_of_layers (sorted_layers moves kind (i + 1) ws)) (from_kind (i + 1) ws)) (places_from 0 (λ t. kind t == i) moves) (of_kind i))

  -- the layer of a kind
  sorted_layer_at : (i k : ℕ) (ws : List (List ℤ)) → k < length ws → slice_get (sorted_layers moves kind i ws) k ≡ Some (sorted_layer moves kind (i + k) (get_or ws k []))
  sorted_layer_at i k [] l = absurd (omega arith)
  sorted_layer_at i zero (w ∷ ws) l = ap (λ n. Some (sorted_layer moves kind n w)) (let e : i ≡ i + 0 = omega arith in e)
  sorted_layer_at i (suc k) (w ∷ ws) l = sorted_layer_at (i + 1) k ws (omega arith) ∙ ap (λ n. Some (sorted_layer moves kind n (get_or ws k []))) (let e : i + 1 + k ≡ i + suc k = omega arith in e)

  layers_long : (i : ℕ) (ws : List (List ℤ)) → length (sorted_layers moves kind i ws) ≡ length ws
  layers_long i [] = refl
  layers_long i (w ∷ ws) = let e = layers_long (i + 1) ws in omega arith

  lists_move : (i : ℕ) (ws : List (List ℤ)) (number : ℕ) (t : Move) → slice_get moves number ≡ Some t → i ≤ kind t → kind t < i + length ws → Contains (moves_of_layers (sorted_layers moves kind i ws)) number
  lists_move i [] number t h l m = absurd (omega arith)
  lists_move i (w ∷ ws) number t h l m = go (cases_lt i (kind t)) (λ k. lists_move (i + 1) ws number t h k (omega arith))
    where
      go : (i < kind t) ⊎ (kind t ≤ i) → (i + 1 ≤ kind t → Contains (moves_of_layers (sorted_layers moves kind (i + 1) ws)) number) → Contains (moves_of_layers (sorted_layers moves kind i (w ∷ ws))) number
      go (inl k) rest = Contains-append_right (places_from 0 (λ t. kind t == i) moves) (moves_of_layers (sorted_layers moves kind (i + 1) ws)) number (rest (omega arith))
      go (inr k) rest =
          Contains-append_left (places_from 0 (λ t. kind t == i) moves) (moves_of_layers (sorted_layers moves kind (i + 1) ws)) number
          (subst (Contains (places_from 0 (λ t. kind t == i) moves)) (zero-add number) (places-have 0 (λ t. kind t == i) moves number t h (eq-eqb _ _ (omega arith))))

  weights_all : (P : List ℤ → Type 0) (i : ℕ) (ws : List (List ℤ)) → All P ws → All (λ layer. P layer.weights) (sorted_layers moves kind i ws)
  weights_all P i [] all = All-nil (λ layer. P layer.weights)
  weights_all P i (w ∷ ws) all =
      All-cons (λ layer. P layer.weights) (sorted_layer moves kind i w) (sorted_layers moves kind (i + 1) ws) (all 0 w (omega arith)) (weights_all P (i + 1) ws (λ k d l. all (suc k) d (omega arith)))

-- what the kinds must satisfy
pub record AreKinds (leaf : LeafModel) (kind : Move → ℕ) (ws : List (List ℤ)) : Type 0 where
  pub long : All (λ w. length w ≡ length leaf.states) ws
  pub kinds : All (λ t. kind t < length ws) leaf.moves
  pub lower : All (λ t. IsLower (get_or ws (kind t) []) t) leaf.moves
  pub wakes : (t u : Move) → Contains leaf.moves t → Contains leaf.moves u → silent_move t ≡ false → silent_move u ≡ false → kind u < kind t → (u' : Move) × Contains leaf.moves u' × (silent_move u' ≡ false) × (kind u' ≤ kind u) × IsEnabledBefore u' t u

module _ (leaf : LeafModel) (kind : Move → ℕ) (ws : List (List ℤ)) (are : AreKinds leaf kind ws) where
  abbrev pub layers : List Layer
  layers = sorted_layers leaf.moves kind 0 ws

  pub got_contains : (number : ℕ) (t : Move) → slice_get leaf.moves number ≡ Some t → Contains leaf.moves t
  got_contains number t h = (number, slice_get_within leaf.moves number t h, get_or_from_slice_get leaf.moves number t t h)

  -- the kind of a move of layer i is i
  pub in_layer : (i : ℕ) (t : Move) (at : IsInLayer leaf layers i t) → (kind t ≡ i) × (at.layer.weights ≡ get_or ws i [])
  in_layer i t at =
      let within : i < length ws = omega (arith, slice_get_within layers i at.layer at.layer_is, layers_long leaf.moves kind 0 ws) in
      let layer_same : at.layer ≡ sorted_layer leaf.moves kind i (get_or ws i []) = same_Some _ _ (sym at.layer_is ∙ sorted_layer_at leaf.moves kind 0 i ws within ∙ ap (λ n. Some (sorted_layer leaf.moves kind n (get_or ws i []))) (zero-add i)) in
      let lists : Contains (places_from 0 (λ t. kind t == i) leaf.moves) at.number = subst (λ (layer : Layer). Contains layer.moves at.number) layer_same at.lists in
      let of = All-contains (IsOfKind leaf.moves kind i) (places_from 0 (λ t. kind t == i) leaf.moves) at.number (of_kind leaf.moves kind i) lists in
      let same : t ≡ of.taken = same_Some _ _ (sym at.move_is ∙ of.move_is) in
      (ap kind same ∙ of.kind_is, ap (λ (layer : Layer). layer.weights) layer_same)

  pub has_layer : (u : Move) → Contains leaf.moves u → silent_move u ≡ false → IsInLayer leaf layers (kind u) u
  has_layer u c loud =
      let within = All-contains (λ t. kind t < length ws) leaf.moves u are.kinds c in
      let got : slice_get leaf.moves c.0 ≡ Some u = slice_get-get_or leaf.moves c.0 u c.1 ∙ ap Some c.2 in
      record {
        layer = sorted_layer leaf.moves kind (kind u) (get_or ws (kind u) []);
        number = c.0;
        layer_is = sorted_layer_at leaf.moves kind 0 (kind u) ws within ∙ ap (λ n. Some (sorted_layer leaf.moves kind n (get_or ws (kind u) []))) (zero-add (kind u));
        lists = subst (Contains (places_from 0 (λ t. kind t == kind u) leaf.moves)) (zero-add c.0) (places-have 0 (λ t. kind t == kind u) leaf.moves c.0 u got (eq-eqb _ _ refl));
        move_is = got;
        non_silent = loud;
      }

  pub sorted_layers-valid : ValidLayers leaf layers
  sorted_layers-valid = record {
    weights = weights_all leaf.moves kind (λ w. length w ≡ length leaf.states) 0 ws are.long;
    in_range = All-weaker (IsFromKind leaf.moves kind 0) (λ number. number < length leaf.moves) (λ number is. slice_get_within leaf.moves number is.of.taken is.of.move_is) (moves_of_layers layers) (from_kind leaf.moves kind 0 ws);
    once = once leaf.moves kind 0 ws;
    all = λ number t h loud. lists_move leaf.moves kind 0 ws number t h (omega arith) (let within = All-contains (λ t. kind t < length ws) leaf.moves t are.kinds (got_contains number t h) in omega arith);
    lower = λ i t at. (
        let is = in_layer i t at in
        let low = All-contains (λ t. IsLower (get_or ws (kind t) []) t) leaf.moves t are.lower (got_contains at.number t at.move_is) in
        subst (λ w. IsLower w t) (ap (λ k. get_or ws k []) is.0 ∙ sym is.1) low);
    wakes_none = λ i j t u l at au. (
        let ti = (in_layer i t at).0 in
        let uj = (in_layer j u au).0 in
        let w = are.wakes t u (got_contains at.number t at.move_is) (got_contains au.number u au.move_is) at.non_silent au.non_silent (omega arith) in
        (kind w.0, w.0, (let k : kind w.0 < i = omega (arith, w.3, ti, uj, l) in k), has_layer w.0 w.1 w.2, w.4));
  }
