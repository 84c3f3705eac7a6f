-- What the test of waking says of the layers.
use Rattle.std.proofs.Common.{◌≡◌, ◌⊎◌, inl, inr, ℕ, ◌+◌, ◌-◌, ◌<◌, ◌≤◌, true, false, not, ◌&&◌, ◌||◌, List, length, refl, ap, sym, ◌∙◌, arith}
use Rattle.std.specs.Prelude.{Option, Some, None, slice_get, nat_lt}
use Rattle.std.proofs.lemmas.Bool.{and_parts, and_cases, or_parts, or_cases, not-true, not-false, ltb-true, lt-ltb, cases_Bool, false≢true}
use Rattle.std.proofs.lemmas.Option.{slice_get_within}
use Rattle.pop_leaf.specs.declared.limits.TheConstants.{STATE_LIMIT}
use Rattle.cert_layers.specs.declared.pairs.TheConstants.{NO_LAYER}
use Rattle.cert_base.specs.declared.limits.TheConstants.{LAYER_LIMIT}
use Rattle.pop_leaf.specs.declared.leaf.Move.{Move}
use Rattle.pop_leaf.specs.LeafModel.{LeafModel, IsLeaf, IsMoveBelow, one_at, times_in_pair, pre, post, silent_move}
use Rattle.cert_base.specs.declared.layer.Layer.{Layer}
use Rattle.cert_base.specs.ValidLayers.{IsInLayer}
use Rattle.cert_layers.specs.LayerFaults.{WakesNone, SleepsAt}
use Rattle.cert_layers.specs.MoveLayers.{layer_of, AreMoveLayers}
use Rattle.cert_layers.specs.Search.{some_layer}
use Rattle.cert_layers.specs.Waking.{first_at, is_early, IsPair, IsWakingTable, brings_state, brings_two_states, wakes_with_state, wakes_states, wakes_numbered, wakes_at}
use Rattle.cert_layers.proofs.Asleep.{wakes_at-placed, wakes-brought, wakes-other, right_false}
use Rattle.cert_layers.proofs.Covers.{Like, times-like, within_two, within_three, left_none, left_one, left_both}
use Rattle.cert_layers.proofs.NotLower.{in_layer, in_place, some_move-true}
use Rattle.pop_leaf.proofs.Within.{move_small}

-- a move of an earlier layer that takes x and y
abbrev pub EarlyMove : LeafModel → List Layer → ℕ → ℕ → ℕ → Type 0
EarlyMove leaf layers i x y = (k : ℕ) × (u : Move) × (k < i) × IsInLayer leaf layers k u × IsPair x y u

module _ (leaf : LeafModel) (layers : List Layer) (layer_of_move : List (Option ℕ)) (table : List ℕ) (formed : IsLeaf leaf) (p : AreMoveLayers leaf layers layer_of_move) (h : IsWakingTable leaf layer_of_move (length leaf.moves) table) (i : ℕ) (few : i ≤ NO_LAYER) where
  pub early_move : (x y : ℕ) → x < STATE_LIMIT → y < STATE_LIMIT → is_early table i x y ≡ true → EarlyMove leaf layers i x y
  early_move x y xs ys e =
      let f = h.sound i x y few xs ys (ltb-true (first_at table x y) i e) in
      (f.layer, f.taken, f.before, in_layer leaf layers layer_of_move f.number f.layer f.taken p f.move_is f.non_silent f.layer_is, f.takes)

  pub early_test : (x y k : ℕ) (u : Move) → k < i → IsInLayer leaf layers k u → x < STATE_LIMIT → y < STATE_LIMIT → IsPair x y u → is_early table i x y ≡ true
  early_test x y k u before at xs ys pair =
      lt-ltb (first_at table x y) i (h.complete i x y few xs ys (record {
        number = at.number;
        layer = k;
        taken = u;
        below = slice_get_within leaf.moves at.number u at.move_is;
        move_is = at.move_is;
        non_silent = at.non_silent;
        layer_is = in_place leaf layers layer_of_move k u p at;
        before = before;
        takes = pair;
      }))

  module _ (t u : Move) (ts : IsMoveBelow STATE_LIMIT t) where
    -- u' takes two states that were present before t, where u takes m and o
    abbrev pub Was : ℕ → ℕ → Move → Type 0
    Was m o u' = (z : ℕ) → pre u' z ≤ pre t z + (times_in_pair m o z - post t z)

    pub asleep_with : (m o : ℕ) → o < STATE_LIMIT → brings_state t m ≡ true → wakes_with_state (is_early table i) t m o ≡ false → (k : ℕ) × (u' : Move) × (k < i) × IsInLayer leaf layers k u' × Was m o u'
    asleep_with m o os b e = by_pair (or_cases (is_early table i t.p t.q) (not (brings_two_states t m o) && (is_early table i t.p o || is_early table i t.q o)) (not-false _ e))
      where
        there : (x y : ℕ) → x < STATE_LIMIT → y < STATE_LIMIT → is_early table i x y ≡ true → ((z : ℕ) → times_in_pair x y z ≤ pre t z + (times_in_pair m o z - post t z)) → (k : ℕ) × (u' : Move) × (k < i) × IsInLayer leaf layers k u' × Was m o u'
        there x y xs ys early within =
            let f = early_move x y xs ys early in
            (f.0, f.1, f.2, f.3, λ z. (let l : pre f.1 z ≤ pre t z + (times_in_pair m o z - post t z) = omega (arith, times-like f.1.p f.1.q x y z f.4, within z) in l))

        by_other : brings_two_states t m o ≡ false → (is_early table i t.p o ≡ true) ⊎ (is_early table i t.q o ≡ true) → (k : ℕ) × (u' : Move) × (k < i) × IsInLayer leaf layers k u' × Was m o u'
        by_other both (inl early) = there t.p o ts.0 os early (λ z. (let l : times_in_pair t.p o z ≤ pre t z + (times_in_pair m o z - post t z) = omega (arith, left_one t m o b both z) in l))
        by_other both (inr early) = there t.q o ts.1 os early (λ z. (let l : times_in_pair t.q o z ≤ pre t z + (times_in_pair m o z - post t z) = omega (arith, left_one t m o b both z) in l))

        by_pair : (is_early table i t.p t.q ≡ true) ⊎ ((not (brings_two_states t m o) && (is_early table i t.p o || is_early table i t.q o)) ≡ true) → (k : ℕ) × (u' : Move) × (k < i) × IsInLayer leaf layers k u' × Was m o u'
        by_pair (inl early) = there t.p t.q ts.0 ts.1 early (λ z. (let l : times_in_pair t.p t.q z ≤ pre t z + (times_in_pair m o z - post t z) = omega arith in l))
        by_pair (inr rest) =
            let parts = and_parts (not (brings_two_states t m o)) (is_early table i t.p o || is_early table i t.q o) rest in
            by_other (not-true (brings_two_states t m o) parts.0) (or_cases (is_early table i t.p o) (is_early table i t.q o) parts.1)

    pub awake_with : (m o : ℕ) → o < STATE_LIMIT → brings_state t m ≡ true → wakes_with_state (is_early table i) t m o ≡ true → (k : ℕ) (u' : Move) → k < i → IsInLayer leaf layers k u' → Was m o u' → ⊥
    awake_with m o os b e k u' before at was = by_both (cases_Bool (brings_two_states t m o))
      where
        parts : (is_early table i t.p t.q ≡ false) × ((not (brings_two_states t m o) && (is_early table i t.p o || is_early table i t.q o)) ≡ false)
        parts = or_parts (is_early table i t.p t.q) (not (brings_two_states t m o) && (is_early table i t.p o || is_early table i t.q o)) (not-true _ e)

        clash : (x y : ℕ) → x < STATE_LIMIT → y < STATE_LIMIT → is_early table i x y ≡ false → Like u'.p u'.q x y → ⊥
        clash x y xs ys none like = false≢true (sym none ∙ early_test x y k u' before at xs ys like)

        by_three : brings_two_states t m o ≡ false → Like u'.p u'.q t.p t.q ⊎ (Like u'.p u'.q t.p o ⊎ Like u'.p u'.q t.q o) → ⊥
        by_three both (inl like) = clash t.p t.q ts.0 ts.1 parts.0 like
        by_three both (inr rest) = by_other rest (or_parts (is_early table i t.p o) (is_early table i t.q o) (others (and_cases (not (brings_two_states t m o)) (is_early table i t.p o || is_early table i t.q o) parts.1)))
          where
            others : (not (brings_two_states t m o) ≡ false) ⊎ ((is_early table i t.p o || is_early table i t.q o) ≡ false) → (is_early table i t.p o || is_early table i t.q o) ≡ false
            others (inl f) = absurd (false≢true (sym both ∙ not-false (brings_two_states t m o) f))
            others (inr f) = f

            by_other : Like u'.p u'.q t.p o ⊎ Like u'.p u'.q t.q o → (is_early table i t.p o ≡ false) × (is_early table i t.q o ≡ false) → ⊥
            by_other (inl like) none = clash t.p o ts.0 os none.0 like
            by_other (inr like) none = clash t.q o ts.1 os none.1 like

        by_both : (brings_two_states t m o ≡ true) ⊎ (brings_two_states t m o ≡ false) → ⊥
        by_both (inl both) = clash t.p t.q ts.0 ts.1 parts.0 (within_two u'.p u'.q t.p t.q (λ z. (let l : times_in_pair u'.p u'.q z ≤ times_in_pair t.p t.q z = omega (arith, was z, left_none t m o b both z) in l)))
        by_both (inr both) = by_three both (within_three u'.p u'.q t.p t.q o (λ z. (let l : times_in_pair u'.p u'.q z ≤ times_in_pair t.p t.q z + one_at o z = omega (arith, was z, left_one t m o b both z) in l)))

    asleep : (us : IsMoveBelow STATE_LIMIT u) (j : ℕ) → j < i → IsInLayer leaf layers j u → wakes_states (is_early table i) t u.p u.q ≡ false → WakesNone leaf layers i t u
    asleep us j before at e = by_first (cases_Bool (brings_state t u.p)) (cases_Bool (brings_state t u.q))
      where
        by_first : (brings_state t u.p ≡ true) ⊎ (brings_state t u.p ≡ false) → (brings_state t u.q ≡ true) ⊎ (brings_state t u.q ≡ false) → WakesNone leaf layers i t u
        by_first (inl b) c = asleep_with u.p u.q us.1 b (sym (wakes-brought (is_early table i) t u.p u.q b) ∙ e)
        by_first (inr b) (inl c) =
            let f = asleep_with u.q u.p us.0 c (right_false (brings_state t u.q) (wakes_with_state (is_early table i) t u.q u.p) c (sym (wakes-other (is_early table i) t u.p u.q b) ∙ e)) in
            (f.0, f.1, f.2, f.3, λ z. (let l : pre f.1 z ≤ pre t z + (pre u z - post t z) = omega (arith, f.4 z) in l))
        by_first (inr b) (inr c) = (j, u, before, at, λ z. (let l : pre u z ≤ pre t z + (pre u z - post t z) = omega (arith, left_both t u.p u.q b c z) in l))

    awake : (us : IsMoveBelow STATE_LIMIT u) → wakes_states (is_early table i) t u.p u.q ≡ true → WakesNone leaf layers i t u → ⊥
    awake us e none = by_first (cases_Bool (brings_state t u.p))
      where
        by_first : (brings_state t u.p ≡ true) ⊎ (brings_state t u.p ≡ false) → ⊥
        by_first (inl b) = awake_with u.p u.q us.1 b (sym (wakes-brought (is_early table i) t u.p u.q b) ∙ e) none.0 none.1 none.2 none.3 none.4
        by_first (inr b) =
            let parts = and_parts (brings_state t u.q) (wakes_with_state (is_early table i) t u.q u.p) (sym (wakes-other (is_early table i) t u.p u.q b) ∙ e) in
            awake_with u.q u.p us.0 parts.0 parts.1 none.0 none.1 none.2 none.3 (λ z. (let l : pre none.1 z ≤ pre t z + (times_in_pair u.q u.p z - post t z) = omega (arith, none.4 z) in l))

module _ (leaf : LeafModel) (layers : List Layer) (layer_of_move : List (Option ℕ)) (table : List ℕ) (formed : IsLeaf leaf) (p : AreMoveLayers leaf layers layer_of_move) (h : IsWakingTable leaf layer_of_move (length leaf.moves) table) (small : length layers ≤ LAYER_LIMIT) (n m : ℕ) where
  -- what the test says of two moves of layers
  tested : (i j : ℕ) (t u : Move) → j < i → IsInLayer leaf layers i t → slice_get leaf.moves n ≡ Some t → silent_move t ≡ false → layer_of layer_of_move n ≡ Some i → slice_get leaf.moves m ≡ Some u → silent_move u ≡ false → layer_of layer_of_move m ≡ Some j → wakes_at leaf layer_of_move table n m ≡ wakes_states (is_early table i) t u.p u.q
  tested i j t u before at move loud place move' loud' place' =
      wakes_at-placed leaf layer_of_move table n m i t move loud place ∙ rw (move', loud', place', lt-ltb j i before) refl

  pub sleeps-no : wakes_at leaf layer_of_move table n m ≡ false → SleepsAt leaf layers n m
  sleeps-no e i j t u before at number earlier number' =
      let move : slice_get leaf.moves n ≡ Some t = ap (slice_get leaf.moves) (sym number) ∙ at.move_is in
      let move' : slice_get leaf.moves m ≡ Some u = ap (slice_get leaf.moves) (sym number') ∙ earlier.move_is in
      let place : layer_of layer_of_move n ≡ Some i = ap (layer_of layer_of_move) (sym number) ∙ in_place leaf layers layer_of_move i t p at in
      let place' : layer_of layer_of_move m ≡ Some j = ap (layer_of layer_of_move) (sym number') ∙ in_place leaf layers layer_of_move j u p earlier in
      let few = slice_get_within layers i at.layer at.layer_is in
      asleep leaf layers layer_of_move table formed p h i (omega (arith, few, small)) t u (move_small leaf n t formed move) (move_small leaf m u formed move') j before earlier
      (sym (tested i j t u before at move at.non_silent place move' earlier.non_silent place') ∙ e)

  pub sleeps-yes : wakes_at leaf layer_of_move table n m ≡ true → SleepsAt leaf layers n m → ⊥
  sleeps-yes e sleeps = by_first (some_move-true (λ t. some_layer (λ i. wakes_numbered leaf layer_of_move table i t m) (layer_of layer_of_move n)) (slice_get leaf.moves n) e)
    where
      by_before : (t : Move) (i : ℕ) (u : Move) (j : ℕ) → slice_get leaf.moves n ≡ Some t → silent_move t ≡ false → layer_of layer_of_move n ≡ Some i → slice_get leaf.moves m ≡ Some u → silent_move u ≡ false → layer_of layer_of_move m ≡ Some j → (nat_lt j i ≡ true) × (wakes_states (is_early table i) t u.p u.q ≡ true) → ⊥
      by_before t i u j move loud place move' loud' place' f =
          let at = in_layer leaf layers layer_of_move n i t p move loud place in
          let earlier = in_layer leaf layers layer_of_move m j u p move' loud' place' in
          let few = slice_get_within layers i at.layer at.layer_is in
          awake leaf layers layer_of_move table formed p h i (omega (arith, few, small)) t u (move_small leaf n t formed move) (move_small leaf m u formed move') f.1 (sleeps i j t u (ltb-true j i f.0) at refl earlier refl)

      by_place' : (t : Move) (i : ℕ) (u : Move) → slice_get leaf.moves n ≡ Some t → silent_move t ≡ false → layer_of layer_of_move n ≡ Some i → slice_get leaf.moves m ≡ Some u → silent_move u ≡ false → (o : Option ℕ) → layer_of layer_of_move m ≡ o → some_layer (λ j. nat_lt j i && wakes_states (is_early table i) t u.p u.q) o ≡ true → ⊥
      by_place' t i u move loud place move' loud' None place' f = cc
      by_place' t i u move loud place move' loud' (Some j) place' f = by_before t i u j move loud place move' loud' place' (and_parts (nat_lt j i) (wakes_states (is_early table i) t u.p u.q) f)

      by_place : (t : Move) → slice_get leaf.moves n ≡ Some t → silent_move t ≡ false → (o : Option ℕ) → layer_of layer_of_move n ≡ o → some_layer (λ i. wakes_numbered leaf layer_of_move table i t m) o ≡ true → ⊥
      by_place t move loud None place f = cc
      by_place t move loud (Some i) place f =
          let g = some_move-true (λ u. some_layer (λ j. nat_lt j i && wakes_states (is_early table i) t u.p u.q) (layer_of layer_of_move m)) (slice_get leaf.moves m) f in
          by_place' t i g.0 move loud place g.1 g.2 (layer_of layer_of_move m) refl g.3

      by_first : (t : Move) × (slice_get leaf.moves n ≡ Some t) × (silent_move t ≡ false) × (some_layer (λ i. wakes_numbered leaf layer_of_move table i t m) (layer_of layer_of_move n) ≡ true) → ⊥
      by_first f = by_place f.0 f.1 f.2 (layer_of layer_of_move n) refl f.3
