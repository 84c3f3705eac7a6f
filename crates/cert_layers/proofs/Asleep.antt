-- Which moves are not woken.
use Rattle.std.proofs.Common.{◌≡◌, ◌⊎◌, inl, inr, ℕ, ◌<◌, ◌≤◌, Bool, true, false, not, ◌&&◌, List, [], ◌∷◌, length, refl, sym, subst, ◌∙◌, arith}
use Rattle.std.specs.Prelude.{Option, Some, None, slice_get, nat_lt, ◌==◌}
use Rattle.std.specs.List.{list_any, range_with_len}
use Rattle.std.proofs.lemmas.Bool.{and_cases, and_left, and_right, or_parts, or_cases, not-false, ltb-true, lt-ltb, cases_Bool, cases_lt, eqb-true}
use Rattle.std.proofs.lemmas.Option.{slice_get_within, slice_get_past}
use Rattle.pop_leaf.specs.declared.leaf.Move.{Move}
use Rattle.pop_leaf.specs.LeafModel.{LeafModel, IsLeaf, IsMoveBelow, silent_move}
use Rattle.pop_leaf.proofs.Quiet.{All-slice_get}
use Rattle.pop_leaf.specs.FirstFault.{first_below}
use Rattle.pop_leaf.proofs.FirstFault.{none_below}
use Rattle.cert_layers.specs.declared.pairs.TheConstants.{NO_LAYER}
use Rattle.cert_layers.specs.MoveLayers.{layer_of}
use Rattle.cert_layers.specs.Search.{some_move, some_layer}
use Rattle.cert_layers.specs.Waking.{first_at, is_early, IsEarly, IsWakingTable, brings_state, wakes_with_state, wakes_states, wakes_early, wakes_beside_state, may_wake_any, wakes_numbered, wakes_at, FindsFirst}
use Rattle.cert_layers.proofs.Firsts.{first_below-Some, list_any-none}
use Rattle.pop_leaf.proofs.Within.{move_small}

pub right_false : (a b : Bool) → a ≡ true → (a && b) ≡ false → b ≡ false
right_false true b is e = e
right_false false b is e = cc

module _ (early : ℕ → ℕ → Bool) (t : Move) where
  -- if an early move takes the states of t, nothing is woken
  wakes_with-early : (m o : ℕ) → early t.p t.q ≡ true → wakes_with_state early t m o ≡ false
  wakes_with-early m o e = rw e refl

  pub wakes-brought : (x y : ℕ) → brings_state t x ≡ true → wakes_states early t x y ≡ wakes_with_state early t x y
  wakes-brought x y e = rw e refl

  pub wakes-other : (x y : ℕ) → brings_state t x ≡ false → wakes_states early t x y ≡ (brings_state t y && wakes_with_state early t y x)
  wakes-other x y e = rw e refl

  wakes-early : (x y : ℕ) → early t.p t.q ≡ true → wakes_states early t x y ≡ false
  wakes-early x y e = elim (cases_Bool (brings_state t x)) [
    | inl b ↦ wakes-brought x y b ∙ wakes_with-early x y e
    | inr b ↦ wakes-other x y b ∙ and_right (brings_state t y) (wakes_with_state early t y x) (wakes_with-early y x e)
  ]

  -- if nothing is woken beside y, neither is a move that takes y and a state that t brings
  beside : (x y : ℕ) → brings_state t x ≡ true → early x y ≡ true → wakes_beside_state early t y ≡ false → wakes_states early t x y ≡ false
  beside x y b e none =
      let parts = or_parts (wakes_early early t t.r y) (wakes_early early t t.s y) none in
      elim (or_cases (x == t.r) (x == t.s) b) [
        | inl first ↦ right_false (early x y) (wakes_states early t x y) e (subst (λ (z : ℕ). wakes_early early t z y ≡ false) (sym (eqb-true x t.r first)) parts.0)
        | inr second ↦ right_false (early x y) (wakes_states early t x y) e (subst (λ (z : ℕ). wakes_early early t z y ≡ false) (sym (eqb-true x t.s second)) parts.1)
      ]

  pub asleep_pair : (states x y : ℕ) → x < states → y < states → early x y ≡ true → early y x ≡ true → may_wake_any early t states ≡ false → wakes_states early t x y ≡ false
  asleep_pair states x y xs ys e f none = by_reason (and_cases (not (early t.p t.q)) (list_any (wakes_beside_state early t) (range_with_len 0 states)) none)
    where
      by_brought : ((z : ℕ) → z < states → wakes_beside_state early t z ≡ false) → (brings_state t x ≡ true) ⊎ (brings_state t x ≡ false) → (brings_state t y ≡ true) ⊎ (brings_state t y ≡ false) → wakes_states early t x y ≡ false
      by_brought each (inl b) c = beside x y b e (each y ys)
      by_brought each (inr b) (inl c) =
          wakes-other x y b ∙ and_right (brings_state t y) (wakes_with_state early t y x) (sym (wakes-brought y x c) ∙ beside y x c f (each x xs))
      by_brought each (inr b) (inr c) = wakes-other x y b ∙ and_left (brings_state t y) (wakes_with_state early t y x) c

      by_reason : (not (early t.p t.q) ≡ false) ⊎ (list_any (wakes_beside_state early t) (range_with_len 0 states) ≡ false) → wakes_states early t x y ≡ false
      by_reason (inl p_and_q) = wakes-early x y (not-false (early t.p t.q) p_and_q)
      by_reason (inr none_beside) = by_brought (list_any-none states (wakes_beside_state early t) none_beside) (cases_Bool (brings_state t x)) (cases_Bool (brings_state t y))

-- no layer is before the first
never_early : (n : ℕ) → nat_lt n 0 ≡ false
never_early n = elim (cases_Bool (nat_lt n 0)) [
  | inl b ↦ absurd (let l = ltb-true n 0 b in omega (arith, l))
  | inr b ↦ b
]

nobody_beside : (table : List ℕ) (t : Move) (states : List ℕ) → list_any (wakes_beside_state (is_early table 0) t) states ≡ false
nobody_beside table t [] = refl
nobody_beside table t (y ∷ states) =
    rw (never_early (first_at table t.r y), never_early (first_at table t.s y)) (nobody_beside table t states)

-- so a move of the first layer wakes nothing
pub first_wakes_none : (table : List ℕ) (t : Move) (states : ℕ) → may_wake_any (is_early table 0) t states ≡ false
first_wakes_none table t states =
    and_right (not (is_early table 0 t.p t.q)) (list_any (wakes_beside_state (is_early table 0) t) (range_with_len 0 states)) (nobody_beside table t (range_with_len 0 states))

-- the states of an early move
early_both : (leaf : LeafModel) (layer_of_move : List (Option ℕ)) (table : List ℕ) (i m j : ℕ) (u : Move) → IsLeaf leaf → IsWakingTable leaf layer_of_move (length leaf.moves) table → i ≤ NO_LAYER → slice_get leaf.moves m ≡ Some u → silent_move u ≡ false → layer_of layer_of_move m ≡ Some j → j < i → (is_early table i u.p u.q ≡ true) × (is_early table i u.q u.p ≡ true)
early_both leaf layer_of_move table i m j u formed h few move loud place before =
    let small = move_small leaf m u formed move in
    let within = slice_get_within leaf.moves m u move in
    let there : IsEarly leaf layer_of_move (length leaf.moves) i u.p u.q = record { number = m; layer = j; taken = u; below = within; move_is = move; non_silent = loud; layer_is = place; before = before; takes = inl (refl, refl) } in
    let back : IsEarly leaf layer_of_move (length leaf.moves) i u.q u.p = record { number = m; layer = j; taken = u; below = within; move_is = move; non_silent = loud; layer_is = place; before = before; takes = inr (refl, refl) } in
    (lt-ltb (first_at table u.p u.q) i (h.complete i u.p u.q few small.0 small.1 there), lt-ltb (first_at table u.q u.p) i (h.complete i u.q u.p few small.1 small.0 back))

-- a move that wakes nothing by the table of pairs wakes no move
pub asleep_move : (leaf : LeafModel) (layer_of_move : List (Option ℕ)) (table : List ℕ) (i : ℕ) (t : Move) → IsLeaf leaf → IsWakingTable leaf layer_of_move (length leaf.moves) table → i ≤ NO_LAYER → may_wake_any (is_early table i) t (length leaf.states) ≡ false → (m : ℕ) → wakes_numbered leaf layer_of_move table i t m ≡ false
asleep_move leaf layer_of_move table i t formed h few none m = by_move (slice_get leaf.moves m) refl
  where
    by_before : (u : Move) (j : ℕ) → slice_get leaf.moves m ≡ Some u → silent_move u ≡ false → layer_of layer_of_move m ≡ Some j → (b : Bool) → nat_lt j i ≡ b → (b && wakes_states (is_early table i) t u.p u.q) ≡ false
    by_before u j move loud place false e = refl
    by_before u j move loud place true e =
        let both = early_both leaf layer_of_move table i m j u formed h few move loud place (ltb-true j i e) in
        let below = All-slice_get (IsMoveBelow (length leaf.states)) leaf.moves m u formed.moves move in
        asleep_pair (is_early table i) t (length leaf.states) u.p u.q below.0 below.1 both.0 both.1 none

    by_place : (u : Move) → slice_get leaf.moves m ≡ Some u → silent_move u ≡ false → (o : Option ℕ) → layer_of layer_of_move m ≡ o → some_layer (λ j. nat_lt j i && wakes_states (is_early table i) t u.p u.q) o ≡ false
    by_place u move loud None place = refl
    by_place u move loud (Some j) place = by_before u j move loud place (nat_lt j i) refl

    by_silent : (u : Move) → slice_get leaf.moves m ≡ Some u → (b : Bool) → silent_move u ≡ b → (not b && some_layer (λ j. nat_lt j i && wakes_states (is_early table i) t u.p u.q) (layer_of layer_of_move m)) ≡ false
    by_silent u move true e = refl
    by_silent u move false e = by_place u move e (layer_of layer_of_move m) refl

    by_move : (o : Option Move) → slice_get leaf.moves m ≡ o → some_move (λ u. some_layer (λ j. nat_lt j i && wakes_states (is_early table i) t u.p u.q) (layer_of layer_of_move m)) o ≡ false
    by_move None move = refl
    by_move (Some u) move = by_silent u move (silent_move u) refl

-- a move of a layer wakes what the test for its layer says
pub wakes_at-placed : (leaf : LeafModel) (layer_of_move : List (Option ℕ)) (table : List ℕ) (n m i : ℕ) (t : Move) → slice_get leaf.moves n ≡ Some t → silent_move t ≡ false → layer_of layer_of_move n ≡ Some i → wakes_at leaf layer_of_move table n m ≡ wakes_numbered leaf layer_of_move table i t m
wakes_at-placed leaf layer_of_move table n m i t move loud place = rw (move, loud, place) refl

-- so both find the same first woken move
pub finds-placed : (leaf : LeafModel) (layer_of_move : List (Option ℕ)) (table : List ℕ) (n i : ℕ) (t : Move) (found : Option ℕ) → slice_get leaf.moves n ≡ Some t → silent_move t ≡ false → layer_of layer_of_move n ≡ Some i → FindsFirst (wakes_numbered leaf layer_of_move table i t) found → FindsFirst (wakes_at leaf layer_of_move table n) found
finds-placed leaf layer_of_move table n i t None move loud place first = λ m. wakes_at-placed leaf layer_of_move table n m i t move loud place ∙ first m
finds-placed leaf layer_of_move table n i t (Some u) move loud place first =
    (wakes_at-placed leaf layer_of_move table n u i t move loud place ∙ first.0, λ m l. wakes_at-placed leaf layer_of_move table n m i t move loud place ∙ first.1 m l)

pub finds-below : (leaf : LeafModel) (layer_of_move : List (Option ℕ)) (table : List ℕ) (i : ℕ) (t : Move) (found : Option ℕ) → first_below (length leaf.moves) (wakes_numbered leaf layer_of_move table i t) ≡ found → FindsFirst (wakes_numbered leaf layer_of_move table i t) found
finds-below leaf layer_of_move table i t None is = λ m. by_size m (cases_lt m (length leaf.moves))
  where
    by_size : (m : ℕ) → (m < length leaf.moves) ⊎ (length leaf.moves ≤ m) → wakes_numbered leaf layer_of_move table i t m ≡ false
    by_size m (inl within) = (none_below (length leaf.moves) (wakes_numbered leaf layer_of_move table i t)).0 is m within
    by_size m (inr past) = rw (slice_get_past leaf.moves m past) refl
finds-below leaf layer_of_move table i t (Some u) is =
    let f = first_below-Some (length leaf.moves) (wakes_numbered leaf layer_of_move table i t) u is in (f.1, f.2)
