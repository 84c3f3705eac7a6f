-- The test of tame layers says whether they are tame.
use Rattle.std.proofs.Common.{◌≡◌, ◌≢◌, ◌⊎◌, inl, inr, ℕ, zero, suc, ◌+◌, ◌-◌, ◌<◌, ◌≤◌, Bool, true, false, not, ◌&&◌, ◌||◌, List, [], ◌∷◌, length, refl, ap, sym, subst, ◌∙◌, arith}
use Rattle.std.specs.Prelude.{Option, Some, None, slice_get, nat_lt, ◌==◌, ℤ, ◌+ℤ◌, Contains}
use Rattle.std.specs.List.{list_any, range_with_len}
use Rattle.std.specs.Int.Signed.{lt_z_yes, lt_z_no}
use Rattle.std.proofs.lemmas.Float.{T_from_true}
use Rattle.std.proofs.lemmas.Int.{ints}
use Rattle.std.proofs.lemmas.Bool.{and_parts, and_cases, or_parts, or_cases, not-true, not-false, ltb-true, lt-ltb, cases_Bool, cases_lt, cases_eq, eq-eqb, eqb-true, eqb-false, false≢true}
use Rattle.std.proofs.lemmas.Option.{slice_get_within, get_or_from_slice_get}
use Rattle.pop_leaf.specs.declared.limits.TheConstants.{STATE_LIMIT}
use Rattle.pop_leaf.specs.declared.leaf.Move.{Move}
use Rattle.pop_leaf.specs.LeafModel.{LeafModel, IsLeaf, IsMoveBelow, one_at, times_in_pair, pre, post, same_pair}
use Rattle.pop_leaf.proofs.Silent.{same_pair_cases, one_self}
use Rattle.pop_leaf.proofs.Quiet.{All-slice_get}
use Rattle.pop_leaf.proofs.Within.{move_small}
use Rattle.cert_base.specs.declared.limits.TheConstants.{LAYER_LIMIT}
use Rattle.cert_base.proofs.ListTests.{list_any-contains}
use Rattle.cert_base.specs.declared.layer.Layer.{Layer}
use Rattle.cert_base.specs.ValidLayers.{weight_at, IsLower, IsInLayer, IsEnabledBefore}
use Rattle.cert_layers.specs.declared.pairs.TheConstants.{NO_LAYER}
use Rattle.cert_layers.specs.MoveLayers.{layer_of, AreMoveLayers}
use Rattle.cert_layers.specs.Search.{no_layer, numbered_layer, some_layer, is_lower_after, is_higher_after}
use Rattle.cert_layers.specs.Waking.{first_at, is_early, IsPair, IsWakingTable, brings_state, wakes_with_state}
use Rattle.cert_base.specs.TameLayers.{IsNoHigher, IsEnabledBeside, AreApart, TameLayers}
use Rattle.cert_layers.specs.declared.work.TheConstants.{TAME_WORK_LIMIT}
use Rattle.cert_layers.specs.TameWork.{tame_work, AreTameInTime}
use Rattle.cert_layers.specs.TameTest.{wakes_low_state, wakes_low_beside, wakes_low, stands_at, stands, apart_states, apart_moves, is_beside, raises_layer, raises, fights_in, fights, any_fights}
use Rattle.cert_layers.proofs.Firsts.{list_any-none}
use Rattle.cert_layers.proofs.Asleep.{right_false}
use Rattle.cert_layers.proofs.Covers.{times-like, within_two, left_both, one, at_other}
use Rattle.cert_layers.proofs.NotLower.{in_layer, in_place, some_move-true, some_move-false, is_lower-yes, is_lower-no}
use Rattle.cert_layers.proofs.Woken.{early_move, early_test, asleep_with, awake_with}

-- ---- weights

higher-no : (w : List ℤ) (t : Move) → is_higher_after w t ≡ false → IsNoHigher w t
higher-no w t e =
    let low = lt_z_no {a = weight_at w t.p +ℤ weight_at w t.q} {b = weight_at w t.r +ℤ weight_at w t.s} (T_from_true _ (ap not e)) in omega (arith, ints, low)

higher-yes : (w : List ℤ) (t : Move) → is_higher_after w t ≡ true → IsNoHigher w t → ⊥
higher-yes w t e low =
    let high = lt_z_yes {a = weight_at w t.p +ℤ weight_at w t.q} {b = weight_at w t.r +ℤ weight_at w t.s} (T_from_true _ e) in omega (arith, ints, high, low)

-- ---- tests of a layer

some_layer-false : (test : ℕ → Bool) (o : Option ℕ) (i : ℕ) → o ≡ Some i → some_layer test o ≡ false → test i ≡ false
some_layer-false test None i is e = cc
some_layer-false test (Some j) i is e = let same : j ≡ i = cc in ap test (sym same) ∙ e

some_layer-true : (test : ℕ → Bool) (o : Option ℕ) → some_layer test o ≡ true → (i : ℕ) × (o ≡ Some i) × (test i ≡ true)
some_layer-true test None e = cc
some_layer-true test (Some i) e = (i, refl, e)

-- ---- numbers that pass a test

any_from : (test : ℕ → Bool) (a n : ℕ) → list_any test (range_with_len a n) ≡ true → (k : ℕ) × (k < a + n) × (test k ≡ true)
any_from test a zero e = cc
any_from test a (suc n) e = go (test a) refl e (any_from test (a + 1) n)
  where
    go : (b : Bool) → test a ≡ b → b || list_any test (range_with_len (a + 1) n) ≡ true → (list_any test (range_with_len (a + 1) n) ≡ true → (k : ℕ) × (k < a + 1 + n) × (test k ≡ true)) → (k : ℕ) × (k < a + suc n) × (test k ≡ true)
    go true is f more = (a, (let l : a < a + suc n = omega arith in l), is)
    go false is f more = let r = more f in let l = r.1 in (r.0, (let k : r.0 < a + suc n = omega (arith, l) in k), r.2)

any_below : (test : ℕ → Bool) (n : ℕ) → list_any test (range_with_len 0 n) ≡ true → (k : ℕ) × (k < n) × (test k ≡ true)
any_below test n e =
    let r = any_from test 0 n e in let l = r.1 in (r.0, (let k : r.0 < n = omega (arith, l) in k), r.2)

none_in : (test : ℕ → Bool) (xs : List ℕ) → list_any test xs ≡ false → (x : ℕ) → Contains xs x → test x ≡ false
none_in test [] e x c = absurd (omega (arith, c.1))
none_in test (y ∷ ys) e x (zero, l, here) =
    let parts = or_parts (test y) (list_any test ys) e in
    let same : y ≡ x = here in
    ap test (sym same) ∙ parts.0
none_in test (y ∷ ys) e x (suc k, l, there) =
    none_in test ys (or_parts (test y) (list_any test ys) e).1 x (k, (omega (arith, l)), there)

or_left_yes : (a b : Bool) → a ≡ true → a || b ≡ true
or_left_yes true b e = refl
or_left_yes false b e = cc

or_right_yes : (a b : Bool) → b ≡ true → a || b ≡ true
or_right_yes true b e = refl
or_right_yes false b e = e

-- ---- states that a move takes

abbrev Takes : Move → ℕ → Type 0
Takes w a = (w.p ≡ a) ⊎ (w.q ≡ a)

takes : (w : Move) (a : ℕ) → 1 ≤ pre w a → Takes w a
takes w a l = go (one w.p a) (one w.q a)
  where
    go : ((w.p ≡ a) × (one_at w.p a ≡ 1)) ⊎ ((w.p ≢ a) × (one_at w.p a ≡ 0)) → ((w.q ≡ a) × (one_at w.q a ≡ 1)) ⊎ ((w.q ≢ a) × (one_at w.q a ≡ 0)) → Takes w a
    go (inl h) k = inl h.0
    go (inr h) (inl k) = inr k.0
    go (inr h) (inr k) = let m = h.1 in let n = k.1 in absurd (omega (arith, l, m, n))

takes_twice : (w : Move) (a : ℕ) → 2 ≤ pre w a → (w.p ≡ a) × (w.q ≡ a)
takes_twice w a l = go (one w.p a) (one w.q a)
  where
    go : ((w.p ≡ a) × (one_at w.p a ≡ 1)) ⊎ ((w.p ≢ a) × (one_at w.p a ≡ 0)) → ((w.q ≡ a) × (one_at w.q a ≡ 1)) ⊎ ((w.q ≢ a) × (one_at w.q a ≡ 0)) → (w.p ≡ a) × (w.q ≡ a)
    go (inl h) (inl k) = (h.0, k.0)
    go (inl h) (inr k) = let m = h.1 in let n = k.1 in absurd (omega (arith, l, m, n))
    go (inr h) (inl k) = let m = h.1 in let n = k.1 in absurd (omega (arith, l, m, n))
    go (inr h) (inr k) = let m = h.1 in let n = k.1 in absurd (omega (arith, l, m, n))

-- two states that differ, both of a move, are its pair
takes_both : (w v : Move) → v.p ≢ v.q → Takes w v.p → Takes w v.q → IsPair w.p w.q v
takes_both w v ne (inl e) (inl f) = absurd (ne (sym e ∙ f))
takes_both w v ne (inl e) (inr f) = inl (e, f)
takes_both w v ne (inr e) (inl f) = inr (f, e)
takes_both w v ne (inr e) (inr f) = absurd (ne (sym e ∙ f))

same_pair-of : (t u : Move) → IsPair u.p u.q t → same_pair t.p t.q u.p u.q ≡ true
same_pair-of t u (inl e) = rw (eq-eqb t.p u.p (sym e.0), eq-eqb t.q u.q (sym e.1)) refl
same_pair-of t u (inr e) =
    or_right_yes ((t.p == u.p) && (t.q == u.q)) ((t.p == u.q) && (t.q == u.p)) (rw (eq-eqb t.p u.q (sym e.1), eq-eqb t.q u.p (sym e.0)) refl)

apart_states-yes : (early : ℕ → ℕ → Bool) (x y : ℕ) → x ≢ y → early x y ≡ true → apart_states early x y ≡ true
apart_states-yes early x y ne e = elim (cases_Bool (x == y)) [
  | inl same ↦ absurd (ne (eqb-true x y same))
  | inr other ↦ rw (other, e) refl
]

-- what takes a state of t and another one of u
apart_moves-cross : (early : ℕ → ℕ → Bool) (t u : Move) (x y : ℕ) → Takes t x → Takes u y → apart_states early x y ≡ true → apart_moves early t u ≡ true
apart_moves-cross early t u x y in_t in_u e =
    or_right_yes (early t.p t.q || early u.p u.q) ((apart_states early t.p u.p || apart_states early t.p u.q) || (apart_states early t.q u.p || apart_states early t.q u.q)) (go in_t in_u)
  where
    at : (a b : ℕ) → a ≡ x → b ≡ y → apart_states early a b ≡ true
    at a b f g = rw (f, g) e

    go : Takes t x → Takes u y → ((apart_states early t.p u.p || apart_states early t.p u.q) || (apart_states early t.q u.p || apart_states early t.q u.q)) ≡ true
    go (inl f) (inl g) = or_left_yes (apart_states early t.p u.p || apart_states early t.p u.q) (apart_states early t.q u.p || apart_states early t.q u.q) (or_left_yes (apart_states early t.p u.p) (apart_states early t.p u.q) (at t.p u.p f g))
    go (inl f) (inr g) = or_left_yes (apart_states early t.p u.p || apart_states early t.p u.q) (apart_states early t.q u.p || apart_states early t.q u.q) (or_right_yes (apart_states early t.p u.p) (apart_states early t.p u.q) (at t.p u.q f g))
    go (inr f) (inl g) = or_right_yes (apart_states early t.p u.p || apart_states early t.p u.q) (apart_states early t.q u.p || apart_states early t.q u.q) (or_left_yes (apart_states early t.q u.p) (apart_states early t.q u.q) (at t.q u.p f g))
    go (inr f) (inr g) = or_right_yes (apart_states early t.p u.p || apart_states early t.p u.q) (apart_states early t.q u.p || apart_states early t.q u.q) (or_right_yes (apart_states early t.q u.p) (apart_states early t.q u.q) (at t.q u.q f g))

apart_moves-own : (early : ℕ → ℕ → Bool) (t u : Move) → (early t.p t.q ≡ true) ⊎ (early u.p u.q ≡ true) → apart_moves early t u ≡ true
apart_moves-own early t u (inl e) =
    or_left_yes (early t.p t.q || early u.p u.q) ((apart_states early t.p u.p || apart_states early t.p u.q) || (apart_states early t.q u.p || apart_states early t.q u.q)) (or_left_yes (early t.p t.q) (early u.p u.q) e)
apart_moves-own early t u (inr e) =
    or_left_yes (early t.p t.q || early u.p u.q) ((apart_states early t.p u.p || apart_states early t.p u.q) || (apart_states early t.q u.p || apart_states early t.q u.q)) (or_right_yes (early t.p t.q) (early u.p u.q) e)

-- a move that is enabled wherever t and u are, by the early moves
apart_moves-yes : (early : ℕ → ℕ → Bool) (t u v : Move) → ((x y : ℕ) → IsPair x y v → early x y ≡ true) → IsEnabledBeside v t u → apart_moves early t u ≡ true
apart_moves-yes early t u v found beside = by (cases_eq v.p v.q)
  where
    twice : v.p ≡ v.q → 2 ≤ pre v v.p
    twice e =
        let m = one_self v.p in
        let n : one_at v.q v.p ≡ 1 = ap (λ x. one_at x v.p) (sym e) ∙ m in
        omega (arith, m, n)

    by_two : v.p ≡ v.q → (pre v v.p ≤ pre t v.p) ⊎ (pre v v.p ≤ pre u v.p) → apart_moves early t u ≡ true
    by_two e (inl l) =
        let m = twice e in
        let w = takes_twice t v.p (omega (arith, l, m)) in
        apart_moves-own early t u (inl (found t.p t.q (inl (w.0, w.1 ∙ e))))
    by_two e (inr l) =
        let m = twice e in
        let w = takes_twice u v.p (omega (arith, l, m)) in
        apart_moves-own early t u (inr (found u.p u.q (inl (w.0, w.1 ∙ e))))

    has : (z : ℕ) → 1 ≤ pre v z → (pre v z ≤ pre t z) ⊎ (pre v z ≤ pre u z) → Takes t z ⊎ Takes u z
    has z m (inl l) = inl (takes t z (omega (arith, l, m)))
    has z m (inr l) = inr (takes u z (omega (arith, l, m)))

    p_there : 1 ≤ pre v v.p
    p_there = let m = one_self v.p in omega (arith, m)

    q_there : 1 ≤ pre v v.q
    q_there = let m = one_self v.q in omega (arith, m)

    by_one : v.p ≢ v.q → Takes t v.p ⊎ Takes u v.p → Takes t v.q ⊎ Takes u v.q → apart_moves early t u ≡ true
    by_one ne (inl e) (inl f) = apart_moves-own early t u (inl (found t.p t.q (takes_both t v ne e f)))
    by_one ne (inr e) (inr f) = apart_moves-own early t u (inr (found u.p u.q (takes_both u v ne e f)))
    by_one ne (inl e) (inr f) =
        apart_moves-cross early t u v.p v.q e f (apart_states-yes early v.p v.q ne (found v.p v.q (inl (refl, refl))))
    by_one ne (inr e) (inl f) =
        apart_moves-cross early t u v.q v.p f e (apart_states-yes early v.q v.p (λ s. ne (sym s)) (found v.q v.p (inr (refl, refl))))

    by : (v.p ≡ v.q) ⊎ (v.p ≡ v.q → ⊥) → apart_moves early t u ≡ true
    by (inl e) = by_two e (beside v.p)
    by (inr ne) = by_one ne (has v.p p_there (beside v.p)) (has v.q q_there (beside v.q))

module _ (leaf : LeafModel) (layers : List Layer) (layer_of_move : List (Option ℕ)) (table : List ℕ) (formed : IsLeaf leaf) (p : AreMoveLayers leaf layers layer_of_move) (h : IsWakingTable leaf layer_of_move (length leaf.moves) table) (small : length layers ≤ LAYER_LIMIT) where
  -- a layer's number is small
  few : (i : ℕ) (t : Move) → IsInLayer leaf layers i t → i + 1 ≤ NO_LAYER
  few i t at = let w = slice_get_within layers i at.layer at.layer_is in omega (arith, w, small)

  below_limit : (i : ℕ) (t : Move) → IsInLayer leaf layers i t → IsMoveBelow STATE_LIMIT t
  below_limit i t at = move_small leaf at.number t formed at.move_is

  numbered : (i : ℕ) (t : Move) (at : IsInLayer leaf layers i t) → numbered_layer layers i ≡ at.layer
  numbered i t at = get_or_from_slice_get layers i at.layer no_layer at.layer_is

  -- the first layer that takes the states of a move of layer i is at most i
  first_most : (i : ℕ) (t : Move) (at : IsInLayer leaf layers i t) (x y : ℕ) → IsPair x y t → first_at table x y < i + 1
  first_most i t at x y pair =
      let b = below_limit i t at in
      ltb-true (first_at table x y) (i + 1)
      (early_test leaf layers layer_of_move table formed p h (i + 1) (few i t at) x y i t (let l : i < i + 1 = omega arith in l) at (xs b pair) (ys b pair) pair)
    where
      xs : IsMoveBelow STATE_LIMIT t → IsPair x y t → x < STATE_LIMIT
      xs b (inl e) = rw e.0 b.0
      xs b (inr e) = rw e.0 b.1

      ys : IsMoveBelow STATE_LIMIT t → IsPair x y t → y < STATE_LIMIT
      ys b (inl e) = rw e.1 b.1
      ys b (inr e) = rw e.1 b.0

  -- ---- a test that finds no fight

  module _ (i j : ℕ) (t u : Move) (before : i < j) (t_at : IsInLayer leaf layers i t) (u_at : IsInLayer leaf layers j u) where
    -- what takes two states of t or of u
    by_early : (x y : ℕ) → x < STATE_LIMIT → y < STATE_LIMIT → is_early table i x y ≡ true → ((z : ℕ) → (times_in_pair x y z ≤ pre t z) ⊎ (times_in_pair x y z ≤ pre u z)) → AreApart leaf layers i t u
    by_early x y xs ys e within =
        let f = early_move leaf layers layer_of_move table formed p h i (let k = few i t t_at in omega (arith, k)) x y xs ys e in
        (f.0, f.1, f.2, f.3, λ z. go f.1 z f.4 (within z))
      where
        go : (v : Move) (z : ℕ) → IsPair x y v → (times_in_pair x y z ≤ pre t z) ⊎ (times_in_pair x y z ≤ pre u z) → (pre v z ≤ pre t z) ⊎ (pre v z ≤ pre u z)
        go v z like (inl l) = inl (let k : pre v z ≤ pre t z = omega (arith, times-like v.p v.q x y z like, l) in k)
        go v z like (inr l) = inr (let k : pre v z ≤ pre u z = omega (arith, times-like v.p v.q x y z like, l) in k)

    by_apart : (x y : ℕ) → x < STATE_LIMIT → y < STATE_LIMIT → ((z : ℕ) → one_at x z ≤ pre t z) → ((z : ℕ) → one_at y z ≤ pre u z) → apart_states (is_early table i) x y ≡ true → AreApart leaf layers i t u
    by_apart x y xs ys in_t in_u e =
        let parts = and_parts (not (x == y)) (is_early table i x y) e in
        by_early x y xs ys parts.1 (λ z. go (eqb-false x y (not-true (x == y) parts.0)) z (one x z))
      where
        go : x ≢ y → (z : ℕ) → ((x ≡ z) × (one_at x z ≡ 1)) ⊎ ((x ≢ z) × (one_at x z ≡ 0)) → (times_in_pair x y z ≤ pre t z) ⊎ (times_in_pair x y z ≤ pre u z)
        go ne z (inl here) =
            let none : one_at y z ≡ 0 = at_other y z (λ e. ne (here.0 ∙ sym e)) in
            inl (let k : times_in_pair x y z ≤ pre t z = omega (arith, none, in_t z) in k)
        go ne z (inr there) =
            let none = there.1 in
            inr (let k : times_in_pair x y z ≤ pre u z = omega (arith, none, in_u z) in k)

    apart_yes : apart_moves (is_early table i) t u ≡ true → AreApart leaf layers i t u
    apart_yes e =
        elim (or_cases (is_early table i t.p t.q || is_early table i u.p u.q) ((apart_states (is_early table i) t.p u.p || apart_states (is_early table i) t.p u.q) || (apart_states (is_early table i) t.q u.p || apart_states (is_early table i) t.q u.q)) e) [
          | inl f ↦ own (or_cases (is_early table i t.p t.q) (is_early table i u.p u.q) f)
          | inr f ↦ cross (or_cases (apart_states (is_early table i) t.p u.p || apart_states (is_early table i) t.p u.q) (apart_states (is_early table i) t.q u.p || apart_states (is_early table i) t.q u.q) f)
        ]
      where
        ts : IsMoveBelow STATE_LIMIT t
        ts = below_limit i t t_at

        us : IsMoveBelow STATE_LIMIT u
        us = below_limit j u u_at

        p_in : (v : Move) (z : ℕ) → one_at v.p z ≤ pre v z
        p_in v z = omega arith

        q_in : (v : Move) (z : ℕ) → one_at v.q z ≤ pre v z
        q_in v z = omega arith

        own : (is_early table i t.p t.q ≡ true) ⊎ (is_early table i u.p u.q ≡ true) → AreApart leaf layers i t u
        own (inl f) = by_early t.p t.q ts.0 ts.1 f (λ z. inl (let k : pre t z ≤ pre t z = omega arith in k))
        own (inr f) = by_early u.p u.q us.0 us.1 f (λ z. inr (let k : pre u z ≤ pre u z = omega arith in k))

        with_p : (apart_states (is_early table i) t.p u.p ≡ true) ⊎ (apart_states (is_early table i) t.p u.q ≡ true) → AreApart leaf layers i t u
        with_p (inl f) = by_apart t.p u.p ts.0 us.0 (p_in t) (p_in u) f
        with_p (inr f) = by_apart t.p u.q ts.0 us.1 (p_in t) (q_in u) f

        with_q : (apart_states (is_early table i) t.q u.p ≡ true) ⊎ (apart_states (is_early table i) t.q u.q ≡ true) → AreApart leaf layers i t u
        with_q (inl f) = by_apart t.q u.p ts.1 us.0 (q_in t) (p_in u) f
        with_q (inr f) = by_apart t.q u.q ts.1 us.1 (q_in t) (q_in u) f

        cross : ((apart_states (is_early table i) t.p u.p || apart_states (is_early table i) t.p u.q) ≡ true) ⊎ ((apart_states (is_early table i) t.q u.p || apart_states (is_early table i) t.q u.q) ≡ true) → AreApart leaf layers i t u
        cross (inl f) =
            with_p (or_cases (apart_states (is_early table i) t.p u.p) (apart_states (is_early table i) t.p u.q) f)
        cross (inr f) =
            with_q (or_cases (apart_states (is_early table i) t.q u.p) (apart_states (is_early table i) t.q u.q) f)

    -- ---- no rise

    rise_by : raises leaf layers layer_of_move table j u ≡ false → IsNoHigher t_at.layer.weights u ⊎ AreApart leaf layers i t u
    rise_by e =
        go (and_cases (is_higher_after (numbered_layer layers i).weights u) (list_any (is_beside leaf layer_of_move table i u) (numbered_layer layers i).moves) (list_any-none j (raises_layer leaf layers layer_of_move table u) e i before))
      where
        go : (is_higher_after (numbered_layer layers i).weights u ≡ false) ⊎ (list_any (is_beside leaf layer_of_move table i u) (numbered_layer layers i).moves ≡ false) → IsNoHigher t_at.layer.weights u ⊎ AreApart leaf layers i t u
        go (inl low) = inl (subst (λ (l : Layer). IsNoHigher l.weights u) (numbered i t t_at) (higher-no (numbered_layer layers i).weights u low))
        go (inr none) =
            let f = none_in (is_beside leaf layer_of_move table i u) (numbered_layer layers i).moves none t_at.number (subst (λ (l : Layer). Contains l.moves t_at.number) (sym (numbered i t t_at)) t_at.lists) in
            let g = some_move-false (λ v. some_layer (λ k. (k == i) && not (apart_moves (is_early table i) v u)) (layer_of layer_of_move t_at.number)) (slice_get leaf.moves t_at.number) t f t_at.move_is t_at.non_silent in
            let k = some_layer-false (λ k. (k == i) && not (apart_moves (is_early table i) t u)) (layer_of layer_of_move t_at.number) i (in_place leaf layers layer_of_move i t p t_at) g in
            inr (apart_yes (not-false (apart_moves (is_early table i) t u) (right_false (i == i) (not (apart_moves (is_early table i) t u)) (eq-eqb i i refl) k)))

    -- ---- the same states

    pair_of : same_pair t.p t.q u.p u.q ≡ true → IsPair u.p u.q t
    pair_of same = elim (same_pair_cases t.p t.q u.p u.q same) as (λ _. IsPair u.p u.q t) [
      | inl e ↦ inl (sym e.0, sym e.1)
      | inr e ↦ inr (sym e.1, sym e.0)
    ]

    stand_by : stands layers table j u ≡ false → same_pair t.p t.q u.p u.q ≡ true → IsLower t_at.layer.weights u ⊎ AreApart leaf layers i t u
    stand_by e same = go (cases_lt (first_at table u.p u.q) i)
      where
        us : IsMoveBelow STATE_LIMIT u
        us = below_limit j u u_at

        at_i : first_at table u.p u.q ≡ i → IsLower t_at.layer.weights u
        at_i is =
            let f : stands_at layers j u i ≡ false = ap (stands_at layers j u) (sym is) ∙ e in
            let g = right_false (nat_lt i j) (not (is_lower_after (numbered_layer layers i).weights u)) (lt-ltb i j before) f in
            subst (λ (l : Layer). IsLower l.weights u) (numbered i t t_at) (is_lower-yes (numbered_layer layers i).weights u (not-false (is_lower_after (numbered_layer layers i).weights u) g))

        go : (first_at table u.p u.q < i) ⊎ (i ≤ first_at table u.p u.q) → IsLower t_at.layer.weights u ⊎ AreApart leaf layers i t u
        go (inl less) =
            inr (by_early u.p u.q us.0 us.1 (lt-ltb (first_at table u.p u.q) i less) (λ z. inr (let k : pre u z ≤ pre u z = omega arith in k)))
        go (inr more) =
            let l = first_most i t t_at u.p u.q (pair_of same) in
            inl (at_i (let k : first_at table u.p u.q ≡ i = omega (arith, l, more) in k))

    -- ---- no waking

    wake_by : wakes_low table j u (length leaf.states) ≡ false → (k : ℕ) × (v : Move) × (k ≤ i) × IsInLayer leaf layers k v × IsEnabledBefore v u t
    wake_by e = go (cases_Bool (brings_state u t.p)) (cases_Bool (brings_state u t.q))
      where
        us : IsMoveBelow STATE_LIMIT u
        us = below_limit j u u_at

        ts : IsMoveBelow STATE_LIMIT t
        ts = below_limit i t t_at

        inside : IsMoveBelow (length leaf.states) t
        inside = All-slice_get (IsMoveBelow (length leaf.states)) leaf.moves t_at.number t formed.moves t_at.move_is

        low : (m y : ℕ) → brings_state u m ≡ true → y < length leaf.states → wakes_low_state table j u m y ≡ false
        low m y b ys =
            let parts = or_parts (wakes_low_state table j u u.r y) (wakes_low_state table j u u.s y) (list_any-none (length leaf.states) (wakes_low_beside table j u) e y ys) in
            elim (or_cases (m == u.r) (m == u.s) b) [
              | inl f ↦ subst (λ n. wakes_low_state table j u n y ≡ false) (sym (eqb-true m u.r f)) parts.0
              | inr f ↦ subst (λ n. wakes_low_state table j u n y ≡ false) (sym (eqb-true m u.s f)) parts.1
            ]

        by : (m o : ℕ) → brings_state u m ≡ true → o < length leaf.states → o < STATE_LIMIT → IsPair m o t → (k : ℕ) × (v : Move) × (k ≤ i) × IsInLayer leaf layers k v × IsEnabledBefore v u t
        by m o b inner os pair =
            let l = first_most i t t_at m o pair in
            let f = right_false (nat_lt (first_at table m o) j) (wakes_with_state (is_early table (first_at table m o + 1)) u m o) (lt-ltb (first_at table m o) j (omega (arith, l, before))) (low m o b inner) in
            let w = asleep_with leaf layers layer_of_move table formed p h (first_at table m o + 1) (let k = few i t t_at in omega (arith, k, l)) u t us m o os b f in
            let up = w.2 in
            (w.0, w.1, (let k : w.0 ≤ i = omega (arith, up, l) in k), w.3, λ z. (let k : pre w.1 z ≤ pre u z + (pre t z - post u z) = omega (arith, w.4 z, times-like t.p t.q m o z pair) in k))

        go : (brings_state u t.p ≡ true) ⊎ (brings_state u t.p ≡ false) → (brings_state u t.q ≡ true) ⊎ (brings_state u t.q ≡ false) → (k : ℕ) × (v : Move) × (k ≤ i) × IsInLayer leaf layers k v × IsEnabledBefore v u t
        go (inl b) c = by t.p t.q b inside.1 ts.1 (inl (refl, refl))
        go (inr b) (inl c) = by t.q t.p c inside.0 ts.0 (inr (refl, refl))
        go (inr b) (inr c) =
            (i, t, (let k : i ≤ i = omega arith in k), t_at, λ z. (let l : pre t z ≤ pre u z + (pre t z - post u z) = omega (arith, left_both u t.p t.q b c z) in l))

  -- what the test says of a move
  unfought : any_fights leaf layers layer_of_move table ≡ false → (j : ℕ) (u : Move) → IsInLayer leaf layers j u → (wakes_low table j u (length leaf.states) ≡ false) × (stands layers table j u ≡ false) × (raises leaf layers layer_of_move table j u ≡ false)
  unfought e j u at =
      let f = list_any-none (length leaf.moves) (fights leaf layers layer_of_move table) e at.number (slice_get_within leaf.moves at.number u at.move_is) in
      let g = some_move-false (λ v. some_layer (λ i. fights_in leaf layers layer_of_move table i v) (layer_of layer_of_move at.number)) (slice_get leaf.moves at.number) u f at.move_is at.non_silent in
      let k = some_layer-false (λ i. fights_in leaf layers layer_of_move table i u) (layer_of layer_of_move at.number) j (in_place leaf layers layer_of_move j u p at) g in
      let parts = or_parts (wakes_low table j u (length leaf.states)) (stands layers table j u || raises leaf layers layer_of_move table j u) k in
      let more = or_parts (stands layers table j u) (raises leaf layers layer_of_move table j u) parts.1 in
      (parts.0, more.0, more.1)

  pub no_fight : any_fights leaf layers layer_of_move table ≡ false → TameLayers leaf layers
  no_fight e =
      record {
        no_rise = λ i j t u before t_at u_at. rise_by i j t u before t_at u_at (unfought e j u u_at).2;
        same_states = λ i j t u before t_at u_at same. stand_by i j t u before t_at u_at (unfought e j u u_at).1 same;
        no_waking = λ i j t u before t_at u_at. wake_by i j t u before t_at u_at (unfought e j u u_at).0;
      }

  -- ---- tame layers, and the test finds no fight

  -- an early move's states pass the test
  early_of : (i k : ℕ) (v : Move) → i ≤ NO_LAYER → k < i → IsInLayer leaf layers k v → (x y : ℕ) → IsPair x y v → is_early table i x y ≡ true
  early_of i k v l before at x y pair =
      let most = first_most k v at x y pair in lt-ltb (first_at table x y) i (omega (arith, most, before))

  module _ (tame : TameLayers leaf layers) (j : ℕ) (u : Move) (u_at : IsInLayer leaf layers j u) where
    u_small : IsMoveBelow STATE_LIMIT u
    u_small = below_limit j u u_at

    wakes_no : wakes_low table j u (length leaf.states) ≡ true → ⊥
    wakes_no e =
        let s = any_below (wakes_low_beside table j u) (length leaf.states) e in
        let l = s.1 in
        let k = formed.states in
        let ys : s.0 < STATE_LIMIT = omega (arith, l, k) in
        elim (or_cases (wakes_low_state table j u u.r s.0) (wakes_low_state table j u u.s s.0) s.2) [
          | inl f ↦ at_state u.r s.0 (or_left_yes (u.r == u.r) (u.r == u.s) (eq-eqb u.r u.r refl)) u_small.2 ys f
          | inr f ↦ at_state u.s s.0 (or_right_yes (u.s == u.r) (u.s == u.s) (eq-eqb u.s u.s refl)) u_small.3 ys f
        ]
      where
        at_state : (m y : ℕ) → brings_state u m ≡ true → m < STATE_LIMIT → y < STATE_LIMIT → wakes_low_state table j u m y ≡ true → ⊥
        at_state m y b ms ys f =
            let parts = and_parts (nat_lt (first_at table m y) j) (wakes_with_state (is_early table (first_at table m y + 1)) u m y) f in
            let less = ltb-true (first_at table m y) j parts.0 in
            let most = few j u u_at in
            let fits : first_at table m y + 1 ≤ NO_LAYER = omega (arith, less, most) in
            let g = early_move leaf layers layer_of_move table formed p h (first_at table m y + 1) fits m y ms ys (lt-ltb (first_at table m y) (first_at table m y + 1) (omega arith)) in
            let up = g.2 in
            let w = tame.no_waking g.0 j g.1 u (omega (arith, up, less)) g.3 u_at in
            let low = w.2 in
            awake_with leaf layers layer_of_move table formed p h (first_at table m y + 1) fits u g.1 u_small m y ys b parts.1 w.0 w.1 (omega (arith, up, low)) w.3
            (λ z. (let k : pre w.1 z ≤ pre u z + (times_in_pair m y z - post u z) = omega (arith, w.4 z, times-like g.1.p g.1.q m y z g.4) in k))

    stands_no : stands layers table j u ≡ true → ⊥
    stands_no e =
        let first = first_at table u.p u.q in
        let parts = and_parts (nat_lt first j) (not (is_lower_after (numbered_layer layers first).weights u)) e in
        let less = ltb-true first j parts.0 in
        let most = few j u u_at in
        let g = early_move leaf layers layer_of_move table formed p h (first + 1) (omega (arith, less, most)) u.p u.q u_small.0 u_small.1 (lt-ltb first (first + 1) (omega arith)) in
        let up = g.2 in
        let back = first_most g.0 g.1 g.3 u.p u.q g.4 in
        at_first g.0 g.1 g.3 g.4 (let k : first ≡ g.0 = omega (arith, up, back) in k) (let k : g.0 < j = omega (arith, up, less) in k) (not-true (is_lower_after (numbered_layer layers first).weights u) parts.1)
      where
        at_first : (k : ℕ) (t : Move) (t_at : IsInLayer leaf layers k t) → IsPair u.p u.q t → first_at table u.p u.q ≡ k → k < j → is_lower_after (numbered_layer layers (first_at table u.p u.q)).weights u ≡ false → ⊥
        at_first k t t_at pair is before high = go (tame.same_states k j t u before t_at u_at (same_pair-of t u pair))
          where
            within : (v : Move) → IsEnabledBeside v t u → (z : ℕ) → times_in_pair v.p v.q z ≤ times_in_pair u.p u.q z
            within v beside z = by (beside z)
              where
                by : (pre v z ≤ pre t z) ⊎ (pre v z ≤ pre u z) → times_in_pair v.p v.q z ≤ times_in_pair u.p u.q z
                by (inl l) = omega (arith, l, times-like t.p t.q u.p u.q z pair)
                by (inr l) = l

            go : IsLower t_at.layer.weights u ⊎ AreApart leaf layers k t u → ⊥
            go (inl lower) =
                let there : numbered_layer layers (first_at table u.p u.q) ≡ t_at.layer = ap (numbered_layer layers) is ∙ numbered k t t_at in
                is_lower-no t_at.layer.weights u (ap (λ (l : Layer). is_lower_after l.weights u) (sym there) ∙ high) lower
            go (inr (n, v, l, v_at, beside)) =
                let most = first_most n v v_at u.p u.q (within_two v.p v.q u.p u.q (within v beside)) in
                omega (arith, most, l, is)

    raises_no : raises leaf layers layer_of_move table j u ≡ true → ⊥
    raises_no e =
        let s = any_below (raises_layer leaf layers layer_of_move table u) j e in
        let parts = and_parts (is_higher_after (numbered_layer layers s.0).weights u) (list_any (is_beside leaf layer_of_move table s.0 u) (numbered_layer layers s.0).moves) s.2 in
        let n = list_any-contains (is_beside leaf layer_of_move table s.0 u) (numbered_layer layers s.0).moves parts.1 in
        let f = some_move-true (λ t. some_layer (λ k. (k == s.0) && not (apart_moves (is_early table s.0) t u)) (layer_of layer_of_move n.0)) (slice_get leaf.moves n.0) n.2 in
        let g = some_layer-true (λ k. (k == s.0) && not (apart_moves (is_early table s.0) f.0 u)) (layer_of layer_of_move n.0) f.3 in
        let both = and_parts (g.0 == s.0) (not (apart_moves (is_early table s.0) f.0 u)) g.2 in
        by s.0 f.0 s.1 parts.0 (in_layer leaf layers layer_of_move n.0 s.0 f.0 p f.1 f.2 (g.1 ∙ ap Some (eqb-true g.0 s.0 both.0))) (not-true (apart_moves (is_early table s.0) f.0 u) both.1)
      where
        by : (i : ℕ) (t : Move) → i < j → is_higher_after (numbered_layer layers i).weights u ≡ true → IsInLayer leaf layers i t → apart_moves (is_early table i) t u ≡ false → ⊥
        by i t before higher t_at beside = go (tame.no_rise i j t u before t_at u_at)
          where
            go : IsNoHigher t_at.layer.weights u ⊎ AreApart leaf layers i t u → ⊥
            go (inl low) =
                higher-yes (numbered_layer layers i).weights u higher (subst (λ (l : Layer). IsNoHigher l.weights u) (sym (numbered i t t_at)) low)
            go (inr (n, v, l, v_at, within)) =
                let most = few i t t_at in
                false≢true (sym beside ∙ apart_moves-yes (is_early table i) t u v (early_of i n v (omega (arith, most)) l v_at) within)

  pub some_fight : TameLayers leaf layers → any_fights leaf layers layer_of_move table ≡ true → ⊥
  some_fight tame e =
      let s = any_below (fights leaf layers layer_of_move table) (length leaf.moves) e in
      let f = some_move-true (λ u. some_layer (λ j. fights_in leaf layers layer_of_move table j u) (layer_of layer_of_move s.0)) (slice_get leaf.moves s.0) s.2 in
      let g = some_layer-true (λ j. fights_in leaf layers layer_of_move table j f.0) (layer_of layer_of_move s.0) f.3 in
      let at = in_layer leaf layers layer_of_move s.0 g.0 f.0 p f.1 f.2 g.1 in
      elim (or_cases (wakes_low table g.0 f.0 (length leaf.states)) (stands layers table g.0 f.0 || raises leaf layers layer_of_move table g.0 f.0) g.2) [
        | inl w ↦ wakes_no tame g.0 f.0 at w
        | inr r ↦ elim (or_cases (stands layers table g.0 f.0) (raises leaf layers layer_of_move table g.0 f.0) r) as (λ _. ⊥) [
          | inl w ↦ stands_no tame g.0 f.0 at w
          | inr w ↦ raises_no tame g.0 f.0 at w
        ]
      ]

  pub decides_in_time : (within found : Bool) → within ≡ true → (within ≡ true → tame_work leaf layers ≤ TAME_WORK_LIMIT) × (tame_work leaf layers ≤ TAME_WORK_LIMIT → within ≡ true) → found ≡ any_fights leaf layers layer_of_move table → (not found ≡ true → AreTameInTime leaf layers) × (AreTameInTime leaf layers → not found ≡ true)
  decides_in_time within found is work same = (
    (λ f. record { tame = no_fight (sym same ∙ not-true found f); in_time = work.0 is }),
    (λ both. elim (cases_Bool found) [ inl f ↦ absurd (some_fight both.tame (sym same ∙ f)) | inr f ↦ ap not f ]),
  )

  pub decides_beyond : (within : Bool) → within ≡ false → (within ≡ true → tame_work leaf layers ≤ TAME_WORK_LIMIT) × (tame_work leaf layers ≤ TAME_WORK_LIMIT → within ≡ true) → (within ≡ true → AreTameInTime leaf layers) × (AreTameInTime leaf layers → within ≡ true)
  decides_beyond within is work = ((λ f. absurd (false≢true (sym is ∙ f))), (λ both. work.1 both.in_time))
