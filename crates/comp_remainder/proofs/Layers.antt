-- The layers of a built leaf of `Rest` are valid.
use Rattle.std.proofs.Common.{◌≡◌, ◌≢◌, inl, inr, subst, ℕ, ◌+◌, ◌%◌, ◌<◌, ◌≤◌, Bool, true, false, List, [], ◌∷◌, length, get_or, refl, ap, sym, ◌∙◌, zero-add, arith}
use Rattle.std.specs.Prelude.{ℤ, pos, not, ◌==◌, nat_lt, All, Contains}
use Rattle.std.proofs.lemmas.Int.{ints}
use Rattle.std.proofs.Math.Nat.{mod-lt}
use Rattle.std.proofs.lemmas.Bool.{lt-ltb, le-ltb, cases_lt, eq-eqb, ne_eqb}
use Rattle.std.proofs.lemmas.List.Elements.{All-nil, All-cons, All-contains}
use Rattle.std.proofs.lemmas.List.FromFn.{length-map-range_with_len, get_or-map-range_with_len}
use Rattle.pop_leaf.specs.declared.leaf.Move.{Move}
use Rattle.pop_leaf.specs.LeafModel.{LeafModel, silent_move}
use Rattle.cert_base.specs.FactsAndCases.{indicator}
use Rattle.cert_base.specs.ValidLayers.{weight_at, IsLower, ValidLayers}
use Rattle.comp_trees.specs.SortedLayers.{leader_kind, IsLeaderProtocol}
use Rattle.comp_trees.proofs.SortedLayers.{AreKinds, sorted_layers-valid}
use Rattle.comp_trees.proofs.LeaderLayers.{kind-pair, kind-below, kind-up, kind-down, leader_wakes}
use Rattle.comp_remainder.specs.RemainderLeaf.{remainder_follower, leader_meeting, follower_turn, remainder_moves, remainder_state_name, remainder_leaf_of}
use Rattle.comp_remainder.specs.RemainderLayers.{indicator_weights, all_weights, remainder_layers}
use Rattle.comp_remainder.proofs.MoveLists.{all_moves, has_pair, follower-above, follower-below, followers-apart, pair-loud, turn-loud}
use Rattle.cert_base.specs.TameLayers.{IsNoHigher, TameLayers}
use Rattle.comp_trees.proofs.TameKinds.{sorted_layers-tame}
use Rattle.comp_trees.proofs.LeaderTame.{AreTurns, leaders-tame}
use Rattle.comp_remainder.proofs.SingleMoves.{moves-single}

weight-is : (m : ℕ) (test : ℕ → Bool) (q : ℕ) (b : Bool) → q < m + 2 → test q ≡ b → weight_at (indicator_weights m test) q ≡ indicator b
weight-is m test q b l e = get_or-map-range_with_len (λ q. indicator (test q)) 0 (m + 2) q q (pos 0) l (zero-add q) ∙ ap indicator e

lower_of : (m : ℕ) (t : Move) (k : ℕ) (weights : List ℤ) → leader_kind m t ≡ k → get_or (all_weights m) k [] ≡ weights → IsLower weights t → IsLower (get_or (all_weights m) (leader_kind m t) []) t
lower_of m t k weights e f h = subst (λ w. IsLower w t) (sym (ap (λ i. get_or (all_weights m) i []) e ∙ f)) h

-- two leaders weigh more than a leader and a follower
lower-pair : (m rest p q : ℕ) → p < m → q < m → IsLower (get_or (all_weights m) (leader_kind m (leader_meeting m rest p q)) []) (leader_meeting m rest p q)
lower-pair m rest p q l k =
    let test : ℕ → Bool = λ q. nat_lt q m in
    let bit = ((p + q) % m) == rest in
    let r_below = mod-lt (p + q) (let some : 0 < m = omega arith in some) in
    let p_is = weight-is m test p true (omega arith) (lt-ltb p m l) in
    let q_is = weight-is m test q true (omega arith) (lt-ltb q m k) in
    let r_is = weight-is m test ((p + q) % m) true (omega arith) (lt-ltb ((p + q) % m) m r_below) in
    let s_is = weight-is m test (remainder_follower m bit) false (follower-below m bit) (le-ltb (remainder_follower m bit) m (follower-above m bit)) in
    lower_of m (leader_meeting m rest p q) 0 (indicator_weights m test) (kind-pair m (leader_meeting m rest p q) k) refl (omega (arith, ints, p_is, q_is, r_is, s_is))

lower-turn : (m p : ℕ) (bit : Bool) → p < m → IsLower (get_or (all_weights m) (leader_kind m (record { p = p; q = remainder_follower m (not bit); r = p; s = remainder_follower m bit })) []) (record { p = p; q = remainder_follower m (not bit); r = p; s = remainder_follower m bit })
lower-turn m p true l =
    let test : ℕ → Bool = λ q. q == m in
    let p_is = weight-is m test p false (omega arith) (ne_eqb p m (λ e. omega arith)) in
    let q_is = weight-is m test m true (omega arith) (eq-eqb m m refl) in
    let s_is = weight-is m test (m + 1) false (omega arith) (ne_eqb (m + 1) m (λ e. omega arith)) in
    lower_of m (record { p = p; q = m; r = p; s = m + 1 }) 1 (indicator_weights m test) (kind-up m (record { p = p; q = m; r = p; s = m + 1 }) (omega arith) refl (omega arith)) refl (omega (arith, ints, p_is, q_is, s_is))
lower-turn m p false l =
    let test : ℕ → Bool = λ q. q == m + 1 in
    let p_is = weight-is m test p false (omega arith) (ne_eqb p (m + 1) (λ e. omega arith)) in
    let q_is = weight-is m test (m + 1) true (omega arith) (eq-eqb (m + 1) (m + 1) refl) in
    let s_is = weight-is m test m false (omega arith) (ne_eqb m (m + 1) (λ e. omega arith)) in
    lower_of m (record { p = p; q = m + 1; r = p; s = m }) 2 (indicator_weights m test) (kind-down m (record { p = p; q = m + 1; r = p; s = m }) (omega arith) refl (omega arith)) refl (omega (arith, ints, p_is, q_is, s_is))

-- a move that makes a follower of this bit, and a move with a follower second
pub record IsSettled (m rest : ℕ) (t : Move) : Type 0 where
  pub turns : m ≤ t.q → (t.q ≡ remainder_follower m (not (t.p == rest))) × (t.s ≡ remainder_follower m (t.p == rest))

all_settled : (m rest : ℕ) → All (IsSettled m rest) (remainder_moves m rest)
all_settled m rest =
    all_moves m rest (IsSettled m rest) (λ p q l k. record { turns = λ h. absurd (omega arith) }) (λ p l. record { turns = λ h. (refl, refl) })

module _ (coefs : List ℤ) (m rest spare : ℕ) where
  abbrev leaf : LeafModel
  leaf = remainder_leaf_of coefs m rest spare

  settled : (t u : Move) → Contains leaf.moves t → Contains leaf.moves u → m ≤ t.q → t.r ≡ t.p → u.q ≡ t.s → u.p ≢ t.p
  settled t u ct cu above e f g =
      let x = (All-contains (IsSettled m rest) leaf.moves t (all_settled m rest) ct).turns above in
      let late : m ≤ u.q = subst (λ z. m ≤ z) (sym (f ∙ x.1)) (follower-above m (t.p == rest)) in
      let y = (All-contains (IsSettled m rest) leaf.moves u (all_settled m rest) cu).turns late in
      followers-apart m (t.p == rest) (ap (λ p. remainder_follower m (not (p == rest))) (sym g) ∙ sym y.0 ∙ f ∙ x.1)

  is_protocol : IsLeaderProtocol leaf m
  is_protocol = record {
    loud = all_moves m rest (λ t. silent_move t ≡ false) (λ p q l k. pair-loud m rest p q l k) (λ p l. turn-loud m rest p l);
    leads = all_moves m rest (λ t. t.p < m) (λ p q l k. l) (λ p l. l);
    follows = all_moves m rest (λ t. m ≤ t.s) (λ p q l k. follower-above m (((p + q) % m) == rest)) (λ p l. follower-above m (p == rest));
    meet = λ p q l k ne. elim (cases_lt p q) [
      | inl h ↦ (leader_meeting m rest p q, has_pair m rest p q (omega arith) k, k, inl (refl, refl))
      | inr h ↦ (leader_meeting m rest q p, has_pair m rest q p h l, l, inr (refl, refl))
    ];
    settled = settled;
  }

  long : (test : ℕ → Bool) → length (indicator_weights m test) ≡ length leaf.states
  long test = length-map-range_with_len (λ q. indicator (test q)) 0 (m + 2) ∙ sym (length-map-range_with_len (remainder_state_name m) 0 (m + 2))

  are_kinds : AreKinds leaf (leader_kind m) (all_weights m)
  are_kinds = record {
    long = All-cons (λ w. length w ≡ length leaf.states) (indicator_weights m (λ q. nat_lt q m)) (indicator_weights m (λ q. q == m) ∷ indicator_weights m (λ q. q == m + 1) ∷ []) (long (λ q. nat_lt q m))
        (All-cons (λ w. length w ≡ length leaf.states) (indicator_weights m (λ q. q == m)) (indicator_weights m (λ q. q == m + 1) ∷ []) (long (λ q. q == m))
        (All-cons (λ w. length w ≡ length leaf.states) (indicator_weights m (λ q. q == m + 1)) [] (long (λ q. q == m + 1)) (All-nil (λ w. length w ≡ length leaf.states))));
    kinds = all_moves m rest (λ t. leader_kind m t < length (all_weights m)) (λ p q l k. let h = kind-below m (leader_meeting m rest p q) in omega arith) (λ p l. let h = kind-below m (follower_turn m rest p) in omega arith);
    lower = all_moves m rest (λ t. IsLower (get_or (all_weights m) (leader_kind m t) []) t) (λ p q l k. lower-pair m rest p q l k) (λ p l. lower-turn m p (p == rest) l);
    wakes = leader_wakes leaf m is_protocol;
  }

  pub layers-valid : ValidLayers leaf (remainder_layers leaf m)
  layers-valid = sorted_layers-valid leaf (leader_kind m) (all_weights m) are_kinds

  -- ---- the layers are tame

  pair-first : {A : Type 0} (p q k : ℕ) → q < m → 0 < k → leader_kind m (leader_meeting m rest p q) ≡ k → A
  pair-first p q k l more e = let zero_kind = kind-pair m (leader_meeting m rest p q) l in absurd (omega (arith, zero_kind, more, e))

  turn-up : (p : ℕ) → (p == rest) ≡ true → leader_kind m (follower_turn m rest p) ≡ 1
  turn-up p e =
      let l : remainder_follower m (not (p == rest)) < remainder_follower m (p == rest) = rw e (omega arith) in
      kind-up m (follower_turn m rest p) (follower-above m (not (p == rest))) refl l

  turn-down : (p : ℕ) → (p == rest) ≡ false → leader_kind m (follower_turn m rest p) ≡ 2
  turn-down p e =
      let l : remainder_follower m (p == rest) ≤ remainder_follower m (not (p == rest)) = rw e (omega arith) in
      kind-down m (follower_turn m rest p) (follower-above m (not (p == rest))) refl l

  up_says : (p : ℕ) (b : Bool) → (p == rest) ≡ b → leader_kind m (follower_turn m rest p) ≡ 1 → (p == rest) ≡ true
  up_says p true e k = e
  up_says p false e k = let two = turn-down p e in absurd (omega (arith, two, k))

  down_says : (p : ℕ) (b : Bool) → (p == rest) ≡ b → leader_kind m (follower_turn m rest p) ≡ 2 → (p == rest) ≡ false
  down_says p false e k = e
  down_says p true e k = let one = turn-up p e in absurd (omega (arith, one, k))

  -- a turn keeps the number of leaders
  turn-still : (p : ℕ) → p < m → IsNoHigher (indicator_weights m (λ q. nat_lt q m)) (follower_turn m rest p)
  turn-still p l =
      let test : ℕ → Bool = λ q. nat_lt q m in
      let old = remainder_follower m (not (p == rest)) in
      let new = remainder_follower m (p == rest) in
      let p_is = weight-is m test p true (omega (arith, l)) (lt-ltb p m l) in
      let q_is = weight-is m test old false (follower-below m (not (p == rest))) (le-ltb old m (follower-above m (not (p == rest)))) in
      let s_is = weight-is m test new false (follower-below m (p == rest)) (le-ltb new m (follower-above m (p == rest))) in
      omega (arith, ints, p_is, q_is, s_is)

  are_turns : AreTurns leaf m (all_weights m) (λ p. p == rest)
  are_turns = record {
    still = all_moves m rest (λ t. 0 < leader_kind m t → IsNoHigher (get_or (all_weights m) 0 []) t) (λ p q l k more. pair-first p q (leader_kind m (leader_meeting m rest p q)) k more refl) (λ p l more. turn-still p l);
    up = all_moves m rest (λ t. leader_kind m t ≡ 1 → (t.p == rest) ≡ true) (λ p q l k e. pair-first p q 1 k (omega arith) e) (λ p l e. up_says p (p == rest) refl e);
    down = all_moves m rest (λ t. leader_kind m t ≡ 2 → (t.p == rest) ≡ false) (λ p q l k e. pair-first p q 2 k (omega arith) e) (λ p l e. down_says p (p == rest) refl e);
  }

  pub layers-tame : TameLayers leaf (remainder_layers leaf m)
  layers-tame =
      sorted_layers-tame leaf (leader_kind m) (all_weights m) are_kinds
      (leaders-tame leaf m is_protocol (all_weights m) (λ p. p == rest) (moves-single m rest) are_turns)
