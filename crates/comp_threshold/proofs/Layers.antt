-- The layers of a built leaf of `Less` are valid.
use Rattle.std.proofs.Common.{◌≡◌, ◌≢◌, ◌⊎◌, inl, inr, subst, ℕ, ◌+◌, ◌<◌, ◌≤◌, Bool, true, false, List, [], ◌∷◌, length, get_or, refl, ap, sym, ◌∙◌, zero-add, arith}
use Rattle.std.specs.Prelude.{ℤ, pos, ◌+ℤ◌, ◌<ℤ◌, if◌then◌else◌, not, ◌==◌, nat_lt, All, Contains}
use Rattle.std.proofs.lemmas.Int.{ints}
use Rattle.std.proofs.lemmas.Bool.{lt-ltb, le-ltb, cases_lt, eq-eqb}
use Rattle.std.proofs.lemmas.Bool.Decides.{eqb_tells}
use Rattle.std.proofs.lemmas.List.Elements.{All-nil, All-cons, All-contains, All-weaker}
use Rattle.std.proofs.lemmas.List.FromFn.{length-map-range_with_len, get_or-map-range_with_len}
use Rattle.pop_leaf.specs.declared.leaf.Move.{Move}
use Rattle.pop_leaf.specs.LeafModel.{LeafModel, silent_move}
use Rattle.cert_base.specs.ValidLayers.{weight_at, IsLower, ValidLayers}
use Rattle.comp_trees.specs.SortedLayers.{leader_kind, IsLeaderProtocol}
use Rattle.comp_trees.proofs.SortedLayers.{AreKinds, sorted_layers-valid}
use Rattle.comp_trees.proofs.LeaderLayers.{kind-pair, kind-below, kind-first, kind-up, kind-down, leader_wakes}
use Rattle.comp_threshold.specs.ThresholdLeaf.{span_of, threshold_place, threshold_follower, joined_value, leftover, threshold_leader_move, alters_states, threshold_moves, threshold_state_count, threshold_state_name, built}
use Rattle.comp_threshold.specs.ThresholdProof.{threshold_distance, threshold_first_weight, threshold_false_weight, threshold_true_weight, threshold_weights, threshold_layers}
use Rattle.comp_threshold.proofs.Places.{IsCut, cut, Kind, a_leader, a_follower, kind_of, place-follower, follower-above, follower-below}
use Rattle.comp_threshold.proofs.MoveLists.{all_moves_changing, leader_move-cut, pair-loud, turn-loud, has_pair}
use Rattle.cert_base.specs.TameLayers.{IsNoHigher, TameLayers}
use Rattle.comp_trees.proofs.TameKinds.{sorted_layers-tame}
use Rattle.comp_trees.proofs.LeaderTame.{AreTurns, leaders-tame}
use Rattle.comp_threshold.proofs.Single.{moves-single}

-- ---- weights

weight-is : (s : ℕ) (weight : ℕ → ℤ) (q : ℕ) → q < threshold_state_count s → weight_at (threshold_weights s weight) q ≡ weight q
weight-is s weight q l = get_or-map-range_with_len weight 0 (threshold_state_count s) q q (pos 0) l (zero-add q)

pub first-leader : (s p : ℕ) → p < span_of s → threshold_first_weight s p ≡ pos (s + 1)
first-leader s p l = rw (lt-ltb p (span_of s) l) refl

pub first-follower : (s v : ℕ) (bit : Bool) → v < span_of s → threshold_first_weight s (threshold_follower s bit v) ≡ pos (threshold_distance s v)
first-follower s v bit l =
    let above = follower-above s v bit in
    let place = place-follower s v bit l in
    ap (λ (b : Bool). if b then pos (s + 1) else pos (threshold_distance s (threshold_place s (threshold_follower s bit v)))) (le-ltb (threshold_follower s bit v) (span_of s) above) ∙ ap (λ k. pos (threshold_distance s k)) place

pub false-leader : (s p : ℕ) → p < span_of s → threshold_false_weight s p ≡ pos 0
false-leader s p l = rw (lt-ltb p (span_of s) l) refl

pub false-false : (s v : ℕ) → v < span_of s → threshold_false_weight s (threshold_follower s false v) ≡ pos 1
false-false s v l = rw (le-ltb (span_of s + v) (span_of s) (omega arith), lt-ltb (span_of s + v) (span_of s + span_of s) (omega arith)) refl

false-true : (s v : ℕ) → threshold_false_weight s (threshold_follower s true v) ≡ pos 0
false-true s v = rw (le-ltb (span_of s + span_of s + v) (span_of s) (omega arith), le-ltb (span_of s + span_of s + v) (span_of s + span_of s) (omega arith)) refl

pub true-leader : (s p : ℕ) → p < span_of s → threshold_true_weight s p ≡ pos 0
true-leader s p l = rw (lt-ltb p (span_of s + span_of s) (omega arith)) refl

true-false : (s v : ℕ) → v < span_of s → threshold_true_weight s (threshold_follower s false v) ≡ pos 0
true-false s v l = rw (lt-ltb (span_of s + v) (span_of s + span_of s) (omega arith)) refl

pub true-true : (s v : ℕ) → threshold_true_weight s (threshold_follower s true v) ≡ pos 1
true-true s v = rw (le-ltb (span_of s + span_of s + v) (span_of s + span_of s) (omega arith)) refl

-- ---- a move lowers its weights

abbrev lowers : ℕ → (ℕ → ℤ) → Move → Type 0
lowers s weight m = IsLower (threshold_weights s weight) m

lower-by : (s : ℕ) (weight : ℕ → ℤ) (m : Move) (a b c d : ℤ) → m.p < threshold_state_count s → m.q < threshold_state_count s → m.r < threshold_state_count s → m.s < threshold_state_count s → weight m.p ≡ a → weight m.q ≡ b → weight m.r ≡ c → weight m.s ≡ d → (c +ℤ d) <ℤ (a +ℤ b) → lowers s weight m
lower-by s weight m a b c d lp lq lr ls ep eq er es h =
    let wp = weight-is s weight m.p lp ∙ ep in
    let wq = weight-is s weight m.q lq ∙ eq in
    let wr = weight-is s weight m.r lr ∙ er in
    let ws = weight-is s weight m.s ls ∙ es in
    omega (arith, ints, wp, wq, wr, ws, h)

-- what a leader does to the value of a follower
pub record IsTurn (s t p v : ℕ) (bit : Bool) : Type 0 where
  pub cut : IsCut s p v (joined_value s p v) (leftover s p v)
  pub r_is : (threshold_leader_move s t p (threshold_follower s bit v)).r ≡ joined_value s p v
  pub s_is : (threshold_leader_move s t p (threshold_follower s bit v)).s ≡ threshold_follower s (nat_lt (joined_value s p v) t) (leftover s p v)

turn : (s t p v : ℕ) (bit : Bool) → p < span_of s → v < span_of s → IsTurn s t p v bit
turn s t p v bit l m =
    let place = place-follower s v bit m in
    record {
      cut = cut s p v (omega arith) (omega arith);
      r_is = ap (joined_value s p) place;
      s_is = ap (λ k. threshold_follower s (nat_lt (joined_value s p k) t) (leftover s p k)) place;
    }

first_lowers-pair : (s t p q : ℕ) → p < span_of s → q < span_of s → lowers s (threshold_first_weight s) (threshold_leader_move s t p q)
first_lowers-pair s t p q l m =
    let is = leader_move-cut s t p q l (a_leader q m) in
    let j = is.joined in
    let k = is.leftover in
    let bit = nat_lt (joined_value s p (threshold_place s q)) t in
    lower-by s (threshold_first_weight s) (threshold_leader_move s t p q) (pos (s + 1)) (pos (s + 1)) (pos (s + 1)) (pos (threshold_distance s (leftover s p (threshold_place s q)))) (omega arith) (omega arith) (omega arith) (follower-below s (leftover s p (threshold_place s q)) bit (omega arith))
    (first-leader s p l) (first-leader s q m) (first-leader s (joined_value s p (threshold_place s q)) (omega arith)) (first-follower s (leftover s p (threshold_place s q)) bit (omega arith))
    (omega (arith, ints))

-- a follower whose value changes comes closer to 0
closer : (s p v j k : ℕ) → IsCut s p v j k → p ≤ s + s → j ≢ p → threshold_distance s k < threshold_distance s v
closer s p v j k is l ne =
    let whole = is.whole in
    elim is.low [
      | inl h ↦ (let a = h.0 in let b = h.1 in omega arith)
      | inr h ↦ elim h [ inl a ↦ (let b = a.0 in let c = a.1 in omega arith) | inr a ↦ omega arith ]
    ]

first_lowers-turn : (s t p v : ℕ) (bit : Bool) → p < span_of s → v < span_of s → joined_value s p v ≢ p → lowers s (threshold_first_weight s) (threshold_leader_move s t p (threshold_follower s bit v))
first_lowers-turn s t p v bit l m ne =
    let is = turn s t p v bit l m in
    let j = is.cut.joined in
    let k = is.cut.leftover in
    let r_is = is.r_is in
    let to = nat_lt (joined_value s p v) t in
    let nearer = closer s p v (joined_value s p v) (leftover s p v) is.cut (omega arith) ne in
    let below = follower-below s (leftover s p v) to (omega arith) in
    lower-by s (threshold_first_weight s) (threshold_leader_move s t p (threshold_follower s bit v)) (pos (s + 1)) (pos (threshold_distance s v)) (pos (s + 1)) (pos (threshold_distance s (leftover s p v))) (omega arith) (follower-below s v bit m) (omega arith) (subst (λ x. x < threshold_state_count s) (sym is.s_is) below)
    (first-leader s p l) (first-follower s v bit m) (ap (threshold_first_weight s) r_is ∙ first-leader s (joined_value s p v) (omega arith)) (ap (threshold_first_weight s) is.s_is ∙ first-follower s (leftover s p v) to (omega arith))
    (omega (arith, ints))

-- a turn that keeps the values turns the bit
pub record IsFlip (s t p v : ℕ) (bit : Bool) : Type 0 where
  pub left_is : leftover s p v ≡ v
  pub bit_is : nat_lt (joined_value s p v) t ≡ not bit

flip : (s t p v : ℕ) (bit : Bool) → p < span_of s → v < span_of s → joined_value s p v ≡ p → alters_states (threshold_leader_move s t p (threshold_follower s bit v)) ≡ true → IsFlip s t p v bit
flip s t p v bit l m e c =
    let is = turn s t p v bit l m in
    let whole = is.cut.whole in
    let left_is : leftover s p v ≡ v = omega arith in
    record {
      left_is = left_is;
      bit_is = other bit (nat_lt (joined_value s p v) t) (λ same. (
          let r_same = eq-eqb _ _ (is.r_is ∙ e) in
          let s_same = eq-eqb _ _ (is.s_is ∙ ap (λ (b : Bool). threshold_follower s b (leftover s p v)) same ∙ ap (threshold_follower s bit) left_is) in
          let none : alters_states (threshold_leader_move s t p (threshold_follower s bit v)) ≡ false = rw (r_same, s_same) refl in
          let f : true ≡ false = sym c ∙ none in cc));
    }
  where
    other : (b to : Bool) → (to ≡ b → ⊥) → to ≡ not b
    other true true h = absurd (h refl)
    other true false h = refl
    other false true h = refl
    other false false h = absurd (h refl)

abbrev all_weights : ℕ → List (List ℤ)
all_weights s = threshold_weights s (threshold_first_weight s) ∷ threshold_weights s (threshold_false_weight s) ∷ threshold_weights s (threshold_true_weight s) ∷ []

lower_of : (s : ℕ) (m : Move) (k : ℕ) (weights : List ℤ) → leader_kind (span_of s) m ≡ k → get_or (all_weights s) k [] ≡ weights → IsLower weights m → IsLower (get_or (all_weights s) (leader_kind (span_of s) m) []) m
lower_of s m k weights e f h = subst (λ w. IsLower w m) (sym (ap (λ i. get_or (all_weights s) i []) e ∙ f)) h

lower-flip : (s t p v : ℕ) (bit : Bool) → p < span_of s → v < span_of s → joined_value s p v ≡ p → IsFlip s t p v bit → IsLower (get_or (all_weights s) (leader_kind (span_of s) (threshold_leader_move s t p (threshold_follower s bit v))) []) (threshold_leader_move s t p (threshold_follower s bit v))
lower-flip s t p v true l m e is =
    let at = turn s t p v true l m in
    let s_is : (threshold_leader_move s t p (threshold_follower s true v)).s ≡ threshold_follower s false v = at.s_is ∙ ap (λ (b : Bool). threshold_follower s b (leftover s p v)) is.bit_is ∙ ap (threshold_follower s false) is.left_is in
    let kind = kind-down (span_of s) (threshold_leader_move s t p (threshold_follower s true v)) (follower-above s v true) (at.r_is ∙ e) (subst (λ x. x ≤ threshold_follower s true v) (sym s_is) (omega arith)) in
    let r_is = at.r_is ∙ e in
    lower_of s (threshold_leader_move s t p (threshold_follower s true v)) 2 (threshold_weights s (threshold_true_weight s)) kind refl
    (lower-by s (threshold_true_weight s) (threshold_leader_move s t p (threshold_follower s true v)) (pos 0) (pos 1) (pos 0) (pos 0) (omega arith) (follower-below s v true m) (omega arith) (subst (λ x. x < threshold_state_count s) (sym s_is) (follower-below s v false m))
    (true-leader s p l) (true-true s v) (ap (threshold_true_weight s) r_is ∙ true-leader s p l) (ap (threshold_true_weight s) s_is ∙ true-false s v m) (omega (arith, ints)))
lower-flip s t p v false l m e is =
    let at = turn s t p v false l m in
    let s_is : (threshold_leader_move s t p (threshold_follower s false v)).s ≡ threshold_follower s true v = at.s_is ∙ ap (λ (b : Bool). threshold_follower s b (leftover s p v)) is.bit_is ∙ ap (threshold_follower s true) is.left_is in
    let kind = kind-up (span_of s) (threshold_leader_move s t p (threshold_follower s false v)) (follower-above s v false) (at.r_is ∙ e) (subst (λ x. threshold_follower s false v < x) (sym s_is) (omega arith)) in
    let r_is = at.r_is ∙ e in
    lower_of s (threshold_leader_move s t p (threshold_follower s false v)) 1 (threshold_weights s (threshold_false_weight s)) kind refl
    (lower-by s (threshold_false_weight s) (threshold_leader_move s t p (threshold_follower s false v)) (pos 0) (pos 1) (pos 0) (pos 0) (omega arith) (follower-below s v false m) (omega arith) (subst (λ x. x < threshold_state_count s) (sym s_is) (follower-below s v true m))
    (false-leader s p l) (false-false s v m) (ap (threshold_false_weight s) r_is ∙ false-leader s p l) (ap (threshold_false_weight s) s_is ∙ false-true s v) (omega (arith, ints)))

lower : (s t p q : ℕ) → p < span_of s → Kind s q → (q < span_of s) ⊎ (alters_states (threshold_leader_move s t p q) ≡ true) → IsLower (get_or (all_weights s) (leader_kind (span_of s) (threshold_leader_move s t p q)) []) (threshold_leader_move s t p q)
lower s t p _ l (a_leader q m) why =
    lower_of s (threshold_leader_move s t p q) 0 (threshold_weights s (threshold_first_weight s)) (kind-pair (span_of s) (threshold_leader_move s t p q) m) refl (first_lowers-pair s t p q l m)
lower s t p _ l (a_follower bit v m) (inl k) = absurd (let above = follower-above s v bit in omega arith)
lower s t p _ l (a_follower bit v m) (inr c) = go (eqb_tells (joined_value s p v) p)
  where
    go : ((joined_value s p v == p) ≡ true) × (joined_value s p v ≡ p) ⊎ ((joined_value s p v == p) ≡ false) × (joined_value s p v ≢ p) → IsLower (get_or (all_weights s) (leader_kind (span_of s) (threshold_leader_move s t p (threshold_follower s bit v))) []) (threshold_leader_move s t p (threshold_follower s bit v))
    go (inl h) = lower-flip s t p v bit l m h.1 (flip s t p v bit l m h.1 c)
    go (inr h) =
        let at = turn s t p v bit l m in
        lower_of s (threshold_leader_move s t p (threshold_follower s bit v)) 0 (threshold_weights s (threshold_first_weight s)) (kind-first (span_of s) (threshold_leader_move s t p (threshold_follower s bit v)) (follower-above s v bit) (λ e. h.1 (sym at.r_is ∙ e))) refl (first_lowers-turn s t p v bit l m h.1)

-- ---- the protocol

-- a move of the leaf, by its states
pub record IsMeeting (s t : ℕ) (m : Move) : Type 0 where
  pub p : ℕ
  pub q : ℕ
  pub p_below : p < span_of s
  pub kind : Kind s q
  pub why : (q < span_of s) ⊎ (alters_states (threshold_leader_move s t p q) ≡ true)
  pub move_is : m ≡ threshold_leader_move s t p q

meetings : (s t : ℕ) → All (IsMeeting s t) (threshold_moves s t)
meetings s t = all_moves_changing s t (IsMeeting s t) (λ p q l m why. record { p = p; q = q; p_below = l; kind = kind_of s q m; why = why; move_is = refl })

-- a leader that turned a follower doesn't change it again
settled_at : (s t p q : ℕ) → p < span_of s → Kind s q → span_of s ≤ q → (threshold_leader_move s t p q).r ≡ p → alters_states (threshold_leader_move s t p (threshold_leader_move s t p q).s) ≡ false
settled_at s t p _ l (a_leader q m) above e = absurd (omega arith)
settled_at s t p _ l (a_follower bit v m) above e =
    let at = turn s t p v bit l m in
    let r_is : joined_value s p v ≡ p = sym at.r_is ∙ e in
    let whole = at.cut.whole in
    let left_is : leftover s p v ≡ v = omega arith in
    let to = nat_lt (joined_value s p v) t in
    let s_is : (threshold_leader_move s t p (threshold_follower s bit v)).s ≡ threshold_follower s to v = at.s_is ∙ ap (threshold_follower s to) left_is in
    ap (λ q. alters_states (threshold_leader_move s t p q)) s_is ∙ again to refl r_is left_is
  where
    again : (to : Bool) → nat_lt (joined_value s p v) t ≡ to → joined_value s p v ≡ p → leftover s p v ≡ v → alters_states (threshold_leader_move s t p (threshold_follower s to v)) ≡ false
    again to f g h =
        let next = turn s t p v to l m in
        let r_same = eq-eqb _ _ (next.r_is ∙ g) in
        let s_same = eq-eqb _ _ (next.s_is ∙ ap (λ (b : Bool). threshold_follower s b (leftover s p v)) f ∙ ap (threshold_follower s to) h) in
        rw (r_same, s_same) refl

module _ (s t : ℕ) (inputs : List ℕ) where
  abbrev leaf : LeafModel
  leaf = built s t inputs

  meeting_at : (m : Move) → Contains leaf.moves m → IsMeeting s t m
  meeting_at m c = All-contains (IsMeeting s t) leaf.moves m (meetings s t) c

  settled : (a b : Move) → Contains leaf.moves a → Contains leaf.moves b → span_of s ≤ a.q → a.r ≡ a.p → b.q ≡ a.s → b.p ≢ a.p
  settled a b ca cb above e f g =
      let x = meeting_at a ca in
      let y = meeting_at b cb in
      let q_above : span_of s ≤ x.q = subst (λ (m : Move). span_of s ≤ m.q) x.move_is above in
      let r_same : (threshold_leader_move s t x.p x.q).r ≡ x.p = subst (λ (m : Move). m.r ≡ m.p) x.move_is e in
      let p_same : y.p ≡ x.p = sym (ap (λ (m : Move). m.p) y.move_is) ∙ g ∙ ap (λ (m : Move). m.p) x.move_is in
      let q_same : y.q ≡ (threshold_leader_move s t x.p x.q).s = sym (ap (λ (m : Move). m.q) y.move_is) ∙ f ∙ ap (λ (m : Move). m.s) x.move_is in
      let none : alters_states (threshold_leader_move s t y.p y.q) ≡ false = ap (λ p. alters_states (threshold_leader_move s t p y.q)) p_same ∙ ap (λ q. alters_states (threshold_leader_move s t x.p q)) q_same ∙ settled_at s t x.p x.q x.p_below x.kind q_above r_same in
      let late = follower-above s (leftover s x.p (threshold_place s x.q)) (nat_lt (joined_value s x.p (threshold_place s x.q)) t) in
      elim y.why [ inl h ↦ omega (arith, h, q_same, late) | inr h ↦ (let k : true ≡ false = sym h ∙ none in cc) ]

  pub is_protocol : IsLeaderProtocol leaf (span_of s)
  is_protocol = record {
    loud = all_moves_changing s t (λ m. silent_move m ≡ false) (λ p q l m why. elim why [ inl h ↦ pair-loud s t p q l h | inr h ↦ turn-loud s t p q l h ]);
    leads = all_moves_changing s t (λ m. m.p < span_of s) (λ p q l m why. l);
    follows = all_moves_changing s t (λ m. span_of s ≤ m.s) (λ p q l m why. follower-above s (leftover s p (threshold_place s q)) (nat_lt (joined_value s p (threshold_place s q)) t));
    meet = λ p q l m ne. elim (cases_lt p q) [
      | inl h ↦ (threshold_leader_move s t p q, has_pair s t p q (omega arith) m, m, inl (refl, refl))
      | inr h ↦ (threshold_leader_move s t q p, has_pair s t q p h l, l, inr (refl, refl))
    ];
    settled = settled;
  }

  weights_long : (weight : ℕ → ℤ) → length (threshold_weights s weight) ≡ length leaf.states
  weights_long weight = length-map-range_with_len weight 0 (threshold_state_count s) ∙ sym (length-map-range_with_len (threshold_state_name s) 0 (threshold_state_count s))

  pub are_kinds : AreKinds leaf (leader_kind (span_of s)) (all_weights s)
  are_kinds = record {
    long = All-cons (λ w. length w ≡ length leaf.states) (threshold_weights s (threshold_first_weight s)) (threshold_weights s (threshold_false_weight s) ∷ threshold_weights s (threshold_true_weight s) ∷ []) (weights_long (threshold_first_weight s))
        (All-cons (λ w. length w ≡ length leaf.states) (threshold_weights s (threshold_false_weight s)) (threshold_weights s (threshold_true_weight s) ∷ []) (weights_long (threshold_false_weight s))
        (All-cons (λ w. length w ≡ length leaf.states) (threshold_weights s (threshold_true_weight s)) [] (weights_long (threshold_true_weight s)) (All-nil (λ w. length w ≡ length leaf.states))));
    kinds = all_moves_changing s t (λ m. leader_kind (span_of s) m < length (all_weights s)) (λ p q l m why. let k = kind-below (span_of s) (threshold_leader_move s t p q) in omega arith);
    lower = all_moves_changing s t (λ m. IsLower (get_or (all_weights s) (leader_kind (span_of s) m) []) m) (λ p q l m why. lower s t p q l (kind_of s q m) why);
    wakes = leader_wakes leaf (span_of s) is_protocol;
  }

  pub layers-valid : ValidLayers leaf (threshold_layers leaf s)
  layers-valid = sorted_layers-valid leaf (leader_kind (span_of s)) (all_weights s) are_kinds

  -- ---- the layers are tame

  record IsTold (m : Move) : Type 0 where
    pub still : 0 < leader_kind (span_of s) m → IsNoHigher (threshold_weights s (threshold_first_weight s)) m
    pub up : leader_kind (span_of s) m ≡ 1 → nat_lt m.p t ≡ true
    pub down : leader_kind (span_of s) m ≡ 2 → nat_lt m.p t ≡ false

  first-told : (m : Move) → leader_kind (span_of s) m ≡ 0 → IsTold m
  first-told m e = record {
    still = λ more. absurd (omega (arith, e, more));
    up = λ k. absurd (omega (arith, e, k));
    down = λ k. absurd (omega (arith, e, k));
  }

  -- a turn that keeps the values keeps the first weights
  flip-still : (p v : ℕ) (bit : Bool) → p < span_of s → v < span_of s → joined_value s p v ≡ p → IsFlip s t p v bit → IsNoHigher (threshold_weights s (threshold_first_weight s)) (threshold_leader_move s t p (threshold_follower s bit v))
  flip-still p v bit l m e is =
      let at = turn s t p v bit l m in
      let to = nat_lt (joined_value s p v) t in
      let r_is = at.r_is ∙ e in
      let s_is : (threshold_leader_move s t p (threshold_follower s bit v)).s ≡ threshold_follower s to v = at.s_is ∙ ap (threshold_follower s to) is.left_is in
      let wp = weight-is s (threshold_first_weight s) p (omega (arith, l)) ∙ first-leader s p l in
      let wq = weight-is s (threshold_first_weight s) (threshold_follower s bit v) (follower-below s v bit m) ∙ first-follower s v bit m in
      let wr = ap (weight_at (threshold_weights s (threshold_first_weight s))) r_is ∙ wp in
      let ws = ap (weight_at (threshold_weights s (threshold_first_weight s))) s_is ∙ weight-is s (threshold_first_weight s) (threshold_follower s to v) (follower-below s v to m) ∙ first-follower s v to m in
      omega (arith, ints, wp, wq, wr, ws)

  flip-told : (p v : ℕ) (bit : Bool) → p < span_of s → v < span_of s → joined_value s p v ≡ p → IsFlip s t p v bit → IsTold (threshold_leader_move s t p (threshold_follower s bit v))
  flip-told p v true l m e is =
      let at = turn s t p v true l m in
      let s_is : (threshold_leader_move s t p (threshold_follower s true v)).s ≡ threshold_follower s false v = at.s_is ∙ ap (λ (b : Bool). threshold_follower s b (leftover s p v)) is.bit_is ∙ ap (threshold_follower s false) is.left_is in
      let kind = kind-down (span_of s) (threshold_leader_move s t p (threshold_follower s true v)) (follower-above s v true) (at.r_is ∙ e) (subst (λ x. x ≤ threshold_follower s true v) (sym s_is) (omega arith)) in
      record {
        still = λ more. flip-still p v true l m e is;
        up = λ k. absurd (omega (arith, kind, k));
        down = λ k. ap (λ x. nat_lt x t) (sym e) ∙ is.bit_is;
      }
  flip-told p v false l m e is =
      let at = turn s t p v false l m in
      let s_is : (threshold_leader_move s t p (threshold_follower s false v)).s ≡ threshold_follower s true v = at.s_is ∙ ap (λ (b : Bool). threshold_follower s b (leftover s p v)) is.bit_is ∙ ap (threshold_follower s true) is.left_is in
      let kind = kind-up (span_of s) (threshold_leader_move s t p (threshold_follower s false v)) (follower-above s v false) (at.r_is ∙ e) (subst (λ x. threshold_follower s false v < x) (sym s_is) (omega arith)) in
      record {
        still = λ more. flip-still p v false l m e is;
        up = λ k. ap (λ x. nat_lt x t) (sym e) ∙ is.bit_is;
        down = λ k. absurd (omega (arith, kind, k));
      }

  told : (p q : ℕ) → p < span_of s → Kind s q → (q < span_of s) ⊎ (alters_states (threshold_leader_move s t p q) ≡ true) → IsTold (threshold_leader_move s t p q)
  told p _ l (a_leader q m) why = first-told (threshold_leader_move s t p q) (kind-pair (span_of s) (threshold_leader_move s t p q) m)
  told p _ l (a_follower bit v m) (inl k) = absurd (let above = follower-above s v bit in omega arith)
  told p _ l (a_follower bit v m) (inr c) = go (eqb_tells (joined_value s p v) p)
    where
      go : ((joined_value s p v == p) ≡ true) × (joined_value s p v ≡ p) ⊎ ((joined_value s p v == p) ≡ false) × (joined_value s p v ≢ p) → IsTold (threshold_leader_move s t p (threshold_follower s bit v))
      go (inl h) = flip-told p v bit l m h.1 (flip s t p v bit l m h.1 c)
      go (inr h) =
          let at = turn s t p v bit l m in
          first-told (threshold_leader_move s t p (threshold_follower s bit v)) (kind-first (span_of s) (threshold_leader_move s t p (threshold_follower s bit v)) (follower-above s v bit) (λ e. h.1 (sym at.r_is ∙ e)))

  all_told : All IsTold (threshold_moves s t)
  all_told = all_moves_changing s t IsTold (λ p q l m why. told p q l (kind_of s q m) why)

  are_turns : AreTurns leaf (span_of s) (all_weights s) (λ p. nat_lt p t)
  are_turns = record {
    still = All-weaker IsTold (λ m. 0 < leader_kind (span_of s) m → IsNoHigher (get_or (all_weights s) 0 []) m) (λ m is. is.still) leaf.moves all_told;
    up = All-weaker IsTold (λ m. leader_kind (span_of s) m ≡ 1 → nat_lt m.p t ≡ true) (λ m is. is.up) leaf.moves all_told;
    down = All-weaker IsTold (λ m. leader_kind (span_of s) m ≡ 2 → nat_lt m.p t ≡ false) (λ m is. is.down) leaf.moves all_told;
  }

  pub layers-tame : TameLayers leaf (threshold_layers leaf s)
  layers-tame =
      sorted_layers-tame leaf (leader_kind (span_of s)) (all_weights s) are_kinds
      (leaders-tame leaf (span_of s) is_protocol (all_weights s) (λ p. nat_lt p t) (moves-single s t) are_turns)
