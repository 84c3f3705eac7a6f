-- The layers of the leaf are valid: each kind lowers its weights, and no move wakes an earlier kind, as the move is there
-- for the other answer too.
use Rattle.std.proofs.Common.{◌≡◌, ◌≢◌, ◌⊎◌, inl, inr, ◌∙◌, subst, ℕ, zero, suc, ◌+◌, ◌^◌, ◌<◌, ◌≤◌, Bool, true, false, List, [], ◌∷◌, length, get_or, refl, ap, sym, arith}
use Rattle.std.specs.Prelude.{ℤ, pos, nat_abs, not, ◌||◌, ◌==◌, Some, Contains}
use Rattle.std.proofs.lemmas.Int.{ints}
use Rattle.std.proofs.lemmas.Bool.{eq-eqb, le-leb, cases_eq}
use Rattle.std.proofs.lemmas.Bool.Decides.{eqb_tells}
use Rattle.std.proofs.lemmas.List.{length-map, get_or-map}
use Rattle.std.proofs.lemmas.List.Elements.{All-nil, All-cons, All-contains}
use Rattle.pop_leaf.specs.declared.leaf.Move.{Move}
use Rattle.pop_leaf.specs.LeafModel.{LeafModel, IsMoveBelow, silent_move, one_at}
use Rattle.cert_base.specs.ValidLayers.{weight_at, IsLower, IsEnabledBefore, ValidLayers}
use Rattle.comp_trees.proofs.SortedLayers.{AreKinds, sorted_layers-valid}
use Rattle.comp_powers_leaf.specs.declared.role.Role.{Role}
use Rattle.comp_powers_leaf.specs.declared.role.Role.TheVariants.{Low, High, Nothing, Piece, Plus, Debtor, Token}
use Rattle.comp_powers_leaf.specs.PowersLeaf.{coefficient_of, power, rest_of, roles, fixed_count, role_at, place, meet, powers_moves, powers_leaf_of}
use Rattle.comp_powers_leaf.specs.PowersLayers.{kind_by, sum_weight, answer_weight, powers_kind, layer_weights, powers_weights}
use Rattle.comp_powers_leaf.proofs.Places.{role-valid, place-role}
use Rattle.comp_powers_leaf.proofs.Rows.{OfEachRow}
use Rattle.comp_powers_leaf.proofs.Moves.{ByRoles, each_by_roles, has_move, moves-below}
use Rattle.comp_powers_leaf.proofs.Kept.{weight_in, Lowers, weight-lowered, kind-below, all_loud}
use Rattle.comp_powers_leaf.proofs.Meets.{second-fixed}
use Rattle.comp_powers_leaf.proofs.Formed.{states-long}
use Rattle.comp_powers.specs.PowersProof.{powers_layers_of}
use Rattle.cert_base.specs.TameLayers.{IsNoHigher, TameLayers}
use Rattle.comp_trees.proofs.TameKinds.{IsParted, AreTameKinds, sorted_layers-tame}
use Rattle.comp_trees.proofs.LeaderTame.{firsts_beside}
use Rattle.comp_powers_leaf.proofs.Single.{moves-single}

-- ---- answers

abbrev is_answer : Role → Bool
is_answer Low = false
is_answer High = false
is_answer (Nothing b) = true
is_answer (Piece i b) = true
is_answer Plus = false
is_answer (Debtor j) = false
is_answer (Token j i) = false

abbrev other : Role → Role
other Low = Low
other High = High
other (Nothing b) = Nothing (not b)
other (Piece i b) = Piece i (not b)
other Plus = Plus
other (Debtor j) = Debtor j
other (Token j i) = Token j i

-- who turns answers to true, and who to false
abbrev is_up : Role → Bool
is_up Low = true
is_up High = false
is_up (Nothing b) = false
is_up (Piece i b) = false
is_up Plus = false
is_up (Debtor j) = true
is_up (Token j i) = false

abbrev is_down : Role → Bool
is_down Low = false
is_down High = true
is_down (Nothing b) = false
is_down (Piece i b) = false
is_down Plus = true
is_down (Debtor j) = false
is_down (Token j i) = false

clash : false ≡ true → ⊥
clash h = let n : false ≡ true = h in absurd (let m : false ≡ true = n in cc)

up-apart : (p x : Role) → is_down p ≡ true → is_up x ≡ true → x ≢ p
up-apart p x d u e = go p d (ap is_up (sym e) ∙ u)
  where
    go : (p : Role) → is_down p ≡ true → is_up p ≡ true → ⊥
    go High d u = clash u
    go Plus d u = clash u
    go r d u = clash d

up-silent : (x : Role) → is_up x ≡ true → is_answer x ≡ true → ⊥
up-silent Low u a = clash a
up-silent (Debtor j) u a = clash a
up-silent r u a = clash u

module _ (coefs : List ℤ) (k : ℕ) where
  -- two states have a move of the first kind, in one order or the other
  abbrev Reacts : Role → Role → Type 0
  Reacts p q = (rs : Role × Role) × (meet coefs k p q ≡ Some rs) × (kind_by p q ≡ 0)

  abbrev React : Role → Role → Type 0
  React p q = Reacts p q ⊎ Reacts q p

  same : (i : ℕ) → (i == i) ≡ true
  same i = eq-eqb i i refl

  join_ff : (i : ℕ) → Reacts (Piece i false) (Piece i false)
  join_ff i = ((power k (i + 1) false, Nothing false), (let e = same i in rw e refl), refl)

  join_ft : (i : ℕ) → Reacts (Piece i false) (Piece i true)
  join_ft i = ((power k (i + 1) true, Nothing false), (let e = same i in rw e refl), refl)

  join_tt : (i : ℕ) → Reacts (Piece i true) (Piece i true)
  join_tt i = ((power k (i + 1) true, Nothing true), (let e = same i in rw e refl), refl)

  -- a move of the first kind is there for the other answer of its second state
  abbrev TurnsSecond : Role → Role → Role → Role → Type 0
  TurnsSecond p q r s = kind_by p q ≡ 0 → is_answer q ≡ true → React p (other q)

  joins-second : (i : ℕ) (b c : Bool) → (not b || c) ≡ true → React (Piece i b) (Piece i (not c))
  joins-second i false false e = inl (join_ft i)
  joins-second i false true e = inl (join_ff i)
  joins-second i true true e = inr (join_ft i)
  joins-second i true false e = absurd (clash e)

  turns_second : OfEachRow coefs k TurnsSecond
  turns_second = record {
    join = λ i b c e n a. joins-second i b c e;
    pay = λ j i b l n a. inl ((rest_of j i, Nothing (not b)), (let e = le-leb (nat_abs (coefficient_of coefs j)) (2 ^ i) l in rw e refl), refl);
    pay_plus = λ j n a. absurd (clash a);
    pay_hub = λ j n a. absurd (clash a);
    give = λ j i b e n a. inl (_, refl, refl);
    pass = λ j i b e n a. inl (_, refl, refl);
    plus_hub = λ n a. absurd (clash a);
    merge = λ n a. absurd (clash a);
    low_nothing = λ n a. absurd (omega (arith, n));
    low_piece = λ i n a. absurd (omega (arith, n));
    debtor_nothing = λ j n a. absurd (omega (arith, n));
    high_nothing = λ n a. absurd (omega (arith, n));
    high_piece = λ i n a. absurd (omega (arith, n));
    plus_nothing = λ n a. absurd (omega (arith, n));
  }

  -- and of its first state
  abbrev TurnsFirst : Role → Role → Role → Role → Type 0
  TurnsFirst p q r s = is_answer p ≡ true → React (other p) q

  joins-first : (i : ℕ) (b c : Bool) → (not b || c) ≡ true → React (Piece i (not b)) (Piece i c)
  joins-first i false false e = inr (join_ft i)
  joins-first i false true e = inl (join_tt i)
  joins-first i true true e = inl (join_ft i)
  joins-first i true false e = absurd (clash e)

  turns_first : OfEachRow coefs k TurnsFirst
  turns_first = record {
    join = λ i b c e a. joins-first i b c e;
    pay = λ j i b l a. absurd (clash a);
    pay_plus = λ j a. absurd (clash a);
    pay_hub = λ j a. absurd (clash a);
    give = λ j i b e a. absurd (clash a);
    pass = λ j i b e a. absurd (clash a);
    plus_hub = λ a. absurd (clash a);
    merge = λ a. absurd (clash a);
    low_nothing = λ a. absurd (clash a);
    low_piece = λ i a. absurd (clash a);
    debtor_nothing = λ j a. absurd (clash a);
    high_nothing = λ a. absurd (clash a);
    high_piece = λ i a. absurd (clash a);
    plus_nothing = λ a. absurd (clash a);
  }

  -- a move of a later kind turns an answer
  record IsTurn (p q r s : Role) : Type 0 where
    pub stays : r ≡ p
    pub turned : other s ≡ q
    pub answer : is_answer s ≡ true
    pub up : kind_by p q ≡ 1 → is_up p ≡ true
    pub down : kind_by p q ≡ 2 → is_down p ≡ true

  abbrev Turns : Role → Role → Role → Role → Type 0
  Turns p q r s = 0 < kind_by p q → IsTurn p q r s

  turns : OfEachRow coefs k Turns
  turns = record {
    join = λ i b c e l. absurd (omega (arith, l));
    pay = λ j i b h l. absurd (omega (arith, l));
    pay_plus = λ j l. absurd (omega (arith, l));
    pay_hub = λ j l. absurd (omega (arith, l));
    give = λ j i b e l. absurd (omega (arith, l));
    pass = λ j i b e l. absurd (omega (arith, l));
    plus_hub = λ l. absurd (omega (arith, l));
    merge = λ l. absurd (omega (arith, l));
    low_nothing = λ l. record { stays = refl; turned = refl; answer = refl; up = λ e. refl; down = λ e. absurd (omega (arith, e)) };
    low_piece = λ i l. record { stays = refl; turned = refl; answer = refl; up = λ e. refl; down = λ e. absurd (omega (arith, e)) };
    debtor_nothing = λ j l. record { stays = refl; turned = refl; answer = refl; up = λ e. refl; down = λ e. absurd (omega (arith, e)) };
    high_nothing = λ l. record { stays = refl; turned = refl; answer = refl; up = λ e. absurd (omega (arith, e)); down = λ e. refl };
    high_piece = λ i l. record { stays = refl; turned = refl; answer = refl; up = λ e. absurd (omega (arith, e)); down = λ e. refl };
    plus_nothing = λ l. record { stays = refl; turned = refl; answer = refl; up = λ e. absurd (omega (arith, e)); down = λ e. refl };
  }

  -- who turns answers to false can meet who turns them to true
  down-up : (p x : Role) → is_down p ≡ true → is_up x ≡ true → React p x
  down-up High Low d u = inr (_, refl, refl)
  down-up High (Debtor j) d u = inr (_, refl, refl)
  down-up Plus Low d u = inl (_, refl, refl)
  down-up Plus (Debtor j) d u = inr (_, refl, refl)
  down-up High x d u = absurd (clash u)
  down-up Plus x d u = absurd (clash u)
  down-up p x d u = absurd (clash d)

  -- ---- the moves

  -- the move of two places whose states react, in one order or the other
  record HasMove (x y : ℕ) : Type 0 where
    pub move : Move
    pub there : Contains (powers_moves coefs k) move
    pub first : powers_kind coefs k move ≡ 0
    pub pair : ((move.p ≡ x) × (move.q ≡ y)) ⊎ ((move.p ≡ y) × (move.q ≡ x))

  reacting : (x y : ℕ) → x < length (roles coefs k) → y < length (roles coefs k) → Reacts (role_at coefs k x) (role_at coefs k y) → HasMove x y
  reacting x y l m (rs, e, kind) =
      let low : y < fixed_count k = subst (λ z. z < fixed_count k) (place-role coefs k y m) (second-fixed coefs k (role_at coefs k x) (role_at coefs k y) rs e (role-valid coefs k y m)) in
      record { move = record { p = x; q = y; r = place coefs k rs.0; s = place coefs k rs.1 }; there = has_move coefs k x y rs l low e; first = kind; pair = inl (refl, refl) }

  turned_pair : (x y : ℕ) → HasMove y x → HasMove x y
  turned_pair x y h = record { move = h.move; there = h.there; first = h.first; pair = elim h.pair [ inl e ↦ inr e | inr e ↦ inl e ] }

  react-move : (x y : ℕ) → x < length (roles coefs k) → y < length (roles coefs k) → React (role_at coefs k x) (role_at coefs k y) → HasMove x y
  react-move x y l m (inl h) = reacting x y l m h
  react-move x y l m (inr h) = turned_pair x y (reacting y x m l h)

  one_if : (x z : ℕ) → ((x ≡ z) × (one_at x z ≡ 1)) ⊎ ((x ≢ z) × (one_at x z ≡ 0))
  one_if x z = elim (eqb_tells x z) [ inl h ↦ inl (h.1, rw h.0 refl) | inr h ↦ inr (h.1, rw h.0 refl) ]

  one-most : (x z : ℕ) → one_at x z ≤ 1
  one-most x z = elim (one_if x z) [ inl h ↦ omega (arith, h.1) | inr h ↦ omega (arith, h.1) ]

  -- the pair's states, counted
  pair_count : (v : Move) (x y z : ℕ) → ((v.p ≡ x) × (v.q ≡ y)) ⊎ ((v.p ≡ y) × (v.q ≡ x)) → one_at v.p z + one_at v.q z ≡ one_at x z + one_at y z
  pair_count v x y z (inl h) = let a = ap (λ n. one_at n z) h.0 in let b = ap (λ n. one_at n z) h.1 in omega (arith, a, b)
  pair_count v x y z (inr h) = let a = ap (λ n. one_at n z) h.0 in let b = ap (λ n. one_at n z) h.1 in omega (arith, a, b)

  -- a move that takes nothing new was enabled before
  same_before : (t u : Move) → t.r ≡ t.p → t.s ≢ u.p → t.s ≢ u.q → IsEnabledBefore u t u
  same_before t u e p q z = elim (one_if t.s z) [
    | inl h ↦ (
        let first : one_at u.p z ≡ 0 = none_at u.p (λ f. p (h.0 ∙ sym f)) in
        let second : one_at u.q z ≡ 0 = none_at u.q (λ f. q (h.0 ∙ sym f)) in
        omega (arith, first, second))
    | inr h ↦ (let f = ap (λ n. one_at n z) e in omega (arith, h.1, f))
  ]
    where
      none_at : (x : ℕ) → x ≢ z → one_at x z ≡ 0
      none_at x ne = elim (one_if x z) [ inl h ↦ absurd (ne h.0) | inr h ↦ h.1 ]

  -- the same move for the answer that was turned
  second_before : (t u v : Move) → t.r ≡ t.p → u.q ≡ t.s → ((v.p ≡ u.p) × (v.q ≡ t.q)) ⊎ ((v.p ≡ t.q) × (v.q ≡ u.p)) → IsEnabledBefore v t u
  second_before t u v e f pair z =
      let both = pair_count v u.p t.q z pair in
      let r_is = ap (λ n. one_at n z) e in
      let q_is = ap (λ n. one_at n z) f in
      omega (arith, both, r_is, q_is)

  first_before : (t u v : Move) → t.r ≡ t.p → u.p ≡ t.s → ((v.p ≡ t.q) × (v.q ≡ u.q)) ⊎ ((v.p ≡ u.q) × (v.q ≡ t.q)) → IsEnabledBefore v t u
  first_before t u v e f pair z =
      let both = pair_count v t.q u.q z pair in
      let r_is = ap (λ n. one_at n z) e in
      let p_is = ap (λ n. one_at n z) f in
      omega (arith, both, r_is, p_is)

  -- the two that turn
  turners_before : (t u v : Move) → t.r ≡ t.p → u.q ≡ t.s → u.p ≢ t.p → ((v.p ≡ t.p) × (v.q ≡ u.p)) ⊎ ((v.p ≡ u.p) × (v.q ≡ t.p)) → IsEnabledBefore v t u
  turners_before t u v e f ne pair z =
      let both = pair_count v t.p u.p z pair in
      let r_is = ap (λ n. one_at n z) e in
      let q_is = ap (λ n. one_at n z) f in
      let few : one_at t.p z + one_at u.p z ≤ 1 = not_both in
      omega (arith, both, r_is, q_is, few)
    where
      not_both : one_at t.p z + one_at u.p z ≤ 1
      not_both = elim (one_if t.p z) [
        | inl h ↦ elim (one_if u.p z) [ inl g ↦ absurd (ne (g.0 ∙ sym h.0)) | inr g ↦ omega (arith, h.1, g.1) ]
        | inr h ↦ let m = one-most u.p z in omega (arith, h.1, m)
      ]

  abbrev at : ℕ → Role
  at q = role_at coefs k q

  abbrev kind : Move → ℕ
  kind = powers_kind coefs k

  abbrev WasEnabled : Move → Move → Type 0
  WasEnabled t u = (v : Move) × Contains (powers_moves coefs k) v × (silent_move v ≡ false) × (kind v ≤ kind u) × IsEnabledBefore v t u

  by_move : (t u : Move) (x y : ℕ) → (h : HasMove x y) → IsEnabledBefore h.move t u → WasEnabled t u
  by_move t u x y h before =
      (h.move, h.there, All-contains (λ t. silent_move t ≡ false) (powers_moves coefs k) h.move (all_loud coefs k) h.there, (let e = h.first in let m : kind h.move ≤ kind u = omega (arith, e) in m), before)

  wakes : (t u : Move) → Contains (powers_moves coefs k) t → Contains (powers_moves coefs k) u → silent_move t ≡ false → silent_move u ≡ false → kind u < kind t → WasEnabled t u
  wakes t u ct cu lt lu l = go (cases_eq u.q t.s) (cases_eq u.p t.s)
    where
      many : ℕ
      many = length (roles coefs k)

      below_t : IsMoveBelow many t
      below_t = All-contains (IsMoveBelow many) (powers_moves coefs k) t (moves-below coefs k) ct

      below_u : IsMoveBelow many u
      below_u = All-contains (IsMoveBelow many) (powers_moves coefs k) u (moves-below coefs k) cu

      later : 0 < kind t
      later = omega (arith, l)

      turn : IsTurn (at t.p) (at t.q) (at t.r) (at t.s)
      turn = All-contains (ByRoles coefs k Turns) (powers_moves coefs k) t (each_by_roles coefs k Turns turns) ct later

      stays : t.r ≡ t.p
      stays = sym (place-role coefs k t.r below_t.2) ∙ ap (place coefs k) turn.stays ∙ place-role coefs k t.p below_t.0

      zero_or : (n : ℕ) → (n ≡ 0) ⊎ (0 < n)
      zero_or zero = inl refl
      zero_or (suc n) = inr (omega arith)

      second : u.q ≡ t.s → (kind u ≡ 0) ⊎ (0 < kind u) → WasEnabled t u
      second e (inl zero_kind) =
          let answer : is_answer (at u.q) ≡ true = ap (λ q. is_answer (at q)) e ∙ turn.answer in
          let react = All-contains (ByRoles coefs k TurnsSecond) (powers_moves coefs k) u (each_by_roles coefs k TurnsSecond turns_second) cu zero_kind answer in
          let turned : other (at u.q) ≡ at t.q = ap (λ q. other (at q)) e ∙ turn.turned in
          let h = react-move u.p t.q below_u.0 below_t.1 (subst (λ r. React (at u.p) r) turned react) in
          by_move t u u.p t.q h (second_before t u h.move stays e h.pair)
      second e (inr more) =
          let most = kind-below coefs k (at t.p) (at t.q) in
          let turn_u = All-contains (ByRoles coefs k Turns) (powers_moves coefs k) u (each_by_roles coefs k Turns turns) cu more in
          let down = turn.down (omega (arith, l, more, most)) in
          let up = turn_u.up (omega (arith, l, more, most)) in
          let ne : u.p ≢ t.p = λ f. up-apart (at t.p) (at u.p) down up (ap at f) in
          let h = react-move t.p u.p below_t.0 below_u.0 (down-up (at t.p) (at u.p) down up) in
          by_move t u t.p u.p h (turners_before t u h.move stays e ne h.pair)

      first : u.p ≡ t.s → (kind u ≡ 0) ⊎ (0 < kind u) → WasEnabled t u
      first e (inl zero_kind) =
          let answer : is_answer (at u.p) ≡ true = ap (λ q. is_answer (at q)) e ∙ turn.answer in
          let react = All-contains (ByRoles coefs k TurnsFirst) (powers_moves coefs k) u (each_by_roles coefs k TurnsFirst turns_first) cu answer in
          let turned : other (at u.p) ≡ at t.q = ap (λ q. other (at q)) e ∙ turn.turned in
          let h = react-move t.q u.q below_t.1 below_u.1 (subst (λ r. React r (at u.q)) turned react) in
          by_move t u t.q u.q h (first_before t u h.move stays e h.pair)
      first e (inr more) =
          let most = kind-below coefs k (at t.p) (at t.q) in
          let turn_u = All-contains (ByRoles coefs k Turns) (powers_moves coefs k) u (each_by_roles coefs k Turns turns) cu more in
          let up = turn_u.up (omega (arith, l, more, most)) in
          absurd (up-silent (at u.p) up (ap (λ q. is_answer (at q)) e ∙ turn.answer))

      go : (u.q ≡ t.s) ⊎ (u.q ≡ t.s → ⊥) → (u.p ≡ t.s) ⊎ (u.p ≡ t.s → ⊥) → WasEnabled t u
      go (inl e) o = second e (zero_or (kind u))
      go (inr n) (inl e) = first e (zero_or (kind u))
      go (inr n) (inr m) = (u, cu, lu, (let f : kind u ≤ kind u = omega arith in f), same_before t u stays (λ e. m (sym e)) (λ e. n (sym e)))

  -- ---- the weights

  weight-at : (f : Role → ℕ) (q : ℕ) → q < length (roles coefs k) → weight_at (layer_weights coefs k f) q ≡ pos (f (role_at coefs k q))
  weight-at f q l = get_or-map (λ r. pos (f r)) (roles coefs k) q (Nothing false) (pos 0) l

  weight-is : (n q : ℕ) → n < 3 → q < length (roles coefs k) → weight_at (get_or (powers_weights coefs k) n []) q ≡ pos (weight_in k n (role_at coefs k q))
  weight-is zero q m l = weight-at (sum_weight k) q l
  weight-is (suc zero) q m l = weight-at (answer_weight false) q l
  weight-is (suc (suc zero)) q m l = weight-at (answer_weight true) q l
  weight-is (suc (suc (suc n))) q m l = absurd (omega (arith, m))

  lower-at : (t : Move) → IsMoveBelow (length (roles coefs k)) t → ByRoles coefs k (Lowers coefs k) t → IsLower (get_or (powers_weights coefs k) (kind t) []) t
  lower-at t below low =
      let most = kind-below coefs k (at t.p) (at t.q) in
      let p = weight-is (kind t) t.p most below.0 in
      let q = weight-is (kind t) t.q most below.1 in
      let r = weight-is (kind t) t.r most below.2 in
      let s = weight-is (kind t) t.s most below.3 in
      omega (arith, ints, p, q, r, s, low)

module _ (coefs : List ℤ) (bound : ℤ) (k spare : ℕ) where
  abbrev leaf : LeafModel
  leaf = powers_leaf_of coefs bound k spare

  abbrev IsLong : List ℤ → Type 0
  IsLong w = length w ≡ length leaf.states

  long : (f : Role → ℕ) → IsLong (layer_weights coefs k f)
  long f = length-map (roles coefs k) (λ r. pos (f r)) ∙ sym (states-long coefs bound k)

  are_kinds : AreKinds leaf (powers_kind coefs k) (powers_weights coefs k)
  are_kinds = record {
    long =
        All-cons IsLong (layer_weights coefs k (sum_weight k)) (layer_weights coefs k (answer_weight false) ∷ layer_weights coefs k (answer_weight true) ∷ []) (long (sum_weight k))
        (All-cons IsLong (layer_weights coefs k (answer_weight false)) (layer_weights coefs k (answer_weight true) ∷ []) (long (answer_weight false))
        (All-cons IsLong (layer_weights coefs k (answer_weight true)) [] (long (answer_weight true)) (All-nil IsLong)));
    kinds = λ i d l. kind-below coefs k _ _;
    lower = λ i d l. lower-at coefs k _ (moves-below coefs k i d l) (weight-lowered coefs k i d l);
    wakes = wakes coefs k;
  }

  pub layers-valid : ValidLayers leaf (powers_layers_of coefs k)
  layers-valid = sorted_layers-valid leaf (powers_kind coefs k) (powers_weights coefs k) are_kinds

  -- ---- the layers are tame

  -- a turn keeps the sum
  abbrev Still : Role → Role → Role → Role → Type 0
  Still p q r s = 0 < kind_by p q → sum_weight k r + sum_weight k s ≤ sum_weight k p + sum_weight k q

  still : OfEachRow coefs k Still
  still = record {
    join = λ i b c e l. absurd (omega (arith, l));
    pay = λ j i b h l. absurd (omega (arith, l));
    pay_plus = λ j l. absurd (omega (arith, l));
    pay_hub = λ j l. absurd (omega (arith, l));
    give = λ j i b e l. absurd (omega (arith, l));
    pass = λ j i b e l. absurd (omega (arith, l));
    plus_hub = λ l. absurd (omega (arith, l));
    merge = λ l. absurd (omega (arith, l));
    low_nothing = λ l. omega arith;
    low_piece = λ i l. omega arith;
    debtor_nothing = λ j l. omega arith;
    high_nothing = λ l. omega arith;
    high_piece = λ i l. omega arith;
    plus_nothing = λ l. omega arith;
  }

  turn_of : (t : Move) → Contains leaf.moves t → 0 < powers_kind coefs k t → IsTurn coefs k (role_at coefs k t.p) (role_at coefs k t.q) (role_at coefs k t.r) (role_at coefs k t.s)
  turn_of t c l = All-contains (ByRoles coefs k (Turns coefs k)) leaf.moves t (each_by_roles coefs k (Turns coefs k) (turns coefs k)) c l

  below : (t : Move) → Contains leaf.moves t → IsMoveBelow (length (roles coefs k)) t
  below t c = All-contains (IsMoveBelow (length (roles coefs k))) leaf.moves t (moves-below coefs k) c

  no_higher : (u : Move) → Contains leaf.moves u → 0 < powers_kind coefs k u → IsNoHigher (get_or (powers_weights coefs k) 0 []) u
  no_higher u c l =
      let in_range = below u c in
      let low = All-contains (ByRoles coefs k Still) leaf.moves u (each_by_roles coefs k Still still) c l in
      let p = weight-is coefs k 0 u.p (omega arith) in_range.0 in
      let q = weight-is coefs k 0 u.q (omega arith) in_range.1 in
      let r = weight-is coefs k 0 u.r (omega arith) in_range.2 in
      let s = weight-is coefs k 0 u.s (omega arith) in_range.3 in
      omega (arith, ints, p, q, r, s, low)

  kept : (t u : Move) (n : ℕ) → powers_kind coefs k t ≡ n → Contains leaf.moves t → Contains leaf.moves u → powers_kind coefs k t < powers_kind coefs k u → IsNoHigher (get_or (powers_weights coefs k) (powers_kind coefs k t) []) u ⊎ IsParted leaf (powers_kind coefs k) t u
  kept t u zero e ct cu l = inl (subst (λ n. IsNoHigher (get_or (powers_weights coefs k) n []) u) (sym e) (no_higher u cu (omega (arith, l))))
  kept t u (suc n) e ct cu l =
      let most = kind-below coefs k (role_at coefs k u.p) (role_at coefs k u.q) in
      let one : powers_kind coefs k t ≡ 1 = omega (arith, e, l, most) in
      let two : powers_kind coefs k u ≡ 2 = omega (arith, e, l, most) in
      let up = (turn_of t ct (omega (arith, one))).up one in
      let down = (turn_of u cu (omega (arith, two))).down two in
      let ne : u.p ≢ t.p = λ f. up-apart (role_at coefs k u.p) (role_at coefs k t.p) down up (ap (role_at coefs k) (sym f)) in
      let h = react-move coefs k u.p t.p (below u cu).0 (below t ct).0 (down-up coefs k (role_at coefs k u.p) (role_at coefs k t.p) down up) in
      inr (record {
        by = h.move;
        listed = h.there;
        loud = All-contains (λ t. silent_move t ≡ false) leaf.moves h.move (all_loud coefs k) h.there;
        earlier = (let first = h.first in let m : powers_kind coefs k h.move < powers_kind coefs k t = omega (arith, first, one) in m);
        beside = firsts_beside t u h.move ne (elim h.pair [ inl x ↦ inr x | inr x ↦ inl x ]);
      })

  are_tame : AreTameKinds leaf (powers_kind coefs k) (powers_weights coefs k)
  are_tame = record {
    single = moves-single coefs k;
    no_rise = λ t u ct cu lt lu l. kept t u (powers_kind coefs k t) refl ct cu l;
  }

  pub layers-tame : TameLayers leaf (powers_layers_of coefs k)
  layers-tame = sorted_layers-tame leaf (powers_kind coefs k) (powers_weights coefs k) are_kinds are_tame
