-- The four nodes that end the branches of a hub, and the node for too few agents, close.
use Rattle.std.proofs.Common.{◌≡◌, ◌≢◌, ◌⊎◌, inl, inr, ◌∙◌, ℕ, zero, suc, ◌+◌, ◌^◌, ◌<◌, ◌≤◌, Bool, true, false, ◌||◌, List, [], ◌∷◌, length, map, get_or, refl, ap, sym, zero-add, arith}
use Rattle.std.specs.Prelude.{ℤ, pos, negsuc, neg_ℤ, ◌+ℤ◌, ◌-ℤ◌, ◌*ℤ◌, ◌≤ℤ◌, nat_abs, int_le, not, if◌then◌else◌, ◌==◌}
use Rattle.std.specs.Ordering.{int_eq}
use Rattle.std.specs.List.{range_with_len}
use Rattle.std.proofs.lemmas.Int.{ints}
use Rattle.std.proofs.Math.IntN.{*ℤ-zero, zero-*ℤ}
use Rattle.std.proofs.lemmas.Bool.{ne_eqb, eq-eqb}
use Rattle.std.proofs.lemmas.Bool.Decides.{eqb_tells}
use Rattle.std.proofs.lemmas.List.{length-map, get_or-map}
use Rattle.std.proofs.lemmas.List.Elements.{All-get_or}
use Rattle.std.proofs.lemmas.List.FromFn.{get_or-map-range_with_len, length-map-range_with_len}
use Rattle.pop_leaf.specs.declared.leaf.Move.{Move}
use Rattle.pop_leaf.specs.LeafModel.{LeafModel, IsLeaf}
use Rattle.pres_ast.specs.PredModel.{PredModel}
use Rattle.cert_base.specs.declared.fact.Fact.{Fact}
use Rattle.cert_base.specs.Rows.{terms_from}
use Rattle.cert_base.specs.ClosingTests.{closes_by_sum, may_add}
use Rattle.cert_base.specs.FactsAndCases.{indicator, absent_fact, occurs_fact, can_meet_in}
use Rattle.cert_base.specs.WeightedSums.{sum_of_facts, coefficient, constant_of, may_weigh, total}
use Rattle.cert_base.proofs.WeightedSums.{le-test}
use Rattle.cert_base.proofs.FlowSums.{total-same, total-none, total-none_range, total-one, total-neg, mul-neg, one-times}
use Rattle.comp_trees.specs.LeaderTree.{company_of}
use Rattle.comp_trees.proofs.LeaderEnds.{absent-at, shifted, rules_out, is_wrong, apart, apart_past}
use Rattle.comp_powers_leaf.specs.declared.role.Role.{Role}
use Rattle.comp_powers_leaf.specs.declared.role.Role.TheVariants.{Low, High, Nothing, Piece, Plus, Debtor, Token}
use Rattle.comp_powers_leaf.specs.PowersLeaf.{coefficient_of, worth, says, roles, role_at, place, start_of, all_helper_roles, powers_leaf_of, IsPowers, HasRoom}
use Rattle.comp_trees.proofs.Bits.{double}
use Rattle.comp_powers_leaf.proofs.Places.{there, role-valid, place-role}
use Rattle.comp_powers_leaf.specs.PowersLeaf.{IsRole}
use Rattle.comp_powers_leaf.proofs.Moves.{ByRoles, fixed-first}
use Rattle.comp_powers_leaf.proofs.Kept.{waits, KeepsWorth, worth-kept, WaitsLess, waits-less}
use Rattle.comp_powers_leaf.proofs.Meets.{low_rules, high_rules, is_token, low-meets, high-meets, nothing-meets}
use Rattle.comp_powers_leaf.proofs.Formed.{start-valid, states-long, powers-formed}
use Rattle.comp_powers_leaf.proofs.Starts.{start-worth, start-waits, helpers-total, helpers-worth, helpers-owe, helpers-spare, waiting}
use Rattle.comp_powers.specs.PowersProof.{none, by_role, minus_wrong, credit, minus_ready, high_own, high_mix, low_own, few_mix, low_mix, powers_pred_of}
use Rattle.comp_trees.proofs.Mixes.{IsPlain, all_facts, IsLow, mix_closes}
use Rattle.comp_powers.proofs.Own.{NoState, ruled, out-state, none_out, not_twice-at, occurs-at, company-sum, company-may, here_facts, high_facts, high-none, high-state, high-constant, high-may, low_facts, twin_total, twin_fact, low-sum, low-may, low-none, low-constant}

-- ---- by the states' roles

abbrev is_twin : Role → Bool
is_twin Low = false
is_twin High = false
is_twin (Nothing b) = false
is_twin (Piece i b) = b
is_twin Plus = false
is_twin (Debtor j) = false
is_twin (Token j i) = false

-- what the twins' facts take from a state, and what the presence of a hub of -2^k adds
abbrev twin_by : (ℕ → ℤ) → Role → ℤ
twin_by by Low = pos 0
twin_by by High = pos 0
twin_by by (Nothing b) = pos 0
twin_by by (Piece i b) = if b then by i else pos 0
twin_by by Plus = pos 0
twin_by by (Debtor j) = pos 0
twin_by by (Token j i) = pos 0

abbrev low_by : ℤ → Role → ℤ
low_by here Low = here
low_by here High = pos 0
low_by here (Nothing b) = pos 0
low_by here (Piece i b) = pos 0
low_by here Plus = pos 0
low_by here (Debtor j) = pos 0
low_by here (Token j i) = pos 0

abbrev is_low : Role → Bool
is_low Low = true
is_low High = false
is_low (Nothing b) = false
is_low (Piece i b) = false
is_low Plus = false
is_low (Debtor j) = false
is_low (Token j i) = false

clash : false ≡ true → ⊥
clash h = absurd (let m : false ≡ true = h in cc)

ready-waiting : (r : Role) → (pos (waits r) +ℤ negsuc 0) ≡ minus_ready r
ready-waiting Low = refl
ready-waiting High = refl
ready-waiting (Nothing b) = refl
ready-waiting (Piece i b) = refl
ready-waiting Plus = refl
ready-waiting (Debtor j) = refl
ready-waiting (Token j i) = refl

ones-total : (a m : ℕ) → total (λ i. pos 1) (range_with_len a m) ≡ pos m
ones-total a zero = refl
ones-total a (suc m) = let e = ones-total (a + 1) m in omega (arith, ints, e)

powers-total : (a m : ℕ) → total (λ i. pos (2 ^ i)) (range_with_len a m) ≡ (pos (2 ^ (a + m)) -ℤ pos (2 ^ a))
powers-total a zero = let e = ap (λ n. 2 ^ n) (let f : a + 0 ≡ a = omega arith in f) in omega (arith, ints, e)
powers-total a (suc m) =
    let rest = powers-total (a + 1) m in
    let two = double a in
    let same = ap (λ n. 2 ^ n) (let f : a + 1 + m ≡ a + suc m = omega arith in f) in
    omega (arith, ints, rest, two, same)

pub none-total : (hs : List ℕ) → total none hs ≡ pos 0
none-total hs = total-none none hs (λ q. refl)

-- what is ruled out, or not
ruled-low : (c : Bool) (a : ℤ) → a ≤ℤ pos 0 → (if c then a else pos 0) ≤ℤ pos 0
ruled-low true a l = l
ruled-low false a l = omega (arith, ints)

ruled-rest : (c : Bool) (a : ℤ) → pos 0 ≤ℤ a → (neg_ℤ a +ℤ (if c then a else pos 0)) ≤ℤ pos 0
ruled-rest true a l = omega (arith, ints)
ruled-rest false a l = omega (arith, ints, l)

indicator-positive : (c : Bool) → pos 0 ≤ℤ indicator c
indicator-positive true = omega (arith, ints)
indicator-positive false = omega (arith, ints)

module _ (coefs : List ℤ) (bound : ℤ) (k spare : ℕ) (is : IsPowers coefs bound k) (room : HasRoom k spare) where
  abbrev pub leaf : LeafModel
  leaf = powers_leaf_of coefs bound k spare

  abbrev pub pred : PredModel
  pred = powers_pred_of coefs bound

  abbrev at : ℕ → Role
  at q = role_at coefs k q

  abbrev n : ℕ
  n = length leaf.inputs

  abbrev many : ℕ
  many = length leaf.states

  long : many ≡ length (roles coefs k)
  long = states-long coefs bound k

  pub formed : IsLeaf leaf
  formed = powers-formed coefs bound k spare is room

  length-inputs : n ≡ length coefs
  length-inputs = length-map-range_with_len (λ j. place coefs k (start_of k j (coefficient_of coefs j))) 0 (length coefs)

  pub plain : (others : List ℤ) → length others ≡ length coefs → IsPlain leaf others
  plain others e = record {
    helpers = formed.helpers;
    inputs = formed.inputs;
    moves = formed.moves;
    long = e ∙ sym length-inputs;
  }

  abbrev pub tw : ℕ → ℕ
  tw i = place coefs k (Piece i true)

  pub tw-below : (i : ℕ) → i < k → tw i < many
  tw-below i l = let low = (there coefs k (Piece i true) l).low in omega (arith, long, low)

  some-states : 0 < many
  some-states = let f = fixed-first coefs k in omega (arith, long, f)

  -- ---- the places of roles

  low-place : (r : Role) → IsRole coefs k r → indicator (place coefs k r == 0) ≡ indicator (is_low r)
  low-place r v = go (eqb_tells (place coefs k r) 0)
    where
      of : (r : Role) → r ≡ Low → indicator true ≡ indicator (is_low r)
      of r e = ap (λ r. indicator (is_low r)) (sym e)

      apart_low : (r : Role) → (place coefs k r ≢ 0) → indicator false ≡ indicator (is_low r)
      apart_low Low ne = absurd (ne refl)
      apart_low r ne = refl

      go : ((place coefs k r == 0) ≡ true) × (place coefs k r ≡ 0) ⊎ ((place coefs k r == 0) ≡ false) × (place coefs k r ≢ 0) → indicator (place coefs k r == 0) ≡ indicator (is_low r)
      go (inl h) = ap indicator h.0 ∙ of r (sym (there coefs k r v).found ∙ ap at h.1)
      go (inr h) = ap indicator h.0 ∙ apart_low r h.1

  -- the twin facts at a state
  twin-at : (by : ℕ → ℤ) (r : Role) → IsRole coefs k r → total (λ i. by i *ℤ indicator (place coefs k r == tw i)) (range_with_len 0 k) ≡ twin_by by r
  twin-at by r v = go (is_twin r) refl r refl v
    where
      other : (r : Role) → IsRole coefs k r → is_twin r ≡ false → total (λ i. by i *ℤ indicator (place coefs k r == tw i)) (range_with_len 0 k) ≡ pos 0
      other r v e =
          total-none_range (λ i. by i *ℤ indicator (place coefs k r == tw i)) 0 k (λ i l.
          ap (λ c. by i *ℤ indicator c) (ne_eqb (place coefs k r) (tw i) (λ f.
          let same : r ≡ Piece i true = sym (there coefs k r v).found ∙ ap at f ∙ (there coefs k (Piece i true) (omega arith)).found in
          clash (sym e ∙ ap is_twin same)))
          ∙ *ℤ-zero (by i))

      none_by : (r : Role) → is_twin r ≡ false → twin_by by r ≡ pos 0
      none_by (Piece i true) e = absurd (clash (sym e))
      none_by (Piece i false) e = refl
      none_by Low e = refl
      none_by High e = refl
      none_by (Nothing b) e = refl
      none_by Plus e = refl
      none_by (Debtor j) e = refl
      none_by (Token j i) e = refl

      equal : (i j : ℕ) → (tw i == tw j) ≡ (i == j)
      equal i j = two (eqb_tells i j)
        where
          two : ((i == j) ≡ true) × (i ≡ j) ⊎ ((i == j) ≡ false) × (i ≢ j) → (tw i == tw j) ≡ (i == j)
          two (inl h) = eq-eqb (tw i) (tw j) (omega (arith, h.1)) ∙ sym h.0
          two (inr h) = ne_eqb (tw i) (tw j) (λ e. h.1 (omega (arith, e))) ∙ sym h.0

      twin : (r : Role) → IsRole coefs k r → is_twin r ≡ true → total (λ i. by i *ℤ indicator (place coefs k r == tw i)) (range_with_len 0 k) ≡ twin_by by r
      twin (Piece i true) v e =
          total-same (λ j. by j *ℤ indicator (tw i == tw j)) (λ j. by j *ℤ indicator (i == j)) (range_with_len 0 k) (λ j. ap (λ c. by j *ℤ indicator c) (equal i j))
          ∙ total-one by k i v
      twin (Piece i false) v e = absurd (clash e)
      twin r v e = absurd (clash e)

      go : (b : Bool) → is_twin r ≡ b → (s : Role) → s ≡ r → IsRole coefs k r → total (λ i. by i *ℤ indicator (place coefs k r == tw i)) (range_with_len 0 k) ≡ twin_by by r
      go true e s f v = twin r v e
      go false e s f v = other r v e ∙ sym (none_by r e)

  twins-state : (by : ℕ → ℤ) (z : ℕ) → z < many → twin_total leaf k tw by (coefficient (n + z)) ≡ neg_ℤ (twin_by by (at z))
  twins-state by z l =
      let m : z < length (roles coefs k) = omega (arith, long, l) in
      total-same (λ i. by i *ℤ coefficient (n + z) (twin_fact leaf k tw i)) (λ i. neg_ℤ (by i *ℤ indicator (place coefs k (at z) == tw i))) (range_with_len 0 k) (λ i.
      ap (λ c. by i *ℤ c) (not_twice-at leaf (tw i) (n + z) ∙ ap (λ c. neg_ℤ (indicator c)) (shifted n (tw i) z ∙ ap (λ x. x == tw i) (sym (place-role coefs k z m)))) ∙ mul-neg (by i) (indicator (place coefs k (at z) == tw i)))
      ∙ total-neg (λ i. by i *ℤ indicator (place coefs k (at z) == tw i)) (range_with_len 0 k)
      ∙ ap neg_ℤ (twin-at by (at z) (role-valid coefs k z m))

  here-state : (here : ℤ) (z : ℕ) → z < many → (here *ℤ coefficient (n + z) (occurs_fact leaf 0)) ≡ low_by here (at z)
  here-state here z l =
      let m : z < length (roles coefs k) = omega (arith, long, l) in
      ap (λ c. here *ℤ c) (occurs-at leaf 0 (n + z) ∙ ap indicator (shifted n 0 z ∙ ap (λ x. x == 0) (sym (place-role coefs k z m))) ∙ low-place (at z) (role-valid coefs k z m))
      ∙ times (at z)
    where
      times : (r : Role) → (here *ℤ indicator (is_low r)) ≡ low_by here r
      times Low = omega (arith, ints)
      times High = *ℤ-zero here
      times (Nothing b) = *ℤ-zero here
      times (Piece i b) = *ℤ-zero here
      times Plus = *ℤ-zero here
      times (Debtor j) = *ℤ-zero here
      times (Token j i) = *ℤ-zero here

  low-state : (here : ℤ) (f by : ℕ → ℤ) (last : List Fact) (ms : List ℤ) (z : ℕ) → z < many → sum_of_facts (coefficient (n + z)) (low_facts leaf k tw k last) (low_own leaf k here f by ms) ≡ (((low_by here (at z) +ℤ ruled leaf 0 f z) -ℤ twin_by by (at z)) +ℤ sum_of_facts (coefficient (n + z)) last ms)
  low-state here f by last ms z l =
      let sum = low-sum leaf k tw here f by last ms (coefficient (n + z)) in
      let a = here-state here z l in
      let b = out-state leaf 0 f z l in
      let c = twins-state by z l in
      omega (arith, ints, sum, a, b, c)

  -- ---- who is ruled out

  ruled-yes : (p : ℕ) (f : ℕ → ℤ) (z : ℕ) → z ≢ p → can_meet_in leaf p z ≡ true → ruled leaf p f z ≡ f z
  ruled-yes p f z ne meets = let a = ne_eqb z p ne in rw (a, meets) refl

  ruled-by-low : (f : ℕ → ℤ) (z : ℕ) → z < many → low_rules (at z) ≡ true → ruled leaf 0 f z ≡ f z
  ruled-by-low f z l h =
      ruled-yes 0 f z (λ e. clash (ap (λ q. low_rules (at q)) (sym e) ∙ h)) (low-meets coefs k z (omega (arith, long, l)) h)

  ruled-by-high : (f : ℕ → ℤ) (z : ℕ) → z < many → high_rules (at z) ≡ true → ruled leaf 1 f z ≡ f z
  ruled-by-high f z l h =
      ruled-yes 1 f z (λ e. clash (ap (λ q. high_rules (at q)) (sym e) ∙ h)) (high-meets coefs k z (omega (arith, long, l)) h)

  ruled-by-nothing : (f : ℕ → ℤ) (z : ℕ) → z < many → is_token (at z) ≡ true → ruled leaf 3 f z ≡ f z
  ruled-by-nothing f z l h =
      ruled-yes 3 f z (λ e. clash (ap (λ q. is_token (at q)) (sym e) ∙ h)) (nothing-meets coefs k z (omega (arith, long, l)) h)

  -- ---- inputs and outputs by role

  input-at : (f : Role → ℤ) (i : ℕ) → i < n → by_role coefs k f (get_or leaf.inputs i 0) ≡ f (start_of k i (coefficient_of coefs i))
  input-at f i l =
      let m : i < length coefs = omega (arith, length-inputs, l) in
      ap (by_role coefs k f) (get_or-map-range_with_len (λ j. place coefs k (start_of k j (coefficient_of coefs j))) 0 (length coefs) i i 0 m (zero-add i))
      ∙ ap f (there coefs k (start_of k i (coefficient_of coefs i)) (start-valid coefs bound k i m)).found

  wrong-at : (b : Bool) (z : ℕ) → z < many → is_wrong leaf b z ≡ (if b then not (says (at z)) else says (at z))
  wrong-at b z l = ap (λ (o : Bool). if b then not o else o) (get_or-map says (roles coefs k) z (Nothing false) false (omega (arith, long, l)))

  -- x is no state
  input-none : (i : ℕ) → i < n → NoState leaf i
  input-none i l q m = apart n q i l

  past-none : (j : ℕ) → NoState leaf (n + many + j)
  past-none j q m = apart_past n many q j m

  -- ---- with a hub of 0, where the sum is below the bound

  coef-size : (i : ℕ) → i < n → nat_abs (coefficient_of coefs i) ≤ 2 ^ k
  coef-size i l = is.within i (omega (arith, length-inputs, l))

  start-is : (i : ℕ) → i < n → worth coefs k (start_of k i (coefficient_of coefs i)) ≡ get_or coefs i (pos 0)
  start-is i l = start-worth coefs bound k i (coef-size i l)

  -- the opened rows
  abbrev pub true_row : List ℤ
  true_row = map neg_ℤ coefs

  true-at : (i : ℕ) → i < n → get_or true_row i (pos 0) ≡ neg_ℤ (get_or coefs i (pos 0))
  true-at i l = get_or-map neg_ℤ coefs i (pos 0) (pos 0) (omega (arith, length-inputs, l))

  kept : (t : ℕ) (d : Move) → t < length leaf.moves → ByRoles coefs k (KeepsWorth coefs k) (get_or leaf.moves t d)
  kept t d l = All-get_or (ByRoles coefs k (KeepsWorth coefs k)) leaf.moves t d l (worth-kept coefs k is.within)

  abbrev w : ℕ → ℤ
  w = by_role coefs k (worth coefs k)

  abbrev minus_w : ℕ → ℤ
  minus_w = by_role coefs k (λ r. neg_ℤ (worth coefs k r))

  -- ---- with a hub of 0, where the sum is below the bound

  worth-positive : (r : Role) → high_rules r ≡ false → pos 0 ≤ℤ worth coefs k r
  worth-positive Low e = absurd (clash (sym e))
  worth-positive High e = omega (arith, ints)
  worth-positive (Nothing b) e = omega (arith, ints)
  worth-positive (Piece i b) e = omega (arith, ints)
  worth-positive Plus e = omega (arith, ints)
  worth-positive (Debtor j) e = absurd (clash (sym e))
  worth-positive (Token j i) e = omega (arith, ints)

  high-worth : (z : ℕ) → z < many → (neg_ℤ (w z) +ℤ ruled leaf 1 w z) ≤ℤ pos 0
  high-worth z l = go (high_rules (at z)) refl
    where
      go : (c : Bool) → high_rules (at z) ≡ c → (neg_ℤ (w z) +ℤ ruled leaf 1 w z) ≤ℤ pos 0
      go true e = let r = ruled-by-high w z l e in omega (arith, ints, r)
      go false e = ruled-rest (rules_out leaf 1 z) (w z) (worth-positive (at z) e)

  high_true_low : IsLow leaf pred true true_row (bound -ℤ pos 1) (high_facts leaf) w (pos 0) (pos 1) (high_own leaf w)
  high_true_low = record {
    at_inputs = λ i l. (
        let first = input-at (worth coefs k) i l ∙ start-is i l in
        let row = true-at i l in
        let one = one-times (get_or true_row i (pos 0)) in
        let own = high-none leaf w i (input-none i l) in
        omega (arith, ints, first, row, one, own));
    at_states = λ z l. (
        let own = high-state leaf w z l in
        let wrong = zero-*ℤ (indicator (is_wrong leaf true z)) in
        let low = high-worth z l in
        omega (arith, ints, own, wrong, low));
    at_moves = λ t d l. (
        let own = high-none leaf w (n + many + t) (past-none t) in
        let keep = kept t d l in
        omega (arith, ints, own, keep));
    at_past = λ j. (let own = high-none leaf w (n + many + (length leaf.moves + j)) (past-none (length leaf.moves + j)) in omega (arith, ints, own));
    at_end = (
        let sum = helpers-total coefs bound k spare (worth coefs k) ∙ helpers-worth coefs bound k spare is.below is.above in
        let one = one-times (bound -ℤ pos 1) in
        let own = high-constant leaf w in
        omega (arith, ints, sum, one, own));
  }

  pub high_true_closes : closes_by_sum (all_facts leaf pred true true_row (bound -ℤ pos 1) (high_facts leaf)) (terms_from 0 (high_mix coefs k leaf true)) ≡ true
  high_true_closes = mix_closes leaf pred true true_row (bound -ℤ pos 1) (high_facts leaf) w (pos 0) (pos 1) (high_own leaf w) (plain true_row (length-map coefs neg_ℤ)) refl refl (high-may leaf w) high_true_low

  -- ---- with a hub of 0, where it isn't: no wrong output is left

  abbrev mw : Bool → ℕ → ℤ
  mw b = minus_wrong leaf b

  says-high : (r : Role) → says r ≡ true → high_rules r ≡ true
  says-high Low e = refl
  says-high High e = absurd (clash e)
  says-high (Nothing b) e = e
  says-high (Piece i b) e = e
  says-high Plus e = absurd (clash e)
  says-high (Debtor j) e = refl
  says-high (Token j i) e = absurd (clash e)

  mw-low : (b : Bool) (z : ℕ) → mw b z ≤ℤ pos 0
  mw-low b z = let p = indicator-positive (is_wrong leaf b z) in omega (arith, ints, p)

  high-wrong : (z : ℕ) → z < many → (indicator (is_wrong leaf false z) +ℤ ruled leaf 1 (mw false) z) ≤ℤ pos 0
  high-wrong z l = go (says (at z)) refl
    where
      go : (c : Bool) → says (at z) ≡ c → (indicator (is_wrong leaf false z) +ℤ ruled leaf 1 (mw false) z) ≤ℤ pos 0
      go true e = let r = ruled-by-high (mw false) z l (says-high (at z) e) in omega (arith, ints, r)
      go false e =
          let none_wrong = ap indicator (wrong-at false z l ∙ e) in
          let low = ruled-low (rules_out leaf 1 z) (mw false z) (mw-low false z) in
          omega (arith, ints, none_wrong, low)

  high_false_low : IsLow leaf pred false coefs (neg_ℤ bound) (high_facts leaf) none (pos 1) (pos 0) (high_own leaf (mw false))
  high_false_low = record {
    at_inputs = λ i l. (
        let row = zero-*ℤ (get_or coefs i (pos 0)) in
        let own = high-none leaf (mw false) i (input-none i l) in
        omega (arith, ints, row, own));
    at_states = λ z l. (
        let own = high-state leaf (mw false) z l in
        let one = one-times (indicator (is_wrong leaf false z)) in
        let low = high-wrong z l in
        omega (arith, ints, own, one, low));
    at_moves = λ t d l. (let own = high-none leaf (mw false) (n + many + t) (past-none t) in omega (arith, ints, own));
    at_past = λ j. (let own = high-none leaf (mw false) (n + many + (length leaf.moves + j)) (past-none (length leaf.moves + j)) in omega (arith, ints, own));
    at_end = (
        let sum = none-total leaf.helpers in
        let row = zero-*ℤ (neg_ℤ bound) in
        let own = high-constant leaf (mw false) in
        omega (arith, ints, sum, row, own));
  }

  pub high_false_closes : closes_by_sum (all_facts leaf pred false coefs (neg_ℤ bound) (high_facts leaf)) (terms_from 0 (high_mix coefs k leaf false)) ≡ true
  high_false_closes = mix_closes leaf pred false coefs (neg_ℤ bound) (high_facts leaf) none (pos 1) (pos 0) (high_own leaf (mw false)) (plain coefs refl) refl refl (high-may leaf (mw false)) high_false_low

  -- ---- with a hub of -2^k and nobody worth nothing: too few agents

  abbrev ready : ℕ → ℤ
  ready = by_role coefs k minus_ready

  abbrev minus_one : ℕ → ℤ
  minus_one q = negsuc 0

  abbrev one : ℕ → ℤ
  one i = pos 1

  abbrev pub few_last : List Fact
  few_last = absent_fact leaf 3 ∷ []

  abbrev few_own : List ℤ
  few_own = low_own leaf k (pos 0) minus_one one (negsuc 0 ∷ [])

  last-few : (value : Fact → ℤ) → sum_of_facts value few_last (negsuc 0 ∷ []) ≡ neg_ℤ (value (absent_fact leaf 3))
  last-few value = omega (arith, ints)

  places-many : 3 < many
  places-many = let f = fixed-first coefs k in omega (arith, long, f)

  few-none : (x : ℕ) → NoState leaf x → sum_of_facts (coefficient x) (low_facts leaf k tw k few_last) few_own ≡ pos 0
  few-none x ne =
      low-none leaf k tw (pos 0) minus_one one few_last (negsuc 0 ∷ []) x some-states tw-below ne
      (let a = last-few (coefficient x) in let b = absent-at leaf 3 x in let c = ap indicator (ne_eqb (n + 3) x (ne 3 places-many)) in omega (arith, ints, a, b, c))

  -- the places of those that are worth nothing
  nothing-here : (z : ℕ) → z < many → at z ≡ Nothing true → indicator ((n + 3) == (n + z)) ≡ pos 1
  nothing-here z l e =
      let same : z ≡ 3 = sym (place-role coefs k z (omega (arith, long, l))) ∙ ap (place coefs k) e in
      ap indicator (eq-eqb (n + 3) (n + z) (omega (arith, same)))

  few-state : (z : ℕ) → z < many → ((neg_ℤ (ready z) +ℤ ((low_by (pos 0) (at z) +ℤ ruled leaf 0 minus_one z) -ℤ twin_by one (at z))) -ℤ indicator ((n + 3) == (n + z))) ≤ℤ pos 0
  few-state z l = go (at z) refl
    where
      low : ruled leaf 0 minus_one z ≤ℤ pos 0
      low = ruled-low (rules_out leaf 0 z) (negsuc 0) (omega (arith, ints))

      positive : pos 0 ≤ℤ indicator ((n + 3) == (n + z))
      positive = indicator-positive ((n + 3) == (n + z))

      out : (r : Role) → at z ≡ r → low_rules r ≡ true → ruled leaf 0 minus_one z ≡ negsuc 0
      out r e h = ruled-by-low minus_one z l (ap low_rules e ∙ h)

      go : (r : Role) → at z ≡ r → ((neg_ℤ (minus_ready r) +ℤ ((low_by (pos 0) r +ℤ ruled leaf 0 minus_one z) -ℤ twin_by one r)) -ℤ indicator ((n + 3) == (n + z))) ≤ℤ pos 0
      go Low e = omega (arith, ints, low, positive)
      go High e = omega (arith, ints, low, positive)
      go (Nothing false) e = let r = out (Nothing false) e refl in omega (arith, ints, r, positive)
      go (Nothing true) e = let here = nothing-here z l e in omega (arith, ints, low, here)
      go (Piece i false) e = let r = out (Piece i false) e refl in omega (arith, ints, r, positive)
      go (Piece i true) e = omega (arith, ints, low, positive)
      go Plus e = let r = out Plus e refl in omega (arith, ints, r, positive)
      go (Debtor j) e = omega (arith, ints, low, positive)
      go (Token j i) e = omega (arith, ints, low, positive)

  waits-move : (t : ℕ) (d : Move) → t < length leaf.moves → ByRoles coefs k (WaitsLess coefs k) (get_or leaf.moves t d)
  waits-move t d l = All-get_or (ByRoles coefs k (WaitsLess coefs k)) leaf.moves t d l (waits-less coefs k)

  few_low : (b : Bool) (row : List ℤ) (constant : ℤ) → IsLow leaf pred b row constant (low_facts leaf k tw k few_last) ready (pos 0) (pos 0) few_own
  few_low b row constant = record {
    at_inputs = λ i l. (
        let first = input-at minus_ready i l ∙ sym (ready-waiting (start_of k i (coefficient_of coefs i))) in
        let waits_few = start-waits coefs bound k i (coefficient_of coefs i) in
        let zero_row = zero-*ℤ (get_or row i (pos 0)) in
        let own = few-none i (input-none i l) in
        omega (arith, ints, first, waits_few, zero_row, own));
    at_states = λ z l. (
        let own = low-state (pos 0) minus_one one few_last (negsuc 0 ∷ []) z l in
        let last = last-few (coefficient (n + z)) in
        let at3 = absent-at leaf 3 (n + z) in
        let wrong = zero-*ℤ (indicator (is_wrong leaf b z)) in
        let low = few-state z l in
        omega (arith, ints, own, last, at3, wrong, low));
    at_moves = λ t d l. (
        let own = few-none (n + many + t) (past-none t) in
        let m = get_or leaf.moves t d in
        let less = waits-move t d l in
        let p = ready-waiting (at m.p) in
        let q = ready-waiting (at m.q) in
        let r = ready-waiting (at m.r) in
        let s = ready-waiting (at m.s) in
        omega (arith, ints, own, less, p, q, r, s));
    at_past = λ j. (let own = few-none (n + many + (length leaf.moves + j)) (past-none (length leaf.moves + j)) in omega (arith, ints, own));
    at_end = (
        let sum = helpers-total coefs bound k spare minus_ready ∙ total-same minus_ready (waiting coefs bound k) (all_helper_roles bound k spare) (λ r. sym (ready-waiting r)) ∙ helpers-spare coefs bound k spare in
        let own = low-constant leaf k tw (pos 0) minus_one one few_last (negsuc 0 ∷ []) in
        let ones = ones-total 0 k in
        let zero_row = zero-*ℤ constant in
        omega (arith, ints, sum, own, ones, zero_row));
  }

  positive-one : (i : ℕ) → int_le (pos 0) (one i) ≡ true
  positive-one i = refl

  pub few_closes : (b : Bool) (row : List ℤ) (constant : ℤ) → length row ≡ length coefs → closes_by_sum (all_facts leaf pred b row constant (low_facts leaf k tw k few_last)) (terms_from 0 (few_mix coefs k leaf)) ≡ true
  few_closes b row constant e = mix_closes leaf pred b row constant (low_facts leaf k tw k few_last) ready (pos 0) (pos 0) few_own (plain row e) refl refl (low-may leaf k tw (pos 0) minus_one one few_last (negsuc 0 ∷ []) refl positive-one refl) (few_low b row constant)

  -- ---- somebody is worth nothing: then no token is left

  abbrev pub low_last : List Fact
  low_last = here_facts leaf 3

  last-sum : (f : ℕ → ℤ) (value : Fact → ℤ) → sum_of_facts value low_last (pos 0 ∷ map f (company_of leaf 3)) ≡ total (λ q. f q *ℤ value (absent_fact leaf q)) (company_of leaf 3)
  last-sum f value = let a = zero-*ℤ (value (occurs_fact leaf 3)) in let b = company-sum leaf 3 f value in omega (arith, ints, a, b)

  last-may : (f : ℕ → ℤ) → may_weigh may_add low_last (pos 0 ∷ map f (company_of leaf 3)) ≡ true
  last-may f = company-may leaf 3 f

  abbrev ended : ℤ → (ℕ → ℤ) → (ℕ → ℤ) → List ℤ
  ended here f by = low_own leaf k here f by (pos 0 ∷ map f (company_of leaf 3))

  ended-none : (here : ℤ) (f by : ℕ → ℤ) (x : ℕ) → NoState leaf x → sum_of_facts (coefficient x) (low_facts leaf k tw k low_last) (ended here f by) ≡ pos 0
  ended-none here f by x ne = low-none leaf k tw here f by low_last (pos 0 ∷ map f (company_of leaf 3)) x some-states tw-below ne (last-sum f (coefficient x) ∙ none_out leaf 3 f x ne)

  ended-state : (here : ℤ) (f by : ℕ → ℤ) (z : ℕ) → z < many → sum_of_facts (coefficient (n + z)) (low_facts leaf k tw k low_last) (ended here f by) ≡ (((low_by here (at z) +ℤ ruled leaf 0 f z) -ℤ twin_by by (at z)) +ℤ ruled leaf 3 f z)
  ended-state here f by z l =
      let a = low-state here f by low_last (pos 0 ∷ map f (company_of leaf 3)) z l in
      let b = last-sum f (coefficient (n + z)) ∙ out-state leaf 3 f z l in
      omega (arith, ints, a, b)

  ended-constant : (here : ℤ) (f by : ℕ → ℤ) → sum_of_facts constant_of (low_facts leaf k tw k low_last) (ended here f by) ≡ (neg_ℤ here +ℤ total by (range_with_len 0 k))
  ended-constant here f by =
      let a = low-constant leaf k tw here f by low_last (pos 0 ∷ map f (company_of leaf 3)) in
      let b = last-sum f constant_of ∙ total-none (λ q. f q *ℤ pos 0) (company_of leaf 3) (λ q. *ℤ-zero (f q)) in
      omega (arith, ints, a, b)

  -- a state that a hub of -2^k or whoever is worth nothing rules out
  both-ruled : (f : ℕ → ℤ) (z : ℕ) → z < many → f z ≤ℤ pos 0 → (low_rules (at z) || is_token (at z)) ≡ true → (ruled leaf 0 f z +ℤ ruled leaf 3 f z) ≤ℤ f z
  both-ruled f z l m h = go (low_rules (at z)) (is_token (at z)) refl refl h
    where
      go : (c d : Bool) → low_rules (at z) ≡ c → is_token (at z) ≡ d → (c || d) ≡ true → (ruled leaf 0 f z +ℤ ruled leaf 3 f z) ≤ℤ f z
      go true d e g h = let a = ruled-by-low f z l e in let b = ruled-low (rules_out leaf 3 z) (f z) m in omega (arith, ints, a, b)
      go false true e g h = let a = ruled-by-nothing f z l g in let b = ruled-low (rules_out leaf 0 z) (f z) m in omega (arith, ints, a, b)
      go false false e g h = absurd (clash h)

  both-low : (f : ℕ → ℤ) (z : ℕ) → f z ≤ℤ pos 0 → (ruled leaf 0 f z +ℤ ruled leaf 3 f z) ≤ℤ pos 0
  both-low f z m = let a = ruled-low (rules_out leaf 0 z) (f z) m in let b = ruled-low (rules_out leaf 3 z) (f z) m in omega (arith, ints, a, b)

  -- ---- no wrong output is left

  says-ruled : (r : Role) → says r ≡ false → (low_rules r || is_token r) ≡ true
  says-ruled Low e = absurd (clash (sym e))
  says-ruled High e = refl
  says-ruled (Nothing true) e = absurd (clash (sym e))
  says-ruled (Nothing false) e = refl
  says-ruled (Piece i true) e = absurd (clash (sym e))
  says-ruled (Piece i false) e = refl
  says-ruled Plus e = refl
  says-ruled (Debtor j) e = absurd (clash (sym e))
  says-ruled (Token j i) e = refl

  no-twins : (r : Role) → twin_by none r ≡ pos 0
  no-twins Low = refl
  no-twins High = refl
  no-twins (Nothing b) = refl
  no-twins (Piece i true) = refl
  no-twins (Piece i false) = refl
  no-twins Plus = refl
  no-twins (Debtor j) = refl
  no-twins (Token j i) = refl

  no-here : (r : Role) → low_by (pos 0) r ≡ pos 0
  no-here Low = refl
  no-here High = refl
  no-here (Nothing b) = refl
  no-here (Piece i b) = refl
  no-here Plus = refl
  no-here (Debtor j) = refl
  no-here (Token j i) = refl

  low-wrong : (z : ℕ) → z < many → (indicator (is_wrong leaf true z) +ℤ (ruled leaf 0 (mw true) z +ℤ ruled leaf 3 (mw true) z)) ≤ℤ pos 0
  low-wrong z l = go (says (at z)) refl
    where
      go : (c : Bool) → says (at z) ≡ c → (indicator (is_wrong leaf true z) +ℤ (ruled leaf 0 (mw true) z +ℤ ruled leaf 3 (mw true) z)) ≤ℤ pos 0
      go true e =
          let none_wrong = ap indicator (wrong-at true z l ∙ ap (λ (c : Bool). not c) e) in
          let low = both-low (mw true) z (mw-low true z) in
          omega (arith, ints, none_wrong, low)
      go false e = let r = both-ruled (mw true) z l (mw-low true z) (says-ruled (at z) e) in omega (arith, ints, r)

  low_true_low : IsLow leaf pred true true_row (bound -ℤ pos 1) (low_facts leaf k tw k low_last) none (pos 1) (pos 0) (ended (pos 0) (mw true) none)
  low_true_low = record {
    at_inputs = λ i l. (
        let row = zero-*ℤ (get_or true_row i (pos 0)) in
        let own = ended-none (pos 0) (mw true) none i (input-none i l) in
        omega (arith, ints, row, own));
    at_states = λ z l. (
        let own = ended-state (pos 0) (mw true) none z l in
        let twins = no-twins (at z) in
        let here = no-here (at z) in
        let one = one-times (indicator (is_wrong leaf true z)) in
        let low = low-wrong z l in
        omega (arith, ints, own, twins, here, one, low));
    at_moves = λ t d l. (let own = ended-none (pos 0) (mw true) none (n + many + t) (past-none t) in omega (arith, ints, own));
    at_past = λ j. (let own = ended-none (pos 0) (mw true) none (n + many + (length leaf.moves + j)) (past-none (length leaf.moves + j)) in omega (arith, ints, own));
    at_end = (
        let sum = none-total leaf.helpers in
        let row = zero-*ℤ (bound -ℤ pos 1) in
        let own = ended-constant (pos 0) (mw true) none in
        let twins = none-total (range_with_len 0 k) in
        omega (arith, ints, sum, row, own, twins));
  }

  pub low_true_closes : closes_by_sum (all_facts leaf pred true true_row (bound -ℤ pos 1) (low_facts leaf k tw k low_last)) (terms_from 0 (low_mix coefs k leaf true)) ≡ true
  low_true_closes = mix_closes leaf pred true true_row (bound -ℤ pos 1) (low_facts leaf k tw k low_last) none (pos 1) (pos 0) (ended (pos 0) (mw true) none) (plain true_row (length-map coefs neg_ℤ)) refl refl (low-may leaf k tw (pos 0) (mw true) none low_last (pos 0 ∷ map (mw true) (company_of leaf 3)) refl (λ i. refl) (last-may (mw true))) low_true_low

  -- ---- the sum isn't below the bound

  abbrev owed_by : ℕ → ℤ
  owed_by = by_role coefs k (λ r. neg_ℤ (credit coefs k r))

  abbrev size : ℕ → ℤ
  size i = pos (2 ^ i)

  owed-low : (z : ℕ) → owed_by z ≤ℤ pos 0
  owed-low z = go (at z)
    where
      go : (r : Role) → neg_ℤ (credit coefs k r) ≤ℤ pos 0
      go Low = omega (arith, ints)
      go High = omega (arith, ints)
      go (Nothing b) = omega (arith, ints)
      go (Piece i b) = omega (arith, ints)
      go Plus = omega (arith, ints)
      go (Debtor j) = omega (arith, ints)
      go (Token j i) = omega (arith, ints)

  low-worth : (z : ℕ) → z < many → (w z +ℤ ((low_by (pos (2 ^ k)) (at z) -ℤ twin_by size (at z)) +ℤ (ruled leaf 0 owed_by z +ℤ ruled leaf 3 owed_by z))) ≤ℤ pos 0
  low-worth z l = go (at z) refl (role-valid coefs k z (omega (arith, long, l)))
    where
      low : (ruled leaf 0 owed_by z +ℤ ruled leaf 3 owed_by z) ≤ℤ pos 0
      low = both-low owed_by z (owed-low z)

      out : (r : Role) → at z ≡ r → (low_rules r || is_token r) ≡ true → (ruled leaf 0 owed_by z +ℤ ruled leaf 3 owed_by z) ≤ℤ neg_ℤ (credit coefs k r)
      out r e h =
          let b = both-ruled owed_by z l (owed-low z) (ap (λ r. low_rules r || is_token r) e ∙ h) in
          let c = ap (λ r. neg_ℤ (credit coefs k r)) e in
          omega (arith, ints, b, c)

      go : (r : Role) → at z ≡ r → IsRole coefs k r → (worth coefs k r +ℤ ((low_by (pos (2 ^ k)) r -ℤ twin_by size r) +ℤ (ruled leaf 0 owed_by z +ℤ ruled leaf 3 owed_by z))) ≤ℤ pos 0
      go Low e v = omega (arith, ints, low)
      go High e v = omega (arith, ints, low)
      go (Nothing b) e v = omega (arith, ints, low)
      go (Piece i false) e v = let o = out (Piece i false) e refl in omega (arith, ints, o)
      go (Piece i true) e v = omega (arith, ints, low)
      go Plus e v = let o = out Plus e refl in omega (arith, ints, o)
      go (Debtor j) e v = let owes = v.1 in omega (arith, ints, low, owes)
      go (Token j i) e v = let o = out (Token j i) e refl in omega (arith, ints, o)

  low_false_low : IsLow leaf pred false coefs (neg_ℤ bound) (low_facts leaf k tw k low_last) minus_w (pos 0) (pos 1) (ended (pos (2 ^ k)) owed_by size)
  low_false_low = record {
    at_inputs = λ i l. (
        let first = input-at (λ r. neg_ℤ (worth coefs k r)) i l in
        let start = start-is i l in
        let one = one-times (get_or coefs i (pos 0)) in
        let own = ended-none (pos (2 ^ k)) owed_by size i (input-none i l) in
        omega (arith, ints, first, start, one, own));
    at_states = λ z l. (
        let own = ended-state (pos (2 ^ k)) owed_by size z l in
        let wrong = zero-*ℤ (indicator (is_wrong leaf false z)) in
        let low = low-worth z l in
        omega (arith, ints, own, wrong, low));
    at_moves = λ t d l. (
        let own = ended-none (pos (2 ^ k)) owed_by size (n + many + t) (past-none t) in
        let keep = kept t d l in
        omega (arith, ints, own, keep));
    at_past = λ j. (let own = ended-none (pos (2 ^ k)) owed_by size (n + many + (length leaf.moves + j)) (past-none (length leaf.moves + j)) in omega (arith, ints, own));
    at_end = (
        let sum = helpers-total coefs bound k spare (λ r. neg_ℤ (worth coefs k r)) ∙ helpers-owe coefs bound k spare is.below is.above in
        let one = one-times (neg_ℤ bound) in
        let own = ended-constant (pos (2 ^ k)) owed_by size in
        let twins = powers-total 0 k in
        let same = ap (λ m. 2 ^ m) (zero-add k) in
        omega (arith, ints, sum, one, own, twins, same));
  }

  zero-le : (m : ℕ) → int_le (pos 0) (pos m) ≡ true
  zero-le m = le-test (pos 0) (pos m) (omega (arith, ints))

  or-yes : (c d : Bool) → d ≡ true → (c || d) ≡ true
  or-yes true d e = refl
  or-yes false d e = e

  pub low_false_closes : closes_by_sum (all_facts leaf pred false coefs (neg_ℤ bound) (low_facts leaf k tw k low_last)) (terms_from 0 (low_mix coefs k leaf false)) ≡ true
  low_false_closes = mix_closes leaf pred false coefs (neg_ℤ bound) (low_facts leaf k tw k low_last) minus_w (pos 0) (pos 1) (ended (pos (2 ^ k)) owed_by size) (plain coefs refl) refl refl (low-may leaf k tw (pos (2 ^ k)) owed_by size low_last (pos 0 ∷ map owed_by (company_of leaf 3)) (or-yes (int_eq (pos (2 ^ k)) (pos 0)) (int_le (pos 0) (pos (2 ^ k))) (zero-le (2 ^ k))) (λ i. zero-le (2 ^ i)) (last-may owed_by)) low_false_low
