-- The nodes that say that a hub is left close: no move leaves the hubs, a helper starts there, and not both are absent.
use Rattle.std.proofs.Common.{◌≡◌, ◌∙◌, subst, ℕ, zero, suc, ◌+◌, ◌*◌, ◌<◌, ◌≤◌, Bool, true, false, ◌&&◌, ◌||◌, List, [], ◌∷◌, ◌++◌, length, map, get_or, refl, ap, sym, arith}
use Rattle.std.specs.Prelude.{ℤ, pos, negsuc, neg_ℤ, ◌+ℤ◌, ◌-ℤ◌, ◌≤ℤ◌, not, if◌then◌else◌, ◌==◌, replicate}
use Rattle.std.specs.List.{range_with_len}
use Rattle.std.proofs.lemmas.Int.{ints}
use Rattle.std.proofs.Math.IntN.{zero-*ℤ}
use Rattle.std.proofs.lemmas.Bool.{ne_eqb}
use Rattle.std.proofs.lemmas.List.{length-replicate}
use Rattle.std.proofs.lemmas.List.Elements.{All-get_or}
use Rattle.pop_leaf.specs.declared.leaf.Move.{Move}
use Rattle.pop_leaf.specs.LeafModel.{LeafModel, IsMoveBelow}
use Rattle.pres_ast.specs.PredModel.{PredModel}
use Rattle.cert_base.specs.declared.fact.Fact.{Fact}
use Rattle.cert_base.specs.declared.fact.Fact.TheVariants.{Eq}
use Rattle.cert_base.specs.Rows.{terms_from, zeros, constant_row}
use Rattle.cert_base.specs.ClosingTests.{closes_by_sum, may_add}
use Rattle.cert_base.specs.FactsAndCases.{indicator, is_in, takes_from, puts_into, helpers_among, some_taken_fact, no_moves, no_start_facts, no_helper_facts, count_row, absent_fact}
use Rattle.cert_base.specs.WeightedSums.{sum_of_facts, coefficient, constant_of, may_weigh}
use Rattle.cert_base.proofs.WeightedSums.{weighted_sum-append, weighted_sum-zeros, may_weigh-append, may_weigh-zeros}
use Rattle.comp_trees.proofs.LeaderEnds.{absent-at, shifted, is_wrong}
use Rattle.comp_trees.proofs.TakenMoves.{taken-before, taken-move, taken-past}
use Rattle.comp_trees.proofs.TrapNodes.{states-state, states-input, states-past}
use Rattle.base_laws.proofs.Numbers.{same_turned}
use Rattle.comp_powers_leaf.specs.declared.role.Role.{Role}
use Rattle.comp_powers_leaf.specs.declared.role.Role.TheVariants.{Low, High, Nothing, Piece, Plus, Debtor, Token}
use Rattle.comp_powers_leaf.specs.PowersLeaf.{roles, role_at, place, second, bit_role, lacking, hub_of, IsPowers, HasRoom}
use Rattle.comp_powers_leaf.proofs.Places.{place-role}
use Rattle.comp_powers_leaf.proofs.Moves.{ByRoles}
use Rattle.comp_powers_leaf.proofs.Kept.{is_hub, KeepsHub, hub-kept}
use Rattle.comp_powers_leaf.proofs.Formed.{states-long}
use Rattle.comp_trees.proofs.HelperSums.{count-more}
use Rattle.comp_powers.specs.PowersProof.{none, hubs, no_leak_mix, helped_mix, no_hub_mix}
use Rattle.comp_trees.proofs.Mixes.{all_facts, IsLow, mix_closes}
use Rattle.comp_powers.proofs.Own.{some_hub}
use Rattle.comp_powers.proofs.Nodes.{leaf, pred, formed, plain, none-total}

-- ---- the places of the hubs

far : (q : ℕ) → 2 ≤ q → is_in hubs q ≡ false
far q l = let a = ne_eqb 0 q (λ e. omega arith) in let b = ne_eqb 1 q (λ e. omega arith) in rw (a, b) refl

hub-in : (coefs : List ℤ) (k : ℕ) (r : Role) → is_in hubs (place coefs k r) ≡ is_hub r
hub-in coefs k Low = refl
hub-in coefs k High = refl
hub-in coefs k (Nothing b) = far (2 + second b) (omega arith)
hub-in coefs k (Piece i b) = far (4 + 2 * i + second b) (omega arith)
hub-in coefs k Plus = far (4 + 2 * k) (omega arith)
hub-in coefs k (Debtor j) = far (place coefs k (Debtor j)) (omega arith)
hub-in coefs k (Token j i) = far (place coefs k (Token j i)) (omega arith)

module _ (coefs : List ℤ) (bound : ℤ) (k spare : ℕ) (is : IsPowers coefs bound k) (room : HasRoom k spare) where
  abbrev here : LeafModel
  here = leaf coefs bound k spare is room

  abbrev pr : PredModel
  pr = pred coefs bound k spare is room

  hub-place : (q : ℕ) → q < length (roles coefs k) → is_in hubs q ≡ is_hub (role_at coefs k q)
  hub-place q l = ap (is_in hubs) (sym (place-role coefs k q l)) ∙ hub-in coefs k (role_at coefs k q)

  -- ---- no move leaves the hubs

  abbrev pub leaks : Move → Bool
  leaks t = takes_from hubs t && not (puts_into hubs t)

  no-leak : (t : Move) → IsMoveBelow (length (roles coefs k)) t → ByRoles coefs k (KeepsHub coefs k) t → leaks t ≡ false
  no-leak t below keep =
      let p = hub-place t.p below.0 in
      let q = hub-place t.q below.1 in
      let r = hub-place t.r below.2 in
      let s = hub-place t.s below.3 in
      four (is_in hubs t.p) (is_in hubs t.q) (is_in hubs t.r) (is_in hubs t.s) p q r s keep
    where
      four : (a b c d : Bool) → {e f g h : Bool} → a ≡ e → b ≡ f → c ≡ g → d ≡ h → ((e || f) && not (g || h)) ≡ false → ((a || b) && not (c || d)) ≡ false
      four a b c d p q r s keep = rw (p, q, r, s) keep

  abbrev pub leak_facts : List Fact
  leak_facts = some_taken_fact here leaks ∷ []

  leak-sum : (value : Fact → ℤ) → sum_of_facts value leak_facts (pos 1 ∷ []) ≡ value (some_taken_fact here leaks)
  leak-sum value = omega (arith, ints)

  leak_low : (b : Bool) (row : List ℤ) (constant : ℤ) → IsLow here pr b row constant leak_facts none (pos 0) (pos 0) (pos 1 ∷ [])
  leak_low b row constant = record {
    at_inputs = λ i l. (
        let a = zero-*ℤ (get_or row i (pos 0)) in
        let own = leak-sum (coefficient i) ∙ taken-before here leaks i (omega arith) in
        omega (arith, ints, a, own));
    at_states = λ z l. (
        let a = zero-*ℤ (indicator (is_wrong here b z)) in
        let own = leak-sum (coefficient (length here.inputs + z)) ∙ taken-before here leaks (length here.inputs + z) (omega arith) in
        omega (arith, ints, a, own));
    at_moves = λ t d l. (
        let below = subst (λ m. IsMoveBelow m (get_or here.moves t d)) (states-long coefs bound k) (All-get_or (IsMoveBelow (length here.states)) here.moves t d l (formed coefs bound k spare is room).moves) in
        let keep = All-get_or (ByRoles coefs k (KeepsHub coefs k)) here.moves t d l (hub-kept coefs k) in
        let none_leaks = ap indicator (no-leak (get_or here.moves t d) below keep) in
        let own = leak-sum (coefficient (length here.inputs + length here.states + t)) ∙ taken-move here leaks t d l in
        omega (arith, ints, own, none_leaks));
    at_past = λ j. (
        let own = leak-sum (coefficient (length here.inputs + length here.states + (length here.moves + j))) ∙ taken-past here leaks j in
        omega (arith, ints, own));
    at_end = (let sum = none-total here.helpers in let a = zero-*ℤ constant in omega (arith, ints, sum, a));
  }

  pub leak_closes : (b : Bool) (row : List ℤ) (constant : ℤ) → length row ≡ length coefs → closes_by_sum (all_facts here pr b row constant leak_facts) (terms_from 0 (no_leak_mix here)) ≡ true
  leak_closes b row constant e = mix_closes here pr b row constant leak_facts none (pos 0) (pos 0) (pos 1 ∷ []) (plain coefs bound k spare is room row e) refl refl refl (leak_low b row constant)

  -- ---- a helper starts there

  abbrev counted : ℕ
  counted = helpers_among here hubs

  hub-first : is_hub (hub_of bound) ≡ true
  hub-first = go bound
    where
      go : (a : ℤ) → is_hub (hub_of a) ≡ true
      go (pos zero) = refl
      go (pos (suc n)) = refl
      go (negsuc n) = refl

  helped : 1 ≤ counted
  helped =
      let others = map (place coefs k) ((Nothing false ∷ map (bit_role (lacking k bound)) (range_with_len 0 k)) ++ replicate spare (Nothing false)) in
      let more = count-more (is_in hubs) (place coefs k (hub_of bound)) others in
      let first = ap {B = ℕ} (λ (b : Bool). if b then 1 else 0) (hub-in coefs k (hub_of bound) ∙ hub-first) in
      omega (arith, more, first)

  abbrev before : List Fact
  before = no_moves here (puts_into hubs) ++ no_start_facts here hubs

  abbrev no_count : Fact
  no_count = Eq (count_row here hubs (pos 0))

  abbrev helper_fact : Fact
  helper_fact = Eq (constant_row (pos counted))

  abbrev pub helped_facts : List Fact
  helped_facts = before ++ (no_count ∷ no_helper_facts here hubs)

  facts-are : no_helper_facts here hubs ≡ helper_fact ∷ []
  facts-are = let e = ne_eqb counted 0 (λ e. let l = helped in omega (arith, e, l)) in rw e refl

  abbrev helped_own : List ℤ
  helped_own = zeros (length before) ++ pos 0 ∷ negsuc 0 ∷ []

  before-long : length before ≡ length (zeros (length before))
  before-long = sym (length-replicate (length before) (pos 0))

  helped-sum : (value : Fact → ℤ) → sum_of_facts value (before ++ (no_count ∷ helper_fact ∷ [])) helped_own ≡ neg_ℤ (value helper_fact)
  helped-sum value =
      let both = weighted_sum-append value before (no_count ∷ helper_fact ∷ []) (zeros (length before)) (pos 0 ∷ negsuc 0 ∷ []) before-long in
      let none = weighted_sum-zeros value before (length before) in
      let a = zero-*ℤ (value no_count) in
      omega (arith, ints, both, none, a)

  helped-may : may_weigh may_add (before ++ (no_count ∷ helper_fact ∷ [])) helped_own ≡ true
  helped-may = may_weigh-append may_add before (no_count ∷ helper_fact ∷ []) (zeros (length before)) (pos 0 ∷ negsuc 0 ∷ []) before-long (may_weigh-zeros may_add before (length before) (omega arith)) refl

  helped_low : (b : Bool) (row : List ℤ) (constant : ℤ) → IsLow here pr b row constant (before ++ (no_count ∷ helper_fact ∷ [])) none (pos 0) (pos 0) helped_own
  helped_low b row constant = record {
    at_inputs = λ i l. (let a = zero-*ℤ (get_or row i (pos 0)) in let own = helped-sum (coefficient i) in omega (arith, ints, a, own));
    at_states = λ z l. (let a = zero-*ℤ (indicator (is_wrong here b z)) in let own = helped-sum (coefficient (length here.inputs + z)) in omega (arith, ints, a, own));
    at_moves = λ t d l. (let own = helped-sum (coefficient (length here.inputs + length here.states + t)) in omega (arith, ints, own));
    at_past = λ j. (let own = helped-sum (coefficient (length here.inputs + length here.states + (length here.moves + j))) in omega (arith, ints, own));
    at_end = (let sum = none-total here.helpers in let a = zero-*ℤ constant in let own = helped-sum constant_of in let l = helped in omega (arith, ints, sum, a, own, l));
  }

  pub helped_closes : (b : Bool) (row : List ℤ) (constant : ℤ) → length row ≡ length coefs → closes_by_sum (all_facts here pr b row constant helped_facts) (terms_from 0 (helped_mix here)) ≡ true
  helped_closes b row constant e =
      subst (λ fs. closes_by_sum (all_facts here pr b row constant (before ++ (no_count ∷ fs))) (terms_from 0 (helped_mix here)) ≡ true) (sym facts-are)
      (mix_closes here pr b row constant (before ++ (no_count ∷ helper_fact ∷ [])) none (pos 0) (pos 0) helped_own (plain coefs bound k spare is room row e) refl refl helped-may (helped_low b row constant))

  -- ---- not both are absent

  abbrev pub hub_facts : List Fact
  hub_facts = some_hub here ∷ absent_fact here 0 ∷ absent_fact here 1 ∷ []

  abbrev hub_own : List ℤ
  hub_own = pos 1 ∷ negsuc 0 ∷ negsuc 0 ∷ []

  hub-sum : (value : Fact → ℤ) → sum_of_facts value hub_facts hub_own ≡ ((value (some_hub here) -ℤ value (absent_fact here 0)) -ℤ value (absent_fact here 1))
  hub-sum value = omega (arith, ints)

  abbrev held : ℕ → ℤ
  held q = indicator (is_in hubs q)

  n : ℕ
  n = length here.inputs

  positive : (c : Bool) → pos 0 ≤ℤ indicator c
  positive true = omega (arith, ints)
  positive false = omega (arith, ints)

  hub-low : (x : ℕ) → coefficient x (some_hub here) ≡ pos 0 → sum_of_facts (coefficient x) hub_facts hub_own ≤ℤ pos 0
  hub-low x e =
      let sum = hub-sum (coefficient x) in
      let a = absent-at here 0 x in
      let b = absent-at here 1 x in
      let c = positive ((length here.inputs + 0) == x) in
      let d = positive ((length here.inputs + 1) == x) in
      omega (arith, ints, sum, e, a, b, c, d)

  hub-state : (z : ℕ) → z < length here.states → sum_of_facts (coefficient (length here.inputs + z)) hub_facts hub_own ≤ℤ pos 0
  hub-state z l =
      let sum = hub-sum (coefficient (length here.inputs + z)) in
      let some = states-state here held z l in
      let a = absent-at here 0 (length here.inputs + z) ∙ ap indicator (shifted (length here.inputs) 0 z ∙ same_turned z 0) in
      let b = absent-at here 1 (length here.inputs + z) ∙ ap indicator (shifted (length here.inputs) 1 z ∙ same_turned z 1) in
      let most = either (0 == z) (1 == z) in
      omega (arith, ints, sum, some, a, b, most)
    where
      either : (c d : Bool) → indicator (c || (d || false)) ≤ℤ (indicator c +ℤ indicator d)
      either true true = omega (arith, ints)
      either true false = omega (arith, ints)
      either false true = omega (arith, ints)
      either false false = omega (arith, ints)

  hub_low : (b : Bool) (row : List ℤ) (constant : ℤ) → IsLow here pr b row constant hub_facts none (pos 0) (pos 0) hub_own
  hub_low b row constant = record {
    at_inputs = λ i l. (let a = zero-*ℤ (get_or row i (pos 0)) in let own = hub-low i (states-input here held i l) in omega (arith, ints, a, own));
    at_states = λ z l. (let a = zero-*ℤ (indicator (is_wrong here b z)) in let own = hub-state z l in omega (arith, ints, a, own));
    at_moves = λ t d l. (let own = hub-low (length here.inputs + length here.states + t) (states-past here held t) in omega (arith, ints, own));
    at_past = λ j. (let own = hub-low (length here.inputs + length here.states + (length here.moves + j)) (states-past here held (length here.moves + j)) in omega (arith, ints, own));
    at_end = (let sum = none-total here.helpers in let a = zero-*ℤ constant in omega (arith, ints, sum, a));
  }

  pub hub_closes : (b : Bool) (row : List ℤ) (constant : ℤ) → length row ≡ length coefs → closes_by_sum (all_facts here pr b row constant hub_facts) (terms_from 0 (no_hub_mix here)) ≡ true
  hub_closes b row constant e = mix_closes here pr b row constant hub_facts none (pos 0) (pos 0) hub_own (plain coefs bound k spare is room row e) refl refl refl (hub_low b row constant)
