-- The rows of the flow facts, move by move.
use Rattle.std.proofs.Common.{◌≡◌, ◌≢◌, ◌⊎◌, inl, inr, ℕ, zero, suc, ◌+◌, ◌<◌, ◌≤◌, Bool, true, false, List, [], ◌∷◌, ◌++◌, length, map, take, get_or, append_assoc, refl, ap, sym, ◌∙◌, zero-add, arith, drop, w64, to_z, of_z}
use Rattle.std.specs.Prelude.{ℤ, pos, negsuc, neg_ℤ, option_map, ◌-ℤ◌, Some, slice_get, ◌==◌, ◌||◌, if◌then◌else◌}
use Rattle.std.specs.List.{range_with_len, slice_set, zip}
use Rattle.std.proofs.Math.ListN.{length-set}
use Rattle.std.proofs.lemmas.List.{append-nil, length-map, take_all, map_push}
use Rattle.std.proofs.lemmas.List.FromFn.{length-map-range_with_len, length-range_with_len}
use Rattle.std.proofs.lemmas.Bool.Decides.{eqb_tells}
use Rattle.std.proofs.lemmas.Option.{slice_get-map, slice_get_within, get_or_from_slice_get}
use mir.Val.{bool_byte}
use Rattle.pop_leaf.specs.declared.leaf.Move.{Move}
use Rattle.pop_leaf.specs.LeafModel.{LeafModel, IsLeaf, IsMoveBelow, pre, post}
use Rattle.pop_leaf.proofs.Quiet.{All-slice_get}
use Rattle.cert_base.specs.declared.fact.Term.{Term}
use Rattle.cert_base.specs.declared.fact.Fact.{Fact}
use Rattle.cert_base.specs.declared.fact.Fact.TheVariants.{Eq}
use Rattle.cert_base.specs.Rows.{terms_from, move_variable, state_variable}
use Rattle.cert_base.specs.FactsAndCases.{indicator, states_of, helpers_starting, is_in, flow}
use Rattle.cert_base.specs.Parts.{term_of, change_at, flow_terms, flow_rows_after, entered_rows}
use Rattle.cert_base.proofs.TermLists.{terms_from-cons, terms_from-append, terms_from-next, minus_one_at, terms_from-state}
use Rattle.base_laws.proofs.Lists.{get-set_same, take_one_more, same_lists, slice_get-set_other}
use Rattle.base_laws.proofs.Ranges.{get-range}

-- ---- lists

length-take_short : {A : Type 0} (xs : List A) (k : ℕ) → k ≤ length xs → length (take k xs) ≡ k
length-take_short xs zero l = refl
length-take_short [] (suc k) l = absurd (omega arith)
length-take_short (x ∷ xs) (suc k) l = ap suc (length-take_short xs k (omega arith))

-- ---- one more move

terms_from-one : (k : ℕ) (a : ℤ) → terms_from k (a ∷ []) ≡ term_of k a
terms_from-one k a = terms_from-cons k a [] ∙ append-nil (term_of k a)

pub flow_terms-more : (leaf : LeafModel) (t q : ℕ) (taken : Move) → slice_get leaf.moves t ≡ Some taken → flow_terms leaf t q ++ term_of (move_variable leaf t) (change_at q taken) ≡ flow_terms leaf (t + 1) q
flow_terms-more leaf t q taken h =
    let before = map (change_at q) (take t leaf.moves) in
    let start = terms_from 0 (map (λ start. indicator (start == q)) leaf.inputs) in
    let own : Term = record { at = state_variable leaf q; by = negsuc 0 } in
    let k = move_variable leaf 0 in
    let long : length before ≡ t = length-map (take t leaf.moves) (change_at q) ∙ length-take_short leaf.moves t (let l : t ≤ length leaf.moves = omega (arith, slice_get_within leaf.moves t taken h) in l) in
    let all : terms_from k (map (change_at q) (take (t + 1) leaf.moves)) ≡ terms_from k before ++ term_of (move_variable leaf t) (change_at q taken) =
    ap (terms_from k) (ap (map (change_at q)) (take_one_more leaf.moves t taken h) ∙ map_push (change_at q) (take t leaf.moves) taken)
    ∙ terms_from-append k before (change_at q taken ∷ [])
    ∙ ap (λ ts. terms_from k before ++ ts) (ap (λ n. terms_from n (change_at q taken ∷ [])) (let e : k + length before ≡ move_variable leaf t = omega (arith, long) in e) ∙ terms_from-one (move_variable leaf t) (change_at q taken)) in
    append_assoc start (own ∷ terms_from k before) (term_of (move_variable leaf t) (change_at q taken))
    ∙ ap (λ ts. start ++ (own ∷ ts)) (sym all)

-- the rows; those of these states already have the move
record HasRows (leaf : LeafModel) (t : ℕ) (rows : List (List Term)) (states : List ℕ) : Type 0 where
  long : length rows ≡ length leaf.states
  each : (z : ℕ) → z < length leaf.states → slice_get rows z ≡ Some (if is_in states z then flow_terms leaf (t + 1) z else flow_terms leaf t z)

start_has : (leaf : LeafModel) (t : ℕ) → HasRows leaf t (flow_rows_after leaf t) []
start_has leaf t = record {
  long = length-map-range_with_len (flow_terms leaf t) 0 (length leaf.states);
  each = λ z l. get-range (flow_terms leaf t) (length leaf.states) z l;
}

module _ (leaf : LeafModel) (t : ℕ) (taken : Move) (h : slice_get leaf.moves t ≡ Some taken) where
  abbrev after : List (List Term) → ℕ → List ℕ → List (List Term)
  after rows state before = entered_rows rows state before taken (move_variable leaf t)

  step_there : (rows : List (List Term)) (state : ℕ) (before : List ℕ) (b : Bool) → is_in before state ≡ b → state < length leaf.states → HasRows leaf t rows before → HasRows leaf t (if b then rows else slice_set rows state (get_or rows state [] ++ term_of (move_variable leaf t) (change_at state taken))) (state ∷ before)
  step_there rows state before true e l has = record {
    long = has.long;
    each = λ z m. has.each z m ∙ ap (λ b. Some (if b then flow_terms leaf (t + 1) z else flow_terms leaf t z)) (same z (eqb_tells state z));
  }
    where
      same : (z : ℕ) → ((state == z) ≡ true) × (state ≡ z) ⊎ ((state == z) ≡ false) × (state ≢ z) → is_in before z ≡ (state == z) || is_in before z
      same z (inl k) = ap (is_in before) (sym k.1) ∙ e ∙ (rw k.0 refl)
      same z (inr k) = rw k.0 refl
  step_there rows state before false e l has = record {
    long = length-set rows state _ ∙ has.long;
    each = λ z m. at z m (eqb_tells state z);
  }
    where
      row : List Term
      row = get_or rows state [] ++ term_of (move_variable leaf t) (change_at state taken)

      is_row : get_or rows state [] ++ term_of (move_variable leaf t) (change_at state taken) ≡ flow_terms leaf (t + 1) state
      is_row =
          ap (λ ts. ts ++ term_of (move_variable leaf t) (change_at state taken)) (get_or_from_slice_get rows state (flow_terms leaf t state) [] (has.each state l ∙ ap (λ b. Some (if b then flow_terms leaf (t + 1) state else flow_terms leaf t state)) e))
          ∙ flow_terms-more leaf t state taken h

      at : (z : ℕ) → z < length leaf.states → ((state == z) ≡ true) × (state ≡ z) ⊎ ((state == z) ≡ false) × (state ≢ z) → slice_get (slice_set rows state (get_or rows state [] ++ term_of (move_variable leaf t) (change_at state taken))) z ≡ Some (if (state == z) || is_in before z then flow_terms leaf (t + 1) z else flow_terms leaf t z)
      at z m (inl k) =
          rw (k.0, ← k.1) (get-set_same rows state _ (let n : state < length rows = omega (arith, has.long) in n) ∙ ap Some is_row)
      at z m (inr k) =
          rw k.0 (slice_get-set_other rows state z _ (if is_in before z then flow_terms leaf (t + 1) z else flow_terms leaf t z) k.1 (has.each z m))

  step_has : (rows : List (List Term)) (state : ℕ) (before : List ℕ) → state < length leaf.states → HasRows leaf t rows before → HasRows leaf t (after rows state before) (state ∷ before)
  step_has rows state before l has = step_there rows state before (is_in before state) refl l has

  -- a state that isn't one of the move's four is unchanged
  other_state : (z : ℕ) → is_in (taken.s ∷ taken.r ∷ taken.q ∷ taken.p ∷ []) z ≡ false → change_at z taken ≡ pos 0
  other_state z e = go (taken.p == z) (taken.q == z) (taken.r == z) (taken.s == z) e
    where
      go : (a b c d : Bool) → d || (c || (b || (a || false))) ≡ false → (pos ((if c then 1 else 0) + (if d then 1 else 0)) -ℤ pos ((if a then 1 else 0) + (if b then 1 else 0))) ≡ pos 0
      go false false false false e = refl
      go true false false false e = cc
      go a true false false e = cc
      go a b true false e = cc
      go a b c true e = cc

  end_row : (z : ℕ) (b : Bool) → is_in (taken.s ∷ taken.r ∷ taken.q ∷ taken.p ∷ []) z ≡ b → (if b then flow_terms leaf (t + 1) z else flow_terms leaf t z) ≡ flow_terms leaf (t + 1) z
  end_row z true e = refl
  end_row z false e =
      sym (append-nil (flow_terms leaf t z))
      ∙ ap (λ a. flow_terms leaf t z ++ term_of (move_variable leaf t) a) (sym (other_state z e))
      ∙ flow_terms-more leaf t z taken h

  end_has : (rows : List (List Term)) → HasRows leaf t rows (taken.s ∷ taken.r ∷ taken.q ∷ taken.p ∷ []) → rows ≡ flow_rows_after leaf (t + 1)
  end_has rows has =
      same_lists rows (flow_rows_after leaf (t + 1)) (has.long ∙ sym (length-map-range_with_len (flow_terms leaf (t + 1)) 0 (length leaf.states)))
      (λ z l. let m : z < length leaf.states = omega (arith, has.long) in has.each z m ∙ ap Some (end_row z (is_in (taken.s ∷ taken.r ∷ taken.q ∷ taken.p ∷ []) z) refl) ∙ sym (get-range (flow_terms leaf (t + 1)) (length leaf.states) z m))

  -- all rows after the move, where each of its states is entered once
  pub rows_entered : (taken.p < length leaf.states) × (taken.q < length leaf.states) × (taken.r < length leaf.states) × (taken.s < length leaf.states) → after (after (after (after (flow_rows_after leaf t) taken.p []) taken.q (taken.p ∷ [])) taken.r (taken.q ∷ taken.p ∷ [])) taken.s (taken.r ∷ taken.q ∷ taken.p ∷ []) ≡ flow_rows_after leaf (t + 1)
  rows_entered below =
      end_has _ (step_has _ taken.s (taken.r ∷ taken.q ∷ taken.p ∷ []) below.3 (step_has _ taken.r (taken.q ∷ taken.p ∷ []) below.2 (step_has _ taken.q (taken.p ∷ []) below.1 (step_has _ taken.p [] below.0 (start_has leaf t)))))

  pub move_below : IsLeaf leaf → IsMoveBelow (length leaf.states) taken
  move_below is = All-slice_get (IsMoveBelow (length leaf.states)) leaf.moves t taken is.moves h

pub length-rows : (leaf : LeafModel) (t : ℕ) (rows : List (List Term)) → rows ≡ flow_rows_after leaf t → length rows ≡ length leaf.states
length-rows leaf t rows e = ap length e ∙ length-map-range_with_len (flow_terms leaf t) 0 (length leaf.states)

-- what four entries make of the rows
pub rows_moved : (leaf : LeafModel) (t variable : ℕ) (taken : Move) (rows one two three four : List (List Term)) → IsLeaf leaf → slice_get leaf.moves t ≡ Some taken → variable ≡ move_variable leaf t → rows ≡ flow_rows_after leaf t → one ≡ entered_rows rows taken.p [] taken variable → two ≡ entered_rows one taken.q (taken.p ∷ []) taken variable → three ≡ entered_rows two taken.r (taken.q ∷ taken.p ∷ []) taken variable → four ≡ entered_rows three taken.s (taken.r ∷ taken.q ∷ taken.p ∷ []) taken variable → four ≡ flow_rows_after leaf (t + 1)
rows_moved leaf t variable taken rows one two three four is h v start e f g k =
    let all = rows_entered leaf t taken h (move_below leaf t taken h is) in
    let first : one ≡ entered_rows (flow_rows_after leaf t) taken.p [] taken (move_variable leaf t) = e ∙ ap (λ rs. entered_rows rs taken.p [] taken variable) start ∙ ap (λ n. entered_rows (flow_rows_after leaf t) taken.p [] taken n) v in
    let second : two ≡ entered_rows (entered_rows (flow_rows_after leaf t) taken.p [] taken (move_variable leaf t)) taken.q (taken.p ∷ []) taken (move_variable leaf t) = f ∙ ap (λ rs. entered_rows rs taken.q (taken.p ∷ []) taken variable) first ∙ ap (λ n. entered_rows (entered_rows (flow_rows_after leaf t) taken.p [] taken (move_variable leaf t)) taken.q (taken.p ∷ []) taken n) v in
    let third = g ∙ ap (λ rs. entered_rows rs taken.r (taken.q ∷ taken.p ∷ []) taken variable) second in
    k ∙ ap (λ rs. entered_rows rs taken.s (taken.r ∷ taken.q ∷ taken.p ∷ []) taken variable) third ∙ ap (λ n. entered_rows (entered_rows (entered_rows (entered_rows (flow_rows_after leaf t) taken.p [] taken (move_variable leaf t)) taken.q (taken.p ∷ []) taken (move_variable leaf t)) taken.r (taken.q ∷ taken.p ∷ []) taken n) taken.s (taken.r ∷ taken.q ∷ taken.p ∷ []) taken n) v ∙ all

-- ---- all moves

map-same : {A : Type 0} (f g : ℕ → A) (a n : ℕ) → ((z : ℕ) → a ≤ z → z < a + n → f z ≡ g z) → map f (range_with_len a n) ≡ map g (range_with_len a n)
map-same f g a zero e = refl
map-same f g a (suc n) e =
    let here = e a (omega arith) (omega arith) in
    let rest = map-same f g (a + 1) n (λ z l m. e z (omega arith) (omega arith)) in
    cc

flow_row : (leaf : LeafModel) (q : ℕ) → q < length leaf.states → Eq (record { terms = flow_terms leaf (length leaf.moves) q; constant = pos (helpers_starting leaf q) }) ≡ flow leaf q
flow_row leaf q l =
    let inputs = map (λ start. indicator (start == q)) leaf.inputs in
    let states = map (λ z. neg_ℤ (indicator (z == q))) (states_of leaf) in
    let moves = map (λ t. pos (post t q) -ℤ pos (pre t q)) leaf.moves in
    let n = length leaf.inputs in
    let m = length leaf.states in
    let at_states : 0 + length inputs ≡ n = zero-add (length inputs) ∙ length-map leaf.inputs (λ start. indicator (start == q)) in
    let at_moves : n + length states ≡ n + m + 0 = omega (arith, length-map (states_of leaf) (minus_one_at q) ∙ length-range_with_len 0 m) in
    let own = terms_from-state q n 0 m q (sym (zero-add q)) l in
    let all : terms_from 0 (inputs ++ states ++ moves) ≡ flow_terms leaf (length leaf.moves) q =
    ap (terms_from 0) (append_assoc inputs states moves)
    ∙ terms_from-append 0 inputs (states ++ moves)
    ∙ ap (λ k. terms_from 0 inputs ++ terms_from k (states ++ moves)) at_states
    ∙ ap (λ ts. terms_from 0 inputs ++ ts) (terms_from-append n states moves ∙ ap (λ ts. ts ++ terms_from (n + length states) moves) own ∙ ap (λ k. record { at = n + q; by = negsuc 0 } ∷ terms_from k moves) at_moves)
    ∙ ap (λ ms. terms_from 0 inputs ++ (record { at = n + q; by = negsuc 0 } ∷ terms_from (n + m + 0) (map (change_at q) ms))) (sym (take_all (length leaf.moves) leaf.moves (let k : length leaf.moves ≤ length leaf.moves = omega arith in k))) in
    ap (λ ts. Eq (record { terms = ts; constant = pos (helpers_starting leaf q) })) (sym all)

-- the facts of the rows after all moves
abbrev pub fact_of : LeafModel → List Term × ℕ → Fact
fact_of leaf row = Eq (record { terms = row.0; constant = pos (helpers_starting leaf row.1) })

map-zip : {A B : Type 0} (f : A × ℕ → B) (g : ℕ → A) (xs : List ℕ) → map f (zip (map g xs) xs) ≡ map (λ x. f (g x, x)) xs
map-zip f g [] = refl
map-zip f g (x ∷ xs) = ap (λ ys. f (g x, x) ∷ ys) (map-zip f g xs)

pub flow_rows-facts : (leaf : LeafModel) (rows : List (List Term)) → rows ≡ flow_rows_after leaf (length leaf.moves) → map (fact_of leaf) (zip rows (states_of leaf)) ≡ map (flow leaf) (states_of leaf)
flow_rows-facts leaf rows e =
    ap (λ rs. map (fact_of leaf) (zip rs (states_of leaf))) e
    ∙ map-zip (fact_of leaf) (flow_terms leaf (length leaf.moves)) (states_of leaf)
    ∙ map-same (λ q. fact_of leaf (flow_terms leaf (length leaf.moves) q, q)) (flow leaf) 0 (length leaf.states) (λ q a l. flow_row leaf q (omega arith))

-- ---- the terms of the inputs

bit_is : (b : Bool) → to_z w64 (of_z w64 (pos (bool_byte b))) ≡ indicator b
bit_is true = refl
bit_is false = refl

pub input_entered : (inputs : List ℕ) (q i start variable : ℕ) (a : ℤ) (before after : List Term) → slice_get inputs i ≡ Some start → variable ≡ i → a ≡ pos (bool_byte (start == q)) → after ≡ before ++ term_of variable (to_z w64 (of_z w64 a)) → after ++ terms_from (0 + (i + 1)) (drop (i + 1) (map (λ start. indicator (start == q)) inputs)) ≡ before ++ terms_from (0 + i) (drop i (map (λ start. indicator (start == q)) inputs))
input_entered inputs q i start variable a before after h at by e =
    let coefs = map (λ start. indicator (start == q)) inputs in
    let within : i < length coefs = omega (arith, slice_get_within inputs i start h, length-map inputs (λ start. indicator (start == q))) in
    let here : get_or coefs i (pos 0) ≡ indicator (start == q) = get_or_from_slice_get coefs i (indicator (start == q)) (pos 0) (slice_get-map (λ start. indicator (start == q)) inputs i ∙ ap (option_map (λ start. indicator (start == q))) h) in
    let value : to_z w64 (of_z w64 a) ≡ indicator (start == q) = ap (λ z. to_z w64 (of_z w64 z)) by ∙ bit_is (start == q) in
    let place : variable ≡ 0 + i = at ∙ sym (zero-add i) in
    terms_from-next 0 i coefs before after (indicator (start == q)) within here (e ∙ ap (λ n. before ++ term_of n (to_z w64 (of_z w64 a))) place ∙ ap (λ z. before ++ term_of (0 + i) z) value)
