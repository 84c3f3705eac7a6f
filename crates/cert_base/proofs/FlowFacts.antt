-- The counts of an execution meet the flow facts: what a row over all variables says, and the base facts of the states.
use Rattle.std.proofs.Common.{◌≡◌, ◌≢◌, ℕ, zero, suc, pred, ◌+◌, ◌*◌, ◌<◌, Bool, true, false, List, [], ◌∷◌, ◌++◌, length, map, replicate, refl, ap, sym, ◌∙◌, zero-add, arith}
use Rattle.std.specs.Prelude.{ℤ, pos, negsuc, neg_ℤ, ◌+ℤ◌, ◌-ℤ◌, ◌*ℤ◌, ◌==◌, if◌then◌else◌, slice_index}
use Rattle.std.specs.List.{range_with_len}
use Rattle.std.specs.Ordering.{int_eq}
use Rattle.std.proofs.Math.IntN.{*ℤ-zero, zero-*ℤ, pos-*ℤ-pos}
use Rattle.std.proofs.Math.Nat.{mul_comm, mul-zero, mul-suc}
use Rattle.std.proofs.lemmas.Bool.{eq-eqb, ne_eqb}
use Rattle.std.proofs.lemmas.Int.{ints}
use Rattle.std.proofs.lemmas.List.{length-map, length-append}
use Rattle.std.proofs.lemmas.List.FromFn.{length-range_with_len}
use Rattle.std.proofs.lemmas.List.Folds.{sum_by-replicate}
use Rattle.std.proofs.lemmas.List.Sums.{sum_by-append}
use Rattle.pop_leaf.specs.declared.leaf.Move.{Move}
use Rattle.pop_leaf.specs.LeafModel.{LeafModel, one_at, pre, post}
use Rattle.pop_leaf.specs.InputCrowd.{starts_from, leaf_input_crowd}
use Rattle.pop_leaf.specs.Reachable.{Leads}
use Rattle.pop_leaf.specs.Step.{LeafStep}
use Rattle.cert_base.specs.declared.fact.Term.{Term}
use Rattle.cert_base.specs.Rows.{terms_from}
use Rattle.cert_base.specs.Valuation.{Valuation, terms_value, MeetsFact, times_taken, IsOfExecution}
use Rattle.cert_base.specs.FactsAndCases.{indicator, states_of, flow}
use Rattle.cert_base.proofs.Integers.{mul-pos_suc, int_eq-true}
use Rattle.cert_base.proofs.Equations.{sum_times, flow_of_way}
use Rattle.cert_base.proofs.Numbers.{number_in}

-- the value of coefficients for the variables from k on
abbrev pub dot : Valuation → ℕ → List ℤ → ℤ
dot count k [] = pos 0
dot count k (a ∷ coefs) = (a *ℤ pos (count k)) +ℤ dot count (k + 1) coefs

zero_term : (a : ℤ) (n : ℕ) → a ≡ pos 0 → a *ℤ pos n ≡ pos 0
zero_term a n e = rw e (zero-*ℤ (pos n))

terms_step : (count : Valuation) (k : ℕ) (a : ℤ) (rest : List Term) (d : ℤ) (b : Bool) → int_eq a (pos 0) ≡ b → terms_value count rest ≡ d → terms_value count (if b then rest else (record { at = k; by = a } ∷ rest)) ≡ ((a *ℤ pos (count k)) +ℤ d)
terms_step count k a rest d true e h =
    let z = zero_term a (count k) (int_eq-true a (pos 0) e) in omega (arith, ints, z, h)
terms_step count k a rest d false e h = rw h refl

-- terms with the coefficient 0 add nothing
pub terms_value-terms_from : (count : Valuation) (k : ℕ) (coefs : List ℤ) → terms_value count (terms_from k coefs) ≡ dot count k coefs
terms_value-terms_from count k [] = refl
terms_value-terms_from count k (a ∷ coefs) =
    terms_step count k a (terms_from (k + 1) coefs) (dot count (k + 1) coefs) (int_eq a (pos 0)) refl (terms_value-terms_from count (k + 1) coefs)

pub dot-append : (count : Valuation) (k : ℕ) (xs ys : List ℤ) → dot count k (xs ++ ys) ≡ (dot count k xs +ℤ dot count (k + length xs) ys)
dot-append count k [] ys =
    let same : k + 0 ≡ k = omega arith in rw same (omega (arith, ints))
dot-append count k (x ∷ xs) ys =
    let same : k + suc (length xs) ≡ k + 1 + length xs = omega arith in
    let e = dot-append count (k + 1) xs ys in
    rw same (omega (arith, ints, e))

-- ---- the three parts of a flow fact

shift_none : {A : Type 0} (f : ℕ → A) (k : ℕ) → f (k + 0) ≡ f k
shift_none f k = ap f (let e : k + 0 ≡ k = omega arith in e)

shift_right : {A : Type 0} (f : ℕ → A) (k j : ℕ) → f (k + 1 + j) ≡ f (k + suc j)
shift_right f k j = ap f (let e : k + 1 + j ≡ k + suc j = omega arith in e)

difference : (a b c : ℕ) → ((pos a -ℤ pos b) *ℤ pos c) ≡ (pos (a * c) -ℤ pos (b * c))
difference a b zero = rw (*ℤ-zero (pos a -ℤ pos b), mul-zero a, mul-zero b) refl
difference a b (suc c) =
    let e = difference a b c in rw (mul-pos_suc (pos a -ℤ pos b) c, mul-suc a c, mul-suc b c) (omega (arith, ints, e))

-- what the moves bring to a state, less what they take from it
dot-moves : (count : Valuation) (taken : ℕ → ℕ) (f h : Move → ℕ) (k i : ℕ) (moves : List Move) → ((j : ℕ) → j < length moves → count (k + j) ≡ taken (i + j)) → (dot count k (map (λ t. pos (f t) -ℤ pos (h t)) moves) +ℤ pos (sum_times taken h i moves)) ≡ pos (sum_times taken f i moves)
dot-moves count taken f h k i [] e = refl
dot-moves count taken f h k i (t ∷ moves) e =
    let more = dot-moves count taken f h (k + 1) (i + 1) moves (λ j l. shift_right count k j ∙ e (suc j) (omega arith) ∙ sym (shift_right taken i j)) in
    let here : count k ≡ taken i = sym (shift_none count k) ∙ e 0 (omega arith) ∙ shift_none taken i in
    let d = difference (f t) (h t) (count k) in
    let ef : f t * count k ≡ taken i * f t = ap (λ c. f t * c) here ∙ mul_comm (f t) (taken i) in
    let eh : h t * count k ≡ taken i * h t = ap (λ c. h t * c) here ∙ mul_comm (h t) (taken i) in
    omega (arith, ints, more, d, ef, eh)

minus_times : (c : ℕ) → (negsuc 0 *ℤ pos c) ≡ neg_ℤ (pos c)
minus_times zero = *ℤ-zero (negsuc 0)
minus_times (suc c) = let e = minus_times c in rw (mul-pos_suc (negsuc 0) c) (omega (arith, ints, e))

-- the coefficient of a state's variable: -1 for the state itself, and 0 for the others
coef_same : (q z c : ℕ) → (z == q) ≡ true → (neg_ℤ (indicator (z == q)) *ℤ pos c) ≡ neg_ℤ (pos c)
coef_same q z c e = rw e (minus_times c)

coef_other : (q z c : ℕ) → (z == q) ≡ false → (neg_ℤ (indicator (z == q)) *ℤ pos c) ≡ pos 0
coef_other q z c e = rw e (zero-*ℤ (pos c))

dot-states_past : (count : Valuation) (q k a n : ℕ) → q < a → dot count k (map (λ z. neg_ℤ (indicator (z == q))) (range_with_len a n)) ≡ pos 0
dot-states_past count q k a zero l = refl
dot-states_past count q k a (suc n) l =
    let here = coef_other q a (count k) (ne_eqb a q (above a q l)) in
    let rest = dot-states_past count q (k + 1) (a + 1) n (omega arith) in
    omega (arith, ints, here, rest)
  where
    above : (a q : ℕ) → q < a → a ≢ q
    above a q l e = omega arith

dot-states : (count : Valuation) (q k a n d : ℕ) → q ≡ a + d → d < n → dot count k (map (λ z. neg_ℤ (indicator (z == q))) (range_with_len a n)) ≡ neg_ℤ (pos (count (k + d)))
dot-states count q k a zero d e l = absurd (omega arith)
dot-states count q k a (suc n) zero e l =
    let here = coef_same q a (count k) (eq-eqb a q (omega arith)) in
    let rest = dot-states_past count q (k + 1) (a + 1) n (omega arith) in
    let same = shift_none count k in
    omega (arith, ints, here, rest, same)
dot-states count q k a (suc n) (suc d) e l =
    let here = coef_other q a (count k) (ne_eqb a q (apart a q d e)) in
    let rest = dot-states count q (k + 1) (a + 1) n d (omega arith) (omega arith) in
    let same = shift_right count k d in
    omega (arith, ints, here, rest, same)
  where
    apart : (a q d : ℕ) → q ≡ a + suc d → a ≢ q
    apart a q d e f = omega arith

indicator_times : (b : Bool) (n : ℕ) → (indicator b *ℤ pos n) ≡ pos (n * (if b then 1 else 0))
indicator_times true n = pos-*ℤ-pos 1 n ∙ ap pos (mul_comm 1 n)
indicator_times false n = zero-*ℤ (pos n) ∙ ap pos (sym (mul-zero n))

-- how many agents start in a state
dot-inputs : (count : Valuation) (q : ℕ) (start : ℕ → ℕ) (k : ℕ) (inputs counts : List ℕ) → length counts ≡ length inputs → ((j : ℕ) → j < length inputs → start (k + j) ≡ slice_index inputs j) → ((j : ℕ) → j < length inputs → count (k + j) ≡ slice_index counts j) → dot count k (map (λ s. indicator (s == q)) inputs) ≡ pos (number_in q (starts_from start k counts))
dot-inputs count q start k [] [] l es ec = refl
dot-inputs count q start k [] (n ∷ counts) l es ec = cc
dot-inputs count q start k (s ∷ inputs) [] l es ec = cc
dot-inputs count q start k (s ∷ inputs) (n ∷ counts) l es ec =
    let here_start : start k ≡ s = sym (shift_none start k) ∙ es 0 (omega arith) in
    let here_count : count k ≡ n = sym (shift_none count k) ∙ ec 0 (omega arith) in
    let more = dot-inputs count q start (k + 1) inputs counts (ap pred l) (λ j m. shift_right start k j ∙ es (suc j) (omega arith)) (λ j m. shift_right count k j ∙ ec (suc j) (omega arith)) in
    let parts = sum_by-append (λ x. one_at x q) (replicate n (start k)) (starts_from start (k + 1) counts) in
    let copies = sum_by-replicate (λ x. one_at x q) n (start k) in
    let first = indicator_times (s == q) (count k) in
    let same : n * one_at (start k) q ≡ count k * one_at s q = rw (here_start, here_count) refl in
    omega (arith, ints, more, parts, copies, first, same)

-- the flow fact of each state holds for an execution's counts
pub flow_met : (leaf : LeafModel) (count : Valuation) (counts : List ℕ) (path : List (List ℕ)) (end : List ℕ) (way : Leads (LeafStep leaf) (leaf_input_crowd leaf counts) path end) → length counts ≡ length leaf.inputs → IsOfExecution leaf count counts path end way → (q : ℕ) → q < length leaf.states → MeetsFact count (flow leaf q)
flow_met leaf count counts path end way l is q lq =
    let inputs = map (λ start. indicator (start == q)) leaf.inputs in
    let states = map (λ z. neg_ℤ (indicator (z == q))) (states_of leaf) in
    let moves = map (λ t. pos (post t q) -ℤ pos (pre t q)) leaf.moves in
    let n = length leaf.inputs in
    let m = length leaf.states in
    let terms = terms_value-terms_from count 0 (inputs ++ states ++ moves) in
    let split = dot-append count 0 (inputs ++ states) moves in
    let split_again = dot-append count 0 inputs states in
    let at_states : 0 + length inputs ≡ n = ap (λ x. 0 + x) (length-map leaf.inputs (λ start. indicator (start == q))) ∙ zero-add n in
    let at_moves : 0 + length (inputs ++ states) ≡ n + m = ap (λ x. 0 + x) (length-append inputs states) ∙ zero-add (length inputs + length states) ∙ ap (λ x. x + length states) (length-map leaf.inputs (λ start. indicator (start == q))) ∙ ap (λ x. n + x) (length-map (states_of leaf) (λ z. neg_ℤ (indicator (z == q))) ∙ length-range_with_len 0 m) in
    let of_inputs = dot-inputs count q (λ variable. slice_index leaf.inputs variable) 0 leaf.inputs counts l (λ j k. ap (slice_index leaf.inputs) (zero-add j)) (λ j k. ap count (zero-add j) ∙ is.inputs j k) in
    let of_states = dot-states count q n 0 m q (sym (zero-add q)) lq in
    let of_moves = dot-moves count (λ t. times_taken leaf t (leaf_input_crowd leaf counts) path end way) (λ t. post t q) (λ t. pre t q) (n + m) 0 leaf.moves (λ j k. is.moves j k ∙ ap (λ t. times_taken leaf t (leaf_input_crowd leaf counts) path end way) (sym (zero-add j))) in
    let at_end = is.states q lq in
    let balance = flow_of_way leaf q (leaf_input_crowd leaf counts) path end way in
    let helped = sum_by-append (λ x. one_at x q) (starts_from (λ variable. slice_index leaf.inputs variable) 0 counts) leaf.helpers in
    let second : dot count (0 + length inputs) states ≡ dot count n states = ap (λ k. dot count k states) at_states in
    let third : dot count (0 + length (inputs ++ states)) moves ≡ dot count (n + m) moves = ap (λ k. dot count k moves) at_moves in
    omega (arith, ints, terms, split, split_again, second, third, of_inputs, of_states, of_moves, at_end, balance, helped)
