-- The sum of the states' flow facts, each times the value of its state, variable by variable.
use Rattle.std.proofs.Common.{◌≡◌, ◌⊎◌, ◌-◌, subst, inl, inr, ℕ, zero, suc, ◌+◌, ◌<◌, ◌≤◌, Bool, true, false, List, [], ◌∷◌, ◌++◌, length, map, get_or, refl, ap, sym, ◌∙◌, zero-add, arith}
use Rattle.std.specs.Prelude.{ℤ, pos, neg_ℤ, ◌+ℤ◌, ◌-ℤ◌, ◌*ℤ◌, if◌then◌else◌, ◌==◌}
use Rattle.std.specs.Ordering.{int_eq}
use Rattle.std.specs.List.{range_with_len}
use Rattle.std.proofs.lemmas.Int.{ints}
use Rattle.std.proofs.Math.IntN.{*ℤ-zero, *ℤ_comm}
use Rattle.std.proofs.Math.ListN.{get_or-append}
use Rattle.std.proofs.lemmas.Bool.{eq-eqb, cases_lt, ne_eqb}
use Rattle.std.proofs.lemmas.List.{length-map, length-append, get_or-append-add, get_or-map, get_or_past}
use Rattle.std.proofs.lemmas.List.FromFn.{get_or-map-range_with_len, length-map-range_with_len}
use Rattle.pop_leaf.specs.declared.leaf.Move.{Move}
use Rattle.pop_leaf.specs.LeafModel.{LeafModel, one_at, pre, post, IsMoveBelow}
use Rattle.cert_base.specs.declared.fact.Fact.{Fact}
use Rattle.cert_base.specs.Rows.{terms_from}
use Rattle.cert_base.specs.ClosingTests.{coefficient_in}
use Rattle.cert_base.specs.FactsAndCases.{indicator, states_of, helpers_starting, flow}
use Rattle.cert_base.proofs.Integers.{mul-add, int_eq-true}
use Rattle.cert_base.specs.WeightedSums.{sum_of_facts, coefficient, constant_of, total}

-- ---- the coefficients of a dense row

pub like : (a b : ℕ) → a ≡ b → (a == b) ≡ true
like a b e = eq-eqb a b e

coefficient-below : (k : ℕ) (cs : List ℤ) (x : ℕ) → x < k → coefficient_in (terms_from k cs) x ≡ pos 0
coefficient-below k [] x l = refl
coefficient-below k (c ∷ cs) x l =
    step (int_eq c (pos 0)) (coefficient-below (k + 1) cs x (omega arith)) (ne_eqb k x (λ e. omega arith))
  where
    step : (b : Bool) → coefficient_in (terms_from (k + 1) cs) x ≡ pos 0 → (k == x) ≡ false → coefficient_in (if b then terms_from (k + 1) cs else (record { at = k; by = c } ∷ terms_from (k + 1) cs)) x ≡ pos 0
    step true rest other = rest
    step false rest other = rw (other, rest) refl

pub coefficient-at : (k : ℕ) (cs : List ℤ) (j : ℕ) → coefficient_in (terms_from k cs) (k + j) ≡ get_or cs j (pos 0)
coefficient-at k [] j = refl
coefficient-at k (c ∷ cs) zero =
    step (int_eq c (pos 0)) refl (coefficient-below (k + 1) cs (k + 0) (omega arith)) (like k (k + 0) (omega arith))
  where
    step : (b : Bool) → int_eq c (pos 0) ≡ b → coefficient_in (terms_from (k + 1) cs) (k + 0) ≡ pos 0 → (k == k + 0) ≡ true → coefficient_in (if b then terms_from (k + 1) cs else (record { at = k; by = c } ∷ terms_from (k + 1) cs)) (k + 0) ≡ c
    step true e rest same = rest ∙ sym (int_eq-true c (pos 0) e)
    step false e rest same = rw (same, rest) (omega (arith, ints))
coefficient-at k (c ∷ cs) (suc j) =
    step (int_eq c (pos 0)) (ap (coefficient_in (terms_from (k + 1) cs)) (let e : k + suc j ≡ k + 1 + j = omega arith in e) ∙ coefficient-at (k + 1) cs j) (ne_eqb k (k + suc j) (λ e. omega arith))
  where
    step : (b : Bool) → coefficient_in (terms_from (k + 1) cs) (k + suc j) ≡ get_or cs j (pos 0) → (k == k + suc j) ≡ false → coefficient_in (if b then terms_from (k + 1) cs else (record { at = k; by = c } ∷ terms_from (k + 1) cs)) (k + suc j) ≡ get_or cs j (pos 0)
    step true rest other = rest
    step false rest other = rw (other, rest) (omega (arith, ints))

-- the same from variable 0 on
pub coefficient-dense : (cs : List ℤ) (x : ℕ) → coefficient_in (terms_from 0 cs) x ≡ get_or cs x (pos 0)
coefficient-dense cs x = ap (coefficient_in (terms_from 0 cs)) (sym (zero-add x)) ∙ coefficient-at 0 cs x

-- ---- totals

pub total-same : {A : Type 0} (f g : A → ℤ) (xs : List A) → ((x : A) → f x ≡ g x) → total f xs ≡ total g xs
total-same f g [] e = refl
total-same f g (x ∷ xs) e = rw (e x, total-same f g xs e) refl

pub total-none : {A : Type 0} (f : A → ℤ) (xs : List A) → ((x : A) → f x ≡ pos 0) → total f xs ≡ pos 0
total-none f [] e = refl
total-none f (x ∷ xs) e =
    let here = e x in let rest = total-none f xs e in omega (arith, ints, here, rest)

pub total-none_range : (f : ℕ → ℤ) (a n : ℕ) → ((q : ℕ) → q < a + n → f q ≡ pos 0) → total f (range_with_len a n) ≡ pos 0
total-none_range f a zero e = refl
total-none_range f a (suc n) e =
    let here = e a (omega arith) in
    let rest = total-none_range f (a + 1) n (λ q l. e q (omega arith)) in
    omega (arith, ints, here, rest)

pub total-plus : {A : Type 0} (f g : A → ℤ) (xs : List A) → total (λ x. f x +ℤ g x) xs ≡ (total f xs +ℤ total g xs)
total-plus f g [] = refl
total-plus f g (x ∷ xs) = let e = total-plus f g xs in omega (arith, ints, e)

pub total-less : {A : Type 0} (f g : A → ℤ) (xs : List A) → total (λ x. f x -ℤ g x) xs ≡ (total f xs -ℤ total g xs)
total-less f g [] = refl
total-less f g (x ∷ xs) = let e = total-less f g xs in omega (arith, ints, e)

pub total-neg : {A : Type 0} (f : A → ℤ) (xs : List A) → total (λ x. neg_ℤ (f x)) xs ≡ neg_ℤ (total f xs)
total-neg f [] = refl
total-neg f (x ∷ xs) = let e = total-neg f xs in omega (arith, ints, e)

-- a list that is mapped twice
pub weighted_sum-map : {A : Type 0} (value : Fact → ℤ) (fact : A → Fact) (by : A → ℤ) (xs : List A) → sum_of_facts value (map fact xs) (map by xs) ≡ total (λ x. by x *ℤ value (fact x)) xs
weighted_sum-map value fact by [] = refl
weighted_sum-map value fact by (x ∷ xs) = ap (λ z. (by x *ℤ value (fact x)) +ℤ z) (weighted_sum-map value fact by xs)

-- the total of one item
pub one-times : (a : ℤ) → pos 1 *ℤ a ≡ a
one-times a = omega (arith, ints)

pub times-one : (a : ℤ) → a *ℤ pos 1 ≡ a
times-one a = *ℤ_comm a (pos 1) ∙ one-times a

total-past : (w : ℕ → ℤ) (z a n : ℕ) → z < a → total (λ q. w q *ℤ indicator (z == q)) (range_with_len a n) ≡ pos 0
total-past w z a zero l = refl
total-past w z a (suc n) l =
    let other = ne_eqb z a (λ e. omega arith) in
    let here : (w a *ℤ indicator (z == a)) ≡ pos 0 = rw other (*ℤ-zero (w a)) in
    let rest = total-past w z (a + 1) n (omega arith) in
    omega (arith, ints, here, rest)

total-one_from : (w : ℕ → ℤ) (a n d : ℕ) → d < n → total (λ q. w q *ℤ indicator ((a + d) == q)) (range_with_len a n) ≡ w (a + d)
total-one_from w a zero d l = absurd (omega arith)
total-one_from w a (suc n) zero l =
    let same = like (a + 0) a (omega arith) in
    let here : (w a *ℤ indicator ((a + 0) == a)) ≡ w a = rw same (times-one (w a)) in
    let rest = total-past w (a + 0) (a + 1) n (omega arith) in
    let at : w (a + 0) ≡ w a = ap w (let e : a + 0 ≡ a = omega arith in e) in
    omega (arith, ints, here, rest, at)
total-one_from w a (suc n) (suc d) l =
    let other = ne_eqb (a + suc d) a (λ e. omega arith) in
    let here : (w a *ℤ indicator ((a + suc d) == a)) ≡ pos 0 = rw other (*ℤ-zero (w a)) in
    let e : a + suc d ≡ a + 1 + d = omega arith in
    let rest : total (λ q. w q *ℤ indicator ((a + suc d) == q)) (range_with_len (a + 1) n) ≡ w (a + suc d) = rw e (total-one_from w (a + 1) n d (omega arith)) in
    omega (arith, ints, here, rest)

-- the states' values, each times whether the state is z, add up to the value of z
pub total-one : (w : ℕ → ℤ) (n z : ℕ) → z < n → total (λ q. w q *ℤ indicator (z == q)) (range_with_len 0 n) ≡ w z
total-one w n z l =
    let e = zero-add z in
    let h = total-one_from w 0 n z l in
    rw e at h

-- ---- a list of three parts

three_first : {A : Type 0} (xs ys zs : List A) (i : ℕ) (d : A) → i < length xs → get_or ((xs ++ ys) ++ zs) i d ≡ get_or xs i d
three_first xs ys zs i d l =
    get_or-append (xs ++ ys) zs d i (let m : i < length (xs ++ ys) = omega (arith, length-append xs ys) in m)
    ∙ get_or-append xs ys d i l

three_second : {A : Type 0} (xs ys zs : List A) (n i : ℕ) (d : A) → length xs ≡ n → i < length ys → get_or ((xs ++ ys) ++ zs) (n + i) d ≡ get_or ys i d
three_second xs ys zs n i d e l =
    get_or-append (xs ++ ys) zs d (n + i) (let m : n + i < length (xs ++ ys) = omega (arith, length-append xs ys) in m)
    ∙ ap (λ k. get_or (xs ++ ys) (k + i) d) (sym e)
    ∙ get_or-append-add xs ys i d

three_third : {A : Type 0} (xs ys zs : List A) (n m i : ℕ) (d : A) → length xs ≡ n → length ys ≡ m → get_or ((xs ++ ys) ++ zs) (n + m + i) d ≡ get_or zs i d
three_third xs ys zs n m i d e f =
    ap (λ k. get_or ((xs ++ ys) ++ zs) (k + i) d) (sym (length-append xs ys ∙ ap (λ k. k + length ys) e ∙ ap (λ k. n + k) f))
    ∙ get_or-append-add (xs ++ ys) zs i d

-- ---- products

mul-less : (m a b : ℤ) → m *ℤ (a -ℤ b) ≡ ((m *ℤ a) -ℤ (m *ℤ b))
mul-less m a b =
    let e = mul-add m (a -ℤ b) b in
    let f : ((a -ℤ b) +ℤ b) ≡ a = omega (arith, ints) in
    let g = ap (λ z. m *ℤ z) f in
    omega (arith, ints, e, g)

pub mul-neg : (m a : ℤ) → m *ℤ neg_ℤ a ≡ neg_ℤ (m *ℤ a)
mul-neg m a =
    let e = mul-add m (neg_ℤ a) a in
    let f : (neg_ℤ a +ℤ a) ≡ pos 0 = omega (arith, ints) in
    let g = ap (λ z. m *ℤ z) f ∙ *ℤ-zero m in
    omega (arith, ints, e, g)

pos-one_at : (x q : ℕ) → pos (one_at x q) ≡ indicator (x == q)
pos-one_at x q = go (x == q)
  where
    go : (b : Bool) → pos (if b then 1 else 0) ≡ (if b then pos 1 else pos 0)
    go true = refl
    go false = refl

pos-times_in : (x y q : ℕ) → pos (one_at x q + one_at y q) ≡ (indicator (x == q) +ℤ indicator (y == q))
pos-times_in x y q = let e = pos-one_at x q in let f = pos-one_at y q in omega (arith, ints, e, f)

-- ---- the coefficients of a flow fact

abbrev of_inputs : LeafModel → ℕ → List ℤ
of_inputs leaf q = map (λ start. indicator (start == q)) leaf.inputs

abbrev of_states : LeafModel → ℕ → List ℤ
of_states leaf q = map (λ z. neg_ℤ (indicator (z == q))) (states_of leaf)

abbrev of_moves : LeafModel → ℕ → List ℤ
of_moves leaf q = map (λ t. pos (post t q) -ℤ pos (pre t q)) leaf.moves

flow-input : (leaf : LeafModel) (q i : ℕ) → i < length leaf.inputs → coefficient i (flow leaf q) ≡ indicator (get_or leaf.inputs i 0 == q)
flow-input leaf q i l =
    coefficient-dense ((of_inputs leaf q ++ of_states leaf q) ++ of_moves leaf q) i
    ∙ three_first (of_inputs leaf q) (of_states leaf q) (of_moves leaf q) i (pos 0) (let m : i < length (of_inputs leaf q) = omega (arith, length-map leaf.inputs (λ start. indicator (start == q))) in m)
    ∙ get_or-map (λ start. indicator (start == q)) leaf.inputs i 0 (pos 0) l

flow-state : (leaf : LeafModel) (q z : ℕ) → z < length leaf.states → coefficient (length leaf.inputs + z) (flow leaf q) ≡ neg_ℤ (indicator (z == q))
flow-state leaf q z l =
    coefficient-dense ((of_inputs leaf q ++ of_states leaf q) ++ of_moves leaf q) (length leaf.inputs + z)
    ∙ three_second (of_inputs leaf q) (of_states leaf q) (of_moves leaf q) (length leaf.inputs) z (pos 0) (length-map leaf.inputs (λ start. indicator (start == q))) (let m : z < length (of_states leaf q) = omega (arith, length-map-range_with_len (λ z. neg_ℤ (indicator (z == q))) 0 (length leaf.states)) in m)
    ∙ get_or-map-range_with_len (λ z. neg_ℤ (indicator (z == q))) 0 (length leaf.states) z z (pos 0) l (zero-add z)

flow-move_part : (leaf : LeafModel) (q t : ℕ) → coefficient (length leaf.inputs + length leaf.states + t) (flow leaf q) ≡ get_or (of_moves leaf q) t (pos 0)
flow-move_part leaf q t =
    coefficient-dense ((of_inputs leaf q ++ of_states leaf q) ++ of_moves leaf q) (length leaf.inputs + length leaf.states + t)
    ∙ three_third (of_inputs leaf q) (of_states leaf q) (of_moves leaf q) (length leaf.inputs) (length leaf.states) t (pos 0) (length-map leaf.inputs (λ start. indicator (start == q))) (length-map-range_with_len (λ z. neg_ℤ (indicator (z == q))) 0 (length leaf.states))

flow-move : (leaf : LeafModel) (q t : ℕ) (d : Move) → t < length leaf.moves → coefficient (length leaf.inputs + length leaf.states + t) (flow leaf q) ≡ ((indicator ((get_or leaf.moves t d).r == q) +ℤ indicator ((get_or leaf.moves t d).s == q)) -ℤ (indicator ((get_or leaf.moves t d).p == q) +ℤ indicator ((get_or leaf.moves t d).q == q)))
flow-move leaf q t d l =
    let m = get_or leaf.moves t d in
    let after = pos-times_in m.r m.s q in
    let before = pos-times_in m.p m.q q in
    flow-move_part leaf q t
    ∙ get_or-map (λ t. pos (post t q) -ℤ pos (pre t q)) leaf.moves t d (pos 0) l
    ∙ (let e : (pos (post m q) -ℤ pos (pre m q)) ≡ ((indicator (m.r == q) +ℤ indicator (m.s == q)) -ℤ (indicator (m.p == q) +ℤ indicator (m.q == q))) = rw (after, before) refl in e)

flow-past : (leaf : LeafModel) (q j : ℕ) → coefficient (length leaf.inputs + length leaf.states + (length leaf.moves + j)) (flow leaf q) ≡ pos 0
flow-past leaf q j =
    flow-move_part leaf q (length leaf.moves + j)
    ∙ get_or_past (of_moves leaf q) (length leaf.moves + j) (pos 0) (let m : length (of_moves leaf q) ≤ length leaf.moves + j = omega (arith, length-map leaf.moves (λ t. pos (post t q) -ℤ pos (pre t q))) in m)

-- ---- the law

-- the flow facts, each times the value of its state
abbrev pub valued : LeafModel → (ℕ → ℤ) → ℕ → ℤ
valued leaf w x = sum_of_facts (coefficient x) (map (flow leaf) (states_of leaf)) (map w (states_of leaf))

valued-total : (leaf : LeafModel) (w : ℕ → ℤ) (x : ℕ) (f : ℕ → ℤ) → ((q : ℕ) → coefficient x (flow leaf q) ≡ f q) → valued leaf w x ≡ total (λ q. w q *ℤ f q) (states_of leaf)
valued-total leaf w x f e =
    weighted_sum-map (coefficient x) (flow leaf) w (states_of leaf)
    ∙ total-same (λ q. w q *ℤ coefficient x (flow leaf q)) (λ q. w q *ℤ f q) (states_of leaf) (λ q. ap (λ z. w q *ℤ z) (e q))

pub law-input : (leaf : LeafModel) (w : ℕ → ℤ) (i : ℕ) → i < length leaf.inputs → get_or leaf.inputs i 0 < length leaf.states → valued leaf w i ≡ w (get_or leaf.inputs i 0)
law-input leaf w i l m =
    valued-total leaf w i (λ q. indicator (get_or leaf.inputs i 0 == q)) (λ q. flow-input leaf q i l)
    ∙ total-one w (length leaf.states) (get_or leaf.inputs i 0) m

pub law-state : (leaf : LeafModel) (w : ℕ → ℤ) (z : ℕ) → z < length leaf.states → valued leaf w (length leaf.inputs + z) ≡ neg_ℤ (w z)
law-state leaf w z l =
    valued-total leaf w (length leaf.inputs + z) (λ q. neg_ℤ (indicator (z == q))) (λ q. flow-state leaf q z l)
    ∙ total-same (λ q. w q *ℤ neg_ℤ (indicator (z == q))) (λ q. neg_ℤ (w q *ℤ indicator (z == q))) (states_of leaf) (λ q. mul-neg (w q) (indicator (z == q)))
    ∙ total-neg (λ q. w q *ℤ indicator (z == q)) (states_of leaf)
    ∙ ap neg_ℤ (total-one w (length leaf.states) z l)

two_of : (w : ℕ → ℤ) (n x y : ℕ) → x < n → y < n → total (λ q. w q *ℤ (indicator (x == q) +ℤ indicator (y == q))) (range_with_len 0 n) ≡ (w x +ℤ w y)
two_of w n x y l m =
    let first = total-one w n x l in
    let second = total-one w n y m in
    total-same (λ q. w q *ℤ (indicator (x == q) +ℤ indicator (y == q))) (λ q. (w q *ℤ indicator (x == q)) +ℤ (w q *ℤ indicator (y == q))) (range_with_len 0 n) (λ q. mul-add (w q) (indicator (x == q)) (indicator (y == q)))
    ∙ total-plus (λ q. w q *ℤ indicator (x == q)) (λ q. w q *ℤ indicator (y == q)) (range_with_len 0 n)
    ∙ (let e : (total (λ q. w q *ℤ indicator (x == q)) (range_with_len 0 n) +ℤ total (λ q. w q *ℤ indicator (y == q)) (range_with_len 0 n)) ≡ (w x +ℤ w y) = rw (first, second) refl in e)

pub law-move : (leaf : LeafModel) (w : ℕ → ℤ) (t : ℕ) (d : Move) → t < length leaf.moves → IsMoveBelow (length leaf.states) (get_or leaf.moves t d) → valued leaf w (length leaf.inputs + length leaf.states + t) ≡ ((w (get_or leaf.moves t d).r +ℤ w (get_or leaf.moves t d).s) -ℤ (w (get_or leaf.moves t d).p +ℤ w (get_or leaf.moves t d).q))
law-move leaf w t d l below =
    let m = get_or leaf.moves t d in
    let n = length leaf.states in
    let after = λ (q : ℕ). indicator (m.r == q) +ℤ indicator (m.s == q) in
    let before = λ (q : ℕ). indicator (m.p == q) +ℤ indicator (m.q == q) in
    let first = two_of w n m.r m.s below.2 below.3 in
    let second = two_of w n m.p m.q below.0 below.1 in
    valued-total leaf w (length leaf.inputs + length leaf.states + t) (λ q. after q -ℤ before q) (λ q. flow-move leaf q t d l)
    ∙ total-same (λ q. w q *ℤ (after q -ℤ before q)) (λ q. (w q *ℤ after q) -ℤ (w q *ℤ before q)) (states_of leaf) (λ q. mul-less (w q) (after q) (before q))
    ∙ total-less (λ q. w q *ℤ after q) (λ q. w q *ℤ before q) (states_of leaf)
    ∙ (let e : (total (λ q. w q *ℤ after q) (states_of leaf) -ℤ total (λ q. w q *ℤ before q) (states_of leaf)) ≡ ((w m.r +ℤ w m.s) -ℤ (w m.p +ℤ w m.q)) = rw (first, second) refl in e)

pub law-past : (leaf : LeafModel) (w : ℕ → ℤ) (j : ℕ) → valued leaf w (length leaf.inputs + length leaf.states + (length leaf.moves + j)) ≡ pos 0
law-past leaf w j =
    valued-total leaf w (length leaf.inputs + length leaf.states + (length leaf.moves + j)) (λ q. pos 0) (λ q. flow-past leaf q j)
    ∙ total-none (λ q. w q *ℤ pos 0) (states_of leaf) (λ q. *ℤ-zero (w q))

-- what holds for the variables of each kind, and for the numbers past them, holds for every number
pub each_variable : (leaf : LeafModel) (P : ℕ → Type 0) → ((i : ℕ) → i < length leaf.inputs → P i) → ((z : ℕ) → z < length leaf.states → P (length leaf.inputs + z)) → ((t : ℕ) → t < length leaf.moves → P (length leaf.inputs + length leaf.states + t)) → ((j : ℕ) → P (length leaf.inputs + length leaf.states + (length leaf.moves + j))) → (x : ℕ) → P x
each_variable leaf P inputs states moves past x = first (cases_lt x (length leaf.inputs))
  where
    at : (a b : ℕ) → a ≡ b → P a → P b
    at a b e p = subst P e p

    third : (x < length leaf.inputs + length leaf.states + length leaf.moves) ⊎ (length leaf.inputs + length leaf.states + length leaf.moves ≤ x) → length leaf.inputs + length leaf.states ≤ x → P x
    third (inl l) a = at (length leaf.inputs + length leaf.states + (x - (length leaf.inputs + length leaf.states))) x (omega arith) (moves (x - (length leaf.inputs + length leaf.states)) (omega arith))
    third (inr l) a = at (length leaf.inputs + length leaf.states + (length leaf.moves + (x - (length leaf.inputs + length leaf.states + length leaf.moves)))) x (omega arith) (past (x - (length leaf.inputs + length leaf.states + length leaf.moves)))

    second : (x < length leaf.inputs + length leaf.states) ⊎ (length leaf.inputs + length leaf.states ≤ x) → length leaf.inputs ≤ x → P x
    second (inl l) a = at (length leaf.inputs + (x - length leaf.inputs)) x (omega arith) (states (x - length leaf.inputs) (omega arith))
    second (inr l) a = third (cases_lt x (length leaf.inputs + length leaf.states + length leaf.moves)) l

    first : (x < length leaf.inputs) ⊎ (length leaf.inputs ≤ x) → P x
    first (inl l) = inputs x l
    first (inr l) = second (cases_lt x (length leaf.inputs + length leaf.states)) l

-- the constant of the sum
pub law-constant : (leaf : LeafModel) (w : ℕ → ℤ) → sum_of_facts constant_of (map (flow leaf) (states_of leaf)) (map w (states_of leaf)) ≡ total (λ q. w q *ℤ pos (helpers_starting leaf q)) (states_of leaf)
law-constant leaf w = weighted_sum-map constant_of (flow leaf) w (states_of leaf)
