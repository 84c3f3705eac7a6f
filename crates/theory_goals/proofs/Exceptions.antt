-- Random runs of any process: if each configuration has a run of at most w moves into a set that no move leaves, all but
-- few runs lead there. What the other runs are is listed, so the set need not be decided.
use Rattle.std.proofs.Common.{◌≡◌, ◌⊎◌, inl, inr, ℕ, zero, suc, ◌+◌, ◌-◌, ◌*◌, ◌/◌, ◌%◌, ◌^◌, ◌<◌, ◌≤◌, List, [], ◌∷◌, ◌++◌, length, get_or, map, refl, ap, sym, subst, ◌∙◌, arith}
use Rattle.std.specs.Prelude.{All, Contains}
use Rattle.std.proofs.Math.Nat as nat
use Rattle.std.proofs.lemmas.Nat.{pow-add, div-add-mod'}
use Rattle.std.proofs.lemmas.Bool.{cases_lt}
use Rattle.std.proofs.lemmas.List.{length-append, length-map}
use Rattle.std.proofs.lemmas.List.Elements.{All-nil, All-cons, All-append, All-head, All-tail, All-map, Contains-append_left, Contains-append_right}
use Rattle.base_laws.proofs.Lists.{has_first, has_later, has_map, all_front, all_back}
use Rattle.theory_random.specs.UniformRuns.{lists_of, after_run}
use Rattle.theory_random.proofs.Sums.{length_lists}
use Rattle.theory_random.proofs.Powers.{pow_many, pow_vanishes}
use Rattle.theory_random.proofs.Listed.{IsOf, all_of, has_of}
use Rattle.theory_goals.specs.AlmostSurely.{sum_of_shares}
use Rattle.theory_goals.proofs.Shares.{no_shares, few, few_is, shares_sum}

-- ---- a list without one of its elements

without : {A : Type 0} → List A → ℕ → List A
without [] k = []
without (x ∷ xs) zero = xs
without (x ∷ xs) (suc k) = x ∷ without xs k

length-without : {A : Type 0} (xs : List A) (k : ℕ) → k < length xs → suc (length (without xs k)) ≡ length xs
unfolding without
length-without [] k l = absurd (omega (arith, l))
length-without (x ∷ xs) zero l = refl
length-without (x ∷ xs) (suc k) l = ap suc (length-without xs k (omega (arith, l)))

all_without : {A : Type 0} (P : A → Type 0) (xs : List A) (k : ℕ) → All P xs → All P (without xs k)
unfolding without
all_without P [] k all = all
all_without P (x ∷ xs) zero all = All-tail P x xs all
all_without P (x ∷ xs) (suc k) all = All-cons P x (without xs k) (All-head P x xs all) (all_without P xs k (All-tail P x xs all))

-- what is in a list is that element, or in the rest
has_without : {A : Type 0} (xs : List A) (k : ℕ) (d x : A) → Contains xs x → Contains (without xs k) x ⊎ (get_or xs k d ≡ x)
unfolding without
has_without [] k d x c = absurd (omega (arith, c.1))
has_without (y ∷ xs) zero d x (zero, l, e) = inr e
has_without (y ∷ xs) zero d x (suc j, l, e) = inl (j, omega (arith, l), e)
has_without (y ∷ xs) (suc k) d x (zero, l, e) = inl (0, omega arith, e)
has_without (y ∷ xs) (suc k) d x (suc j, l, e) = go (has_without xs k d x (j, omega (arith, l), e))
  where
    go : Contains (without xs k) x ⊎ (get_or xs k d ≡ x) → Contains (y ∷ without xs k) x ⊎ (get_or xs k d ≡ x)
    go (inl c) = inl (has_later x y (without xs k) c)
    go (inr same) = inr same

-- ---- numbers

-- with x = y + 1 = n ^ w: e * y ^ m < x ^ m for m = e * x
less_than_one : (n w e d : ℕ) → 0 < n → (n ^ w - 1) ^ (e * n ^ w) * n ^ d * e < n ^ (e * n ^ w * w + d)
less_than_one n w e d some =
    let y = n ^ w - 1 in
    let m = e * n ^ w in
    let x = n ^ d in
    let one = nat.one-le-pow w n some in
    let power_is : suc y ≡ n ^ w = omega (arith, one) in
    let less : e * y ^ m < suc y ^ m = subst (λ k. e * y ^ k < suc y ^ k) (ap (λ k. e * k) power_is) (pow_vanishes e y) in
    let power : n ^ (m * w + d) ≡ x * suc y ^ m = pow-add n (m * w) d ∙ nat.mul_comm (n ^ (m * w)) x ∙ ap (λ k. x * k) (pow_many n m w ∙ ap (λ k. k ^ m) (sym power_is)) in
    let turned : y ^ m * x * e ≡ x * (e * y ^ m) = ap (λ k. k * e) (nat.mul_comm (y ^ m) x) ∙ nat.mul_assoc x (y ^ m) e ∙ ap (λ k. x * k) (nat.mul_comm (y ^ m) e) in
    let some_x = nat.one-le-pow d n some in
    let strict : x * suc (e * y ^ m) ≤ x * suc y ^ m = nat.mul-le-mul_left x less in
    let more : x * suc (e * y ^ m) ≡ x * (e * y ^ m) + x = nat.mul-suc x (e * y ^ m) in
    subst (λ k. y ^ m * x * e < k) (sym power) (omega (arith, turned, strict, more, some_x))

-- ---- runs in two parts

pub after_append : {A C : Type 0} (make : A → C → C) (first then : List A) (c : C) → after_run make (first ++ then) c ≡ after_run make then (after_run make first c)
after_append make [] then c = refl
after_append make (x ∷ first) then c = after_append make first then (make x c)

-- a list of a + b elements has two parts
record Parts {A : Type 0} (a : ℕ) (run : List A) : Type 0 where
  first : List A
  then : List A
  whole : run ≡ first ++ then
  long : length first ≡ a

parts_at : {A : Type 0} (a : ℕ) (run : List A) → a ≤ length run → Parts a run
parts_at zero run l = record { first = []; then = run; whole = refl; long = refl }
parts_at (suc a) [] l = absurd (omega (arith, l))
parts_at (suc a) (x ∷ run) l =
    let p = parts_at a run (omega (arith, l)) in
    record { first = x ∷ p.first; then = p.then; whole = ap (λ xs. x ∷ xs) p.whole; long = ap suc p.long }

module _ {A C : Type 0} (moves : List A) (make : A → C → C) (P G : C → Type 0) (keeps : (x : A) → Contains moves x → (c : C) → P c → P (make x c)) (stays : (x : A) → Contains moves x → (c : C) → P c → G c → G (make x c)) where
  abbrev IsRun : ℕ → List A → Type 0
  IsRun l run = IsOf moves l run

  run_keeps : (run : List A) → All (Contains moves) run → (c : C) → P c → P (after_run make run c)
  run_keeps [] all c p = p
  run_keeps (x ∷ run) all c p =
      run_keeps run (All-tail (Contains moves) x run all) (make x c) (keeps x (All-head (Contains moves) x run all) c p)

  run_stays : (run : List A) → All (Contains moves) run → (c : C) → P c → G c → G (after_run make run c)
  run_stays [] all c p g = g
  run_stays (x ∷ run) all c p g =
      let has = All-head (Contains moves) x run all in
      run_stays run (All-tail (Contains moves) x run all) (make x c) (keeps x has c p) (stays x has c p g)

  -- of the runs of l moves from c, all but at most q lead into the set
  pub record Most (l : ℕ) (c : C) (q : ℕ) : Type 0 where
    pub others : List (List A)
    pub are : All (IsRun l) others
    pub few : length others ≤ q
    pub rest : (run : List A) → IsRun l run → Contains others run ⊎ G (after_run make run c)

  all_but_all : (l : ℕ) (c : C) → Most l c (length moves ^ l)
  all_but_all l c =
      record {
        others = lists_of moves l;
        are = all_of moves l;
        few = (let e = length_lists moves l in omega (arith, e));
        rest = λ run h. inl (has_of moves l run h);
      }

  -- first a moves, and then b moves
  module _ (a b : ℕ) (c : C) (p : P c) (q : ℕ) (next : (x : C) → P x → Most b x q) where
    later : (run : List A) → IsRun a run → Most b (after_run make run c) q
    later run h = next (after_run make run c) (run_keeps run h.1 c p)

    joined : (firsts : List (List A)) → All (IsRun a) firsts → List (List A)
    joined [] all = []
    joined (run ∷ firsts) all =
        map (λ then. run ++ then) (later run (All-head (IsRun a) run firsts all)).others ++ joined firsts (All-tail (IsRun a) run firsts all)

    joined_are : (firsts : List (List A)) (all : All (IsRun a) firsts) → All (IsRun (a + b)) (joined firsts all)
    unfolding joined
    joined_are [] all = All-nil (IsRun (a + b))
    joined_are (run ∷ firsts) all =
        let h = All-head (IsRun a) run firsts all in
        let m = later run h in
        All-append (IsRun (a + b)) (map (λ then. run ++ then) m.others) (joined firsts (All-tail (IsRun a) run firsts all))
        (All-map (IsRun (a + b)) (λ then. run ++ then) m.others
        (λ i d l. let are = m.are in
        let t = are i d l in
        let long = h.0 in
        let size = t.0 in
        ((let e : length (run ++ get_or m.others i d) ≡ a + b = omega (arith, length-append run (get_or m.others i d), long, size) in e), All-append (Contains moves) run (get_or m.others i d) h.1 t.1)))
        (joined_are firsts (All-tail (IsRun a) run firsts all))

    joined_few : (firsts : List (List A)) (all : All (IsRun a) firsts) → length (joined firsts all) ≤ length firsts * q
    unfolding joined
    joined_few [] all = let l : 0 ≤ 0 * q = omega arith in l
    joined_few (run ∷ firsts) all =
        let m = later run (All-head (IsRun a) run firsts all) in
        let few = m.few in
        let before = joined_few firsts (All-tail (IsRun a) run firsts all) in
        let size = length-append (map (λ then. run ++ then) m.others) (joined firsts (All-tail (IsRun a) run firsts all)) in
        let same = length-map m.others (λ then. run ++ then) in
        let l : length (map (λ then. run ++ then) m.others ++ joined firsts (All-tail (IsRun a) run firsts all)) ≤ suc (length firsts) * q = omega (arith, few, before, size, same) in
        l

    -- a run that begins with one of these is listed, or leads into the set
    joined_rest : (firsts : List (List A)) (all : All (IsRun a) firsts) (first then : List A) → Contains firsts first → IsRun b then → Contains (joined firsts all) (first ++ then) ⊎ G (after_run make (first ++ then) c)
    unfolding joined
    joined_rest [] all first then has h = absurd (omega (arith, has.1))
    joined_rest (run ∷ firsts) all first then (zero, l, e) h =
        subst (λ x. Contains (joined (run ∷ firsts) all) (x ++ then) ⊎ G (after_run make (x ++ then) c)) e
        (go ((later run (All-head (IsRun a) run firsts all)).rest then h))
      where
        go : Contains (later run (All-head (IsRun a) run firsts all)).others then ⊎ G (after_run make then (after_run make run c)) → Contains (joined (run ∷ firsts) all) (run ++ then) ⊎ G (after_run make (run ++ then) c)
        go (inl listed) = inl (Contains-append_left (map (λ t. run ++ t) (later run (All-head (IsRun a) run firsts all)).others) (joined firsts (All-tail (IsRun a) run firsts all)) (run ++ then) (has_map (λ t. run ++ t) (later run (All-head (IsRun a) run firsts all)).others then listed))
        go (inr g) = inr (subst G (sym (after_append make run then c)) g)
    joined_rest (run ∷ firsts) all first then (suc k, l, e) h =
        go (joined_rest firsts (All-tail (IsRun a) run firsts all) first then (k, omega (arith, l), e) h)
      where
        go : Contains (joined firsts (All-tail (IsRun a) run firsts all)) (first ++ then) ⊎ G (after_run make (first ++ then) c) → Contains (joined (run ∷ firsts) all) (first ++ then) ⊎ G (after_run make (first ++ then) c)
        go (inl listed) = inl (Contains-append_right (map (λ t. run ++ t) (later run (All-head (IsRun a) run firsts all)).others) (joined firsts (All-tail (IsRun a) run firsts all)) (first ++ then) listed)
        go (inr g) = inr g

    in_two : (r : ℕ) (before : Most a c r) (first then : List A) → IsRun a first → IsRun b then → Contains before.others first ⊎ G (after_run make first c) → Contains (joined before.others before.are) (first ++ then) ⊎ G (after_run make (first ++ then) c)
    in_two r before first then h k (inl listed) = joined_rest before.others before.are first then listed k
    in_two r before first then h k (inr g) =
        inr (subst G (sym (after_append make first then c)) (run_stays then k.1 (after_run make first c) (run_keeps first h.1 c p) g))

    by_parts : (r : ℕ) (before : Most a c r) (run : List A) → IsRun (a + b) run → Parts a run → Contains (joined before.others before.are) run ⊎ G (after_run make run c)
    by_parts r before run h two =
        subst (λ x. Contains (joined before.others before.are) x ⊎ G (after_run make x c)) (sym two.whole)
        (in_two r before two.first two.then first_is then_is (before.rest two.first first_is))
      where
        all : All (Contains moves) (two.first ++ two.then)
        all = subst (All (Contains moves)) two.whole h.1

        first_is : IsRun a two.first
        first_is = (two.long, all_front (Contains moves) two.first two.then all)

        then_is : IsRun b two.then
        then_is =
            let size = h.0 in
            let whole = ap length two.whole in
            let long = two.long in
            ((let e : length two.then ≡ b = omega (arith, size, whole, long, length-append two.first two.then) in e), all_back (Contains moves) two.first two.then all)

    compose : (r : ℕ) → Most a c r → Most (a + b) c (r * q)
    compose r before =
        record {
          others = joined before.others before.are;
          are = joined_are before.others before.are;
          few = (let l = joined_few before.others before.are in let few = before.few in let m : length before.others * q ≤ r * q = nat.mul-le-mul_right q few in nat.le_trans l m);
          rest = λ run h. by_parts r before run h (parts_at a run (let size = h.0 in omega (arith, size)));
        }

  same_most : (l m : ℕ) (c : C) (q r : ℕ) → l ≡ m → q ≡ r → Most l c q → Most m c r
  same_most l m c q r e f most = subst (λ n. Most n c r) e (subst (λ n. Most l c n) f most)

  module _ (some : 0 < length moves) (w : ℕ) (leads : (c : C) → P c → (run : List A) × All (Contains moves) run × (length run ≤ w) × G (after_run make run c)) where
    -- moves that fill a run up
    padding : (d : ℕ) → (run : List A) × IsRun d run
    padding zero = ([], (refl, All-nil (Contains moves)))
    padding (suc d) =
        let more = padding d in
        let x = head moves some in
        (x.0 ∷ more.0, (ap suc more.1.0, All-cons (Contains moves) x.0 more.0 x.1 more.1.1))
      where
        head : (xs : List A) → 0 < length xs → (x : A) × Contains xs x
        head [] l = absurd (omega (arith, l))
        head (x ∷ xs) l = (x, has_first x xs)

    -- a run of w moves that leads into the set
    whole_run : (c : C) → P c → (run : List A) × IsRun w run × G (after_run make run c)
    whole_run c p =
        let to = leads c p in
        let short = to.2 in
        let more = padding (w - length to.0) in
        let size = more.1.0 in (
          to.0 ++ more.0,
          ((let e : length (to.0 ++ more.0) ≡ w = omega (arith, length-append to.0 more.0, short, size) in e), All-append (Contains moves) to.0 more.0 to.1 more.1.1),
          subst G (sym (after_append make to.0 more.0 c)) (run_stays more.0 more.1.1 (after_run make to.0 c) (run_keeps to.0 to.1 c p) to.3),
        )

    -- of the runs of w moves all but that one
    window : (c : C) → P c → Most w c (length moves ^ w - 1)
    window c p =
        record {
          others = without all place.0;
          are = all_without (IsRun w) all place.0 (all_of moves w);
          few = (let e = length-without all place.0 place.1 in let f = length_lists moves w in let l : length (without all place.0) ≤ length moves ^ w - 1 = omega (arith, e, f) in l);
          rest = λ run h. by (has_without all place.0 to.0 run (has_of moves w run h));
        }
      where
        all : List (List A)
        all = lists_of moves w

        to : (run : List A) × IsRun w run × G (after_run make run c)
        to = whole_run c p

        place : Contains all to.0
        place = has_of moves w to.0 to.1

        by : {run : List A} → Contains (without all place.0) run ⊎ (get_or all place.0 to.0 ≡ run) → Contains (without all place.0) run ⊎ G (after_run make run c)
        by (inl listed) = inl listed
        by (inr same) = inr (subst (λ x. G (after_run make x c)) (sym place.2 ∙ same) to.2)

    -- of the runs of m times w moves all but so many
    pub tail : (m : ℕ) (c : C) → P c → Most (m * w) c ((length moves ^ w - 1) ^ m)
    tail zero c p =
        same_most 0 (0 * w) c (length moves ^ 0) ((length moves ^ w - 1) ^ 0) (omega arith) (nat.pow-zero (length moves) ∙ sym (nat.pow-zero (length moves ^ w - 1))) (all_but_all 0 c)
    tail (suc m) c p =
        let y = length moves ^ w - 1 in
        same_most (w + m * w) (suc m * w) c (y * y ^ m) (y ^ suc m) (omega arith) (sym (nat.pow-succ' y m))
        (compose w (m * w) c p (y ^ m) (λ x q. tail m x q) y (window c p))

    -- less than one in e doesn't
    pub vanishes : (e l : ℕ) → e * length moves ^ w * w ≤ l → (c : C) → P c → (q : ℕ) × (q * e < length moves ^ l) × Most l c q
    vanishes e l long c p =
        let m = e * length moves ^ w in
        let d = l - m * w in
        let whole : m * w + d ≡ l = omega (arith, long) in
        let q = (length moves ^ w - 1) ^ m * length moves ^ d in (
          q,
          subst (λ n. q * e < length moves ^ n) whole (less_than_one (length moves) w e d some),
          same_most (m * w + d) l c q q whole refl (compose (m * w) d c p (length moves ^ d) (λ x h. all_but_all d x) ((length moves ^ w - 1) ^ m) (tail m c p)),
        )

    -- how long it takes: the shares of the runs that may not have come there add up to at most w * N ^ w
    pub expected : (c : C) → P c → (few : ℕ → ℕ) × ((i : ℕ) → Most i c (few i)) × ((l : ℕ) → sum_of_shares few (length moves) l ≤ w * length moves ^ w * length moves ^ l)
    expected c p = go (cases_lt 0 w)
      where
        Expected : Type 0
        Expected =
            (few : ℕ → ℕ) × ((i : ℕ) → Most i c (few i)) × ((l : ℕ) → sum_of_shares few (length moves) l ≤ w * length moves ^ w * length moves ^ l)

        at_once : w ≡ 0 → (i : ℕ) → Most i c 0
        at_once none i =
            let one : length moves ^ w - 1 ≡ 0 = ap (λ k. length moves ^ k - 1) none ∙ ap (λ k. k - 1) (nat.pow-zero (length moves)) in
            let gone : (length moves ^ w - 1) ^ 1 * length moves ^ i ≡ 0 = ap (λ k. k * length moves ^ i) (nat.pow-succ' (length moves ^ w - 1) 0 ∙ ap (λ k. k * (length moves ^ w - 1) ^ 0) one) ∙ (let e : 0 * (length moves ^ w - 1) ^ 0 * length moves ^ i ≡ 0 = omega arith in e) in
            same_most (1 * w + i) i c ((length moves ^ w - 1) ^ 1 * length moves ^ i) 0 (omega (arith, none)) gone
            (compose (1 * w) i c p (length moves ^ i) (λ x h. all_but_all i x) ((length moves ^ w - 1) ^ 1) (tail 1 c p))

        in_windows : 0 < w → Expected
        in_windows one =
            let y = length moves ^ w - 1 in
            let power = nat.one-le-pow w (length moves) some in
            let power_is : suc y ≡ length moves ^ w = omega (arith, power) in (
              few (length moves) w y power_is one,
              λ i. let m = i / w in
                  let d = i % w in
                  same_most (m * w + d) i c (y ^ m * length moves ^ d) (few (length moves) w y power_is one i) (div-add-mod' i w) (few_is (length moves) w y power_is one i)
                  (compose (m * w) d c p (length moves ^ d) (λ x h. all_but_all d x) (y ^ m) (tail m c p)),
              shares_sum (length moves) w y power_is one,
            )

        go : (0 < w) ⊎ (w ≤ 0) → Expected
        go (inl one) = in_windows one
        go (inr none) = (
          λ i. 0,
          at_once (omega (arith, none)),
          λ l. let z = no_shares (length moves) l in omega (arith, z),
        )
