-- Lists that grow by one item, and flags.
use Rattle.std.proofs.Common.{◌≡◌, ℕ, suc, ◌+◌, ◌<◌, ◌≤◌, min, Bool, true, false, cond, List, [], ◌∷◌, ◌++◌, length, map, take, get_or, append_assoc, refl, ap, sym, ◌∙◌, zero-add, arith}
use Rattle.std.specs.Prelude.{ℤ, pos, Some, None, slice_get, filter, if◌then◌else◌, not, ◌&&◌, ◌==◌}
use Rattle.std.specs.List.{range_with_len}
use Rattle.std.proofs.lemmas.List.{take_all, length-map, length-take, map-append, map_push}
use Rattle.std.proofs.lemmas.Option.{slice_get_within, get_or_from_slice_get, slice_get_read}
use Rattle.std.proofs.lemmas.List.FromFn.{get_or-map-range_with_len, length-range_with_len}
use Rattle.std.proofs.lemmas.Simd.{map-map}
use Rattle.cert_base.specs.declared.fact.Fact.{Fact}
use Rattle.cert_base.specs.declared.fact.Fact.TheVariants.{Eq}
use Rattle.cert_base.specs.Rows.{single_row, move_variable, state_variable}
use Rattle.cert_base.specs.FactsAndCases.{indicator, places_from, states_of, is_in, can_meet_in, absent_fact, occurs_fact, alone_fact, not_twice, case_of_twin, no_moves, no_start_facts, is_possible}
use Rattle.cert_traps.specs.Facts.{zero_if, alone_if, fact_if, case_if}
use Rattle.cert_traps.specs.Partners.{ArePartners}
use Rattle.pop_leaf.specs.declared.limits.TheConstants.{STATE_LIMIT}
use Rattle.pop_leaf.specs.declared.leaf.Move.{Move}
use Rattle.pop_leaf.specs.LeafModel.{LeafModel}
use Rattle.base_laws.proofs.Lists.{take_one_more}
use Rattle.base_laws.proofs.Ranges.{range_next}
use Rattle.cert_base.proofs.Indicators.{places_from-one}

-- one more item of a list that is mapped
pub map-take_more : {A B : Type 0} (f : A → B) (xs : List A) (k : ℕ) (x : A) (before after : List B) → slice_get xs k ≡ Some x → before ≡ map f (take k xs) → after ≡ before ++ f x ∷ [] → after ≡ map f (take (k + 1) xs)
map-take_more f xs k x before after h b e =
    e ∙ ap (λ ys. ys ++ f x ∷ []) b ∙ sym (ap (map f) (take_one_more xs k x h) ∙ map_push f (take k xs) x)

-- ---- places

-- the places of the flags that are set are those of the items that pass
pub places_from-flags : {A : Type 0} (k : ℕ) (test : A → Bool) (xs : List A) → places_from k (λ (flag : Bool). flag) (map test xs) ≡ places_from k test xs
places_from-flags k test [] = refl
places_from-flags {A} k test (x ∷ xs) = go (test x) (places_from-flags (k + 1) test xs)
  where
    go : (b : Bool) → places_from (k + 1) (λ (flag : Bool). flag) (map test xs) ≡ places_from (k + 1) test xs → (if b then (k ∷ places_from (k + 1) (λ (flag : Bool). flag) (map test xs)) else places_from (k + 1) (λ (flag : Bool). flag) (map test xs)) ≡ (if b then (k ∷ places_from (k + 1) test xs) else places_from (k + 1) test xs)
    go true e = ap (λ ys. k ∷ ys) e
    go false e = e

length-take_short : {A : Type 0} (xs : List A) (k : ℕ) (x : A) → slice_get xs k ≡ Some x → length (take k xs) ≡ k
length-take_short xs k x h = length-take k xs ∙ (let l = slice_get_within xs k x h in let e : min k (length xs) ≡ k = omega (arith, l) in e)

-- one more flag
pub zeros_more : (first t variable : ℕ) (flags : List Bool) (flag : Bool) (start before after : List Fact) → slice_get flags t ≡ Some flag → variable ≡ first + t → before ≡ start ++ map (λ t. Eq (single_row (first + t) (pos 1) (pos 0))) (places_from 0 (λ flag. flag) (take t flags)) → after ≡ before ++ zero_if variable flag → after ≡ start ++ map (λ t. Eq (single_row (first + t) (pos 1) (pos 0))) (places_from 0 (λ flag. flag) (take (t + 1) flags))
zeros_more first t variable flags flag start before after h at b e =
    let f : ℕ → Fact = λ t. Eq (single_row (first + t) (pos 1) (pos 0)) in
    let more : places_from 0 (λ flag. flag) (take (t + 1) flags) ≡ places_from 0 (λ flag. flag) (take t flags) ++ (if flag then (t ∷ []) else []) =
    ap (places_from 0 (λ flag. flag)) (take_one_more flags t flag h)
    ∙ places_from-one 0 (λ flag. flag) (take t flags) flag
    ∙ ap (λ n. places_from 0 (λ flag. flag) (take t flags) ++ (if flag then (n ∷ []) else [])) (ap (λ n. 0 + n) (length-take_short flags t flag h) ∙ zero-add t) in
    let old = map f (places_from 0 (λ flag. flag) (take t flags)) in
    e
    ∙ ap (λ fs. fs ++ zero_if variable flag) b
    ∙ append_assoc start old (zero_if variable flag)
    ∙ ap (λ fs. start ++ (old ++ fs)) (ap (λ n. zero_if n flag) at ∙ last flag)
    ∙ ap (λ fs. start ++ fs) (sym (ap (map f) more ∙ map-append f (places_from 0 (λ flag. flag) (take t flags)) (if flag then (t ∷ []) else [])))
  where
    last : (b : Bool) → zero_if (first + t) b ≡ map (λ t. Eq (single_row (first + t) (pos 1) (pos 0))) (if b then (t ∷ []) else [])
    last true = refl
    last false = refl

pub zeros_all : (first t : ℕ) (flags : List Bool) (start facts : List Fact) → length flags ≤ t → facts ≡ start ++ map (λ t. Eq (single_row (first + t) (pos 1) (pos 0))) (places_from 0 (λ flag. flag) (take t flags)) → facts ≡ start ++ map (λ t. Eq (single_row (first + t) (pos 1) (pos 0))) (places_from 0 (λ flag. flag) flags)
zeros_all first t flags start facts l e =
    e ∙ ap (λ fs. start ++ map (λ t. Eq (single_row (first + t) (pos 1) (pos 0))) (places_from 0 (λ flag. flag) fs)) (take_all t flags l)

-- ---- flags

pub flags_coefs : {A : Type 0} (test : A → Bool) (xs : List A) (flags : List Bool) (coefs : List ℤ) → flags ≡ map test xs → coefs ≡ map indicator flags → coefs ≡ map (λ x. indicator (test x)) xs
flags_coefs test xs flags coefs e f = f ∙ ap (map indicator) e ∙ map-map indicator test xs

pub length-coefs : {A : Type 0} (test : A → Bool) (xs : List A) (flags : List Bool) (coefs : List ℤ) → flags ≡ map test xs → coefs ≡ map indicator flags → length coefs ≡ length xs
length-coefs test xs flags coefs e f =
    ap length (flags_coefs test xs flags coefs e f) ∙ length-map xs (λ x. indicator (test x))

pub moves_zero : (leaf : LeafModel) (test : Move → Bool) (first : ℕ) (flags : List Bool) (start facts : List Fact) → first ≡ move_variable leaf 0 → flags ≡ map test leaf.moves → facts ≡ start ++ map (λ t. Eq (single_row (first + t) (pos 1) (pos 0))) (places_from 0 (λ flag. flag) flags) → facts ≡ start ++ no_moves leaf test
moves_zero leaf test first flags start facts at e f =
    f
    ∙ ap (λ fs. start ++ fs) (ap (λ n. map (λ t. Eq (single_row (n + t) (pos 1) (pos 0))) (places_from 0 (λ flag. flag) flags)) (at ∙ (let k : move_variable leaf 0 ≡ length leaf.inputs + length leaf.states = omega arith in k))
    ∙ ap (λ fs. map (λ t. Eq (single_row (move_variable leaf t) (pos 1) (pos 0))) (places_from 0 (λ flag. flag) fs)) e
    ∙ ap (map (λ t. Eq (single_row (move_variable leaf t) (pos 1) (pos 0)))) (places_from-flags 0 test leaf.moves))

pub inputs_zero : (leaf : LeafModel) (set : List ℕ) (first : ℕ) (flags : List Bool) (start facts : List Fact) → first ≡ 0 → flags ≡ map (is_in set) leaf.inputs → facts ≡ start ++ map (λ t. Eq (single_row (first + t) (pos 1) (pos 0))) (places_from 0 (λ flag. flag) flags) → facts ≡ start ++ no_start_facts leaf set
inputs_zero leaf set first flags start facts z e f =
    let plain : ◌≡◌ {A = ℕ → Fact} (λ t. Eq (single_row (0 + t) (pos 1) (pos 0))) (λ t. Eq (single_row t (pos 1) (pos 0))) = λ i t. Eq (single_row (zero-add t i) (pos 1) (pos 0)) in
    f
    ∙ ap (λ n. start ++ map (λ t. Eq (single_row (n + t) (pos 1) (pos 0))) (places_from 0 (λ flag. flag) flags)) z
    ∙ ap (λ fs. start ++ fs) (ap (λ g. map g (places_from 0 (λ flag. flag) flags)) plain
    ∙ ap (λ fs. map (λ t. Eq (single_row t (pos 1) (pos 0))) (places_from 0 (λ flag. flag) fs)) e
    ∙ ap (map (λ t. Eq (single_row t (pos 1) (pos 0)))) (places_from-flags 0 (is_in set) leaf.inputs))

range-one : (a n : ℕ) → range_with_len a (n + 1) ≡ range_with_len a n ++ (a + n) ∷ []
range-one a n = ap (range_with_len a) (let e : n + 1 ≡ suc n = omega arith in e) ∙ range_next a n

-- ---- partners

-- one more state is asked
pub partners_more : (leaf : LeafModel) (p q : ℕ) (flag : Bool) (before after : List Bool) → before ≡ map (can_meet_in leaf p) (range_with_len 0 q) → flag ≡ can_meet_in leaf p q → after ≡ before ++ flag ∷ [] → after ≡ map (can_meet_in leaf p) (range_with_len 0 (q + 1))
partners_more leaf p q flag before after b is e =
    e
    ∙ ap (λ flags. flags ++ flag ∷ []) b
    ∙ ap (λ f. map (can_meet_in leaf p) (range_with_len 0 q) ++ f ∷ []) is
    ∙ sym (ap (map (can_meet_in leaf p)) (range-one 0 q ∙ ap (λ z. range_with_len 0 q ++ z ∷ []) (zero-add q)) ∙ map_push (can_meet_in leaf p) (range_with_len 0 q) q)

-- what the whole table says
pub partners_all : (leaf : LeafModel) (p q : ℕ) (table : List Bool) → q ≡ length leaf.states → table ≡ map (can_meet_in leaf p) (range_with_len 0 q) → ArePartners leaf p table
partners_all leaf p q table all e = record {
  long = ap length e ∙ length-map (range_with_len 0 q) (can_meet_in leaf p) ∙ length-range_with_len 0 q ∙ all;
  each = λ n l. ap (λ (flags : List Bool). get_or flags n false) e ∙ get_or-map-range_with_len (can_meet_in leaf p) 0 q n n false (let m : n < q = omega (arith, all) in m) (zero-add n);
}

filter-one : {A : Type 0} (test : A → Bool) (xs : List A) (x : A) → filter test (xs ++ x ∷ []) ≡ filter test xs ++ (if test x then (x ∷ []) else [])
filter-one test [] x = refl
filter-one {A} test (y ∷ xs) x = go (test y) (filter-one test xs x)
  where
    go : (b : Bool) → filter test (xs ++ x ∷ []) ≡ filter test xs ++ (if test x then (x ∷ []) else []) → cond b (y ∷ filter test (xs ++ x ∷ [])) (filter test (xs ++ x ∷ [])) ≡ cond b (y ∷ filter test xs) (filter test xs) ++ (if test x then (x ∷ []) else [])
    go true e = ap (λ zs. y ∷ zs) e
    go false e = e

-- one more state that can't be there
pub unmet_more : (leaf : LeafModel) (p q variable : ℕ) (flag : Bool) (table : List Bool) (before after : List Fact) → ArePartners leaf p table → q < length leaf.states → variable ≡ state_variable leaf q → flag ≡ (not (q == p) && get_or table q false) → before ≡ occurs_fact leaf p ∷ map (absent_fact leaf) (filter (λ q. not (q == p) && can_meet_in leaf p q) (range_with_len 0 q)) → after ≡ before ++ zero_if variable flag → after ≡ occurs_fact leaf p ∷ map (absent_fact leaf) (filter (λ q. not (q == p) && can_meet_in leaf p q) (range_with_len 0 (q + 1)))
unmet_more leaf p q variable flag table before after are l at is b e =
    let test : ℕ → Bool = λ q. not (q == p) && can_meet_in leaf p q in
    let flag_is : flag ≡ (not (q == p) && can_meet_in leaf p q) = is ∙ ap (λ b. not (q == p) && b) (are.each q l) in
    let more : filter test (range_with_len 0 (q + 1)) ≡ filter test (range_with_len 0 q) ++ (if test q then (q ∷ []) else []) =
    ap (filter test) (range-one 0 q ∙ ap (λ z. range_with_len 0 q ++ z ∷ []) (zero-add q)) ∙ filter-one test (range_with_len 0 q) q in
    e
    ∙ ap (λ fs. fs ++ zero_if variable flag) b
    ∙ ap (λ fs. occurs_fact leaf p ∷ (map (absent_fact leaf) (filter test (range_with_len 0 q)) ++ fs)) (ap (λ n. zero_if n flag) at ∙ ap (zero_if (state_variable leaf q)) flag_is ∙ last (test q))
    ∙ ap (λ fs. occurs_fact leaf p ∷ fs) (sym (ap (map (absent_fact leaf)) more ∙ map-append (absent_fact leaf) (filter test (range_with_len 0 q)) (if test q then (q ∷ []) else [])))
  where
    last : (b : Bool) → zero_if (state_variable leaf q) b ≡ map (absent_fact leaf) (if b then (q ∷ []) else [])
    last true = refl
    last false = refl

pub unmet_all : (leaf : LeafModel) (p q : ℕ) (flag : Bool) (table : List Bool) (before after : List Fact) → ArePartners leaf p table → p < length leaf.states → q ≡ length leaf.states → flag ≡ get_or table p false → before ≡ occurs_fact leaf p ∷ map (absent_fact leaf) (filter (λ q. not (q == p) && can_meet_in leaf p q) (range_with_len 0 q)) → after ≡ before ++ alone_if leaf p flag → after ≡ occurs_fact leaf p ∷ map (absent_fact leaf) (filter (λ q. not (q == p) && can_meet_in leaf p q) (states_of leaf)) ++ (if can_meet_in leaf p p then (alone_fact leaf p ∷ []) else [])
unmet_all leaf p q flag table before after are l all is b e =
    e
    ∙ ap (λ fs. fs ++ alone_if leaf p flag) b
    ∙ ap (λ n. (occurs_fact leaf p ∷ map (absent_fact leaf) (filter (λ q. not (q == p) && can_meet_in leaf p q) (range_with_len 0 n))) ++ alone_if leaf p flag) all
    ∙ ap (λ b. (occurs_fact leaf p ∷ map (absent_fact leaf) (filter (λ q. not (q == p) && can_meet_in leaf p q) (states_of leaf))) ++ alone_if leaf p b) (is ∙ are.each p l)

-- what is read at an index that the code computes
pub read_is : (xs : List Bool) (i j : ℕ) (b : Bool) → b ≡ get_or xs i b → i ≡ j → j < length xs → b ≡ get_or xs j false
read_is xs i j b e at l =
    let h = slice_get_read xs (length xs) j b refl l (e ∙ ap (λ n. get_or xs n b) at) in
    sym (get_or_from_slice_get xs j b false h)

pub contains_is : (listed set : List ℕ) (inside : List Bool) (i q : ℕ) (b : Bool) → b ≡ get_or inside i b → i ≡ q → q < STATE_LIMIT → inside ≡ map (is_in listed) (range_with_len 0 STATE_LIMIT) → listed ≡ set → b ≡ is_in set q
contains_is listed set inside i q b e at l table same =
    e
    ∙ ap (λ n. get_or inside n b) at
    ∙ ap (λ xs. get_or xs q b) table
    ∙ get_or-map-range_with_len (is_in listed) 0 STATE_LIMIT q q b l (zero-add q)
    ∙ ap (λ s. is_in s q) same

pub three_cases : (empty one two three : List (List Fact)) (a b c a' b' c' : List Fact) → empty ≡ [] → one ≡ empty ++ a ∷ [] → two ≡ one ++ b ∷ [] → three ≡ two ++ c ∷ [] → a ≡ a' → b ≡ b' → c ≡ c' → three ≡ a' ∷ b' ∷ c' ∷ []
three_cases empty one two three a b c a' b' c' e f g h i j k =
    h
    ∙ ap (λ cases. cases ++ c ∷ []) (g ∙ ap (λ cases. cases ++ b ∷ []) (f ∙ ap (λ cases. cases ++ a ∷ []) e))
    ∙ ap (λ facts. facts ∷ b ∷ c ∷ []) i
    ∙ ap (λ facts. a' ∷ facts ∷ c ∷ []) j
    ∙ ap (λ facts. a' ∷ b' ∷ facts ∷ []) k

pub twin_as : (leaf : LeafModel) (p : ℕ) (b : Bool) → b ≡ can_meet_in leaf p p → (if b then Some (not_twice leaf p ∷ []) else None) ≡ case_of_twin leaf p
twin_as leaf p b e = ap (λ b. if b then Some (not_twice leaf p ∷ []) else None) e

-- ---- items that pass a test

-- one more item is asked
pub filter_more : {A : Type 0} (test : A → Bool) (xs : List A) (k : ℕ) (x : A) → slice_get xs k ≡ Some x → filter test (take (k + 1) xs) ≡ filter test (take k xs) ++ (if test x then (x ∷ []) else [])
filter_more test xs k x h =
    ap (filter test) (take_one_more xs k x h) ∙ filter-one test (take k xs) x

pub kept_more : (test : Fact → Bool) (facts : List Fact) (k : ℕ) (fact : Fact) (start before after : List Fact) → slice_get facts k ≡ Some fact → before ≡ start ++ filter test (take k facts) → after ≡ before ++ fact_if fact (test fact) → after ≡ start ++ filter test (take (k + 1) facts)
kept_more test facts k fact start before after h b e =
    e
    ∙ ap (λ fs. fs ++ fact_if fact (test fact)) b
    ∙ append_assoc start (filter test (take k facts)) (fact_if fact (test fact))
    ∙ ap (λ fs. start ++ fs) (sym (filter_more test facts k fact h))

pub kept_all : (test : Fact → Bool) (facts : List Fact) (k : ℕ) (start kept : List Fact) → length facts ≤ k → kept ≡ start ++ filter test (take k facts) → kept ≡ start ++ filter test facts
kept_all test facts k start kept l e = e ∙ ap (λ fs. start ++ filter test fs) (take_all k facts l)

pub cases_more : (leaf : LeafModel) (test : Move → Bool) (k : ℕ) (t : Move) (before after : List (List Fact)) → slice_get leaf.moves k ≡ Some t → before ≡ map (is_possible leaf) (filter test (take k leaf.moves)) → after ≡ before ++ case_if leaf t (test t) → after ≡ map (is_possible leaf) (filter test (take (k + 1) leaf.moves))
cases_more leaf test k t before after h b e =
    e
    ∙ ap (λ cases. cases ++ case_if leaf t (test t)) b
    ∙ ap (λ cases. map (is_possible leaf) (filter test (take k leaf.moves)) ++ cases) (one (test t))
    ∙ sym (ap (map (is_possible leaf)) (filter_more test leaf.moves k t h) ∙ map-append (is_possible leaf) (filter test (take k leaf.moves)) (if test t then (t ∷ []) else []))
  where
    one : (b : Bool) → case_if leaf t b ≡ map (is_possible leaf) (if b then (t ∷ []) else [])
    one true = refl
    one false = refl
