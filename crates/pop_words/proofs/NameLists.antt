-- Lists of names, read one after the other.
use Rattle.std.proofs.Common.{◌≡◌, ◌≢◌, ℕ, ◌<◌, ◌≤◌, ◌⊎◌, inl, inr, Bool, true, false, not, ◌&&◌, nat_le, nat_lt, List, [], ◌∷◌, ◌++◌, length, All, AllPairs, slice_index_or, zero, suc, append-nil, codes, refl, sym, ◌∙◌, arith, length-append, append_assoc}
use Rattle.std.specs.List.{list_all, list_any}
use Rattle.std.specs.Str.{bytes_eq, IsUtf8}
use Rattle.std.proofs.lemmas.Bool.{and_parts, and_from, and_left, and_right, or_left, or_right, or_parts, or_from, not-true, not-false, not_from_true, not_from_false, leb-true, le-leb, lt-leb, ltb-true, ltb-false, or_cases, and_cases, true≢false}
use Rattle.std.proofs.lemmas.Bool.Decides.{nat_tests}
use Rattle.std.proofs.lemmas.Str.{IsUtf8-from_ascii}
use Rattle.std.proofs.lemmas.List.Elements.{All-cons, All-nil}
use Rattle.std.proofs.lemmas.List.Folds.{list_all-append}
use Rattle.std.proofs.lemmas.List.Kept.{AllPairs-cons}
use Rattle.std.proofs.lemmas.Slice.Eq.{bytes_eq-Decides}
use Rattle.pop_io.specs.Names.{variable_name, is_name_byte, starts_name}
use Rattle.pop_io.specs.declared.names.TheConstants.{NAME_LIMIT, VARIABLE_LIMIT}
use Rattle.pop_words.specs.Vars.{are_distinct, are_variables, AreVariables}
use Rattle.pop_words.specs.WordsBehind.{can_join}

-- the test for equal texts is symmetric
bytes_eq-swap : (a b : List ℕ) → bytes_eq a b ≡ true → bytes_eq b a ≡ true
bytes_eq-swap a b same = (bytes_eq-Decides b a).1 (sym ((bytes_eq-Decides a b).0 same))

bytes_eq-swap_false : (a b : List ℕ) (r : Bool) → bytes_eq b a ≡ r → bytes_eq a b ≡ false → r ≡ false
bytes_eq-swap_false a b true is other = cc (bytes_eq-swap b a is)
bytes_eq-swap_false a b false is other = refl

list_any-append_yes : (p : List ℕ → Bool) (xs : List (List ℕ)) (w : List ℕ) (ys : List (List ℕ)) → p w ≡ true → list_any p (xs ++ w ∷ ys) ≡ true
list_any-append_yes p [] w ys is = or_left (p w) (list_any p ys) is
list_any-append_yes p (x ∷ xs) w ys is = or_right (p x) (list_any p (xs ++ w ∷ ys)) (list_any-append_yes p xs w ys is)

list_any-push_no : (p : List ℕ → Bool) (xs : List (List ℕ)) (w : List ℕ) → list_any p xs ≡ false → p w ≡ false → list_any p (xs ++ w ∷ []) ≡ false
list_any-push_no p [] w none is = or_from (p w) false is refl
list_any-push_no p (x ∷ xs) w none is =
    let parts = or_parts (p x) (list_any p xs) none in
    or_from (p x) (list_any p (xs ++ w ∷ [])) parts.0 (list_any-push_no p xs w parts.1 is)

-- a list in which a name comes again is not distinct
are_distinct-twice : (names : List (List ℕ)) (w : List ℕ) (left : List (List ℕ)) → list_any (bytes_eq w) names ≡ true → are_distinct (names ++ w ∷ left) ≡ false
are_distinct-twice [] w left twice = cc
are_distinct-twice (x ∷ xs) w left twice = elim (or_cases (bytes_eq w x) (list_any (bytes_eq w) xs) twice) [
  | inl here ↦ and_left (not (list_any (bytes_eq x) (xs ++ w ∷ left))) (are_distinct (xs ++ w ∷ left))
      (not_from_true (list_any (bytes_eq x) (xs ++ w ∷ left)) (list_any-append_yes (bytes_eq x) xs w left (bytes_eq-swap w x here)))
  | inr later ↦ and_right (not (list_any (bytes_eq x) (xs ++ w ∷ left))) (are_distinct (xs ++ w ∷ left)) (are_distinct-twice xs w left later)
]

-- a new name keeps a list distinct
are_distinct-push : (names : List (List ℕ)) (w : List ℕ) → are_distinct names ≡ true → list_any (bytes_eq w) names ≡ false → are_distinct (names ++ w ∷ []) ≡ true
are_distinct-push [] w distinct fresh = refl
are_distinct-push (x ∷ xs) w distinct fresh =
    let parts = and_parts (not (list_any (bytes_eq x) xs)) (are_distinct xs) distinct in
    let other = or_parts (bytes_eq w x) (list_any (bytes_eq w) xs) fresh in
    and_from (not (list_any (bytes_eq x) (xs ++ w ∷ []))) (are_distinct (xs ++ w ∷ []))
    (not_from_false (list_any (bytes_eq x) (xs ++ w ∷ [])) (list_any-push_no (bytes_eq x) xs w (not-true (list_any (bytes_eq x) xs) parts.0) (bytes_eq-swap_false w x (bytes_eq x w) refl other.0)))
    (are_distinct-push xs w parts.1 other.1)

-- names so far: well-formed, distinct, and at most VARIABLE_LIMIT
pub record SoFar (words names left : List (List ℕ)) : Type 0 where
  pub joined : words ≡ names ++ left
  pub formed : list_all variable_name names ≡ true
  pub distinct : are_distinct names ≡ true
  pub few : length names ≤ VARIABLE_LIMIT

-- a further name that can join
pub joins : (words names : List (List ℕ)) (w : List ℕ) (left : List (List ℕ)) → SoFar words names (w ∷ left) → can_join names w ≡ true → SoFar words (names ++ w ∷ []) left
joins words names w left so_far can =
    let parts = and_parts (variable_name w) (nat_lt (length names) VARIABLE_LIMIT && not (list_any (bytes_eq w) names)) can in
    let more = and_parts (nat_lt (length names) VARIABLE_LIMIT) (not (list_any (bytes_eq w) names)) parts.1 in
    record {
      joined = so_far.joined ∙ sym (append_assoc names (w ∷ []) left);
      formed = list_all-append variable_name names (w ∷ []) ∙ and_from (list_all variable_name names) (list_all variable_name (w ∷ [])) so_far.formed (and_from (variable_name w) true parts.0 refl);
      distinct = are_distinct-push names w so_far.distinct (not-true (list_any (bytes_eq w) names) more.1);
      few = omega (arith, length-append names (w ∷ []), ltb-true (length names) VARIABLE_LIMIT more.0);
    }

-- a test of four parts fails if one of the last three fails
fails : (a b c d : Bool) → (b ≡ false) ⊎ ((c ≡ false) ⊎ (d ≡ false)) → ((a && b) && (c && d)) ≡ false
fails a b c d one = elim one [
  | inl second ↦ and_left (a && b) (c && d) (and_right a b second)
  | inr others ↦ and_right (a && b) (c && d) (elim others as (λ _. (c && d) ≡ false) [ inl third ↦ and_left c d third | inr fourth ↦ and_right c d fourth ])
]

broken_by : (names : List (List ℕ)) (w : List ℕ) (left : List (List ℕ)) → (variable_name w ≡ false) ⊎ ((VARIABLE_LIMIT ≤ length names) ⊎ (list_any (bytes_eq w) names ≡ true)) → are_variables (names ++ w ∷ left) ≡ false
broken_by names w left (inl form) =
    let second : list_all variable_name (w ∷ left) ≡ false = and_left (variable_name w) (list_all variable_name left) form in
    fails (nat_le 1 (length (names ++ w ∷ left))) (nat_le (length (names ++ w ∷ left)) VARIABLE_LIMIT) (list_all variable_name (names ++ w ∷ left)) (are_distinct (names ++ w ∷ left))
    (inr (inl (list_all-append variable_name names (w ∷ left) ∙ and_right (list_all variable_name names) (list_all variable_name (w ∷ left)) second)))
broken_by names w left (inr (inl many)) =
    fails (nat_le 1 (length (names ++ w ∷ left))) (nat_le (length (names ++ w ∷ left)) VARIABLE_LIMIT) (list_all variable_name (names ++ w ∷ left)) (are_distinct (names ++ w ∷ left))
    (inl (lt-leb (length (names ++ w ∷ left)) VARIABLE_LIMIT (omega (arith, length-append names (w ∷ left)))))
broken_by names w left (inr (inr twice)) =
    fails (nat_le 1 (length (names ++ w ∷ left))) (nat_le (length (names ++ w ∷ left)) VARIABLE_LIMIT) (list_all variable_name (names ++ w ∷ left)) (are_distinct (names ++ w ∷ left))
    (inr (inr (are_distinct-twice names w left twice)))

reasons : (names : List (List ℕ)) (w : List ℕ) → can_join names w ≡ false → (variable_name w ≡ false) ⊎ ((VARIABLE_LIMIT ≤ length names) ⊎ (list_any (bytes_eq w) names ≡ true))
reasons names w can = elim (and_cases (variable_name w) (nat_lt (length names) VARIABLE_LIMIT && not (list_any (bytes_eq w) names)) can) [
  | inl form ↦ inl form
  | inr more ↦ inr (elim (and_cases (nat_lt (length names) VARIABLE_LIMIT) (not (list_any (bytes_eq w) names)) more) as (λ _. (VARIABLE_LIMIT ≤ length names) ⊎ (list_any (bytes_eq w) names ≡ true)) [
    | inl many ↦ inl (ltb-false (length names) VARIABLE_LIMIT many)
    | inr twice ↦ inr (not-false (list_any (bytes_eq w) names) twice)
  ])
]

-- a word that cannot join breaks the whole list
pub refused : (words names : List (List ℕ)) (w : List ℕ) (left : List (List ℕ)) → SoFar words names (w ∷ left) → can_join names w ≡ false → are_variables words ≡ false
refused words names w left so_far can = rw so_far.joined (broken_by names w left (reasons names w can))

-- all names have been read
pub whole : (words names : List (List ℕ)) → SoFar words names [] → 0 < length names → (names ≡ words) × (are_variables words ≡ true)
whole words names so_far some =
    let same : words ≡ names = so_far.joined ∙ append-nil names in (
      sym same,
      rw same (and_from (nat_le 1 (length names) && nat_le (length names) VARIABLE_LIMIT) (list_all variable_name names && are_distinct names)
          (and_from (nat_le 1 (length names)) (nat_le (length names) VARIABLE_LIMIT) (le-leb 1 (length names) some) (le-leb (length names) VARIABLE_LIMIT so_far.few))
          (and_from (list_all variable_name names) (are_distinct names) so_far.formed so_far.distinct)),
    )

-- no name at all
pub none : (words : List (List ℕ)) → words ≡ [] → are_variables words ≡ false
none words is = rw is refl

All-formed : (names : List (List ℕ)) → list_all variable_name names ≡ true → All (λ name. variable_name name ≡ true) names
All-formed [] all = All-nil (λ name. variable_name name ≡ true)
All-formed (name ∷ names) all =
    let parts = and_parts (variable_name name) (list_all variable_name names) all in
    All-cons (λ name. variable_name name ≡ true) name names parts.0 (All-formed names parts.1)

All-other : (name : List ℕ) (names : List (List ℕ)) → list_any (bytes_eq name) names ≡ false → All (λ other. name ≢ other) names
All-other name [] none = All-nil (λ other. name ≢ other)
All-other name (x ∷ xs) none =
    let parts = or_parts (bytes_eq name x) (list_any (bytes_eq name) xs) none in
    All-cons (λ other. name ≢ other) x xs (λ same. true≢false (sym ((bytes_eq-Decides name x).1 same) ∙ parts.0)) (All-other name xs parts.1)

AllPairs-other : (names : List (List ℕ)) → are_distinct names ≡ true → AllPairs ◌≢◌ names
AllPairs-other [] distinct = λ i j d before within. absurd (omega arith)
AllPairs-other (name ∷ names) distinct =
    let parts = and_parts (not (list_any (bytes_eq name) names)) (are_distinct names) distinct in
    AllPairs-cons ◌≢◌ name names (All-other name names (not-true (list_any (bytes_eq name) names) parts.0)) (AllPairs-other names parts.1)

-- lists of names pass the test
pub variables : (names : List (List ℕ)) → are_variables names ≡ true → AreVariables names
variables names test =
    let parts = and_parts (nat_le 1 (length names) && nat_le (length names) VARIABLE_LIMIT) (list_all variable_name names && are_distinct names) test in
    let sizes = and_parts (nat_le 1 (length names)) (nat_le (length names) VARIABLE_LIMIT) parts.0 in
    let forms = and_parts (list_all variable_name names) (are_distinct names) parts.1 in
    record {
      some = leb-true 1 (length names) sizes.0;
      few = leb-true (length names) VARIABLE_LIMIT sizes.1;
      formed = (All-formed names forms.0, AllPairs-other names forms.1);
    }

name_byte-ascii : (b : ℕ) → is_name_byte b ≡ true → b < 128
name_byte-ascii b form = grind (arith, nat_tests)

ascii : (name : List ℕ) → list_all is_name_byte name ≡ true → (i : ℕ) → slice_index_or name i 0 < 128
ascii [] form zero = omega arith
ascii [] form (suc i) = omega arith
ascii (b ∷ bytes) form zero = name_byte-ascii b (and_parts (is_name_byte b) (list_all is_name_byte bytes) form).0
ascii (b ∷ bytes) form (suc i) = ascii bytes (and_parts (is_name_byte b) (list_all is_name_byte bytes) form).1 i

-- a name is ASCII
pub name-IsUtf8 : (name : List ℕ) → variable_name name ≡ true → IsUtf8 name
name-IsUtf8 name form =
    let short = and_parts ((starts_name name && list_all is_name_byte name) && nat_le (length name) NAME_LIMIT) (not (bytes_eq name (codes "mod"))) form in
    let bytes = and_parts (starts_name name && list_all is_name_byte name) (nat_le (length name) NAME_LIMIT) short.0 in
    IsUtf8-from_ascii name (ascii name (and_parts (starts_name name) (list_all is_name_byte name) bytes.0).1)
