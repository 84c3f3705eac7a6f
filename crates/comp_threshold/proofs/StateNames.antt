-- The names of a built leaf's states are well formed, and no two are equal.
use Rattle.std.proofs.Common.{◌≡◌, ◌⊎◌, inl, inr, ℕ, suc, ◌+◌, ◌<◌, ◌≤◌, Bool, true, false, ◌&&◌, length, map, refl, ap, sym, ◌∙◌, arith}
use Rattle.std.specs.Prelude.{ℤ, pos, negsuc, neg_ℤ, ◌-ℤ◌, ◌<ℤ◌, if◌then◌else◌, ◌==◌, nat_lt, nat_le, IsTrue}
use Rattle.std.specs.List.{range_with_len, list_all}
use Rattle.std.specs.Fmt.{signed_decimal}
use Rattle.std.proofs.lemmas.Int.{ints}
use lib.Signed.{mag}
use Rattle.std.proofs.lemmas.Fmt.{signed_decimal_injective, length_signed_le}
use Rattle.std.proofs.lemmas.Bool.{lt-ltb, le-ltb, le-leb, cases_lt}
use Rattle.pop_io.specs.Names.{is_printed, state_name, AreNames}
use Rattle.comp_trees.proofs.StateNames.{decimal-printed, named-apart}
use Rattle.comp_threshold.specs.ThresholdLeaf.{span_of, threshold_place, letter, threshold_state_name, threshold_state_count}
use Rattle.comp_threshold.proofs.Places.{Kind, kind_of, place-below}

-- ---- the bytes of a name

signed-printed : (z : ℤ) → mag z < 1000 → list_all is_printed (signed_decimal z) ≡ true
signed-printed (pos n) l = (decimal-printed n (omega arith)).all
signed-printed (negsuc n) l = (decimal-printed (suc n) (omega arith)).all

small : (p s : ℕ) → p < 1000 → s < 1000 → mag (pos p -ℤ pos s) < 1000
small p s l m = go (pos p -ℤ pos s) (omega (arith, ints)) (omega (arith, ints))
  where
    go : (z : ℤ) → z <ℤ pos 1000 → neg_ℤ (pos 1000) <ℤ z → mag z < 1000
    go (pos n) a b = omega (arith, ints)
    go (negsuc n) a b = omega (arith, ints)

name-form : (s q : ℕ) → s < 400 → Kind s q → IsTrue (state_name (threshold_state_name s q))
name-form s q few kind =
    let below = place-below s q kind in
    let z = pos (threshold_place s q) -ℤ pos s in
    let size = small (threshold_place s q) s (omega arith) (omega arith) in
    let long = length_signed_le 4 z (omega arith) (omega arith) in
    let a : nat_le 1 (length (threshold_state_name s q)) ≡ true = le-leb 1 (length (threshold_state_name s q)) (omega arith) in
    let b : is_printed (letter s q) ≡ true = letter-printed (nat_lt q (span_of s)) (nat_lt q (span_of s + span_of s)) in
    let c : list_all is_printed (signed_decimal z) ≡ true = signed-printed z size in
    let d : nat_le (length (threshold_state_name s q)) 32 ≡ true = le-leb (length (threshold_state_name s q)) 32 (omega arith) in
    from_true (state_name (threshold_state_name s q)) (and_all a b c d)
  where
    letter-printed : (x y : Bool) → is_printed (if x then 76 else (if y then 102 else 116)) ≡ true
    letter-printed true y = refl
    letter-printed false true = refl
    letter-printed false false = refl

    from_true : (b : Bool) → b ≡ true → IsTrue b
    from_true b e = e

    and_all : {a b c d : Bool} → a ≡ true → b ≡ true → c ≡ true → d ≡ true → ((a && (b && c)) && d) ≡ true
    and_all e f g h = rw (e, f, g, h) refl

-- ---- distinct names

-- the state with this letter and this place
abbrev back : ℕ → ℕ → ℕ → ℕ
back s l v = if l == 76 then v else (if l == 102 then span_of s + v else span_of s + span_of s + v)

state-back : (s q : ℕ) → back s (letter s q) (threshold_place s q) ≡ q
state-back s q = first (cases_lt q (span_of s))
  where
    second : (q < span_of s + span_of s) ⊎ (span_of s + span_of s ≤ q) → span_of s ≤ q → back s (letter s q) (threshold_place s q) ≡ q
    second (inl l) k = let a = le-ltb q (span_of s) k in let b = lt-ltb q (span_of s + span_of s) l in rw (a, b) (omega arith)
    second (inr l) k = let a = le-ltb q (span_of s) k in let b = le-ltb q (span_of s + span_of s) l in rw (a, b) (omega arith)

    first : (q < span_of s) ⊎ (span_of s ≤ q) → back s (letter s q) (threshold_place s q) ≡ q
    first (inl l) = let a = lt-ltb q (span_of s) l in rw a refl
    first (inr l) = second (cases_lt q (span_of s + span_of s)) l

name-injective : (s p q : ℕ) → s < 400 → Kind s p → Kind s q → threshold_state_name s p ≡ threshold_state_name s q → p ≡ q
name-injective s p q few kp kq e =
    let bp = place-below s p kp in
    let bq = place-below s q kq in
    let letters : letter s p ≡ letter s q = cc in
    let texts : signed_decimal (pos (threshold_place s p) -ℤ pos s) ≡ signed_decimal (pos (threshold_place s q) -ℤ pos s) = cc in
    let sp = small (threshold_place s p) s (omega arith) (omega arith) in
    let sq = small (threshold_place s q) s (omega arith) (omega arith) in
    let values = signed_decimal_injective (pos (threshold_place s p) -ℤ pos s) (pos (threshold_place s q) -ℤ pos s) (omega arith) (omega arith) texts in
    let places : threshold_place s p ≡ threshold_place s q = omega (arith, ints, values) in
    sym (state-back s p) ∙ ap (λ l. back s l (threshold_place s p)) letters ∙ ap (back s (letter s q)) places ∙ state-back s q

pub names-formed : (s : ℕ) → s < 400 → AreNames state_name (map (threshold_state_name s) (range_with_len 0 (threshold_state_count s)))
names-formed s few =
    named-apart (threshold_state_name s) (threshold_state_count s) (λ i l. name-form s i few (kind_of s i l)) (λ i j l m e. name-injective s i j few (kind_of s i l) (kind_of s j m) e)
