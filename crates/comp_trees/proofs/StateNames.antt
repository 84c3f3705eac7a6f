-- Names of states that are made of decimals: when they are well formed, and when no two are equal.
use Rattle.std.proofs.Common.{◌≡◌, ◌≢◌, ◌∙◌, subst, ℕ, ◌+◌, ◌%◌, ◌^◌, ◌<◌, ◌≤◌, Bool, true, false, ◌&&◌, List, [], ◌∷◌, ◌++◌, length, map, get_or, refl, sym, zero-add, arith}
use Rattle.std.specs.Prelude.{◌==◌, nat_le, All, AllPairs, IsTrue}
use Rattle.std.specs.List.{range_with_len, list_all}
use Rattle.std.specs.Fmt.{decimal}
use Rattle.std.proofs.lemmas.Fmt.{decimal_by_steps, length-decimal-le}
use Rattle.std.proofs.lemmas.Bool.{le-leb, ne_eqb, and_parts}
use Rattle.std.proofs.lemmas.List.FromFn.{length-map-range_with_len, get_or-map-range_with_len}
use Rattle.pop_io.specs.Names.{is_printed, state_name, AreNames}

printed : (c : ℕ) → 48 ≤ c → c ≤ 126 → is_printed c ≡ true
printed c l m =
    let a : nat_le 33 c ≡ true = le-leb 33 c (omega arith) in
    let d : nat_le c 126 ≡ true = le-leb c 126 m in
    let e : (c == 47) ≡ false = ne_eqb c 47 (λ f. omega arith) in
    rw (a, d, e) refl

all_one : (ds : List ℕ) (c : ℕ) → list_all is_printed ds ≡ true → is_printed c ≡ true → list_all is_printed (ds ++ c ∷ []) ≡ true
all_one [] c e f = rw f refl
all_one (d ∷ ds) c e f =
    let both = and_parts (is_printed d) (list_all is_printed ds) e in
    let first = both.0 in
    let rest = all_one ds c both.1 f in
    rw (first, rest) refl

-- one or more digits, all printed
pub record ArePrinted (ds : List ℕ) : Type 0 where
  pub all : list_all is_printed ds ≡ true
  pub some : 1 ≤ length ds

pub decimal-printed : (n : ℕ) → n < 2 ^ 64 → ArePrinted (decimal n)
decimal-printed n l =
    decimal_by_steps (λ n ds. ArePrinted ds) (λ n m. record { all = (let e = printed (48 + n) (omega arith) (omega arith) in rw e refl); some = omega arith }) (λ n ds m e. record { all = all_one ds (48 + n % 10) e.all (printed (48 + n % 10) (omega arith) (omega arith)); some = more ds (48 + n % 10) }) n l
  where
    more : (ds : List ℕ) (c : ℕ) → 1 ≤ length (ds ++ c ∷ [])
    more [] c = omega arith
    more (d ∷ ds) c = omega arith

-- a number of few digits is a name
pub number-named : (n : ℕ) → n < 10 ^ 12 → IsTrue (state_name (decimal n))
number-named n l =
    let long = length-decimal-le 12 n (omega arith) l (omega (arith, l)) in
    let is = decimal-printed n (omega (arith, l)) in
    let some = is.some in
    let a : nat_le 1 (length (decimal n)) ≡ true = le-leb 1 (length (decimal n)) some in
    let b : list_all is_printed (decimal n) ≡ true = is.all in
    let c : nat_le (length (decimal n)) 32 ≡ true = le-leb (length (decimal n)) 32 (omega arith) in
    from_true (state_name (decimal n)) (and_all a b c)
  where
    from_true : (b : Bool) → b ≡ true → IsTrue b
    from_true b e = e

    and_all : {a b c : Bool} → a ≡ true → b ≡ true → c ≡ true → ((a && b) && c) ≡ true
    and_all e f g = rw (e, f, g) refl

-- the names of `count` states, each by its number
pub named-apart : (name : ℕ → List ℕ) (count : ℕ)
    → ((i : ℕ) → i < count → IsTrue (state_name (name i))) → ((i j : ℕ) → i < count → j < count → name i ≡ name j → i ≡ j)
    → AreNames state_name (map name (range_with_len 0 count))
named-apart name count formed injective = (forms, apart)
  where
    at : (i : ℕ) (d : List ℕ) → i < count → get_or (map name (range_with_len 0 count)) i d ≡ name i
    at i d l = get_or-map-range_with_len name 0 count i i d l (zero-add i)

    forms : All (λ name. IsTrue (state_name name)) (map name (range_with_len 0 count))
    forms i d l =
        let n : i < count = omega (arith, length-map-range_with_len name 0 count) in
        subst (λ name. IsTrue (state_name name)) (sym (at i d n)) (formed i n)

    apart : AllPairs ◌≢◌ (map name (range_with_len 0 count))
    apart i j d l m e =
        let nj : j < count = omega (arith, length-map-range_with_len name 0 count) in
        let ni : i < count = omega arith in
        let same = injective i j ni nj (sym (at i d ni) ∙ e ∙ at j d nj) in
        omega arith
