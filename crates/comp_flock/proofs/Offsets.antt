-- What an atom with an offset says, and how many agents its helpers stand for.
use Rattle.std.proofs.Common.{◌≡◌, ◌∙◌, subst, ℕ, zero, suc, ◌+◌, ◌-◌, ◌^◌, ◌%◌, ◌<◌, ◌≤◌, Bool, true, false, List, [], ◌∷◌, ◌++◌, length, refl, ap, sym, arith}
use Rattle.std.specs.Prelude.{ℤ, pos, negsuc, neg_ℤ, ◌-ℤ◌, if◌then◌else◌, All, filter, replicate}
use Rattle.std.specs.List.{range_with_len, list_all}
use Rattle.std.proofs.lemmas.Int.{ints}
use Rattle.std.proofs.lemmas.Bool.{lt-leb}
use Rattle.std.proofs.lemmas.List.{length-append, append-nil}
use Rattle.std.proofs.lemmas.List.Elements.{All-append, All-filter, All-replicate, filter-append}
use Rattle.std.proofs.lemmas.List.FromFn.{length-range_with_len}
use Rattle.std.proofs.lemmas.List.Sums.{length-filter, count_by-le-length}
use Rattle.cert_base.specs.WeightedSums.{total}
use Rattle.base_laws.proofs.Ranges.{all_range, range_next}
use Rattle.comp_trees.proofs.HelperSums.{total-append}
use Rattle.comp_trees.specs.Bits.{has_bit}
use Rattle.comp_trees.proofs.Bits.{more_bits, no_bits, all_bits, some_power}
use Rattle.comp_counting.specs.FlockAtoms.{is_counted, flock_bound, says_enough, enough_for, IsFlock, IsOffset}
use Rattle.comp_flock.specs.CountLeaf.{worth_in}
use Rattle.comp_flock.specs.FlockLeaf.{power_worths, bit_states, offset_helpers, offset_helper_count, all_offset_helpers, flock_leaf_with, flock_leaf_of, offset_leaf_of}
use Rattle.comp_flock.proofs.Powers.{worth-power}
use Rattle.comp_flock.proofs.Flocks.{flock-are, flock-sum}

-- ---- helpers

abbrev bit_of : ℕ → ℕ → Bool
bit_of n q = has_bit n (q - 1)

module _ (k : ℕ) where
  abbrev size : ℕ → ℤ
  size q = pos (worth_in (power_worths k) q)

  size-at : (q i : ℕ) → i ≤ k → q ≡ i + 1 → worth_in (power_worths k) q ≡ 2 ^ i
  size-at q i l e = ap (worth_in (power_worths k)) e ∙ worth-power k i l

  bits-total : (n m : ℕ) → m ≤ k → total size (bit_states n m) ≡ pos (n % 2 ^ m)
  bits-total n zero l = ap pos (sym (no_bits n))
  bits-total n (suc m) l =
      let split = ap (λ qs. total size (filter (bit_of n) qs)) (range_next 1 m) ∙ ap (total size) (filter-append (bit_of n) (range_with_len 1 m) ((1 + m) ∷ [])) ∙ total-append size (bit_states n m) (filter (bit_of n) ((1 + m) ∷ [])) in
      let rest = bits-total n m (omega (arith, l)) in
      let last : total size (filter (bit_of n) ((1 + m) ∷ [])) ≡ pos (if has_bit n m then 2 ^ m else 0) = one (has_bit n (1 + m - 1)) ∙ ap (λ i. pos (if has_bit n i then 2 ^ m else 0)) (let e : 1 + m - 1 ≡ m = omega arith in e) in
      let bits = more_bits n m in
      let same = ap (λ j. n % 2 ^ j) (let e : m + 1 ≡ suc m = omega arith in e) in
      omega (arith, ints, split, rest, last, bits, same)
    where
      one : (b : Bool) → total size (if b then ((1 + m) ∷ []) else []) ≡ pos (if b then 2 ^ m else 0)
      one true = let at = size-at (1 + m) m (omega (arith, l)) (omega arith) in omega (arith, ints, at)
      one false = refl

  spare-none : (n : ℕ) → total size (replicate n 0) ≡ pos 0
  spare-none zero = refl
  spare-none (suc n) = let none : size 0 ≡ pos 0 = refl in let rest = spare-none n in omega (arith, ints, none, rest)

-- the helpers stand for 2^k - c agents
pub helpers-total : (bound : ℤ) (k spare : ℕ) → enough_for bound ≤ 2 ^ k → total (λ q. pos (worth_in (power_worths k) q)) (all_offset_helpers bound k spare) ≡ (pos (2 ^ k) -ℤ pos (enough_for bound))
helpers-total bound k spare l =
    let n = 2 ^ k - enough_for bound in
    let some = enough-some bound in
    let below : n < 2 ^ k = omega (arith, l, some, some_power k) in
    let both = total-append (size k) (offset_helpers bound k) (replicate spare 0) in
    let bits = bits-total k n k (omega arith) in
    let all = all_bits n k below in
    let more = spare-none k spare in
    omega (arith, ints, both, bits, all, more, l)
  where
    enough-some : (a : ℤ) → 1 ≤ enough_for a
    enough-some (pos zero) = omega arith
    enough-some (pos (suc n)) = omega arith
    enough-some (negsuc n) = omega arith

-- none is in 2^k
pub helpers-low : (bound : ℤ) (k spare : ℕ) → All (λ q. q ≤ k) (all_offset_helpers bound k spare)
helpers-low bound k spare =
    All-append (λ q. q ≤ k) (offset_helpers bound k) (replicate spare 0)
    (All-filter (bit_of (2 ^ k - enough_for bound)) (λ q. q ≤ k) (range_with_len 1 k) (all_range (λ q. q ≤ k) 1 k (λ q a b. omega arith)))
    (All-replicate (λ q. q ≤ k) spare 0 (omega arith))

few-kept : (test : ℕ → Bool) (a m : ℕ) → length (filter test (range_with_len a m)) ≤ m
few-kept test a m = omega (arith, length-filter test (range_with_len a m), count_by-le-length test (range_with_len a m), length-range_with_len a m)

pub bits-most : (n k : ℕ) → length (bit_states n k) ≤ k
bits-most n k = few-kept (bit_of n) 1 k

pub helpers-most : (bound : ℤ) (k : ℕ) → offset_helper_count bound k ≤ k
helpers-most bound k = bits-most (2 ^ k - enough_for bound) k

-- those of the states before q
abbrev pub counted_before : ℕ → ℕ → ℕ
counted_before n q = length (bit_states n (q - 1))

pub counted-most : (n q : ℕ) → counted_before n q ≤ q - 1
counted-most n q = bits-most n (q - 1)

pub counted-more : (n q : ℕ) → 1 ≤ q → counted_before n (q + 1) ≡ counted_before n q + (if has_bit n (q - 1) then 1 else 0)
counted-more n q some =
    let j = q - 1 in
    let next : q + 1 - 1 ≡ suc j = omega (arith, some) in
    let here : 1 + j ≡ q = omega (arith, some) in
    ap (λ m. length (filter (bit_of n) (range_with_len 1 m))) next
    ∙ ap (λ qs. length (filter (bit_of n) qs)) (range_next 1 j ∙ ap (λ z. range_with_len 1 j ++ z ∷ []) here)
    ∙ ap length (filter-append (bit_of n) (range_with_len 1 j) (q ∷ []))
    ∙ length-append (filter (bit_of n) (range_with_len 1 j)) (filter (bit_of n) (q ∷ []))
    ∙ ap (λ m. counted_before n q + m) (last (has_bit n (q - 1)))
  where
    last : (b : Bool) → length (if b then (q ∷ []) else []) ≡ (if b then 1 else 0)
    last true = refl
    last false = refl

-- ---- without an offset

says-neg : (n : ℕ) → says_enough (neg_ℤ (pos n)) ≡ true
says-neg zero = refl
says-neg (suc n) = refl

enough-neg : (n : ℕ) → enough_for (neg_ℤ (pos n)) ≡ n + 1
enough-neg zero = refl
enough-neg (suc n) = let e : n + 2 ≡ suc n + 1 = omega arith in e

bound-neg : (k : ℕ) → flock_bound k ≡ neg_ℤ (pos (2 ^ k - 1))
bound-neg k = let e = some_power k in omega (arith, ints, e)

flock-says : (k : ℕ) → says_enough (flock_bound k) ≡ true
flock-says k = ap says_enough (bound-neg k) ∙ says-neg (2 ^ k - 1)

flock-enough : (k : ℕ) → enough_for (flock_bound k) ≡ 2 ^ k
flock-enough k = let e = ap enough_for (bound-neg k) ∙ enough-neg (2 ^ k - 1) in let some = some_power k in omega (arith, e, some)

filter-none : (test : ℕ → Bool) (qs : List ℕ) → ((q : ℕ) → test q ≡ false) → filter test qs ≡ []
filter-none test [] f = refl
filter-none test (q ∷ qs) f = let here = f q in rw here (filter-none test qs f)

bit-none : (i : ℕ) → has_bit 0 i ≡ false
bit-none i = lt-leb (2 ^ i) (0 % 2 ^ (i + 1)) (let none = all_bits 0 (i + 1) (some_power (i + 1)) in let some = some_power i in omega (arith, none, some))

flock-helpers : (k : ℕ) → all_offset_helpers (flock_bound k) k 0 ≡ []
flock-helpers k =
    let none : 2 ^ k - enough_for (flock_bound k) ≡ 0 = (let e = flock-enough k in omega (arith, e)) in
    append-nil (offset_helpers (flock_bound k) k)
    ∙ ap (λ n. filter (bit_of n) (range_with_len 1 k)) none
    ∙ filter-none (bit_of 0) (range_with_len 1 k) (λ q. bit-none (q - 1))

pub flock-leaf : (coefs : List ℤ) (k : ℕ) → offset_leaf_of coefs (flock_bound k) k 0 ≡ flock_leaf_of coefs k
flock-leaf coefs k =
    ap (λ says. flock_leaf_with coefs says (enough_for (flock_bound k)) k (all_offset_helpers (flock_bound k) k 0)) (flock-says k)
    ∙ ap (λ c. flock_leaf_with coefs true c k (all_offset_helpers (flock_bound k) k 0)) (flock-enough k)
    ∙ ap (flock_leaf_with coefs true (2 ^ k) k) (flock-helpers k)

pub flock-room : (k : ℕ) → length (offset_helpers (flock_bound k) k) ≡ 0
flock-room k = ap length (sym (append-nil (offset_helpers (flock_bound k) k)) ∙ flock-helpers k)

pub flock-offset : (coefs : List ℤ) (k : ℕ) → IsFlock coefs k → IsOffset coefs (flock_bound k) k
flock-offset coefs k is = record {
  sum = flock-sum coefs k is;
  are = subst (λ says. list_all (is_counted says (enough_for (flock_bound k))) coefs ≡ true) (sym (flock-says k)) (flock-are (enough_for (flock_bound k)) coefs is.are);
  high = is.high;
  within = (let e = flock-enough k in omega (arith, e));
}
