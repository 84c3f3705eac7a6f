-- The pairs of different agents, and the runs of them.
use Rattle.std.proofs.Common.{◌≡◌, ◌≢◌, ◌⊎◌, ◌↔◌, inl, inr, ℕ, zero, suc, ◌+◌, ◌-◌, ◌*◌, ◌^◌, ◌<◌, ◌≤◌, Bool, true, false, not, cond, ◌==◌, List, [], ◌∷◌, length, get_or, map, refl, ap, sym, ◌∙◌, arith}
use Rattle.std.specs.Prelude.{All, AllPairs, Contains, flat_map, sum_by}
use Rattle.std.specs.List.{range_with_len}
use Rattle.std.proofs.lemmas.Bool.{eqb-false}
use Rattle.std.proofs.lemmas.Bool.Decides.{eqb_tells}
use Rattle.std.proofs.lemmas.List.Elements.{All-map, All-filter, filter_passes}
use Rattle.std.proofs.lemmas.List.Kept.{AllPairs-filter}
use Rattle.std.proofs.lemmas.List.FromFn.{length-range_with_len, get_or-range_with_len}
use Rattle.std.proofs.lemmas.List.Sums.{length-filter, sum_by-cons}
use Rattle.base_laws.proofs.Ranges.{all_range}
use Rattle.base_laws.proofs.Lists.{has_map}
use Rattle.theory_random.specs.RandomMeetings.{pairs, runs}
use Rattle.theory_random.specs.Laws.{IsPair, AreUniform}
use Rattle.theory_random.proofs.Sums.{sum_map, length_lists}
use Rattle.theory_random.proofs.Listed.{all_flat, has_flat, has_filter, at_contained, sum_flat, once_flat, once_lists, IsOf, all_of, has_of}

different : (a b : ℕ) → not (a == b) ≡ true → a ≢ b
different a b h e = go (a == b) h refl
  where
    go : (t : Bool) → not t ≡ true → a == b ≡ t → ⊥
    go true i f = cc
    go false i f = eqb-false a b f e

passes : (a b : ℕ) → a ≢ b → not (a == b) ≡ true
passes a b ne = go (eqb_tells a b)
  where
    go : ((a == b ≡ true) × (a ≡ b)) ⊎ ((a == b ≡ false) × (a ≢ b)) → not (a == b) ≡ true
    go (inl same) = absurd (ne same.1)
    go (inr other) = ap not other.0

pub all_pairs : (n : ℕ) → All (IsPair n) (pairs n)
all_pairs n k d l =
    let ne = filter_passes (λ (p : ℕ × ℕ). not (p.0 == p.1)) (flat_map (λ a. map (λ b. (a, b)) (range_with_len 0 n)) (range_with_len 0 n)) k d l in
    let low = All-filter (λ (p : ℕ × ℕ). not (p.0 == p.1)) (λ (p : ℕ × ℕ). (p.0 < n) × (p.1 < n)) (flat_map (λ a. map (λ b. (a, b)) (range_with_len 0 n)) (range_with_len 0 n)) all k d l in
    (different (get_or (pairs n) k d).0 (get_or (pairs n) k d).1 ne, low.0, low.1)
  where
    all : All (λ (p : ℕ × ℕ). (p.0 < n) × (p.1 < n)) (flat_map (λ a. map (λ b. (a, b)) (range_with_len 0 n)) (range_with_len 0 n))
    all =
        all_flat (λ (p : ℕ × ℕ). (p.0 < n) × (p.1 < n)) (λ a. map (λ b. (a, b)) (range_with_len 0 n)) (range_with_len 0 n)
        (all_range (λ a. All (λ (p : ℕ × ℕ). (p.0 < n) × (p.1 < n)) (map (λ b. (a, b)) (range_with_len 0 n))) 0 n
        (λ a l m. All-map (λ (p : ℕ × ℕ). (p.0 < n) × (p.1 < n)) (λ b. (a, b)) (range_with_len 0 n)
        (all_range (λ b. (a < n) × (b < n)) 0 n (λ b i j. (omega (arith, m), omega (arith, j))))))

range_has : (n q : ℕ) → q < n → Contains (range_with_len 0 n) q
range_has n q m =
    (q, (let e : q < length (range_with_len 0 n) = omega (arith, m, length-range_with_len 0 n) in e), get_or-range_with_len 0 n q q m ∙ (let e : 0 + q ≡ q = omega arith in e))

pub has_pair : (n : ℕ) (p : ℕ × ℕ) → IsPair n p → Contains (pairs n) p
has_pair n p h =
    has_filter (λ (q : ℕ × ℕ). not (q.0 == q.1)) (flat_map (λ a. map (λ b. (a, b)) (range_with_len 0 n)) (range_with_len 0 n)) p
    (has_flat (λ a. map (λ b. (a, b)) (range_with_len 0 n)) (range_with_len 0 n) p.0 p (range_has n p.0 h.1) (has_map (λ b. (p.0, b)) (range_with_len 0 n) p.1 (range_has n p.1 h.2)))
    (passes p.0 p.1 h.0)

pub pairs_are : (n : ℕ) (p : ℕ × ℕ) → Contains (pairs n) p ↔ IsPair n p
pairs_are n p = (at_contained (IsPair n) (pairs n) p (all_pairs n), has_pair n p)

range_once : (a n : ℕ) → AllPairs ◌≢◌ (range_with_len a n)
range_once a n i j d l m e =
    let k = length-range_with_len a n in
    let x = get_or-range_with_len a n i d (omega (arith, l, m, k)) in
    let y = get_or-range_with_len a n j d (omega (arith, m, k)) in
    let same : a + i ≡ a + j = sym x ∙ e ∙ y in
    omega (arith, same, l)

pub pairs_once : (n : ℕ) → AllPairs ◌≢◌ (pairs n)
pairs_once n =
    AllPairs-filter ◌≢◌ (λ (p : ℕ × ℕ). not (p.0 == p.1)) (flat_map (λ a. map (λ b. (a, b)) (range_with_len 0 n)) (range_with_len 0 n))
    (once_flat (λ (a b : ℕ). (a, b)) (λ a c b d e. ap (λ z. z.0) e) (λ a c b d e. ap (λ z. z.1) e) (range_with_len 0 n) (range_with_len 0 n) (range_once 0 n) (range_once 0 n))

-- ---- how many

count_outside : (a s n : ℕ) → (a < s) ⊎ (s + n ≤ a) → sum_by (λ b. cond (not (a == b)) 1 0) (range_with_len s n) ≡ n
count_outside a s zero out = refl
count_outside a s (suc n) out =
    sum_by-cons (λ b. cond (not (a == b)) 1 0) s (range_with_len (s + 1) n)
    ∙ ap (λ t. cond t 1 0 + sum_by (λ b. cond (not (a == b)) 1 0) (range_with_len (s + 1) n)) (passes a s (apart out))
    ∙ ap (λ k. 1 + k) (count_outside a (s + 1) n (further out))
    ∙ (let e : 1 + n ≡ suc n = omega arith in e)
  where
    apart : (a < s) ⊎ (s + suc n ≤ a) → a ≢ s
    apart (inl l) e = omega (arith, l, e)
    apart (inr l) e = omega (arith, l, e)

    further : (a < s) ⊎ (s + suc n ≤ a) → (a < s + 1) ⊎ (s + 1 + n ≤ a)
    further (inl l) = inl (omega (arith, l))
    further (inr l) = inr (omega (arith, l))

count_inside : (a s n : ℕ) → s ≤ a → a < s + n → suc (sum_by (λ b. cond (not (a == b)) 1 0) (range_with_len s n)) ≡ n
count_inside a s zero l m = absurd (omega (arith, l, m))
count_inside a s (suc n) l m =
    ap suc (sum_by-cons (λ b. cond (not (a == b)) 1 0) s (range_with_len (s + 1) n)) ∙ go (eqb_tells a s) (λ low. count_inside a (s + 1) n low (omega (arith, m)))
  where
    go : ((a == s ≡ true) × (a ≡ s)) ⊎ ((a == s ≡ false) × (a ≢ s)) → (s + 1 ≤ a → suc (sum_by (λ b. cond (not (a == b)) 1 0) (range_with_len (s + 1) n)) ≡ n) → suc (cond (not (a == s)) 1 0 + sum_by (λ b. cond (not (a == b)) 1 0) (range_with_len (s + 1) n)) ≡ suc n
    go (inl same) more =
        let e = same.1 in
        let rest = count_outside a (s + 1) n (inl (omega (arith, e))) in
        ap (λ t. suc (cond (not t) 1 0 + sum_by (λ b. cond (not (a == b)) 1 0) (range_with_len (s + 1) n))) same.0 ∙ omega (arith, rest)
    go (inr other) more =
        let ne = other.1 in
        let rest = more (above ne) in
        ap (λ t. suc (cond (not t) 1 0 + sum_by (λ b. cond (not (a == b)) 1 0) (range_with_len (s + 1) n))) other.0 ∙ omega (arith, rest)
      where
        above : a ≢ s → s + 1 ≤ a
        above ne = omega (arith, l, ne)

pub pair_count : (n : ℕ) → length (pairs n) ≡ n * (n - 1)
pair_count n =
    length-filter (λ (p : ℕ × ℕ). not (p.0 == p.1)) (flat_map (λ a. map (λ b. (a, b)) (range_with_len 0 n)) (range_with_len 0 n))
    ∙ sum_flat (λ (p : ℕ × ℕ). cond (not (p.0 == p.1)) 1 0) (λ a. map (λ b. (a, b)) (range_with_len 0 n)) (range_with_len 0 n)
    ∙ sum_same (λ a. sum_by (λ (p : ℕ × ℕ). cond (not (p.0 == p.1)) 1 0) (map (λ b. (a, b)) (range_with_len 0 n))) (n - 1) (range_with_len 0 n)
    (all_range (λ a. sum_by (λ (p : ℕ × ℕ). cond (not (p.0 == p.1)) 1 0) (map (λ b. (a, b)) (range_with_len 0 n)) ≡ n - 1) 0 n
    (λ a l m. sum_map (λ (p : ℕ × ℕ). cond (not (p.0 == p.1)) 1 0) (λ b. (a, b)) (range_with_len 0 n) ∙ (let h = count_inside a 0 n l m in omega (arith, h))))
    ∙ ap (λ k. k * (n - 1)) (length-range_with_len 0 n)
  where
    sum_same : (f : ℕ → ℕ) (c : ℕ) (xs : List ℕ) → All (λ x. f x ≡ c) xs → sum_by f xs ≡ length xs * c
    sum_same f c [] all = let e : 0 ≡ 0 * c = omega arith in e
    sum_same f c (x ∷ xs) all =
        let first : f x ≡ c = all 0 x (omega arith) in
        let rest = sum_same f c xs (λ k d l. all (suc k) d (omega (arith, l))) in
        sum_by-cons f x xs ∙ omega (arith, first, rest)

pub uniform : AreUniform
uniform = record {
  pairs_are = pairs_are;
  pairs_once = pairs_once;
  pair_count = pair_count;
  runs_are = λ n l run. (to n l run, from n l run);
  runs_once = λ n l. once_lists (pairs n) (pairs_once n) l;
  count = λ n l. length_lists (pairs n) l ∙ ap (λ k. k ^ l) (pair_count n);
}
  where
    to : (n l : ℕ) (run : List (ℕ × ℕ)) → Contains (runs n l) run → (length run ≡ l) × All (IsPair n) run
    to n l run c =
        let h = at_contained (IsOf (pairs n) l) (runs n l) run (all_of (pairs n) l) c in
        (h.0, λ k d i. at_contained (IsPair n) (pairs n) (get_or run k d) (all_pairs n) (h.1 k d i))

    from : (n l : ℕ) (run : List (ℕ × ℕ)) → (length run ≡ l) × All (IsPair n) run → Contains (runs n l) run
    from n l run h = has_of (pairs n) l run (h.0, λ k d i. has_pair n (get_or run k d) (h.1 k d i))
