-- What follows for states whose worths are a chain: which are worth more, and what two are worth together.
use Rattle.std.proofs.Common.{[], ◌∷◌, ◌≡◌, ◌⊎◌, ◌∙◌, inl, inr, ℕ, zero, suc, ◌+◌, ◌-◌, ◌^◌, ◌<◌, ◌≤◌, Bool, true, false, List, refl, ap, zero-add, arith}
use Rattle.std.specs.Prelude.{All, ℤ, pos, ◌+ℤ◌, ◌-ℤ◌, if◌then◌else◌, nat_lt}
use Rattle.std.specs.List.{range_with_len}
use Rattle.std.proofs.Math.Pow.{pow-lt}
use Rattle.std.proofs.lemmas.Int.{ints}
use Rattle.std.proofs.lemmas.Bool.{cases_lt, lt-ltb, le-ltb}
use Rattle.std.proofs.lemmas.List.Elements.{All-head, All-tail}
use Rattle.base_laws.proofs.Ranges.{range_next}
use Rattle.cert_base.specs.WeightedSums.{total}
use Rattle.comp_trees.proofs.HelperSums.{total-append}
use Rattle.comp_trees.proofs.Bits.{double, some_power, power-le}
use Rattle.comp_flock.specs.CountLeaf.{worth_in}
use Rattle.comp_flock.specs.CountProof.{is_low, kept_worth, own_worth}
use Rattle.comp_flock.specs.Covered.{IsNext, IsChain}

-- a test by order that fails
pub not_less : (a b : ℕ) → b ≤ a → nat_lt a b ≡ false
not_less a b l = le-ltb a b l

-- the sum over n powers, where those from o on count for nothing
powers-total : (f : ℕ → ℤ) (n : ℕ) → ((i : ℕ) → i < n → f (1 + i) ≡ pos (2 ^ i)) → total f (range_with_len 1 n) ≡ (pos (2 ^ n) -ℤ pos 1)
powers-total f zero at = refl
powers-total f (suc n) at =
    let split = ap (total f) (range_next 1 n) ∙ total-append f (range_with_len 1 n) ((1 + n) ∷ []) in
    let rest = powers-total f n (λ i l. at i (omega (arith, l))) in
    let here = at n (omega arith) in
    let twice = double n in
    let same = ap (λ m. 2 ^ m) (let e : n + 1 ≡ suc n = omega arith in e) in
    omega (arith, ints, split, rest, here, twice, same)

later-none : (f : ℕ → ℤ) (o m : ℕ) → ((i : ℕ) → o ≤ i → i < o + m → f (1 + i) ≡ pos 0) → total f (range_with_len (1 + o) m) ≡ pos 0
later-none f o zero at = refl
later-none f o (suc m) at =
    let rest = later-none f (o + 1) m (λ i l n. at i (omega (arith, l)) (omega (arith, n))) in
    let here = at o (omega arith) (omega arith) in
    let same : total f (range_with_len (1 + o + 1) m) ≡ total f (range_with_len (1 + (o + 1)) m) = ap (λ a. total f (range_with_len a m)) (let e : 1 + o + 1 ≡ 1 + (o + 1) = omega arith in e) in
    omega (arith, ints, rest, here, same)

pub total-split : (f : ℕ → ℤ) (a n m : ℕ) → total f (range_with_len a (n + m)) ≡ (total f (range_with_len a n) +ℤ total f (range_with_len (a + n) m))
total-split f a zero m =
    let same : total f (range_with_len a (zero + m)) ≡ total f (range_with_len (a + zero) m) = ap (λ n. total f (range_with_len a n)) (zero-add m) ∙ ap (λ b. total f (range_with_len b m)) (let e : a ≡ a + zero = omega arith in e) in
    omega (arith, ints, same)
total-split f a (suc n) m =
    let rest = total-split f (a + 1) n m in
    let count = ap (λ n. total f (range_with_len a n)) (let e : suc n + m ≡ suc (n + m) = omega arith in e) in
    let place = ap (λ b. total f (range_with_len b m)) (let e : a + 1 + n ≡ a + suc n = omega arith in e) in
    omega (arith, ints, rest, count, place)

-- values that agree on all items
pub total-where : (f g : ℕ → ℤ) (qs : List ℕ) → All (λ q. f q ≡ g q) qs → total f qs ≡ total g qs
total-where f g [] all = refl
total-where f g (q ∷ qs) all =
    let here = All-head (λ q. f q ≡ g q) q qs all in
    let rest = total-where f g qs (All-tail (λ q. f q ≡ g q) q qs all) in
    omega (arith, ints, here, rest)

module _ (ws : List ℕ) (c top k : ℕ) (is : IsChain ws c top k) where
  abbrev w : ℕ → ℕ
  w q = worth_in ws q

  pub power-at : (i : ℕ) → i ≤ top → w (1 + i) ≡ 2 ^ i
  power-at i l = ap w (let e : 1 + i ≡ i + 1 = omega arith in e) ∙ is.powers i l

  pub step-up : (q : ℕ) → q ≤ k → w q < w (q + 1)
  step-up zero l = let none = is.nothing in let one = is.powers 0 (omega arith) in omega (arith, none, one)
  step-up (suc i) l = go (cases_lt i top)
    where
      go : (i < top) ⊎ (top ≤ i) → w (suc i) < w (suc i + 1)
      go (inl m) =
          let here = ap w (let e : suc i ≡ 1 + i = omega arith in e) ∙ power-at i (omega (arith, m)) in
          let next = ap w (let e : suc i + 1 ≡ i + 1 + 1 = omega arith in e) ∙ is.powers (i + 1) (omega (arith, m)) in
          let twice = double i in
          let some = some_power i in
          omega (arith, here, next, twice, some)
      go (inr m) = let s = is.steps (suc i) (omega (arith, m)) l in let next = s.next in let some = some_power s.place in omega (arith, next, some)

  pub rising : (p q : ℕ) → p < q → q ≤ k + 1 → w p < w q
  rising p zero l m = absurd (omega (arith, l))
  rising p (suc q) l m = go (cases_lt p q) (λ n. rising p q n (omega (arith, m)))
    where
      up : w q < w (suc q)
      up = let s = step-up q (omega (arith, m)) in let same = ap w (let e : q + 1 ≡ suc q = omega arith in e) in omega (arith, s, same)

      go : (p < q) ⊎ (q ≤ p) → (p < q → w p < w q) → w p < w (suc q)
      go (inl n) rest = let r = rest n in omega (arith, r, up)
      go (inr n) rest = let same = ap w (let e : p ≡ q = omega (arith, l, n) in e) in omega (arith, up, same)

  pub no-more : (q : ℕ) → q ≤ k + 1 → w q ≤ c
  no-more q l = go (cases_lt q (k + 1))
    where
      go : (q < k + 1) ⊎ (k + 1 ≤ q) → w q ≤ c
      go (inl m) = let r = rising q (k + 1) m (omega arith) in let e = is.last in omega (arith, r, e)
      go (inr m) = let e = ap w (let f : q ≡ k + 1 = omega (arith, l, m) in f) ∙ is.last in omega (arith, e)

  pub not-full : (q : ℕ) → q ≤ k → w q < c
  not-full q l = let r = rising q (k + 1) (omega (arith, l)) (omega arith) in let e = is.last in omega (arith, r, e)

  -- no prefix is worth less than 2^top
  pub high : (p : ℕ) → top < p → p ≤ k + 1 → 2 ^ top ≤ w p
  high p l m = go (cases_lt (top + 1) p)
    where
      one : w (top + 1) ≡ 2 ^ top
      one = is.powers top (omega arith)

      go : (top + 1 < p) ⊎ (p ≤ top + 1) → 2 ^ top ≤ w p
      go (inl n) = let r = rising (top + 1) p n m in omega (arith, r, one)
      go (inr n) = let e = ap w (let f : p ≡ top + 1 = omega (arith, l, n) in f) in omega (arith, e, one)

  -- two agents with the same power are worth as much as the next state
  pub twice-worth : (q : ℕ) → 1 ≤ q → q ≤ top → w q + w q ≡ w (q + 1)
  twice-worth q l m =
      let i = q - 1 in
      let here = ap w (let e : q ≡ 1 + i = omega (arith, l) in e) ∙ power-at i (omega (arith, m)) in
      let next = ap w (let e : q + 1 ≡ i + 1 + 1 = omega (arith, l) in e) ∙ is.powers (i + 1) (omega (arith, l, m)) in
      let twice = double i in
      omega (arith, here, next, twice)

  -- with what a prefix needs, or more, it meets
  pub far : (p z : ℕ) → top < p → p ≤ k → z ≤ k + 1 → w (p + 1) < w p + w z → c ≤ w p + w z
  far p z l m n more = go z n more (cases_lt top z)
    where
      s : IsNext c top (w p) (w (p + 1))
      s = is.steps p l m

      go : (z : ℕ) → z ≤ k + 1 → w (p + 1) < w p + w z → (top < z) ⊎ (z ≤ top) → c ≤ w p + w z
      go z n more (inl o) = let a = high p l (omega (arith, m)) in let b = high z o n in let most = is.below in let twice = double top in omega (arith, a, b, most, twice)
      go zero n more (inr o) = let none = is.nothing in let up = step-up p m in absurd (omega (arith, none, up, more))
      go (suc i) n more (inr o) = by (cases_lt s.place i)
        where
          here : w (suc i) ≡ 2 ^ i
          here = ap w (let e : suc i ≡ 1 + i = omega arith in e) ∙ power-at i (omega (arith, o))

          by : (s.place < i) ⊎ (i ≤ s.place) → c ≤ w p + w (suc i)
          by (inl r) = let a = power-le (s.place + 1) i (omega (arith, r)) in let twice = double s.place in let next = s.next in let most = s.most in omega (arith, a, twice, next, most, here)
          by (inr r) = let a = power-le i s.place r in let next = s.next in absurd (omega (arith, a, next, here, more))

  -- what is worth less is a power below 2^top
  pub low-lesser : (p z : ℕ) → top < p → p ≤ k → z ≤ k + 1 → w p + w z < w (p + 1) → z ≤ top
  low-lesser p z l m n less = go (cases_lt top z)
    where
      s : IsNext c top (w p) (w (p + 1))
      s = is.steps p l m

      go : (top < z) ⊎ (z ≤ top) → z ≤ top
      go (inl o) = let b = high z o n in let next = s.next in let a = power-le s.place top (let low = s.low in omega (arith, low)) in absurd (omega (arith, b, next, a, less))
      go (inr o) = o

  pub own-total : total (own_worth ws) (range_with_len 1 top) ≡ (pos (2 ^ top) -ℤ pos 1)
  own-total = powers-total (own_worth ws) top (λ i l. ap pos (power-at i (omega (arith, l))))

  pub kept-total : (p : ℕ) → top < p → p ≤ k → total (kept_worth ws p) (range_with_len 1 top) ≡ ((pos (w (p + 1)) -ℤ pos (w p)) -ℤ pos 1)
  kept-total p l m =
      let low = s.low in
      let next = s.next in
      let count = ap (λ n. total (kept_worth ws p) (range_with_len 1 n)) (let e : top ≡ s.place + (top - s.place) = omega (arith, low) in e) in
      let split = total-split (kept_worth ws p) 1 s.place (top - s.place) in
      let first = powers-total (kept_worth ws p) s.place (λ i n. early i n) in
      let second = later-none (kept_worth ws p) s.place (top - s.place) (λ i n o. late i n (omega (arith, o, low))) in
      omega (arith, ints, count, split, first, second, next)
    where
      s : IsNext c top (w p) (w (p + 1))
      s = is.steps p l m

      early : (i : ℕ) → i < s.place → kept_worth ws p (1 + i) ≡ pos (2 ^ i)
      early i n =
          let here = power-at i (let low = s.low in omega (arith, low, n)) in
          let less = pow-lt n in
          let test : is_low ws p (1 + i) ≡ true = lt-ltb (w p + w (1 + i)) (w (p + 1)) (let next = s.next in omega (arith, here, less, next)) in
          ap (λ (b : Bool). if b then pos (w (1 + i)) else pos 0) test ∙ ap pos here

      late : (i : ℕ) → s.place ≤ i → i < top → kept_worth ws p (1 + i) ≡ pos 0
      late i n o =
          let here = power-at i (omega (arith, o)) in
          let more = power-le s.place i n in
          let test : is_low ws p (1 + i) ≡ false = not_less (w p + w (1 + i)) (w (p + 1)) (let next = s.next in omega (arith, here, more, next)) in
          ap (λ (b : Bool). if b then pos (w (1 + i)) else pos 0) test
