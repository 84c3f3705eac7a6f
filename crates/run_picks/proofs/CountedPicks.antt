-- How many words pick a pair: the numbers below a product are quotients with rests, and each rest is left equally often.
use Rattle.std.proofs.Common.{◌≡◌, ◌≢◌, ◌⊎◌, inl, inr, ℕ, zero, suc, ◌+◌, ◌-◌, ◌*◌, ◌/◌, ◌%◌, ◌^◌, ◌<◌, ◌≤◌, Bool, true, false, cond, ◌==◌, ◌&&◌, refl, ap, sym, subst, ◌∙◌, arith}
use Rattle.std.specs.Prelude.{nat_lt, nat_le, if◌then◌else◌}
use Rattle.std.proofs.lemmas.Bool.{cases_lt, lt-ltb, le-ltb, le-leb, lt-leb, ne_eqb, eq-eqb}
use Rattle.std.proofs.lemmas.Bool.Decides.{eqb_tells}
use Rattle.std.proofs.lemmas.Nat.{mod-mul-add, div-mul-add, mul-le}
use Rattle.run_picks.specs.Picks.{pick_of}
use Rattle.run_picks.specs.UniformPicks.{count_below, is_pick, words_of_pair, share, place_beside, ArePicksUniform}

-- tests that agree below n count the same
count_same : (s t : ℕ → Bool) (n : ℕ) → ((k : ℕ) → k < n → s k ≡ t k) → count_below s n ≡ count_below t n
count_same s t zero same = refl
count_same s t (suc n) same =
    ap (λ c. c + cond (s n) 1 0) (count_same s t n (λ k l. same k (omega (arith, l)))) ∙ ap (λ b. count_below t n + cond b 1 0) (same n (omega arith))

-- first below a, then b more
count_add : (t : ℕ → Bool) (a b : ℕ) → count_below t (a + b) ≡ count_below t a + count_below (λ k. t (a + k)) b
count_add t a zero =
    ap (count_below t) (let e : a + 0 ≡ a = omega arith in e) ∙ (let e : count_below t a ≡ count_below t a + 0 = omega arith in e)
count_add t a (suc b) =
    ap (count_below t) (let e : a + suc b ≡ suc (a + b) = omega arith in e)
    ∙ ap (λ c. c + cond (t (a + b)) 1 0) (count_add t a b)
    ∙ (let e : count_below t a + count_below (λ k. t (a + k)) b + cond (t (a + b)) 1 0 ≡ count_below t a + (count_below (λ k. t (a + k)) b + cond (t (a + b)) 1 0) = omega arith in e)

none : (n : ℕ) → count_below (λ k. false) n ≡ 0
none zero = refl
none (suc n) = ap (λ c. c + 0) (none n)

all : (n : ℕ) → count_below (λ k. true) n ≡ n
all zero = refl
all (suc n) = ap (λ c. c + 1) (all n) ∙ (let e : n + 1 ≡ suc n = omega arith in e)

-- the number itself is counted once
one : (r n : ℕ) → count_below (λ k. k == r) n ≡ cond (nat_lt r n) 1 0
one r zero = ap (λ b. cond b 1 0) (sym (le-ltb r 0 (omega arith)))
one r (suc n) = ap (λ c. c + cond (n == r) 1 0) (one r n) ∙ go (eqb_tells n r)
  where
    go : ((n == r ≡ true) × (n ≡ r)) ⊎ ((n == r ≡ false) × (n ≢ r)) → cond (nat_lt r n) 1 0 + cond (n == r) 1 0 ≡ cond (nat_lt r (suc n)) 1 0
    go (inl same) =
        let e = same.1 in
        ap (λ b. cond b 1 0 + cond (n == r) 1 0) (le-ltb r n (omega (arith, e)))
        ∙ ap (λ b. 0 + cond b 1 0) same.0
        ∙ ap (λ b. cond b 1 0) (sym (lt-ltb r (suc n) (omega (arith, e))))
    go (inr other) = ap (λ b. cond (nat_lt r n) 1 0 + cond b 1 0) other.0 ∙ sides other.1 (cases_lt r n)
      where
        sides : n ≢ r → (r < n) ⊎ (n ≤ r) → cond (nat_lt r n) 1 0 + 0 ≡ cond (nat_lt r (suc n)) 1 0
        sides ne (inl l) = ap (λ b. cond b 1 0 + 0) (lt-ltb r n l) ∙ ap (λ b. cond b 1 0) (sym (lt-ltb r (suc n) (omega (arith, l))))
        sides ne (inr l) = ap (λ b. cond b 1 0 + 0) (le-ltb r n l) ∙ ap (λ b. cond b 1 0) (sym (le-ltb r (suc n) (omega (arith, l, ne))))

-- a test of the quotient and one of the rest, below h * m: each quotient that passes with each rest that does
count_both : (p q : ℕ → Bool) (m h : ℕ) → count_below (λ w. p (w / m) && q (w % m)) (h * m) ≡ count_below p h * count_below q m
count_both p q m zero =
    ap (count_below (λ w. p (w / m) && q (w % m))) (let e : 0 * m ≡ 0 = omega arith in e) ∙ (let e : 0 ≡ 0 * count_below q m = omega arith in e)
count_both p q m (suc h) =
    ap (count_below both) (let e : suc h * m ≡ h * m + m = omega arith in e)
    ∙ count_add both (h * m) m
    ∙ ap (λ c. c + count_below (λ k. both (h * m + k)) m) (count_both p q m h)
    ∙ ap (λ c. count_below p h * count_below q m + c) (count_same (λ k. both (h * m + k)) (λ k. p h && q k) m (λ k l. parts k l))
    ∙ last (p h)
  where
    both : ℕ → Bool
    both w = p (w / m) && q (w % m)

    parts : (k : ℕ) → k < m → both (h * m + k) ≡ (p h && q k)
    parts k l = ap (λ x. p x && q ((h * m + k) % m)) (div-mul-add h m k l) ∙ ap (λ x. p h && q x) (mod-mul-add h m k l)

    last : (b : Bool) → count_below p h * count_below q m + count_below (λ k. b && q k) m ≡ (count_below p h + cond b 1 0) * count_below q m
    last true = let e : count_below p h * count_below q m + count_below q m ≡ (count_below p h + 1) * count_below q m = omega arith in e
    last false = ap (λ c. count_below p h * count_below q m + c) (none m) ∙ (let e : count_below p h * count_below q m + 0 ≡ (count_below p h + 0) * count_below q m = omega arith in e)

-- how many numbers below n leave the rest r
rests : (n m r : ℕ) → r < m → count_below (λ k. k % m == r) n ≡ n / m + cond (nat_lt r (n % m)) 1 0
rests n m r l =
    ap (count_below rest) (let e : n ≡ n / m * m + n % m = omega arith in e)
    ∙ count_add rest (n / m * m) (n % m)
    ∙ ap (λ c. c + count_below (λ k. rest (n / m * m + k)) (n % m)) whole
    ∙ ap (λ c. n / m + c) (count_same (λ k. rest (n / m * m + k)) (λ k. k == r) (n % m) (λ k low. ap (λ x. x == r) (mod-mul-add (n / m) m k (omega (arith, low, l)))) ∙ one r (n % m))
  where
    rest : ℕ → Bool
    rest k = k % m == r

    whole : count_below rest (n / m * m) ≡ n / m
    whole =
        count_both (λ k. true) (λ k. k == r) m (n / m)
        ∙ ap (λ c. c * count_below (λ k. k == r) m) (all (n / m))
        ∙ ap (λ c. n / m * c) (one r m ∙ ap (λ b. cond b 1 0) (lt-ltb r m l))
        ∙ (let e : n / m * 1 ≡ n / m = omega arith in e)

module _ (n a b : ℕ) (many : 2 ≤ n) (apart : a ≢ b) (a_in : a < n) (b_in : b < n) where
  beside_in : place_beside a b < n - 1
  beside_in = go (cases_lt a b)
    where
      go : (a < b) ⊎ (b ≤ a) → place_beside a b < n - 1
      go (inl l) = subst (λ t. cond t (b - 1) b < n - 1) (sym (lt-ltb a b l)) (omega (arith, l, b_in))
      go (inr l) = subst (λ t. cond t (b - 1) b < n - 1) (sym (le-ltb a b l)) (omega (arith, l, a_in, apart))

  -- the second number of a pick is b exactly if the place is that of b beside a
  second : (place : ℕ) → ((if nat_le a place then place + 1 else place) == b) ≡ (place == place_beside a b)
  second place = go (cases_lt place a) (cases_lt a b)
    where
      go : (place < a) ⊎ (a ≤ place) → (a < b) ⊎ (b ≤ a) → ((if nat_le a place then place + 1 else place) == b) ≡ (place == place_beside a b)
      go (inl low) (inl l) = ap (λ x. (if x then place + 1 else place) == b) (lt-leb a place low) ∙ ne_eqb place b (λ e. omega (arith, low, l, e)) ∙ sym (ap (λ x. place == cond x (b - 1) b) (lt-ltb a b l) ∙ ne_eqb place (b - 1) (λ e. omega (arith, low, l, e)))
      go (inl low) (inr l) = ap (λ x. (if x then place + 1 else place) == b) (lt-leb a place low) ∙ sym (ap (λ x. place == cond x (b - 1) b) (le-ltb a b l))
      go (inr high) (inl l) = ap (λ x. (if x then place + 1 else place) == b) (le-leb a place high) ∙ shifted (eqb_tells (place + 1) b) ∙ sym (ap (λ x. place == cond x (b - 1) b) (lt-ltb a b l))
        where
          shifted : ((place + 1 == b ≡ true) × (place + 1 ≡ b)) ⊎ ((place + 1 == b ≡ false) × (place + 1 ≢ b)) → (place + 1 == b) ≡ (place == (b - 1))
          shifted (inl same) = let e = same.1 in same.0 ∙ sym (eq-eqb place (b - 1) (omega (arith, e)))
          shifted (inr other) = let ne = other.1 in other.0 ∙ sym (ne_eqb place (b - 1) (λ e. ne (omega (arith, e, l))))
      go (inr high) (inr l) = ap (λ x. (if x then place + 1 else place) == b) (le-leb a place high) ∙ ne_eqb (place + 1) b (λ e. omega (arith, high, l, e)) ∙ sym (ap (λ x. place == cond x (b - 1) b) (le-ltb a b l) ∙ ne_eqb place b (λ e. apart (omega (arith, high, l, e))))

  -- whether a word picks the pair, by its halves
  by_halves : (word : ℕ) → is_pick n a b word ≡ ((word / 2 ^ 32 % n == a) && (word % 2 ^ 32 % (n - 1) == place_beside a b))
  by_halves word = go (eqb_tells (word / 2 ^ 32 % n) a)
    where
      go : ((word / 2 ^ 32 % n == a ≡ true) × (word / 2 ^ 32 % n ≡ a)) ⊎ ((word / 2 ^ 32 % n == a ≡ false) × (word / 2 ^ 32 % n ≢ a))
          → is_pick n a b word ≡ ((word / 2 ^ 32 % n == a) && (word % 2 ^ 32 % (n - 1) == place_beside a b))
      go (inl same) = ap (λ x. (word / 2 ^ 32 % n == a) && ((if nat_le x (word % 2 ^ 32 % (n - 1)) then word % 2 ^ 32 % (n - 1) + 1 else word % 2 ^ 32 % (n - 1)) == b)) same.1 ∙ ap (λ t. (word / 2 ^ 32 % n == a) && t) (second (word % 2 ^ 32 % (n - 1)))
      go (inr other) = ap (λ t. t && ((pick_of n word).1 == b)) other.0 ∙ sym (ap (λ t. t && (word % 2 ^ 32 % (n - 1) == place_beside a b)) other.0)

  exact : words_of_pair n a b ≡ share n a * share (n - 1) (place_beside a b)
  exact =
      count_same (is_pick n a b) (λ word. (word / 2 ^ 32 % n == a) && (word % 2 ^ 32 % (n - 1) == place_beside a b)) (2 ^ 64) (λ k l. by_halves k)
      ∙ ap (count_below (λ word. (word / 2 ^ 32 % n == a) && (word % 2 ^ 32 % (n - 1) == place_beside a b))) (let e : 2 ^ 64 ≡ 2 ^ 32 * 2 ^ 32 = omega arith in e)
      ∙ count_both (λ high. high % n == a) (λ low. low % (n - 1) == place_beside a b) (2 ^ 32) (2 ^ 32)
      ∙ ap (λ c. c * count_below (λ low. low % (n - 1) == place_beside a b) (2 ^ 32)) (rests (2 ^ 32) n a a_in)
      ∙ ap (λ c. share n a * c) (rests (2 ^ 32) (n - 1) (place_beside a b) beside_in)

share_least : (m r : ℕ) → 2 ^ 32 / m ≤ share m r
share_least m r = go (nat_lt r (2 ^ 32 % m))
  where
    go : (t : Bool) → 2 ^ 32 / m ≤ 2 ^ 32 / m + cond t 1 0
    go true = omega arith
    go false = omega arith

share_most : (m r : ℕ) → share m r ≤ 2 ^ 32 / m + 1
share_most m r = go (nat_lt r (2 ^ 32 % m))
  where
    go : (t : Bool) → 2 ^ 32 / m + cond t 1 0 ≤ 2 ^ 32 / m + 1
    go true = omega arith
    go false = omega arith

pub uniform : ArePicksUniform
uniform =
    record {
      exact = exact;
      least = λ n a b many apart a_in b_in. subst (λ c. 2 ^ 32 / n * (2 ^ 32 / (n - 1)) ≤ c) (sym (exact n a b many apart a_in b_in))
          (mul-le (2 ^ 32 / n) (2 ^ 32 / (n - 1)) (share n a) (share (n - 1) (place_beside a b)) (share_least n a) (share_least (n - 1) (place_beside a b)));
      most = λ n a b many apart a_in b_in. subst (λ c. c ≤ (2 ^ 32 / n + 1) * (2 ^ 32 / (n - 1) + 1)) (sym (exact n a b many apart a_in b_in))
          (mul-le (share n a) (share (n - 1) (place_beside a b)) (2 ^ 32 / n + 1) (2 ^ 32 / (n - 1) + 1) (share_most n a) (share_most (n - 1) (place_beside a b)));
    }
