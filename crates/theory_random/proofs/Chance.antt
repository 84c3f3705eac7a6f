-- Random runs of any process: if each configuration has a run of at most w moves to an end, how many runs have none, and
-- how long they take.
use Rattle.std.proofs.Common.{◌≡◌, ◌≢◌, ◌⊎◌, inl, inr, ℕ, zero, suc, ◌+◌, ◌-◌, ◌*◌, ◌^◌, ◌<◌, ◌≤◌, Bool, true, false, not, cond, List, [], ◌∷◌, length, refl, ap, sym, subst, ◌∙◌, arith}
use Rattle.std.specs.Prelude.{count_by, sum_by, All, Contains}
use Rattle.std.proofs.Math.Nat as nat
use Rattle.std.proofs.lemmas.Bool.{cases_lt}
use Rattle.std.proofs.lemmas.Nat.{pow-add, mul-le}
use Rattle.std.proofs.lemmas.List.Sums.{count_by-le-length}
use Rattle.std.proofs.lemmas.List.Elements.{All-head, All-tail}
use Rattle.theory_random.specs.UniformRuns.{lists_of, after_run, time}
use Rattle.theory_random.proofs.Sums.{all_in, sum_le, sum_at_most, sum_scale, sum_more, sum_below, sum_below_twice, sum_lists, length_lists}
use Rattle.theory_random.proofs.Powers.{pow_many, pow_vanishes}

module _ {A C : Type 0} (moves : List A) (make : A → C → C) (ended : C → Bool) where
  -- how many runs of l moves have not ended
  abbrev pub fails : ℕ → C → ℕ
  fails l c = count_by (λ run. not (ended (after_run make run c))) (lists_of moves l)

  -- how many moves all of them make before they end
  abbrev pub spent : ℕ → C → ℕ
  spent l c = sum_by (λ run. time make ended run c) (lists_of moves l)

  fails_next : (l : ℕ) (c : C) → fails (suc l) c ≡ sum_by (λ x. fails l (make x c)) moves
  fails_next l c = sum_lists (λ run. cond (not (ended (after_run make run c))) 1 0) (lists_of moves l) moves

  fails_all : (l : ℕ) (c : C) → fails l c ≤ length moves ^ l
  fails_all l c =
      subst (λ n. fails l c ≤ n) (length_lists moves l) (count_by-le-length (λ run. not (ended (after_run make run c))) (lists_of moves l))

  fails_first : (c : C) (b : Bool) → ended c ≡ b → fails 0 c ≡ cond (not b) 1 0
  fails_first c b e = ap (λ t. 0 + cond (not t) 1 0) e ∙ (let z : 0 + cond (not b) 1 0 ≡ cond (not b) 1 0 = omega arith in z)

  time_ended : (run : List A) (c : C) → ended c ≡ true → time make ended run c ≡ 0
  time_ended [] c e = refl
  time_ended (x ∷ run) c e = ap (λ t. cond t 0 (1 + time make ended run (make x c))) e

  spent_ended : (l : ℕ) (c : C) → ended c ≡ true → spent l c ≡ 0
  spent_ended l c e =
      let none = sum_at_most (λ run. time make ended run c) 0 (lists_of moves l) (λ run h. let z = time_ended run c e in omega (arith, z)) in
      omega (arith, none)

  spent_next : (l : ℕ) (c : C) → ended c ≡ false → spent (suc l) c ≡ sum_by (λ x. length moves ^ l + spent l (make x c)) moves
  spent_next l c e =
      sum_lists (λ run. time make ended run c) (lists_of moves l) moves
      ∙ ap (λ t. sum_by (λ x. sum_by (λ run. cond t 0 (1 + time make ended run (make x c))) (lists_of moves l)) moves) e
      ∙ ap (λ (f : A → ℕ). sum_by f moves) (λ i x. each x i)
    where
      each : (x : A) → sum_by (λ run. 1 + time make ended run (make x c)) (lists_of moves l) ≡ length moves ^ l + spent l (make x c)
      each x =
          sum_more 1 (λ run. time make ended run (make x c)) (lists_of moves l)
          ∙ ap (λ n. n + spent l (make x c)) (nat.mul-one (length (lists_of moves l)) ∙ length_lists moves l)

  -- P holds of each configuration that comes up, and what has ended stays so
  module _ (P : C → Type 0) (keeps : (x : A) → Contains moves x → (c : C) → P c → P (make x c)) (stays : (x : A) → Contains moves x → (c : C) → P c → ended c ≡ true → ended (make x c) ≡ true) where
    fails_ended : (l : ℕ) (c : C) → P c → ended c ≡ true → fails l c ≡ 0
    fails_ended zero c p e = fails_first c true e
    fails_ended (suc l) c p e =
        let none = sum_at_most (λ x. fails l (make x c)) 0 moves (λ x h. let z = fails_ended l (make x c) (keeps x h c p) (stays x h c p e) in omega (arith, z)) in
        fails_next l c ∙ omega (arith, none)

    -- the runs that have not ended took all their moves
    pub fails_spent : (l : ℕ) (c : C) → P c → fails l c * l ≤ spent l c
    fails_spent zero c p = let z : fails 0 c * 0 ≡ 0 = nat.mul-zero (fails 0 c) in omega (arith, z)
    fails_spent (suc l) c p = go (ended c) refl (λ x h. fails_spent l (make x c) (keeps x h c p))
      where
        go : (t : Bool) → ended c ≡ t → ((x : A) → Contains moves x → fails l (make x c) * l ≤ spent l (make x c)) → fails (suc l) c * suc l ≤ spent (suc l) c
        go true h before =
            let z : fails (suc l) c * suc l ≡ 0 = ap (λ n. n * suc l) (fails_ended (suc l) c p h) ∙ (let e : 0 * suc l ≡ 0 = omega arith in e) in
            omega (arith, z)
        go false h before =
            let each = sum_le (Contains moves) (λ x. suc l * fails l (make x c)) (λ x. length moves ^ l + spent l (make x c)) moves (all_in moves) (λ x i. let one = before x i in let all = fails_all l (make x c) in let more : suc l * fails l (make x c) ≡ fails l (make x c) * l + fails l (make x c) = nat.mul_comm (suc l) (fails l (make x c)) ∙ nat.mul-suc (fails l (make x c)) l in omega (arith, one, all, more)) in
            let left : fails (suc l) c * suc l ≡ sum_by (λ x. suc l * fails l (make x c)) moves = ap (λ n. n * suc l) (fails_next l c) ∙ nat.mul_comm (sum_by (λ x. fails l (make x c)) moves) (suc l) ∙ sym (sum_scale (suc l) (λ x. fails l (make x c)) moves) in
            let right = spent_next l c h in
            omega (arith, each, left, right)

    -- a height that no move raises, and that two moves lower where the end isn't reached
    module _ (height : C → ℕ) (falls : (x : A) → Contains moves x → (c : C) → P c → height (make x c) ≤ height c) (lowers : (c : C) → P c → ended c ≡ false → (x y : A) × (x ≢ y) × Contains moves x × Contains moves y × (height (make x c) < height c) × (height (make y c) < height c)) where
      -- twice the sum of the times is at most the number of runs times height * N
      pub soon : (l : ℕ) (c : C) → P c → 2 * spent l c ≤ height c * length moves * length moves ^ l
      soon zero c p = omega arith
      soon (suc l) c p = go (ended c) refl (λ x h. soon l (make x c) (keeps x h c p))
        where
          go : (t : Bool) → ended c ≡ t → ((x : A) → Contains moves x → 2 * spent l (make x c) ≤ height (make x c) * length moves * length moves ^ l) → 2 * spent (suc l) c ≤ height c * length moves * length moves ^ suc l
          go true h before = let z = spent_ended (suc l) c h in omega (arith, z)
          go false h before =
              let k = length moves * length moves ^ l in
              let s = sum_by (λ x. height (make x c)) moves in
              let twice = sum_scale 2 (λ x. length moves ^ l + spent l (make x c)) moves in
              let each = sum_le (Contains moves) (λ x. 2 * (length moves ^ l + spent l (make x c))) (λ x. 2 * length moves ^ l + k * height (make x c)) moves (all_in moves) (λ x i. let one = before x i in let same : height (make x c) * length moves * length moves ^ l ≡ k * height (make x c) = nat.mul_assoc (height (make x c)) (length moves) (length moves ^ l) ∙ nat.mul_comm (height (make x c)) k in omega (arith, one, same)) in
              let sum = sum_more (2 * length moves ^ l) (λ x. k * height (make x c)) moves in
              let pulled : length moves * (2 * length moves ^ l) ≡ 2 * k = sym (nat.mul_assoc (length moves) 2 (length moves ^ l)) ∙ ap (λ n. n * length moves ^ l) (nat.mul_comm (length moves) 2) ∙ nat.mul_assoc 2 (length moves) (length moves ^ l) in
              let scaled = sum_scale k (λ x. height (make x c)) moves in
              let low = lowers c p h in
              let less : suc (suc s) ≤ length moves * height c = sum_below_twice (λ x. height (make x c)) (height c) moves low.0 low.1 low.2 (λ x i. falls x i c p) low.3 low.4 low.5 low.6 in
              let times : k * suc (suc s) ≤ k * (length moves * height c) = nat.mul-le-mul_left k less in
              let more : k * suc (suc s) ≡ k * s + 2 * k = nat.mul-suc k (suc s) ∙ ap (λ n. n + k) (nat.mul-suc k s) ∙ (let e : k * s + k + k ≡ k * s + 2 * k = omega arith in e) in
              let right : height c * length moves * length moves ^ suc l ≡ k * (length moves * height c) = ap (λ n. height c * length moves * n) (nat.pow-succ' (length moves) l) ∙ nat.mul_comm (height c * length moves) k ∙ ap (λ n. k * n) (nat.mul_comm (height c) (length moves)) in
              let next = spent_next l c h in
              omega (arith, twice, each, sum, pulled, scaled, times, more, right, next)

    -- if at most `bound` runs of b moves fail, at most `bound` times as many runs of a + b moves as of a moves do
    split : (bound b : ℕ) → ((c : C) → P c → fails b c ≤ bound) → (a l : ℕ) → l ≡ a + b → (c : C) → P c → fails l c ≤ bound * fails a c
    split bound b few zero l e c p = subst (λ n. fails n c ≤ bound * fails 0 c) (let same : b ≡ l = omega (arith, e) in same) (go (ended c) refl)
      where
        go : (t : Bool) → ended c ≡ t → fails b c ≤ bound * fails 0 c
        go true h = let z = fails_ended b c p h in omega (arith, z)
        go false h = subst (λ n. fails b c ≤ bound * n) (sym (fails_first c false h)) (let f = few c p in omega (arith, f))
    split bound b few (suc a) zero e c p = absurd (omega (arith, e))
    split bound b few (suc a) (suc l) e c p =
        let each = sum_le (Contains moves) (λ x. fails l (make x c)) (λ x. bound * fails a (make x c)) moves (all_in moves) (λ x h. split bound b few a l (omega (arith, e)) (make x c) (keeps x h c p)) in
        subst (λ n. n ≤ bound * fails (suc a) c) (sym (fails_next l c))
        (subst (λ n. sum_by (λ x. fails l (make x c)) moves ≤ bound * n) (sym (fails_next a c))
        (subst (λ n. sum_by (λ x. fails l (make x c)) moves ≤ n) (sum_scale bound (λ x. fails a (make x c)) moves) each))

    -- a run that ends is one that does not fail
    one_ends : (run : List A) → All (Contains moves) run → (c : C) → P c → ended (after_run make run c) ≡ true → suc (fails (length run) c) ≤ length moves ^ length run
    one_ends [] all c p e =
        let z = fails_first c true e in
        subst (λ n. suc (fails 0 c) ≤ n) (sym (nat.pow-zero (length moves))) (omega (arith, z))
    one_ends (x ∷ run) all c p e =
        let has = All-head (Contains moves) x run all in
        let rest = one_ends run (All-tail (Contains moves) x run all) (make x c) (keeps x has c p) e in
        let less = sum_below (λ y. fails (length run) (make y c)) (length moves ^ length run) moves x (λ y h. fails_all (length run) (make y c)) has rest in
        subst (λ n. suc n ≤ length moves ^ suc (length run)) (sym (fails_next (length run) c))
        (subst (λ n. suc (sum_by (λ y. fails (length run) (make y c)) moves) ≤ n) (sym (nat.pow-succ' (length moves) (length run))) less)

    module _ (some : 0 < length moves) (w : ℕ) (ends : (c : C) → P c → (run : List A) × All (Contains moves) run × (length run ≤ w) × (ended (after_run make run c) ≡ true)) where
      -- of the runs of w moves one ends
      window : (c : C) → P c → suc (fails w c) ≤ length moves ^ w
      window c p =
          let to = ends c p in
          let r = length to.0 in
          let d = w - r in
          let whole : w ≡ r + d = (let short = to.2 in omega (arith, short)) in
          let f = fails r c in
          let ended = one_ends to.0 to.1 c p to.3 in
          let apart = split (length moves ^ d) d (λ x q. fails_all d x) r w whole c p in
          let power : length moves ^ w ≡ length moves ^ d * length moves ^ r = ap (λ n. length moves ^ n) whole ∙ pow-add (length moves) r d ∙ nat.mul_comm (length moves ^ r) (length moves ^ d) in
          let times : length moves ^ d * suc f ≤ length moves ^ d * length moves ^ r = nat.mul-le-mul_left (length moves ^ d) ended in
          let more : length moves ^ d * suc f ≡ length moves ^ d * f + length moves ^ d = nat.mul-suc (length moves ^ d) f in
          let one = nat.one-le-pow d (length moves) some in
          subst (λ n. suc (fails w c) ≤ n) (sym power) (omega (arith, apart, times, more, one))

      -- one less than the number of runs of w moves
      y : ℕ
      y = length moves ^ w - 1

      power_is : suc y ≡ length moves ^ w
      unfolding y
      power_is = let one = nat.one-le-pow w (length moves) some in omega (arith, one)

      window_few : (c : C) → P c → fails w c ≤ y
      unfolding y
      window_few c p = let h = window c p in omega (arith, h)

      many : (m l : ℕ) → l ≡ m * w → (c : C) → P c → fails l c ≤ y ^ m
      many zero l e c p =
          let none : l ≡ 0 = omega (arith, e) in
          subst (λ n. fails l c ≤ n) (sym (nat.pow-zero y)) (subst (λ n. fails l c ≤ n) (ap (λ n. length moves ^ n) none ∙ nat.pow-zero (length moves)) (fails_all l c))
      many (suc m) l e c p =
          let parts : l ≡ m * w + w = omega (arith, e) in
          let apart = split y w window_few (m * w) l parts c p in
          let before : y * fails (m * w) c ≤ y * y ^ m = nat.mul-le-mul_left y (many m (m * w) refl c p) in
          subst (λ n. fails l c ≤ n) (sym (nat.pow-succ' y m)) (nat.le_trans apart before)

      -- of the runs of m times w moves all but so many end
      pub tail : (m : ℕ) (c : C) → P c → fails (m * w) c ≤ (length moves ^ w - 1) ^ m
      unfolding y
      tail m c p = many m (m * w) refl c p

      vanish : (e m d l : ℕ) → m ≡ e * suc y → l ≡ m * w + d → (c : C) → P c → fails l c * e < length moves ^ l
      vanish e m d l is whole c p =
          let x = length moves ^ d in
          let apart = split x d (λ z q. fails_all d z) (m * w) l whole c p in
          let few = many m (m * w) refl c p in
          let bound : fails l c ≤ x * y ^ m = nat.le_trans apart (nat.mul-le-mul_left x few) in
          let scaled : fails l c * e ≤ x * y ^ m * e = nat.mul-le-mul_right e bound in
          let turned : x * y ^ m * e ≡ x * (e * y ^ m) = nat.mul_assoc x (y ^ m) e ∙ ap (λ n. x * n) (nat.mul_comm (y ^ m) e) in
          let less : e * y ^ m < suc y ^ m = subst (λ n. e * y ^ n < suc y ^ n) (sym is) (pow_vanishes e y) in
          let power : length moves ^ l ≡ x * suc y ^ m = ap (λ n. length moves ^ n) whole ∙ pow-add (length moves) (m * w) d ∙ nat.mul_comm (length moves ^ (m * w)) x ∙ ap (λ n. x * n) (pow_many (length moves) m w ∙ ap (λ n. n ^ m) (sym power_is)) in
          let one = nat.one-le-pow d (length moves) some in
          let strict : x * suc (e * y ^ m) ≤ x * suc y ^ m = nat.mul-le-mul_left x less in
          let more : x * suc (e * y ^ m) ≡ x * (e * y ^ m) + x = nat.mul-suc x (e * y ^ m) in
          subst (λ n. fails l c * e < n) (sym power) (omega (arith, scaled, turned, strict, more, one))

      -- less than one in e fails
      pub vanishes : (e l : ℕ) → e * length moves ^ w * w ≤ l → (c : C) → P c → fails l c * e < length moves ^ l
      vanishes e l long c p =
          vanish e (e * suc y) (l - e * suc y * w) l refl (let same : e * suc y * w ≡ e * length moves ^ w * w = ap (λ n. e * n * w) power_is in omega (arith, same, long)) c p

      -- ---- how long it takes

      -- one move more
      take_one : (bound a l : ℕ) (c : C) → ((x : A) → Contains moves x → spent l (make x c) ≤ a * length moves ^ l + bound * fails a (make x c)) → (t : Bool) → ended c ≡ t → spent (suc l) c ≤ suc a * length moves ^ suc l + bound * fails (suc a) c
      take_one bound a l c before true h = let z = spent_ended (suc l) c h in omega (arith, z)
      take_one bound a l c before false h =
          let k = length moves ^ l in
          let each = sum_le (Contains moves) (λ x. k + spent l (make x c)) (λ x. suc a * k + bound * fails a (make x c)) moves (all_in moves) (λ x i. let s = before x i in omega (arith, s)) in
          let sum = sum_more (suc a * k) (λ x. bound * fails a (make x c)) moves in
          let scaled = sum_scale bound (λ x. fails a (make x c)) moves in
          let next : bound * fails (suc a) c ≡ bound * sum_by (λ x. fails a (make x c)) moves = ap (λ n. bound * n) (fails_next a c) in
          let power : suc a * length moves ^ suc l ≡ length moves * (suc a * k) = ap (λ n. suc a * n) (nat.pow-succ' (length moves) l) ∙ nat.mul_left_comm (suc a) (length moves) k in
          subst (λ n. n ≤ suc a * length moves ^ suc l + bound * fails (suc a) c) (sym (spent_next l c h)) (omega (arith, each, sum, scaled, next, power))

      take : (bound b : ℕ) → ((c : C) → P c → spent b c ≤ bound) → (a l : ℕ) → l ≡ a + b → (c : C) → P c → spent l c ≤ a * length moves ^ l + bound * fails a c
      take bound b few zero l e c p = go (ended c) refl
        where
          go : (t : Bool) → ended c ≡ t → spent l c ≤ 0 * length moves ^ l + bound * fails 0 c
          go true h = let z = spent_ended l c h in omega (arith, z)
          go false h =
              let f : spent l c ≤ bound = subst (λ n. spent n c ≤ bound) (let same : b ≡ l = omega (arith, e) in same) (few c p) in
              subst (λ n. spent l c ≤ 0 * length moves ^ l + bound * n) (sym (fails_first c false h)) (omega (arith, f))
      take bound b few (suc a) zero e c p = absurd (omega (arith, e))
      take bound b few (suc a) (suc l) e c p =
          take_one bound a l c (λ x i. take bound b few a l (omega (arith, e)) (make x c) (keeps x i c p)) (ended c) refl

      module _ (l : ℕ) (c : C) (p : P c) where
        abbrev IsQuick : Type 0
        IsQuick = spent l c ≤ w * length moves ^ w * length moves ^ l

        early : l < w → IsQuick
        early low =
            let all : spent l c ≤ l * length moves ^ l + 0 * fails l c = take 0 0 (λ x q. let z : spent 0 x ≤ 0 = omega arith in z) l l (omega arith) c p in
            let one = nat.one-le-pow w (length moves) some in
            let wide : l * 1 ≤ w * length moves ^ w = mul-le l 1 w (length moves ^ w) (omega (arith, low)) one in
            let times : l * length moves ^ l ≤ w * length moves ^ w * length moves ^ l = nat.mul-le-mul_right (length moves ^ l) (let m : l ≤ w * length moves ^ w = omega (arith, wide) in m) in
            omega (arith, all, times)

        at_once : w ≡ 0 → (t : Bool) → ended c ≡ t → IsQuick
        at_once none true h = let z = spent_ended l c h in omega (arith, z)
        at_once none false h =
            let one : suc (fails 0 c) ≤ 1 = subst (λ n. suc (fails 0 c) ≤ n) (nat.pow-zero (length moves)) (subst (λ n. suc (fails n c) ≤ length moves ^ n) none (window c p)) in
            let z = fails_first c false h in
            absurd (omega (arith, one, z))

        later : (d : ℕ) → l ≡ w + d → ((x : C) → P x → spent d x ≤ w * length moves ^ w * length moves ^ d) → IsQuick
        later d whole before =
            let z = w * length moves ^ w * length moves ^ d in
            let all : spent l c ≤ w * length moves ^ l + z * fails w c = take z d before w l whole c p in
            let few : z * fails w c ≤ z * y = nat.mul-le-mul_left z (window_few c p) in
            let power : length moves ^ l ≡ length moves ^ w * length moves ^ d = ap (λ n. length moves ^ n) whole ∙ pow-add (length moves) w d in
            let first : w * length moves ^ l ≡ z = ap (λ n. w * n) power ∙ sym (nat.mul_assoc w (length moves ^ w) (length moves ^ d)) in
            let right : w * length moves ^ w * length moves ^ l ≡ z * suc y = ap (λ n. w * length moves ^ w * n) (power ∙ nat.mul_comm (length moves ^ w) (length moves ^ d)) ∙ sym (nat.mul_assoc (w * length moves ^ w) (length moves ^ d) (length moves ^ w)) ∙ ap (λ n. z * n) (sym power_is) in
            let more : z * suc y ≡ z * y + z = nat.mul-suc z y in
            omega (arith, all, few, first, right, more)

      expect : (fuel l : ℕ) → l ≤ fuel → (c : C) → P c → spent l c ≤ w * length moves ^ w * length moves ^ l
      expect zero zero le c p = omega arith
      expect zero (suc l) le c p = absurd (omega (arith, le))
      expect (suc fuel) l le c p =
          go (cases_lt l w) (cases_lt 0 w) (λ d shorter x q. expect fuel d (omega (arith, le, shorter)) x q)
        where
          go : (l < w) ⊎ (w ≤ l) → (0 < w) ⊎ (w ≤ 0) → ((d : ℕ) → d < l → (x : C) → P x → spent d x ≤ w * length moves ^ w * length moves ^ d) → spent l c ≤ w * length moves ^ w * length moves ^ l
          go (inl low) at before = early l c p low
          go (inr long) (inr none) before = at_once l c p (omega (arith, none)) (ended c) refl
          go (inr long) (inl one) before =
              later l c p (l - w) (omega (arith, long)) (before (l - w) (omega (arith, long, one)))

      -- the sum of the times is at most the number of runs times w * N ^ w
      pub expected : (l : ℕ) (c : C) → P c → spent l c ≤ w * length moves ^ w * length moves ^ l
      expected l c p = expect l l (omega arith) c p
