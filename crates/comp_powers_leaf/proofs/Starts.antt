-- What the inputs and the helpers are worth, and how many of them wait.
use Rattle.std.proofs.Common.{◌≡◌, inl, inr, ◌∙◌, ℕ, zero, suc, ◌+◌, ◌-◌, ◌^◌, ◌%◌, ◌<◌, ◌≤◌, Bool, true, false, List, [], ◌∷◌, ◌++◌, map, refl, ap, sym, arith}
use Rattle.std.specs.Prelude.{ℤ, pos, negsuc, neg_ℤ, ◌+ℤ◌, ◌<ℤ◌, nat_abs, Option, Some, None, find, cond, replicate, All, if◌then◌else◌, ◌==◌}
use Rattle.std.specs.List.{range_with_len}
use Rattle.std.proofs.lemmas.Int.{ints}
use Rattle.std.proofs.lemmas.Bool.{eqb-true, eq-eqb, cases_eq}
use Rattle.std.proofs.lemmas.Option.{slice_get_within, get_or_from_slice_get}
use Rattle.std.proofs.lemmas.List.FromFn.{length-range_with_len, get_or-range_with_len}
use Rattle.std.proofs.lemmas.List.Elements.{All-head, All-tail}
use Rattle.pop_leaf.proofs.Found.{find_some}
use Rattle.cert_base.specs.WeightedSums.{total}
use Rattle.comp_trees.proofs.HelperSums.{total-append}
use Rattle.base_laws.proofs.Ranges.{range_one_more}
use Rattle.comp_powers_leaf.specs.declared.role.Role.{Role}
use Rattle.comp_powers_leaf.specs.declared.role.Role.TheVariants.{Low, High, Nothing, Piece, Plus, Debtor, Token}
use Rattle.comp_trees.specs.Bits.{power_in, has_bit}
use Rattle.comp_powers_leaf.specs.PowersLeaf.{coefficient_of, owed, worth, role_at, place, start_by, start_of, hub_of, lacking, bit_role, helper_roles, all_helper_roles}
use Rattle.comp_trees.proofs.Bits.{more_bits, no_bits, all_bits, some_power}
use Rattle.comp_powers_leaf.proofs.Places.{there}
use Rattle.comp_powers_leaf.specs.PowersLeaf.{IsRole}
use Rattle.comp_powers_leaf.proofs.Kept.{waits, worth-power, worth-rest}
use Rattle.comp_powers_leaf.proofs.Formed.{all_helpers-valid}

-- ---- inputs

none_found : (p : ℕ → Bool) (a n : ℕ) → find p (range_with_len a n) ≡ None → (i : ℕ) → a ≤ i → i < a + n → p i ≡ false
none_found p a zero e i l m = absurd (omega arith)
none_found p a (suc n) e i l m = go (p a) refl e (λ f h. none_found p (a + 1) n f i h (omega arith))
  where
    go : (b : Bool) → p a ≡ b → cond b (Some a) (find p (range_with_len (a + 1) n)) ≡ None → (find p (range_with_len (a + 1) n) ≡ None → a + 1 ≤ i → p i ≡ false) → p i ≡ false
    go true h f rest = absurd (let g : Some a ≡ None = f in cc)
    go false h f rest = elim (cases_eq a i) [
      | inl g ↦ ap p (sym g) ∙ h
      | inr g ↦ rest f (omega (arith, g))
    ]

module _ (coefs : List ℤ) (bound : ℤ) (k : ℕ) where
  start-number : (j n : ℕ) → coefficient_of coefs j ≡ pos n → n ≤ 2 ^ k → (none : Bool) (o : Option ℕ) → (n == 0) ≡ none → power_in k n ≡ o → worth coefs k (if none then Nothing false else start_by k j o) ≡ pos n
  start-number j n a l true o e f = ap pos (sym (eqb-true n 0 e))
  start-number j n a l false (Some i) e f =
      let found = find_some (λ i. 2 ^ i == n) (range_with_len 0 (k + 1)) i f in
      let l0 : found.0 < k + 1 = omega (arith, slice_get_within (range_with_len 0 (k + 1)) found.0 i found.1, length-range_with_len 0 (k + 1)) in
      let at = get_or-range_with_len 0 (k + 1) found.0 i l0 in
      let got = get_or_from_slice_get (range_with_len 0 (k + 1)) found.0 i i found.1 in
      let within : i < k + 1 = omega (arith, l0, at, got) in
      worth-power coefs k i false (omega arith) ∙ ap pos (eqb-true (2 ^ i) n found.2)
  start-number j n a l false None e f =
      let last = none_found (λ i. 2 ^ i == n) 0 (k + 1) f k (omega arith) (omega arith) in
      worth-rest coefs k j k ∙ ap (λ b. pos (owed k b % 2 ^ k)) a ∙ ap pos (all_bits n k (less (2 ^ k) n last l))
    where
      less : (w n : ℕ) → (w == n) ≡ false → n ≤ w → n < w
      less w n e l = elim (cases_eq w n) [
        | inl h ↦ absurd (let f = eq-eqb w n h in let g : true ≡ false = sym f ∙ e in cc)
        | inr h ↦ omega (arith, h, l)
      ]

  pub start-worth : (j : ℕ) → nat_abs (coefficient_of coefs j) ≤ 2 ^ k → worth coefs k (start_of k j (coefficient_of coefs j)) ≡ coefficient_of coefs j
  start-worth j l = of (coefficient_of coefs j) refl
    where
      of : (a : ℤ) → coefficient_of coefs j ≡ a → worth coefs k (start_of k j a) ≡ a
      of (pos n) e = start-number j n e (let h = ap nat_abs e in omega (arith, h, l)) (n == 0) (power_in k n) refl refl
      of (negsuc n) e = e

  pub start-waits : (j : ℕ) (a : ℤ) → waits (start_of k j a) ≤ 1
  start-waits j (negsuc n) = omega arith
  start-waits j (pos n) = most (if n == 0 then Nothing false else start_by k j (power_in k n))
    where
      most : (r : Role) → waits r ≤ 1
      most Low = omega arith
      most High = omega arith
      most (Nothing b) = omega arith
      most (Piece i b) = omega arith
      most Plus = omega arith
      most (Debtor j) = omega arith
      most (Token j i) = omega arith

-- ---- helpers

pub total-map : {A B : Type 0} (f : B → ℤ) (g : A → B) (xs : List A) → total f (map g xs) ≡ total (λ x. f (g x)) xs
total-map f g [] = refl
total-map f g (x ∷ xs) = ap (λ z. f (g x) +ℤ z) (total-map f g xs)

replicate-none : {A : Type 0} (f : A → ℤ) (x : A) (n : ℕ) → f x ≡ pos 0 → total f (replicate n x) ≡ pos 0
replicate-none f x zero e = refl
replicate-none f x (suc n) e = let rest = replicate-none f x n e in omega (arith, ints, e, rest)

replicate-less : {A : Type 0} (f : A → ℤ) (x : A) (n : ℕ) → f x ≡ negsuc 0 → total f (replicate n x) ≡ neg_ℤ (pos n)
replicate-less f x zero e = refl
replicate-less f x (suc n) e = let rest = replicate-less f x n e in omega (arith, ints, e, rest)

module _ (coefs : List ℤ) (bound : ℤ) (k : ℕ) where
  -- by the helpers' roles
  at-places : (f : Role → ℤ) (rs : List Role) → All (IsRole coefs k) rs → total (λ q. f (role_at coefs k q)) (map (place coefs k) rs) ≡ total f rs
  at-places f [] all = refl
  at-places f (r ∷ rs) all =
      let here = ap f (there coefs k r (All-head (IsRole coefs k) r rs all)).found in
      let rest = at-places f rs (All-tail (IsRole coefs k) r rs all) in
      omega (arith, ints, here, rest)

  pub helpers-total : (spare : ℕ) (f : Role → ℤ) → total (λ q. f (role_at coefs k q)) (map (place coefs k) (all_helper_roles bound k spare)) ≡ total f (all_helper_roles bound k spare)
  helpers-total spare f = at-places f (all_helper_roles bound k spare) (all_helpers-valid coefs bound k spare)

  -- spare helpers are worth nothing
  more-none : (f : Role → ℤ) (spare : ℕ) → f (Nothing false) ≡ pos 0 → total f (all_helper_roles bound k spare) ≡ total f (helper_roles bound k)
  more-none f spare e =
      let both = total-append f (helper_roles bound k) (replicate spare (Nothing false)) in
      let more = replicate-none f (Nothing false) spare e in
      omega (arith, ints, both, more)

  bits-total : (n m : ℕ) → total (worth coefs k) (map (bit_role n) (range_with_len 0 m)) ≡ pos (n % 2 ^ m)
  bits-total n zero = ap pos (sym (no_bits n))
  bits-total n (suc m) =
      let more = ap (λ xs. total (worth coefs k) (map (bit_role n) xs)) (ap (range_with_len 0) (let e : suc m ≡ m + 1 = omega arith in e) ∙ range_one_more m) ∙ total-map (worth coefs k) (bit_role n) (range_with_len 0 m ++ m ∷ []) ∙ total-append (λ i. worth coefs k (bit_role n i)) (range_with_len 0 m) (m ∷ []) in
      let first = total-map (worth coefs k) (bit_role n) (range_with_len 0 m) in
      let rest = bits-total n m in
      let last = bit-worth m (has_bit n m) in
      let bits = more_bits n m in
      let same = ap (λ j. n % 2 ^ j) (let e : m + 1 ≡ suc m = omega arith in e) in
      omega (arith, ints, more, first, rest, last, bits, same)
    where
      bit-worth : (m : ℕ) (b : Bool) → worth coefs k (if b then Piece m false else Nothing false) ≡ pos (if b then 2 ^ m else 0)
      bit-worth m true = refl
      bit-worth m false = refl

  lacks : (a : ℤ) → a <ℤ pos (2 ^ k + 1) → neg_ℤ (pos (2 ^ k)) <ℤ a → (lacking k a < 2 ^ k) × ((worth coefs k (hub_of a) +ℤ pos (lacking k a)) ≡ neg_ℤ a)
  lacks (pos zero) l m = (some_power k, refl)
  lacks (pos (suc n)) l m = ((let s = some_power k in let h : 2 ^ k - (n + 1) < 2 ^ k = omega (arith, s) in h), (let h : (neg_ℤ (pos (2 ^ k)) +ℤ pos (2 ^ k - (n + 1))) ≡ neg_ℤ (pos (suc n)) = omega (arith, ints, l) in h))
  lacks (negsuc n) l m = ((let h : n + 1 < 2 ^ k = omega (arith, ints, m) in h), (let h : (pos 0 +ℤ pos (n + 1)) ≡ neg_ℤ (negsuc n) = omega (arith, ints) in h))

  -- the helpers are worth minus the bound
  own-worth : bound <ℤ pos (2 ^ k + 1) → neg_ℤ (pos (2 ^ k)) <ℤ bound → total (worth coefs k) (helper_roles bound k) ≡ neg_ℤ bound
  own-worth l m =
      let lack = lacks bound l m in
      let bits = bits-total (lacking k bound) k in
      let all = all_bits (lacking k bound) k lack.0 in
      omega (arith, ints, bits, all, lack.1)

  pub helpers-worth : (spare : ℕ) → bound <ℤ pos (2 ^ k + 1) → neg_ℤ (pos (2 ^ k)) <ℤ bound → total (worth coefs k) (all_helper_roles bound k spare) ≡ neg_ℤ bound
  helpers-worth spare l m = more-none (worth coefs k) spare refl ∙ own-worth l m

  pub helpers-owe : (spare : ℕ) → bound <ℤ pos (2 ^ k + 1) → neg_ℤ (pos (2 ^ k)) <ℤ bound → total (λ r. neg_ℤ (worth coefs k r)) (all_helper_roles bound k spare) ≡ bound
  helpers-owe spare l m = let e = helpers-worth spare l m in let f = negated (all_helper_roles bound k spare) in omega (arith, ints, e, f)
    where
      negated : (rs : List Role) → total (λ r. neg_ℤ (worth coefs k r)) rs ≡ neg_ℤ (total (worth coefs k) rs)
      negated [] = refl
      negated (r ∷ rs) = let e = negated rs in omega (arith, ints, e)

  -- all helpers but the hub are worth at least nothing, and wait for nobody
  abbrev pub waiting : Role → ℤ
  waiting r = pos (waits r) +ℤ negsuc 0

  bits-spare : (n a m : ℕ) → total waiting (map (bit_role n) (range_with_len a m)) ≡ neg_ℤ (pos m)
  bits-spare n a zero = refl
  bits-spare n a (suc m) =
      let here = one (has_bit n a) in
      let rest = bits-spare n (a + 1) m in
      omega (arith, ints, here, rest)
    where
      one : (b : Bool) → (pos (waits (if b then Piece a false else Nothing false)) +ℤ negsuc 0) ≡ negsuc 0
      one true = refl
      one false = refl

  hub-waits : (a : ℤ) → waits (hub_of a) ≡ 1
  hub-waits (pos zero) = refl
  hub-waits (pos (suc n)) = refl
  hub-waits (negsuc n) = refl

  own-spare : total waiting (helper_roles bound k) ≡ neg_ℤ (pos (k + 1))
  own-spare = let hub = hub-waits bound in let bits = bits-spare (lacking k bound) 0 k in omega (arith, ints, hub, bits)

  pub helpers-spare : (spare : ℕ) → total waiting (all_helper_roles bound k spare) ≡ neg_ℤ (pos (k + 1 + spare))
  helpers-spare spare =
      let both = total-append waiting (helper_roles bound k) (replicate spare (Nothing false)) in
      let more = replicate-less waiting (Nothing false) spare refl in
      let own = own-spare in
      omega (arith, ints, both, more, own)
