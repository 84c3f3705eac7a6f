-- How many steps per agent the layers allow.
use Rattle.std.proofs.Common.{◌≡◌, ◌∙◌, ℕ, zero, suc, ◌+◌, ◌*◌, ◌-◌, ◌<◌, ◌≤◌, Bool, true, false, ◌||◌, List, [], ◌∷◌, length, get_or, refl, ap, sym, arith}
use Rattle.std.specs.Prelude.{ℤ, pos, negsuc, ◌-ℤ◌, ◌<ℤ◌, nat_abs, nat_lt, if◌then◌else◌, Option, Some, None, ◌==◌}
use Rattle.std.specs.List.{list_any}
use Rattle.std.proofs.lemmas.Int.{ints}
use Rattle.std.proofs.lemmas.Bool.{lt-ltb}
use Rattle.std.proofs.lemmas.List.Folds.{list_any_at}
use Rattle.cert_base.specs.ProofBound.{weights_spread, layers_bound}
use Rattle.cert_base.proofs.WeightBounds.{spread_of}
use Rattle.comp_trees.specs.SortedLayers.{sorted_layer}
use Rattle.comp_trees.proofs.ThreeLayers.{three_layers}
use Rattle.comp_powers_leaf.specs.declared.role.Role.{Role}
use Rattle.comp_powers_leaf.specs.declared.role.Role.TheVariants.{Low, High, Nothing, Piece, Plus, Debtor, Token}
use Rattle.comp_trees.specs.Bits.{power_in}
use Rattle.comp_powers_leaf.specs.PowersLeaf.{coefficient_of, chain_by, chain_of, roles, role_at, place, powers_moves, IsRole}
use Rattle.comp_powers_leaf.specs.PowersLayers.{sum_weight, answer_weight, one_if, layer_weights, powers_kind}
use Rattle.comp_powers_leaf.proofs.Places.{there, role-valid}
use Rattle.comp_powers_leaf.proofs.Moves.{chain-most}
use Rattle.comp_powers.specs.PowersProof.{has_debtor, has_tokens, first_weight, powers_steps, powers_layers_of}
use Rattle.comp_powers.proofs.ByPlace.{map_at}

-- ---- one that passes a test

some_passes : {A : Type 0} (p : A → Bool) (d : A) (xs : List A) → list_any p xs ≡ true → (j : ℕ) × (j < length xs) × (p (get_or xs j d) ≡ true)
some_passes p d [] e = absurd (let m : false ≡ true = e in cc)
some_passes {A} p d (x ∷ xs) e = go (p x) refl e (λ f. some_passes p d xs f)
  where
    go : (b : Bool) → p x ≡ b → (b || list_any p xs) ≡ true → (list_any p xs ≡ true → (j : ℕ) × (j < length xs) × (p (get_or xs j d) ≡ true)) → (j : ℕ) × (j < length (x ∷ xs)) × (p (get_or (x ∷ xs) j d) ≡ true)
    go true h e rest = (0, omega arith, h)
    go false h e rest = let later = rest e in (suc later.0, (let l = later.1 in omega (arith, l)), later.2)

none_passes : {A : Type 0} (p : A → Bool) (d : A) (xs : List A) → list_any p xs ≡ false → (j : ℕ) → j < length xs → p (get_or xs j d) ≡ false
none_passes p d xs e j l = go (p (get_or xs j d)) refl
  where
    go : (b : Bool) → p (get_or xs j d) ≡ b → p (get_or xs j d) ≡ false
    go false h = h
    go true h = absurd (let f = list_any_at p xs j d l h in let m : true ≡ false = sym f ∙ e in cc)

-- ---- the spread of a layer

module _ (coefs : List ℤ) (k : ℕ) where
  spread-by : (w : Role → ℕ) (most : ℕ) (low high : Role) → IsRole coefs k low → IsRole coefs k high → w low ≡ 0 → w high ≡ most → ((r : Role) → IsRole coefs k r → w r ≤ most) → weights_spread (layer_weights coefs k w) ≡ most
  spread-by w most low high vl vh el eh each =
      let n = length (roles coefs k) in
      let f : ℕ → ℤ = λ q. pos (w (role_at coefs k q)) in
      let first = there coefs k low vl in
      let last = there coefs k high vh in
      ap weights_spread (sym (map_at (λ r. pos (w r)) (roles coefs k) (Nothing false)))
      ∙ spread_of f n (pos 0) (pos most) (place coefs k low) (place coefs k high) first.low last.low
      (ap (λ r. pos (w r)) first.found ∙ ap pos el) (ap (λ r. pos (w r)) last.found ∙ ap pos eh)
      (λ q l. (omega (arith, ints), (let m = each (role_at coefs k q) (role-valid coefs k q l) in omega (arith, ints, m))))
      ∙ apart most
    where
      apart : (m : ℕ) → nat_abs (pos m -ℤ pos 0) ≡ m
      apart m = ap nat_abs (let e : (pos m -ℤ pos 0) ≡ pos m = omega (arith, ints) in e)

  -- ---- the answers

  one-most : (b : Bool) → one_if b ≤ 1
  one-most true = omega arith
  one-most false = omega arith

  answer-most : (turned : Bool) (r : Role) → IsRole coefs k r → answer_weight turned r ≤ 1
  answer-most turned Low v = omega arith
  answer-most turned High v = omega arith
  answer-most true (Nothing b) v = one-most b
  answer-most false (Nothing true) v = omega arith
  answer-most false (Nothing false) v = omega arith
  answer-most true (Piece i b) v = one-most b
  answer-most false (Piece i true) v = omega arith
  answer-most false (Piece i false) v = omega arith
  answer-most turned Plus v = omega arith
  answer-most turned (Debtor j) v = omega arith
  answer-most turned (Token j i) v = omega arith

  to-true : weights_spread (layer_weights coefs k (answer_weight false)) ≡ 1
  to-true = spread-by (answer_weight false) 1 Low (Nothing false) tt tt refl refl (answer-most false)

  to-false : weights_spread (layer_weights coefs k (answer_weight true)) ≡ 1
  to-false = spread-by (answer_weight true) 1 Low (Nothing true) tt tt refl refl (answer-most true)

  -- ---- the sum

  chain-either : (a : ℤ) → nat_lt 0 (chain_of k a) ≡ true → chain_of k a ≡ k
  chain-either (negsuc n) e = refl
  chain-either (pos n) e = go (n == 0) (power_in k n) e
    where
      go : (b : Bool) (o : Option ℕ) → nat_lt 0 (if b then 0 else chain_by k o) ≡ true → (if b then 0 else chain_by k o) ≡ k
      go true o e = absurd (let m : false ≡ true = e in cc)
      go false None e = refl
      go false (Some i) e = absurd (let m : false ≡ true = e in cc)

  below-zero : (a : ℤ) → has_debtor a ≡ true → a <ℤ pos 0
  below-zero (pos n) e = absurd (let m : false ≡ true = e in cc)
  below-zero (negsuc n) e = omega (arith, ints)

  not-below : (a : ℤ) → has_debtor a ≡ false → a <ℤ pos 0 → false ≡ true
  not-below (pos n) e l = absurd (omega (arith, ints, l))
  not-below (negsuc n) e l = sym e

  no-chain : (a : ℤ) → has_tokens k a ≡ false → chain_of k a ≡ 0
  no-chain a e = go (chain_of k a) e
    where
      go : (n : ℕ) → nat_lt 0 n ≡ false → n ≡ 0
      go zero e = refl
      go (suc n) e = absurd (let h = lt-ltb 0 (suc n) (omega arith) in let m : true ≡ false = sym h ∙ e in cc)

  with-debtor : list_any has_debtor coefs ≡ true → weights_spread (layer_weights coefs k (sum_weight k)) ≡ 2 * k + 1
  with-debtor e =
      let one = some_passes has_debtor (pos 0) coefs e in
      spread-by (sum_weight k) (2 * k + 1) (Nothing false) (Debtor one.0) tt (one.1, below-zero (coefficient_of coefs one.0) one.2) refl refl most
    where
      most : (r : Role) → IsRole coefs k r → sum_weight k r ≤ 2 * k + 1
      most Low v = omega arith
      most High v = omega arith
      most (Nothing b) v = omega arith
      most (Piece i b) v = omega arith
      most Plus v = omega arith
      most (Debtor j) v = omega arith
      most (Token j i) v = let chain = chain-most k (coefficient_of coefs j) in omega (arith, chain, v.1)

  with-tokens : list_any has_debtor coefs ≡ false → list_any (has_tokens k) coefs ≡ true → weights_spread (layer_weights coefs k (sum_weight k)) ≡ 2 * k
  with-tokens none e =
      let one = some_passes (has_tokens k) (pos 0) coefs e in
      let all = chain-either (coefficient_of coefs one.0) one.2 in
      let some = positive k (chain_of k (coefficient_of coefs one.0)) all one.2 in
      let last : k - 1 < chain_of k (coefficient_of coefs one.0) = omega (arith, all, some) in
      spread-by (sum_weight k) (2 * k) (Nothing false) (Token one.0 (k - 1)) tt (one.1, last) refl (let e : 2 * (k - 1) + 2 ≡ 2 * k = omega (arith, some) in e) (most some)
    where
      positive : (k n : ℕ) → n ≡ k → nat_lt 0 n ≡ true → 1 ≤ k
      positive zero n h e = absurd (let m : nat_lt 0 0 ≡ true = ap (nat_lt 0) (sym h) ∙ e in let c : false ≡ true = m in cc)
      positive (suc k) n h e = omega arith

      most : 1 ≤ k → (r : Role) → IsRole coefs k r → sum_weight k r ≤ 2 * k
      most some Low v = omega (arith, some)
      most some High v = omega (arith, some)
      most some (Nothing b) v = omega arith
      most some (Piece i b) v = omega (arith, some)
      most some Plus v = omega (arith, some)
      most some (Debtor j) v = absurd (let m = not-below (coefficient_of coefs j) (none_passes has_debtor (pos 0) coefs none j v.0) v.1 in cc)
      most some (Token j i) v = let chain = chain-most k (coefficient_of coefs j) in omega (arith, chain, v.1)

  with-neither : list_any has_debtor coefs ≡ false → list_any (has_tokens k) coefs ≡ false → weights_spread (layer_weights coefs k (sum_weight k)) ≡ 1
  with-neither none bare = spread-by (sum_weight k) 1 (Nothing false) Low tt tt refl refl most
    where
      most : (r : Role) → IsRole coefs k r → sum_weight k r ≤ 1
      most Low v = omega arith
      most High v = omega arith
      most (Nothing b) v = omega arith
      most (Piece i b) v = omega arith
      most Plus v = omega arith
      most (Debtor j) v = absurd (let m = not-below (coefficient_of coefs j) (none_passes has_debtor (pos 0) coefs none j v.0) v.1 in cc)
      most (Token j i) v = let chain = no-chain (coefficient_of coefs j) (none_passes (has_tokens k) (pos 0) coefs bare j v.0) in absurd (omega (arith, chain, v.1))

  sum-spread : weights_spread (layer_weights coefs k (sum_weight k)) ≡ first_weight coefs k
  sum-spread = go (list_any has_debtor coefs) (list_any (has_tokens k) coefs) refl refl
    where
      go : (c d : Bool) → list_any has_debtor coefs ≡ c → list_any (has_tokens k) coefs ≡ d → weights_spread (layer_weights coefs k (sum_weight k)) ≡ (if c then 2 * k + 1 else (if d then 2 * k else 1))
      go true d e f = with-debtor e
      go false true e f = with-tokens e f
      go false false e f = with-neither e f

  pub steps_are : layers_bound (powers_layers_of coefs k) ≡ powers_steps coefs k
  steps_are =
      let layer = sorted_layer (powers_moves coefs k) (powers_kind coefs k) in
      let sum = three_layers (layer 0 (layer_weights coefs k (sum_weight k))) (layer 1 (layer_weights coefs k (answer_weight false))) (layer 2 (layer_weights coefs k (answer_weight true))) in
      let a = sum-spread in
      let b = to-true in
      let c = to-false in
      omega (arith, sum, a, b, c)
