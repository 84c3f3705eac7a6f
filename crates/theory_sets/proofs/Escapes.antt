-- Which moves lead out of a set.
use Rattle.std.proofs.Common.{◌≡◌, ℕ, zero, suc, ◌+◌, ◌-◌, ◌<◌, ◌≤◌, Bool, true, false, cond, List, [], ◌∷◌, length, refl, ap, sym, subst, ◌∙◌, arith}
use Rattle.std.specs.Prelude.{slice_get, filter, Contains}
use Rattle.std.specs.List.{range_with_len}
use Rattle.std.proofs.lemmas.List.FromFn.{length-range_with_len, get_or-range_with_len}
use Rattle.std.proofs.lemmas.Option.{slice_get_within}
use Rattle.base_laws.proofs.Lists.{has_first, has_later}
use Rattle.pop_leaf.specs.LeafModel.{LeafModel}
use Rattle.cert_layers.specs.Search.{some_move}
use Rattle.cert_layers.proofs.NotLower.{some_move-true}
use Rattle.theory_sets.specs.Stays.{leads_out, escapes}

-- what stands in a filtered list
filtered : (test : ℕ → Bool) (xs : List ℕ) (n : ℕ) → Contains (filter test xs) n → Contains xs n × (test n ≡ true)
filtered test [] n c = absurd (omega (arith, c.1))
filtered test (y ∷ xs) n c = go (test y) refl c (filtered test xs n)
  where
    go : (b : Bool) → test y ≡ b → Contains (cond b (y ∷ filter test xs) (filter test xs)) n → (Contains (filter test xs) n → Contains xs n × (test n ≡ true)) → Contains (y ∷ xs) n × (test n ≡ true)
    go false e c more = let m = more c in (has_later n y xs m.0, m.1)
    go true e (zero, l, f) more = (subst (λ k. Contains (y ∷ xs) k) f (has_first y xs), ap test (sym f) ∙ e)
    go true e (suc k, l, f) more = let m = more (k, (omega (arith, l)), f) in (has_later n y xs m.0, m.1)

has_filtered : (test : ℕ → Bool) (xs : List ℕ) (n : ℕ) → Contains xs n → test n ≡ true → Contains (filter test xs) n
has_filtered test [] n c h = absurd (omega (arith, c.1))
has_filtered test (y ∷ xs) n (zero, l, e) h = first (test y) (ap test e ∙ h)
  where
    first : (b : Bool) → b ≡ true → Contains (cond b (y ∷ filter test xs) (filter test xs)) n
    first true t = subst (λ k. Contains (y ∷ filter test xs) k) e (has_first y (filter test xs))
    first false t = cc
has_filtered test (y ∷ xs) n (suc k, l, e) h = go (test y) (has_filtered test xs n (k, (omega (arith, l)), e) h)
  where
    go : (b : Bool) → Contains (filter test xs) n → Contains (cond b (y ∷ filter test xs) (filter test xs)) n
    go true c = has_later n y (filter test xs) c
    go false c = c

in_range : (a k n : ℕ) → a ≤ n → n < a + k → Contains (range_with_len a k) n
in_range a k n l m =
    (n - a, (let e : n - a < length (range_with_len a k) = omega (arith, length-range_with_len a k) in e), get_or-range_with_len a k (n - a) n (omega arith) ∙ (let e : a + (n - a) ≡ n = omega arith in e))

module _ (leaf : LeafModel) (set : List ℕ) (n : ℕ) where
  pub escape_is : Contains (escapes leaf set) n → some_move (leads_out set) (slice_get leaf.moves n) ≡ true
  escape_is c = (filtered (λ k. some_move (leads_out set) (slice_get leaf.moves k)) (range_with_len 0 (length leaf.moves)) n c).1

  pub is_escape : some_move (leads_out set) (slice_get leaf.moves n) ≡ true → Contains (escapes leaf set) n
  is_escape e =
      let f = some_move-true (leads_out set) (slice_get leaf.moves n) e in
      let within = slice_get_within leaf.moves n f.0 f.1 in
      has_filtered (λ k. some_move (leads_out set) (slice_get leaf.moves k)) (range_with_len 0 (length leaf.moves)) n (in_range 0 (length leaf.moves) n (omega arith) (omega (arith, within))) e
