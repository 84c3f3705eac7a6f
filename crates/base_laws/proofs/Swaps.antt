-- Laws of exchanges in a list: what is where after one, and that lists are equal if they are after the same exchange.
use Rattle.std.proofs.Common.{◌≡◌, ◌≢◌, ◌⊎◌, inl, inr, ℕ, suc, ◌<◌, List, [], ◌∷◌, length, refl, ap, sym, ◌∙◌, arith}
use Rattle.std.specs.Prelude.{Some, None, slice_get, slice_set, slice_index_or}
use Rattle.std.specs.List.{swap}
use Rattle.std.specs.List.Sorted.{apply_swaps, SwapsInRange}
use Rattle.std.proofs.lemmas.Bool.{cases_eq}
use Rattle.std.proofs.lemmas.List.{length-set}
use Rattle.std.proofs.lemmas.List.Edits.{length-swap}
use Rattle.std.proofs.lemmas.Option.{slice_get-get_or}
use Rattle.base_laws.proofs.Lists.{get-set_same, slice_get-set_apart}

-- lists with the same elements at the same places are the same
same_at_each : {A : Type 0} (xs ys : List A) → ((k : ℕ) → slice_get xs k ≡ slice_get ys k) → xs ≡ ys
same_at_each [] [] h = refl
same_at_each [] (y ∷ ys) h = let first : None ≡ Some y = h 0 in cc
same_at_each (x ∷ xs) [] h = let first : Some x ≡ None = h 0 in cc
same_at_each (x ∷ xs) (y ∷ ys) h =
    let first : Some x ≡ Some y = h 0 in
    let rest : xs ≡ ys = same_at_each xs ys (λ k. h (suc k)) in
    cc

get-set_other : {A : Type 0} (xs : List A) (i k : ℕ) (x : A) → k ≢ i → slice_get (slice_set xs i x) k ≡ slice_get xs k
get-set_other xs i k x ne = slice_get-set_apart xs i k x (λ e. ne (sym e))

-- the exchange of i and j takes k to m
abbrev IsTurned : ℕ → ℕ → ℕ → ℕ → Type 0
IsTurned i j k m = ((k ≡ j) × (m ≡ i)) ⊎ (((k ≢ j) × (k ≡ i) × (m ≡ j)) ⊎ ((k ≢ j) × (k ≢ i) × (m ≡ k)))

turning : (i j k : ℕ) → (m : ℕ) × IsTurned i j k m
turning i j k = go (cases_eq k j) (cases_eq k i)
  where
    go : (k ≡ j) ⊎ (k ≡ j → ⊥) → (k ≡ i) ⊎ (k ≡ i → ⊥) → (m : ℕ) × IsTurned i j k m
    go (inl e) other = (i, inl (e, refl))
    go (inr n) (inl e) = (j, inr (inl (n, e, refl)))
    go (inr n) (inr m) = (k, inr (inr (n, m, refl)))

pub turn : ℕ → ℕ → ℕ → ℕ
turn i j k = (turning i j k).0

turn_is : (i j k : ℕ) → IsTurned i j k (turn i j k)
unfolding turn
turn_is i j k = (turning i j k).1

turn_back : (i j k m n : ℕ) → IsTurned i j k m → IsTurned i j m n → n ≡ k
turn_back i j k m n (inl (e, f)) (inl (g, h)) = h ∙ sym f ∙ g ∙ sym e
turn_back i j k m n (inl (e, f)) (inr (inl (n1, g, h))) = h ∙ sym e
turn_back i j k m n (inl (e, f)) (inr (inr (n1, n2, h))) = absurd (n2 f)
turn_back i j k m n (inr (inl (n1, e, f))) (inl (g, h)) = h ∙ sym e
turn_back i j k m n (inr (inl (n1, e, f))) (inr (inl (n2, g, h))) = absurd (n2 f)
turn_back i j k m n (inr (inl (n1, e, f))) (inr (inr (n2, n3, h))) = absurd (n2 f)
turn_back i j k m n (inr (inr (n1, n2, f))) (inl (g, h)) = absurd (n1 (sym f ∙ g))
turn_back i j k m n (inr (inr (n1, n2, f))) (inr (inl (n3, g, h))) = absurd (n2 (sym f ∙ g))
turn_back i j k m n (inr (inr (n1, n2, f))) (inr (inr (n3, n4, h))) = h ∙ f

pub turn_twice : (i j k : ℕ) → turn i j (turn i j k) ≡ k
turn_twice i j k = turn_back i j k (turn i j k) (turn i j (turn i j k)) (turn_is i j k) (turn_is i j (turn i j k))

turn_below : (i j k n : ℕ) → i < n → j < n → k < n → turn i j k < n
turn_below i j k n li lj lk = go (turn_is i j k)
  where
    go : IsTurned i j k (turn i j k) → turn i j k < n
    go (inl (e, f)) = omega (arith, f, li)
    go (inr (inl (n1, e, f))) = omega (arith, f, lj)
    go (inr (inr (n1, n2, f))) = omega (arith, f, lk)

module _ {A : Type 0} where
  pub get-swap : (xs : List A) (i j k : ℕ) → i < length xs → j < length xs → slice_get (swap xs i j) k ≡ slice_get xs (turn i j k)
  get-swap [] i j k li lj = absurd (omega (arith, li))
  get-swap (x ∷ xs) i j k li lj = go (turn_is i j k)
    where
      at_j : slice_get (swap (x ∷ xs) i j) j ≡ slice_get (x ∷ xs) i
      at_j =
          get-set_same (slice_set (x ∷ xs) i (slice_index_or (x ∷ xs) j x)) j (slice_index_or (x ∷ xs) i x)
          (let same = length-set (x ∷ xs) i (slice_index_or (x ∷ xs) j x) in omega (arith, lj, same))
          ∙ sym (slice_get-get_or (x ∷ xs) i x li)

      at_i : i ≢ j → slice_get (swap (x ∷ xs) i j) i ≡ slice_get (x ∷ xs) j
      at_i ne =
          get-set_other (slice_set (x ∷ xs) i (slice_index_or (x ∷ xs) j x)) j i (slice_index_or (x ∷ xs) i x) ne
          ∙ get-set_same (x ∷ xs) i (slice_index_or (x ∷ xs) j x) li
          ∙ sym (slice_get-get_or (x ∷ xs) j x lj)

      at_other : k ≢ j → k ≢ i → slice_get (swap (x ∷ xs) i j) k ≡ slice_get (x ∷ xs) k
      at_other nj ni =
          get-set_other (slice_set (x ∷ xs) i (slice_index_or (x ∷ xs) j x)) j k (slice_index_or (x ∷ xs) i x) nj
          ∙ get-set_other (x ∷ xs) i k (slice_index_or (x ∷ xs) j x) ni

      go : IsTurned i j k (turn i j k) → slice_get (swap (x ∷ xs) i j) k ≡ slice_get (x ∷ xs) (turn i j k)
      go (inl (e, f)) = ap (slice_get (swap (x ∷ xs) i j)) e ∙ at_j ∙ ap (slice_get (x ∷ xs)) (sym f)
      go (inr (inl (n, e, f))) = ap (slice_get (swap (x ∷ xs) i j)) e ∙ at_i (λ g. n (e ∙ g)) ∙ ap (slice_get (x ∷ xs)) (sym f)
      go (inr (inr (n, m, f))) = at_other n m ∙ ap (slice_get (x ∷ xs)) (sym f)

  swap_twice : (xs : List A) (i j : ℕ) → i < length xs → j < length xs → swap (swap xs i j) i j ≡ xs
  swap_twice xs i j li lj =
      same_at_each (swap (swap xs i j) i j) xs
      (λ k. let same = length-swap xs i j in
      get-swap (swap xs i j) i j k (omega (arith, li, same)) (omega (arith, lj, same))
      ∙ get-swap xs i j (turn i j k) li lj
      ∙ ap (slice_get xs) (turn_twice i j k))

  pub swap-set : (xs : List A) (i j a : ℕ) (x : A) → i < length xs → j < length xs → a < length xs → swap (slice_set xs a x) i j ≡ slice_set (swap xs i j) (turn i j a) x
  swap-set xs i j a x li lj la = same_at_each (swap (slice_set xs a x) i j) (slice_set (swap xs i j) (turn i j a) x) (λ k. go k (cases_eq (turn i j k) a))
    where
      left : (k : ℕ) → slice_get (swap (slice_set xs a x) i j) k ≡ slice_get (slice_set xs a x) (turn i j k)
      left k =
          let same = length-set xs a x in
          get-swap (slice_set xs a x) i j k (omega (arith, li, same)) (omega (arith, lj, same))

      go : (k : ℕ) → (turn i j k ≡ a) ⊎ (turn i j k ≡ a → ⊥) → slice_get (swap (slice_set xs a x) i j) k ≡ slice_get (slice_set (swap xs i j) (turn i j a) x) k
      go k (inl e) =
          let at : turn i j a ≡ k = ap (turn i j) (sym e) ∙ turn_twice i j k in
          let low = turn_below i j a (length xs) li lj la in
          let same = length-swap xs i j in
          left k ∙ ap (slice_get (slice_set xs a x)) e ∙ get-set_same xs a x la
          ∙ sym (ap (slice_get (slice_set (swap xs i j) (turn i j a) x)) (sym at) ∙ get-set_same (swap xs i j) (turn i j a) x (omega (arith, low, same)))
      go k (inr ne) =
          left k ∙ get-set_other xs a (turn i j k) x ne
          ∙ sym (get-set_other (swap xs i j) (turn i j a) k x (λ e. ne (ap (turn i j) e ∙ turn_twice i j a)) ∙ get-swap xs i j k li lj)

  pub length-apply_swaps : (xs : List A) (ms : List (ℕ × ℕ)) → length (apply_swaps xs ms) ≡ length xs
  length-apply_swaps xs [] = refl
  length-apply_swaps xs (m ∷ ms) = length-swap (apply_swaps xs ms) m.0 m.1 ∙ length-apply_swaps xs ms

  same_swapped : (xs ys : List A) (i j : ℕ) → i < length xs → j < length xs → i < length ys → j < length ys → swap xs i j ≡ swap ys i j → xs ≡ ys
  same_swapped xs ys i j li lj mi mj e = sym (swap_twice xs i j li lj) ∙ ap (λ zs. swap zs i j) e ∙ swap_twice ys i j mi mj

  pub same_before : (xs ys : List A) (ms : List (ℕ × ℕ)) → SwapsInRange (length xs) ms → SwapsInRange (length ys) ms → apply_swaps xs ms ≡ apply_swaps ys ms → xs ≡ ys
  same_before xs ys [] h k e = e
  same_before xs ys (m ∷ ms) h k e =
      let ex = length-apply_swaps xs ms in
      let ey = length-apply_swaps ys ms in
      same_before xs ys ms h.2 k.2
      (same_swapped (apply_swaps xs ms) (apply_swaps ys ms) m.0 m.1
      (omega (arith, h.0, ex)) (omega (arith, h.1, ex)) (omega (arith, k.0, ey)) (omega (arith, k.1, ey)) e)
