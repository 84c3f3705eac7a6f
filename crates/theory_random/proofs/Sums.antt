-- Sums over a list, and over the lists of l elements of one.
use Rattle.std.proofs.Common.{◌≡◌, ◌≢◌, ℕ, zero, suc, ◌+◌, ◌*◌, ◌^◌, ◌≤◌, List, [], ◌∷◌, length, get_or, map, refl, ap, sym, subst, ◌∙◌, arith}
use Rattle.std.specs.Prelude.{flat_map, sum_by, All, Contains}
use Rattle.std.proofs.Math.Nat as nat
use Rattle.std.proofs.lemmas.List.{length-map, get_or_default}
use Rattle.std.proofs.lemmas.List.Concat.{length-flat_map}
use Rattle.std.proofs.lemmas.List.Sums.{sum_by-cons, sum_by-append, sum_by-le}
use Rattle.std.proofs.lemmas.List.Elements.{All-head, All-tail}
use Rattle.theory_random.specs.UniformRuns.{lists_of}

pub sum_map : {X Y : Type 0} (f : Y → ℕ) (h : X → Y) (xs : List X) → sum_by f (map h xs) ≡ sum_by (λ x. f (h x)) xs
sum_map f h [] = refl
sum_map f h (x ∷ xs) =
    sum_by-cons f (h x) (map h xs) ∙ ap (λ n. f (h x) + n) (sum_map f h xs) ∙ sym (sum_by-cons (λ y. f (h y)) x xs)

module _ {X : Type 0} where
  -- each element of a list is in it
  pub all_in : (xs : List X) → All (Contains xs) xs
  all_in xs k d l = (k, l, get_or_default xs k (get_or xs k d) d l)

  pub sum_le : (Q : X → Type 0) (f g : X → ℕ) (xs : List X) → All Q xs → ((x : X) → Q x → f x ≤ g x) → sum_by f xs ≤ sum_by g xs
  sum_le Q f g [] all le = omega arith
  sum_le Q f g (x ∷ xs) all le =
      let one = le x (All-head Q x xs all) in
      let rest = sum_le Q f g xs (All-tail Q x xs all) le in
      subst (λ n. n ≤ sum_by g (x ∷ xs)) (sym (sum_by-cons f x xs)) (subst (λ n. f x + sum_by f xs ≤ n) (sym (sum_by-cons g x xs)) (omega (arith, one, rest)))

  pub sum_at_most : (f : X → ℕ) (bound : ℕ) (xs : List X) → ((x : X) → Contains xs x → f x ≤ bound) → sum_by f xs ≤ length xs * bound
  sum_at_most f bound xs le = sum_by-le f bound xs (λ k d l. le (get_or xs k d) (all_in xs k d l))

  pub sum_scale : (c : ℕ) (f : X → ℕ) (xs : List X) → sum_by (λ x. c * f x) xs ≡ c * sum_by f xs
  sum_scale c f [] = sym (nat.mul-zero c)
  sum_scale c f (x ∷ xs) =
      sum_by-cons (λ y. c * f y) x xs
      ∙ ap (λ n. c * f x + n) (sum_scale c f xs)
      ∙ sym (nat.mul-add c (f x) (sum_by f xs))
      ∙ ap (λ n. c * n) (sym (sum_by-cons f x xs))

  pub sum_more : (c : ℕ) (f : X → ℕ) (xs : List X) → sum_by (λ x. c + f x) xs ≡ length xs * c + sum_by f xs
  sum_more c f [] = let e : 0 ≡ 0 * c + 0 = omega arith in e
  sum_more c f (x ∷ xs) =
      let first = sum_by-cons (λ y. c + f y) x xs in
      let rest = sum_more c f xs in
      first ∙ ap (λ n. c + f x + n) rest ∙ (let e : c + f x + (length xs * c + sum_by f xs) ≡ suc (length xs) * c + (f x + sum_by f xs) = omega arith in e) ∙ ap (λ n. suc (length xs) * c + n) (sym (sum_by-cons f x xs))

  sum_constant : (c : ℕ) (xs : List X) → sum_by (λ x. c) xs ≡ length xs * c
  sum_constant c [] = let e : 0 ≡ 0 * c = omega arith in e
  sum_constant c (x ∷ xs) =
      sum_by-cons (λ y. c) x xs ∙ ap (λ n. c + n) (sum_constant c xs) ∙ (let e : c + length xs * c ≡ suc (length xs) * c = omega arith in e)

  -- if one term is less than the bound
  pub sum_below : (f : X → ℕ) (bound : ℕ) (xs : List X) (x : X) → ((y : X) → Contains xs y → f y ≤ bound) → Contains xs x → suc (f x) ≤ bound → suc (sum_by f xs) ≤ length xs * bound
  sum_below f bound [] x le has less = absurd (omega (arith, has.1))
  sum_below f bound (y ∷ ys) x le (zero, l, e) less =
      let first : suc (f y) ≤ bound = subst (λ z. suc (f z) ≤ bound) (sym e) less in
      let rest = sum_at_most f bound ys (λ z h. le z (suc h.0, omega (arith, h.1), h.2)) in
      subst (λ n. suc n ≤ suc (length ys) * bound) (sym (sum_by-cons f y ys)) (omega (arith, first, rest))
  sum_below f bound (y ∷ ys) x le (suc k, l, e) less =
      let first = le y (0, omega arith, refl) in
      let rest = sum_below f bound ys x (λ z h. le z (suc h.0, omega (arith, h.1), h.2)) (k, omega (arith, l), e) less in
      subst (λ n. suc n ≤ suc (length ys) * bound) (sym (sum_by-cons f y ys)) (omega (arith, first, rest))

  -- if two terms are
  pub sum_below_twice : (f : X → ℕ) (bound : ℕ) (xs : List X) (x y : X) → x ≢ y → ((z : X) → Contains xs z → f z ≤ bound) → Contains xs x → Contains xs y → suc (f x) ≤ bound → suc (f y) ≤ bound → suc (suc (sum_by f xs)) ≤ length xs * bound
  sum_below_twice f bound [] x y ne le hx hy lx ly = absurd (omega (arith, hx.1))
  sum_below_twice f bound (z ∷ zs) x y ne le (zero, l, e) (zero, m, d) lx ly = absurd (ne (sym e ∙ d))
  sum_below_twice f bound (z ∷ zs) x y ne le (zero, l, e) (suc k, m, d) lx ly =
      let first : suc (f z) ≤ bound = subst (λ w. suc (f w) ≤ bound) (sym e) lx in
      let rest = sum_below f bound zs y (λ w h. le w (suc h.0, omega (arith, h.1), h.2)) (k, omega (arith, m), d) ly in
      subst (λ n. suc (suc n) ≤ suc (length zs) * bound) (sym (sum_by-cons f z zs)) (omega (arith, first, rest))
  sum_below_twice f bound (z ∷ zs) x y ne le (suc k, l, e) (zero, m, d) lx ly =
      let first : suc (f z) ≤ bound = subst (λ w. suc (f w) ≤ bound) (sym d) ly in
      let rest = sum_below f bound zs x (λ w h. le w (suc h.0, omega (arith, h.1), h.2)) (k, omega (arith, l), e) lx in
      subst (λ n. suc (suc n) ≤ suc (length zs) * bound) (sym (sum_by-cons f z zs)) (omega (arith, first, rest))
  sum_below_twice f bound (z ∷ zs) x y ne le (suc k, l, e) (suc j, m, d) lx ly =
      let first = le z (0, omega arith, refl) in
      let rest = sum_below_twice f bound zs x y ne (λ w h. le w (suc h.0, omega (arith, h.1), h.2)) (k, omega (arith, l), e) (j, omega (arith, m), d) lx ly in
      subst (λ n. suc (suc n) ≤ suc (length zs) * bound) (sym (sum_by-cons f z zs)) (omega (arith, first, rest))

  -- a sum over lists by their first elements
  pub sum_lists : (f : List X → ℕ) (rests : List (List X)) (xs : List X) → sum_by f (flat_map (λ x. map (λ rest. x ∷ rest) rests) xs) ≡ sum_by (λ x. sum_by (λ rest. f (x ∷ rest)) rests) xs
  sum_lists f rests [] = refl
  sum_lists f rests (x ∷ xs) =
      sum_by-append f (map (λ rest. x ∷ rest) rests) (flat_map (λ y. map (λ rest. y ∷ rest) rests) xs)
      ∙ ap (λ n. n + sum_by f (flat_map (λ y. map (λ rest. y ∷ rest) rests) xs)) (sum_map f (λ rest. x ∷ rest) rests)
      ∙ ap (λ n. sum_by (λ rest. f (x ∷ rest)) rests + n) (sum_lists f rests xs)
      ∙ sym (sum_by-cons (λ y. sum_by (λ rest. f (y ∷ rest)) rests) x xs)

  pub length_lists : (xs : List X) (l : ℕ) → length (lists_of xs l) ≡ length xs ^ l
  length_lists xs zero = sym (nat.pow-zero (length xs))
  length_lists xs (suc l) =
      length-flat_map (λ x. map (λ rest. x ∷ rest) (lists_of xs l)) xs
      ∙ ap (λ (f : X → ℕ). sum_by f xs) (λ i x. length-map (lists_of xs l) (λ rest. x ∷ rest) i)
      ∙ sum_constant (length (lists_of xs l)) xs
      ∙ ap (λ n. length xs * n) (length_lists xs l)
      ∙ sym (nat.pow-succ' (length xs) l)
