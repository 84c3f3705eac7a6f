-- Arithmetic of places.
use Rattle.std.proofs.Common.{◌≡◌, ◌⊎◌, inl, inr, subst, ℕ, zero, suc, ◌+◌, ◌-◌, ◌<◌, ◌≤◌, Bool, true, false, List, [], ◌∷◌, length, get_or, refl, ap, arith}
use Rattle.std.specs.Prelude.{ℤ, pos, negsuc, ◌+ℤ◌, nat_lt, nat_abs, fold}
use Rattle.std.proofs.lemmas.Int.{ints}
use Rattle.std.proofs.lemmas.Bool.{lt-ltb, le-ltb, cases_lt}
use Rattle.comp_threshold.specs.ThresholdLeaf.{greater, smaller, threshold_width, span_of, place_of_value, threshold_place, threshold_follower, joined_value, leftover, threshold_output, threshold_value}
use Rattle.cert_base.proofs.WeightBounds.{nat_abs-pos}

-- ---- the smaller one

record IsSmaller (a b m : ℕ) : Type 0 where
  first : m ≤ a
  second : m ≤ b
  one : (m ≡ a) ⊎ (m ≡ b)

smaller_is : (a b : ℕ) → IsSmaller a b (smaller a b)
smaller_is a b = go (cases_lt a b)
  where
    go : (a < b) ⊎ (b ≤ a) → IsSmaller a b (smaller a b)
    go (inl l) = rw (lt-ltb a b l) (record { first = omega arith; second = omega arith; one = inl refl })
    go (inr l) = rw (le-ltb a b l) (record { first = omega arith; second = omega arith; one = inr refl })

-- what is known of a sum that is cut
pub record IsCut (s u v j k : ℕ) : Type 0 where
  pub joined : j ≤ s + s
  pub leftover : k ≤ s + s
  pub whole : j + k ≡ u + v
  pub low : ((j ≡ 0) × (u + v ≤ s)) ⊎ ((j ≡ s + s) × (s + s + s ≤ u + v)) ⊎ (j + s ≡ u + v)

pub cut : (s u v : ℕ) → u ≤ s + s → v ≤ s + s → IsCut s u v (joined_value s u v) (leftover s u v)
cut s u v l m = go (joined_value s u v) (smaller_is (s + s) (u + v - s))
  where
    go : (j : ℕ) → IsSmaller (s + s) (u + v - s) j → IsCut s u v j (u + v - j)
    go j is = elim is.one [
      | inl e ↦ record { joined = omega arith; leftover = omega arith; whole = omega arith; low = inr (inl (e, (let below = is.second in omega arith))) }
      | inr e ↦ elim (cases_lt (u + v) s) [
        | inl k ↦ record { joined = omega arith; leftover = omega arith; whole = omega arith; low = inl (omega arith, omega arith) }
        | inr k ↦ record { joined = omega arith; leftover = omega arith; whole = omega arith; low = inr (inr (omega arith)) }
      ]
    ]

-- ---- states and places

pub place-leader : (s q : ℕ) → q < span_of s → threshold_place s q ≡ q
place-leader s q l = rw (lt-ltb q (span_of s) l) refl

pub place-false : (s v : ℕ) → v < span_of s → threshold_place s (span_of s + v) ≡ v
place-false s v l =
    let first = le-ltb (span_of s + v) (span_of s) (omega arith) in
    let second = lt-ltb (span_of s + v) (span_of s + span_of s) (omega arith) in
    rw (first, second) (omega arith)

pub place-true : (s v : ℕ) → threshold_place s (span_of s + span_of s + v) ≡ v
place-true s v =
    let first = le-ltb (span_of s + span_of s + v) (span_of s) (omega arith) in
    let second = le-ltb (span_of s + span_of s + v) (span_of s + span_of s) (omega arith) in
    rw (first, second) (omega arith)

pub place-follower : (s v : ℕ) (bit : Bool) → v < span_of s → threshold_place s (threshold_follower s bit v) ≡ v
place-follower s v true l = place-true s v
place-follower s v false l = place-false s v l

pub follower-above : (s v : ℕ) (bit : Bool) → span_of s ≤ threshold_follower s bit v
follower-above s v true = omega arith
follower-above s v false = omega arith

pub follower-below : (s v : ℕ) (bit : Bool) → v < span_of s → threshold_follower s bit v < span_of s + span_of s + span_of s
follower-below s v true l = omega arith
follower-below s v false l = omega arith

-- a state is a leader or a follower
pub data Kind (s : ℕ) : ℕ → Type 0 where
  a_leader : (q : ℕ) → q < span_of s → Kind s q
  a_follower : (bit : Bool) (v : ℕ) → v < span_of s → Kind s (threshold_follower s bit v)

pub kind_of : (s q : ℕ) → q < span_of s + span_of s + span_of s → Kind s q
kind_of s q l = first (cases_lt q (span_of s))
  where
    second : (q < span_of s + span_of s) ⊎ (span_of s + span_of s ≤ q) → span_of s ≤ q → Kind s q
    second (inl m) k = subst (Kind s) (let e : span_of s + (q - span_of s) ≡ q = omega arith in e) (a_follower false (q - span_of s) (omega arith))
    second (inr m) k = subst (Kind s) (let e : span_of s + span_of s + (q - (span_of s + span_of s)) ≡ q = omega arith in e) (a_follower true (q - (span_of s + span_of s)) (omega arith))

    first : (q < span_of s) ⊎ (span_of s ≤ q) → Kind s q
    first (inl m) = a_leader q m
    first (inr m) = second (cases_lt q (span_of s + span_of s)) m

pub place-below : (s q : ℕ) → Kind s q → threshold_place s q < span_of s
place-below s _ (a_leader q l) = rw (place-leader s q l) l
place-below s _ (a_follower bit v l) = rw (place-follower s v bit l) l

pub output-leader : (s t p : ℕ) → p < span_of s → threshold_output s t p ≡ nat_lt p t
output-leader s t p l = rw (lt-ltb p (span_of s) l) refl

pub output-follower : (s t v : ℕ) (bit : Bool) → v < span_of s → threshold_output s t (threshold_follower s bit v) ≡ bit
output-follower s t v true l =
    let first = le-ltb (span_of s + span_of s + v) (span_of s) (omega arith) in
    let second = le-ltb (span_of s + span_of s + v) (span_of s + span_of s) (omega arith) in
    rw (first, second) refl
output-follower s t v false l =
    let first = le-ltb (span_of s + v) (span_of s) (omega arith) in
    let second = lt-ltb (span_of s + v) (span_of s + span_of s) (omega arith) in
    rw (first, second) refl

-- ---- signed values and places

pub place-within : (s : ℕ) (u : ℤ) → nat_abs u ≤ s → pos (place_of_value s u) ≡ (u +ℤ pos s)
place-within s (pos u) l = omega (arith, ints)
place-within s (negsuc u) l = nat_abs-pos (negsuc u +ℤ pos s) (omega (arith, ints))

pub place-most : (s : ℕ) (u : ℤ) → nat_abs u ≤ s → place_of_value s u < span_of s
place-most s (pos u) l = let e = place-within s (pos u) l in omega (arith, ints, e)
place-most s (negsuc u) l = let e = place-within s (negsuc u) l in omega (arith, ints, e)

pub value-place : (s : ℕ) (u : ℤ) → nat_abs u ≤ s → threshold_value s (place_of_value s u) ≡ u
value-place s u l =
    let e = place-within s u l in
    let f = place-leader s (place_of_value s u) (place-most s u l) in
    let g = ap pos f in
    omega (arith, ints, e, g)

-- ---- the width

greater_is : (a b : ℕ) → (a ≤ greater a b) × (b ≤ greater a b)
greater_is a b = go (cases_lt a b)
  where
    go : (a < b) ⊎ (b ≤ a) → (a ≤ greater a b) × (b ≤ greater a b)
    go (inl l) = rw (lt-ltb a b l) (omega arith, omega arith)
    go (inr l) = rw (le-ltb a b l) (omega arith, omega arith)

abbrev wider : ℕ → ℤ → ℕ
wider s a = greater s (nat_abs a)

fold-grows : (s : ℕ) (coefs : List ℤ) → s ≤ fold wider s coefs
fold-grows s [] = omega arith
fold-grows s (a ∷ coefs) =
    let rest = fold-grows (wider s a) coefs in let is = greater_is s (nat_abs a) in omega (arith, is.0, rest)

fold-coef : (s : ℕ) (coefs : List ℤ) (i : ℕ) (d : ℤ) → i < length coefs → nat_abs (get_or coefs i d) ≤ fold wider s coefs
fold-coef s [] i d l = absurd (omega arith)
fold-coef s (a ∷ coefs) zero d l =
    let rest = fold-grows (wider s a) coefs in let is = greater_is s (nat_abs a) in omega (arith, is.1, rest)
fold-coef s (a ∷ coefs) (suc i) d l = fold-coef (wider s a) coefs i d (omega arith)

pub width-bound : (coefs : List ℤ) (bound : ℤ) → nat_abs bound + 1 ≤ threshold_width coefs bound
width-bound coefs bound = fold-grows (nat_abs bound + 1) coefs

pub width-coef : (coefs : List ℤ) (bound : ℤ) (i : ℕ) (d : ℤ) → i < length coefs → nat_abs (get_or coefs i d) ≤ threshold_width coefs bound
width-coef coefs bound i d l = fold-coef (nat_abs bound + 1) coefs i d l
