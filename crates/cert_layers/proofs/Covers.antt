-- Pairs of states as multisets.
use Rattle.std.proofs.Common.{◌≡◌, ◌≢◌, ◌⊎◌, inl, inr, ℕ, ◌+◌, ◌-◌, ◌≤◌, Bool, true, false, if◌then◌else◌, refl, ap, sym, ◌∙◌, arith}
use Rattle.std.specs.Prelude.{◌==◌}
use Rattle.std.proofs.lemmas.Bool.{eq-eqb, eqb-true, eqb-false, or_cases, or_parts, false≢true}
use Rattle.std.proofs.lemmas.Bool.Decides.{eqb_tells}
use Rattle.pop_leaf.specs.declared.leaf.Move.{Move}
use Rattle.pop_leaf.specs.LeafModel.{one_at, times_in_pair, post}
use Rattle.cert_layers.specs.Waking.{brings_state, brings_two_states}
use Rattle.pop_leaf.proofs.Silent.{one_self}

-- a state is z and counts once, or is another and doesn't count
abbrev pub One : ℕ → ℕ → Type 0
One x z = ((x ≡ z) × (one_at x z ≡ 1)) ⊎ ((x ≢ z) × (one_at x z ≡ 0))

pub one : (x z : ℕ) → One x z
one x z = elim (eqb_tells x z) [ inl h ↦ inl (h.1, rw h.0 refl) | inr h ↦ inr (h.1, rw h.0 refl) ]

pub at_equal : (x z : ℕ) → x ≡ z → one_at x z ≡ 1
at_equal x z e = rw (eq-eqb x z e) refl

pub at_other : (x z : ℕ) → x ≢ z → one_at x z ≡ 0
at_other x z ne = elim (one x z) [ inl h ↦ absurd (ne h.0) | inr h ↦ h.1 ]

-- x and y are the pair a and b
abbrev pub Like : ℕ → ℕ → ℕ → ℕ → Type 0
Like a b x y = ((x ≡ a) × (y ≡ b)) ⊎ ((x ≡ b) × (y ≡ a))

pub times-like : (a b x y z : ℕ) → Like a b x y → times_in_pair a b z ≡ times_in_pair x y z
times-like a b x y z (inl h) = rw (h.0, h.1) refl
times-like a b x y z (inr h) = rw (h.0, h.1) (omega arith)

-- a pair that is within another pair is that pair
pub within_two : (a b p q : ℕ) → ((z : ℕ) → times_in_pair a b z ≤ times_in_pair p q z) → Like a b p q
within_two a b p q each = by_a (one p a)
  where
    by_q : p ≢ a → q ≡ a → Like a b p q
    by_q ne e = elim (one q b) as (λ _. Like a b p q) [
      | inl f ↦ absurd (omega (arith, each a, one_self a, at_equal b a (sym f.0 ∙ e), at_other p a ne, at_equal q a e))
      | inr g ↦ elim (one p b) as (λ _. Like a b p q) [
        | inl h ↦ inr (h.0, e)
        | inr h ↦ absurd (omega (arith, each b, one_self b, g.1, h.1))
      ]
    ]

    by_a : One p a → Like a b p q
    by_a (inl e) = elim (one q b) as (λ _. Like a b p q) [
      | inl f ↦ inl (e.0, f.0)
      | inr g ↦ elim (one p b) as (λ _. Like a b p q) [
        | inl h ↦ absurd (omega (arith, each b, one_self b, at_equal a b (sym e.0 ∙ h.0), g.1, h.1))
        | inr h ↦ absurd (omega (arith, each b, one_self b, g.1, h.1))
      ]
    ]
    by_a (inr ne) = elim (one q a) as (λ _. Like a b p q) [
      | inl f ↦ by_q ne.0 f.0
      | inr g ↦ absurd (omega (arith, each a, one_self a, ne.1, g.1))
    ]

-- a pair that is within three states is two of them
abbrev pub TwoOf : ℕ → ℕ → ℕ → ℕ → ℕ → Type 0
TwoOf a b p q o = Like a b p q ⊎ (Like a b p o ⊎ Like a b q o)

pub within_three : (a b p q o : ℕ) → ((z : ℕ) → times_in_pair a b z ≤ times_in_pair p q z + one_at o z) → TwoOf a b p q o
within_three a b p q o each = by_a (one p a)
  where
    -- a is p
    first : p ≡ a → TwoOf a b p q o
    first e = elim (one q b) as (λ _. TwoOf a b p q o) [
      | inl f ↦ inl (inl (e, f.0))
      | inr g ↦ elim (one o b) as (λ _. TwoOf a b p q o) [
        | inl f ↦ inr (inl (inl (e, f.0)))
        | inr h ↦ elim (one p b) as (λ _. TwoOf a b p q o) [
          | inl k ↦ absurd (omega (arith, each b, one_self b, at_equal a b (sym e ∙ k.0), g.1, h.1, k.1))
          | inr k ↦ absurd (omega (arith, each b, one_self b, g.1, h.1, k.1))
        ]
      ]
    ]

    -- a is q, and not p
    second : p ≢ a → q ≡ a → TwoOf a b p q o
    second ne e = elim (one p b) as (λ _. TwoOf a b p q o) [
      | inl f ↦ inl (inr (f.0, e))
      | inr g ↦ elim (one o b) as (λ _. TwoOf a b p q o) [
        | inl f ↦ inr (inr (inl (e, f.0)))
        | inr h ↦ elim (one q b) as (λ _. TwoOf a b p q o) [
          | inl k ↦ absurd (omega (arith, each b, one_self b, at_equal a b (sym e ∙ k.0), g.1, h.1, k.1))
          | inr k ↦ absurd (omega (arith, each b, one_self b, g.1, h.1, k.1))
        ]
      ]
    ]

    -- a is o, and neither p nor q
    third : o ≡ a → TwoOf a b p q o
    third e = elim (one p b) as (λ _. TwoOf a b p q o) [
      | inl f ↦ inr (inl (inr (f.0, e)))
      | inr g ↦ elim (one q b) as (λ _. TwoOf a b p q o) [
        | inl f ↦ inr (inr (inr (f.0, e)))
        | inr h ↦ elim (one o b) as (λ _. TwoOf a b p q o) [
          | inl k ↦ absurd (omega (arith, each b, one_self b, at_equal a b (sym e ∙ k.0), g.1, h.1, k.1))
          | inr k ↦ absurd (omega (arith, each b, one_self b, g.1, h.1, k.1))
        ]
      ]
    ]

    by_a : One p a → TwoOf a b p q o
    by_a (inl e) = first e.0
    by_a (inr ne) = elim (one q a) as (λ _. TwoOf a b p q o) [
      | inl f ↦ second ne.0 f.0
      | inr g ↦ elim (one o a) as (λ _. TwoOf a b p q o) [
        | inl f ↦ third f.0
        | inr h ↦ absurd (omega (arith, each a, one_self a, ne.1, g.1, h.1))
      ]
    ]

-- what a move that brings m leaves of m and o
module _ (t : Move) (m o : ℕ) (b : brings_state t m ≡ true) where
  brings_second : (m == t.r) ≡ false → m ≡ t.s
  brings_second e = elim (or_cases (m == t.r) (m == t.s) b) [
    | inl h ↦ absurd (false≢true (sym e ∙ h))
    | inr h ↦ eqb-true m t.s h
  ]

  pub left_none : brings_two_states t m o ≡ true → (z : ℕ) → times_in_pair m o z - post t z ≡ 0
  left_none both z = by_first (m == t.r) refl both
    where
      by_first : (first : Bool) → (m == t.r) ≡ first → (if first then o == t.s else o == t.r) ≡ true → times_in_pair m o z - post t z ≡ 0
      by_first true e f = rw (eqb-true m t.r e, eqb-true o t.s f) (omega arith)
      by_first false e f = rw (brings_second e, eqb-true o t.r f) (omega arith)

  -- o stays if the other state that the move brings is not o
  stays : (other : ℕ) → o ≢ other → (z : ℕ) → one_at m z + one_at o z - (one_at m z + one_at other z) ≡ one_at o z
  stays other ne z = elim (one o z) [
    | inl h ↦ (let none : one_at other z ≡ 0 = at_other other z (λ e. ne (h.0 ∙ sym e)) in omega (arith, none, h.1))
    | inr h ↦ omega (arith, h.1)
  ]

  pub left_one : brings_two_states t m o ≡ false → (z : ℕ) → times_in_pair m o z - post t z ≡ one_at o z
  left_one both z = by_first (m == t.r) refl both
    where
      by_first : (first : Bool) → (m == t.r) ≡ first → (if first then o == t.s else o == t.r) ≡ false → times_in_pair m o z - post t z ≡ one_at o z
      by_first true e f =
          let same : one_at m z ≡ one_at t.r z = ap (λ x. one_at x z) (eqb-true m t.r e) in
          omega (arith, stays t.s (eqb-false o t.s f) z, same)
      by_first false e f =
          let same : one_at m z ≡ one_at t.s z = ap (λ x. one_at x z) (brings_second e) in
          omega (arith, stays t.r (eqb-false o t.r f) z, same)

-- a move that brings neither x nor y leaves both
pub left_both : (t : Move) (x y : ℕ) → brings_state t x ≡ false → brings_state t y ≡ false → (z : ℕ) → times_in_pair x y z - post t z ≡ times_in_pair x y z
left_both t x y b c z = elim (one t.r z) [
  | inl h ↦ (let none = absent t.r (eqb-false x t.r (or_parts (x == t.r) (x == t.s) b).0) (eqb-false y t.r (or_parts (y == t.r) (y == t.s) c).0) h.0 in omega (arith, none))
  | inr h ↦ elim (one t.s z) as (λ _. times_in_pair x y z - post t z ≡ times_in_pair x y z) [
    | inl k ↦ (let none = absent t.s (eqb-false x t.s (or_parts (x == t.r) (x == t.s) b).1) (eqb-false y t.s (or_parts (y == t.r) (y == t.s) c).1) k.0 in omega (arith, none))
    | inr k ↦ omega (arith, h.1, k.1)
  ]
]
  where
    absent : (r : ℕ) → x ≢ r → y ≢ r → r ≡ z → times_in_pair x y z ≡ 0
    absent r ne ne' e =
        let none : one_at x z ≡ 0 = at_other x z (λ f. ne (f ∙ sym e)) in
        let none' : one_at y z ≡ 0 = at_other y z (λ f. ne' (f ∙ sym e)) in
        omega (arith, none, none')
