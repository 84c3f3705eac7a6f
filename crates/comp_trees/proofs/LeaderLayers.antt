-- The kinds of moves of a leaf with leaders wake no earlier kind.
use Rattle.std.proofs.Common.{◌≡◌, ◌≢◌, ◌⊎◌, inl, inr, ℕ, ◌+◌, ◌<◌, ◌≤◌, Bool, true, false, refl, ap, sym, ◌∙◌, arith}
use Rattle.std.specs.Prelude.{if◌then◌else◌, ◌==◌, nat_lt, Contains}
use Rattle.std.proofs.lemmas.Bool.{eq-eqb, ne_eqb, eqb-true, lt-ltb, le-ltb, ltb-false, cases_eq}
use Rattle.std.proofs.lemmas.Bool.Decides.{eqb_tells}
use Rattle.std.proofs.lemmas.List.Elements.{All-contains}
use Rattle.pop_leaf.specs.declared.leaf.Move.{Move}
use Rattle.pop_leaf.specs.LeafModel.{LeafModel, silent_move, one_at}
use Rattle.cert_base.specs.ValidLayers.{IsEnabledBefore}
use Rattle.comp_trees.specs.SortedLayers.{leader_kind, IsLeaderProtocol}

-- ---- kinds

pub kind-pair : (n : ℕ) (t : Move) → t.q < n → leader_kind n t ≡ 0
kind-pair n t l = rw (lt-ltb t.q n l) refl

pub kind-below : (n : ℕ) (t : Move) → leader_kind n t < 3
kind-below n t = go (nat_lt t.q n) (t.r == t.p) (nat_lt t.q t.s)
  where
    go : (a b c : Bool) → (if a then 0 else (if b then (if c then 1 else 2) else 0)) < 3
    go true b c = omega arith
    go false false c = omega arith
    go false true true = omega arith
    go false true false = omega arith

pub kind-first : (n : ℕ) (t : Move) → n ≤ t.q → t.r ≢ t.p → leader_kind n t ≡ 0
kind-first n t l ne = let a = le-ltb t.q n l in let b = ne_eqb t.r t.p ne in rw (a, b) refl

pub kind-up : (n : ℕ) (t : Move) → n ≤ t.q → t.r ≡ t.p → t.q < t.s → leader_kind n t ≡ 1
kind-up n t l e m = let a = le-ltb t.q n l in let b = eq-eqb t.r t.p e in let c = lt-ltb t.q t.s m in rw (a, b, c) refl

pub kind-down : (n : ℕ) (t : Move) → n ≤ t.q → t.r ≡ t.p → t.s ≤ t.q → leader_kind n t ≡ 2
kind-down n t l e m = let a = le-ltb t.q n l in let b = eq-eqb t.r t.p e in let c = le-ltb t.q t.s m in rw (a, b, c) refl

-- a move that isn't of the first kind turns a follower
pub kind-turn : (n : ℕ) (t : Move) → 0 < leader_kind n t → (n ≤ t.q) × (t.r ≡ t.p)
kind-turn n t = go (nat_lt t.q n) (t.r == t.p) refl refl
  where
    go : (a b : Bool) → nat_lt t.q n ≡ a → (t.r == t.p) ≡ b → 0 < (if a then 0 else (if b then (if nat_lt t.q t.s then 1 else 2) else 0)) → (n ≤ t.q) × (t.r ≡ t.p)
    go true b e f l = absurd (omega arith)
    go false false e f l = absurd (omega arith)
    go false true e f l = (ltb-false t.q n e, eqb-true t.r t.p f)

-- ---- what was enabled before

pub one_if : (x z : ℕ) → ((x ≡ z) × (one_at x z ≡ 1)) ⊎ ((x ≢ z) × (one_at x z ≡ 0))
one_if x z = elim (eqb_tells x z) [ inl h ↦ inl (h.1, rw h.0 refl) | inr h ↦ inr (h.1, rw h.0 refl) ]

one_most : (x z : ℕ) → one_at x z ≤ 1
one_most x z = elim (one_if x z) [ inl h ↦ omega (arith, h.1) | inr h ↦ omega (arith, h.1) ]

-- a move that takes no new follower was enabled before the turn
same_before : (t u : Move) → t.r ≡ t.p → t.s ≢ u.p → t.s ≢ u.q → IsEnabledBefore u t u
same_before t u e p q z = elim (one_if t.s z) [
  | inl h ↦ (
      let first : one_at u.p z ≡ 0 = none u.p (λ f. p (h.0 ∙ sym f)) in
      let second : one_at u.q z ≡ 0 = none u.q (λ f. q (h.0 ∙ sym f)) in
      omega (arith, first, second))
  | inr h ↦ (let f = ap (λ k. one_at k z) e in omega (arith, h.1, f))
]
  where
    none : (x : ℕ) → x ≢ z → one_at x z ≡ 0
    none x ne = elim (one_if x z) [ inl h ↦ absurd (ne h.0) | inr h ↦ h.1 ]

-- another leader that takes the new follower could meet the first leader before the turn
leaders_before : (t u v : Move) → t.r ≡ t.p → u.q ≡ t.s → u.p ≢ t.p → ((v.p ≡ t.p) × (v.q ≡ u.p)) ⊎ ((v.p ≡ u.p) × (v.q ≡ t.p)) → IsEnabledBefore v t u
leaders_before t u v e f ne pair z =
    let r_is = ap (λ k. one_at k z) e in
    let q_is = ap (λ k. one_at k z) f in
    let both : one_at v.p z + one_at v.q z ≡ one_at t.p z + one_at u.p z = sum pair in
    let few : one_at t.p z + one_at u.p z ≤ 1 = not_both in
    omega (arith, r_is, q_is, both, few)
  where
    sum : ((v.p ≡ t.p) × (v.q ≡ u.p)) ⊎ ((v.p ≡ u.p) × (v.q ≡ t.p)) → one_at v.p z + one_at v.q z ≡ one_at t.p z + one_at u.p z
    sum (inl h) = let a = ap (λ k. one_at k z) h.0 in let b = ap (λ k. one_at k z) h.1 in omega (arith, a, b)
    sum (inr h) = let a = ap (λ k. one_at k z) h.0 in let b = ap (λ k. one_at k z) h.1 in omega (arith, a, b)

    not_both : one_at t.p z + one_at u.p z ≤ 1
    not_both = elim (one_if t.p z) [
      | inl h ↦ elim (one_if u.p z) [ inl k ↦ absurd (ne (k.0 ∙ sym h.0)) | inr k ↦ omega (arith, h.1, k.1) ]
      | inr h ↦ let m = one_most u.p z in omega (arith, h.1, m)
    ]

-- no kind wakes an earlier one
pub leader_wakes : (leaf : LeafModel) (n : ℕ) → IsLeaderProtocol leaf n → (t u : Move) → Contains leaf.moves t → Contains leaf.moves u → silent_move t ≡ false → silent_move u ≡ false → leader_kind n u < leader_kind n t → (u' : Move) × Contains leaf.moves u' × (silent_move u' ≡ false) × (leader_kind n u' ≤ leader_kind n u) × IsEnabledBefore u' t u
leader_wakes leaf n is t u ct cu lt lu l = go (cases_eq u.q t.s)
  where
    turn : (n ≤ t.q) × (t.r ≡ t.p)
    turn = kind-turn n t (omega arith)

    follower : n ≤ t.s
    follower = All-contains (λ t. n ≤ t.s) leaf.moves t is.follows ct

    lead : u.p < n
    lead = All-contains (λ t. t.p < n) leaf.moves u is.leads cu

    first : t.p < n
    first = All-contains (λ t. t.p < n) leaf.moves t is.leads ct

    apart : (a b : ℕ) → a < n → n ≤ b → b ≢ a
    apart a b k m e = omega arith

    go : (u.q ≡ t.s) ⊎ (u.q ≡ t.s → ⊥) → (u' : Move) × Contains leaf.moves u' × (silent_move u' ≡ false) × (leader_kind n u' ≤ leader_kind n u) × IsEnabledBefore u' t u
    go (inl e) =
        let other = is.settled t u ct cu turn.0 turn.1 e in
        let v = is.meet t.p u.p first lead (λ f. other (sym f)) in
        let zero_kind = kind-pair n v.0 v.2 in
        (v.0, v.1, All-contains (λ t. silent_move t ≡ false) leaf.moves v.0 is.loud v.1, (let m : leader_kind n v.0 ≤ leader_kind n u = omega (arith, zero_kind) in m), leaders_before t u v.0 turn.1 e other v.3)
    go (inr ne) = (u, cu, lu, (let m : leader_kind n u ≤ leader_kind n u = omega arith in m), same_before t u turn.1 (apart u.p t.s lead follower) (λ e. ne (sym e)))
