-- Which states of a built leaf can meet.
use Rattle.std.proofs.Common.{◌≡◌, ◌⊎◌, inl, inr, subst, ℕ, zero, suc, ◌+◌, ◌<◌, ◌≤◌, Bool, true, false, List, refl, arith}
use Rattle.std.specs.Prelude.{Contains, ◌&&◌, ◌==◌, if◌then◌else◌}
use Rattle.std.specs.List.{list_any}
use Rattle.std.proofs.lemmas.Bool.{cases_lt, eqb-true, and_parts}
use Rattle.pop_leaf.specs.declared.leaf.Move.{Move}
use Rattle.pop_leaf.specs.LeafModel.{silent_move}
use Rattle.pop_leaf.specs.Reaction.{takes_states}
use Rattle.pop_leaf.proofs.Silent.{takes-own, same-other}
use Rattle.cert_base.proofs.WeightedSums.{list_any-from}
use Rattle.comp_counting.specs.FullState.{conversion_move}
use Rattle.comp_counting.proofs.Conversions.{differ_pair, conversion-loud}
use Rattle.comp_trees.proofs.Bits.{double}
use Rattle.comp_flock.specs.CountLeaf.{worth_in, full_move, join_move, count_moves}
use Rattle.comp_flock.specs.Covered.{IsChain}
use Rattle.comp_flock.proofs.WorthLaws.{step-up, high, far, twice-worth}
use Rattle.comp_flock.proofs.MoveLists.{has_filled, has_join, has_conversion}

module _ (keeps : Bool) (ws : List ℕ) (c top k : ℕ) (is : IsChain ws c top k) where
  abbrev w : ℕ → ℕ
  w q = worth_in ws q

  abbrev pub CanMeet : ℕ → ℕ → Type 0
  CanMeet p q = list_any (takes_states p q) (count_moves keeps ws c k) ≡ true

  full-loud : (p q : ℕ) → p ≤ k → q ≤ k → silent_move (full_move k p q) ≡ false
  full-loud p q l m = differ_pair p q (k + 1) (k + 1) (λ e. omega (arith, e, m)) (λ e. omega (arith, e, l))

  -- neither of two that join is worth nothing
  pub join-some : (p q : ℕ) → q ≤ p → p ≤ k → w p + w q ≡ w (p + 1) → 1 ≤ q
  join-some p zero l m e = let none = is.nothing in let up = step-up ws c top k is p m in absurd (omega (arith, none, up, e))
  join-some p (suc q) l m e = omega arith

  join-loud : (p q : ℕ) → q ≤ p → p ≤ k → w p + w q ≡ w (p + 1) → silent_move (join_move p q) ≡ false
  join-loud p q l m e = let some = join-some p q l m e in differ_pair p q (p + 1) 0 (λ f. omega (arith, f, some)) (λ f. omega (arith, f, some, l))

  both : (t : Move) → Contains (count_moves keeps ws c k) t → silent_move t ≡ false → CanMeet t.p t.q × CanMeet t.q t.p
  both t has loud = (
    list_any-from (takes_states t.p t.q) (count_moves keeps ws c k) t has (takes-own t loud),
    list_any-from (takes_states t.q t.p) (count_moves keeps ws c k) t has (let other : takes_states t.q t.p t ≡ true = rw (loud, same-other t.q t.p) refl in other),
  )

  pub full-meets : (q : ℕ) → q ≤ k → CanMeet (k + 1) q × CanMeet q (k + 1)
  full-meets q l = both (conversion_move k q) (has_conversion keeps ws c k q l) (conversion-loud k q l)

  filled-meets : (p q : ℕ) → q ≤ p → p ≤ k → c ≤ w p + w q → CanMeet p q × CanMeet q p
  filled-meets p q l m n = go (keeps && w p + w q == w (p + 1)) refl
    where
      has : (b : Bool) → (keeps && w p + w q == w (p + 1)) ≡ b → Contains (count_moves keeps ws c k) (if b then join_move p q else full_move k p q)
      has b e = subst (λ (b : Bool). Contains (count_moves keeps ws c k) (if b then join_move p q else full_move k p q)) e (has_filled keeps ws c k p q l m n)

      go : (b : Bool) → (keeps && w p + w q == w (p + 1)) ≡ b → CanMeet p q × CanMeet q p
      go true e = both (join_move p q) (has true e) (join-loud p q l m (eqb-true (w p + w q) (w (p + 1)) (and_parts keeps (w p + w q == w (p + 1)) e).1))
      go false e = both (full_move k p q) (has false e) (full-loud p q m (omega (arith, l, m)))

  filled : (p q : ℕ) → p ≤ k → q ≤ k → c ≤ w p + w q → CanMeet p q × CanMeet q p
  filled p q l m n = go (cases_lt p q)
    where
      go : (p < q) ⊎ (q ≤ p) → CanMeet p q × CanMeet q p
      go (inl o) = let meets = filled-meets q p (omega (arith, o)) m (omega (arith, n)) in (meets.1, meets.0)
      go (inr o) = filled-meets p q o l n

  -- together worth as much as the next state
  joined : (p q : ℕ) → q ≤ p → p ≤ k → w p + w q ≡ w (p + 1) → CanMeet p q
  joined p q l m e = go (cases_lt (w p + w q) c)
    where
      go : (w p + w q < c) ⊎ (c ≤ w p + w q) → CanMeet p q
      go (inl n) = (both (join_move p q) (has_join keeps ws c k p q l m n e) (join-loud p q l m e)).0
      go (inr n) = (filled p q m (omega (arith, l, m)) n).0

  pub twin-meets : (q : ℕ) → 1 ≤ q → q ≤ top → CanMeet q q
  twin-meets q l m = joined q q (omega arith) (let low = is.low in omega (arith, low, m)) (twice-worth ws c top k is q l m)

  -- a prefix meets all that are worth no less than what it lacks to the next
  pub prefix-meets : (p z : ℕ) → top < p → p ≤ k → z ≤ k + 1 → w (p + 1) ≤ w p + w z → CanMeet p z
  prefix-meets p z l m n enough = go (cases_lt k z) (cases_lt (w (p + 1)) (w p + w z)) (cases_lt p z)
    where
      go : (k < z) ⊎ (z ≤ k) → (w (p + 1) < w p + w z) ⊎ (w p + w z ≤ w (p + 1)) → (p < z) ⊎ (z ≤ p) → CanMeet p z
      go (inl o) more above = subst (CanMeet p) (let e : k + 1 ≡ z = omega (arith, n, o) in e) (full-meets p m).1
      go (inr o) (inl more) above = (filled p z m o (far ws c top k is p z l m n more)).0
      go (inr o) (inr same) (inl above) =
          let a = high ws c top k is p l (omega (arith, m)) in
          let b = high ws c top k is z (omega (arith, l, above)) n in
          let most = is.below in
          let twice = double top in
          (filled p z m o (omega (arith, a, b, most, twice))).0
      go (inr o) (inr same) (inr below) = joined p z below m (omega (arith, same, enough))
