-- How many agents are in a state, before and after a step.
use Rattle.std.proofs.Common.{◌≡◌, ◌⊎◌, inl, inr, ℕ, ◌+◌, List, refl, arith}
use Rattle.std.specs.Prelude.{Some, slice_get, slice_set, ◌==◌, count_by}
use Rattle.std.proofs.lemmas.List.Sums.{sum_by-set}
use Rattle.std.proofs.lemmas.Option.{get_or_from_slice_get, slice_get_within}
use Rattle.pop_leaf.specs.declared.leaf.Move.{Move}
use Rattle.pop_leaf.specs.LeafModel.{LeafModel, one_at, times_in_pair, pre, post}
use Rattle.pop_leaf.specs.Step.{Follows, LeafStep}
use Rattle.base_laws.proofs.Lists.{slice_get-set_other}

-- how many agents are in state z
abbrev pub number_in : ℕ → List ℕ → ℕ
number_in z crowd = count_by (λ x. x == z) crowd

number_in-set : (z : ℕ) (crowd : List ℕ) (a x y : ℕ) → slice_get crowd a ≡ Some x → number_in z (slice_set crowd a y) + one_at x z ≡ number_in z crowd + one_at y z
number_in-set z crowd a x y h =
    let e = sum_by-set (λ x. one_at x z) crowd a y 0 (slice_get_within crowd a x h) in
    simp (get_or_from_slice_get crowd a x 0 h) at e

-- the numbers before and after a step, by the states of the two agents
pub number_in-meets : (leaf : LeafModel) (z : ℕ) (before after : List ℕ) (s : LeafStep leaf before after) → number_in z after + times_in_pair s.x s.y z ≡ number_in z before + times_in_pair s.x' s.y' z
number_in-meets leaf z before after s =
    let first = number_in-set z before s.a s.x s.x' s.a_had in
    let second = number_in-set z (slice_set before s.a s.x') s.b s.y s.y' (slice_get-set_other before s.a s.b s.x' s.y s.different s.b_had) in
    rw s.others_stay (omega (arith, first, second))

pub before_pre : (t : Move) (x y x' y' z : ℕ) → Follows t x y x' y' ⊎ Follows t y x y' x' → times_in_pair x y z ≡ pre t z
before_pre t x y x' y' z (inl f) = rw (f.0, f.1) refl
before_pre t x y x' y' z (inr f) = rw (f.0, f.1) (omega arith)

pub after_post : (t : Move) (x y x' y' z : ℕ) → Follows t x y x' y' ⊎ Follows t y x y' x' → times_in_pair x' y' z ≡ post t z
after_post t x y x' y' z (inl f) = rw (f.2, f.3) refl
after_post t x y x' y' z (inr f) = rw (f.2, f.3) (omega arith)
