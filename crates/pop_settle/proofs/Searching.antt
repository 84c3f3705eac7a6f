-- Places of a list whose moves nobody can make.
use Rattle.std.proofs.Common.{◌≡◌, ◌⊎◌, inl, inr, ℕ, ◌+◌, ◌<◌, ◌≤◌, List, length, subst, arith}
use Rattle.std.specs.Prelude.{Some, slice_get}
use Rattle.std.proofs.lemmas.Bool.{cases_lt}
use Rattle.std.proofs.lemmas.Option.{slice_get_within}
use Rattle.pop_leaf.specs.declared.leaf.Move.{Move}
use Rattle.pop_leaf.specs.LeafModel.{LeafModel}
use Rattle.pop_settle.specs.Settlement.{CanMake}
use Rattle.pop_settle.specs.Search.{IsIdle}
use Rattle.base_laws.proofs.Options.{same_value}

pub idle_more : (leaf : LeafModel) (moves states : List ℕ) (n step : ℕ) (t : Move) → slice_get moves n ≡ Some step → slice_get leaf.moves step ≡ Some t → ((k : ℕ) → k < n → IsIdle leaf moves states k) → ((a b : ℕ) → CanMake states t a b → ⊥) → (k : ℕ) → k < n + 1 → IsIdle leaf moves states k
idle_more leaf moves states n step t h m before none k l step' t' a b h' m' can = by_place (cases_lt k n)
  where
    by_place : (k < n) ⊎ (n ≤ k) → ⊥
    by_place (inl j) = before k j step' t' a b h' m' can
    by_place (inr j) =
        let here : k ≡ n = omega arith in
        let same : step' ≡ step = same_value (slice_get moves n) step' step (subst (λ (i : ℕ). slice_get moves i ≡ Some step') here h') h in
        let same_move : t' ≡ t = same_value (slice_get leaf.moves step) t' t (subst (λ (i : ℕ). slice_get leaf.moves i ≡ Some t') same m') m in
        none a b (subst (λ (u : Move). CanMake states u a b) same_move can)

pub idle_all : (leaf : LeafModel) (moves states : List ℕ) (n : ℕ) → length moves ≤ n → ((k : ℕ) → k < n → IsIdle leaf moves states k) → (k : ℕ) → IsIdle leaf moves states k
idle_all leaf moves states n l before k step t a b h m can =
    before k (omega (arith, slice_get_within moves k step h, l)) step t a b h m can
