-- Runs of moves with the same first state.
use Rattle.std.proofs.Common.{◌≡◌, ◌⊎◌, inl, inr, ℕ, ◌+◌, ◌<◌, ◌≤◌, List, length, get_or, ap, subst, ◌∙◌, arith}
use Rattle.std.specs.Prelude.{Some, slice_get}
use Rattle.std.specs.BTreeSet.{BTreeSet}
use Rattle.std.proofs.lemmas.Bool.{cases_lt, both_ways}
use Rattle.std.proofs.lemmas.Option.{slice_get-get_or}
use Rattle.pop_leaf.specs.declared.leaf.Move.{Move}
use Rattle.pop_leaf.specs.LeafModel.{LeafModel}
use Rattle.pop_settle.specs.Groups.{holds, AreGroups, IsEmptyGroup}
use Rattle.pop_settle.specs.Search.{IsIdle, BeginAlike, IsStretch}
use Rattle.base_laws.proofs.Options.{same_value, item_within}

alike_itself : (leaf : LeafModel) (moves : List ℕ) (k j : ℕ) → j ≡ k → BeginAlike leaf moves k j
alike_itself leaf moves k j e step step' t t' h m h' m' =
    let same : step' ≡ step = same_value (slice_get moves k) step' step (subst (λ (n : ℕ). slice_get moves n ≡ Some step') e h') h in
    let one : t' ≡ t = same_value (slice_get leaf.moves step) t' t (subst (λ (n : ℕ). slice_get leaf.moves n ≡ Some t') same m') m in
    ap (λ (u : Move). u.p) one

-- what is said of two moves by their numbers
pub alike_next : (leaf : LeafModel) (moves : List ℕ) (k j one other : ℕ) → slice_get moves k ≡ Some one → slice_get moves j ≡ Some other
    → ((t t' : Move) → slice_get leaf.moves one ≡ Some t → slice_get leaf.moves other ≡ Some t' → t'.p ≡ t.p) → BeginAlike leaf moves k j
alike_next leaf moves k j one other h h' alike step step' t t' a m a' m' =
    let first : step ≡ one = same_value (slice_get moves k) step one a h in
    let second : step' ≡ other = same_value (slice_get moves j) step' other a' h' in
    alike t t' (subst (λ (n : ℕ). slice_get leaf.moves n ≡ Some t) first m) (subst (λ (n : ℕ). slice_get leaf.moves n ≡ Some t') second m')

-- one move more before a run
pub longer_run : (leaf : LeafModel) (moves : List ℕ) (k end : ℕ) → k + 1 < length moves → get_or moves (k + 1) 0 < length leaf.moves → BeginAlike leaf moves k (k + 1) → IsStretch leaf moves (k + 1) end → IsStretch leaf moves k end
longer_run leaf moves k end l m alike run =
    record { behind = (let l = run.behind in let n : k < end = omega arith in n); within = run.within; alike = λ j l n. by_place j l n (cases_lt k j) }
  where
    by_place : (j : ℕ) → k ≤ j → j < end → (k < j) ⊎ (j ≤ k) → BeginAlike leaf moves k j
    by_place j l' n (inr r) = alike_itself leaf moves k j (omega arith)
    by_place j l' n (inl r) = λ s s' u u' a b a' b'.
        let next = slice_get-get_or moves (k + 1) 0 l in
        let t = item_within leaf.moves (get_or moves (k + 1) 0) m in
        run.alike j (omega arith) n (get_or moves (k + 1) 0) s' t.0 u' next t.1 a' b' ∙ alike s (get_or moves (k + 1) 0) u t.0 a b next t.1

-- if nobody holds the first state of a run, all its moves are idle
pub run_idle : (leaf : LeafModel) (moves states : List ℕ) (groups : List (BTreeSet ℕ)) (k end step : ℕ) (t : Move) → slice_get moves k ≡ Some step → slice_get leaf.moves step ≡ Some t → t.p < length groups → AreGroups states groups → IsEmptyGroup groups t.p → IsStretch leaf moves k end
    → ((i : ℕ) → i < k → IsIdle leaf moves states i) → (i : ℕ) → i < end → IsIdle leaf moves states i
run_idle leaf moves states groups k end step t h m p_in are empty run before i l = by_place (cases_lt i k)
  where
    by_place : (i < k) ⊎ (k ≤ i) → IsIdle leaf moves states i
    by_place (inl n) = before i n
    by_place (inr n) = λ step' t' a b h' m' can.
        let same : t'.p ≡ t.p = run.alike i n l step step' t t' h m h' m' in
        both_ways (holds groups t.p a) (empty a) ((are t.p a p_in).1 (subst (λ (q : ℕ). slice_get states a ≡ Some q) same can.first))
