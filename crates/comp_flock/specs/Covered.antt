-- Covered: what the code and all nodes of a built leaf rest on.
use Rattle.std.specs.Prelude.{◌≡◌, ◌≤◌, ◌<◌, ℕ, ◌+◌, ◌^◌, Bool, true, List, length, ℤ, pos, ◌-ℤ◌, nat_abs, All, slice_index_or}
use Rattle.std.specs.List.{list_all}
use Rattle.pop_leaf.specs.LeafModel.{IsLeaf}
use Rattle.pres_ast.specs.PredModel.{IsAtomSum}
use Rattle.cert_base.specs.WeightedSums.{total}
use Rattle.comp_counting.specs.declared.limits.TheConstants.{POWER_LIMIT}
use Rattle.comp_counting.specs.FlockAtoms.{is_counted, says_enough, enough_for}
use Rattle.comp_flock.specs.CountLeaf.{worth_in, count_leaf}

-- an item, and what is added to the one before it
pub record IsNext (c i before here : ℕ) : Type 0 where
  pub place : ℕ
  pub low : place < i
  pub next : here ≡ before + 2 ^ place
  pub most : c < here + 2 ^ place

-- the worths of k + 2 states: nothing, the powers up to 2^top, and then more and more up to t
pub record IsChain (ws : List ℕ) (t top k : ℕ) : Type 0 where
  pub long : length ws ≡ k + 2
  pub low : top ≤ k
  pub few : k ≤ top + top
  pub nothing : worth_in ws 0 ≡ 0
  pub powers : (i : ℕ) → i ≤ top → worth_in ws (i + 1) ≡ 2 ^ i
  pub last : worth_in ws (k + 1) ≡ t
  pub below : t < 2 ^ (top + 1)
  pub steps : (q : ℕ) → top < q → q ≤ k → IsNext t top (worth_in ws q) (worth_in ws (q + 1))

-- the atom is one that the leaf counts, and helpers are worth what c lacks to the target
pub record IsCovered (coefs : List ℤ) (bound : ℤ) (keeps : Bool) (t most : ℕ) (ws : List ℕ) (top k : ℕ)
    (helpers : List ℕ)
    : Type 0 where
  pub sum : IsAtomSum coefs
  pub are : list_all (is_counted (says_enough bound) (enough_for bound)) coefs ≡ true
  pub chain : IsChain ws t top k
  pub reach : enough_for bound ≤ t
  pub within : t ≤ most
  pub high : most ≤ 2 ^ POWER_LIMIT
  pub small : (i : ℕ) → i < length coefs → nat_abs (slice_index_or coefs i (pos 0)) ≤ most
  pub formed : IsLeaf (count_leaf coefs (says_enough bound) (enough_for bound) keeps t ws k helpers)
  pub short : k ≤ 78
  pub filled : total (λ q. pos (worth_in ws q)) helpers ≡ (pos t -ℤ pos (enough_for bound))
  pub low : All (λ q. q ≤ k) helpers
