-- A walk over a net's leaves, each with its part of a proof: what holds of each leaf before the one where it stands.
use Rattle.std.proofs.Common.{◌≡◌, ◌⊎◌, inl, inr, ℕ, ◌+◌, ◌<◌, ◌≤◌, List, length, get_or, refl, subst, arith}
use Rattle.std.specs.Prelude.{Some, slice_get}
use Rattle.std.proofs.lemmas.Bool.{cases_lt}
use Rattle.std.proofs.lemmas.Option.{slice_get_read}
use Rattle.pop_leaf.specs.LeafModel.{LeafModel}
use Rattle.pop_leaf.specs.NetModel.{NetModel}

module _ {P : Type 0} (Holds : LeafModel → P → Type 0) (net : NetModel) (parts : List P) where
  abbrev pub HoldBefore : ℕ → Type 0
  HoldBefore n = (i : ℕ) (leaf : LeafModel) (part : P) → i < n → slice_get net.leaves i ≡ Some leaf → slice_get parts i ≡ Some part → Holds leaf part

  -- one leaf more
  pub one_more : (i : ℕ) (leaf : LeafModel) (part : P) → HoldBefore i → slice_get net.leaves i ≡ Some leaf → slice_get parts i ≡ Some part → Holds leaf part → HoldBefore (i + 1)
  one_more i leaf part before h k is j other piece l h' k' = go (cases_lt j i)
    where
      go : (j < i) ⊎ (i ≤ j) → Holds other piece
      go (inl earlier) = before j other piece earlier h' k'
      go (inr past) =
          let same : j ≡ i = omega (arith, l, past) in
          let a : slice_get net.leaves i ≡ Some other = rw same at h' in
          let b : slice_get parts i ≡ Some piece = rw same at k' in
          let c : leaf ≡ other = cc in
          let d : part ≡ piece = cc in
          subst (λ (x : LeafModel). Holds x piece) c (subst (λ (y : P). Holds leaf y) d is)

-- the part that a walk over all parts stands at
pub part_at : {P : Type 0} (parts items : List P) (i : ℕ) (part : P) → items ≡ parts → i < length items → part ≡ get_or items i part → slice_get parts i ≡ Some part
part_at parts items i part same l is = rw same at (slice_get_read items (length items) i part refl l is)
