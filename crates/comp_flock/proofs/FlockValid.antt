-- The built leaf of a flock atom is one that counts its agents, with 2^k as its target.
use Rattle.std.proofs.Common.{◌≡◌, ◌∙◌, subst, ℕ, ◌^◌, ◌≤◌, true, List, length, refl, arith}
use Rattle.std.specs.Prelude.{ℤ, replicate}
use Rattle.std.proofs.lemmas.Bool.{ne_eqb}
use Rattle.std.proofs.lemmas.List.{length-append, length-replicate}
use Rattle.pop_leaf.specs.LeafModel.{LeafModel, IsLeaf}
use Rattle.cert_base.specs.declared.proof.LeafProof.{LeafProof}
use Rattle.cert_base.specs.ValidProof.{ValidLeafProof}
use Rattle.cert_base.specs.ProofLimits.{IsLeafProofWithin}
use Rattle.comp_trees.specs.BuiltLeaf.{IsBuilt}
use Rattle.comp_counting.specs.FlockAtoms.{says_enough, enough_for, flock_bound, IsFlock, IsOffset, flock_pred_of, offset_pred_of}
use Rattle.comp_counting.specs.FullState.{flock_steps, offset_steps}
use Rattle.comp_flock.specs.Covered.{IsCovered}
use Rattle.comp_flock.specs.FlockLeaf.{power_worths, offset_helpers, all_offset_helpers, flock_leaf_of, offset_leaf_of, HasSpareRoom}
use Rattle.comp_flock.specs.FlockProof.{full_size, offset_part, flock_part}
use Rattle.comp_flock.specs.OffsetLaw.{IsOffsetRight}
use Rattle.comp_flock.proofs.Powers.{power_small, powers-chain}
use Rattle.comp_flock.proofs.Flocks.{full-least, full-most, full-covers}
use Rattle.comp_flock.proofs.Formed.{with-formed}
use Rattle.comp_flock.proofs.MoveLists.{moves-single}
use Rattle.comp_flock.proofs.Offsets.{helpers-total, helpers-low, flock-leaf, flock-offset, flock-room}
use Rattle.comp_flock.proofs.Valid.{count-valid, count-within}

module _ (coefs : List ℤ) (bound : ℤ) (k spare : ℕ) (is : IsOffset coefs bound k) (room : HasSpareRoom bound k spare) where
  abbrev helpers : List ℕ
  helpers = all_offset_helpers bound k spare

  pub offset-formed : IsLeaf (offset_leaf_of coefs bound k spare)
  offset-formed =
      with-formed true (power_worths k) (2 ^ k) k k (powers-chain k) coefs (says_enough bound) (enough_for bound) helpers is.sum.some is.sum.few is.are is.within (power_small k is.high) (let high = is.high in omega (arith, high))
      (let long = length-append (offset_helpers bound k) (replicate spare 0) in let more = length-replicate spare (let none : ℕ = 0 in none) in omega (arith, room, long, more))
      (helpers-low bound k spare)

  pub offset-covered : IsCovered coefs bound true (2 ^ k) (full_size coefs k) (power_worths k) k k helpers
  offset-covered = record {
    sum = is.sum;
    are = is.are;
    chain = powers-chain k;
    reach = is.within;
    within = full-least coefs k is.high;
    high = full-most coefs k is.high;
    small = full-covers coefs k is.high is.sum.small;
    formed = offset-formed;
    short = (let high = is.high in omega (arith, high));
    filled = helpers-total bound k spare is.within;
    low = helpers-low bound k spare;
  }

  pub offset-valid : ValidLeafProof (offset_leaf_of coefs bound k spare) (offset_part coefs bound k)
  offset-valid = count-valid coefs bound true (2 ^ k) (full_size coefs k) (power_worths k) k k helpers offset-covered

  pub offset-within : IsLeafProofWithin (length coefs) (offset_part coefs bound k)
  offset-within = count-within coefs bound true (2 ^ k) (full_size coefs k) (power_worths k) k k helpers offset-covered

  pub offset-right : IsOffsetRight coefs bound k spare
  offset-right = record {
    formed = offset-formed;
    single = moves-single true (power_worths k) (2 ^ k) k;
    valid = offset-valid;
    within = offset-within;
  }

-- ---- without an offset

pub no-spare : (k : ℕ) → HasSpareRoom (flock_bound k) k 0
no-spare k = let none = flock-room k in omega (arith, none)

pub flock-formed : (coefs : List ℤ) (k : ℕ) → IsFlock coefs k → IsLeaf (flock_leaf_of coefs k)
flock-formed coefs k is = subst IsLeaf (flock-leaf coefs k) (offset-formed coefs (flock_bound k) k 0 (flock-offset coefs k is) (no-spare k))

pub flock-valid : (coefs : List ℤ) (k : ℕ) → IsFlock coefs k → ValidLeafProof (flock_leaf_of coefs k) (flock_part coefs k)
flock-valid coefs k is =
    subst (λ l. ValidLeafProof l (flock_part coefs k)) (flock-leaf coefs k) (offset-valid coefs (flock_bound k) k 0 (flock-offset coefs k is) (no-spare k))

pub flock-within : (coefs : List ℤ) (k : ℕ) → IsFlock coefs k → IsLeafProofWithin (length coefs) (flock_part coefs k)
flock-within coefs k is = offset-within coefs (flock_bound k) k 0 (flock-offset coefs k is) (no-spare k)

-- what is built with the bound of a flock is the flock
pub flock-built : (coefs : List ℤ) (k : ℕ) (leaf : LeafModel) (part : LeafProof) → IsFlock coefs k → IsBuilt (offset_leaf_of coefs (flock_bound k) k 0) (offset_pred_of coefs (flock_bound k)) (offset_steps k) leaf part → IsBuilt (flock_leaf_of coefs k) (flock_pred_of coefs k) flock_steps leaf part
flock-built coefs k leaf part is built = record {
  leaf_is = built.leaf_is ∙ flock-leaf coefs k;
  pred_is = built.pred_is;
  valid = built.valid;
  bound = built.bound ∙ two k is.low;
  within = built.within;
  tame = built.tame;
  single = built.single;
}
  where
    two : (k : ℕ) → 1 ≤ k → offset_steps k ≡ flock_steps
    two k some = let e = ne_eqb k 0 (λ e. omega arith) in rw e refl
