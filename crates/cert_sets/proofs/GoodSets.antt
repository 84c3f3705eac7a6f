-- Which sets are good, by what the searches found.
use Rattle.std.proofs.Common.{◌≡◌, ◌⊎◌, inl, inr, ℕ, ◌+◌, ◌<◌, ◌≤◌, Bool, true, false, not, List, length, get_or, refl, sym, subst, arith}
use Rattle.std.specs.Prelude.{Option, Some, None, is_some, slice_get, All, Result, Ok, Err, OnOk, MatchBool}
use Rattle.std.proofs.lemmas.Bool.{cases_eq, false≢true}
use Rattle.std.proofs.lemmas.Option.{slice_get-get_or}
use Rattle.base_laws.proofs.Options.{same_value}
use Rattle.pop_io.specs.declared.failure.Failure.{Failure}
use Rattle.pop_io.specs.declared.failure.Failure.TheVariants.{Fault, NoMemory}
use Rattle.pop_io.specs.Failures.{IfFault, OnlyMemory}
use Rattle.pop_leaf.specs.LeafModel.{LeafModel}
use Rattle.pop_leaf.proofs.Quiet.{All-slice_get}
use Rattle.cert_layers.specs.LayerFaults.{Each}
use Rattle.pop_leaf.specs.Hushed.{hushed}
use Rattle.cert_sets.specs.declared.fault.SetFault.{SetFault}
use Rattle.cert_sets.specs.declared.fault.SetFault.TheVariants.{Output, Leaves, Wakes}
use Rattle.theory_sets.specs.Stays.{escapes, SleepIn, IsGuardedAt, IsGuarded}
use Rattle.cert_sets.specs.SetFaults.{HasOutput, IsGoodSet, AreGoodSets, IsLeft, IsBadBy, AreBadBy, ChecksSets}
use Rattle.cert_sets.specs.SetSearch.{FindsLeft, fault_of_woken}
use Rattle.cert_sets.specs.SetTests.{FindsWoken}
use Rattle.cert_sets.proofs.Woken.{all_sleep, first_awake, not_asleep}

module _ (leaf : LeafModel) (moves set : List ℕ) where
  -- whether the set is settled
  pub settled_by : (kept : LeafModel) (found : Option (ℕ × ℕ)) (settled : Bool) → is_some found ≡ not settled → kept ≡ hushed leaf moves → FindsWoken leaf kept set found → MatchBool settled (SleepIn leaf set moves) (¬ SleepIn leaf set moves)
  settled_by kept None true e is f = all_sleep leaf moves set (subst (λ k. FindsWoken leaf k set None) is f)
  settled_by kept None false e is f = absurd (false≢true e)
  settled_by kept (Some found) true e is f = absurd (false≢true (sym e))
  settled_by kept (Some found) false e is f = not_asleep leaf moves set found (subst (λ k. FindsWoken leaf k set (Some found)) is f)

  -- whether a set whose escapes are all kept is guarded
  pub guarded_by : (number : ℕ) (found : Option (ℕ × ℕ)) → Each (IsGuardedAt leaf moves set) → FindsWoken leaf (hushed leaf (escapes leaf set)) set found → FindsLeft leaf moves number set (fault_of_woken number found)
  guarded_by number None inside f = record { inside = inside; asleep = all_sleep leaf (escapes leaf set) set f }
  guarded_by number (Some found) inside f =
      let w = first_awake leaf (escapes leaf set) set found f in (refl, inside, w.0, w.1)

  module _ (value : Bool) where
    -- a set that is neither guarded nor settled
    pub left_bad : (number : ℕ) (fault : SetFault) → All (HasOutput leaf value) set → ¬ SleepIn leaf set moves → IsLeft leaf moves number set fault → IsBadBy leaf moves value number set fault
    left_bad number (Output j q) right awake left = absurd left
    left_bad number (Leaves j n) right awake left = (right, awake, left)
    left_bad number (Wakes j n m) right awake left = (right, awake, left)

    -- a good set has no fault
    good_never : IsGoodSet leaf moves value set → (number : ℕ) (fault : SetFault) → IsBadBy leaf moves value number set fault → ⊥
    good_never good number (Output j q) bad =
        let first = bad.1 in
        first.other (All-slice_get (HasOutput leaf value) set first.place q good.right first.there)
    good_never good number (Leaves j n) bad = by good.stays
      where
        by : IsGuarded leaf moves set ⊎ SleepIn leaf set moves → ⊥
        by (inl guarded) = let inside = guarded.inside in bad.2.1.0 (inside n)
        by (inr asleep) = bad.1 asleep
    good_never good number (Wakes j n m) bad = by good.stays
      where
        by : IsGuarded leaf moves set ⊎ SleepIn leaf set moves → ⊥
        by (inl guarded) = let asleep = guarded.asleep in bad.2.2.0 (asleep n)
        by (inr asleep) = bad.1 asleep

module _ (leaf : LeafModel) (moves : List ℕ) (value : Bool) where
  -- the sets before a place, and the one there
  pub more_good : (sets : List (List ℕ)) (k : ℕ) (set : List ℕ) → slice_get sets k ≡ Some set → IsGoodSet leaf moves value set → ((i : ℕ) (good : List ℕ) → i < k → slice_get sets i ≡ Some good → IsGoodSet leaf moves value good) → (i : ℕ) (good : List ℕ) → i < k + 1 → slice_get sets i ≡ Some good → IsGoodSet leaf moves value good
  more_good sets k set h here before i good l is = by (cases_eq i k)
    where
      by : (i ≡ k) ⊎ (i ≡ k → ⊥) → IsGoodSet leaf moves value good
      by (inr ne) = before i good (omega (arith, l, ne)) is
      by (inl e) =
          let same : set ≡ good = same_value (slice_get sets k) set good h (subst (λ n. slice_get sets n ≡ Some good) e is) in
          subst (IsGoodSet leaf moves value) same here

  pub all_good : (sets : List (List ℕ)) (k : ℕ) → length sets ≤ k → ((i : ℕ) (good : List ℕ) → i < k → slice_get sets i ≡ Some good → IsGoodSet leaf moves value good) → AreGoodSets leaf moves value sets
  all_good sets k whole each i d l = each i (get_or sets i d) (omega (arith, l, whole)) (slice_get-get_or sets i d l)

  accepted : {T : Type 0} (sets : List (List ℕ)) (result : Result T (Failure SetFault)) → IfFault result (AreBadBy leaf moves value sets) → AreGoodSets leaf moves value sets → OnlyMemory result
  accepted sets (Ok x) f good = tt
  accepted sets (Err NoMemory) f good = refl
  accepted sets (Err (Fault fault)) f good =
      absurd (good_never leaf moves f.set value (All-slice_get (IsGoodSet leaf moves value) sets f.number f.set good f.set_is) f.number fault f.why)

  pub checks_sets : {T : Type 0} (sets : List (List ℕ)) (result : Result T (Failure SetFault)) → OnOk result (AreGoodSets leaf moves value sets) → IfFault result (AreBadBy leaf moves value sets) → ChecksSets leaf moves value sets result
  checks_sets sets result good fault = record { good = good; fault = fault; accepts = accepted sets result fault }
