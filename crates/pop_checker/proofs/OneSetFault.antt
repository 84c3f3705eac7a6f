-- Sets that aren't good have one first fault, and good sets have none.
use Rattle.std.proofs.Common.{◌≡◌, ◌⊎◌, inl, inr, ℕ, ◌<◌, ◌≤◌, Bool, List, sym, ap, subst, ◌∙◌, arith}
use Rattle.std.specs.Prelude.{Some, slice_get}
use Rattle.std.proofs.lemmas.Bool.{cases_lt}
use Rattle.pop_leaf.proofs.Quiet.{All-slice_get}
use Rattle.pop_leaf.specs.LeafModel.{LeafModel}
use Rattle.cert_layers.specs.LayerFaults.{Each, IsFirstFailing}
use Rattle.cert_sets.specs.declared.fault.SetFault.{SetFault}
use Rattle.cert_sets.specs.declared.fault.SetFault.TheVariants.{Output, Leaves, Wakes}
use Rattle.theory_sets.specs.Stays.{escapes, SleepsFor, IsGuarded, IsGuardedAt, SleepIn}
use Rattle.cert_sets.specs.SetFaults.{HasOutput, IsGoodSet, AreGoodSets, IsFirstOther, IsBadBy, AreBadBy}
use Rattle.pop_checker.proofs.OneFault.{one_first}

module _ (leaf : LeafModel) (moves : List ℕ) (value : Bool) where
  -- a set that is bad isn't good
  bad_not_good : (number : ℕ) (set : List ℕ) (fault : SetFault) → IsBadBy leaf moves value number set fault → IsGoodSet leaf moves value set → ⊥
  bad_not_good number set (Output j q) bad good = bad.1.other (All-slice_get (HasOutput leaf value) set bad.1.place q good.right bad.1.there)
  bad_not_good number set (Leaves j n) bad good = left good.stays
    where
      left : IsGuarded leaf moves set ⊎ SleepIn leaf set moves → ⊥
      left (inl guarded) = bad.2.1.0 (guarded.inside n)
      left (inr asleep) = bad.1 asleep
  bad_not_good number set (Wakes j n m) bad good = woken good.stays
    where
      woken : IsGuarded leaf moves set ⊎ SleepIn leaf set moves → ⊥
      woken (inl guarded) = bad.2.2.0 (guarded.asleep n)
      woken (inr asleep) = bad.1 asleep

  one_other : (set : List ℕ) (q p : ℕ) → IsFirstOther leaf value set q → IsFirstOther leaf value set p → q ≡ p
  one_other set q p f g = go (cases_lt f.place g.place) (cases_lt g.place f.place)
    where
      go : (f.place < g.place) ⊎ (g.place ≤ f.place) → (g.place < f.place) ⊎ (f.place ≤ g.place) → q ≡ p
      go (inl l) k = absurd (f.other (g.before f.place q l f.there))
      go (inr l) (inl k) = absurd (g.other (f.before g.place p k g.there))
      go (inr l) (inr k) =
          let same : f.place ≡ g.place = omega (arith, l, k) in
          let both : Some q ≡ Some p = sym f.there ∙ ap (slice_get set) same ∙ g.there in
          cc

  -- one set is bad by one fault
  one_bad : (number : ℕ) (set : List ℕ) (fault other : SetFault) → IsBadBy leaf moves value number set fault → IsBadBy leaf moves value number set other → fault ≡ other
  one_bad number set (Output j q) (Output i p) f g =
      ap (λ n. Output n q) (f.0 ∙ sym g.0) ∙ ap (λ x. Output i x) (one_other set q p f.1 g.1)
  one_bad number set (Output j q) (Leaves i m) f g = absurd (f.1.other (All-slice_get (HasOutput leaf value) set f.1.place q g.0 f.1.there))
  one_bad number set (Output j q) (Wakes i m u) f g = absurd (f.1.other (All-slice_get (HasOutput leaf value) set f.1.place q g.0 f.1.there))
  one_bad number set (Leaves j n) (Output i p) f g = absurd (g.1.other (All-slice_get (HasOutput leaf value) set g.1.place p f.0 g.1.there))
  one_bad number set (Leaves j n) (Leaves i m) f g =
      ap (λ x. Leaves x n) (f.2.0 ∙ sym g.2.0) ∙ ap (λ x. Leaves i x) (one_first (IsGuardedAt leaf moves set) n m f.2.1 g.2.1)
  one_bad number set (Leaves j n) (Wakes i m u) f g = absurd (f.2.1.0 (g.2.1 n))
  one_bad number set (Wakes j n t) (Output i p) f g = absurd (g.1.other (All-slice_get (HasOutput leaf value) set g.1.place p f.0 g.1.there))
  one_bad number set (Wakes j n t) (Leaves i m) f g = absurd (g.2.1.0 (f.2.1 m))
  one_bad number set (Wakes j n t) (Wakes i m u) f g =
      let first = one_first (λ k. Each (SleepsFor leaf set (escapes leaf set) k)) n m f.2.2 g.2.2 in
      let moved = subst (λ (k : ℕ). IsFirstFailing (SleepsFor leaf set (escapes leaf set) k) t) first f.2.3 in
      ap (λ x. Wakes x n t) (f.2.0 ∙ sym g.2.0) ∙ ap (λ x. Wakes i x t) first
      ∙ ap (λ x. Wakes i m x) (one_first (SleepsFor leaf set (escapes leaf set) m) t u moved g.2.3)

  pub bad_sets : (sets : List (List ℕ)) (fault : SetFault) → AreBadBy leaf moves value sets fault → AreGoodSets leaf moves value sets → ⊥
  bad_sets sets fault bad good = bad_not_good bad.number bad.set fault bad.why (All-slice_get (IsGoodSet leaf moves value) sets bad.number bad.set good bad.set_is)

  pub one_set_fault : (sets : List (List ℕ)) (fault other : SetFault) → AreBadBy leaf moves value sets fault → AreBadBy leaf moves value sets other → fault ≡ other
  one_set_fault sets fault other f g = go (cases_lt f.number g.number) (cases_lt g.number f.number)
    where
      go : (f.number < g.number) ⊎ (g.number ≤ f.number) → (g.number < f.number) ⊎ (f.number ≤ g.number) → fault ≡ other
      go (inl l) k = absurd (bad_not_good f.number f.set fault f.why (g.before f.number f.set l f.set_is))
      go (inr l) (inl k) = absurd (bad_not_good g.number g.set other g.why (f.before g.number g.set k g.set_is))
      go (inr l) (inr k) =
          let number : f.number ≡ g.number = omega (arith, l, k) in
          let both : Some f.set ≡ Some g.set = sym f.set_is ∙ ap (slice_get sets) number ∙ g.set_is in
          let set : f.set ≡ g.set = cc in
          one_bad g.number g.set fault other
          (subst (λ (n : ℕ). IsBadBy leaf moves value n g.set fault) number (subst (λ (s : List ℕ). IsBadBy leaf moves value f.number s fault) set f.why)) g.why
