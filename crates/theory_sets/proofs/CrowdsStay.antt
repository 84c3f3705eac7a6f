-- Which crowds of a goal no step leaves, and that the order of their agents doesn't matter.
use Rattle.std.proofs.Common.{◌⊎◌, inl, inr, ℕ, List, [], ◌∷◌, ◌++◌, refl, sym, subst}
use Rattle.std.specs.Prelude.{Contains}
use Rattle.std.specs.List.Sorted.{IsPermutation}
use Rattle.std.proofs.lemmas.List.Sorted.{IsPermutation-sym, IsPermutation-trans, All-permutation}
use Rattle.pop_leaf.specs.declared.leaf.Move.{Move}
use Rattle.pop_leaf.specs.LeafModel.{LeafModel}
use Rattle.pop_leaf.specs.Step.{LeafMove, LeafChange, LeafStep}
use Rattle.pop_net.proofs.Permutations.{meets_permuted, terminal_permuted}
use Rattle.cert_base.specs.GoalEnds.{IsWithin}
use Rattle.cert_base.proofs.Dead.{IsEnabledIn}
use Rattle.cert_layers.proofs.Termination.{leads-append}
use Rattle.pop_leaf.specs.Hushed.{hushed}
use Rattle.pop_leaf.specs.Laws.{IsKeptMove}
use Rattle.pop_leaf.proofs.Kept.{listed_cases}
use Rattle.theory_sets.specs.Stays.{escapes, IsGuarded, SleepIn}
use Rattle.theory_sets.specs.Reached.{IsDeadFor, IsGoalEnd, IsHeld, IsAtGoal}
use Rattle.theory_sets.specs.Laws.{GoalCrowdsStay}
use Rattle.theory_sets.proofs.Possible.{dead_none, none_dead, unchanged, was_possible, stay_impossible, stay_within}

-- the order of the agents doesn't matter
pub dead_permuted : (leaf : LeafModel) (moves crowd other : List ℕ) → IsDeadFor leaf moves crowd → IsPermutation crowd other → IsDeadFor leaf moves other
dead_permuted leaf moves crowd other dead order = terminal_permuted (LeafChange (hushed leaf moves)) crowd other dead order

module _ (leaf : LeafModel) (moves : List ℕ) (sets : List (List ℕ)) where
  -- a guarded set isn't left
  pub held_on : (before after : List ℕ) → IsHeld leaf moves sets before → LeafStep leaf before after → IsHeld leaf moves sets after
  held_on before after held s = by_change s.change
    where
      by_number : (m : LeafMove leaf s.x s.y s.x' s.y') → Contains (escapes leaf held.set) m.number ⊎ (¬ Contains (escapes leaf held.set) m.number) → IsHeld leaf moves sets after
      by_number m (inl out) =
          absurd (dead_none leaf (escapes leaf held.set) before held.dead m.number m.taken (record { kept_is = out; move_is = m.listed; non_silent = m.non_silent }) (was_possible leaf before after s m))
      by_number m (inr other) = record {
        set = held.set;
        listed = held.listed;
        guarded = held.guarded;
        within = stay_within leaf before after s m held.set held.within other;
        dead = stay_impossible leaf before after s m held.set held.within (escapes leaf held.set) (held.guarded.asleep) held.dead other;
      }

      by_change : LeafChange leaf s.x s.y s.x' s.y' → IsHeld leaf moves sets after
      by_change (inl stay) = subst (λ c. IsHeld leaf moves sets c) (sym (unchanged leaf before after s stay)) held
      by_change (inr m) = by_number m (listed_cases (escapes leaf held.set) m.number)

  -- if none of the moves is possible, no move that leads out of a guarded set is
  guarded_dead : (set crowd : List ℕ) → IsGuarded leaf moves set → IsDeadFor leaf moves crowd → IsDeadFor leaf (escapes leaf set) crowd
  guarded_dead set crowd guarded dead = none_dead leaf (escapes leaf set) crowd none
    where
      none : (n : ℕ) (u : Move) → IsKeptMove leaf (escapes leaf set) n u → IsEnabledIn crowd u → ⊥
      none n u out enabled =
          let inside = guarded.inside in
          dead_none leaf moves crowd dead n u (record { kept_is = inside n out.kept_is; move_is = out.move_is; non_silent = out.non_silent }) enabled

  -- so a crowd with all agents in a guarded set is held
  pub guarded_held : (set crowd : List ℕ) → Contains sets set → IsGuarded leaf moves set → IsWithin set crowd → IsDeadFor leaf moves crowd → IsHeld leaf moves sets crowd
  guarded_held set crowd listed guarded within dead = record {
    set = set;
    listed = listed;
    guarded = guarded;
    within = within;
    dead = guarded_dead set crowd guarded dead;
  }

  held_permuted : (crowd other : List ℕ) → IsHeld leaf moves sets crowd → IsPermutation crowd other → IsHeld leaf moves sets other
  held_permuted crowd other held order = record {
    set = held.set;
    listed = held.listed;
    guarded = held.guarded;
    within = All-permutation (Contains held.set) crowd other order held.within;
    dead = dead_permuted leaf (escapes leaf held.set) crowd other held.dead order;
  }

module _ (leaf : LeafModel) (moves start : List ℕ) where
  end_permuted : (crowd other : List ℕ) → IsGoalEnd leaf moves start crowd → IsPermutation crowd other → IsGoalEnd leaf moves start other
  end_permuted crowd other e order = record {
    other = e.other;
    reached = e.reached;
    order = IsPermutation-trans e.other crowd other e.order order;
    dead = dead_permuted leaf moves crowd other e.dead order;
  }

  -- an end in a settled set stays one
  pub end_on : (set before after : List ℕ) → IsWithin set before → SleepIn leaf set moves → IsGoalEnd leaf moves start before → LeafStep leaf before after → IsGoalEnd leaf moves start after
  end_on set before after within asleep e s = by_change s.change
    where
      dead_after : (m : LeafMove leaf s.x s.y s.x' s.y') → Contains moves m.number ⊎ (¬ Contains moves m.number) → IsDeadFor leaf moves after
      dead_after m (inl kept) =
          absurd (dead_none leaf moves before e.dead m.number m.taken (record { kept_is = kept; move_is = m.listed; non_silent = m.non_silent }) (was_possible leaf before after s m))
      dead_after m (inr other) = stay_impossible leaf before after s m set within moves asleep e.dead other

      moved : IsDeadFor leaf moves after → IsGoalEnd leaf moves start after
      moved dead =
          let next = meets_permuted (LeafChange leaf) before after e.other s (IsPermutation-sym e.other before e.order) in
          record {
            other = next.0;
            reached = (e.reached.0 ++ next.0 ∷ [], leads-append (LeafStep leaf) start e.reached.0 e.other (next.0 ∷ []) next.0 e.reached.1 (next.1, refl));
            order = IsPermutation-sym after next.0 next.2;
            dead = dead;
          }

      by_change : LeafChange leaf s.x s.y s.x' s.y' → IsGoalEnd leaf moves start after
      by_change (inl stay) = subst (λ c. IsGoalEnd leaf moves start c) (sym (unchanged leaf before after s stay)) e
      by_change (inr m) = moved (dead_after m (listed_cases moves m.number))

pub goal_permuted : (leaf : LeafModel) (moves : List ℕ) (sets : List (List ℕ)) (start crowd other : List ℕ) → IsAtGoal leaf moves sets start crowd → IsPermutation crowd other → IsAtGoal leaf moves sets start other
goal_permuted leaf moves sets start crowd other (inl e) order = inl (end_permuted leaf moves start crowd other e order)
goal_permuted leaf moves sets start crowd other (inr held) order =
    inr (held_permuted leaf moves sets crowd other held order)

pub crowds_stay : GoalCrowdsStay
crowds_stay = record { guarded = guarded_held; held = held_on; settled = end_on; unordered = goal_permuted }
