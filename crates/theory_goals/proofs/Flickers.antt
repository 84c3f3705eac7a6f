-- The crowds of the flickering net are all at its goal.
use Rattle.std.proofs.Common.{◌≡◌, ◌≢◌, inl, inr, ℕ, zero, suc, ◌<◌, true, false, List, [], ◌∷◌, get_or, refl, subst, arith}
use Rattle.std.specs.Prelude.{Some, slice_get, slice_index_or, All}
use Rattle.std.proofs.lemmas.List.Elements.{All-nil, All-cons}
use Rattle.std.proofs.lemmas.List.Sorted.{All-permutation}
use Rattle.std.proofs.lemmas.Option.{same_Some}
use Rattle.pop_net.specs.ExampleNets.{move}
use Rattle.pop_leaf.specs.LeafModel.{LeafModel, IsLeaf}
use Rattle.pop_leaf.specs.NetModel.{IsNet}
use Rattle.pop_leaf.proofs.LeafFaults.{unbroken_leaf}
use Rattle.pop_net.proofs.NetFaults.{unbroken_net}
use Rattle.pop_net.proofs.OneLeaf.{one_leaf_step}
use Rattle.cert_base.proofs.InRange.{leads_in_range, end_in_range}
use Rattle.theory_goals.specs.LeafGoals.{IsLeafGoal, LeafPart, HasLeafGoals}
use Rattle.theory_goals.specs.Flicker.{two_looks, flicker, always, FlickerIsRight}
use Rattle.theory_goals.proofs.Right.{join_right}

looks_formed : IsLeaf two_looks
looks_formed = unbroken_leaf two_looks refl

formed : IsNet flicker
formed = unbroken_net flicker (All-cons IsLeaf two_looks [] looks_formed (All-nil IsLeaf)) refl

-- p or q
abbrev HaveLooks : List ℕ → Type 0
HaveLooks crowd = All (λ q. q < 2) crowd

says_yes : (q : ℕ) → q < 2 → slice_index_or (true ∷ true ∷ []) q false ≡ true
says_yes zero l = refl
says_yes (suc zero) l = refl
says_yes (suc (suc q)) l = absurd (omega (arith, l))

looks_goal : IsLeafGoal two_looks always 0 (λ counts crowd. HaveLooks crowd)
looks_goal counts input =
    record {
      reached = λ crowd r. (crowd, end_in_range two_looks looks_formed counts r.0 crowd input.one_each r.1, ([], omega arith, refl));
      closed = λ before after at s. leads_in_range two_looks looks_formed before (after ∷ []) after (s, refl) at;
      right = λ crowd at k d l. says_yes (get_or crowd k d) (at k d l);
      unordered = λ crowd other at order. All-permutation (λ q. q < 2) crowd other order at;
    }

abbrev part : LeafPart
part = record { tree = always; bound = 0 }

goal_at : (i : ℕ) (leaf : LeafModel) (p : LeafPart) → slice_get (two_looks ∷ []) i ≡ Some leaf → slice_get (part ∷ []) i ≡ Some p → IsLeafGoal leaf p.tree p.bound (λ counts crowd. HaveLooks crowd)
goal_at zero leaf p h k =
    subst (λ (l : LeafModel). IsLeafGoal l p.tree p.bound (λ counts crowd. HaveLooks crowd)) (same_Some two_looks leaf h)
    (subst (λ (q : LeafPart). IsLeafGoal two_looks q.tree q.bound (λ counts crowd. HaveLooks crowd)) (same_Some part p k) looks_goal)
goal_at (suc i) leaf p h k = cc

has_goals : HasLeafGoals flicker always (part ∷ []) (λ i counts crowd. HaveLooks crowd)
has_goals = record { one_each = refl; leaves = goal_at; combination = refl }

apart : (a b : ℕ) → suc a ≡ b → a ≢ b
apart a b h e = omega (arith, h, e)

pub flickers : FlickerIsRight
flickers = record {
  right = join_right (λ i counts crowd. HaveLooks crowd) flicker always (part ∷ []) formed has_goals;
  there = one_leaf_step flicker two_looks ((0 ∷ []) ∷ (0 ∷ []) ∷ []) 0 1 0 0 1 1 refl (apart 0 1 refl) refl refl
      (inr (record { number = 0; taken = move 0 0 1 1; listed = refl; non_silent = refl; followed = inl (refl, refl, refl, refl) }));
  back = one_leaf_step flicker two_looks ((1 ∷ []) ∷ (1 ∷ []) ∷ []) 0 1 1 1 0 0 refl (apart 0 1 refl) refl refl
      (inr (record { number = 1; taken = move 1 1 0 0; listed = refl; non_silent = refl; followed = inl (refl, refl, refl, refl) }));
}
