-- A proof with goals that is rejected has one first fault, and a valid proof has none.
use Rattle.std.proofs.Common.{◌≡◌, ◌⊎◌, inl, inr, ℕ, ◌<◌, ◌≤◌, Bool, true, false, length, refl, sym, ap, subst, ◌∙◌, arith}
use Rattle.std.specs.Prelude.{Some}
use Rattle.std.proofs.lemmas.Bool.{cases_lt}
use Rattle.std.proofs.lemmas.Option.{slice_get_within}
use Rattle.pres_ast.specs.PredModel.{PredModel}
use Rattle.pop_leaf.specs.LeafModel.{LeafModel}
use Rattle.pop_leaf.specs.NetModel.{NetModel}
use Rattle.cert_base.specs.declared.proof.LeafProof.{LeafProof}
use Rattle.cert_base.specs.declared.stable.LeafGoals.{LeafGoals}
use Rattle.cert_base.specs.declared.stable.StablePart.{StablePart}
use Rattle.cert_base.specs.declared.stable.StablePart.TheVariants.{Silent, Stable}
use Rattle.cert_base.specs.declared.stable.StableProof.{StableProof}
use Rattle.cert_goals.specs.declared.fault.GoalWhy.{GoalWhy}
use Rattle.pop_checker.specs.declared.fault.Rejected.{Rejected}
use Rattle.pop_checker.specs.declared.fault.Rejected.TheVariants.{Layers, Tree, Predicate}
use Rattle.pop_checker.specs.Parts.{IsPartFault}
use Rattle.pop_checker.proofs.OneFault.{Named, one_layer_fault, not_valid_layers, not_valid_tree, tree_layers, one_tree}
use Rattle.pop_checker.specs.declared.stable_fault.StableRejected.{StableRejected}
use Rattle.pop_checker.specs.declared.stable_fault.StableRejected.TheVariants.{Plain, Goal}
use Rattle.pop_checker.specs.ValidStable.{ValidPart, ArePartsValidBefore, ValidStableProof}
use Rattle.pop_checker.specs.StableRejections.{AreGoalsRejected, IsPartRejected, IsFirstPart, IsStableRejected}
use Rattle.pop_checker.proofs.OneGoalFault.{goal_refuses, one_goal_fault}

-- ---- one leaf

silent_refuses : (leaf : LeafModel) (part : LeafProof) (i : ℕ) (rejected : Rejected) → ValidPart leaf (Silent part) → IsPartFault leaf part i rejected → ⊥
silent_refuses leaf part i (Layers j why) valid is = not_valid_layers leaf part why valid.layers is.1
silent_refuses leaf part i (Tree j value node why) valid is = not_valid_tree leaf part value (node, why) valid is.1
silent_refuses leaf part i Predicate valid is = is

goals_refuse : (leaf : LeafModel) (goals : LeafGoals) (i : ℕ) (rejected : StableRejected) → ValidPart leaf (Stable goals) → AreGoalsRejected leaf goals i rejected → ⊥
goals_refuse leaf goals i (Plain rejected) valid is = is
goals_refuse leaf goals i (Goal j true why) valid is = goal_refuses leaf goals.pred true goals.on_true why valid.0 is.1
goals_refuse leaf goals i (Goal j false why) valid is = goal_refuses leaf goals.pred false goals.on_false why valid.1 is.2

part_refuses : (leaf : LeafModel) (part : StablePart) (i : ℕ) (rejected : StableRejected) → ValidPart leaf part → IsPartRejected leaf part i rejected → ⊥
part_refuses leaf (Silent part) i (Plain rejected) valid is = silent_refuses leaf part i rejected valid is
part_refuses leaf (Silent part) i (Goal j value why) valid is = is
part_refuses leaf (Stable goals) i rejected valid is = goals_refuse leaf goals i rejected valid is

one_silent : (leaf : LeafModel) (part : LeafProof) (i : ℕ) (a b : Rejected) → IsPartFault leaf part i a → IsPartFault leaf part i b → a ≡ b
one_silent leaf part i (Layers j why) (Layers k other) f g =
    ap (λ n. Layers n why) (f.0 ∙ sym g.0) ∙ ap (λ w. Layers k w) (one_layer_fault leaf part.layers why other f.1 g.1)
one_silent leaf part i (Layers j why) (Tree k value node other) f g =
    absurd (not_valid_layers leaf part why (tree_layers leaf part value (node, other) g.1) f.1)
one_silent leaf part i (Layers j why) Predicate f g = absurd g
one_silent leaf part i (Tree j value node why) (Layers k other) f g =
    absurd (not_valid_layers leaf part other (tree_layers leaf part value (node, why) f.1) g.1)
one_silent leaf part i (Tree j value node why) (Tree k another m other) f g =
    let same = one_tree leaf part value another (node, why) (m, other) f.1 g.1 in
    ap (λ n. Tree n value node why) (f.0 ∙ sym g.0) ∙ ap (λ (b : Bool). Tree k b node why) same.0 ∙ ap (λ (h : Named). Tree k another h.0 h.1) same.1
one_silent leaf part i (Tree j value node why) Predicate f g = absurd g
one_silent leaf part i Predicate b f g = absurd f

one_goals : (leaf : LeafModel) (goals : LeafGoals) (i : ℕ) (a b : StableRejected) → AreGoalsRejected leaf goals i a → AreGoalsRejected leaf goals i b → a ≡ b
one_goals leaf goals i (Plain rejected) b f g = absurd f
one_goals leaf goals i (Goal j v why) (Plain rejected) f g = absurd g
one_goals leaf goals i (Goal j true why) (Goal k true other) f g =
    ap (λ n. Goal n true why) (f.0 ∙ sym g.0) ∙ ap (λ (w : GoalWhy). Goal k true w) (one_goal_fault leaf goals.pred true goals.on_true why other f.1 g.1)
one_goals leaf goals i (Goal j true why) (Goal k false other) f g = absurd (goal_refuses leaf goals.pred true goals.on_true why g.1 f.1)
one_goals leaf goals i (Goal j false why) (Goal k true other) f g = absurd (goal_refuses leaf goals.pred true goals.on_true other f.1 g.1)
one_goals leaf goals i (Goal j false why) (Goal k false other) f g =
    ap (λ n. Goal n false why) (f.0 ∙ sym g.0) ∙ ap (λ (w : GoalWhy). Goal k false w) (one_goal_fault leaf goals.pred false goals.on_false why other f.2 g.2)

one_part : (leaf : LeafModel) (part : StablePart) (i : ℕ) (a b : StableRejected) → IsPartRejected leaf part i a → IsPartRejected leaf part i b → a ≡ b
one_part leaf (Silent part) i (Plain a) (Plain b) f g = ap (λ (r : Rejected). Plain r) (one_silent leaf part i a b f g)
one_part leaf (Silent part) i (Plain a) (Goal k v why) f g = absurd g
one_part leaf (Silent part) i (Goal j v why) b f g = absurd f
one_part leaf (Stable goals) i a b f g = one_goals leaf goals i a b f g

-- ---- all leaves

-- a leaf is the first that is rejected so, or the predicate is rejected
abbrev IsEither : NetModel → StableProof → StableRejected → Type 0
IsEither net proof rejected =
    ((i : ℕ) × IsFirstPart net proof i rejected) ⊎ ((rejected ≡ Plain Predicate) × ArePartsValidBefore net proof.leaves (length net.leaves))

either : (net : NetModel) (p : PredModel) (proof : StableProof) (rejected : StableRejected) → IsStableRejected net p proof rejected → IsEither net proof rejected
either net p proof (Plain (Layers i why)) is = inl (i, is)
either net p proof (Plain (Tree i value node why)) is = inl (i, is)
either net p proof (Plain Predicate) is = inr (refl, is.0)
either net p proof (Goal i value why) is = inl (i, is)

module _ (net : NetModel) (proof : StableProof) where
  none_before : (i : ℕ) (rejected : StableRejected) → IsFirstPart net proof i rejected → ArePartsValidBefore net proof.leaves (length net.leaves) → ⊥
  none_before i rejected r valid =
      part_refuses r.leaf r.part i rejected (valid i r.leaf r.part (slice_get_within net.leaves i r.leaf r.leaf_is) r.leaf_is r.part_is) r.rejected_is

  not_later : (i j : ℕ) (a b : StableRejected) → IsFirstPart net proof i a → IsFirstPart net proof j b → i < j → ⊥
  not_later i j a b r s l = part_refuses r.leaf r.part i a (s.before i r.leaf r.part l r.leaf_is r.part_is) r.rejected_is

  at_one : (i : ℕ) (a b : StableRejected) → IsFirstPart net proof i a → IsFirstPart net proof i b → a ≡ b
  at_one i a b r s =
      let leaves : Some r.leaf ≡ Some s.leaf = sym r.leaf_is ∙ s.leaf_is in
      let parts : Some r.part ≡ Some s.part = sym r.part_is ∙ s.part_is in
      let leaf : r.leaf ≡ s.leaf = cc in
      let part : r.part ≡ s.part = cc in
      one_part s.leaf s.part i a b (subst (λ (x : LeafModel). IsPartRejected x s.part i a) leaf (subst (λ (y : StablePart). IsPartRejected r.leaf y i a) part r.rejected_is)) s.rejected_is

  one_first_part : (i j : ℕ) (a b : StableRejected) → IsFirstPart net proof i a → IsFirstPart net proof j b → a ≡ b
  one_first_part i j a b r s = go (cases_lt i j) (cases_lt j i)
    where
      go : (i < j) ⊎ (j ≤ i) → (j < i) ⊎ (i ≤ j) → a ≡ b
      go (inl l) k = absurd (not_later i j a b r s l)
      go (inr l) (inl k) = absurd (not_later j i b a s r k)
      go (inr l) (inr k) = let same : i ≡ j = omega (arith, l, k) in at_one j a b (subst (λ (n : ℕ). IsFirstPart net proof n a) same r) s

  one_either : (a b : StableRejected) → IsEither net proof a → IsEither net proof b → a ≡ b
  one_either a b (inl r) (inl s) = one_first_part r.0 s.0 a b r.1 s.1
  one_either a b (inl r) (inr s) = absurd (none_before r.0 a r.1 s.1)
  one_either a b (inr r) (inl s) = absurd (none_before s.0 b s.1 r.1)
  one_either a b (inr r) (inr s) = r.0 ∙ sym s.0

pub one_stable_rejected : (net : NetModel) (p : PredModel) (proof : StableProof) (rejected other : StableRejected) → IsStableRejected net p proof rejected → IsStableRejected net p proof other → rejected ≡ other
one_stable_rejected net p proof rejected other r s = one_either net proof rejected other (either net p proof rejected r) (either net p proof other s)

all_valid : (net : NetModel) (p : PredModel) (proof : StableProof) → ValidStableProof net p proof → ArePartsValidBefore net proof.leaves (length net.leaves)
all_valid net p proof valid i leaf part l h k = valid.leaves i leaf part h k

pub none_stable_rejected : (net : NetModel) (p : PredModel) (proof : StableProof) (rejected : StableRejected) → ValidStableProof net p proof → IsStableRejected net p proof rejected → ⊥
none_stable_rejected net p proof (Plain (Layers i why)) valid r = none_before net proof i (Plain (Layers i why)) r (all_valid net p proof valid)
none_stable_rejected net p proof (Plain (Tree i value node why)) valid r = none_before net proof i (Plain (Tree i value node why)) r (all_valid net p proof valid)
none_stable_rejected net p proof (Plain Predicate) valid r = r.1 valid.combination
none_stable_rejected net p proof (Goal i value why) valid r = none_before net proof i (Goal i value why) r (all_valid net p proof valid)
