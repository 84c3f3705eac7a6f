-- A crowd has at most one settlement.
use Rattle.std.proofs.Common.{◌≡◌, ◌⊎◌, inl, inr, ℕ, ◌<◌, ◌≤◌, List, [], ◌∷◌, refl, sym, subst, ◌∙◌, arith}
use Rattle.std.specs.Prelude.{Some, slice_get}
use Rattle.std.proofs.lemmas.Bool.{cases_lt}
use Rattle.pop_leaf.specs.LeafModel.{LeafModel}
use Rattle.pop_leaf.specs.NetModel.{NetModel, CrowdModel}
use Rattle.cert_base.specs.declared.layer.Layer.{Layer}
use Rattle.cert_base.specs.declared.proof.Proof.{Proof}
use Rattle.cert_base.specs.declared.proof.LeafProof.{LeafProof}
use Rattle.pop_settle.specs.declared.take.Take.{Take}
use Rattle.pop_settle.specs.Settlement.{CanTake, Then, IsNext, crowd_after_take, LeadsBy}
use Rattle.pop_settle.specs.Laws.{AreOne}
use Rattle.base_laws.proofs.Options.{same_value}

-- if neither of two numbers comes first, they are the same, and what is compared next decides
apart : (m n : ℕ) (P Q : Type 0) → (Then m n P → ⊥) → (Then n m Q → ⊥) → (m ≡ n) × (P → ⊥) × (Q → ⊥)
apart m n P Q one other = (same, (λ p. one (inr (same, p))), (λ q. other (inr (sym same, q))))
  where
    by_order : (m < n) ⊎ (n ≤ m) → (n < m) ⊎ (m ≤ n) → m ≡ n
    by_order (inl l) k = absurd (one (inl l))
    by_order (inr l) (inl k) = absurd (other (inl k))
    by_order (inr l) (inr k) = omega arith

    same : m ≡ n
    same = by_order (cases_lt m n) (cases_lt n m)

same_number : (m n : ℕ) → (m < n → ⊥) → (n < m → ⊥) → m ≡ n
same_number m n one other = by_order (cases_lt m n) (cases_lt n m)
  where
    by_order : (m < n) ⊎ (n ≤ m) → (n < m) ⊎ (m ≤ n) → m ≡ n
    by_order (inl l) k = absurd (one l)
    by_order (inr l) (inl k) = absurd (other k)
    by_order (inr l) (inr k) = omega arith

same_take : (t u : Take) → t.leaf ≡ u.leaf → t.step ≡ u.step → t.a ≡ u.a → t.b ≡ u.b → t ≡ u
same_take t u e f g h = λ i. record { leaf = e i; step = f i; a = g i; b = h i }

module _ (net : NetModel) (proof : Proof) (crowd : CrowdModel) (t u : Take) (m : IsNext net proof crowd t) (n : IsNext net proof crowd u) where
  same_next : (t ≡ u) × (m.can.move ≡ n.can.move)
  same_next =
      let leaves = apart t.leaf u.leaf _ _ (n.least m.layer m.place t m.can) (m.least n.layer n.place u n.can) in
      let layers = apart m.layer n.layer _ _ leaves.1 leaves.2 in
      let places = apart m.place n.place _ _ layers.1 layers.2 in
      let firsts = apart t.a u.a _ _ places.1 places.2 in
      let seconds = same_number t.b u.b firsts.1 firsts.2 in
      let leaf : m.can.leaf ≡ n.can.leaf = same_value (slice_get net.leaves u.leaf) m.can.leaf n.can.leaf (subst (λ (k : ℕ). slice_get net.leaves k ≡ Some m.can.leaf) leaves.0 m.can.leaf_is) n.can.leaf_is in
      let part : m.can.part ≡ n.can.part = same_value (slice_get proof.leaves u.leaf) m.can.part n.can.part (subst (λ (k : ℕ). slice_get proof.leaves k ≡ Some m.can.part) leaves.0 m.can.part_is) n.can.part_is in
      let list : m.can.list ≡ n.can.list =
      same_value (slice_get n.can.part.layers n.layer) m.can.list n.can.list
      (subst (λ (k : ℕ). slice_get n.can.part.layers k ≡ Some m.can.list) layers.0 (subst (λ (p : LeafProof). slice_get p.layers m.layer ≡ Some m.can.list) part m.can.layer_is)) n.can.layer_is in
      let step : t.step ≡ u.step =
      same_value (slice_get n.can.list.moves n.place) t.step u.step
      (subst (λ (k : ℕ). slice_get n.can.list.moves k ≡ Some t.step) places.0 (subst (λ (y : Layer). slice_get y.moves m.place ≡ Some t.step) list m.can.step_is)) n.can.step_is in
      let move : m.can.move ≡ n.can.move =
      same_value (slice_get n.can.leaf.moves u.step) m.can.move n.can.move
      (subst (λ (k : ℕ). slice_get n.can.leaf.moves k ≡ Some m.can.move) step (subst (λ (y : LeafModel). slice_get y.moves t.step ≡ Some m.can.move) leaf m.can.move_is)) n.can.move_is in
      (same_take t u leaves.0 step firsts.0 seconds, move)

  pub next_take : t ≡ u
  next_take = same_next.0

  pub next_crowd : crowd_after_take t.leaf m.can.move t.a t.b crowd ≡ crowd_after_take u.leaf n.can.move u.a u.b crowd
  next_crowd = λ i. crowd_after_take (same_next.0 i).leaf (same_next.1 i) (same_next.0 i).a (same_next.0 i).b crowd

abbrev Ends : NetModel → Proof → CrowdModel → Type 0
Ends net proof end = (layer place : ℕ) (take : Take) → CanTake net proof end layer place take → ⊥

only_way : (net : NetModel) (proof : Proof) (crowd end last : CrowdModel) (takes others : List Take) → LeadsBy net proof crowd takes end → Ends net proof end → LeadsBy net proof crowd others last → Ends net proof last → (others ≡ takes) × (last ≡ end)
only_way net proof crowd end last [] [] l none l' none' = (refl, l' ∙ sym l)
only_way net proof crowd end last [] (u ∷ others) l none l' none' =
    absurd (none l'.0.layer l'.0.place u (subst (λ (c : CrowdModel). CanTake net proof c l'.0.layer l'.0.place u) (sym l) l'.0.can))
only_way net proof crowd end last (t ∷ takes) [] l none l' none' =
    absurd (none' l.0.layer l.0.place t (subst (λ (c : CrowdModel). CanTake net proof c l.0.layer l.0.place t) (sym l') l.0.can))
only_way net proof crowd end last (t ∷ takes) (u ∷ others) l none l' none' =
    let e = next_take net proof crowd t u l.0 l'.0 in
    let c = next_crowd net proof crowd t u l.0 l'.0 in
    let rest = only_way net proof (crowd_after_take t.leaf l.0.can.move t.a t.b crowd) end last takes others l.1 none (subst (λ (d : CrowdModel). LeadsBy net proof d others last) (sym c) l'.1) none' in
    (λ i. sym e i ∷ rest.0 i, rest.1)

pub are_one : AreOne
are_one net proof crowd end takes s others last s' = only_way net proof crowd end last takes others s.leads s.ended s'.leads s'.ended
