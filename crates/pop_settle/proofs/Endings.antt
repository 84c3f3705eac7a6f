-- If no take can be made, the crowd is terminal.
use Rattle.std.proofs.Common.{◌≡◌, ◌⊎◌, inl, inr, ℕ, suc, List, [], ◌∷◌, ◌++◌, length, refl, ap, sym, subst, ◌∙◌, arith}
use Rattle.std.specs.Prelude.{Some, slice_get, slice_set, All}
use Rattle.std.proofs.lemmas.Option.{slice_get_within, slice_get-get_or}
use Rattle.pop_leaf.specs.declared.leaf.Move.{Move}
use Rattle.pop_leaf.specs.LeafModel.{LeafModel}
use Rattle.pop_leaf.specs.NetModel.{NetModel, CrowdModel, IsTuple}
use Rattle.pop_leaf.specs.Step.{Follows, LeafChange, LeafMove, LeafStep, Step}
use Rattle.pop_leaf.specs.Reachable.{Leads}
use Rattle.pop_leaf.specs.Terminal.{IsTerminal}
use Rattle.pop_net.proofs.Lifting.{terminal_from_components}
use Rattle.pop_leaf.proofs.Quiet.{set_same}
use Rattle.cert_base.specs.declared.proof.Proof.{Proof}
use Rattle.cert_base.specs.declared.proof.LeafProof.{LeafProof}
use Rattle.cert_base.specs.ValidLayers.{ValidLayers}
use Rattle.cert_layers.proofs.Termination.{listed_at}
use Rattle.pop_settle.specs.declared.take.Take.{Take}
use Rattle.pop_settle.specs.Settlement.{states_in, CanMake, CanTake, crowd_after_take, LeadsBy}
use Rattle.pop_settle.specs.Settling.{AreLayersValid}
use Rattle.pop_settle.specs.Laws.{AreSteps, AreTerminal}
use Rattle.pop_settle.proofs.Taking.{net_step, taken_tuples}
use Rattle.base_laws.proofs.Options.{item_within}

module _ (net : NetModel) (proof : Proof) (crowd : CrowdModel) (none : (layer place : ℕ) (take : Take) → CanTake net proof crowd layer place take → ⊥) (i : ℕ) (leaf : LeafModel) (part : LeafProof) (h : slice_get net.leaves i ≡ Some leaf) (k : slice_get proof.leaves i ≡ Some part) (v : ValidLayers leaf part.layers) where
  -- no two agents can make a non-silent move
  no_pair : (n : ℕ) (t : Move) (a b : ℕ) → slice_get leaf.moves n ≡ Some t → CanMake (states_in i crowd) t a b → ⊥
  no_pair n t a b m can =
      let at = listed_at part.layers n (v.all n t m can.non_silent) in
      let lists = at.3 in
      none at.0 lists.0 (record { leaf = i; step = n; a = a; b = b })
      (record {
        leaf = leaf;
        part = part;
        list = at.1;
        move = t;
        leaf_is = h;
        part_is = k;
        layer_is = at.2;
        step_is = (slice_get-get_or at.1.moves lists.0 n lists.1 ∙ ap Some lists.2);
        move_is = m;
        made = can;
      })

  pub leaf_terminal : IsTerminal (LeafStep leaf) (states_in i crowd)
  leaf_terminal end s = by_change s.change
    where
      states : List ℕ
      states = states_in i crowd

      moves_none : (m : LeafMove leaf s.x s.y s.x' s.y') → Follows m.taken s.x s.y s.x' s.y' ⊎ Follows m.taken s.y s.x s.y' s.x' → ⊥
      moves_none m (inl f) =
          no_pair m.number m.taken s.a s.b m.listed
          (record { non_silent = m.non_silent; different = s.different; first = s.a_had ∙ ap Some f.0; second = s.b_had ∙ ap Some f.1 })
      moves_none m (inr f) =
          no_pair m.number m.taken s.b s.a m.listed
          (record { non_silent = m.non_silent; different = (λ e. s.different (sym e)); first = s.b_had ∙ ap Some f.0; second = s.a_had ∙ ap Some f.1 })

      by_change : LeafChange leaf s.x s.y s.x' s.y' → end ≡ states_in i crowd
      by_change (inl stay) =
          s.others_stay
          ∙ ap (λ x. slice_set (slice_set (states_in i crowd) s.a x) s.b s.y') stay.0
          ∙ ap (λ y. slice_set (slice_set (states_in i crowd) s.a s.x) s.b y) stay.1
          ∙ ap (λ c. slice_set c s.b s.y) (set_same (states_in i crowd) s.a s.x s.a_had)
          ∙ set_same (states_in i crowd) s.b s.y s.b_had
      by_change (inr m) = absurd (moves_none m m.followed)

pub none_terminal : (net : NetModel) (proof : Proof) (crowd : CrowdModel) → AreLayersValid net proof → All (IsTuple net) crowd → ((layer place : ℕ) (take : Take) → CanTake net proof crowd layer place take → ⊥) → IsTerminal (Step net) crowd
none_terminal net proof crowd v tuples none =
    terminal_from_components net crowd tuples
    (λ i leaf h.
    let part = item_within proof.leaves i (omega (arith, slice_get_within net.leaves i leaf h, v.one_each)) in
    leaf_terminal net proof crowd none i leaf part.0 h part.1 (v.valid i leaf part.0 h part.1))

-- after takes, each agent still has one state of each leaf
pub leads_tuples : (net : NetModel) (proof : Proof) (crowd end : CrowdModel) (takes : List Take) → All (IsTuple net) crowd → LeadsBy net proof crowd takes end → All (IsTuple net) end
leads_tuples net proof crowd end [] tuples l = subst (λ (c : CrowdModel). All (IsTuple net) c) (sym l) tuples
leads_tuples net proof crowd end (t ∷ takes) tuples l =
    leads_tuples net proof (crowd_after_take t.leaf l.0.can.move t.a t.b crowd) end takes (taken_tuples net proof crowd l.0.layer l.0.place t l.0.can tuples) l.1

pub are_terminal : AreTerminal
are_terminal net proof crowd end takes v tuples s =
    none_terminal net proof end v (leads_tuples net proof crowd end takes tuples s.leads) s.ended

pub are_steps : AreSteps
are_steps net proof crowd layer place take tuples can = net_step net proof crowd layer place take can tuples

-- the takes are steps
pub leads_reached : (net : NetModel) (proof : Proof) (crowd end : CrowdModel) (takes : List Take) → All (IsTuple net) crowd → LeadsBy net proof crowd takes end → (path : List CrowdModel) × (length path ≡ length takes) × Leads (Step net) crowd path end
leads_reached net proof crowd end [] tuples l = ([], refl, l)
leads_reached net proof crowd end (t ∷ takes) tuples l =
    let next = crowd_after_take t.leaf l.0.can.move t.a t.b crowd in
    let more = leads_reached net proof next end takes (taken_tuples net proof crowd l.0.layer l.0.place t l.0.can tuples) l.1 in
    (next ∷ more.0, ap suc more.1, (net_step net proof crowd l.0.layer l.0.place t l.0.can tuples, more.2))

-- takes one after the other
pub leads_more : (net : NetModel) (proof : Proof) (crowd next end : CrowdModel) (takes more : List Take) → LeadsBy net proof crowd takes next → LeadsBy net proof next more end → LeadsBy net proof crowd (takes ++ more) end
leads_more net proof crowd next end [] more l m = subst (λ (c : CrowdModel). LeadsBy net proof c more end) l m
leads_more net proof crowd next end (t ∷ takes) more l m =
    (l.0, leads_more net proof (crowd_after_take t.leaf l.0.can.move t.a t.b crowd) next end takes more l.1 m)
