-- What a take does to a crowd, seen in each leaf.
use Rattle.std.proofs.Common.{◌≡◌, ◌≢◌, inr, ℕ, ◌<◌, [], length, refl, ap, ◌∙◌, arith}
use Rattle.std.specs.Prelude.{Some, slice_get, slice_set, slice_index_or, All}
use Rattle.std.proofs.lemmas.List.{length-map, get_or-set_same, get_or-set_other}
use Rattle.std.proofs.lemmas.Option.{slice_get_within, slice_get-get_or}
use Rattle.pop_leaf.specs.NetModel.{NetModel, Tuple, CrowdModel, IsTuple, state_of}
use Rattle.pop_leaf.specs.Step.{LeafChange, LeafStep, Step}
use Rattle.pop_net.proofs.Lifting.{lift_change}
use Rattle.pop_net.proofs.Projection.{component, component-set, slice_get-component}
use Rattle.pop_leaf.proofs.Quiet.{All-slice_get, set_same}
use Rattle.pop_net.proofs.Tuples.{step_tuples}
use Rattle.cert_base.specs.declared.proof.Proof.{Proof}
use Rattle.cert_base.proofs.Agents.{move_change, move_step}
use Rattle.pop_settle.specs.declared.take.Take.{Take}
use Rattle.pop_settle.specs.Settlement.{states_in, CanTake, tuple_with_state, crowd_after_take}
use Rattle.base_laws.proofs.Options.{same_value}

-- the tuple of an agent that holds a state
abbrev pub tuple_at : CrowdModel → ℕ → Tuple
tuple_at crowd a = slice_index_or crowd a []

pub agent_in : (i : ℕ) (crowd : CrowdModel) (a q : ℕ) → slice_get (states_in i crowd) a ≡ Some q → a < length crowd
agent_in i crowd a q h =
    omega (arith, slice_get_within (states_in i crowd) a q h, length-map crowd (λ tuple. state_of tuple i))

pub tuple_is : (i : ℕ) (crowd : CrowdModel) (a q : ℕ) → slice_get (states_in i crowd) a ≡ Some q → slice_get crowd a ≡ Some (tuple_at crowd a)
tuple_is i crowd a q h = slice_get-get_or crowd a [] (agent_in i crowd a q h)

pub state_is : (i : ℕ) (crowd : CrowdModel) (a q : ℕ) → slice_get (states_in i crowd) a ≡ Some q → state_of (tuple_at crowd a) i ≡ q
state_is i crowd a q h =
    same_value (slice_get (states_in i crowd) a) (state_of (tuple_at crowd a) i) q (slice_get-component i crowd a (tuple_at crowd a) (tuple_is i crowd a q h)) h

module _ (net : NetModel) (proof : Proof) (crowd : CrowdModel) (layer place : ℕ) (take : Take) (c : CanTake net proof crowd layer place take) where
  abbrev taken : CrowdModel
  taken = crowd_after_take take.leaf c.move take.a take.b crowd

  -- it is a step of the leaf
  abbrev pub leaf_step : LeafStep c.leaf (states_in take.leaf crowd) (slice_set (slice_set (states_in take.leaf crowd) take.a c.move.r) take.b c.move.s)
  leaf_step =
      move_step c.leaf (states_in take.leaf crowd) take.step c.move take.a take.b c.move_is c.made.non_silent c.made.different c.made.first c.made.second

  pub elsewhere : (j : ℕ) → j ≢ take.leaf → states_in j taken ≡ states_in j crowd
  elsewhere j ne =
      let i = take.leaf in
      let x = tuple_at crowd take.a in
      let y = tuple_at crowd take.b in
      component-set j crowd take.a take.b (slice_set x i c.move.r) (slice_set y i c.move.s)
      ∙ ap (λ z. slice_set (slice_set (component j crowd) take.a z) take.b (state_of (slice_set y i c.move.s) j)) (get_or-set_other x i j c.move.r 0 ne)
      ∙ ap (λ z. slice_set (slice_set (component j crowd) take.a (state_of x j)) take.b z) (get_or-set_other y i j c.move.s 0 ne)
      ∙ ap (λ states. slice_set states take.b (state_of y j)) (set_same (component j crowd) take.a (state_of x j) (slice_get-component j crowd take.a x (tuple_is i crowd take.a c.move.p c.made.first)))
      ∙ set_same (component j crowd) take.b (state_of y j) (slice_get-component j crowd take.b y (tuple_is i crowd take.b c.move.q c.made.second))

  module _ (tuples : All (IsTuple net) crowd) where
    long : (a q : ℕ) → slice_get (states_in take.leaf crowd) a ≡ Some q → take.leaf < length (tuple_at crowd a)
    long a q h =
        omega (arith, slice_get_within net.leaves take.leaf c.leaf c.leaf_is, All-slice_get (IsTuple net) crowd a (tuple_at crowd a) tuples (tuple_is take.leaf crowd a q h))

    pub here : states_in take.leaf taken ≡ slice_set (slice_set (states_in take.leaf crowd) take.a c.move.r) take.b c.move.s
    here =
        let i = take.leaf in
        let x = tuple_at crowd take.a in
        let y = tuple_at crowd take.b in
        component-set i crowd take.a take.b (slice_set x i c.move.r) (slice_set y i c.move.s)
        ∙ ap (λ q. slice_set (slice_set (component i crowd) take.a q) take.b (state_of (slice_set y i c.move.s) i)) (get_or-set_same x i c.move.r 0 (long take.a c.move.p c.made.first))
        ∙ ap (λ q. slice_set (slice_set (component i crowd) take.a c.move.r) take.b q) (get_or-set_same y i c.move.s 0 (long take.b c.move.q c.made.second))

    change : LeafChange c.leaf (state_of (tuple_at crowd take.a) take.leaf) (state_of (tuple_at crowd take.b) take.leaf) c.move.r c.move.s
    change =
        rw (state_is take.leaf crowd take.a c.move.p c.made.first, state_is take.leaf crowd take.b c.move.q c.made.second)
        (inr (move_change c.leaf take.step c.move c.move_is c.made.non_silent))

    -- it is a step of the net
    pub net_step : Step net crowd taken
    net_step =
        let ha = tuple_is take.leaf crowd take.a c.move.p c.made.first in
        let hb = tuple_is take.leaf crowd take.b c.move.q c.made.second in
        record {
          a = take.a;
          b = take.b;
          different = c.made.different;
          x = tuple_at crowd take.a;
          y = tuple_at crowd take.b;
          x' = tuple_with_state take.leaf take.a c.move.r crowd;
          y' = tuple_with_state take.leaf take.b c.move.s crowd;
          a_had = ha;
          b_had = hb;
          change = lift_change net take.leaf c.leaf (tuple_at crowd take.a) (tuple_at crowd take.b) c.move.r c.move.s c.leaf_is (All-slice_get (IsTuple net) crowd take.a (tuple_at crowd take.a) tuples ha) (All-slice_get (IsTuple net) crowd take.b (tuple_at crowd take.b) tuples hb) change;
          others_stay = refl;
        }

    pub taken_tuples : All (IsTuple net) taken
    taken_tuples = step_tuples net crowd taken tuples net_step
