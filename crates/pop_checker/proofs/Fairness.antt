-- A net that computes a predicate does so in every fair execution; if meetings lead it to its end, it does so by
-- meetings alone.
use Rattle.std.proofs.Common.{◌≡◌, ℕ, ◌<◌, ◌≤◌, List, [], ◌∷◌, length, get_or, refl, sym, subst, ◌∙◌, arith}
use Rattle.std.specs.Prelude.{slice_index_or, All}
use Rattle.std.proofs.lemmas.List.Elements.{All-head, All-tail}
use Rattle.std.proofs.lemmas.Option.{slice_get-get_or}
use Rattle.pres_ast.specs.PredTree.{PredTree}
use Rattle.pop_leaf.specs.LeafModel.{LeafModel, IsLeaf}
use Rattle.pop_leaf.specs.NetModel.{NetModel, CrowdModel, HasStates, IsNet, number_of_helpers, state_of}
use Rattle.pop_leaf.specs.InputCrowd.{IsInput, input_crowd, leaf_input_crowd}
use Rattle.pop_leaf.specs.Step.{TupleChange, Step, LeafStep}
use Rattle.pop_leaf.specs.Reachable.{Leads, Reachable}
use Rattle.pop_leaf.specs.Reaction.{reaction, after_meeting}
use Rattle.pop_net.proofs.Projection.{component, slice_get-component, input_component, reachable_component}
use Rattle.pop_leaf.proofs.Quiet.{All-slice_get}
use Rattle.pop_net.proofs.Tuples.{leads_length, reachable_tuples, input_tuples}
use Rattle.pop_crowd.specs.declared.crowd.Meeting.{Meeting as Pair}
use Rattle.pop_crowd.specs.Replay.{replay, IsMeeting, AreMeetings}
use Rattle.pop_crowd.proofs.Reached.{length-after_meeting}
use Rattle.cert_base.proofs.InRange.{end_in_range}
use Rattle.theory_fair.specs.StablyComputes.{MeetingStep, StablyComputes}
use Rattle.theory_fair.proofs.Stable.{steps_compute, meetings_compute}
use Rattle.pop_checker.specs.Computes.{Computes, EndsByMeetings}
use Rattle.theory_fair.proofs.Standing.{size_of_input}

pub steps_fairly : (net : NetModel) (tree : PredTree) (k : ℕ) → Computes net tree k → StablyComputes (Step net) net tree
steps_fairly net tree k computes =
    steps_compute net tree
    (λ counts crowd input r.
    let way = computes counts crowd input r in
    record { ends = (way.ends.0, way.ends.1, (way.ends.2.0, way.ends.2.2)); right = way.right })

-- meetings as steps
meets : (net : NetModel) (m : Pair) (crowd : CrowdModel) → IsMeeting (length crowd) m → MeetingStep net crowd (after_meeting net m.a m.b crowd)
meets net m crowd h =
    record {
      a = m.a;
      b = m.b;
      different = h.different;
      x = slice_index_or crowd m.a [];
      y = slice_index_or crowd m.b [];
      x' = (reaction net (slice_index_or crowd m.a []) (slice_index_or crowd m.b [])).0;
      y' = (reaction net (slice_index_or crowd m.a []) (slice_index_or crowd m.b [])).1;
      a_had = slice_get-get_or crowd m.a [] h.first;
      b_had = slice_get-get_or crowd m.b [] h.second;
      change = (refl, refl);
      others_stay = refl;
    }

meetings_lead : (net : NetModel) (meetings : List Pair) (crowd : CrowdModel) → AreMeetings (length crowd) meetings → (path : List CrowdModel) × Leads (MeetingStep net) crowd path (replay net meetings crowd)
meetings_lead net [] crowd h = ([], refl)
meetings_lead net (m ∷ meetings) crowd h =
    let next = after_meeting net m.a m.b crowd in
    let rest : AreMeetings (length next) meetings = subst (λ n. AreMeetings n meetings) (sym (length-after_meeting net m.a m.b crowd)) (All-tail (IsMeeting (length crowd)) m meetings h) in
    let more = meetings_lead net meetings next rest in
    (next ∷ more.0, (meets net m crowd (All-head (IsMeeting (length crowd)) m meetings h), more.1))

-- ---- crowds that are reachable from an input

pub reached_states : (net : NetModel) (counts : List ℕ) (crowd : CrowdModel) → IsNet net → IsInput (length net.variables) (number_of_helpers net) counts → Reachable (Step net) (input_crowd net counts) crowd → All (HasStates net) crowd
reached_states net counts crowd is input r k d l i leaf h =
    let inputs = All-slice_get (λ (l : LeafModel). length l.inputs ≡ length net.variables) net.leaves i leaf is.inputs h in
    let helpers = All-slice_get (λ (l : LeafModel). length l.helpers ≡ number_of_helpers net) net.leaves i leaf is.helpers h in
    let way : Reachable (LeafStep leaf) (leaf_input_crowd leaf counts) (component i crowd) = subst (λ (c : List ℕ). Reachable (LeafStep leaf) c (component i crowd)) (input_component net i leaf counts h helpers) (reachable_component net i leaf (input_crowd net counts) crowd h r) in
    let range = end_in_range leaf (All-slice_get IsLeaf net.leaves i leaf is.leaves h) counts way.0 (component i crowd) (input.one_each ∙ sym inputs) way.1 in
    All-slice_get (λ (q : ℕ). q < length leaf.states) (component i crowd) k (state_of (get_or crowd k d) i) range
    (slice_get-component i crowd k (get_or crowd k d) (slice_get-get_or crowd k d l))

pub meetings_fairly : (net : NetModel) (tree : PredTree) (k : ℕ) → IsNet net → Computes net tree k → EndsByMeetings net k → StablyComputes (MeetingStep net) net tree
meetings_fairly net tree k is computes settles =
    meetings_compute net tree
    (λ counts crowd input r.
    let size = leads_length (TupleChange net) (input_crowd net counts) r.0 crowd r.1 in
    let two : 2 ≤ length crowd = omega (arith, size, size_of_input net counts, input.two_agents) in
    let by = settles crowd two (reachable_tuples net (input_crowd net counts) crowd (input_tuples net counts) r) (reached_states net counts crowd is input r) in
    record { ends = (replay net by.0 crowd, by.3, meetings_lead net by.0 crowd by.1); right = (computes counts crowd input r).right })
