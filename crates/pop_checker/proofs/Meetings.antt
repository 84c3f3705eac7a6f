-- In a single leaf each step of the leaf's crowd is made by a meeting, whatever the meeting does to the other leaves.
use Rattle.std.proofs.Common.{◌≡◌, ℕ, suc, ◌≤◌, true, List, [], ◌∷◌, length, refl, ap, sym, subst, ◌∙◌, arith}
use Rattle.std.specs.Prelude.{Some, slice_get, slice_set, slice_index_or, All}
use Rattle.std.proofs.lemmas.List.Elements.{All-nil, All-cons}
use Rattle.std.proofs.lemmas.Option.{slice_get_within, get_or_from_slice_get}
use Rattle.pop_leaf.specs.LeafModel.{LeafModel}
use Rattle.pop_leaf.specs.NetModel.{NetModel, Tuple, CrowdModel, IsTuple}
use Rattle.pop_leaf.specs.Step.{LeafStep}
use Rattle.pop_leaf.specs.Reachable.{Leads}
use Rattle.pop_leaf.specs.Reaction.{reaction, after_meeting}
use Rattle.pop_net.proofs.Projection.{component}
use Rattle.pop_crowd.specs.declared.crowd.Meeting.{Meeting}
use Rattle.pop_crowd.specs.Replay.{replay, IsMeeting, AreMeetings}
use Rattle.pop_crowd.proofs.Reached.{length-after_meeting}
use Rattle.theory_fair.specs.StablyComputes.{Reacts, MeetingStep}
use Rattle.theory_fair.proofs.Reached.{reacts_changes}
use Rattle.theory_nets.proofs.Led.{lead_way}
use Rattle.theory_nets.proofs.Moves.{IsSingleLeaf, meeting_can}

-- the meeting that makes a step
abbrev meeting_of : ℕ → ℕ → Meeting
meeting_of a b = record { worker = 0; a = a; b = b; changed = true }

module _ (net : NetModel) (crowd next : CrowdModel) (s : MeetingStep net crowd next) where
  is_meeting : IsMeeting (length crowd) (meeting_of s.a s.b)
  is_meeting =
      record { different = s.different; first = slice_get_within crowd s.a s.x s.a_had; second = slice_get_within crowd s.b s.y s.b_had }

  leads_to : after_meeting net s.a s.b crowd ≡ next
  leads_to =
      let x : slice_index_or crowd s.a [] ≡ s.x = get_or_from_slice_get crowd s.a s.x [] s.a_had in
      let y : slice_index_or crowd s.b [] ≡ s.y = get_or_from_slice_get crowd s.b s.y [] s.b_had in
      ap (λ (both : Tuple × Tuple). slice_set (slice_set crowd s.a both.0) s.b both.1)
      (ap (λ (x : Tuple). reaction net x (slice_index_or crowd s.b [])) x ∙ ap (λ (y : Tuple). reaction net s.x y) y)
      ∙ ap (λ (x' : Tuple). slice_set (slice_set crowd s.a x') s.b (reaction net s.x s.y).1) (sym s.change.0)
      ∙ ap (λ (y' : Tuple). slice_set (slice_set crowd s.a s.x') s.b y') (sym s.change.1)
      ∙ sym s.others_stay

-- meetings that lead to a crowd
record Met (net : NetModel) (crowd last : CrowdModel) (n : ℕ) : Type 0 where
  meetings : List Meeting
  pairs : AreMeetings (length crowd) meetings
  long : length meetings ≡ n
  end : replay net meetings crowd ≡ last

as_meetings : (net : NetModel) (crowd : CrowdModel) (path : List CrowdModel) (last : CrowdModel) → Leads (MeetingStep net) crowd path last → Met net crowd last (length path)
as_meetings net crowd [] last way =
    record { meetings = []; pairs = All-nil (IsMeeting (length crowd)); long = refl; end = sym way }
as_meetings net crowd (next ∷ path) last way =
    let more = as_meetings net next path last way.1 in
    let at = leads_to net crowd next way.0 in
    let size : length next ≡ length crowd = ap length (sym at) ∙ length-after_meeting net way.0.a way.0.b crowd in
    record {
      meetings = meeting_of way.0.a way.0.b ∷ more.meetings;
      pairs = All-cons (IsMeeting (length crowd)) (meeting_of way.0.a way.0.b) more.meetings (is_meeting net crowd next way.0) (subst (λ (n : ℕ). AreMeetings n more.meetings) size more.pairs);
      long = ap suc more.long;
      end = ap (λ (c : CrowdModel). replay net more.meetings c) at ∙ more.end;
    }

-- meetings that bring leaf i's crowd to this end, at most n of them
pub record MetIn (net : NetModel) (i : ℕ) (crowd : CrowdModel) (end : List ℕ) (n : ℕ) : Type 0 where
  pub meetings : List Meeting
  pub pairs : AreMeetings (length crowd) meetings
  pub short : length meetings ≤ n
  pub here : component i (replay net meetings crowd) ≡ end

-- every path of leaf i's crowd is made by meetings, whatever they do to the other leaves
pub meet_way : (net : NetModel) (i : ℕ) (leaf : LeafModel) → slice_get net.leaves i ≡ Some leaf → IsSingleLeaf leaf → (path : List (List ℕ)) (crowd : CrowdModel) (end : List ℕ) → All (IsTuple net) crowd → Leads (LeafStep leaf) (component i crowd) path end → MetIn net i crowd end (length path)
meet_way net i leaf h single path crowd end tuples way =
    let led = lead_way net (Reacts net) (reacts_changes net) i leaf h (meeting_can net i leaf h single) path crowd end tuples way in
    let met = as_meetings net crowd led.path led.last led.way in
    record {
      meetings = met.meetings;
      pairs = met.pairs;
      short = (let l : length met.meetings ≤ length path = omega (arith, met.long, led.short) in l);
      here = ap (λ (c : CrowdModel). component i c) met.end ∙ led.here;
    }
