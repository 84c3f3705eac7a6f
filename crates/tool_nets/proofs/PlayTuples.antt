-- The crowd at the end of a play has one state per leaf in each tuple.
use Rattle.std.proofs.Common.{◌≡◌, ℕ, ◌+◌, ◌<◌, ◌&&◌, Bool, true, false, cond, not, nat_lt, List, [], ◌∷◌, length, Option, Some, None, Result, Ok, Err, refl, ap, subst}
use Rattle.std.specs.Prelude.{◌≢◌, ◌==◌, All}
use Rattle.std.proofs.lemmas.Bool.{ltb-true, and_parts, eqb-false, not-true}
use Rattle.std.proofs.lemmas.List.Elements.{All-nil, All-cons}
use Rattle.serde_json.specs.Data.{Data}
use Rattle.base_lines.specs.Lines.{pieces}
use Rattle.pop_leaf.specs.NetModel.{NetModel, CrowdModel, IsTuple}
use Rattle.pop_leaf.specs.InputCrowd.{input_crowd}
use Rattle.pop_net.proofs.Tuples.{reachable_tuples, input_tuples}
use Rattle.pop_crowd.specs.declared.crowd.Meeting.{Meeting}
use Rattle.pop_crowd.specs.Replay.{replay, IsMeeting, AreMeetings}
use Rattle.pop_crowd.proofs.Reached.{replay_leads}
use Rattle.pop_words.specs.Meetings.{pair_of, two_agents_of, meeting_of}
use Rattle.pop_words.specs.declared.meeting.MeetingFault.{MeetingFault}
use Rattle.pop_words.specs.declared.meeting.MeetingFault.TheVariants as meeting
use Rattle.tool_texts.specs.Steps.{◌>>=◌}
use Rattle.tool_texts.proofs.Goes.{bind_ok, same_ok}
use Rattle.tool_nets.specs.declared.play.TheConstants.{MEETINGS_LINE}
use Rattle.tool_bundles.specs.Start.{net_in, fitting_in, crowd_in, start_in}
use Rattle.tool_nets.specs.Play.{between, paired, meetings_in, played, end_crowd}

chosen : {A : Type 0} (b : Bool) (x y : A) (fault : MeetingFault) → cond b (let r : Result A MeetingFault = Ok x in r) (Err fault) ≡ Ok y → (b ≡ true) × (x ≡ y)
chosen true x y fault e = (refl, cc)
chosen false x y fault e = absurd cc

agents_are : (agents : ℕ) (o : Option (ℕ × ℕ)) (pair : ℕ × ℕ) → two_agents_of agents o ≡ Ok pair → (pair.0 ≢ pair.1) × (pair.0 < agents) × (pair.1 < agents)
agents_are agents None pair e = absurd cc
agents_are agents (Some p) pair e =
    let c = chosen (not (p.0 == p.1) && (nat_lt p.0 agents && nat_lt p.1 agents)) p pair meeting.Agents e in
    let t = and_parts (not (p.0 == p.1)) (nat_lt p.0 agents && nat_lt p.1 agents) c.0 in
    let u = and_parts (nat_lt p.0 agents) (nat_lt p.1 agents) t.1 in
    subst (λ (q : ℕ × ℕ). (q.0 ≢ q.1) × (q.0 < agents) × (q.1 < agents)) c.1 (eqb-false p.0 p.1 (not-true (p.0 == p.1) t.0), ltb-true p.0 agents u.0, ltb-true p.1 agents u.1)

paired_ok : (number : ℕ) (r : Result (ℕ × ℕ) MeetingFault) (pair : ℕ × ℕ) → paired number r ≡ Ok pair → r ≡ Ok pair
paired_ok number (Ok p) pair e = let same : p ≡ pair = cc in ap (λ (q : ℕ × ℕ). Ok q) same
paired_ok number (Err meeting.Form) pair e = absurd cc
paired_ok number (Err meeting.Agents) pair e = absurd cc

pair_is : (agents number : ℕ) (line : List ℕ) (pair : ℕ × ℕ) → paired number (meeting_of agents line) ≡ Ok pair → IsMeeting agents (between pair)
unfolding meeting_of
pair_is agents number line pair e =
    let a = agents_are agents (pair_of (pieces 32 line)) pair (paired_ok number (two_agents_of agents (pair_of (pieces 32 line))) pair e) in
    record { different = a.0; first = a.1; second = a.2 }

meetings_are : (agents number : ℕ) (lines : List (List ℕ)) (meetings : List Meeting) → meetings_in agents number lines ≡ Ok meetings → AreMeetings agents meetings
meetings_are agents number [] meetings e = subst (AreMeetings agents) (same_ok [] meetings e) (All-nil (IsMeeting agents))
meetings_are agents number (line ∷ lines) meetings e =
    let p = bind_ok (paired number (meeting_of agents line)) (λ pair. meetings_in agents (number + 1) lines >>= λ more. Ok (between pair ∷ more)) meetings e in
    let m = bind_ok (meetings_in agents (number + 1) lines) (λ more. Ok (between p.0 ∷ more)) meetings p.2 in
    subst (AreMeetings agents) (same_ok (between p.0 ∷ m.0) meetings m.2) (All-cons (IsMeeting agents) (between p.0) m.0 (pair_is agents number line p.0 p.1) (meetings_are agents (number + 1) lines m.0 m.1))

start_tuples : (net : NetModel) (line : List ℕ) (crowd : CrowdModel) → crowd_in net line ≡ Ok crowd → All (IsTuple net) crowd
start_tuples net line crowd e =
    let c = bind_ok (fitting_in net line) (λ counts. Ok (input_crowd net counts)) crowd e in
    subst (All (IsTuple net)) (same_ok (input_crowd net c.0) crowd c.2) (input_tuples net c.0)

played_tuples : (net : NetModel) (start : CrowdModel) (lines : List (List ℕ)) (end : CrowdModel) → All (IsTuple net) start → played net start lines ≡ Ok end → All (IsTuple net) end
unfolding played
played_tuples net start lines end tuples e =
    let m = bind_ok (meetings_in (length start) MEETINGS_LINE lines) (λ meetings. Ok (replay net meetings start)) end e in
    let r = replay_leads net m.0 start tuples (meetings_are (length start) MEETINGS_LINE lines m.0 m.1) in
    subst (All (IsTuple net)) (same_ok (replay net m.0 start) end m.2) (reachable_tuples net start (replay net m.0 start) tuples (r.0, r.2))

-- the start crowd of a net line and a crowd line has one state per leaf in each tuple
pub in_tuples : (value : Option Data) (line : List ℕ) (net : NetModel) (crowd : CrowdModel) → start_in value line ≡ Ok (net, crowd) → All (IsTuple net) crowd
unfolding start_in
in_tuples value line net crowd e =
    let n = bind_ok (net_in value) (λ n. crowd_in n line >>= λ start. Ok (n, start)) (net, crowd) e in
    let s = bind_ok (crowd_in n.0 line) (λ start. Ok (n.0, start)) (net, crowd) n.2 in
    let both = same_ok (n.0, s.0) (net, crowd) s.2 in
    subst (λ (x : NetModel × CrowdModel). All (IsTuple x.0) x.1) both (start_tuples n.0 line s.0 s.1)

pub end_tuples : (value : Option Data) (line : List ℕ) (lines : List (List ℕ)) (net : NetModel) (crowd : CrowdModel) → end_crowd value line lines ≡ Ok (net, crowd) → All (IsTuple net) crowd
unfolding end_crowd
end_tuples value line lines net crowd e =
    let s = bind_ok (start_in value line) (λ start. played start.0 start.1 lines >>= λ end. Ok (start.0, end)) (net, crowd) e in
    let p = bind_ok (played s.0.0 s.0.1 lines) (λ end. Ok (s.0.0, end)) (net, crowd) s.2 in
    let both = same_ok (s.0.0, p.0) (net, crowd) p.2 in
    subst (λ (x : NetModel × CrowdModel). All (IsTuple x.0) x.1) both (played_tuples s.0.0 s.0.1 lines p.0 (in_tuples value line s.0.0 s.0.1 s.1) p.1)
