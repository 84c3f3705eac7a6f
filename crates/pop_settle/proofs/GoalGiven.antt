-- What a settlement of the hushed net says of the given net.
use Rattle.std.proofs.Common.{ℕ, ◌≤◌, List, length, subst, arith}
use Rattle.std.specs.Prelude.{Result, Ok, Err, All}
use Rattle.std.proofs.lemmas.List.Elements.{All-map, All-weaker}
use Rattle.pop_io.specs.declared.failure.Failure.{Failure}
use Rattle.pop_net.specs.declared.net.Word.{Word}
use Rattle.pop_leaf.specs.NetModel.{NetModel, CrowdModel, IsTuple, IsNet}
use Rattle.pop_net.specs.Lanes.{tuple_of, crowd_of, IsValid, AreValid}
use Rattle.pop_net.proofs.Packing.{is_tuple}
use Rattle.cert_base.specs.declared.stable.StableProof.{StableProof}
use Rattle.pop_settle.specs.declared.fault.SettleFault.{SettleFault}
use Rattle.pop_settle.specs.declared.take.Settled.{Settled}
use Rattle.pop_settle.specs.Settlement.{IsSettlement}
use Rattle.pop_settle.specs.Settles.{Settles}
use Rattle.pop_settle.proofs.Endings.{leads_reached}
use Rattle.pop_settle.proofs.Once.{are_one}
use Rattle.pop_settle.specs.Chosen.{proof_at}
use Rattle.pop_settle.specs.HushedNet.{hushed_net}
use Rattle.pop_settle.specs.SettlesGoals.{SettlesGoals}
use Rattle.pop_settle.proofs.HushedLeaves.{crowd_same, valid_given}
use Rattle.pop_settle.proofs.Rests.{settlement_right}
use Rattle.pop_settle.proofs.Takes.{settlement_given}

tuples_of : (net : NetModel) (words : List Word) → AreValid net words → All (IsTuple net) (crowd_of net words)
tuples_of net words valid =
    All-map (IsTuple net) (tuple_of net) words (All-weaker (IsValid net) (λ word. IsTuple net (tuple_of net word)) (λ word v. is_tuple net word) words valid)

pub settles_given : (net : NetModel) (proof : StableProof) (counts : List ℕ) (words : List Word) (result : Result Settled (Failure SettleFault)) → IsNet net → AreValid net words → Settles (hushed_net net (proof_at counts proof)) (proof_at counts proof) words result → SettlesGoals net proof counts words result
settles_given net proof counts words (Err failure) is valid s =
    record { settled = tt; only = tt; short = tt; reached = tt; right = tt; valid = tt; agents = tt; accepts = tt; refused = s.refused }
settles_given net proof counts words (Ok done) is valid s =
    let chosen = proof_at counts proof in
    let start = crowd_of net words in
    let end = crowd_of net done.crowd in
    let hushed : IsSettlement (hushed_net net chosen) chosen start done.takes end =
    subst (λ (f : List Word → CrowdModel). IsSettlement (hushed_net net chosen) chosen (f words) done.takes (f done.crowd)) (crowd_same net chosen) s.settled in
    let given = settlement_given net chosen start end done.takes hushed in
    let way = leads_reached net chosen start end done.takes (tuples_of net words valid) given.leads in
    record {
      settled = given;
      only = are_one net chosen start end done.takes given;
      short = s.short;
      reached = (way.0, (let e = way.1 in let l : length way.0 ≤ length done.takes = omega (arith, e) in l), way.2);
      right = settlement_right net proof counts start end done.takes is given;
      valid = valid_given net chosen done.crowd s.valid;
      agents = s.agents;
      accepts = s.accepts;
      refused = tt;
    }
