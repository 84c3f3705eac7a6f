-- If a proof is valid and the net is single, meetings bring every crowd to an end within the proof's bound per agent.
use Rattle.std.proofs.Common.{◌≡◌, ◌⊎◌, inl, inr, ℕ, suc, pred, ◌+◌, ◌*◌, ◌<◌, ◌≤◌, List, [], ◌∷◌, ◌++◌, length, refl, ap, sym, subst, ◌∙◌, arith}
use Rattle.std.specs.Prelude.{Some, slice_get, sum_by, All}
use Rattle.std.proofs.Math.Nat as nat
use Rattle.std.proofs.lemmas.Bool.{cases_lt}
use Rattle.std.proofs.lemmas.List.{length-append, length-map}
use Rattle.std.proofs.lemmas.List.Sums.{sum_by-cons}
use Rattle.std.proofs.lemmas.List.Elements.{All-nil, All-append, All-map, All-weaker}
use Rattle.std.proofs.lemmas.Option.{slice_get_within}
use Rattle.pres_ast.specs.PredModel.{PredModel}
use Rattle.pop_leaf.specs.LeafModel.{LeafModel, IsLeaf}
use Rattle.pop_leaf.specs.NetModel.{NetModel, CrowdModel, IsTuple, HasStates, IsNet, state_of}
use Rattle.pop_leaf.specs.Step.{Step, LeafStep}
use Rattle.pop_leaf.specs.Reachable.{Reachable}
use Rattle.pop_leaf.specs.Terminal.{IsTerminal}
use Rattle.pop_leaf.specs.Reaction.{IsSingle}
use Rattle.pop_net.proofs.Lifting.{terminal_from_components}
use Rattle.pop_net.proofs.Projection.{component, reachable_component}
use Rattle.pop_leaf.proofs.Quiet.{All-slice_get}
use Rattle.pop_net.proofs.Tuples.{leads_terminal, reachable_tuples}
use Rattle.pop_crowd.specs.declared.crowd.Meeting.{Meeting}
use Rattle.pop_crowd.specs.Replay.{replay, IsMeeting, AreMeetings}
use Rattle.pop_crowd.proofs.InARow.{replay_append}
use Rattle.pop_crowd.proofs.Reached.{replay_leads, length-replay}
use Rattle.cert_base.specs.declared.proof.Proof.{Proof}
use Rattle.cert_base.specs.declared.proof.LeafProof.{LeafProof}
use Rattle.cert_base.specs.ProofBound.{layers_bound, proof_bound}
use Rattle.cert_base.specs.ValidLayers.{ValidLayers}
use Rattle.cert_base.specs.ValidProof.{ValidProof}
use Rattle.cert_base.proofs.Agents.{InRange}
use Rattle.cert_base.proofs.InRange.{leads_in_range}
use Rattle.cert_layers.proofs.Termination.{valid_layers-end}
use Rattle.pop_checker.specs.Computes.{EndsByMeetings}
use Rattle.theory_nets.proofs.Moves.{IsSingleLeaf}
use Rattle.pop_checker.proofs.Meetings.{meet_way}

-- a leaf that is single, and its valid layers
abbrev CanSettle : LeafModel → LeafProof → Type 0
CanSettle leaf part = IsLeaf leaf × ValidLayers leaf part.layers × IsSingleLeaf leaf

-- the net's crowd with each leaf before leaf i at its end
record SettledBefore (net : NetModel) (i : ℕ) (crowd : CrowdModel) : Type 0 where
  tuples : All (IsTuple net) crowd
  ranges : (j : ℕ) (leaf : LeafModel) → slice_get net.leaves j ≡ Some leaf → InRange leaf (component j crowd)
  ended : (j : ℕ) (leaf : LeafModel) → j < i → slice_get net.leaves j ≡ Some leaf → IsTerminal (LeafStep leaf) (component j crowd)

-- at most k meetings that bring each leaf before leaf i to its end
record Brought (net : NetModel) (i : ℕ) (crowd : CrowdModel) (k : ℕ) : Type 0 where
  meetings : List Meeting
  pairs : AreMeetings (length crowd) meetings
  short : length meetings ≤ k
  settled : SettledBefore net i (replay net meetings crowd)

module _ (net : NetModel) (are : All IsLeaf net.leaves) (i : ℕ) (leaf : LeafModel) (h : slice_get net.leaves i ≡ Some leaf) where
  -- steps keep what is settled, and settle leaf i if they end it
  settled_after : (before after : CrowdModel) → SettledBefore net i before → Reachable (Step net) before after → IsTerminal (LeafStep leaf) (component i after) → SettledBefore net (suc i) after
  settled_after before after s r terminal =
      record {
        tuples = reachable_tuples net before after s.tuples r;
        ranges = λ j other e.
            let way = reachable_component net j other before after e r in
            leads_in_range other (All-slice_get IsLeaf net.leaves j other are e) (component j before) way.0 (component j after) way.1 (s.ranges j other e);
        ended = λ j other l e. ended_at j other e l;
      }
    where
      earlier : (j : ℕ) (other : LeafModel) → slice_get net.leaves j ≡ Some other → j < i → IsTerminal (LeafStep other) (component j after)
      earlier j other e l =
          let way = reachable_component net j other before after e r in
          let stays = leads_terminal (LeafStep other) (component j before) way.0 (component j after) (s.ended j other l e) way.1 in
          subst (λ (c : List ℕ). IsTerminal (LeafStep other) c) (sym stays) (s.ended j other l e)

      here : (j : ℕ) (other : LeafModel) → slice_get net.leaves j ≡ Some other → j ≡ i → IsTerminal (LeafStep other) (component j after)
      here j other e same =
          let at : slice_get net.leaves i ≡ Some other = rw same at e in
          let one : leaf ≡ other = cc in
          rw same (subst (λ (o : LeafModel). IsTerminal (LeafStep o) (component i after)) one terminal)

      ended_at : (j : ℕ) (other : LeafModel) → slice_get net.leaves j ≡ Some other → j < suc i → IsTerminal (LeafStep other) (component j after)
      ended_at j other e l = by_order (cases_lt j i)
        where
          by_order : (j < i) ⊎ (i ≤ j) → IsTerminal (LeafStep other) (component j after)
          by_order (inl k) = earlier j other e k
          by_order (inr k) = here j other e (omega arith)

-- one leaf is brought to its end
settle_leaf : (net : NetModel) → All IsLeaf net.leaves → (i : ℕ) (leaf : LeafModel) (part : LeafProof) → slice_get net.leaves i ≡ Some leaf → CanSettle leaf part → (crowd : CrowdModel) → SettledBefore net i crowd → Brought net (suc i) crowd (layers_bound part.layers * length crowd)
settle_leaf net are i leaf part h can crowd s =
    let first = valid_layers-end leaf part.layers can.0 can.1 (component i crowd) (s.ranges i leaf h) in
    let met = meet_way net i leaf h can.2 first.reached.0 crowd first.end s.tuples first.reached.2 in
    let way = replay_leads net met.meetings crowd s.tuples met.pairs in
    let size : layers_bound part.layers * length (component i crowd) ≡ layers_bound part.layers * length crowd = ap (λ n. layers_bound part.layers * n) (length-map crowd (λ tuple. state_of tuple i)) in
    let short_first = first.reached.1 in
    record {
      meetings = met.meetings;
      pairs = met.pairs;
      short = (let m : length met.meetings ≤ layers_bound part.layers * length crowd = omega (arith, met.short, short_first, size) in m);
      settled = settled_after net are i leaf h crowd (replay net met.meetings crowd) s (way.0, way.2) (subst (λ (c : List ℕ). IsTerminal (LeafStep leaf) c) (sym met.here) first.terminal);
    }

-- some meetings, and then those that bring the leaves to their ends
joined : (net : NetModel) (i : ℕ) (crowd : CrowdModel) (k l : ℕ) (first : List Meeting) → AreMeetings (length crowd) first → length first ≤ k → length (replay net first crowd) ≡ length crowd → Brought net i (replay net first crowd) l → Brought net i crowd (k + l)
joined net i crowd k l first pairs short size more =
    record {
      meetings = first ++ more.meetings;
      pairs = All-append (IsMeeting (length crowd)) first more.meetings pairs (subst (λ (n : ℕ). AreMeetings n more.meetings) size more.pairs);
      short = (let m : length (first ++ more.meetings) ≤ k + l = omega (arith, length-append first more.meetings, more.short) in m);
      settled = subst (λ (c : CrowdModel). SettledBefore net i c) (sym (replay_append net first more.meetings crowd)) more.settled;
    }

relaxed : (net : NetModel) (i j : ℕ) (crowd : CrowdModel) (k l : ℕ) → i ≡ j → k ≤ l → Brought net i crowd k → Brought net j crowd l
relaxed net i j crowd k l e m b =
    record {
      meetings = b.meetings;
      pairs = b.pairs;
      short = (let n : length b.meetings ≤ l = omega (arith, b.short) in n);
      settled = subst (λ (n : ℕ). SettledBefore net n (replay net b.meetings crowd)) e b.settled;
    }

-- the bound of all layers
abbrev pub bound_of : List LeafProof → ℕ
bound_of parts = sum_by (λ part. layers_bound part.layers) parts

bound_of-cons : (part : LeafProof) (parts : List LeafProof) (n m : ℕ) → m ≡ n → layers_bound part.layers * n + bound_of parts * m ≤ bound_of (part ∷ parts) * n
bound_of-cons part parts n m e =
    let sum : bound_of (part ∷ parts) * n ≡ layers_bound part.layers * n + bound_of parts * n = ap (λ k. k * n) (sum_by-cons (λ (p : LeafProof). layers_bound p.layers) part parts) ∙ nat.add-mul (layers_bound part.layers) (bound_of parts) n in
    let more : bound_of parts * m ≡ bound_of parts * n = ap (λ k. bound_of parts * k) e in
    omega (arith, sum, more)

-- the leaves from leaf i on, one after the other
bring : (net : NetModel) → All IsLeaf net.leaves → (leaves : List LeafModel) (parts : List LeafProof) (i : ℕ) → length parts ≡ length leaves → ((j : ℕ) (leaf : LeafModel) → slice_get leaves j ≡ Some leaf → slice_get net.leaves (i + j) ≡ Some leaf) → ((j : ℕ) (leaf : LeafModel) (part : LeafProof) → slice_get leaves j ≡ Some leaf → slice_get parts j ≡ Some part → CanSettle leaf part) → (crowd : CrowdModel) → SettledBefore net i crowd → Brought net (i + length leaves) crowd (bound_of parts * length crowd)
bring net are [] [] i e h can crowd s =
    record {
      meetings = [];
      pairs = All-nil (IsMeeting (length crowd));
      short = (let l : 0 ≤ 0 * length crowd = omega arith in l);
      settled = subst (λ (n : ℕ). SettledBefore net n crowd) (let same : i ≡ i + 0 = omega arith in same) s;
    }
bring net are [] (part ∷ parts) i e h can crowd s = cc
bring net are (leaf ∷ leaves) [] i e h can crowd s = cc
bring net are (leaf ∷ leaves) (part ∷ parts) i e h can crowd s =
    let here : slice_get net.leaves i ≡ Some leaf = subst (λ (n : ℕ). slice_get net.leaves n ≡ Some leaf) (let same : i + 0 ≡ i = omega arith in same) (h 0 leaf refl) in
    let next : (j : ℕ) (other : LeafModel) → slice_get leaves j ≡ Some other → slice_get net.leaves (suc i + j) ≡ Some other = λ j other k. subst (λ (n : ℕ). slice_get net.leaves n ≡ Some other) (let same : i + suc j ≡ suc i + j = omega arith in same) (h (suc j) other k) in
    let first = settle_leaf net are i leaf part here (can 0 leaf part refl refl) crowd s in
    let last = replay net first.meetings crowd in
    let more = bring net are leaves parts (suc i) (ap pred e) next (λ j other p k m. can (suc j) other p k m) last first.settled in
    let size : length last ≡ length crowd = length-replay net first.meetings crowd in
    relaxed net (suc i + length leaves) (i + suc (length leaves)) crowd (layers_bound part.layers * length crowd + bound_of parts * length last) (bound_of (part ∷ parts) * length crowd) (omega arith)
    (bound_of-cons part parts (length crowd) (length last) size)
    (joined net (suc i + length leaves) crowd (layers_bound part.layers * length crowd) (bound_of parts * length last) first.meetings first.pairs first.short size more)

-- from every crowd of the net meetings lead to a terminal one, within the bound of all layers for each agent
pub settles : (net : NetModel) (parts : List LeafProof) → All IsLeaf net.leaves → length parts ≡ length net.leaves → ((j : ℕ) (leaf : LeafModel) (part : LeafProof) → slice_get net.leaves j ≡ Some leaf → slice_get parts j ≡ Some part → ValidLayers leaf part.layers) → IsSingle net → EndsByMeetings net (bound_of parts)
settles net parts are e valid single crowd two tuples states =
    let b = bring net are net.leaves parts 0 e (λ j leaf h. subst (λ (n : ℕ). slice_get net.leaves n ≡ Some leaf) (let same : j ≡ 0 + j = omega arith in same) h) can crowd start in
    let s = b.settled in (
      b.meetings,
      b.pairs,
      b.short,
      terminal_from_components net (replay net b.meetings crowd) s.tuples (λ j leaf h. s.ended j leaf (let l : j < 0 + length net.leaves = omega (arith, slice_get_within net.leaves j leaf h) in l) h),
    )
  where
    can : (j : ℕ) (leaf : LeafModel) (part : LeafProof) → slice_get net.leaves j ≡ Some leaf → slice_get parts j ≡ Some part → CanSettle leaf part
    can j leaf part h k = (All-slice_get IsLeaf net.leaves j leaf are h, valid j leaf part h k, All-slice_get IsSingleLeaf net.leaves j leaf single h)

    start : SettledBefore net 0 crowd
    start = record {
      tuples = tuples;
      ranges = λ j leaf h. All-map (λ (q : ℕ). q < length leaf.states) (λ tuple. state_of tuple j) crowd (All-weaker (HasStates net) (λ tuple. state_of tuple j < length leaf.states) (λ tuple has. has j leaf h) crowd states);
      ended = λ j leaf l h. absurd (omega arith);
    }

-- if a proof is valid, a single net settles by meetings within the proof's bound
pub valid_settles : (net : NetModel) (p : PredModel) (proof : Proof) → IsNet net → ValidProof net p proof → IsSingle net → EndsByMeetings net (proof_bound proof)
valid_settles net p proof is v single =
    settles net proof.leaves is.leaves v.one_each (λ j leaf part h k. (v.leaves j leaf part h k).layers) single
