-- A net with a valid proof: steps in which no leaf waits lead every crowd to its end, so its fair executions by such steps
-- become stable. Each leaf makes, of the moves that take its states, the one that its layers list first.
use Rattle.std.proofs.Common.{◌≡◌, ℕ, zero, suc, pred, ◌<◌, ◌≤◌, Bool, true, false, ◌&&◌, List, [], ◌∷◌, length, get_or, refl, ap, sym, subst, ◌∙◌, arith}
use Rattle.std.specs.Prelude.{Some, slice_get, slice_index_or, All}
use Rattle.std.proofs.lemmas.List.{length-map}
use Rattle.std.proofs.lemmas.List.Elements.{All-head, All-tail, All-get_or}
use Rattle.std.proofs.lemmas.Option.{slice_get-get_or}
use Rattle.pres_ast.specs.PredModel.{PredModel}
use Rattle.pop_leaf.specs.LeafModel.{LeafModel, IsLeaf}
use Rattle.pop_leaf.specs.NetModel.{NetModel, Tuple, CrowdModel, IsTuple, HasStates, IsNet, state_of}
use Rattle.pop_leaf.specs.InputCrowd.{input_crowd}
use Rattle.pop_leaf.specs.Step.{TupleChange, Step}
use Rattle.pop_leaf.specs.Reachable.{Leads}
use Rattle.pop_leaf.specs.Terminal.{IsTerminal}
use Rattle.pop_leaf.specs.Reaction.{reactions, reaction, after_meeting, IsSingle}
use Rattle.pop_leaf.proofs.Quiet.{All-slice_get, leaf_quiet, leaves_quiet, quiet_change}
use Rattle.pop_leaf.proofs.Reactions.{and_left, and_right, length-reactions, get-reactions, state_of-map, reaction_change}
use Rattle.pop_net.proofs.Tuples.{leads_length, reachable_tuples, input_tuples}
use Rattle.pop_crowd.specs.declared.crowd.Meeting.{Meeting as Pair}
use Rattle.pop_crowd.specs.Replay.{replay, IsMeeting, AreMeetings, changes}
use Rattle.pop_crowd.proofs.Reached.{length-after_meeting, tuples_after_meeting}
use Rattle.pop_crowd.proofs.Unmoved.{still, moved}
use Rattle.terminal_test.proofs.Pairwise.{quiet_leaves}
use Rattle.terminal_test.proofs.Ends.{terminal_without}
use Rattle.cert_base.specs.declared.proof.LeafProof.{LeafProof}
use Rattle.cert_base.specs.declared.proof.Proof.{Proof}
use Rattle.cert_base.specs.ValidLayers.{ValidLayers}
use Rattle.cert_base.specs.ValidProof.{ValidProof}
use Rattle.theory_fair.specs.StablyComputes.{StablyComputes}
use Rattle.theory_fair.specs.Synchronous.{AllReact, SynchronousStep}
use Rattle.theory_fair.proofs.Standing.{size_of_input}
use Rattle.theory_fair.proofs.Synchronous.{synchronous_compute}
use Rattle.theory_random.proofs.Settled.{unmoved}
use Rattle.pop_checker.specs.Computes.{Computes, EndsByMeetings}
use Rattle.theory_nets.proofs.Moves.{IsSingleLeaf}
use Rattle.pop_checker.proofs.Settles.{bound_of, settles}
use Rattle.pop_checker.proofs.Fairness.{reached_states}
use Rattle.pop_checker.proofs.LeastMoves.{least_leaf, least_is_leaf, least_single, least_valid, least_reacts, least_quiet}

abbrev least_leaves : List LeafModel → List LeafProof → List LeafModel
least_leaves [] parts = []
least_leaves (leaf ∷ leaves) [] = leaf ∷ leaves
least_leaves (leaf ∷ leaves) (part ∷ parts) = least_leaf leaf part.layers ∷ least_leaves leaves parts

least_length : (leaves : List LeafModel) (parts : List LeafProof) → length (least_leaves leaves parts) ≡ length leaves
least_length [] parts = refl
least_length (leaf ∷ leaves) [] = refl
least_length (leaf ∷ leaves) (part ∷ parts) = ap suc (least_length leaves parts)

-- the leaf, its part and what became of it
record LeastAt (leaves : List LeafModel) (parts : List LeafProof) (i : ℕ) (least : LeafModel) : Type 0 where
  leaf : LeafModel
  part : LeafProof
  leaf_is : slice_get leaves i ≡ Some leaf
  part_is : slice_get parts i ≡ Some part
  same : least_leaf leaf part.layers ≡ least

least_at : (leaves : List LeafModel) (parts : List LeafProof) (i : ℕ) (least : LeafModel) → length parts ≡ length leaves → slice_get (least_leaves leaves parts) i ≡ Some least → LeastAt leaves parts i least
least_at [] parts i least e h = cc
least_at (l ∷ leaves) [] i least e h = cc
least_at (l ∷ leaves) (part ∷ parts) zero least e h =
    record { leaf = l; part = part; leaf_is = refl; part_is = refl; same = (let one : least_leaf l part.layers ≡ least = cc in one) }
least_at (l ∷ leaves) (part ∷ parts) (suc i) least e h =
    let r = least_at leaves parts i least (ap pred e) h in
    record { leaf = r.leaf; part = r.part; leaf_is = r.leaf_is; part_is = r.part_is; same = r.same }

-- the leaf at a place, and what became of it
at_least : (leaves : List LeafModel) (parts : List LeafProof) (i : ℕ) (leaf : LeafModel) → length parts ≡ length leaves → slice_get leaves i ≡ Some leaf → (part : LeafProof) × (slice_get parts i ≡ Some part) × (slice_get (least_leaves leaves parts) i ≡ Some (least_leaf leaf part.layers))
at_least [] parts i leaf e h = cc
at_least (l ∷ leaves) [] i leaf e h = cc
at_least (l ∷ leaves) (part ∷ parts) zero leaf e h =
    let same : l ≡ leaf = cc in
    (part, refl, ap (λ (z : LeafModel). Some (least_leaf z part.layers)) same)
at_least (l ∷ leaves) (part ∷ parts) (suc i) leaf e h = at_least leaves parts i leaf (ap pred e) h

-- each leaf's part has valid layers
abbrev AreValid : List LeafModel → List LeafProof → Type 0
AreValid leaves parts =
    (i : ℕ) (leaf : LeafModel) (part : LeafProof) → slice_get leaves i ≡ Some leaf → slice_get parts i ≡ Some part → ValidLayers leaf part.layers

quiet_again : (leaves : List LeafModel) (parts : List LeafProof) (x y : Tuple) → length parts ≡ length leaves → AreValid leaves parts → leaves_quiet (least_leaves leaves parts) x y ≡ true → leaves_quiet leaves x y ≡ true
quiet_again [] parts x y e valid q = refl
quiet_again (leaf ∷ leaves) [] x y e valid q = cc
quiet_again (leaf ∷ leaves) (part ∷ parts) [] y e valid q = refl
quiet_again (leaf ∷ leaves) (part ∷ parts) (a ∷ x) [] e valid q = refl
quiet_again (leaf ∷ leaves) (part ∷ parts) (a ∷ x) (b ∷ y) e valid q =
    both (leaf_quiet leaf a b) (leaves_quiet leaves x y)
    (least_quiet leaf part.layers (valid 0 leaf part refl refl) a b (and_left (leaf_quiet (least_leaf leaf part.layers) a b) (leaves_quiet (least_leaves leaves parts) x y) q))
    (quiet_again leaves parts x y (ap pred e) (λ i l p h k. valid (suc i) l p h k) (and_right (leaf_quiet (least_leaf leaf part.layers) a b) (leaves_quiet (least_leaves leaves parts) x y) q))
  where
    both : (a b : Bool) → a ≡ true → b ≡ true → a && b ≡ true
    both true b e f = f
    both false b e f = cc

module _ (net : NetModel) (parts : List LeafProof) (are : All IsLeaf net.leaves) (lengths : length parts ≡ length net.leaves) (valid : AreValid net.leaves parts) where
  abbrev least : NetModel
  least = record { variables = net.variables; leaves = least_leaves net.leaves parts; combine = net.combine }

  same_length : length least.leaves ≡ length net.leaves
  same_length = least_length net.leaves parts

  tuple_of_least : (x : Tuple) → IsTuple net x → IsTuple least x
  tuple_of_least x h = h ∙ sym same_length

  tuples_of_least : (crowd : CrowdModel) → All (IsTuple net) crowd → All (IsTuple least) crowd
  tuples_of_least crowd all k d l = tuple_of_least (get_or crowd k d) (all k d l)

  tuples_of_net : (crowd : CrowdModel) → All (IsTuple least) crowd → All (IsTuple net) crowd
  tuples_of_net crowd all k d l = all k d l ∙ same_length

  states_of_least : (crowd : CrowdModel) → All (HasStates net) crowd → All (HasStates least) crowd
  states_of_least crowd all k d l i leaf h =
      let at = least_at net.leaves parts i leaf lengths h in
      subst (λ (z : LeafModel). state_of (get_or crowd k d) i < length z.states) at.same (all k d l i at.leaf at.leaf_is)

  least_ends : EndsByMeetings least (bound_of parts)
  least_ends =
      settles least parts leaves (lengths ∙ sym same_length)
      (λ i leaf part h k.
      let at = least_at net.leaves parts i leaf lengths h in
      let one : at.part ≡ part = same_part at.part part i at.part_is k in
      subst (λ (z : LeafModel). ValidLayers z part.layers) (ap (λ (p : LeafProof). least_leaf at.leaf p.layers) (sym one) ∙ at.same) (least_valid at.leaf part.layers (valid i at.leaf part at.leaf_is k)))
      single
    where
      same_part : (p q : LeafProof) (i : ℕ) → slice_get parts i ≡ Some p → slice_get parts i ≡ Some q → p ≡ q
      same_part p q i h k = let both : Some p ≡ Some q = sym h ∙ k in cc

      none : LeafModel
      none = record { states = []; moves = []; inputs = []; outputs = []; helpers = [] }

      leaves : All IsLeaf least.leaves
      leaves k d l =
          let at = least_at net.leaves parts k (get_or least.leaves k d) lengths (slice_get-get_or least.leaves k d l) in
          subst IsLeaf at.same (least_is_leaf at.leaf at.part.layers (All-slice_get IsLeaf net.leaves k at.leaf are at.leaf_is))

      single : IsSingle least
      single k d l =
          let at = least_at net.leaves parts k (get_or least.leaves k d) lengths (slice_get-get_or least.leaves k d l) in
          subst IsSingleLeaf at.same (least_single at.leaf at.part.layers)

  all_react : (x y : Tuple) → IsTuple net x → IsTuple net y → AllReact net x y (reaction least x y).0 (reaction least x y).1
  all_react x y hx hy =
      record {
        first = length-map (reactions least.leaves x y) (λ z. z.0) ∙ length-reactions least.leaves x y (tuple_of_least x hx) (tuple_of_least y hy) ∙ same_length;
        second = length-map (reactions least.leaves x y) (λ z. z.1) ∙ length-reactions least.leaves x y (tuple_of_least x hx) (tuple_of_least y hy) ∙ same_length;
        each = λ i leaf h.
            let at = at_least net.leaves parts i leaf lengths h in
            let e = get-reactions least.leaves x y i (least_leaf leaf at.0.layers) (tuple_of_least x hx) (tuple_of_least y hy) at.2 in
            rw (state_of-map (λ z. z.0) (reactions least.leaves x y) i _ e, state_of-map (λ z. z.1) (reactions least.leaves x y) i _ e)
            (least_reacts leaf at.0.layers (valid i leaf at.0 h at.1) (state_of x i) (state_of y i));
      }

  meets : (m : Pair) (crowd : CrowdModel) → All (IsTuple net) crowd → IsMeeting (length crowd) m → SynchronousStep net crowd (after_meeting least m.a m.b crowd)
  meets m crowd tuples h =
      record {
        a = m.a;
        b = m.b;
        different = h.different;
        x = slice_index_or crowd m.a [];
        y = slice_index_or crowd m.b [];
        x' = (reaction least (slice_index_or crowd m.a []) (slice_index_or crowd m.b [])).0;
        y' = (reaction least (slice_index_or crowd m.a []) (slice_index_or crowd m.b [])).1;
        a_had = slice_get-get_or crowd m.a [] h.first;
        b_had = slice_get-get_or crowd m.b [] h.second;
        change = all_react (slice_index_or crowd m.a []) (slice_index_or crowd m.b []) (All-get_or (IsTuple net) crowd m.a [] h.first tuples) (All-get_or (IsTuple net) crowd m.b [] h.second tuples);
        others_stay = refl;
      }

  meetings_lead : (meetings : List Pair) (crowd : CrowdModel) → All (IsTuple net) crowd → AreMeetings (length crowd) meetings → All (IsTuple net) (replay least meetings crowd) × ((path : List CrowdModel) × Leads (SynchronousStep net) crowd path (replay least meetings crowd))
  meetings_lead [] crowd tuples h = (tuples, ([], refl))
  meetings_lead (m ∷ meetings) crowd tuples h =
      let next = after_meeting least m.a m.b crowd in
      let first = All-head (IsMeeting (length crowd)) m meetings h in
      let rest : AreMeetings (length next) meetings = subst (λ n. AreMeetings n meetings) (sym (length-after_meeting least m.a m.b crowd)) (All-tail (IsMeeting (length crowd)) m meetings h) in
      let same = tuples_of_net next (tuples_after_meeting least m.a m.b crowd (tuples_of_least crowd tuples) first.first first.second) in
      let more = meetings_lead meetings next same rest in
      (more.0, (next ∷ more.1.0, (meets m crowd tuples first, more.1.1)))

  -- where no move that is left changes the crowd, none does
  terminal_again : (crowd : CrowdModel) → All (IsTuple net) crowd → IsTerminal (Step least) crowd → IsTerminal (Step net) crowd
  terminal_again crowd tuples terminal =
      terminal_without net crowd tuples
      (λ a b l m.
      let x = get_or crowd a [] in
      let y = get_or crowd b [] in
      let la : a < length crowd = omega (arith, l, m) in
      let hx = All-get_or (IsTuple net) crowd a [] la tuples in
      let hy = All-get_or (IsTuple net) crowd b [] m tuples in
      let none : changes least a b crowd ≡ false = unmoved least crowd (tuples_of_least crowd tuples) terminal (a, b) ((λ e. omega (arith, e, l)), la, m) in
      let stay = still least x y none in
      let quiet = quiet_again net.leaves parts x y lengths valid (quiet_leaves least.leaves x y (tuple_of_least x hx) (tuple_of_least y hy) stay.0 stay.1) in
      let change = reaction_change net x y hx hy in
      let same = quiet_change net x y (reaction net x y).0 (reaction net x y).1 hx hy quiet change in
      moved net x y same.0 same.1)

pub synchronous_fairly : (net : NetModel) (p : PredModel) (proof : Proof) (k : ℕ) → IsNet net → ValidProof net p proof → Computes net p.tree k → StablyComputes (SynchronousStep net) net p.tree
synchronous_fairly net p proof k is v computes =
    synchronous_compute net p.tree
    (λ counts crowd input r.
    let size = leads_length (TupleChange net) (input_crowd net counts) r.0 crowd r.1 in
    let two : 2 ≤ length crowd = omega (arith, size, size_of_input net counts, input.two_agents) in
    let tuples = reachable_tuples net (input_crowd net counts) crowd (input_tuples net counts) r in
    let parts = proof.leaves in
    let by = least_ends net proof.leaves is.leaves v.one_each valid crowd two (tuples_of_least net proof.leaves is.leaves v.one_each valid crowd tuples) (states_of_least net proof.leaves is.leaves v.one_each valid crowd (reached_states net counts crowd is input r)) in
    let led = meetings_lead net proof.leaves is.leaves v.one_each valid by.0 crowd tuples by.1 in
    record {
      ends = (replay (least net proof.leaves is.leaves v.one_each valid) by.0 crowd, terminal_again net proof.leaves is.leaves v.one_each valid (replay (least net proof.leaves is.leaves v.one_each valid) by.0 crowd) led.0 by.3, led.1);
      right = (computes counts crowd input r).right;
    })
  where
    valid : AreValid net.leaves proof.leaves
    valid i leaf part h k = (v.leaves i leaf part h k).layers
