-- If a net's leaves have valid layers, every crowd can reach a terminal one within the proof's bound for each agent.
use Rattle.std.proofs.Common.{◌≡◌, ◌≢◌, inl, inr, ℕ, suc, pred, ◌+◌, ◌*◌, ◌<◌, ◌≤◌, List, [], ◌∷◌, ◌++◌, length, refl, ap, sym, subst, ◌∙◌, arith}
use Rattle.std.specs.Prelude.{Some, slice_get, sum_by, All}
use Rattle.std.proofs.Math.Nat as nat
use Rattle.std.proofs.lemmas.Bool.Decides.{eqb_tells}
use Rattle.std.proofs.lemmas.List.{length-append, length-map}
use Rattle.std.proofs.lemmas.List.Sums.{sum_by-cons}
use Rattle.std.proofs.lemmas.Option.{slice_get_within}
use Rattle.pop_leaf.specs.LeafModel.{LeafModel, IsLeaf}
use Rattle.pop_leaf.specs.NetModel.{NetModel, CrowdModel, IsTuple, IsNet, state_of, number_of_helpers}
use Rattle.pop_leaf.specs.InputCrowd.{IsInput, input_crowd}
use Rattle.pop_leaf.specs.Step.{TupleChange, Step, LeafStep}
use Rattle.pop_leaf.specs.Reachable.{Leads, ReachedWithin, Reachable}
use Rattle.pop_leaf.specs.Terminal.{IsTerminal}
use Rattle.pop_net.proofs.Lifting.{Lifted, lift_way, terminal_from_components}
use Rattle.pop_net.proofs.Projection.{component, input_component, reachable_component}
use Rattle.pop_leaf.proofs.Quiet.{All-slice_get}
use Rattle.pop_net.proofs.Tuples.{leads_length, reachable_tuples, input_tuples}
use Rattle.cert_base.specs.declared.proof.LeafProof.{LeafProof}
use Rattle.cert_base.specs.declared.proof.Proof.{Proof}
use Rattle.cert_base.specs.ProofBound.{layers_bound, proof_bound}
use Rattle.cert_base.specs.ValidProof.{ValidProof}
use Rattle.pres_ast.specs.PredModel.{PredModel}
use Rattle.cert_base.specs.ValidLayers.{ValidLayers}
use Rattle.cert_base.proofs.Agents.{InRange}
use Rattle.cert_base.proofs.InRange.{leads_in_range, input_in_range}
use Rattle.cert_layers.proofs.Termination.{valid_layers-end, leads-append}
use Rattle.base_laws.proofs.Numbers.{Tells}
use Rattle.base_laws.proofs.Options.{same_value}

-- at each leaf each agent has a state of the leaf
abbrev pub InRanges : NetModel → CrowdModel → Type 0
InRanges net crowd = (j : ℕ) (leaf : LeafModel) → slice_get net.leaves j ≡ Some leaf → InRange leaf (component j crowd)

-- the crowd is terminal at each leaf before leaf i
abbrev pub EndedBefore : NetModel → ℕ → CrowdModel → Type 0
EndedBefore net i crowd = (j : ℕ) (leaf : LeafModel) → j < i → slice_get net.leaves j ≡ Some leaf → IsTerminal (LeafStep leaf) (component j crowd)

pub record Brought (net : NetModel) (i : ℕ) (crowd : CrowdModel) (k : ℕ) : Type 0 where
  pub last : CrowdModel
  pub path : List CrowdModel
  pub way : Leads (Step net) crowd path last
  pub short : length path ≤ k
  pub tuples : All (IsTuple net) last
  pub ended : EndedBefore net i last

module _ (net : NetModel) (i : ℕ) (leaf : LeafModel) (h : slice_get net.leaves i ≡ Some leaf) (crowd : CrowdModel) (end : List ℕ) (k : ℕ) (l : Lifted net i crowd end k) where
  ranges_after : InRanges net crowd → InRange leaf end → (j : ℕ) (other : LeafModel) → slice_get net.leaves j ≡ Some other → Tells j i → InRange other (component j l.last)
  ranges_after ranges range j other e (inr ne) =
      subst (λ (c : List ℕ). InRange other c) (sym (l.others j ne.1)) (ranges j other e)
  ranges_after ranges range j other e (inl same) =
      let at : slice_get net.leaves i ≡ Some other = rw same.1 at e in
      let one = same_value (slice_get net.leaves i) leaf other h at in
      subst (λ (n : ℕ). InRange other (component n l.last)) (sym same.1) (subst (λ (c : List ℕ). InRange other c) (sym l.here) (subst (λ (o : LeafModel). InRange o end) one range))

  ended_after : EndedBefore net i crowd → IsTerminal (LeafStep leaf) end → (j : ℕ) (other : LeafModel) → j < suc i → slice_get net.leaves j ≡ Some other → Tells j i → IsTerminal (LeafStep other) (component j l.last)
  ended_after ended terminal j other b e (inr ne) =
      subst (λ (c : List ℕ). IsTerminal (LeafStep other) c) (sym (l.others j ne.1)) (ended j other (below j i b ne.1) e)
    where
      below : (j i : ℕ) → j < suc i → j ≢ i → j < i
      below j i b ne = omega arith
  ended_after ended terminal j other b e (inl same) =
      let at : slice_get net.leaves i ≡ Some other = rw same.1 at e in
      let one = same_value (slice_get net.leaves i) leaf other h at in
      subst (λ (n : ℕ). IsTerminal (LeafStep other) (component n l.last)) (sym same.1) (subst (λ (c : List ℕ). IsTerminal (LeafStep other) c) (sym l.here) (subst (λ (o : LeafModel). IsTerminal (LeafStep o) end) one terminal))

-- the leaf and its layers
abbrev pub HasLayers : LeafModel → LeafProof → Type 0
HasLayers leaf part = IsLeaf leaf × ValidLayers leaf part.layers

-- the leaves from leaf i on, one after the other
bring : (net : NetModel) (leaves : List LeafModel) (parts : List LeafProof) (i : ℕ) → length parts ≡ length leaves → ((j : ℕ) (leaf : LeafModel) → slice_get leaves j ≡ Some leaf → slice_get net.leaves (i + j) ≡ Some leaf) → ((j : ℕ) (leaf : LeafModel) (part : LeafProof) → slice_get leaves j ≡ Some leaf → slice_get parts j ≡ Some part → HasLayers leaf part) → (crowd : CrowdModel) → All (IsTuple net) crowd → InRanges net crowd → EndedBefore net i crowd → Brought net (i + length leaves) crowd (sum_by (λ part. layers_bound part.layers) parts * length crowd)
bring net [] [] i e h valid crowd tuples ranges ended =
    record {
      last = crowd;
      path = [];
      way = refl;
      short = (let l : 0 ≤ 0 * length crowd = omega arith in l);
      tuples = tuples;
      ended = λ j leaf b. ended j leaf (omega arith);
    }
bring net [] (part ∷ parts) i e h valid crowd tuples ranges ended = cc
bring net (leaf ∷ leaves) [] i e h valid crowd tuples ranges ended = cc
bring net (leaf ∷ leaves) (part ∷ parts) i e h valid crowd tuples ranges ended =
    let here : slice_get net.leaves i ≡ Some leaf = subst (λ (n : ℕ). slice_get net.leaves n ≡ Some leaf) (let same : i + 0 ≡ i = omega arith in same) (h 0 leaf refl) in
    let has = valid 0 leaf part refl refl in
    let first = valid_layers-end leaf part.layers has.0 has.1 (component i crowd) (ranges i leaf here) in
    let l = lift_way net i leaf here first.reached.0 crowd first.end tuples first.reached.2 in
    let next : (j : ℕ) (other : LeafModel) → slice_get leaves j ≡ Some other → slice_get net.leaves (suc i + j) ≡ Some other = λ j other k. subst (λ (n : ℕ). slice_get net.leaves n ≡ Some other) (let same : i + suc j ≡ suc i + j = omega arith in same) (h (suc j) other k) in
    let more = bring net leaves parts (suc i) (ap pred e) next (λ j other p k m. valid (suc j) other p k m) l.last l.tuples (λ j other k. ranges_after net i leaf here crowd first.end _ l ranges first.range j other k (eqb_tells j i)) (λ j other b k. ended_after net i leaf here crowd first.end _ l ended first.terminal j other b k (eqb_tells j i)) in
    let bound = sum_by-cons (λ (p : LeafProof). layers_bound p.layers) part parts in
    let product : sum_by (λ (p : LeafProof). layers_bound p.layers) (part ∷ parts) * length crowd ≡ layers_bound part.layers * length crowd + sum_by (λ (p : LeafProof). layers_bound p.layers) parts * length crowd = ap (λ n. n * length crowd) bound ∙ nat.add-mul (layers_bound part.layers) (sum_by (λ (p : LeafProof). layers_bound p.layers) parts) (length crowd) in
    let size : length l.last ≡ length crowd = leads_length (TupleChange net) crowd l.path l.last l.way in
    let size_first : layers_bound part.layers * length (component i crowd) ≡ layers_bound part.layers * length crowd = ap (λ n. layers_bound part.layers * n) (length-map crowd (λ tuple. state_of tuple i)) in
    let size_more : sum_by (λ (p : LeafProof). layers_bound p.layers) parts * length l.last ≡ sum_by (λ (p : LeafProof). layers_bound p.layers) parts * length crowd = ap (λ n. sum_by (λ (p : LeafProof). layers_bound p.layers) parts * n) size in
    let short_first = first.reached.1 in
    record {
      last = more.last;
      path = l.path ++ more.path;
      way = leads-append (Step net) crowd l.path l.last more.path more.last l.way more.way;
      short = (let m : length (l.path ++ more.path) ≤ sum_by (λ (p : LeafProof). layers_bound p.layers) (part ∷ parts) * length crowd = omega (arith, length-append l.path more.path, l.long, short_first, more.short, product, size_first, size_more) in m);
      tuples = more.tuples;
      ended = λ j other b. more.ended j other (omega (arith, b));
    }

-- from every crowd of the net a terminal one is reached within the bound of all layers for each agent
pub net_ends : (net : NetModel) (parts : List LeafProof) → length parts ≡ length net.leaves → ((j : ℕ) (leaf : LeafModel) (part : LeafProof) → slice_get net.leaves j ≡ Some leaf → slice_get parts j ≡ Some part → HasLayers leaf part) → (crowd : CrowdModel) → All (IsTuple net) crowd → InRanges net crowd → (end : CrowdModel) × IsTerminal (Step net) end × ReachedWithin (Step net) (sum_by (λ part. layers_bound part.layers) parts * length crowd) crowd end
net_ends net parts e valid crowd tuples ranges =
    let b = bring net net.leaves parts 0 e (λ j leaf h. subst (λ (n : ℕ). slice_get net.leaves n ≡ Some leaf) (let same : j ≡ 0 + j = omega arith in same) h) valid crowd tuples ranges (λ j leaf l h. absurd (omega arith)) in (
      b.last,
      terminal_from_components net b.last b.tuples (λ j leaf h. b.ended j leaf (let l : j < 0 + length net.leaves = omega (arith, slice_get_within net.leaves j leaf h) in l) h),
      (b.path, b.short, b.way),
    )

-- in a crowd that is reachable from an input each agent has a state of each leaf
pub reachable_in_ranges : (net : NetModel) (counts : List ℕ) (crowd : CrowdModel) → IsNet net → length counts ≡ length net.variables → Reachable (Step net) (input_crowd net counts) crowd → InRanges net crowd
reachable_in_ranges net counts crowd is long r j leaf h =
    let is_leaf = All-slice_get IsLeaf net.leaves j leaf is.leaves h in
    let inputs = All-slice_get (λ (l : LeafModel). length l.inputs ≡ length net.variables) net.leaves j leaf is.inputs h in
    let helpers = All-slice_get (λ (l : LeafModel). length l.helpers ≡ number_of_helpers net) net.leaves j leaf is.helpers h in
    let first : InRange leaf (component j (input_crowd net counts)) = rw (input_component net j leaf counts h helpers) (input_in_range leaf is_leaf counts (long ∙ sym inputs)) in
    let way = reachable_component net j leaf (input_crowd net counts) crowd h r in
    leads_in_range leaf is_leaf (component j (input_crowd net counts)) way.0 (component j crowd) way.1 first

-- if a proof is valid, every crowd on the way can reach a terminal one within the proof's bound for each agent
pub valid_ends : (net : NetModel) (p : PredModel) (proof : Proof) → IsNet net → ValidProof net p proof → (counts : List ℕ) (crowd : CrowdModel) → IsInput (length net.variables) (number_of_helpers net) counts → Reachable (Step net) (input_crowd net counts) crowd → (end : CrowdModel) × IsTerminal (Step net) end × ReachedWithin (Step net) (proof_bound proof * length crowd) crowd end
valid_ends net p proof is v counts crowd input r =
    net_ends net proof.leaves v.one_each
    (λ j leaf part h k. (All-slice_get IsLeaf net.leaves j leaf is.leaves h, (v.leaves j leaf part h k).layers))
    crowd
    (reachable_tuples net (input_crowd net counts) crowd (input_tuples net counts) r)
    (reachable_in_ranges net counts crowd is input.one_each r)
