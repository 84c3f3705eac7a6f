-- The heights of a net's leaves by their layers: no meeting raises their sum, and some meeting lowers it until the end.
use Rattle.std.proofs.Common.{◌≡◌, ◌≢◌, ◌⊎◌, inl, inr, ℕ, zero, suc, pred, ◌+◌, ◌*◌, ◌<◌, ◌≤◌, List, [], ◌∷◌, ◌++◌, length, get_or, refl, ap, sym, subst, ◌∙◌, arith}
use Rattle.std.specs.Prelude.{Some, slice_get, sum_by, All}
use Rattle.std.proofs.Math.Nat as nat
use Rattle.std.proofs.lemmas.List.{length-map}
use Rattle.std.proofs.lemmas.List.Sums.{sum_by-cons}
use Rattle.std.proofs.lemmas.List.Elements.{All-get_or}
use Rattle.std.proofs.lemmas.Option.{slice_get_within, slice_get-get_or}
use Rattle.pres_ast.specs.PredTree.{PredTree}
use Rattle.pop_leaf.specs.LeafModel.{LeafModel, IsLeaf}
use Rattle.pop_leaf.specs.NetModel.{NetModel, Tuple, CrowdModel, IsTuple, IsNet, number_of_helpers, state_of}
use Rattle.pop_leaf.specs.InputCrowd.{IsInput, input_crowd, leaf_input_crowd}
use Rattle.pop_leaf.specs.Step.{LeafMove, Step, LeafStep}
use Rattle.pop_leaf.specs.Reachable.{Reachable}
use Rattle.pop_leaf.specs.Terminal.{IsTerminal}
use Rattle.pop_leaf.specs.Reaction.{reaction}
use Rattle.pop_leaf.proofs.Quiet.{All-slice_get}
use Rattle.pop_net.proofs.Projection.{component, component-set, slice_get-component, step_component, input_component, reachable_component}
use Rattle.pop_net.proofs.Tuples.{reachable_tuples, input_tuples}
use Rattle.pop_net.proofs.Lifting.{terminal_from_components}
use Rattle.theory_fair.specs.Synchronous.{LeafReacts}
use Rattle.theory_fair.proofs.Synchronous.{reaction_reacts}
use Rattle.theory_fair.proofs.Reached.{leads_one_more}
use Rattle.cert_base.proofs.Agents.{InRange, move_change}
use Rattle.cert_base.proofs.InRange.{end_in_range}
use Rattle.theory_random.specs.RandomMeetings.{meet}
use Rattle.theory_random.specs.Laws.{IsPair, FallsByPairs}
use Rattle.theory_random.proofs.Pairs.{has_pair}
use Rattle.theory_random.proofs.Settled.{meets_step}
use Rattle.theory_random.proofs.AlmostSurely.{cubic_time}
use Rattle.cert_base.specs.declared.proof.LeafProof.{LeafProof}
use Rattle.cert_base.specs.declared.proof.Proof.{Proof}
use Rattle.cert_base.specs.ProofBound.{layers_bound, proof_bound}
use Rattle.theory_tame.specs.Laws.{AreTame, HasTameLayers, EndsAreRight, TameLayersAreCubic}
use Rattle.theory_tame.proofs.Leaves.{height, height_most, height_stays, Lowering, progress}

abbrev bound_of : List LeafProof → ℕ
bound_of parts = sum_by (λ part. layers_bound part.layers) parts

-- the heights of the leaves from leaf i on
heights : List LeafModel → List LeafProof → ℕ → CrowdModel → ℕ
heights [] parts i crowd = 0
heights (leaf ∷ leaves) [] i crowd = 0
heights (leaf ∷ leaves) (part ∷ parts) i crowd =
    height leaf part.layers (component i crowd) + heights leaves parts (suc i) crowd

-- these leaves are those of the net from leaf i on, and these parts are theirs and tame
abbrev AreAt : NetModel → List LeafModel → ℕ → Type 0
AreAt net leaves i =
    (j : ℕ) (leaf : LeafModel) → slice_get leaves j ≡ Some leaf → slice_get net.leaves (i + j) ≡ Some leaf

abbrev AreTheirs : List LeafModel → List LeafProof → Type 0
AreTheirs leaves parts =
    (j : ℕ) (leaf : LeafModel) (part : LeafProof) → slice_get leaves j ≡ Some leaf → slice_get parts j ≡ Some part → AreTame leaf part

at_first : (net : NetModel) (leaf : LeafModel) (leaves : List LeafModel) (i : ℕ) → AreAt net (leaf ∷ leaves) i → slice_get net.leaves i ≡ Some leaf
at_first net leaf leaves i there =
    subst (λ n. slice_get net.leaves n ≡ Some leaf) (let z : i + 0 ≡ i = omega arith in z) (there 0 leaf refl)

at_rest : (net : NetModel) (leaf : LeafModel) (leaves : List LeafModel) (i : ℕ) → AreAt net (leaf ∷ leaves) i → AreAt net leaves (suc i)
at_rest net leaf leaves i there j other g =
    subst (λ n. slice_get net.leaves n ≡ Some other) (let z : i + suc j ≡ suc i + j = omega arith in z) (there (suc j) other g)

theirs_rest : (leaf : LeafModel) (leaves : List LeafModel) (part : LeafProof) (parts : List LeafProof) → AreTheirs (leaf ∷ leaves) (part ∷ parts) → AreTheirs leaves parts
theirs_rest leaf leaves part parts has j other p g k = has (suc j) other p g k

-- each leaf's states are in range
abbrev AreInRange : NetModel → CrowdModel → Type 0
AreInRange net crowd =
    (i : ℕ) (leaf : LeafModel) → slice_get net.leaves i ≡ Some leaf → InRange leaf (component i crowd)

module _ (net : NetModel) where
  most : (crowd : CrowdModel) → AreInRange net crowd → (leaves : List LeafModel) (parts : List LeafProof) (i : ℕ) → AreAt net leaves i → AreTheirs leaves parts → heights leaves parts i crowd ≤ bound_of parts * length crowd
  unfolding heights
  most crowd range [] parts i there has = omega arith
  most crowd range (leaf ∷ leaves) [] i there has = omega arith
  most crowd range (leaf ∷ leaves) (part ∷ parts) i there has =
      let here = height_most leaf part.layers (has 0 leaf part refl refl).valid.weights (component i crowd) (range i leaf (at_first net leaf leaves i there)) in
      let size : layers_bound part.layers * length (component i crowd) ≡ layers_bound part.layers * length crowd = ap (λ n. layers_bound part.layers * n) (length-map crowd (λ tuple. state_of tuple i)) in
      let more = most crowd range leaves parts (suc i) (at_rest net leaf leaves i there) (theirs_rest leaf leaves part parts has) in
      let sum : bound_of (part ∷ parts) * length crowd ≡ layers_bound part.layers * length crowd + bound_of parts * length crowd = ap (λ n. n * length crowd) (sum_by-cons (λ (p : LeafProof). layers_bound p.layers) part parts) ∙ nat.add-mul (layers_bound part.layers) (bound_of parts) (length crowd) in
      omega (arith, here, size, more, sum)

  stay : (before after : CrowdModel) → Step net before after → AreInRange net after → (leaves : List LeafModel) (parts : List LeafProof) (i : ℕ) → AreAt net leaves i → AreTheirs leaves parts → heights leaves parts i after ≤ heights leaves parts i before
  unfolding heights
  stay before after s range [] parts i there has = omega arith
  stay before after s range (leaf ∷ leaves) [] i there has = omega arith
  stay before after s range (leaf ∷ leaves) (part ∷ parts) i there has =
      let at = at_first net leaf leaves i there in
      let valid = has 0 leaf part refl refl in
      let here = height_stays leaf part.layers valid.valid valid.tame (component i before) (component i after) (step_component net i leaf before after at s) (range i leaf at) in
      let more = stay before after s range leaves parts (suc i) (at_rest net leaf leaves i there) (theirs_rest leaf leaves part parts has) in
      omega (arith, here, more)

  -- two agents that can take a move meet, and the leaf's height falls if each move that they take lowers it
  falls_by : (crowd : CrowdModel) → All (IsTuple net) crowd → (i : ℕ) (leaf : LeafModel) → slice_get net.leaves i ≡ Some leaf → (h : List ℕ → ℕ) (a b p q r s : ℕ) → a ≢ b → slice_get (component i crowd) a ≡ Some p → slice_get (component i crowd) b ≡ Some q → LeafMove leaf p q r s → ((after : List ℕ) (step : LeafStep leaf (component i crowd) after) → LeafMove leaf step.x step.y step.x' step.y' → step.x ≡ p → step.y ≡ q → InRange leaf after → h after < h (component i crowd)) → IsPair (length crowd) (a, b) → InRange leaf (component i (meet net (a, b) crowd)) → h (component i (meet net (a, b) crowd)) < h (component i crowd)
  falls_by crowd tuples i leaf at h a b p q r s different a_had b_had can lowers pair range =
      go (reaction_reacts net x y hx hy).each
    where
      x : Tuple
      x = get_or crowd a []

      y : Tuple
      y = get_or crowd b []

      ha : slice_get crowd a ≡ Some x
      ha = slice_get-get_or crowd a [] pair.1

      hb : slice_get crowd b ≡ Some y
      hb = slice_get-get_or crowd b [] pair.2

      hx : IsTuple net x
      hx = All-get_or (IsTuple net) crowd a [] pair.1 tuples

      hy : IsTuple net y
      hy = All-get_or (IsTuple net) crowd b [] pair.2 tuples

      ex : state_of x i ≡ p
      ex =
          let one : Some (state_of x i) ≡ Some p = sym (slice_get-component i crowd a x ha) ∙ a_had in cc

      ey : state_of y i ≡ q
      ey =
          let one : Some (state_of y i) ≡ Some q = sym (slice_get-component i crowd b y hb) ∙ b_had in cc

      x' : ℕ
      x' = state_of (reaction net x y).0 i

      y' : ℕ
      y' = state_of (reaction net x y).1 i

      could : LeafMove leaf (state_of x i) (state_of y i) r s
      could =
          subst (λ (z : ℕ). LeafMove leaf (state_of x i) z r s) (sym ey)
          (subst (λ (z : ℕ). LeafMove leaf z q r s) (sym ex) can)

      step : LeafMove leaf (state_of x i) (state_of y i) x' y' → LeafStep leaf (component i crowd) (component i (meet net (a, b) crowd))
      step m =
          record {
            a = a;
            b = b;
            different = different;
            x = state_of x i;
            y = state_of y i;
            x' = x';
            y' = y';
            a_had = slice_get-component i crowd a x ha;
            b_had = slice_get-component i crowd b y hb;
            change = inr m;
            others_stay = component-set i crowd a b (reaction net x y).0 (reaction net x y).1;
          }

      by : LeafReacts leaf (state_of x i) (state_of y i) x' y' → h (component i (meet net (a, b) crowd)) < h (component i crowd)
      by (inl m) = lowers (component i (meet net (a, b) crowd)) (step m) m ex ey range
      by (inr stays) = absurd (stays.2 r s could)

      go : ((j : ℕ) (other : LeafModel) → slice_get net.leaves j ≡ Some other → LeafReacts other (state_of x j) (state_of y j) (state_of (reaction net x y).0 j) (state_of (reaction net x y).1 j)) → h (component i (meet net (a, b) crowd)) < h (component i crowd)
      go each = by (each i leaf at)

  -- the two agents of a lowering meet
  falls_at : (crowd : CrowdModel) → All (IsTuple net) crowd → (i : ℕ) (leaf : LeafModel) → slice_get net.leaves i ≡ Some leaf → (h : List ℕ → ℕ) (l : Lowering leaf (component i crowd) h) → IsPair (length crowd) (l.a, l.b) → InRange leaf (component i (meet net (l.a, l.b) crowd)) → h (component i (meet net (l.a, l.b) crowd)) < h (component i crowd)
  falls_at crowd tuples i leaf at h l pair range =
      falls_by crowd tuples i leaf at h l.a l.b l.taken.p l.taken.q l.taken.r l.taken.s l.different l.a_had l.b_had (move_change leaf l.number l.taken l.is.0 l.is.1)
      (λ after s m ex ey. l.lowers after s m (inl (ex, ey))) pair range

  -- and in the other order
  falls_turned : (crowd : CrowdModel) → All (IsTuple net) crowd → (i : ℕ) (leaf : LeafModel) → slice_get net.leaves i ≡ Some leaf → (h : List ℕ → ℕ) (l : Lowering leaf (component i crowd) h) → IsPair (length crowd) (l.b, l.a) → InRange leaf (component i (meet net (l.b, l.a) crowd)) → h (component i (meet net (l.b, l.a) crowd)) < h (component i crowd)
  falls_turned crowd tuples i leaf at h l pair range =
      falls_by crowd tuples i leaf at h l.b l.a l.taken.q l.taken.p l.taken.s l.taken.r (λ e. l.different (sym e)) l.b_had l.a_had
      (record {
        number = l.number;
        taken = l.taken;
        listed = l.is.0;
        non_silent = l.is.1;
        followed = inr (refl, refl, refl, refl);
      })
      (λ after s m ex ey. l.lowers after s m (inr (ex, ey))) pair range

  -- what is known of a crowd on the way: of all that meetings make of it too
  record OnWay (crowd : CrowdModel) : Type 0 where
    tuples : All (IsTuple net) crowd
    range : AreInRange net crowd
    range_after : (p : ℕ × ℕ) → IsPair (length crowd) p → AreInRange net (meet net p crowd)

  abbrev Lowered : List LeafModel → List LeafProof → ℕ → CrowdModel → Type 0
  Lowered leaves parts i crowd =
      (p : ℕ × ℕ) × IsPair (length crowd) p × (heights leaves parts i (meet net p crowd) < heights leaves parts i crowd)
      × (heights leaves parts i (meet net (p.1, p.0) crowd) < heights leaves parts i crowd)

  abbrev AllEnded : List LeafModel → ℕ → CrowdModel → Type 0
  AllEnded leaves i crowd =
      (j : ℕ) (leaf : LeafModel) → slice_get leaves j ≡ Some leaf → IsTerminal (LeafStep leaf) (component (i + j) crowd)

  lowered : (crowd : CrowdModel) → OnWay crowd → (leaves : List LeafModel) (parts : List LeafProof) (i : ℕ) → length parts ≡ length leaves → AreAt net leaves i → AreTheirs leaves parts → AllEnded leaves i crowd ⊎ Lowered leaves parts i crowd
  unfolding heights
  lowered crowd w [] parts i e there has = inl (λ j leaf g. cc)
  lowered crowd w (leaf ∷ leaves) [] i e there has = cc
  lowered crowd w (leaf ∷ leaves) (part ∷ parts) i e there has =
      go (progress leaf part.layers (has 0 leaf part refl refl).valid (has 0 leaf part refl refl).tame (component i crowd))
      (lowered crowd w leaves parts (suc i) (ap pred e) (at_rest net leaf leaves i there) (theirs_rest leaf leaves part parts has))
    where
      at : slice_get net.leaves i ≡ Some leaf
      at = at_first net leaf leaves i there

      valid : AreTame leaf part
      valid = has 0 leaf part refl refl

      size : length (component i crowd) ≡ length crowd
      size = length-map crowd (λ tuple. state_of tuple i)

      first : (p : ℕ × ℕ) → IsPair (length crowd) p → height leaf part.layers (component i (meet net p crowd)) ≤ height leaf part.layers (component i crowd)
      first p pair =
          height_stays leaf part.layers valid.valid valid.tame (component i crowd) (component i (meet net p crowd)) (step_component net i leaf crowd (meet net p crowd) at (meets_step net crowd w.tuples p (has_pair (length crowd) p pair))) (w.range_after p pair i leaf at)

      others : (p : ℕ × ℕ) → IsPair (length crowd) p → heights leaves parts (suc i) (meet net p crowd) ≤ heights leaves parts (suc i) crowd
      others p pair =
          stay crowd (meet net p crowd) (meets_step net crowd w.tuples p (has_pair (length crowd) p pair)) (w.range_after p pair) leaves parts (suc i) (at_rest net leaf leaves i there) (theirs_rest leaf leaves part parts has)

      turned : (p : ℕ × ℕ) → IsPair (length crowd) p → IsPair (length crowd) (p.1, p.0)
      turned p pair = ((λ e. pair.0 (sym e)), pair.2, pair.1)

      by : Lowering leaf (component i crowd) (height leaf part.layers) → Lowered (leaf ∷ leaves) (part ∷ parts) i crowd
      by l =
          let pair : IsPair (length crowd) (l.a, l.b) = (l.different, (let k = slice_get_within (component i crowd) l.a l.taken.p l.a_had in omega (arith, k, size)), (let k = slice_get_within (component i crowd) l.b l.taken.q l.b_had in omega (arith, k, size))) in
          let back = turned (l.a, l.b) pair in
          let here = falls_at crowd w.tuples i leaf at (height leaf part.layers) l pair (w.range_after (l.a, l.b) pair i leaf at) in
          let there = falls_turned crowd w.tuples i leaf at (height leaf part.layers) l back (w.range_after (l.b, l.a) back i leaf at) in
          let rest = others (l.a, l.b) pair in
          let more = others (l.b, l.a) back in
          ((l.a, l.b), pair, omega (arith, here, rest), omega (arith, there, more))

      later : Lowered leaves parts (suc i) crowd → Lowered (leaf ∷ leaves) (part ∷ parts) i crowd
      later (p, pair, less, fewer) =
          let here = first p pair in
          let there = first (p.1, p.0) (turned p pair) in
          (p, pair, omega (arith, here, less), omega (arith, there, fewer))

      ended : IsTerminal (LeafStep leaf) (component i crowd) → AllEnded leaves (suc i) crowd → AllEnded (leaf ∷ leaves) i crowd
      ended terminal more zero other g =
          let same : leaf ≡ other = cc in
          subst (λ (o : LeafModel). IsTerminal (LeafStep o) (component (i + 0) crowd)) same
          (subst (λ n. IsTerminal (LeafStep leaf) (component n crowd)) (let z : i ≡ i + 0 = omega arith in z) terminal)
      ended terminal more (suc j) other g =
          subst (λ n. IsTerminal (LeafStep other) (component n crowd)) (let z : suc i + j ≡ i + suc j = omega arith in z) (more j other g)

      go : IsTerminal (LeafStep leaf) (component i crowd) ⊎ Lowering leaf (component i crowd) (height leaf part.layers) → AllEnded leaves (suc i) crowd ⊎ Lowered leaves parts (suc i) crowd → AllEnded (leaf ∷ leaves) i crowd ⊎ Lowered (leaf ∷ leaves) (part ∷ parts) i crowd
      go (inr l) more = inr (by l)
      go (inl terminal) (inr m) = inr (later m)
      go (inl terminal) (inl more) = inl (ended terminal more)

in_range : (net : NetModel) (counts : List ℕ) (crowd : CrowdModel) → IsNet net → IsInput (length net.variables) (number_of_helpers net) counts → Reachable (Step net) (input_crowd net counts) crowd → AreInRange net crowd
in_range net counts crowd is input r i leaf h =
    let inputs = All-slice_get (λ (l : LeafModel). length l.inputs ≡ length net.variables) net.leaves i leaf is.inputs h in
    let helpers = All-slice_get (λ (l : LeafModel). length l.helpers ≡ number_of_helpers net) net.leaves i leaf is.helpers h in
    let way : Reachable (LeafStep leaf) (leaf_input_crowd leaf counts) (component i crowd) = subst (λ (c : List ℕ). Reachable (LeafStep leaf) c (component i crowd)) (input_component net i leaf counts h helpers) (reachable_component net i leaf (input_crowd net counts) crowd h r) in
    end_in_range leaf (All-slice_get IsLeaf net.leaves i leaf is.leaves h) counts way.0 (component i crowd) (input.one_each ∙ sym inputs) way.1

module _ (net : NetModel) (tree : PredTree) (proof : Proof) (is : IsNet net) (has : HasTameLayers net proof) (right : EndsAreRight net tree) (counts : List ℕ) (input : IsInput (length net.variables) (number_of_helpers net) counts) (crowd : CrowdModel) (r : Reachable (Step net) (input_crowd net counts) crowd) where
  there : AreAt net net.leaves 0
  there j leaf h = subst (λ n. slice_get net.leaves n ≡ Some leaf) (let z : j ≡ 0 + j = omega arith in z) h

  tuples : All (IsTuple net) crowd
  tuples = reachable_tuples net (input_crowd net counts) crowd (input_tuples net counts) r

  reached : (p : ℕ × ℕ) → IsPair (length crowd) p → Reachable (Step net) (input_crowd net counts) (meet net p crowd)
  reached p pair = (
    r.0 ++ meet net p crowd ∷ [],
    leads_one_more (Step net) (input_crowd net counts) r.0 crowd (meet net p crowd) r.1 (meets_step net crowd tuples p (has_pair (length crowd) p pair)),
  )

  on_way : OnWay net crowd
  on_way =
      record {
        tuples = tuples;
        range = in_range net counts crowd is input r;
        range_after = λ p pair. in_range net counts (meet net p crowd) is input (reached p pair);
      }

  stays_here : (p : ℕ × ℕ) → IsPair (length crowd) p → heights net.leaves proof.leaves 0 (meet net p crowd) ≤ heights net.leaves proof.leaves 0 crowd
  stays_here p pair =
      stay net crowd (meet net p crowd) (meets_step net crowd tuples p (has_pair (length crowd) p pair)) (on_way.range_after p pair) net.leaves proof.leaves 0 there has.each

  lowered_here : IsTerminal (Step net) crowd ⊎ ((p : ℕ × ℕ) × IsPair (length crowd) p × (heights net.leaves proof.leaves 0 (meet net p crowd) < heights net.leaves proof.leaves 0 crowd) × (heights net.leaves proof.leaves 0 (meet net (p.1, p.0) crowd) < heights net.leaves proof.leaves 0 crowd))
  lowered_here = go (lowered net crowd on_way net.leaves proof.leaves 0 has.one_each there has.each)
    where
      go : AllEnded net net.leaves 0 crowd ⊎ Lowered net net.leaves proof.leaves 0 crowd → IsTerminal (Step net) crowd ⊎ Lowered net net.leaves proof.leaves 0 crowd
      go (inr low) = inr low
      go (inl ended) =
          inl (terminal_from_components net crowd tuples (λ j leaf h. subst (λ n. IsTerminal (LeafStep leaf) (component n crowd)) (let z : 0 + j ≡ j = omega arith in z) (ended j leaf h)))

  falling : FallsByPairs net tree (proof_bound proof) (heights net.leaves proof.leaves 0) counts crowd
  falling =
      record {
        low = most net crowd on_way.range net.leaves proof.leaves 0 there has.each;
        falls = stays_here;
        lowered = lowered_here;
        right = right counts crowd input r;
      }

pub tame_cubic : TameLayersAreCubic
tame_cubic net tree proof is has right =
    cubic_time net tree (proof_bound proof) (heights net.leaves proof.leaves 0)
    (λ counts crowd input r. falling net tree proof is has right counts input crowd r)
