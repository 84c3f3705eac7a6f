-- Valid layers bring every crowd of a leaf to a terminal one, within the bound of the layers for each agent.
use Rattle.std.proofs.Common.{◌≡◌, ◌⊎◌, inl, inr, ℕ, zero, suc, ◌+◌, ◌*◌, ◌<◌, ◌≤◌, Bool, true, false, List, [], ◌∷◌, ◌++◌, length, refl, ap, sym, subst, ◌∙◌, arith}
use Rattle.std.specs.Prelude.{Option, Some, ℤ, pos, ◌+ℤ◌, ◌*ℤ◌, ◌<ℤ◌, ◌≤ℤ◌, slice_get, slice_set, Contains}
use Rattle.std.proofs.Math.IntN.{pos-*ℤ-pos}
use Rattle.std.proofs.Math.Nat as nat
use Rattle.std.proofs.lemmas.Int.{ints}
use Rattle.std.proofs.lemmas.List.{length-append}
use Rattle.std.proofs.lemmas.List.Sums.{sum_by-cons}
use Rattle.std.proofs.lemmas.List.Elements.{Contains-append_cases}
use Rattle.std.proofs.lemmas.Bool.{cases_lt}
use Rattle.std.proofs.lemmas.Option.{get_or_from_slice_get, slice_get_within}
use Rattle.pop_leaf.specs.declared.leaf.Move.{Move}
use Rattle.pop_leaf.specs.LeafModel.{LeafModel, IsLeaf, silent_move}
use Rattle.pop_leaf.specs.Step.{LeafChange, LeafStep}
use Rattle.pop_leaf.specs.Reachable.{Leads, ReachedWithin}
use Rattle.pop_leaf.specs.Terminal.{IsTerminal}
use Rattle.pop_leaf.proofs.Quiet.{All-slice_get, set_same}
use Rattle.pop_net.proofs.Tuples.{meets_length}
use Rattle.cert_base.specs.declared.layer.Layer.{Layer}
use Rattle.cert_base.specs.ProofBound.{weights_spread, layers_bound}
use Rattle.cert_base.specs.ValidLayers.{IsLower, weight_at, moves_of_layers, IsInLayer, ValidLayers}
use Rattle.cert_base.proofs.Agents.{enabled_test, agents_of, enabled_test-true, move_change, move_step, InRange, move_in_range}
use Rattle.cert_base.proofs.Dead.{AreDead, stay_dead, two_there}
use Rattle.cert_base.proofs.Numbers.{before_pre}
use Rattle.cert_base.proofs.Integers.{add-mul}
use Rattle.cert_layers.specs.Search.{numbered_layer, no_layer, some_move}
use Rattle.cert_layers.proofs.LayerMoves.{any_move, any_move-at}
use Rattle.cert_base.proofs.WeightBounds.{within, total-above, total-below}
use Rattle.cert_base.proofs.Weights.{total, total_falls}
use Rattle.cert_base.proofs.WeightedSums.{list_any-from}

some_move-true : (test : Move → Bool) (o : Option Move) (t : Move) → o ≡ Some t → silent_move t ≡ false → test t ≡ true → some_move test o ≡ true
some_move-true test o t e s h = rw e (rw (s, h) refl)

-- a move of layer i that passes the test is found
any_move-true : (leaf : LeafModel) (layers : List Layer) (i : ℕ) (layer : Layer) (test : Move → Bool) (t : Move) → numbered_layer layers i ≡ layer → (at : IsInLayer leaf layers i t) → at.layer ≡ layer → test t ≡ true → any_move leaf layers i test ≡ true
any_move-true leaf layers i layer test t e at same h =
    let lists : Contains (numbered_layer layers i).moves at.number = rw (e, ← same) at.lists in
    list_any-from (λ n. some_move test (slice_get leaf.moves n)) (numbered_layer layers i).moves at.number lists
    (some_move-true test (slice_get leaf.moves at.number) t at.move_is at.non_silent h)

-- a crowd that is reached within k steps, with no enabled move in the layers before layer i
pub record Ended (leaf : LeafModel) (layers : List Layer) (i : ℕ) (crowd : List ℕ) (k : ℕ) : Type 0 where
  pub end : List ℕ
  pub path : List (List ℕ)
  pub way : Leads (LeafStep leaf) crowd path end
  pub short : length path ≤ k
  pub range : InRange leaf end
  pub size : length end ≡ length crowd
  pub dead : AreDead leaf layers i end

-- one move of layer i
record Moved (leaf : LeafModel) (layers : List Layer) (i : ℕ) (w : List ℤ) (crowd : List ℕ) : Type 0 where
  after : List ℕ
  step : LeafStep leaf crowd after
  lighter : total w after <ℤ total w crowd
  range : InRange leaf after
  size : length after ≡ length crowd
  dead : AreDead leaf layers i after

same_layer : (layers : List Layer) (i : ℕ) (one other : Layer) → slice_get layers i ≡ Some one → slice_get layers i ≡ Some other → one ≡ other
same_layer layers i one other e f = cc

module _ (leaf : LeafModel) (layers : List Layer) (is : IsLeaf leaf) (v : ValidLayers leaf layers) (i : ℕ) (layer : Layer) (h : slice_get layers i ≡ Some layer) where
  found-layer : numbered_layer layers i ≡ layer
  found-layer = get_or_from_slice_get layers i layer no_layer h

  long : length layer.weights ≡ length leaf.states
  long = All-slice_get (λ (l : Layer). length l.weights ≡ length leaf.states) layers i layer v.weights h

  make_move : (crowd : List ℕ) → InRange leaf crowd → AreDead leaf layers i crowd → any_move leaf layers i (enabled_test crowd) ≡ true → Moved leaf layers i layer.weights crowd
  make_move crowd range dead e =
      let found = any_move-at leaf layers i (enabled_test crowd) (slice_get_within layers i layer h) e in
      let t = found.0 in
      let at = found.1 in
      let two = agents_of crowd t found.2 in
      let s = move_step leaf crowd at.number t two.0 two.1 at.move_is at.non_silent two.2 two.3 two.4 in
      let m = move_change leaf at.number t at.move_is at.non_silent in
      let same = same_layer layers i at.layer layer at.layer_is h in
      let lower : IsLower layer.weights t = subst (λ (l : Layer). IsLower l.weights t) same (v.lower i t at) in
      let after = slice_set (slice_set crowd two.0 t.r) two.1 t.s in
      record {
        after = after;
        step = s;
        lighter = total_falls leaf layer.weights crowd after s m lower;
        range = move_in_range leaf crowd at.number t two.0 two.1 is at.move_is range;
        size = meets_length (LeafChange leaf) crowd after s;
        dead = stay_dead leaf layers v i crowd after s m at dead;
      }

  stop : (crowd : List ℕ) → AreDead leaf layers i crowd → any_move leaf layers i (enabled_test crowd) ≡ false → AreDead leaf layers (suc i) crowd
  stop crowd dead e j u l at enabled = go (cases_lt j i)
    where
      none : IsInLayer leaf layers i u → ⊥
      none here =
          let yes = any_move-true leaf layers i layer (enabled_test crowd) u found-layer here (same_layer layers i here.layer layer here.layer_is h) (enabled_test-true crowd u enabled) in
          let f : true ≡ false = sym yes ∙ e in cc

      go : (j < i) ⊎ (i ≤ j) → ⊥
      go (inl k) = dead j u k at enabled
      go (inr k) = none (subst (λ (n : ℕ). IsInLayer leaf layers n u) (let same : j ≡ i = omega arith in same) at)

  module _ (low : ℤ) (above : (q : ℕ) → q < length layer.weights → low ≤ℤ weight_at layer.weights q) where
    -- a crowd light enough to make no more moves of the layer than the fuel
    abbrev Light : ℕ → List ℕ → Type 0
    Light fuel crowd = total layer.weights crowd ≤ℤ ((low *ℤ pos (length crowd)) +ℤ pos fuel)

    heavy : (crowd : List ℕ) → InRange leaf crowd → (low *ℤ pos (length crowd)) ≤ℤ total layer.weights crowd
    heavy crowd range = total-above layer.weights low crowd above (rw long range)

    done : (fuel : ℕ) (crowd : List ℕ) → InRange leaf crowd → AreDead leaf layers (suc i) crowd → Ended leaf layers (suc i) crowd fuel
    done fuel crowd range dead = record {
      end = crowd;
      path = [];
      way = refl;
      short = (let l : 0 ≤ fuel = omega arith in l);
      range = range;
      size = refl;
      dead = dead;
    }

    go_on : (fuel : ℕ) (crowd : List ℕ) (m : Moved leaf layers i layer.weights crowd) → Ended leaf layers (suc i) m.after fuel → Ended leaf layers (suc i) crowd (suc fuel)
    go_on fuel crowd m more = record {
      end = more.end;
      path = m.after ∷ more.path;
      way = (m.step, more.way);
      short = (let l : suc (length more.path) ≤ suc fuel = omega (arith, more.short) in l);
      range = more.range;
      size = more.size ∙ m.size;
      dead = more.dead;
    }

    at_zero : (crowd : List ℕ) → InRange leaf crowd → AreDead leaf layers i crowd → Light 0 crowd → (b : Bool) → any_move leaf layers i (enabled_test crowd) ≡ b → Ended leaf layers (suc i) crowd 0
    at_zero crowd range dead light false e = done 0 crowd range (stop crowd dead e)
    at_zero crowd range dead light true e =
        let m = make_move crowd range dead e in
        let lighter = m.lighter in
        let least = heavy m.after m.range in
        let same : (low *ℤ pos (length m.after)) ≡ (low *ℤ pos (length crowd)) = ap (λ n. low *ℤ pos n) m.size in
        absurd (omega (arith, ints, lighter, least, same, light))

    at_suc : (fuel : ℕ) (crowd : List ℕ) → InRange leaf crowd → AreDead leaf layers i crowd → Light (suc fuel) crowd → (b : Bool) → any_move leaf layers i (enabled_test crowd) ≡ b → ((next : List ℕ) → InRange leaf next → AreDead leaf layers i next → Light fuel next → Ended leaf layers (suc i) next fuel) → Ended leaf layers (suc i) crowd (suc fuel)
    at_suc fuel crowd range dead light false e more = done (suc fuel) crowd range (stop crowd dead e)
    at_suc fuel crowd range dead light true e more =
        let m = make_move crowd range dead e in
        let lighter = m.lighter in
        let same : (low *ℤ pos (length m.after)) ≡ (low *ℤ pos (length crowd)) = ap (λ n. low *ℤ pos n) m.size in
        go_on fuel crowd m (more m.after m.range m.dead (omega (arith, ints, lighter, same, light)))

    run_layer : (fuel : ℕ) (crowd : List ℕ) → InRange leaf crowd → AreDead leaf layers i crowd → Light fuel crowd → Ended leaf layers (suc i) crowd fuel
    run_layer zero crowd range dead light =
        at_zero crowd range dead light (any_move leaf layers i (enabled_test crowd)) refl
    run_layer (suc fuel) crowd range dead light =
        at_suc fuel crowd range dead light (any_move leaf layers i (enabled_test crowd)) refl (λ next r d l. run_layer fuel next r d l)

pub leads-append : {A : Type 0} (S : A → A → Type 0) (c : A) (xs : List A) (d : A) (ys : List A) (e : A) → Leads S c xs d → Leads S d ys e → Leads S c (xs ++ ys) e
leads-append S c [] d ys e way more = subst (λ x. Leads S x ys e) way more
leads-append S c (x ∷ xs) d ys e way more = (way.0, leads-append S x xs d ys e way.1 more)

-- a layer takes no more steps than its spread times the number of agents
layer_ends : (leaf : LeafModel) (layers : List Layer) → IsLeaf leaf → ValidLayers leaf layers → (i : ℕ) (layer : Layer) → slice_get layers i ≡ Some layer → (crowd : List ℕ) → InRange leaf crowd → AreDead leaf layers i crowd → Ended leaf layers (suc i) crowd (weights_spread layer.weights * length crowd)
layer_ends leaf layers is v i layer h crowd range dead =
    let w = within layer.weights in
    let long = All-slice_get (λ (l : Layer). length l.weights ≡ length leaf.states) layers i layer v.weights h in
    let below = total-below layer.weights w.high crowd w.below (rw long range) in
    let product : (w.high *ℤ pos (length crowd)) ≡ ((w.low *ℤ pos (length crowd)) +ℤ pos (weights_spread layer.weights * length crowd)) = ap (λ z. z *ℤ pos (length crowd)) w.apart ∙ add-mul w.low (pos (weights_spread layer.weights)) (pos (length crowd)) ∙ ap (λ z. (w.low *ℤ pos (length crowd)) +ℤ z) (pos-*ℤ-pos (weights_spread layer.weights) (length crowd)) in
    run_layer leaf layers is v i layer h w.low w.above (weights_spread layer.weights * length crowd) crowd range dead (omega (arith, ints, below, product))

-- the layers from layer i on, one after the other
layers_end : (leaf : LeafModel) (layers : List Layer) → IsLeaf leaf → ValidLayers leaf layers → (rest : List Layer) (i : ℕ) → ((j : ℕ) (layer : Layer) → slice_get rest j ≡ Some layer → slice_get layers (i + j) ≡ Some layer) → (crowd : List ℕ) → InRange leaf crowd → AreDead leaf layers i crowd → Ended leaf layers (i + length rest) crowd (layers_bound rest * length crowd)
layers_end leaf layers is v [] i h crowd range dead =
    record {
      end = crowd;
      path = [];
      way = refl;
      short = (let l : 0 ≤ layers_bound [] * length crowd = omega arith in l);
      range = range;
      size = refl;
      dead = subst (λ (n : ℕ). AreDead leaf layers n crowd) (let e : i ≡ i + 0 = omega arith in e) dead;
    }
layers_end leaf layers is v (layer ∷ rest) i h crowd range dead =
    let here : slice_get layers i ≡ Some layer = subst (λ (n : ℕ). slice_get layers n ≡ Some layer) (let e : i + 0 ≡ i = omega arith in e) (h 0 layer refl) in
    let first = layer_ends leaf layers is v i layer here crowd range dead in
    let next : (j : ℕ) (other : Layer) → slice_get rest j ≡ Some other → slice_get layers (suc i + j) ≡ Some other = λ j other k. subst (λ (n : ℕ). slice_get layers n ≡ Some other) (let e : i + suc j ≡ suc i + j = omega arith in e) (h (suc j) other k) in
    let more = layers_end leaf layers is v rest (suc i) next first.end first.range first.dead in
    let bound = sum_by-cons (λ (l : Layer). weights_spread l.weights) layer rest in
    let product : layers_bound (layer ∷ rest) * length crowd ≡ weights_spread layer.weights * length crowd + layers_bound rest * length crowd = ap (λ n. n * length crowd) bound ∙ nat.add-mul (weights_spread layer.weights) (layers_bound rest) (length crowd) in
    let size : layers_bound rest * length first.end ≡ layers_bound rest * length crowd = ap (λ n. layers_bound rest * n) first.size in
    record {
      end = more.end;
      path = first.path ++ more.path;
      way = leads-append (LeafStep leaf) crowd first.path first.end more.path more.end first.way more.way;
      short = (let l : length (first.path ++ more.path) ≤ layers_bound (layer ∷ rest) * length crowd = omega (arith, length-append first.path more.path, first.short, more.short, product, size) in l);
      range = more.range;
      size = more.size ∙ first.size;
      dead = subst (λ (n : ℕ). AreDead leaf layers n more.end) (let e : suc i + length rest ≡ i + suc (length rest) = omega arith in e) more.dead;
    }

-- a listed number stands in some layer
abbrev Listed : List Layer → ℕ → Type 0
Listed layers n = (i : ℕ) × (layer : Layer) × (slice_get layers i ≡ Some layer) × Contains layer.moves n

pub listed_at : (layers : List Layer) (n : ℕ) → Contains (moves_of_layers layers) n → Listed layers n
listed_at [] n c = absurd (omega (arith, c.1))
listed_at (layer ∷ layers) n c = go (Contains-append_cases layer.moves (moves_of_layers layers) n c) (listed_at layers n)
  where
    go : Contains layer.moves n ⊎ Contains (moves_of_layers layers) n → (Contains (moves_of_layers layers) n → Listed layers n) → Listed (layer ∷ layers) n
    go (inl here) more = (0, layer, refl, here)
    go (inr there) more = let m = more there in (suc m.0, m.1, m.2, m.3)

-- if no layer has an enabled move, the crowd is terminal
dead-terminal : (leaf : LeafModel) (layers : List Layer) → ValidLayers leaf layers → (crowd : List ℕ) → AreDead leaf layers (length layers) crowd → IsTerminal (LeafStep leaf) crowd
dead-terminal leaf layers v crowd dead end s = by_change s.change
  where
    by_change : LeafChange leaf s.x s.y s.x' s.y' → end ≡ crowd
    by_change (inl stay) =
        s.others_stay
        ∙ ap (λ x. slice_set (slice_set crowd s.a x) s.b s.y') stay.0
        ∙ ap (λ y. slice_set (slice_set crowd s.a s.x) s.b y) stay.1
        ∙ ap (λ c. slice_set c s.b s.y) (set_same crowd s.a s.x s.a_had)
        ∙ set_same crowd s.b s.y s.b_had
    by_change (inr m) =
        let at = listed_at layers m.number (v.all m.number m.taken m.listed m.non_silent) in
        let at_layer : IsInLayer leaf layers at.0 m.taken = record { layer = at.1; number = m.number; layer_is = at.2; lists = at.3; move_is = m.listed; non_silent = m.non_silent } in
        absurd (dead at.0 m.taken (slice_get_within layers at.0 at.1 at.2) at_layer (λ z. rw (← before_pre m.taken s.x s.y s.x' s.y' z m.followed) (two_there z crowd s.a s.b s.x s.y s.different s.a_had s.b_had)))

-- with valid layers, every crowd of a leaf can reach a terminal one within the bound of the layers for each agent
pub record LeafEnd (leaf : LeafModel) (layers : List Layer) (crowd : List ℕ) : Type 0 where
  pub end : List ℕ
  pub terminal : IsTerminal (LeafStep leaf) end
  pub reached : ReachedWithin (LeafStep leaf) (layers_bound layers * length crowd) crowd end
  pub range : InRange leaf end

pub valid_layers-end : (leaf : LeafModel) (layers : List Layer) → IsLeaf leaf → ValidLayers leaf layers → (crowd : List ℕ) → InRange leaf crowd → LeafEnd leaf layers crowd
valid_layers-end leaf layers is v crowd range =
    let e = layers_end leaf layers is v layers 0 (λ j layer h. subst (λ (n : ℕ). slice_get layers n ≡ Some layer) (let same : j ≡ 0 + j = omega arith in same) h) crowd range (λ j u l at enabled. absurd (omega arith)) in
    record {
      end = e.end;
      terminal = dead-terminal leaf layers v e.end (subst (λ (n : ℕ). AreDead leaf layers n e.end) (let same : 0 + length layers ≡ length layers = omega arith in same) e.dead);
      reached = (e.path, e.short, e.way);
      range = e.range;
    }
