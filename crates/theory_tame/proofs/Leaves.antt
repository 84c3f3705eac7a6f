-- The height of a leaf's crowd by its layers: no step raises it, and some meeting lowers it while a move is left.
use Rattle.std.proofs.Common.{◌≡◌, ◌≢◌, ◌⊎◌, inl, inr, ℕ, suc, ◌+◌, ◌-◌, ◌*◌, ◌<◌, ◌≤◌, Bool, true, false, cond, ◌&&◌, ◌||◌, List, [], ◌∷◌, length, refl, ap, sym, subst, ◌∙◌, arith}
use Rattle.std.specs.Prelude.{ℤ, ◌<ℤ◌, ◌≤ℤ◌, ◌==◌, Some, slice_get, slice_set, All, Contains}
use Rattle.std.proofs.Math.Nat as nat
use Rattle.std.proofs.lemmas.Int.{ints}
use Rattle.std.proofs.lemmas.Bool.{cases_lt, eq-eqb}
use Rattle.std.proofs.lemmas.List.Sums.{sum_by-cons}
use Rattle.std.proofs.lemmas.List.Elements.{All-head, All-tail, Contains-append_cases}
use Rattle.std.proofs.lemmas.Option.{slice_get_within}
use Rattle.pop_leaf.specs.declared.leaf.Move.{Move}
use Rattle.pop_leaf.specs.LeafModel.{LeafModel, pre, post, same_pair}
use Rattle.pop_leaf.specs.Step.{Follows, LeafMove, LeafChange, LeafStep}
use Rattle.pop_leaf.specs.Terminal.{IsTerminal}
use Rattle.pop_leaf.proofs.Quiet.{set_same}
use Rattle.pop_net.proofs.Tuples.{meets_length}
use Rattle.cert_base.specs.declared.layer.Layer.{Layer}
use Rattle.cert_base.specs.ProofBound.{weights_spread, layers_bound}
use Rattle.cert_base.specs.ValidLayers.{moves_of_layers, IsInLayer, IsLower, ValidLayers}
use Rattle.cert_base.proofs.Weights.{total, total_falls}
use Rattle.cert_base.proofs.Dead.{IsEnabledIn, AreDead, two_there}
use Rattle.cert_base.proofs.Numbers.{number_in, number_in-meets, before_pre, after_post}
use Rattle.cert_base.proofs.Agents.{InRange, agents_of}
use Rattle.cert_base.specs.TameLayers.{IsNoHigher, AreApart, TameLayers}
use Rattle.theory_tame.proofs.Heights.{IsMove, weight, weight_falls, weight_stays, weight_most, total_stays, enabled_from, taken_enabled, all_dead, all_dead_from, all_dead_to, one_live, IsLive}

-- the height from a layer on, if the moves before it are dead: its weights beyond the least while it is alive, and the
-- bound of the layers after it
abbrev pub height : LeafModel → List Layer → List ℕ → ℕ
height leaf [] crowd = 0
height leaf (layer ∷ rest) crowd =
    cond (all_dead leaf crowd layer.moves) (height leaf rest crowd) (weight layer.weights crowd + layers_bound rest * length crowd)

-- ---- numbers

cond_falls : (b' : Bool) (r' w w' k k' : ℕ) → r' ≤ k' → k' ≡ k → w' < w → cond b' r' (w' + k') < w + k
cond_falls true r' w w' k k' low same fell = omega (arith, low, same, fell)
cond_falls false r' w w' k k' low same fell = omega (arith, same, fell)

cond_stays : (b' : Bool) (r' w w' k k' : ℕ) → r' ≤ k' → k' ≡ k → w' ≤ w → cond b' r' (w' + k') ≤ w + k
cond_stays true r' w w' k k' low same fell = omega (arith, low, same, fell)
cond_stays false r' w w' k k' low same fell = omega (arith, same, fell)

cond_most : (b : Bool) (r w k s : ℕ) → r ≤ k → w ≤ s → cond b r (w + k) ≤ s + k
cond_most true r w k s l m = omega (arith, l)
cond_most false r w k s l m = omega (arith, m)

or_from_right : (a b : Bool) → b ≡ true → a || b ≡ true
or_from_right true b e = refl
or_from_right false b e = e

-- the layer that lists a number
listed_in : (layers : List Layer) (n : ℕ) → Contains (moves_of_layers layers) n → (k : ℕ) × (layer : Layer) × (slice_get layers k ≡ Some layer) × Contains layer.moves n
listed_in [] n c = absurd (omega (arith, c.1))
listed_in (l ∷ layers) n c = by (Contains-append_cases l.moves (moves_of_layers layers) n c) (listed_in layers n)
  where
    by : Contains l.moves n ⊎ Contains (moves_of_layers layers) n → (Contains (moves_of_layers layers) n → (k : ℕ) × (layer : Layer) × (slice_get layers k ≡ Some layer) × Contains layer.moves n) → (k : ℕ) × (layer : Layer) × (slice_get (l ∷ layers) k ≡ Some layer) × Contains layer.moves n
    by (inl here) more = (0, l, refl, here)
    by (inr there) more = let r = more there in (suc r.0, r.1, r.2, r.3)

-- the states of the two agents are those of the move, in one order or the other
abbrev pub HaveStates : Move → ℕ → ℕ → Type 0
HaveStates t x y = ((x ≡ t.p) × (y ≡ t.q)) ⊎ ((x ≡ t.q) × (y ≡ t.p))

pair_same : (t u : Move) (x y x' y' : ℕ) → HaveStates t x y → Follows u x y x' y' ⊎ Follows u y x y' x' → same_pair t.p t.q u.p u.q ≡ true
pair_same t u x y x' y' (inl e) (inl f) = rw (eq-eqb t.p u.p (sym e.0 ∙ f.0), eq-eqb t.q u.q (sym e.1 ∙ f.1)) refl
pair_same t u x y x' y' (inl e) (inr f) =
    or_from_right ((t.p == u.p) && (t.q == u.q)) ((t.p == u.q) && (t.q == u.p)) (rw (eq-eqb t.p u.q (sym e.0 ∙ f.1), eq-eqb t.q u.p (sym e.1 ∙ f.0)) refl)
pair_same t u x y x' y' (inr e) (inl f) =
    or_from_right ((t.p == u.p) && (t.q == u.q)) ((t.p == u.q) && (t.q == u.p)) (rw (eq-eqb t.p u.q (sym e.1 ∙ f.1), eq-eqb t.q u.p (sym e.0 ∙ f.0)) refl)
pair_same t u x y x' y' (inr e) (inr f) = rw (eq-eqb t.p u.p (sym e.1 ∙ f.0), eq-eqb t.q u.q (sym e.0 ∙ f.1)) refl

pub unchanged : (leaf : LeafModel) (before after : List ℕ) (s : LeafStep leaf before after) → (s.x' ≡ s.x) × (s.y' ≡ s.y) → after ≡ before
unchanged leaf before after s stay =
    s.others_stay
    ∙ ap (λ x. slice_set (slice_set before s.a x) s.b s.y') stay.0
    ∙ ap (λ y. slice_set (slice_set before s.a s.x) s.b y) stay.1
    ∙ ap (λ c. slice_set c s.b s.y) (set_same before s.a s.x s.a_had)
    ∙ set_same before s.b s.y s.b_had

-- ---- the layers from layer i on

abbrev pub AreRest : List Layer → ℕ → List Layer → Type 0
AreRest layers i rest = (j : ℕ) (layer : Layer) → slice_get rest j ≡ Some layer → slice_get layers (i + j) ≡ Some layer

rest_first : (layers : List Layer) (i : ℕ) (layer : Layer) (rest : List Layer) → AreRest layers i (layer ∷ rest) → slice_get layers i ≡ Some layer
rest_first layers i layer rest there =
    subst (λ n. slice_get layers n ≡ Some layer) (let z : i + 0 ≡ i = omega arith in z) (there 0 layer refl)

rest_more : (layers : List Layer) (i : ℕ) (layer : Layer) (rest : List Layer) → AreRest layers i (layer ∷ rest) → AreRest layers (suc i) rest
rest_more layers i layer rest there j other g =
    subst (λ n. slice_get layers n ≡ Some other) (let z : i + suc j ≡ suc i + j = omega arith in z) (there (suc j) other g)

abbrev HaveLength : LeafModel → List Layer → Type 0
HaveLength leaf layers = All (λ layer. length layer.weights ≡ length leaf.states) layers

module _ (leaf : LeafModel) where
  -- the height is at most the bound for each agent
  pub height_most : (rest : List Layer) → HaveLength leaf rest → (crowd : List ℕ) → InRange leaf crowd → height leaf rest crowd ≤ layers_bound rest * length crowd
  height_most [] long crowd range = let z : 0 ≤ 0 * length crowd = omega arith in z
  height_most (layer ∷ rest) long crowd range =
      let here = All-head (λ (l : Layer). length l.weights ≡ length leaf.states) layer rest long in
      let most = weight_most layer.weights crowd (subst (λ n. All (λ q. q < n) crowd) (sym here) range) in
      let more = height_most rest (All-tail (λ (l : Layer). length l.weights ≡ length leaf.states) layer rest long) crowd range in
      let sum : layers_bound (layer ∷ rest) * length crowd ≡ weights_spread layer.weights * length crowd + layers_bound rest * length crowd = ap (λ n. n * length crowd) (sum_by-cons (λ (l : Layer). weights_spread l.weights) layer rest) ∙ nat.add-mul (weights_spread layer.weights) (layers_bound rest) (length crowd) in
      subst (λ n. height leaf (layer ∷ rest) crowd ≤ n) (sym sum)
      (cond_most (all_dead leaf crowd layer.moves) (height leaf rest crowd) (weight layer.weights crowd) (layers_bound rest * length crowd) (weights_spread layer.weights * length crowd) more most)

  -- ---- a meeting that lowers a height

  pub record Lowering (crowd : List ℕ) (h : List ℕ → ℕ) : Type 0 where
    pub a : ℕ
    pub b : ℕ
    pub different : a ≢ b
    pub number : ℕ
    pub taken : Move
    pub is : IsMove leaf number taken
    pub a_had : slice_get crowd a ≡ Some taken.p
    pub b_had : slice_get crowd b ≡ Some taken.q
    -- so it is by whatever move these two agents take, in either order
    pub lowers : (after : List ℕ) (s : LeafStep leaf crowd after) → LeafMove leaf s.x s.y s.x' s.y' → HaveStates taken s.x s.y → InRange leaf after → h after < h crowd

  carried : (crowd : List ℕ) (h g : List ℕ → ℕ) → ((after : List ℕ) (s : LeafStep leaf crowd after) → LeafMove leaf s.x s.y s.x' s.y' → h after < h crowd → g after < g crowd) → Lowering crowd h → Lowering crowd g
  carried crowd h g over l =
      record {
        a = l.a;
        b = l.b;
        different = l.different;
        number = l.number;
        taken = l.taken;
        is = l.is;
        a_had = l.a_had;
        b_had = l.b_had;
        lowers = λ after s m states range. over after s m (l.lowers after s m states range);
      }

  module _ (layers : List Layer) (v : ValidLayers leaf layers) (tame : TameLayers leaf layers) where
    abbrev in_layer : (i : ℕ) (layer : Layer) → slice_get layers i ≡ Some layer → (n : ℕ) (t : Move) → Contains layer.moves n → IsMove leaf n t → IsInLayer leaf layers i t
    in_layer i layer at n t has is =
        record { layer = layer; number = n; layer_is = at; lists = has; move_is = is.0; non_silent = is.1 }

    -- the moves before layer i are dead, and its own
    dead_more : (i : ℕ) (layer : Layer) → slice_get layers i ≡ Some layer → (crowd : List ℕ) → AreDead leaf layers i crowd → all_dead leaf crowd layer.moves ≡ true → AreDead leaf layers (suc i) crowd
    dead_more i layer at crowd dead e j u l u_at enabled = go (cases_lt j i)
      where
        here : j ≡ i → ⊥
        here same =
            let there : slice_get layers i ≡ Some u_at.layer = subst (λ k. slice_get layers k ≡ Some u_at.layer) same u_at.layer_is in
            let one : Some u_at.layer ≡ Some layer = sym there ∙ at in
            let alike : u_at.layer ≡ layer = cc in
            all_dead_from leaf crowd layer.moves e u_at.number (subst (λ (x : Layer). Contains x.moves u_at.number) alike u_at.lists) u (u_at.move_is, u_at.non_silent) enabled

        go : (j < i) ⊎ (i ≤ j) → ⊥
        go (inl less) = dead j u less u_at enabled
        go (inr more) = here (let z : j ≡ i = omega (arith, l, more) in z)

    dead_here : (i : ℕ) (layer : Layer) → slice_get layers i ≡ Some layer → (crowd : List ℕ) → AreDead leaf layers (suc i) crowd → all_dead leaf crowd layer.moves ≡ true
    dead_here i layer at crowd dead =
        all_dead_to leaf crowd layer.moves (λ n c t is enabled. dead i t (let z : i < suc i = omega arith in z) (in_layer i layer at n t c is) enabled)

    module _ (before after : List ℕ) (s : LeafStep leaf before after) (m : LeafMove leaf s.x s.y s.x' s.y') where
      enabled : IsEnabledIn before m.taken
      enabled = taken_enabled leaf before after s m

      -- the layer of the move that is taken
      place : (j : ℕ) × IsInLayer leaf layers j m.taken
      place =
          let at = listed_in layers m.number (v.all m.number m.taken m.listed m.non_silent) in
          (at.0, in_layer at.0 at.1 at.2 m.number m.taken at.3 (m.listed, m.non_silent))

      was : (u : Move) (z n : ℕ) → IsEnabledIn after u → n ≤ pre m.taken z + (pre u z - post m.taken z) → n ≤ number_in z before
      was u z n there k =
          let e = number_in-meets leaf z before after s in
          let b = before_pre m.taken s.x s.y s.x' s.y' z m.followed in
          let a = after_post m.taken s.x s.y s.x' s.y' z m.followed in
          let two = two_there z before s.a s.b s.x s.y s.different s.a_had s.b_had in
          let now = there z in
          omega (arith, e, b, a, two, now, k)

      -- the layers before i stay dead
      asleep : (i : ℕ) → AreDead leaf layers i before → AreDead leaf layers i after
      asleep i dead k t l at there = go (cases_lt k place.0)
        where
          go : (k < place.0) ⊎ (place.0 ≤ k) → ⊥
          go (inl less) =
              let w = tame.no_waking k place.0 t m.taken less at place.1 in
              let up = w.2 in
              dead w.0 w.1 (omega (arith, up, l)) w.3 (λ z. was t z (pre w.1 z) there (w.4 z))
          go (inr more) = dead place.0 m.taken (omega (arith, more, l)) place.1 enabled

      -- no two moves are enabled that are apart
      not_apart : (i : ℕ) (t : Move) → AreDead leaf layers i before → IsEnabledIn before t → AreApart leaf layers i t m.taken → ⊥
      not_apart i t dead there (k, u', l, at, beside) = dead k u' l at (λ z. go z (beside z))
        where
          go : (z : ℕ) → (pre u' z ≤ pre t z) ⊎ (pre u' z ≤ pre m.taken z) → pre u' z ≤ number_in z before
          go z (inl less) = let now = there z in omega (arith, less, now)
          go z (inr less) = let now = enabled z in omega (arith, less, now)

      -- while layer i is the first one alive, its own moves lower its weights
      own : (i : ℕ) (layer : Layer) → slice_get layers i ≡ Some layer → place.0 ≡ i → IsLower layer.weights m.taken
      own i layer at same =
          let there : slice_get layers i ≡ Some place.1.layer = subst (λ k. slice_get layers k ≡ Some place.1.layer) same place.1.layer_is in
          let one : Some place.1.layer ≡ Some layer = sym there ∙ at in
          let alike : place.1.layer ≡ layer = cc in
          subst (λ (x : Layer). IsLower x.weights m.taken) alike (v.lower place.0 m.taken place.1)

      -- and no move raises them
      weights_stay : (i : ℕ) (layer : Layer) → slice_get layers i ≡ Some layer → AreDead leaf layers i before → (n : ℕ) (t : Move) → Contains layer.moves n → IsMove leaf n t → IsEnabledIn before t → total layer.weights after ≤ℤ total layer.weights before
      weights_stay i layer at dead n t has is there = go (cases_lt place.0 i) (cases_lt i place.0)
        where
          by : IsNoHigher layer.weights m.taken ⊎ AreApart leaf layers i t m.taken → total layer.weights after ≤ℤ total layer.weights before
          by (inl low) = total_stays leaf layer.weights before after s m low
          by (inr apart) = absurd (not_apart i t dead there apart)

          go : (place.0 < i) ⊎ (i ≤ place.0) → (i < place.0) ⊎ (place.0 ≤ i) → total layer.weights after ≤ℤ total layer.weights before
          go (inl less) which = absurd (dead place.0 m.taken less place.1 enabled)
          go (inr more) (inl later) =
              by (tame.no_rise i place.0 t m.taken later (in_layer i layer at n t has is) place.1)
          go (inr more) (inr less) =
              let fell = total_falls leaf layer.weights before after s m (own i layer at (let z : place.0 ≡ i = omega (arith, more, less) in z)) in
              omega (arith, ints, fell)

      -- the two agents of a move of the layer lower its weights, whatever move they take
      weights_fall : (i : ℕ) (layer : Layer) → slice_get layers i ≡ Some layer → AreDead leaf layers i before → (n : ℕ) (t : Move) → Contains layer.moves n → IsMove leaf n t → IsEnabledIn before t → same_pair t.p t.q m.taken.p m.taken.q ≡ true → total layer.weights after <ℤ total layer.weights before
      weights_fall i layer at dead n t has is there same = go (cases_lt place.0 i) (cases_lt i place.0)
        where
          by : IsLower layer.weights m.taken ⊎ AreApart leaf layers i t m.taken → total layer.weights after <ℤ total layer.weights before
          by (inl low) = total_falls leaf layer.weights before after s m low
          by (inr apart) = absurd (not_apart i t dead there apart)

          go : (place.0 < i) ⊎ (i ≤ place.0) → (i < place.0) ⊎ (place.0 ≤ i) → total layer.weights after <ℤ total layer.weights before
          go (inl less) which = absurd (dead place.0 m.taken less place.1 enabled)
          go (inr more) (inl later) =
              by (tame.same_states i place.0 t m.taken later (in_layer i layer at n t has is) place.1 same)
          go (inr more) (inr less) =
              total_falls leaf layer.weights before after s m (own i layer at (let z : place.0 ≡ i = omega (arith, more, less) in z))

      -- the height of a layer that is dead before is that of the rest, before and after
      dead_height : (i : ℕ) (layer : Layer) (rest : List Layer) → slice_get layers i ≡ Some layer → AreDead leaf layers i before → all_dead leaf before layer.moves ≡ true → (height leaf (layer ∷ rest) before ≡ height leaf rest before) × (height leaf (layer ∷ rest) after ≡ height leaf rest after)
      dead_height i layer rest at dead e =
          let e' = dead_here i layer at after (asleep (suc i) (dead_more i layer at before dead e)) in (
            ap (λ b. cond b (height leaf rest before) (weight layer.weights before + layers_bound rest * length before)) e,
            ap (λ b. cond b (height leaf rest after) (weight layer.weights after + layers_bound rest * length after)) e',
          )

      alive_height : (layer : Layer) (rest : List Layer) → all_dead leaf before layer.moves ≡ false → height leaf (layer ∷ rest) before ≡ weight layer.weights before + layers_bound rest * length before
      alive_height layer rest e =
          ap (λ b. cond b (height leaf rest before) (weight layer.weights before + layers_bound rest * length before)) e

      module _ (range : InRange leaf after) where
        size : length after ≡ length before
        size = meets_length (LeafChange leaf) before after s

        same_size : (rest : List Layer) → layers_bound rest * length after ≡ layers_bound rest * length before
        same_size rest = ap (λ n. layers_bound rest * n) size

        weights_range : (w : List ℤ) → length w ≡ length leaf.states → All (λ q. q < length w) after
        weights_range w long = subst (λ n. All (λ q. q < n) after) (sym long) range

        moved_stays : (rest : List Layer) (i : ℕ) → AreRest layers i rest → HaveLength leaf rest → AreDead leaf layers i before → height leaf rest after ≤ height leaf rest before
        moved_stays [] i there long dead = let z : 0 ≤ 0 = omega arith in z
        moved_stays (layer ∷ rest) i there long dead =
            go (all_dead leaf before layer.moves) refl (moved_stays rest (suc i) (rest_more layers i layer rest there) more)
          where
            at : slice_get layers i ≡ Some layer
            at = rest_first layers i layer rest there

            here : length layer.weights ≡ length leaf.states
            here = All-head (λ (l : Layer). length l.weights ≡ length leaf.states) layer rest long

            more : HaveLength leaf rest
            more = All-tail (λ (l : Layer). length l.weights ≡ length leaf.states) layer rest long

            go : (b : Bool) → all_dead leaf before layer.moves ≡ b → (AreDead leaf layers (suc i) before → height leaf rest after ≤ height leaf rest before) → height leaf (layer ∷ rest) after ≤ height leaf (layer ∷ rest) before
            go true e low =
                let two = dead_height i layer rest at dead e in
                let now = two.0 in
                let then = two.1 in
                let less = low (dead_more i layer at before dead e) in
                omega (arith, now, then, less)
            go false e low =
                let live = one_live leaf before layer.moves e in
                let t = live.2 in
                let lighter = weights_stay i layer at dead live.0 t.taken live.1 t.is (enabled_from before t.taken t.enabled) in
                let now = alive_height layer rest e in
                let less = cond_stays (all_dead leaf after layer.moves) (height leaf rest after) (weight layer.weights before) (weight layer.weights after) (layers_bound rest * length before) (layers_bound rest * length after) (height_most rest more after range) (same_size rest) (weight_stays layer.weights before after lighter size (weights_range layer.weights here)) in
                omega (arith, now, less)

        alive_falls : (i : ℕ) (layer : Layer) (rest : List Layer) → slice_get layers i ≡ Some layer → HaveLength leaf (layer ∷ rest) → AreDead leaf layers i before → all_dead leaf before layer.moves ≡ false → (n : ℕ) (t : Move) → Contains layer.moves n → IsMove leaf n t → IsEnabledIn before t → same_pair t.p t.q m.taken.p m.taken.q ≡ true → height leaf (layer ∷ rest) after < height leaf (layer ∷ rest) before
        alive_falls i layer rest at long dead e n t has is there same =
            let here = All-head (λ (l : Layer). length l.weights ≡ length leaf.states) layer rest long in
            let more = All-tail (λ (l : Layer). length l.weights ≡ length leaf.states) layer rest long in
            let lighter = weights_fall i layer at dead n t has is there same in
            let now = alive_height layer rest e in
            let less = cond_falls (all_dead leaf after layer.moves) (height leaf rest after) (weight layer.weights before) (weight layer.weights after) (layers_bound rest * length before) (layers_bound rest * length after) (height_most rest more after range) (same_size rest) (weight_falls layer.weights before after lighter size (weights_range layer.weights here)) in
            omega (arith, now, less)

    -- no step raises the height
    pub height_stays : (before after : List ℕ) → LeafStep leaf before after → InRange leaf after → height leaf layers after ≤ height leaf layers before
    height_stays before after s range = go s.change
      where
        go : LeafChange leaf s.x s.y s.x' s.y' → height leaf layers after ≤ height leaf layers before
        go (inl stay) =
            let same = ap (height leaf layers) (unchanged leaf before after s stay) in omega (arith, same)
        go (inr m) =
            moved_stays before after s m range layers 0 (λ j layer h. subst (λ n. slice_get layers n ≡ Some layer) (let z : j ≡ 0 + j = omega arith in z) h) v.weights (λ j u l. absurd (omega (arith, l)))

    -- all these layers are dead, or some meeting lowers the height
    lowered : (crowd : List ℕ) (rest : List Layer) (i : ℕ) → AreRest layers i rest → HaveLength leaf rest → AreDead leaf layers i crowd → AreDead leaf layers (i + length rest) crowd ⊎ Lowering crowd (height leaf rest)
    lowered crowd [] i there long dead =
        inl (subst (λ n. AreDead leaf layers n crowd) (let z : i ≡ i + 0 = omega arith in z) dead)
    lowered crowd (layer ∷ rest) i there long dead =
        go (all_dead leaf crowd layer.moves) refl (lowered crowd rest (suc i) (rest_more layers i layer rest there) (All-tail (λ (l : Layer). length l.weights ≡ length leaf.states) layer rest long))
      where
        at : slice_get layers i ≡ Some layer
        at = rest_first layers i layer rest there

        later : all_dead leaf crowd layer.moves ≡ true → AreDead leaf layers (suc i + length rest) crowd ⊎ Lowering crowd (height leaf rest) → AreDead leaf layers (i + length (layer ∷ rest)) crowd ⊎ Lowering crowd (height leaf (layer ∷ rest))
        later e (inl all) =
            inl (subst (λ n. AreDead leaf layers n crowd) (let z : suc i + length rest ≡ i + suc (length rest) = omega arith in z) all)
        later e (inr l) =
            inr (carried crowd (height leaf rest) (height leaf (layer ∷ rest))
            (λ after s m less.
            let two = dead_height crowd after s m i layer rest at dead e in
            let now = two.0 in
            let then = two.1 in
            omega (arith, now, then, less)) l)

        by : all_dead leaf crowd layer.moves ≡ false → (n : ℕ) → Contains layer.moves n → IsLive leaf crowd n → Lowering crowd (height leaf (layer ∷ rest))
        by e n has live =
            let two = agents_of crowd live.taken live.enabled in
            record {
              a = two.0;
              b = two.1;
              different = two.2;
              number = n;
              taken = live.taken;
              is = live.is;
              a_had = two.3;
              b_had = two.4;
              lowers = λ after s m states range.
                  alive_falls crowd after s m range i layer rest at long dead e n live.taken has live.is (enabled_from crowd live.taken live.enabled) (pair_same live.taken m.taken s.x s.y s.x' s.y' states m.followed);
            }

        go : (b : Bool) → all_dead leaf crowd layer.moves ≡ b → (AreDead leaf layers (suc i) crowd → AreDead leaf layers (suc i + length rest) crowd ⊎ Lowering crowd (height leaf rest)) → AreDead leaf layers (i + length (layer ∷ rest)) crowd ⊎ Lowering crowd (height leaf (layer ∷ rest))
        go true e more = later e (more (dead_more i layer at crowd dead e))
        go false e more = let live = one_live leaf crowd layer.moves e in inr (by e live.0 live.1 live.2)

    -- the crowd is at its end, or some meeting lowers the height
    pub progress : (crowd : List ℕ) → IsTerminal (LeafStep leaf) crowd ⊎ Lowering crowd (height leaf layers)
    progress crowd =
        go (lowered crowd layers 0 (λ j layer h. subst (λ n. slice_get layers n ≡ Some layer) (let z : j ≡ 0 + j = omega arith in z) h) v.weights (λ j u l. absurd (omega (arith, l))))
      where
        ended : AreDead leaf layers (0 + length layers) crowd → IsTerminal (LeafStep leaf) crowd
        ended dead after s = by s.change
          where
            by : LeafChange leaf s.x s.y s.x' s.y' → after ≡ crowd
            by (inl stay) = unchanged leaf crowd after s stay
            by (inr m) =
                let at = place crowd after s m in
                let within = slice_get_within layers at.0 at.1.layer at.1.layer_is in
                absurd (dead at.0 m.taken (omega (arith, within)) at.1 (enabled crowd after s m))

        go : AreDead leaf layers (0 + length layers) crowd ⊎ Lowering crowd (height leaf layers) → IsTerminal (LeafStep leaf) crowd ⊎ Lowering crowd (height leaf layers)
        go (inl dead) = inl (ended dead)
        go (inr l) = inr l
