-- A path of one leaf's crowd is made by steps of the net's crowd, whatever these do to the other leaves.
use Rattle.std.proofs.Common.{◌≡◌, ◌≢◌, ◌⊎◌, inl, inr, ℕ, suc, ◌<◌, ◌≤◌, false, List, [], ◌∷◌, length, get_or, refl, ap, sym, subst, ◌∙◌, arith}
use Rattle.std.specs.Prelude.{Some, slice_get, slice_set, All}
use Rattle.std.proofs.lemmas.List.{length-map, set_comm}
use Rattle.std.proofs.lemmas.List.Elements.{All-get_or}
use Rattle.std.proofs.lemmas.Option.{slice_get_within, slice_get-get_or}
use Rattle.pop_leaf.specs.declared.leaf.Move.{Move}
use Rattle.pop_leaf.specs.LeafModel.{LeafModel, silent_move}
use Rattle.pop_leaf.specs.NetModel.{NetModel, Tuple, CrowdModel, IsTuple, state_of}
use Rattle.pop_leaf.specs.Step.{Follows, LeafChange, TupleChange, Meets, Step, LeafStep}
use Rattle.pop_leaf.specs.Reachable.{Leads}
use Rattle.pop_net.proofs.Projection.{component, component-set, slice_get-component}
use Rattle.pop_leaf.proofs.Quiet.{set_same}
use Rattle.pop_net.proofs.Tuples.{step_tuples}
use Rattle.theory_fair.proofs.Reached.{AreChanges, to_step}

-- the changes of a step
pub own_changes : (net : NetModel) → AreChanges net (TupleChange net)
own_changes net x y x' y' hx hy c = c

-- a non-silent move of the leaf for the states x and y, in its own order
pub record IsFor (leaf : LeafModel) (t : Move) (x y : ℕ) : Type 0 where
  pub number : ℕ
  pub listed : slice_get leaf.moves number ≡ Some t
  pub non_silent : silent_move t ≡ false
  pub first : x ≡ t.p
  pub second : y ≡ t.q

-- what becomes of the two tuples when leaf i makes the move
pub record Makes (Change : Tuple → Tuple → Tuple → Tuple → Type 0) (i : ℕ) (x y : Tuple) (t : Move) : Type 0 where
  pub x' : Tuple
  pub y' : Tuple
  pub change : Change x y x' y'
  pub first : state_of x' i ≡ t.r
  pub second : state_of y' i ≡ t.s

-- each move of leaf i can be made by a change of the two tuples
abbrev pub CanMoveIn : NetModel → (Tuple → Tuple → Tuple → Tuple → Type 0) → ℕ → LeafModel → Type 0
CanMoveIn net Change i leaf =
    (x y : Tuple) (t : Move) → IsTuple net x → IsTuple net y → IsFor leaf t (state_of x i) (state_of y i)
    → Makes Change i x y t

-- and so can those of each leaf
abbrev pub CanMove : NetModel → (Tuple → Tuple → Tuple → Tuple → Type 0) → Type 0
CanMove net Change =
    (i : ℕ) (leaf : LeafModel) → slice_get net.leaves i ≡ Some leaf → CanMoveIn net Change i leaf

-- agents a and b take a move, a as its first
record Taken (leaf : LeafModel) (before after : List ℕ) : Type 0 where
  a : ℕ
  b : ℕ
  different : a ≢ b
  number : ℕ
  taken : Move
  listed : slice_get leaf.moves number ≡ Some taken
  non_silent : silent_move taken ≡ false
  a_had : slice_get before a ≡ Some taken.p
  b_had : slice_get before b ≡ Some taken.q
  others_stay : after ≡ slice_set (slice_set before a taken.r) b taken.s

-- a step changes nothing, or two agents take a move
taken_by : (leaf : LeafModel) (before after : List ℕ) (s : LeafStep leaf before after) → LeafChange leaf s.x s.y s.x' s.y' → (after ≡ before) ⊎ Taken leaf before after
taken_by leaf before after s (inl stay) =
    inl
    (s.others_stay
    ∙ ap (λ x. slice_set (slice_set before s.a x) s.b s.y') stay.0
    ∙ ap (λ y. slice_set (slice_set before s.a s.x) s.b y) stay.1
    ∙ ap (λ c. slice_set c s.b s.y) (set_same before s.a s.x s.a_had)
    ∙ set_same before s.b s.y s.b_had)
taken_by leaf before after s (inr m) = inr (go m.followed)
  where
    go : Follows m.taken s.x s.y s.x' s.y' ⊎ Follows m.taken s.y s.x s.y' s.x' → Taken leaf before after
    go (inl f) = record {
      a = s.a;
      b = s.b;
      different = s.different;
      number = m.number;
      taken = m.taken;
      listed = m.listed;
      non_silent = m.non_silent;
      a_had = s.a_had ∙ ap Some f.0;
      b_had = s.b_had ∙ ap Some f.1;
      others_stay = s.others_stay
          ∙ ap (λ x. slice_set (slice_set before s.a x) s.b s.y') f.2
          ∙ ap (λ y. slice_set (slice_set before s.a m.taken.r) s.b y) f.3;
    }
    go (inr f) = record {
      a = s.b;
      b = s.a;
      different = λ e. s.different (sym e);
      number = m.number;
      taken = m.taken;
      listed = m.listed;
      non_silent = m.non_silent;
      a_had = s.b_had ∙ ap Some f.0;
      b_had = s.a_had ∙ ap Some f.1;
      others_stay = s.others_stay
          ∙ set_comm before s.a s.b s.x' s.y' s.different
          ∙ ap (λ y. slice_set (slice_set before s.b y) s.a s.x') f.2
          ∙ ap (λ x. slice_set (slice_set before s.b m.taken.r) s.a x) f.3;
    }

module _ (net : NetModel) (Change : Tuple → Tuple → Tuple → Tuple → Type 0) (changes : AreChanges net Change) where
  -- steps are steps of the net
  pub as_steps : (crowd : CrowdModel) (path : List CrowdModel) (last : CrowdModel) → All (IsTuple net) crowd → Leads (Meets Change) crowd path last → Leads (Step net) crowd path last
  as_steps crowd [] last tuples way = way
  as_steps crowd (next ∷ path) last tuples way =
      let s = to_step net Change changes crowd next tuples way.0 in
      (s, as_steps next path last (step_tuples net crowd next tuples s) way.1)

  module _ (i : ℕ) (leaf : LeafModel) (h : slice_get net.leaves i ≡ Some leaf) (can : CanMoveIn net Change i leaf) where
    -- the crowd after a step that makes this one of leaf i
    Made : CrowdModel → List ℕ → Type 0
    Made crowd next = (after : CrowdModel) × Meets Change crowd after × (component i after ≡ next)

    module _ (crowd : CrowdModel) (tuples : All (IsTuple net) crowd) where
      within : (a q : ℕ) → slice_get (component i crowd) a ≡ Some q → a < length crowd
      within a q e =
          let l = slice_get_within (component i crowd) a q e in
          omega (arith, l, length-map crowd (λ tuple. state_of tuple i))

      state_at : (a q : ℕ) → slice_get (component i crowd) a ≡ Some q → state_of (get_or crowd a []) i ≡ q
      state_at a q e =
          let c = slice_get-component i crowd a (get_or crowd a []) (slice_get-get_or crowd a [] (within a q e)) in cc

      made : (next : List ℕ) → Taken leaf (component i crowd) next → Made crowd next
      unfolding Made
      made next k =
          let x = get_or crowd k.a [] in
          let y = get_or crowd k.b [] in
          let la = within k.a k.taken.p k.a_had in
          let lb = within k.b k.taken.q k.b_had in
          let for_them : IsFor leaf k.taken (state_of x i) (state_of y i) = record { number = k.number; listed = k.listed; non_silent = k.non_silent; first = state_at k.a k.taken.p k.a_had; second = state_at k.b k.taken.q k.b_had } in
          let to = can x y k.taken (All-get_or (IsTuple net) crowd k.a [] la tuples) (All-get_or (IsTuple net) crowd k.b [] lb tuples) for_them in (
            slice_set (slice_set crowd k.a to.x') k.b to.y',
            record {
              a = k.a;
              b = k.b;
              different = k.different;
              x = x;
              y = y;
              x' = to.x';
              y' = to.y';
              a_had = slice_get-get_or crowd k.a [] la;
              b_had = slice_get-get_or crowd k.b [] lb;
              change = to.change;
              others_stay = refl;
            },
            component-set i crowd k.a k.b to.x' to.y'
                ∙ ap (λ q. slice_set (slice_set (component i crowd) k.a q) k.b (state_of to.y' i)) to.first
                ∙ ap (λ q. slice_set (slice_set (component i crowd) k.a k.taken.r) k.b q) to.second
                ∙ sym k.others_stay,
          )

    -- at most n steps that bring leaf i's crowd to this end
    pub record Led (crowd : CrowdModel) (end : List ℕ) (n : ℕ) : Type 0 where
      pub last : CrowdModel
      pub path : List CrowdModel
      pub way : Leads (Meets Change) crowd path last
      pub short : length path ≤ n
      pub here : component i last ≡ end

    lead_step : (crowd : CrowdModel) (next end : List ℕ) (n : ℕ) → All (IsTuple net) crowd → (next ≡ component i crowd) ⊎ Taken leaf (component i crowd) next → ((after : CrowdModel) → All (IsTuple net) after → component i after ≡ next → Led after end n) → Led crowd end (suc n)
    unfolding Made
    lead_step crowd next end n tuples (inl stay) more =
        let l = more crowd tuples (sym stay) in
        record { last = l.last; path = l.path; way = l.way; short = (let m : length l.path ≤ suc n = omega (arith, l.short) in m); here = l.here }
    lead_step crowd next end n tuples (inr k) more =
        let m = made crowd tuples next k in
        let s = to_step net Change changes crowd m.0 tuples m.1 in
        let l = more m.0 (step_tuples net crowd m.0 tuples s) m.2 in
        record {
          last = l.last;
          path = m.0 ∷ l.path;
          way = (m.1, l.way);
          short = (let k : suc (length l.path) ≤ suc n = omega (arith, l.short) in k);
          here = l.here;
        }

    pub lead_way : (path : List (List ℕ)) (crowd : CrowdModel) (end : List ℕ) → All (IsTuple net) crowd → Leads (LeafStep leaf) (component i crowd) path end → Led crowd end (length path)
    lead_way [] crowd end tuples way =
        record { last = crowd; path = []; way = refl; short = (let l : 0 ≤ 0 = omega arith in l); here = sym way }
    lead_way (next ∷ path) crowd end tuples way =
        lead_step crowd next end (length path) tuples (taken_by leaf (component i crowd) next way.0 way.0.change)
        (λ after ts e. lead_way path after end ts (subst (λ (c : List ℕ). Leads (LeafStep leaf) c path end) (sym e) way.1))
