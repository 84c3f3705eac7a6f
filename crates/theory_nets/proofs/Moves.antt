-- Each move of each leaf can be made by a step: the other leaves may stay, or react at once; and it is what a meeting
-- makes where no two moves of a leaf take the same states.
use Rattle.std.proofs.Common.{◌≡◌, ◌≢◌, ◌⊎◌, inl, inr, ℕ, ◌<◌, ◌≤◌, true, false, not, List, length, refl, ap, sym, ◌∙◌, arith}
use Rattle.std.specs.Prelude.{Option, Some, None, find, slice_get, AllPairs}
use Rattle.std.proofs.lemmas.Bool.{eq-eqb, cases_lt, not-true}
use Rattle.std.proofs.lemmas.Bool.Decides.{eqb_tells}
use Rattle.std.proofs.lemmas.List.{length-set, get_or-set_same, get_or-set_other}
use Rattle.std.proofs.lemmas.Option.{slice_get_within, get_or_from_slice_get}
use Rattle.std.proofs.Math.Bool.{or-true}
use Rattle.pop_leaf.specs.declared.leaf.Move.{Move}
use Rattle.pop_leaf.specs.LeafModel.{LeafModel, silent_move, same_pair}
use Rattle.pop_leaf.specs.NetModel.{NetModel, Tuple, state_of}
use Rattle.pop_leaf.specs.Step.{LeafMove, TupleChange}
use Rattle.pop_leaf.specs.Reaction.{takes_states, by_move, leaf_reaction, reactions, reaction, Differ, IsSingle}
use Rattle.pop_leaf.proofs.Found.{find_some}
use Rattle.pop_leaf.proofs.Reactions.{and_left, and_right, get-reactions, state_of-map}
use Rattle.pop_leaf.proofs.Silent.{same_pair_cases, same-self, takes-own}
use Rattle.pop_net.proofs.Lifting.{with_state, lift_change}
use Rattle.pop_leaf.proofs.Quiet.{All-slice_get}
use Rattle.theory_fair.specs.StablyComputes.{Reacts}
use Rattle.theory_fair.specs.Synchronous.{LeafReacts, AllReact}
use Rattle.theory_fair.proofs.Synchronous.{none_found, reaction_reacts}
use Rattle.base_laws.proofs.Numbers.{Tells}
use Rattle.base_laws.proofs.Options.{same_value}
use Rattle.theory_nets.proofs.Led.{IsFor, CanMove, CanMoveIn}

this_leaf : (x : Tuple) (i q : ℕ) → i < length x → state_of (with_state x i q) i ≡ q
this_leaf x i q l = get_or-set_same x i q 0 l

other_leaf : (x : Tuple) (i j q : ℕ) → j ≢ i → state_of (with_state x i q) j ≡ state_of x j
other_leaf x i j q ne = get_or-set_other x i j q 0 ne

-- the move as one of the leaf
as_move : (leaf : LeafModel) (t : Move) (x y : ℕ) → IsFor leaf t x y → LeafMove leaf x y t.r t.s
as_move leaf t x y f =
    record { number = f.number; taken = t; listed = f.listed; non_silent = f.non_silent; followed = inl (f.first, f.second, refl, refl) }

module _ (net : NetModel) where
  -- ---- the other leaves stay

  pub steps_can : CanMove net (TupleChange net)
  steps_can i leaf h x y t hx hy f =
      let within = slice_get_within net.leaves i leaf h in
      record {
        x' = with_state x i t.r;
        y' = with_state y i t.s;
        change = lift_change net i leaf x y t.r t.s h hx hy (inr (as_move leaf t (state_of x i) (state_of y i) f));
        first = this_leaf x i t.r (omega (arith, within, hx));
        second = this_leaf y i t.s (omega (arith, within, hy));
      }

  -- ---- the other leaves react

  pub synchronous_can : CanMove net (AllReact net)
  synchronous_can i leaf h x y t hx hy f =
      record {
        x' = with_state (reaction net x y).0 i t.r;
        y' = with_state (reaction net x y).1 i t.s;
        change = record {
          first = length-set (reaction net x y).0 i t.r ∙ all.first;
          second = length-set (reaction net x y).1 i t.s ∙ all.second;
          each = λ j other k. at j other k (eqb_tells j i);
        };
        first = this_leaf (reaction net x y).0 i t.r first_within;
        second = this_leaf (reaction net x y).1 i t.s second_within;
      }
    where
      all : AllReact net x y (reaction net x y).0 (reaction net x y).1
      all = reaction_reacts net x y hx hy

      first_within : i < length (reaction net x y).0
      first_within = let within = slice_get_within net.leaves i leaf h in let size = all.first in omega (arith, within, size)

      second_within : i < length (reaction net x y).1
      second_within = let within = slice_get_within net.leaves i leaf h in let size = all.second in omega (arith, within, size)

      at : (j : ℕ) (other : LeafModel) → slice_get net.leaves j ≡ Some other → Tells j i → LeafReacts other (state_of x j) (state_of y j) (state_of (with_state (reaction net x y).0 i t.r) j) (state_of (with_state (reaction net x y).1 i t.s) j)
      at j other k (inr ne) =
          rw (other_leaf (reaction net x y).0 i j t.r ne.1, other_leaf (reaction net x y).1 i j t.s ne.1) (all.each j other k)
      at j other k (inl e) =
          let k' : slice_get net.leaves i ≡ Some other = rw e.1 at k in
          let same : leaf ≡ other = same_value (slice_get net.leaves i) leaf other h k' in
          rw (← same, e.1, this_leaf (reaction net x y).0 i t.r first_within, this_leaf (reaction net x y).1 i t.s second_within)
          (inl (as_move leaf t (state_of x i) (state_of y i) f))

-- ---- a meeting, where no two moves of a leaf take the same states

turned : (x y u v : ℕ) → same_pair x y u v ≡ true → same_pair u v x y ≡ true
turned x y u v e = go (same_pair_cases x y u v e)
  where
    go : ((x ≡ u) × (y ≡ v)) ⊎ ((x ≡ v) × (y ≡ u)) → same_pair u v x y ≡ true
    go (inl h) = rw (← h.0, ← h.1) (same-self x y)
    go (inr h) = rw (eq-eqb u y (sym h.1), eq-eqb v x (sym h.0)) (or-true _)

module _ (moves : List Move) (single : AllPairs Differ moves) where
  apart : (i j : ℕ) (t u : Move) → i < j → slice_get moves i ≡ Some t → slice_get moves j ≡ Some u → Differ t u
  apart i j t u l ht hu =
      rw (← get_or_from_slice_get moves i t t ht, ← get_or_from_slice_get moves j u t hu) (single i j t l (slice_get_within moves j u hu))

  -- a non-silent move is the only one that takes its own states
  the_only : (n k : ℕ) (t u : Move) → slice_get moves n ≡ Some t → slice_get moves k ≡ Some u → silent_move t ≡ false → takes_states t.p t.q u ≡ true → u ≡ t
  the_only n k t u ht hu e f = go (cases_lt k n) (cases_lt n k)
    where
      loud : silent_move u ≡ false
      loud = not-true (silent_move u) (and_left (not (silent_move u)) (same_pair t.p t.q u.p u.q) f)

      same : same_pair t.p t.q u.p u.q ≡ true
      same = and_right (not (silent_move u)) (same_pair t.p t.q u.p u.q) f

      go : (k < n) ⊎ (n ≤ k) → (n < k) ⊎ (k ≤ n) → u ≡ t
      go (inl l) m = let d = apart k n u t l hu ht loud e in let s = turned t.p t.q u.p u.q same in absurd (let f : true ≡ false = sym s ∙ d in cc)
      go (inr l) (inl m) = let d = apart n k t u m ht hu e loud in absurd (let f : true ≡ false = sym same ∙ d in cc)
      go (inr l) (inr m) = let at : k ≡ n = omega arith in let hu' : slice_get moves n ≡ Some u = rw at at hu in cc

  found_by : (n : ℕ) (t : Move) → slice_get moves n ≡ Some t → silent_move t ≡ false → (found : Option Move) → find (takes_states t.p t.q) moves ≡ found → found ≡ Some t
  found_by n t h e None f =
      absurd (let not_taken = none_found (takes_states t.p t.q) moves n t f h in let g : true ≡ false = sym (takes-own t e) ∙ not_taken in cc)
  found_by n t h e (Some u) f =
      let s = find_some (takes_states t.p t.q) moves u f in ap Some (the_only n s.0 t u h s.1 e s.2)

-- so the reaction of its states is the move
single_reaction : (leaf : LeafModel) → AllPairs Differ leaf.moves → (n : ℕ) (t : Move) → slice_get leaf.moves n ≡ Some t → silent_move t ≡ false → leaf_reaction leaf t.p t.q ≡ (t.r, t.s)
single_reaction leaf single n t h e =
    ap (by_move t.p t.q) (found_by leaf.moves single n t h e (find (takes_states t.p t.q) leaf.moves) refl)
    ∙ (let first : by_move t.p t.q (Some t) ≡ (t.r, t.s) = rw (eq-eqb t.p t.p refl, eq-eqb t.q t.q refl) refl in first)

-- no two non-silent moves of the leaf take the same states
abbrev pub IsSingleLeaf : LeafModel → Type 0
IsSingleLeaf leaf = AllPairs Differ leaf.moves

pub meeting_can : (net : NetModel) (i : ℕ) (leaf : LeafModel) → slice_get net.leaves i ≡ Some leaf → IsSingleLeaf leaf → CanMoveIn net (Reacts net) i leaf
meeting_can net i leaf h one x y t hx hy f =
    let e = get-reactions net.leaves x y i leaf hx hy h in
    let r : leaf_reaction leaf (state_of x i) (state_of y i) ≡ (t.r, t.s) = rw (f.first, f.second) (single_reaction leaf one f.number t f.listed f.non_silent) in
    record {
      x' = (reaction net x y).0;
      y' = (reaction net x y).1;
      change = (refl, refl);
      first = state_of-map (λ z. z.0) (reactions net.leaves x y) i (leaf_reaction leaf (state_of x i) (state_of y i)) e ∙ ap (λ z. z.0) r;
      second = state_of-map (λ z. z.1) (reactions net.leaves x y) i (leaf_reaction leaf (state_of x i) (state_of y i)) e ∙ ap (λ z. z.1) r;
    }

pub meetings_can : (net : NetModel) → IsSingle net → CanMove net (Reacts net)
meetings_can net single i leaf h = meeting_can net i leaf h (All-slice_get IsSingleLeaf net.leaves i leaf single h)
