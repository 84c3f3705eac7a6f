-- A leaf in which, for the states of a meeting, only the move that its layers list first is left: it has valid layers too.
use Rattle.std.proofs.Common.{◌≡◌, ◌⊎◌, inl, inr, ℕ, zero, suc, ◌+◌, ◌-◌, ◌<◌, ◌≤◌, Bool, true, false, not, cond, ◌&&◌, ◌||◌, ◌==◌, List, [], ◌∷◌, ◌++◌, length, get_or, refl, ap, sym, subst, ◌∙◌, arith}
use Rattle.std.specs.Prelude.{Option, Some, None, find, slice_get, All, Contains, is_none}
use Rattle.std.proofs.lemmas.Bool.{eq-eqb, eqb-true, not-true}
use Rattle.std.proofs.Math.Bool.{or_comm, and_comm}
use Rattle.std.proofs.lemmas.List.Elements.{All-nil, All-cons, All-head, All-tail, Contains-append_left, Contains-append_right, Contains-append_cases}
use Rattle.std.proofs.lemmas.Option.{slice_get_within, slice_get-get_or, get_or_from_slice_get}
use Rattle.pop_leaf.specs.declared.leaf.Move.{Move}
use Rattle.pop_leaf.specs.LeafModel.{LeafModel, IsLeaf, IsMoveBelow, silent_move, same_pair, pre, post}
use Rattle.pop_leaf.specs.Step.{LeafMove}
use Rattle.pop_leaf.specs.Reaction.{takes_states, leaf_reaction, by_move}
use Rattle.pop_leaf.proofs.Found.{find_some}
use Rattle.pop_leaf.proofs.Silent.{same_pair_cases, same-self, takes-own}
use Rattle.pop_leaf.proofs.Quiet.{leaf_quiet}
use Rattle.pop_leaf.proofs.Reactions.{and_left, and_right}
use Rattle.cert_base.specs.declared.layer.Layer.{Layer}
use Rattle.cert_base.specs.ValidLayers.{moves_of_layers, IsInLayer, ValidLayers}
use Rattle.theory_fair.specs.Synchronous.{LeafReacts}
use Rattle.theory_fair.proofs.Synchronous.{takes_followed, none_found, found_move}
use Rattle.theory_nets.proofs.Moves.{IsSingleLeaf}

-- ---- find in a list of lists

find_front : {X : Type 0} (p : X → Bool) (xs ys : List X) (x : X) → find p xs ≡ Some x → find p (xs ++ ys) ≡ Some x
find_front p [] ys x e = cc
find_front p (z ∷ xs) ys x e = by (p z) e (find_front p xs ys x)
  where
    by : (b : Bool) → cond b (Some z) (find p xs) ≡ Some x → (find p xs ≡ Some x → find p (xs ++ ys) ≡ Some x) → cond b (Some z) (find p (xs ++ ys)) ≡ Some x
    by true f more = f
    by false f more = more f

find_back : {X : Type 0} (p : X → Bool) (xs ys : List X) → find p xs ≡ None → find p (xs ++ ys) ≡ find p ys
find_back p [] ys e = refl
find_back p (z ∷ xs) ys e = by (p z) e (find_back p xs ys)
  where
    by : (b : Bool) → cond b (Some z) (find p xs) ≡ None → (find p xs ≡ None → find p (xs ++ ys) ≡ find p ys) → cond b (Some z) (find p (xs ++ ys)) ≡ find p ys
    by true f more = cc
    by false f more = more f

contained : {X : Type 0} (xs : List X) (i : ℕ) (x : X) → slice_get xs i ≡ Some x → Contains xs x
contained xs i x h = (i, slice_get_within xs i x h, get_or_from_slice_get xs i x x h)

none_contained : {X : Type 0} (p : X → Bool) (xs : List X) (x : X) → find p xs ≡ None → Contains xs x → p x ≡ false
none_contained p xs x e c =
    none_found p xs c.0 x e (slice_get-get_or xs c.0 x c.1 ∙ ap Some c.2)

-- what is found in the lists of layers is in a layer no later than one that has such a number
record FoundIn (p : ℕ → Bool) (layers : List Layer) (k : ℕ) : Type 0 where
  place : ℕ
  layer : Layer
  number : ℕ
  early : place ≤ k
  layer_is : slice_get layers place ≡ Some layer
  lists : Contains layer.moves number
  passes : p number ≡ true
  first : find p (moves_of_layers layers) ≡ Some number

found_in : (p : ℕ → Bool) (layers : List Layer) (k : ℕ) (layer : Layer) (n : ℕ) → slice_get layers k ≡ Some layer → Contains layer.moves n → p n ≡ true → FoundIn p layers k
found_in p [] k layer n h c e = cc
found_in p (l ∷ layers) k layer n h c e = by (find p l.moves) refl (λ j g. found_in p layers j layer n g c e)
  where
    by : (o : Option ℕ) → find p l.moves ≡ o → ((j : ℕ) → slice_get layers j ≡ Some layer → FoundIn p layers j) → FoundIn p (l ∷ layers) k
    by (Some m) f more =
        let s = find_some p l.moves m f in
        record {
          place = 0;
          layer = l;
          number = m;
          early = (let z : 0 ≤ k = omega arith in z);
          layer_is = refl;
          lists = contained l.moves s.0 m s.1;
          passes = s.2;
          first = find_front p l.moves (moves_of_layers layers) m f;
        }
    by None f more = at k h
      where
        at : (k : ℕ) → slice_get (l ∷ layers) k ≡ Some layer → FoundIn p (l ∷ layers) k
        at zero g =
            let same : l ≡ layer = cc in
            let no = none_contained p l.moves n f (subst (λ (z : Layer). Contains z.moves n) (sym same) c) in
            absurd (let b : true ≡ false = sym e ∙ no in cc)
        at (suc j) g =
            let r = more j g in
            record {
              place = suc r.place;
              layer = r.layer;
              number = r.number;
              early = (let below = r.early in let z : suc r.place ≤ suc j = omega (arith, below) in z);
              layer_is = r.layer_is;
              lists = r.lists;
              passes = r.passes;
              first = find_back p l.moves (moves_of_layers layers) f ∙ r.first;
            }

-- where a number stands that a layer lists
has_flat_layers : (layers : List Layer) (k : ℕ) (layer : Layer) (n : ℕ) → slice_get layers k ≡ Some layer → Contains layer.moves n → Contains (moves_of_layers layers) n
has_flat_layers [] k layer n h c = cc
has_flat_layers (l ∷ layers) zero layer n h c =
    let same : l ≡ layer = cc in
    Contains-append_left l.moves (moves_of_layers layers) n (subst (λ (z : Layer). Contains z.moves n) (sym same) c)
has_flat_layers (l ∷ layers) (suc k) layer n h c =
    Contains-append_right l.moves (moves_of_layers layers) n (has_flat_layers layers k layer n h c)

-- the layer that lists a number
pub listed_in : (layers : List Layer) (n : ℕ) → Contains (moves_of_layers layers) n → (k : ℕ) × (layer : Layer) × (slice_get layers k ≡ Some layer) × Contains layer.moves n
listed_in [] n c = absurd (omega (arith, c.1))
listed_in (l ∷ layers) n c = by (Contains-append_cases l.moves (moves_of_layers layers) n c) (listed_in layers n)
  where
    by : Contains l.moves n ⊎ Contains (moves_of_layers layers) n → (Contains (moves_of_layers layers) n → (k : ℕ) × (layer : Layer) × (slice_get layers k ≡ Some layer) × Contains layer.moves n) → (k : ℕ) × (layer : Layer) × (slice_get (l ∷ layers) k ≡ Some layer) × Contains layer.moves n
    by (inl here) more = (0, l, refl, here)
    by (inr there) more = let r = more there in (suc r.0, r.1, r.2, r.3)

-- ---- pairs of states

takes_turned : (x y : ℕ) (t : Move) → takes_states x y t ≡ takes_states y x t
takes_turned x y t =
    ap (λ b. not (silent_move t) && b)
    (or_comm ((x == t.p) && (y == t.q)) ((x == t.q) && (y == t.p)) ∙ ap (λ b. b || (x == t.p) && (y == t.q)) (and_comm (x == t.q) (y == t.p)) ∙ ap (λ b. (y == t.p) && (x == t.q) || b) (and_comm (x == t.p) (y == t.q)))

-- the same moves take the same pair of states
takes_alike : (x y u v : ℕ) (t : Move) → same_pair x y u v ≡ true → takes_states x y t ≡ takes_states u v t
takes_alike x y u v t e = by (same_pair_cases x y u v e)
  where
    by : ((x ≡ u) × (y ≡ v)) ⊎ ((x ≡ v) × (y ≡ u)) → takes_states x y t ≡ takes_states u v t
    by (inl h) = ap (λ a. takes_states a y t) h.0 ∙ ap (λ b. takes_states u b t) h.1
    by (inr h) = ap (λ a. takes_states a y t) h.0 ∙ ap (λ b. takes_states v b t) h.1 ∙ takes_turned v u t

pre_alike : (t u : Move) → same_pair t.p t.q u.p u.q ≡ true → (z : ℕ) → pre u z ≡ pre t z
pre_alike t u e z = by (same_pair_cases t.p t.q u.p u.q e)
  where
    by : ((t.p ≡ u.p) × (t.q ≡ u.q)) ⊎ ((t.p ≡ u.q) × (t.q ≡ u.p)) → pre u z ≡ pre t z
    by (inl h) = rw (h.0, h.1) refl
    by (inr h) = rw (h.0, h.1) (omega arith)

-- ---- moves that are left out become silent, so that the others keep their numbers

pub silenced : Move → Move
silenced t = record { p = t.p; q = t.q; r = t.p; s = t.q }

silenced_silent : (t : Move) → silent_move (silenced t) ≡ true
unfolding silenced
silenced_silent t = same-self t.p t.q

pub left : (ℕ → Bool) → ℕ → List Move → List Move
left keep n [] = []
left keep n (t ∷ moves) = cond (keep n) t (silenced t) ∷ left keep (suc n) moves

left_length : (keep : ℕ → Bool) (n : ℕ) (moves : List Move) → length (left keep n moves) ≡ length moves
unfolding left
left_length keep n [] = refl
left_length keep n (t ∷ moves) = ap suc (left_length keep (suc n) moves)

left_is : (keep : ℕ → Bool) (n : ℕ) (moves : List Move) (i : ℕ) (t : Move) → slice_get (left keep n moves) i ≡ Some t → silent_move t ≡ false → (slice_get moves i ≡ Some t) × (keep (n + i) ≡ true)
unfolding left
left_is keep n [] i t h e = cc
left_is keep n (u ∷ moves) zero t h e = by (keep n) refl
  where
    by : (b : Bool) → keep n ≡ b → (Some u ≡ Some t) × (keep (n + 0) ≡ true)
    by true f =
        let same : Some u ≡ Some t = ap (λ b. Some (cond b u (silenced u))) (sym f) ∙ h in
        (same, ap keep (let z : n + 0 ≡ n = omega arith in z) ∙ f)
    by false f =
        let same : Some (silenced u) ≡ Some t = ap (λ b. Some (cond b u (silenced u))) (sym f) ∙ h in
        let one : silenced u ≡ t = cc in
        absurd (let b : true ≡ false = sym (silenced_silent u) ∙ ap silent_move one ∙ e in cc)
left_is keep n (u ∷ moves) (suc i) t h e =
    let r = left_is keep (suc n) moves i t h e in
    (r.0, ap keep (let z : n + suc i ≡ suc n + i = omega arith in z) ∙ r.1)

is_left : (keep : ℕ → Bool) (n : ℕ) (moves : List Move) (i : ℕ) (t : Move) → slice_get moves i ≡ Some t → keep (n + i) ≡ true → slice_get (left keep n moves) i ≡ Some t
unfolding left
is_left keep n [] i t h e = cc
is_left keep n (u ∷ moves) zero t h e =
    ap (λ b. Some (cond b u (silenced u))) (ap keep (let z : n ≡ n + 0 = omega arith in z) ∙ e) ∙ h
is_left keep n (u ∷ moves) (suc i) t h e =
    is_left keep (suc n) moves i t h (ap keep (let z : suc n + i ≡ n + suc i = omega arith in z) ∙ e)

left_below : (keep : ℕ → Bool) (n m : ℕ) (moves : List Move) → All (IsMoveBelow m) moves → All (IsMoveBelow m) (left keep n moves)
unfolding left silenced
left_below keep n m [] all = All-nil (IsMoveBelow m)
left_below keep n m (t ∷ moves) all =
    All-cons (IsMoveBelow m) (cond (keep n) t (silenced t)) (left keep (suc n) moves) (by (keep n) (All-head (IsMoveBelow m) t moves all)) (left_below keep (suc n) m moves (All-tail (IsMoveBelow m) t moves all))
  where
    by : (b : Bool) → IsMoveBelow m t → IsMoveBelow m (cond b t (silenced t))
    by true h = h
    by false h = (h.0, h.1, h.0, h.1)

-- ---- the leaf with the first moves alone

pub blank : Move
blank = record { p = 0; q = 0; r = 0; s = 0 }

pub is_number : ℕ → Option ℕ → Bool
is_number n None = false
is_number n (Some m) = m == n

number_is : (n : ℕ) (o : Option ℕ) → is_number n o ≡ true → o ≡ Some n
unfolding is_number
number_is n None e = cc
number_is n (Some m) e = ap Some (eqb-true m n e)

-- whether a move takes these states, by its number
abbrev pub takes_at : LeafModel → ℕ → ℕ → ℕ → Bool
takes_at leaf x y m = takes_states x y (get_or leaf.moves m blank)

-- whether a move is the first listed one that takes its states
pub is_first : LeafModel → List Layer → ℕ → Bool
is_first leaf layers n =
    is_number n (find (takes_at leaf (get_or leaf.moves n blank).p (get_or leaf.moves n blank).q) (moves_of_layers layers))

abbrev pub least_leaf : LeafModel → List Layer → LeafModel
least_leaf leaf layers =
    record { states = leaf.states; moves = left (is_first leaf layers) 0 leaf.moves; inputs = leaf.inputs; outputs = leaf.outputs; helpers = leaf.helpers }

pub least_is_leaf : (leaf : LeafModel) (layers : List Layer) → IsLeaf leaf → IsLeaf (least_leaf leaf layers)
least_is_leaf leaf layers is = record {
  names = is.names;
  some_state = is.some_state;
  states = is.states;
  move_count = (let e = left_length (is_first leaf layers) 0 leaf.moves in let few = is.move_count in omega (arith, e, few));
  moves = left_below (is_first leaf layers) 0 (length leaf.states) leaf.moves is.moves;
  some_input = is.some_input;
  input_count = is.input_count;
  inputs = is.inputs;
  outputs = is.outputs;
  helper_count = is.helper_count;
  helpers = is.helpers;
}

module _ (leaf : LeafModel) (layers : List Layer) where
  at_place : (n : ℕ) (t : Move) → slice_get leaf.moves n ≡ Some t → get_or leaf.moves n blank ≡ t
  at_place n t h = get_or_from_slice_get leaf.moves n t blank h

  -- a move that is left is one of the leaf's, and the first that takes its states
  pub least_move : (n : ℕ) (t : Move) → slice_get (least_leaf leaf layers).moves n ≡ Some t → silent_move t ≡ false → (slice_get leaf.moves n ≡ Some t) × (find (takes_at leaf t.p t.q) (moves_of_layers layers) ≡ Some n)
  unfolding is_first
  least_move n t h e =
      let r = left_is (is_first leaf layers) 0 leaf.moves n t h e in
      let at = at_place n t r.0 in
      let first : is_first leaf layers n ≡ true = ap (is_first leaf layers) (let z : n ≡ 0 + n = omega arith in z) ∙ r.1 in
      let number = number_is n (find (takes_at leaf (get_or leaf.moves n blank).p (get_or leaf.moves n blank).q) (moves_of_layers layers)) first in
      (r.0, subst (λ (u : Move). find (takes_at leaf u.p u.q) (moves_of_layers layers) ≡ Some n) at number)

  is_least : (n : ℕ) (t : Move) → slice_get leaf.moves n ≡ Some t → find (takes_at leaf t.p t.q) (moves_of_layers layers) ≡ Some n → slice_get (least_leaf leaf layers).moves n ≡ Some t
  unfolding is_first is_number
  is_least n t h first =
      let at = at_place n t h in
      let number : find (takes_at leaf (get_or leaf.moves n blank).p (get_or leaf.moves n blank).q) (moves_of_layers layers) ≡ Some n = subst (λ (u : Move). find (takes_at leaf u.p u.q) (moves_of_layers layers) ≡ Some n) (sym at) first in
      let keep : is_first leaf layers (0 + n) ≡ true = ap (is_first leaf layers) (let z : 0 + n ≡ n = omega arith in z) ∙ ap (is_number n) number ∙ eq-eqb n n refl in
      is_left (is_first leaf layers) 0 leaf.moves n t h keep

  takes_all_alike : (x y u v : ℕ) → same_pair x y u v ≡ true → takes_at leaf x y ≡ takes_at leaf u v
  takes_all_alike x y u v e = λ i m. takes_alike x y u v (get_or leaf.moves m blank) e i

  pub least_single : IsSingleLeaf (least_leaf leaf layers)
  least_single i j d l m loud_t loud_u = by (same_pair t.p t.q u.p u.q) refl
    where
      t : Move
      t = get_or (least_leaf leaf layers).moves i d

      u : Move
      u = get_or (least_leaf leaf layers).moves j d

      by : (b : Bool) → same_pair t.p t.q u.p u.q ≡ b → same_pair t.p t.q u.p u.q ≡ false
      by false e = e
      by true e =
          let first = least_move i t (slice_get-get_or (least_leaf leaf layers).moves i d (omega (arith, l, m))) loud_t in
          let second = least_move j u (slice_get-get_or (least_leaf leaf layers).moves j d m) loud_u in
          let same : Some i ≡ Some j = sym first.1 ∙ ap (λ p. find p (moves_of_layers layers)) (takes_all_alike t.p t.q u.p u.q e) ∙ second.1 in
          let one : i ≡ j = cc in
          absurd (omega (arith, one, l))

  -- a layer's moves that are left are the layer's
  abbrev in_layer : (i : ℕ) (t : Move) → IsInLayer (least_leaf leaf layers) layers i t → IsInLayer leaf layers i t
  in_layer i t at =
      record {
        layer = at.layer;
        number = at.number;
        layer_is = at.layer_is;
        lists = at.lists;
        move_is = (least_move at.number t at.move_is at.non_silent).0;
        non_silent = at.non_silent;
      }

  -- the move that is left for the states of u
  record Least (k : ℕ) (u : Move) : Type 0 where
    place : ℕ
    taken : Move
    early : place ≤ k
    inside : IsInLayer (least_leaf leaf layers) layers place taken
    alike : same_pair u.p u.q taken.p taken.q ≡ true

  module _ (valid : ValidLayers leaf layers) where
    least_for : (k n : ℕ) (u : Move) (layer : Layer) → slice_get layers k ≡ Some layer → Contains layer.moves n → slice_get leaf.moves n ≡ Some u → silent_move u ≡ false → Least k u
    least_for k n u layer h c e loud =
        let own : takes_at leaf u.p u.q n ≡ true = ap (takes_states u.p u.q) (at_place n u e) ∙ takes-own u loud in
        let f = found_in (takes_at leaf u.p u.q) layers k layer n h c own in
        let number = f.number in
        let t = get_or leaf.moves f.number blank in
        let within : number < length leaf.moves = listed_within f.place f.layer f.number f.layer_is f.lists in
        let there : slice_get leaf.moves number ≡ Some t = slice_get-get_or leaf.moves number blank within in
        let passes = f.passes in
        let same : same_pair u.p u.q t.p t.q ≡ true = and_right (not (silent_move t)) (same_pair u.p u.q t.p t.q) passes in
        let quiet : silent_move t ≡ false = not-true (silent_move t) (and_left (not (silent_move t)) (same_pair u.p u.q t.p t.q) passes) in
        let first : find (takes_at leaf t.p t.q) (moves_of_layers layers) ≡ Some number = ap (λ p. find p (moves_of_layers layers)) (sym (takes_all_alike u.p u.q t.p t.q same)) ∙ f.first in
        record {
          place = f.place;
          taken = t;
          early = f.early;
          inside = record { layer = f.layer; number = f.number; layer_is = f.layer_is; lists = f.lists; move_is = is_least number t there first; non_silent = quiet };
          alike = same;
        }
      where
        listed_within : (k : ℕ) (layer : Layer) (n : ℕ) → slice_get layers k ≡ Some layer → Contains layer.moves n → n < length leaf.moves
        listed_within k layer n h c =
            let all = has_flat_layers layers k layer n h c in
            subst (λ m. m < length leaf.moves) all.2 (valid.in_range all.0 n all.1)

    pub least_valid : ValidLayers (least_leaf leaf layers) layers
    least_valid = record {
      weights = valid.weights;
      in_range = subst (λ n. All (λ number. number < n) (moves_of_layers layers)) (sym (left_length (is_first leaf layers) 0 leaf.moves)) valid.in_range;
      once = valid.once;
      all = λ number t h e. valid.all number t (least_move number t h e).0 e;
      lower = λ i t at. valid.lower i t (in_layer i t at);
      wakes_none = λ i j t u l at other.
          let w = valid.wakes_none i j t u l (in_layer i t at) (in_layer j u other) in
          let before = w.3 in
          let f = least_for w.0 before.number w.1 before.layer before.layer_is before.lists before.move_is before.non_silent in
          let low = f.early in
          let sooner = w.2 in
          (f.place, f.taken, (let z : f.place < i = omega (arith, low, sooner) in z), f.inside, λ z. subst (λ n. n ≤ pre t z + (pre u z - post t z)) (sym (pre_alike w.1 f.taken f.alike z)) (w.4 z));
    }

    -- states that a move of the leaf changes are changed by one that is left
    still_moves : (x y : ℕ) → find (takes_states x y) (least_leaf leaf layers).moves ≡ None → (u v : ℕ) → ¬ LeafMove leaf x y u v
    still_moves x y none u v m =
        let t = m.taken in
        let listed = listed_in layers m.number (valid.all m.number m.taken m.listed m.non_silent) in
        let f = least_for listed.0 m.number m.taken listed.1 listed.2 listed.3 m.listed m.non_silent in
        let takes : takes_states x y m.taken ≡ true = takes_followed x y u v m.taken m.non_silent m.followed in
        let pair : same_pair x y t.p t.q ≡ true = and_right (not (silent_move m.taken)) (same_pair x y m.taken.p m.taken.q) takes in
        let inside = f.inside in
        let also : takes_states x y f.taken ≡ true = takes_alike x y m.taken.p m.taken.q f.taken pair ∙ ap (λ b. not b && same_pair m.taken.p m.taken.q f.taken.p f.taken.q) inside.non_silent ∙ f.alike in
        let not_taken = none_found (takes_states x y) (least_leaf leaf layers).moves inside.number f.taken none inside.move_is in
        absurd (let b : true ≡ false = sym also ∙ not_taken in cc)

    -- the reaction of the moves that are left is one that the leaf must make
    pub least_reacts : (x y : ℕ) → LeafReacts leaf x y (leaf_reaction (least_leaf leaf layers) x y).0 (leaf_reaction (least_leaf leaf layers) x y).1
    least_reacts x y = by (find (takes_states x y) (least_leaf leaf layers).moves) refl
      where
        by : (found : Option Move) → find (takes_states x y) (least_leaf leaf layers).moves ≡ found → LeafReacts leaf x y (by_move x y found).0 (by_move x y found).1
        by None e = inr (refl, refl, still_moves x y e)
        by (Some t) e =
            let m = found_move (least_leaf leaf layers) x y t e in
            inl (record { number = m.number; taken = m.taken; listed = (least_move m.number m.taken m.listed m.non_silent).0; non_silent = m.non_silent; followed = m.followed })

    pub least_quiet : (x y : ℕ) → leaf_quiet (least_leaf leaf layers) x y ≡ true → leaf_quiet leaf x y ≡ true
    least_quiet x y q = by (find (takes_states x y) leaf.moves) refl (none_of (find (takes_states x y) (least_leaf leaf layers).moves) q)
      where
        none_of : (o : Option Move) → is_none o ≡ true → o ≡ None
        none_of None e = refl
        none_of (Some t) e = cc

        by : (o : Option Move) → find (takes_states x y) leaf.moves ≡ o → find (takes_states x y) (least_leaf leaf layers).moves ≡ None → is_none o ≡ true
        by None e none = refl
        by (Some t) e none = absurd (still_moves x y none (by_move x y (Some t)).0 (by_move x y (Some t)).1 (found_move leaf x y t e))
