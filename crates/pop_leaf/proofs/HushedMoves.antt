-- The moves of a hushed leaf.
use Rattle.std.proofs.Common.{◌≡◌, ℕ, zero, suc, ◌+◌, ◌<◌, Bool, true, false, List, [], ◌∷◌, length, refl, ap, sym, subst, ◌∙◌, arith}
use Rattle.std.specs.Prelude.{Some, slice_get, All, Contains}
use Rattle.std.proofs.lemmas.Bool.{false≢true}
use Rattle.std.proofs.lemmas.List.Elements.{All-nil, All-cons, All-head, All-tail}
use Rattle.pop_leaf.specs.declared.leaf.Move.{Move}
use Rattle.pop_leaf.specs.LeafModel.{LeafModel, IsLeaf, IsMoveBelow, silent_move}
use Rattle.pop_leaf.proofs.Silent.{same-self}
use Rattle.pop_leaf.specs.Hushed.{is_kept, hush, hush_unless, hushed_moves, hushed}
use Rattle.pop_leaf.specs.Laws.{IsKeptMove}
use Rattle.pop_leaf.proofs.Kept.{kept_listed, listed_kept}

pub hush_silent : (t : Move) → silent_move (hush t) ≡ true
hush_silent t = same-self t.p t.q

pub hushed_length : (kept : List ℕ) (n : ℕ) (moves : List Move) → length (hushed_moves kept n moves) ≡ length moves
hushed_length kept n [] = refl
hushed_length kept n (t ∷ moves) = ap suc (hushed_length kept (n + 1) moves)

-- the move at a place
pub hushed_at : (kept : List ℕ) (n : ℕ) (moves : List Move) (i : ℕ) (t : Move) → slice_get moves i ≡ Some t → slice_get (hushed_moves kept n moves) i ≡ Some (hush_unless (is_kept kept (n + i)) t)
hushed_at kept n [] i t h = cc
hushed_at kept n (u ∷ moves) zero t h =
    let same : u ≡ t = cc in
    let place : n ≡ n + 0 = omega arith in
    ap Some (ap (hush_unless (is_kept kept n)) same ∙ ap (λ k. hush_unless (is_kept kept k) t) place)
hushed_at kept n (u ∷ moves) (suc i) t h =
    hushed_at kept (n + 1) moves i t h ∙ ap (λ k. Some (hush_unless (is_kept kept k) t)) (let z : (n + 1) + i ≡ n + suc i = omega arith in z)

loud_kept : (keep : Bool) (u t : Move) → hush_unless keep u ≡ t → silent_move t ≡ false → (u ≡ t) × (keep ≡ true)
loud_kept true u t e loud = (e, refl)
loud_kept false u t e loud =
    absurd (false≢true (sym loud ∙ ap silent_move (sym e) ∙ hush_silent u))

-- a move that isn't silent is kept
pub loud_at : (kept : List ℕ) (n : ℕ) (moves : List Move) (i : ℕ) (t : Move) → slice_get (hushed_moves kept n moves) i ≡ Some t → silent_move t ≡ false → (slice_get moves i ≡ Some t) × (is_kept kept (n + i) ≡ true)
loud_at kept n [] i t h loud = cc
loud_at kept n (u ∷ moves) zero t h loud =
    let same : hush_unless (is_kept kept n) u ≡ t = cc in
    let f = loud_kept (is_kept kept n) u t same loud in
    (ap Some f.0, ap (is_kept kept) (let z : n + 0 ≡ n = omega arith in z) ∙ f.1)
loud_at kept n (u ∷ moves) (suc i) t h loud =
    let f = loud_at kept (n + 1) moves i t h loud in
    (f.0, ap (is_kept kept) (let z : n + suc i ≡ (n + 1) + i = omega arith in z) ∙ f.1)

below_at : (m : ℕ) (keep : Bool) (t : Move) → IsMoveBelow m t → IsMoveBelow m (hush_unless keep t)
below_at m true t h = h
below_at m false t h = (h.0, h.1, h.0, h.1)

hushed_below : (kept : List ℕ) (n m : ℕ) (moves : List Move) → All (IsMoveBelow m) moves → All (IsMoveBelow m) (hushed_moves kept n moves)
hushed_below kept n m [] all = All-nil (IsMoveBelow m)
hushed_below kept n m (t ∷ moves) all =
    All-cons (IsMoveBelow m) (hush_unless (is_kept kept n) t) (hushed_moves kept (n + 1) moves) (below_at m (is_kept kept n) t (All-head (IsMoveBelow m) t moves all)) (hushed_below kept (n + 1) m moves (All-tail (IsMoveBelow m) t moves all))

pub hushed_formed : (leaf : LeafModel) (kept : List ℕ) → IsLeaf leaf → IsLeaf (hushed leaf kept)
hushed_formed leaf kept is = record {
  names = is.names;
  some_state = is.some_state;
  states = is.states;
  move_count = (let same = hushed_length kept 0 leaf.moves in let few = is.move_count in omega (arith, same, few));
  moves = hushed_below kept 0 (length leaf.states) leaf.moves is.moves;
  some_input = is.some_input;
  input_count = is.input_count;
  inputs = is.inputs;
  outputs = is.outputs;
  helper_count = is.helper_count;
  helpers = is.helpers;
}

pub hushed_move : (leaf : LeafModel) (kept : List ℕ) (number : ℕ) (t : Move) → slice_get (hushed leaf kept).moves number ≡ Some t → silent_move t ≡ false → IsKeptMove leaf kept number t
hushed_move leaf kept number t h loud =
    let f = loud_at kept 0 leaf.moves number t h loud in
    record {
      kept_is = kept_listed kept number (ap (is_kept kept) (let z : number ≡ 0 + number = omega arith in z) ∙ f.1);
      move_is = f.0;
      non_silent = loud;
    }

pub kept_move : (leaf : LeafModel) (kept : List ℕ) (number : ℕ) (t : Move) → IsKeptMove leaf kept number t → (slice_get (hushed leaf kept).moves number ≡ Some t) × (silent_move t ≡ false)
kept_move leaf kept number t m =
    let is = ap (is_kept kept) (let z : 0 + number ≡ number = omega arith in z) ∙ listed_kept kept number m.kept_is in
    (hushed_at kept 0 leaf.moves number t m.move_is ∙ ap (λ b. Some (hush_unless b t)) is, m.non_silent)

-- a move that isn't kept is silent
pub other_move : (leaf : LeafModel) (kept : List ℕ) (number : ℕ) (t : Move) → slice_get leaf.moves number ≡ Some t → is_kept kept number ≡ false → slice_get (hushed leaf kept).moves number ≡ Some (hush t)
other_move leaf kept number t h none =
    let is = ap (is_kept kept) (let z : 0 + number ≡ number = omega arith in z) ∙ none in
    hushed_at kept 0 leaf.moves number t h ∙ ap (λ b. Some (hush_unless b t)) is

-- if all are kept, nothing is silenced
all_kept : (kept : List ℕ) (n : ℕ) (moves : List Move) → ((i : ℕ) → i < length moves → Contains kept (n + i)) → hushed_moves kept n moves ≡ moves
all_kept kept n [] all = refl
all_kept kept n (t ∷ moves) all =
    let first = listed_kept kept n (subst (λ k. Contains kept k) (let z : n + 0 ≡ n = omega arith in z) (all 0 (omega arith))) in
    ap (λ b. hush_unless b t ∷ hushed_moves kept (n + 1) moves) first
    ∙ ap (λ ms. t ∷ ms) (all_kept kept (n + 1) moves (λ i l. subst (λ k. Contains kept k) (let z : n + suc i ≡ (n + 1) + i = omega arith in z) (all (suc i) (omega (arith, l)))))

pub hushed_all : (leaf : LeafModel) (kept : List ℕ) → ((number : ℕ) → number < length leaf.moves → Contains kept number) → hushed leaf kept ≡ leaf
hushed_all leaf kept all =
    ap (λ ms. record { states = leaf.states; moves = ms; inputs = leaf.inputs; outputs = leaf.outputs; helpers = leaf.helpers })
    (all_kept kept 0 leaf.moves (λ i l. subst (λ k. Contains kept k) (let z : i ≡ 0 + i = omega arith in z) (all i l)))
