-- The pairs of states that react, move by move.
use Rattle.std.proofs.Common.{◌≡◌, ℕ, zero, suc, ◌+◌, ◌<◌, Bool, true, false, List, [], ◌∷◌, ◌++◌, length, take, refl, ap, sym, ◌∙◌}
use Rattle.std.specs.Prelude.{Some, All, if◌then◌else◌, slice_get}
use Rattle.std.proofs.lemmas.List.{take_more}
use Rattle.std.proofs.lemmas.List.Elements.{All-nil, All-cons, All-head, All-tail}
use Rattle.std.proofs.lemmas.Option.{get_or_from_slice_get}
use Rattle.pop_leaf.specs.declared.leaf.Move.{Move}
use Rattle.pop_leaf.specs.LeafModel.{silent_move, IsMoveBelow}
use Rattle.terminal_test.specs.Loud.{pairs_of_moves, ArePairsBelow}

pub pairs_of-append : (xs ys : List Move) → pairs_of_moves (xs ++ ys) ≡ pairs_of_moves xs ++ pairs_of_moves ys
pairs_of-append [] ys = refl
pairs_of-append (t ∷ xs) ys = go (silent_move t) (pairs_of-append xs ys)
  where
    go : (b : Bool) → pairs_of_moves (xs ++ ys) ≡ pairs_of_moves xs ++ pairs_of_moves ys → (if b then pairs_of_moves (xs ++ ys) else (t.p, t.q) ∷ pairs_of_moves (xs ++ ys)) ≡ (if b then pairs_of_moves xs else (t.p, t.q) ∷ pairs_of_moves xs) ++ pairs_of_moves ys
    go true rest = rest
    go false rest = ap (λ zs. (t.p, t.q) ∷ zs) rest

-- one more move
pub loud_more : (moves : List Move) (t : Move) (k : ℕ) (old new : List (ℕ × ℕ)) → k < length moves → slice_get moves k ≡ Some t → old ≡ pairs_of_moves (take k moves) → new ≡ old ++ pairs_of_moves (t ∷ []) → new ≡ pairs_of_moves (take (k + 1) moves)
loud_more moves t k old new l is before e =
    e ∙ ap (λ xs. xs ++ pairs_of_moves (t ∷ [])) before
    ∙ sym (pairs_of-append (take k moves) (t ∷ []))
    ∙ ap (λ u. pairs_of_moves (take k moves ++ u ∷ [])) (sym (get_or_from_slice_get moves k t t is))
    ∙ ap pairs_of_moves (sym (take_more moves k t l))

pub pairs_below : (n : ℕ) (moves : List Move) → All (IsMoveBelow n) moves → ArePairsBelow n (pairs_of_moves moves)
pairs_below n [] h = All-nil (λ (z : ℕ × ℕ). (z.0 < n) × (z.1 < n))
pairs_below n (t ∷ moves) h = go (silent_move t) (pairs_below n moves (All-tail (IsMoveBelow n) t moves h))
  where
    here : IsMoveBelow n t
    here = All-head (IsMoveBelow n) t moves h

    go : (b : Bool) → ArePairsBelow n (pairs_of_moves moves) → ArePairsBelow n (if b then pairs_of_moves moves else (t.p, t.q) ∷ pairs_of_moves moves)
    go true rest = rest
    go false rest = All-cons (λ (z : ℕ × ℕ). (z.0 < n) × (z.1 < n)) (t.p, t.q) (pairs_of_moves moves) (here.0, here.1) rest

-- the pair of a non-silent move is listed
pub in_pairs : (moves : List Move) (i : ℕ) (t : Move) → slice_get moves i ≡ Some t → silent_move t ≡ false → (j : ℕ) × (slice_get (pairs_of_moves moves) j ≡ Some (t.p, t.q))
in_pairs [] i t h e = cc
in_pairs (u ∷ moves) zero t h e =
    let same : u ≡ t = cc in
    (0, ap (λ b. slice_get (if b then pairs_of_moves moves else (u.p, u.q) ∷ pairs_of_moves moves) 0) (ap silent_move same ∙ e) ∙ ap (λ (m : Move). Some (m.p, m.q)) same)
in_pairs (u ∷ moves) (suc i) t h e = go (silent_move u) (in_pairs moves i t h e)
  where
    go : (b : Bool) → (j : ℕ) × (slice_get (pairs_of_moves moves) j ≡ Some (t.p, t.q)) → (j : ℕ) × (slice_get (if b then pairs_of_moves moves else (u.p, u.q) ∷ pairs_of_moves moves) j ≡ Some (t.p, t.q))
    go true later = later
    go false later = (suc later.0, later.1)
