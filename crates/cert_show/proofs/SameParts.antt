-- Parts of a proof with the same lines are the same, but for trees and the numbers of moves.
use Rattle.std.proofs.Common.{◌≡◌, ℕ, suc, ◌+◌, ◌<◌, ◌^◌, Bool, true, false, List, [], ◌∷◌, ◌++◌, length, get_or, map, codes, decimal, ℤ, pos, negsuc, All, Option, Some, refl, sym, ap, ◌∙◌, subst, append_assoc, arith}
use Rattle.std.specs.Prelude.{slice_get}
use Rattle.std.specs.List.{range_with_len, flat_map}
use Rattle.std.specs.Fmt.{signed_decimal}
use Rattle.std.proofs.lemmas.Fmt.{signed_decimal_injective}
use Rattle.std.proofs.lemmas.List.{append_cancel_left}
use Rattle.std.proofs.lemmas.List.Elements.{All-head, All-tail, All-get_or}
use lib.Signed.{mag}
use Rattle.pop_leaf.specs.LeafModel.{LeafModel, IsLeaf, IsMoveBelow}
use Rattle.cert_base.specs.declared.layer.Layer.{Layer}
use Rattle.cert_base.specs.declared.proof.Goal.{Goal}
use Rattle.cert_base.specs.declared.stable.StablePart.{StablePart}
use Rattle.cert_base.specs.declared.stable.StablePart.TheVariants.{Silent, Stable}
use Rattle.cert_show.specs.Lines.{below, each, spaced, named, name_at, move_text}
use Rattle.cert_show.specs.LeafLines.{listed_line, weight_text, layer_lines, all_layer_lines, set_line, goal_title, goal_lines, part_lines}
use Rattle.cert_show.specs.Showable.{IsLayerOf, IsSetOf, IsGoalOf, AreOfLeaf}
use Rattle.cert_show.specs.TextTells.{IsWeight, HasWeights, AreWeighted, move_with, layer_seen, goal_seen, own_seen}
use Rattle.cert_show.proofs.Spans.{Stops}
use Rattle.cert_show.proofs.Quoted.{signed_keeps}
use Rattle.cert_show.proofs.Words.{same_values, same_items, placed, same_named}
use Rattle.cert_show.proofs.LinesTell.{same_move}
use Rattle.cert_show.proofs.SameLeaf.{begins, cut_kind, same_listed}

-- ---- blocks of lines, numbered

abbrev pub from : {A L : Type 0} → (ℕ → Option A → List L) → ℕ → List A → List L
from lines k [] = []
from lines k (x ∷ xs) = lines k (Some x) ++ from lines (k + 1) xs

pub from_place : {A L : Type 0} (lines : ℕ → Option A → List L) (at : ℕ → Option A) (xs : List A) (k : ℕ) → ((i : ℕ) → at (k + i) ≡ slice_get xs i)
    → flat_map (λ i. lines i (at i)) (range_with_len k (length xs)) ≡ from lines k xs
from_place lines at [] k is = refl
from_place lines at (x ∷ xs) k is =
    let here : k ≡ k + 0 = omega arith in
    let first : at k ≡ Some x = ap at here ∙ is 0 in
    let next : (i : ℕ) → at (k + 1 + i) ≡ slice_get xs i = λ i. let e : k + 1 + i ≡ k + suc i = omega arith in ap at e ∙ is (suc i) in
    ap (λ r. lines k r ++ flat_map (λ i. lines i (at i)) (range_with_len (k + 1) (length xs))) first
    ∙ ap (λ l. lines k (Some x) ++ l) (from_place lines at xs (k + 1) next)

abbrev pub IsNext : List (List ℕ) → Type 0
IsNext t = Stops (begins 108 97) t × Stops (begins 108 105) t × Stops (begins 115 101) t × Stops (begins 103 111) t × Stops (begins 109 111) t

mag_small : (z : ℤ) → IsWeight z → mag z < 2 ^ 63
mag_small (pos n) h = omega (arith, h)
mag_small (negsuc n) h = omega (arith, h)

module _ (leaf : LeafModel) (is : IsLeaf leaf) where
  abbrev lines : ℕ → Option Layer → List (List ℕ)
  lines = layer_lines leaf

  listed_below : (number : ℕ) → number < length leaf.moves → IsMoveBelow (length leaf.states) (move_with leaf number)
  listed_below number less = All-get_or (IsMoveBelow (length leaf.states)) leaf.moves number (record { p = 0; q = 0; r = 0; s = 0 }) less is.moves

  listed_same : (xs ys : List ℕ) → All (λ number. number < length leaf.moves) xs → All (λ number. number < length leaf.moves) ys
      → map (listed_line leaf) xs ≡ map (listed_line leaf) ys → map (move_with leaf) xs ≡ map (move_with leaf) ys
  listed_same xs ys p q e =
      same_values (listed_line leaf) (listed_line leaf) (move_with leaf) (move_with leaf) (λ number. number < length leaf.moves) (λ number. number < length leaf.moves)
      (λ x y xl yl same.
      same_move leaf.states is.names (move_with leaf x) (move_with leaf y) (listed_below x xl) (listed_below y yl)
      (append_cancel_left (codes "lists ") (move_text leaf.states (move_with leaf x)) (move_text leaf.states (move_with leaf y)) same))
      xs ys p q e

  weights_same : (v w : List ℤ) → length v ≡ length leaf.states → length w ≡ length leaf.states → All IsWeight v → All IsWeight w
      → each (length leaf.states) (λ q. spaced (named (name_at leaf.states q) (signed_decimal (get_or v q (pos 0)))))
      ≡ each (length leaf.states) (λ q. spaced (named (name_at leaf.states q) (signed_decimal (get_or w q (pos 0))))) → v ≡ w
  weights_same v w one other p q e =
      let f : ℕ → List ℕ = λ q. signed_decimal (get_or v q (pos 0)) in
      let g : ℕ → List ℕ = λ q. signed_decimal (get_or w q (pos 0)) in
      let texts : map f (below (length leaf.states)) ≡ map g (below (length leaf.states)) =
      same_named (name_at leaf.states) f g (λ q. signed_keeps 32 (omega arith) (get_or v q (pos 0))) (λ q. signed_keeps 32 (omega arith) (get_or w q (pos 0))) (below (length leaf.states)) e in
      same_items signed_decimal signed_decimal IsWeight IsWeight (λ x y xs ys same. signed_decimal_injective x y (mag_small x xs) (mag_small y ys) same) v w p q
      (sym (placed signed_decimal v (pos 0)) ∙ ap (λ (n : ℕ). map f (below n)) one ∙ texts ∙ ap (λ (n : ℕ). map g (below n)) (sym other) ∙ placed signed_decimal w (pos 0))

  -- behind the layers comes what comes behind them, or a layer
  layers_stop : (test : List ℕ → Bool) → ((k : ℕ) → test (codes "layer " ++ decimal k) ≡ false) → (k : ℕ) (xs : List Layer) (t : List (List ℕ)) → Stops test t → Stops test (from lines k xs ++ t)
  layers_stop test none k [] t stop = stop
  layers_stop test none k (x ∷ xs) t stop = none k

  pub layers_same : (k : ℕ) (xs ys : List Layer) → All (IsLayerOf leaf) xs → All (IsLayerOf leaf) ys → All HasWeights xs → All HasWeights ys
      → (t u : List (List ℕ)) → Stops (begins 108 97) t → Stops (begins 108 105) t → Stops (begins 108 97) u → Stops (begins 108 105) u
      → from lines k xs ++ t ≡ from lines k ys ++ u → (map (layer_seen leaf) xs ≡ map (layer_seen leaf) ys) × (t ≡ u)
  layers_same k [] [] p q v w t u st lt su lu e = (refl, e)
  layers_same k [] (y ∷ ys) p q v w t u st lt su lu e =
      let none : begins 108 97 (codes "layer " ++ decimal k) ≡ false = subst (Stops (begins 108 97)) e st in absurd (cc none)
  layers_same k (x ∷ xs) [] p q v w t u st lt su lu e =
      let none : begins 108 97 (codes "layer " ++ decimal k) ≡ false = subst (Stops (begins 108 97)) (sym e) su in absurd (cc none)
  layers_same k (x ∷ xs) (y ∷ ys) p q v w t u st lt su lu e =
      let one = All-head (IsLayerOf leaf) x xs p in
      let other = All-head (IsLayerOf leaf) y ys q in
      let moves = λ (layer : Layer). map (listed_line leaf) layer.moves in
      let f = from lines (k + 1) xs in
      let g = from lines (k + 1) ys in
      let line : codes "weights" ++ each (length leaf.states) (λ q. spaced (weight_text leaf x q)) ≡ codes "weights" ++ each (length leaf.states) (λ q. spaced (weight_text leaf y q)) = cc e in
      let tail : (moves x ++ f) ++ t ≡ (moves y ++ g) ++ u = cc e in
      let both = cut_kind (begins 108 105) (listed_line leaf) (listed_line leaf) (λ n. refl) (λ n. refl) x.moves y.moves (f ++ t) (g ++ u)
      (layers_stop (begins 108 105) (λ k. refl) (k + 1) xs t lt) (layers_stop (begins 108 105) (λ k. refl) (k + 1) ys u lu)
      (sym (append_assoc (moves x) f t) ∙ tail ∙ append_assoc (moves y) g u) in
      let weights = weights_same x.weights y.weights one.weights other.weights (All-head HasWeights x xs v) (All-head HasWeights y ys w) (append_cancel_left (codes "weights") _ _ line) in
      let listed = listed_same x.moves y.moves one.moves other.moves both.0 in
      let more = layers_same (k + 1) xs ys (All-tail (IsLayerOf leaf) x xs p) (All-tail (IsLayerOf leaf) y ys q) (All-tail HasWeights x xs v) (All-tail HasWeights y ys w) t u st lt su lu both.1 in
      let head : layer_seen leaf x ≡ layer_seen leaf y = cc (weights, listed) in
      let rest = more.0 in
      (cc (head, rest), more.1)

  all_from : (layers : List Layer) → all_layer_lines leaf layers ≡ from lines 0 layers
  all_from layers = from_place lines (slice_get layers) layers 0 (λ i. let e : 0 + i ≡ i = omega arith in ap (slice_get layers) e)

  sets_stop : (test : List ℕ → Bool) → ((set : List ℕ) → test (set_line leaf set) ≡ false) → (xs : List (List ℕ)) (t : List (List ℕ)) → Stops test t → Stops test (map (set_line leaf) xs ++ t)
  sets_stop test none [] t stop = stop
  sets_stop test none (x ∷ xs) t stop = none x

  sets_same : (xs ys : List (List ℕ)) → All (IsSetOf leaf) xs → All (IsSetOf leaf) ys → map (set_line leaf) xs ≡ map (set_line leaf) ys → xs ≡ ys
  sets_same xs ys p q e =
      same_items (set_line leaf) (set_line leaf) (IsSetOf leaf) (IsSetOf leaf)
      (λ x y xl yl same. same_listed leaf.states is.names leaf.states refl x y xl yl (append_cancel_left (codes "set") _ _ same)) xs ys p q e

  goal_flat : (value : Bool) (g : Goal) (t : List (List ℕ)) → goal_lines leaf value g ++ t ≡ goal_title value ∷ (from lines 0 g.layers ++ (map (set_line leaf) g.sets ++ t))
  goal_flat value g t =
      ap (λ (l : List (List ℕ)). goal_title value ∷ l)
      (append_assoc (all_layer_lines leaf g.layers) (map (set_line leaf) g.sets) t ∙ ap (λ (l : List (List ℕ)). l ++ (map (set_line leaf) g.sets ++ t)) (all_from g.layers))

  goals_same : (value : Bool) (g h : Goal) → IsGoalOf leaf g → IsGoalOf leaf h → All HasWeights g.layers → All HasWeights h.layers
      → (t u : List (List ℕ)) → Stops (begins 108 97) t → Stops (begins 108 105) t → Stops (begins 115 101) t
      → Stops (begins 108 97) u → Stops (begins 108 105) u → Stops (begins 115 101) u
      → goal_lines leaf value g ++ t ≡ goal_lines leaf value h ++ u → (goal_seen leaf g ≡ goal_seen leaf h) × (t ≡ u)
  goals_same value g h p q v w t u at lt et au lu eu e =
      let flat : goal_title value ∷ (from lines 0 g.layers ++ (map (set_line leaf) g.sets ++ t)) ≡ goal_title value ∷ (from lines 0 h.layers ++ (map (set_line leaf) h.sets ++ u)) =
      sym (goal_flat value g t) ∙ e ∙ goal_flat value h u in
      let tail : from lines 0 g.layers ++ (map (set_line leaf) g.sets ++ t) ≡ from lines 0 h.layers ++ (map (set_line leaf) h.sets ++ u) = cc flat in
      let first = layers_same 0 g.layers h.layers p.layers q.layers v w (map (set_line leaf) g.sets ++ t) (map (set_line leaf) h.sets ++ u)
      (sets_stop (begins 108 97) (λ x. refl) g.sets t at) (sets_stop (begins 108 105) (λ x. refl) g.sets t lt)
      (sets_stop (begins 108 97) (λ x. refl) h.sets u au) (sets_stop (begins 108 105) (λ x. refl) h.sets u lu) tail in
      let second = cut_kind (begins 115 101) (set_line leaf) (set_line leaf) (λ x. refl) (λ x. refl) g.sets h.sets t u et eu first.1 in
      let layers = first.0 in
      let sets = sets_same g.sets h.sets p.sets q.sets second.0 in
      (cc (layers, sets), second.1)

  silent_never : (layers : List Layer) (title : List ℕ) (t more : List (List ℕ)) → begins 103 111 title ≡ true → Stops (begins 103 111) t → from lines 0 layers ++ t ≡ title ∷ more → ⊥
  silent_never layers title t more goal stop e =
      let none : begins 103 111 title ≡ false = subst (Stops (begins 103 111)) e (layers_stop (begins 103 111) (λ k. refl) 0 layers t stop) in absurd (cc (goal, none))

  -- a leaf's own part
  pub part_same : (a b : StablePart) → AreOfLeaf leaf a → AreOfLeaf leaf b → AreWeighted a → AreWeighted b → (t u : List (List ℕ)) → IsNext t → IsNext u
      → part_lines leaf a ++ t ≡ part_lines leaf b ++ u → (own_seen leaf a ≡ own_seen leaf b) × (t ≡ u)
  part_same (Silent a) (Silent b) p q v w t u s r e =
      let both = layers_same 0 a.layers b.layers p q v w t u s.0 s.1 r.0 r.1
      (ap (λ (l : List (List ℕ)). l ++ t) (sym (all_from a.layers)) ∙ e ∙ ap (λ (l : List (List ℕ)). l ++ u) (all_from b.layers)) in
      let seen = both.0 in
      (cc seen, both.1)
  part_same (Silent a) (Stable b) p q v w t u s r e =
      absurd (silent_never a.layers (goal_title true) t _ refl s.3 (ap (λ (l : List (List ℕ)). l ++ t) (sym (all_from a.layers)) ∙ e))
  part_same (Stable a) (Silent b) p q v w t u s r e =
      absurd (silent_never b.layers (goal_title true) u _ refl r.3 (ap (λ (l : List (List ℕ)). l ++ u) (sym (all_from b.layers)) ∙ sym e))
  part_same (Stable a) (Stable b) p q v w t u s r e =
      let at = goal_lines leaf true a.on_true in
      let af = goal_lines leaf false a.on_false in
      let bt = goal_lines leaf true b.on_true in
      let bf = goal_lines leaf false b.on_false in
      let first = goals_same true a.on_true b.on_true p.0 q.0 v.0 w.0 (af ++ t) (bf ++ u) refl refl refl refl refl refl
      (sym (append_assoc at af t) ∙ e ∙ append_assoc bt bf u) in
      let second = goals_same false a.on_false b.on_false p.1 q.1 v.1 w.1 t u s.0 s.1 s.2 r.0 r.1 r.2 first.1 in
      let on_true = first.0 in
      let on_false = second.0 in
      (cc (on_true, on_false), second.1)

  -- no move comes behind the moves
  pub part_stops : (part : StablePart) (t : List (List ℕ)) → Stops (begins 109 111) t → Stops (begins 109 111) (part_lines leaf part ++ t)
  part_stops (Silent part) t stop =
      subst (λ (l : List (List ℕ)). Stops (begins 109 111) (l ++ t)) (sym (all_from part.layers)) (layers_stop (begins 109 111) (λ k. refl) 0 part.layers t stop)
  part_stops (Stable goals) t stop = refl
