-- The majority protocol has a valid proof, so it computes its predicate.
use Rattle.std.proofs.Common.{◌≡◌, ◌≢◌, ◌⊎◌, inl, inr, ℕ, zero, suc, ◌+◌, ◌<◌, ◌≤◌, true, false, List, [], ◌∷◌, ◌-◌, length, refl, ap, sym, subst, arith}
use Rattle.std.specs.Prelude.{ℤ, pos, negsuc, nat_abs, Some, slice_get, All, AllPairs, Contains}
use Rattle.std.proofs.lemmas.Int.{ints}
use Rattle.std.proofs.lemmas.List.Elements.{All-nil, All-cons}
use Rattle.std.proofs.lemmas.List.Kept.{AllPairs-cons}
use Rattle.std.proofs.lemmas.Bool.{ne_eqb}
use Rattle.std.proofs.lemmas.Option.{same_Some}
use Rattle.pres_ast.specs.declared.limits.TheConstants.{COEFFICIENT_LIMIT}
use Rattle.pres_ast.specs.PredModel.{PredModel, HasAtoms}
use Rattle.pop_leaf.specs.declared.leaf.Move.{Move}
use Rattle.pop_leaf.specs.LeafModel.{LeafModel, IsLeaf, one_at, pre, post, silent_move}
use Rattle.pop_leaf.specs.NetModel.{IsNet}
use Rattle.pop_leaf.proofs.LeafFaults.{unbroken_leaf}
use Rattle.pop_net.proofs.NetFaults.{unbroken_net}
use Rattle.cert_base.specs.declared.fact.Term.{Term}
use Rattle.cert_base.specs.declared.layer.Layer.{Layer}
use Rattle.cert_base.specs.declared.node.Node.{Node}
use Rattle.cert_base.specs.declared.node.Node.TheVariants.{Linear, Present, Trap, Open}
use Rattle.cert_base.specs.declared.proof.LeafProof.{LeafProof}
use Rattle.cert_base.specs.declared.proof.Proof.{Proof}
use Rattle.cert_base.specs.ValidLayers.{moves_of_layers, IsLower, IsInLayer, IsEnabledBefore, ValidLayers}
use Rattle.cert_base.specs.ValidProof.{ValidLeafProof, ValidProof}
use Rattle.cert_tree.proofs.ClosedWalk.{unrefused-Closes}
use Rattle.pop_net.specs.ExampleNets.{move, majority_leaf, majority}
use Rattle.pop_checker.specs.Majority.{more_of_x, MajorityComputes}
use Rattle.pop_checker.specs.Sound.{ArePreds}
use Rattle.pop_checker.proofs.RightEnds.{sound}

-- ---- the proof

abbrev term : ℕ → ℤ → Term
term at by = record { at = at; by = by }

abbrev pred : PredModel
pred = record { variables = 2; tree = more_of_x }

abbrev strong : Layer
strong = record { moves = 0 ∷ 1 ∷ []; weights = pos 1 ∷ pos 1 ∷ pos 0 ∷ pos 1 ∷ [] }

abbrev weak : Layer
weak = record { moves = 2 ∷ 3 ∷ []; weights = pos 0 ∷ pos 0 ∷ pos 1 ∷ pos 0 ∷ [] }

abbrev layers : List Layer
layers = strong ∷ weak ∷ []

abbrev on_true : List Node
on_true =
    Open 5 ∷ Present 0
    ∷ Linear (term 0 (negsuc 0) ∷ term 1 (pos 1) ∷ term 7 (pos 1) ∷ term 8 (negsuc 0) ∷ [])
    ∷ Linear (term 6 (pos 1) ∷ term 9 (negsuc 0) ∷ term 10 (negsuc 0) ∷ [])
    ∷ []

abbrev on_false : List Node
on_false =
    Open 5 ∷ Present 0 ∷ Present 2
    ∷ Linear (term 6 (pos 1) ∷ term 8 (negsuc 0) ∷ term 9 (negsuc 0) ∷ [])
    ∷ Trap (0 ∷ 3 ∷ [])
    ∷ Linear (term 12 (pos 1) ∷ [])
    ∷ Linear (term 2 (pos 1) ∷ term 9 (pos 1) ∷ term 12 (negsuc 0) ∷ term 13 (negsuc 0) ∷ [])
    ∷ Linear (term 8 (negsuc 0) ∷ term 11 (negsuc 0) ∷ term 12 (pos 1) ∷ [])
    ∷ Linear (term 0 (pos 1) ∷ term 1 (negsuc 0) ∷ term 7 (pos 1) ∷ term 8 (pos 1) ∷ term 9 (negsuc 0) ∷ [])
    ∷ []

abbrev part : LeafProof
part = record { pred = pred; layers = layers; on_true = on_true; on_false = on_false }

abbrev proof : Proof
proof = record { leaves = part ∷ [] }

-- ---- the layers

-- a list of two numbers has no others
one_of_two : (a b number : ℕ) → Contains (a ∷ b ∷ []) number → (number ≡ a) ⊎ (number ≡ b)
one_of_two a b number (zero, l, e) = inl (sym e)
one_of_two a b number (suc zero, l, e) = inr (sym e)
one_of_two a b number (suc (suc k), l, e) = absurd (omega arith)

-- what holds for a layer's moves holds for its only two
module _ (P : Move → Type 0) (a b : ℕ) (layer : Layer) (has : layer.moves ≡ a ∷ b ∷ []) where
  of_layer : (t : Move) (number : ℕ) → Contains layer.moves number → slice_get majority_leaf.moves number ≡ Some t
      → ((u : Move) → slice_get majority_leaf.moves a ≡ Some u → P u) → ((u : Move) → slice_get majority_leaf.moves b ≡ Some u → P u) → P t
  of_layer t number c m first second = elim (one_of_two a b number (subst (λ (ns : List ℕ). Contains ns number) has c)) [
    | inl e ↦ first t (rw (← e) m)
    | inr e ↦ second t (rw (← e) m)
  ]

all_listed : (number : ℕ) (t : Move) → slice_get majority_leaf.moves number ≡ Some t → silent_move t ≡ false → Contains (moves_of_layers layers) number
all_listed zero t h loud = (0, omega arith, refl)
all_listed (suc zero) t h loud = (1, omega arith, refl)
all_listed (suc (suc zero)) t h loud = (2, omega arith, refl)
all_listed (suc (suc (suc zero))) t h loud = (3, omega arith, refl)
all_listed (suc (suc (suc (suc number)))) t h loud = cc

strong_lower : (t : Move) (number : ℕ) → Contains strong.moves number → slice_get majority_leaf.moves number ≡ Some t → IsLower strong.weights t
strong_lower t number c m =
    of_layer (IsLower strong.weights) 0 1 strong refl t number c m
    (λ u h. subst (IsLower strong.weights) (same_Some _ _ h) (omega (arith, ints)))
    (λ u h. subst (IsLower strong.weights) (same_Some _ _ h) (omega (arith, ints)))

weak_lower : (t : Move) (number : ℕ) → Contains weak.moves number → slice_get majority_leaf.moves number ≡ Some t → IsLower weak.weights t
weak_lower t number c m =
    of_layer (IsLower weak.weights) 2 3 weak refl t number c m
    (λ u h. subst (IsLower weak.weights) (same_Some _ _ h) (omega (arith, ints)))
    (λ u h. subst (IsLower weak.weights) (same_Some _ _ h) (omega (arith, ints)))

all_lower : (i : ℕ) (t : Move) (at : IsInLayer majority_leaf layers i t) → IsLower at.layer.weights t
all_lower zero t at =
    let same : strong ≡ at.layer = same_Some _ _ at.layer_is in
    subst (λ (l : Layer). Contains l.moves at.number → IsLower l.weights t) same (λ c. strong_lower t at.number c at.move_is) at.lists
all_lower (suc zero) t at =
    let same : weak ≡ at.layer = same_Some _ _ at.layer_is in
    subst (λ (l : Layer). Contains l.moves at.number → IsLower l.weights t) same (λ c. weak_lower t at.number c at.move_is) at.lists
all_lower (suc (suc i)) t at = let none = at.layer_is in cc

first_strong : IsInLayer majority_leaf layers 0 (move 0 1 2 3)
first_strong = record { layer = strong; number = 0; layer_is = refl; lists = (0, omega arith, refl); move_is = refl; non_silent = refl }

second_strong : IsInLayer majority_leaf layers 0 (move 0 3 0 2)
second_strong = record { layer = strong; number = 1; layer_is = refl; lists = (1, omega arith, refl); move_is = refl; non_silent = refl }

-- what a weak move t wakes: for each strong move u, one was enabled before it
abbrev Sleeps : Move → Move → Type 0
Sleeps t u = (k : ℕ) × (u' : Move) × (k < 1) × IsInLayer majority_leaf layers k u' × IsEnabledBefore u' t u

each_state : (P : ℕ → Type 0) → P 0 → P 1 → P 2 → P 3 → ((z : ℕ) → P (suc (suc (suc (suc z))))) → (z : ℕ) → P z
each_state P a b c d more zero = a
each_state P a b c d more (suc zero) = b
each_state P a b c d more (suc (suc zero)) = c
each_state P a b c d more (suc (suc (suc zero))) = d
each_state P a b c d more (suc (suc (suc (suc z)))) = more z

far : (q n : ℕ) → q < n → one_at q n ≡ 0
far q n l = let other = ne_eqb q n (λ e. omega arith) in rw other refl

-- no move takes a number past the states
past : (u : Move) (rest z : ℕ) → u.p < 4 → u.q < 4 → pre u (suc (suc (suc (suc z)))) ≤ rest
past u rest z l m = omega (arith, far u.p (suc (suc (suc (suc z)))) (omega arith), far u.q (suc (suc (suc (suc z)))) (omega arith))

third_first : Sleeps (move 1 2 1 3) (move 0 1 2 3)
third_first = (0, move 0 1 2 3, omega arith, first_strong, each_state (λ z. pre (move 0 1 2 3) z ≤ pre (move 1 2 1 3) z + (pre (move 0 1 2 3) z - post (move 1 2 1 3) z)) (omega arith) (omega arith) (omega arith) (omega arith) (λ z. past (move 0 1 2 3) _ z (omega arith) (omega arith)))

third_second : Sleeps (move 1 2 1 3) (move 0 3 0 2)
third_second = (0, move 0 1 2 3, omega arith, first_strong, each_state (λ z. pre (move 0 1 2 3) z ≤ pre (move 1 2 1 3) z + (pre (move 0 3 0 2) z - post (move 1 2 1 3) z)) (omega arith) (omega arith) (omega arith) (omega arith) (λ z. past (move 0 1 2 3) _ z (omega arith) (omega arith)))

fourth_first : Sleeps (move 3 2 3 3) (move 0 1 2 3)
fourth_first = (0, move 0 1 2 3, omega arith, first_strong, each_state (λ z. pre (move 0 1 2 3) z ≤ pre (move 3 2 3 3) z + (pre (move 0 1 2 3) z - post (move 3 2 3 3) z)) (omega arith) (omega arith) (omega arith) (omega arith) (λ z. past (move 0 1 2 3) _ z (omega arith) (omega arith)))

fourth_second : Sleeps (move 3 2 3 3) (move 0 3 0 2)
fourth_second = (0, move 0 3 0 2, omega arith, second_strong, each_state (λ z. pre (move 0 3 0 2) z ≤ pre (move 3 2 3 3) z + (pre (move 0 3 0 2) z - post (move 3 2 3 3) z)) (omega arith) (omega arith) (omega arith) (omega arith) (λ z. past (move 0 3 0 2) _ z (omega arith) (omega arith)))

in_strong : (P : Move → Type 0) (u : Move) → IsInLayer majority_leaf layers 0 u → P (move 0 1 2 3) → P (move 0 3 0 2) → P u
in_strong P u at first second =
    let has : at.layer.moves ≡ 0 ∷ 1 ∷ [] = ap (λ (l : Layer). l.moves) (sym (same_Some _ _ at.layer_is)) in
    of_layer P 0 1 at.layer has u at.number at.lists at.move_is (λ v h. subst P (same_Some _ _ h) first) (λ v h. subst P (same_Some _ _ h) second)

in_weak : (P : Move → Type 0) (t : Move) → IsInLayer majority_leaf layers 1 t → P (move 1 2 1 3) → P (move 3 2 3 3) → P t
in_weak P t at third fourth =
    let has : at.layer.moves ≡ 2 ∷ 3 ∷ [] = ap (λ (l : Layer). l.moves) (sym (same_Some _ _ at.layer_is)) in
    of_layer P 2 3 at.layer has t at.number at.lists at.move_is (λ v h. subst P (same_Some _ _ h) third) (λ v h. subst P (same_Some _ _ h) fourth)

none_woken : (i j : ℕ) (t u : Move) → j < i → IsInLayer majority_leaf layers i t → IsInLayer majority_leaf layers j u → (k : ℕ) × (u' : Move) × (k < i) × IsInLayer majority_leaf layers k u' × IsEnabledBefore u' t u
none_woken zero j t u l at earlier = absurd (omega arith)
none_woken (suc zero) zero t u l at earlier =
    in_weak (λ v. Sleeps v u) t at
    (in_strong (λ v. Sleeps (move 1 2 1 3) v) u earlier third_first third_second)
    (in_strong (λ v. Sleeps (move 3 2 3 3) v) u earlier fourth_first fourth_second)
none_woken (suc zero) (suc j) t u l at earlier = absurd (omega arith)
none_woken (suc (suc i)) j t u l at earlier = let none = at.layer_is in cc

valid_layers : ValidLayers majority_leaf layers
valid_layers = record {
  weights = All-cons (λ layer. length layer.weights ≡ 4) strong (weak ∷ []) refl (All-cons (λ layer. length layer.weights ≡ 4) weak [] refl (All-nil (λ layer. length layer.weights ≡ 4)));
  in_range = each_number (λ number. number < 4) (omega arith) (omega arith) (omega arith) (omega arith);
  once = apart;
  all = all_listed;
  lower = all_lower;
  wakes_none = none_woken;
}
  where
    each_number : (P : ℕ → Type 0) → P 0 → P 1 → P 2 → P 3 → All P (0 ∷ 1 ∷ 2 ∷ 3 ∷ [])
    each_number P a b c d = All-cons P 0 (1 ∷ 2 ∷ 3 ∷ []) a (All-cons P 1 (2 ∷ 3 ∷ []) b (All-cons P 2 (3 ∷ []) c (All-cons P 3 [] d (All-nil P))))

    above : (a b c d : ℕ) → a ≢ b → a ≢ c → a ≢ d → All (λ n. a ≢ n) (b ∷ c ∷ d ∷ [])
    above a b c d x y z = All-cons (λ n. a ≢ n) b (c ∷ d ∷ []) x (All-cons (λ n. a ≢ n) c (d ∷ []) y (All-cons (λ n. a ≢ n) d [] z (All-nil (λ n. a ≢ n))))

    apart : AllPairs {X = ℕ} ◌≢◌ (0 ∷ 1 ∷ 2 ∷ 3 ∷ [])
    apart =
        AllPairs-cons {X = ℕ} ◌≢◌ 0 (1 ∷ 2 ∷ 3 ∷ []) (above 0 1 2 3 (λ e. omega arith) (λ e. omega arith) (λ e. omega arith))
        (AllPairs-cons {X = ℕ} ◌≢◌ 1 (2 ∷ 3 ∷ []) (All-cons (λ n. 1 ≢ n) 2 (3 ∷ []) (λ e. omega arith) (All-cons (λ n. 1 ≢ n) 3 [] (λ e. omega arith) (All-nil (λ n. 1 ≢ n))))
        (AllPairs-cons {X = ℕ} ◌≢◌ 2 (3 ∷ []) (All-cons (λ n. 2 ≢ n) 3 [] (λ e. omega arith) (All-nil (λ n. 2 ≢ n)))
        (AllPairs-cons {X = ℕ} ◌≢◌ 3 [] (All-nil (λ n. 3 ≢ n)) (λ i j d l m. absurd (omega (arith, m))))))

-- ---- the whole

leaf_formed : IsLeaf majority_leaf
leaf_formed = unbroken_leaf majority_leaf refl

formed : IsNet majority
formed = unbroken_net majority (All-cons IsLeaf majority_leaf [] leaf_formed (All-nil IsLeaf)) refl

valid_part : ValidLeafProof majority_leaf part
valid_part = record {
  layers = valid_layers;
  on_true = unrefused-Closes majority_leaf pred true on_true (omega arith) refl;
  on_false = unrefused-Closes majority_leaf pred false on_false (omega arith) refl;
}

valid : ValidProof majority pred proof
valid = record {
  one_each = refl;
  leaves = each;
  combination = refl;
}
  where
    each : (i : ℕ) (leaf : LeafModel) (own : LeafProof) → slice_get majority.leaves i ≡ Some leaf → slice_get proof.leaves i ≡ Some own → ValidLeafProof leaf own
    each zero leaf own h k = subst (λ (l : LeafModel). ValidLeafProof l own) (same_Some _ _ h) (subst (ValidLeafProof majority_leaf) (same_Some _ _ k) valid_part)
    each (suc i) leaf own h k = cc

preds : ArePreds majority proof
preds zero own h = subst (λ (p : LeafProof). (p.pred.variables ≡ 2) × HasAtoms p.pred.variables p.pred.tree) (same_Some _ _ h) (refl, ((refl, small), omega arith))
  where
    small : All (λ a. nat_abs a ≤ COEFFICIENT_LIMIT) (negsuc 0 ∷ pos 1 ∷ [])
    small = All-cons (λ a. nat_abs a ≤ COEFFICIENT_LIMIT) (negsuc 0) (pos 1 ∷ []) (omega arith) (All-cons (λ a. nat_abs a ≤ COEFFICIENT_LIMIT) (pos 1) [] (omega arith) (All-nil (λ a. nat_abs a ≤ COEFFICIENT_LIMIT)))
preds (suc i) own h = cc

pub majority_is : MajorityComputes
majority_is = (sound majority pred proof formed preds valid).computes
