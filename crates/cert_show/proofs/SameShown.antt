-- Nets, predicates and proofs with the same lines are the same, but for trees and the numbers of moves.
use Rattle.std.proofs.Common.{◌≡◌, ℕ, suc, ◌+◌, ◌<◌, ◌≤◌, ◌^◌, Bool, true, false, List, [], ◌∷◌, ◌++◌, length, get_or, map, codes, decimal, All, Option, Some, refl, sym, ap, ◌∙◌, subst, append_assoc, arith}
use Rattle.std.specs.Prelude.{slice_get, slice_index_or, IsTrue}
use Rattle.std.specs.List.{range_with_len, flat_map}
use Rattle.std.specs.Str.{all_ascii_digits}
use Rattle.std.proofs.lemmas.Fmt.{decimal_injective, digits_decimal}
use Rattle.std.proofs.lemmas.List.{append_cancel_left}
use Rattle.std.proofs.lemmas.List.Elements.{All-head, All-tail, All-weaker}
use Rattle.pop_io.specs.Names.{AreNames, variable_name}
use Rattle.base_lines.proofs.Printed.{own}
use Rattle.pres_ast.specs.PredTree.{PredTree}
use Rattle.pres_ast.specs.PredModel.{PredModel, IsPred}
use Rattle.pres_read.specs.Canonical.{tree_text}
use Rattle.pop_leaf.specs.declared.limits.TheConstants.{LEAF_LIMIT}
use Rattle.pop_leaf.specs.declared.leaf.Move.{Move}
use Rattle.pop_leaf.specs.declared.item.Item.{Item}
use Rattle.pop_leaf.specs.declared.item.Item.TheVariants.{Leaf, Not, And, Or}
use Rattle.pop_leaf.specs.LeafModel.{LeafModel, IsLeaf}
use Rattle.pop_leaf.specs.NetModel.{NetModel, NamesBelow}
use Rattle.cert_base.specs.declared.stable.StablePart.{StablePart}
use Rattle.cert_base.specs.declared.stable.StableProof.{StableProof}
use Rattle.cert_base.specs.StableProof.{pred_of_part}
use Rattle.cert_show.specs.Lines.{below, each, spaced, name_at}
use Rattle.cert_show.specs.LeafLines.{start_text, helper_lines, word_if, move_line, part_lines, leaf_lines}
use Rattle.cert_show.specs.Shown.{item_text, all_leaf_lines, shown_of}
use Rattle.cert_show.specs.Showable.{AreOfLeaf, IsPartOf}
use Rattle.cert_show.specs.TextTells.{IsPartWritable, IsShowable, own_seen, part_seen, parts_seen, AreSeenAlike}
use Rattle.cert_show.proofs.Spans.{Passes}
use Rattle.cert_show.proofs.Quoted.{other_than, decimal_keeps, variable_keeps, name_keeps}
use Rattle.cert_show.proofs.Words.{same_items, placed, same_words}
use Rattle.cert_show.proofs.LinesTell.{same_tree, same_names, same_states}
use Rattle.cert_show.proofs.SameLeaf.{begins, cut_kind, same_starts, same_outputs, same_moves, cut_helpers}
use Rattle.cert_show.proofs.SameParts.{IsNext, part_same, part_stops}

-- ---- the combination

letters_never : (n : ℕ) (word : List ℕ) → n < 2 ^ 64 → all_ascii_digits word ≡ false → decimal n ≡ word → ⊥
letters_never n word small none e = let all = subst (λ (t : List ℕ). all_ascii_digits t ≡ true) e (digits_decimal own n small) in absurd (cc (all, none))

differ : (test : List ℕ → Bool) (x y : List ℕ) → test x ≡ true → test y ≡ false → x ≡ y → ⊥
differ test x y yes_there none e = let there = subst (λ (t : List ℕ). test t ≡ true) e yes_there in absurd (cc (there, none))

module _ (leaves : ℕ) (few : leaves ≤ LEAF_LIMIT) where
  item_same : (x y : Item) → NamesBelow leaves x → NamesBelow leaves y → item_text x ≡ item_text y → x ≡ y
  item_same (Leaf i) (Leaf j) p q e = ap Leaf (decimal_injective i j (omega (arith, p, few)) (omega (arith, q, few)) e)
  item_same (Leaf i) Not p q e = absurd (letters_never i (codes "not") (omega (arith, p, few)) refl e)
  item_same (Leaf i) And p q e = absurd (letters_never i (codes "and") (omega (arith, p, few)) refl e)
  item_same (Leaf i) Or p q e = absurd (letters_never i (codes "or") (omega (arith, p, few)) refl e)
  item_same Not (Leaf j) p q e = absurd (letters_never j (codes "not") (omega (arith, q, few)) refl (sym e))
  item_same And (Leaf j) p q e = absurd (letters_never j (codes "and") (omega (arith, q, few)) refl (sym e))
  item_same Or (Leaf j) p q e = absurd (letters_never j (codes "or") (omega (arith, q, few)) refl (sym e))
  item_same Not Not p q e = refl
  item_same And And p q e = refl
  item_same Or Or p q e = refl
  item_same Not And p q e = absurd (differ (begins 110 111) (codes "not") (codes "and") refl refl e)
  item_same Not Or p q e = absurd (differ (begins 110 111) (codes "not") (codes "or") refl refl e)
  item_same And Not p q e = absurd (differ (begins 97 110) (codes "and") (codes "not") refl refl e)
  item_same And Or p q e = absurd (differ (begins 97 110) (codes "and") (codes "or") refl refl e)
  item_same Or Not p q e = absurd (differ (begins 111 114) (codes "or") (codes "not") refl refl e)
  item_same Or And p q e = absurd (differ (begins 111 114) (codes "or") (codes "and") refl refl e)

item_keeps : (x : Item) → Passes (other_than 32) (item_text x)
item_keeps (Leaf i) = decimal_keeps 32 (omega arith) i
item_keeps Not = (refl, (refl, (refl, tt)))
item_keeps And = (refl, (refl, (refl, tt)))
item_keeps Or = (refl, (refl, tt))

same_combination : (m n : ℕ) → m ≤ LEAF_LIMIT → m ≡ n → (xs ys : List Item) → All (NamesBelow m) xs → All (NamesBelow n) ys
    → each (length xs) (λ i. spaced (item_text (slice_index_or xs i Not))) ≡ each (length ys) (λ i. spaced (item_text (slice_index_or ys i Not))) → xs ≡ ys
same_combination m n few same xs ys p q e =
    let f : ℕ → List ℕ = λ i. item_text (get_or xs i Not) in
    let g : ℕ → List ℕ = λ i. item_text (get_or ys i Not) in
    let texts : map f (below (length xs)) ≡ map g (below (length ys)) =
    same_words f g (λ i. item_keeps (get_or xs i Not)) (λ i. item_keeps (get_or ys i Not)) (below (length xs)) (below (length ys)) e in
    same_items item_text item_text (NamesBelow m) (NamesBelow m) (item_same m few) xs ys p (subst (λ (k : ℕ). All (NamesBelow k) ys) (sym same) q)
    (sym (placed item_text xs Not) ∙ texts ∙ placed item_text ys Not)

-- ---- a leaf with its part

pub record IsGood (n : ℕ) (leaf : LeafModel) (part : StablePart) : Type 0 where
  pub formed : IsLeaf leaf
  pub inputs : length leaf.inputs ≡ n
  pub own : IsPartOf n leaf part
  pub limits : IsPartWritable n part

-- the lines of a leaf, and what comes after them
abbrev flat : List (List ℕ) → ℕ → LeafModel → StablePart → List (List ℕ) → List (List ℕ)
flat names k leaf part t =
    (codes "leaf " ++ decimal k)
    ∷ (codes "computes " ++ tree_text names (pred_of_part part).tree)
    ∷ (codes "states" ++ each (length leaf.states) (λ q. spaced (name_at leaf.states q)))
    ∷ (codes "inputs" ++ each (length leaf.inputs) (λ i. spaced (start_text names leaf i)))
    ∷ (helper_lines leaf leaf.helpers
    ++ ((codes "yes" ++ each (length leaf.states) (word_if true leaf))
    ∷ (codes "no" ++ each (length leaf.states) (word_if false leaf))
    ∷ (map (move_line leaf) leaf.moves ++ (part_lines leaf part ++ t))))

is_flat : (names : List (List ℕ)) (k : ℕ) (leaf : LeafModel) (part : StablePart) (t : List (List ℕ)) → leaf_lines names k (Some leaf) (Some part) ++ t ≡ flat names k leaf part t
is_flat names k leaf part t =
    let a : List ℕ = codes "leaf " ++ decimal k in
    let b : List ℕ = codes "computes " ++ tree_text names (pred_of_part part).tree in
    let c : List ℕ = codes "states" ++ each (length leaf.states) (λ q. spaced (name_at leaf.states q)) in
    let d : List ℕ = codes "inputs" ++ each (length leaf.inputs) (λ i. spaced (start_text names leaf i)) in
    let yes_line : List ℕ = codes "yes" ++ each (length leaf.states) (word_if true leaf) in
    let no_line : List ℕ = codes "no" ++ each (length leaf.states) (word_if false leaf) in
    let h = helper_lines leaf leaf.helpers in
    let m = map (move_line leaf) leaf.moves in
    let p = part_lines leaf part in
    ap (λ (l : List (List ℕ)). a ∷ b ∷ c ∷ d ∷ l)
    (append_assoc h (yes_line ∷ no_line ∷ (m ++ p)) t ∙ ap (λ (l : List (List ℕ)). h ++ (yes_line ∷ no_line ∷ l)) (append_assoc m p t))

module _ (names : List (List ℕ)) (are : AreNames variable_name names) where
  parts_pred : (a b : StablePart) (x y : LeafModel) → IsGood (length names) x a → IsGood (length names) y b
      → tree_text names (pred_of_part a).tree ≡ tree_text names (pred_of_part b).tree → pred_of_part a ≡ pred_of_part b
  parts_pred a b x y p q e =
      let trees = same_tree names (pred_of_part a).tree (pred_of_part b).tree are p.limits.pred q.limits.pred e in
      ap (λ (n : ℕ). record { variables = n; tree = (pred_of_part a).tree }) (p.own.pred ∙ sym q.own.pred)
      ∙ ap (λ (t : PredTree). record { variables = (pred_of_part b).variables; tree = t }) trees

  pub leaf_same : (k : ℕ) (a b : LeafModel) (f g : StablePart) → IsGood (length names) a f → IsGood (length names) b g → (t u : List (List ℕ)) → IsNext t → IsNext u
      → leaf_lines names k (Some a) (Some f) ++ t ≡ leaf_lines names k (Some b) (Some g) ++ u
      → (a ≡ b) × (part_seen a f ≡ part_seen b g) × (t ≡ u)
  leaf_same k a b f g p q t u s r e =
      let all : flat names k a f t ≡ flat names k b g u = sym (is_flat names k a f t) ∙ e ∙ is_flat names k b g u in
      let tree : codes "computes " ++ tree_text names (pred_of_part f).tree ≡ codes "computes " ++ tree_text names (pred_of_part g).tree = cc all in
      let state : codes "states" ++ each (length a.states) (λ q. spaced (name_at a.states q)) ≡ codes "states" ++ each (length b.states) (λ q. spaced (name_at b.states q)) = cc all in
      let input : codes "inputs" ++ each (length a.inputs) (λ i. spaced (start_text names a i)) ≡ codes "inputs" ++ each (length b.inputs) (λ i. spaced (start_text names b i)) = cc all in
      let yes_of = λ (x : LeafModel). codes "yes" ++ each (length x.states) (word_if true x) in
      let no_of = λ (x : LeafModel). codes "no" ++ each (length x.states) (word_if false x) in
      let after = λ (x : LeafModel) (own : StablePart) (v : List (List ℕ)). map (move_line x) x.moves ++ (part_lines x own ++ v) in
      let rest : helper_lines a a.helpers ++ (yes_of a ∷ no_of a ∷ after a f t) ≡ helper_lines b b.helpers ++ (yes_of b ∷ no_of b ∷ after b g u) = cc all in
      let pred = parts_pred f g a b p q (append_cancel_left (codes "computes ") _ _ tree) in
      let states = same_states a.states b.states p.formed.names q.formed.names (append_cancel_left (codes "states") _ _ state) in
      let inputs = same_starts a.states p.formed.names b.states states names a.inputs b.inputs (p.inputs ∙ sym q.inputs) p.formed.inputs q.formed.inputs (append_cancel_left (codes "inputs") _ _ input) in
      let helped = cut_helpers a b p.formed q.formed states (yes_of a ∷ no_of a ∷ after a f t) (yes_of b ∷ no_of b ∷ after b g u) refl refl rest in
      let helpers = helped.0 in
      let yes_line : codes "yes" ++ each (length a.states) (word_if true a) ≡ codes "yes" ++ each (length b.states) (word_if true b) = cc (helped.1) in
      let behind : after a f t ≡ after b g u = cc (helped.1) in
      let outputs = same_outputs a.states p.formed.names b.states states a.outputs b.outputs p.formed.outputs q.formed.outputs (append_cancel_left (codes "yes") _ _ yes_line) in
      let moved = cut_kind (begins 109 111) (move_line a) (move_line b) (λ x. refl) (λ y. refl) a.moves b.moves (part_lines a f ++ t) (part_lines b g ++ u)
      (part_stops a p.formed f t s.4) (part_stops b q.formed g u r.4) behind in
      let moves = same_moves a.states p.formed.names b.states states a.moves b.moves p.formed.moves q.formed.moves moved.0 in
      let same : a ≡ b = whole_leaf a b states moves inputs outputs helpers in
      let last : part_lines a f ++ t ≡ part_lines a g ++ u = moved.1 ∙ ap (λ (x : LeafModel). part_lines x g ++ u) (sym same) in
      let own = part_same a p.formed f g p.own.own (subst (λ (x : LeafModel). AreOfLeaf x g) (sym same) q.own.own) p.limits.weights q.limits.weights t u s r last in
      let seen = own.0 ∙ ap (λ (x : LeafModel). own_seen x g) same in
      (same, cc (pred, seen), own.1)
    where
      leaf_with : List (List ℕ) → List Move → List ℕ → List Bool → List ℕ → LeafModel
      leaf_with s m i o h = record { states = s; moves = m; inputs = i; outputs = o; helpers = h }

      whole_leaf : (a b : LeafModel) → a.states ≡ b.states → a.moves ≡ b.moves → a.inputs ≡ b.inputs → a.outputs ≡ b.outputs → a.helpers ≡ b.helpers → a ≡ b
      whole_leaf a b s m i o h =
          ap (λ (x : List (List ℕ)). leaf_with x a.moves a.inputs a.outputs a.helpers) s
          ∙ ap (λ (x : List Move). leaf_with b.states x a.inputs a.outputs a.helpers) m
          ∙ ap (λ (x : List ℕ). leaf_with b.states b.moves x a.outputs a.helpers) i
          ∙ ap (λ (x : List Bool). leaf_with b.states b.moves b.inputs x a.helpers) o
          ∙ ap (λ (x : List ℕ). leaf_with b.states b.moves b.inputs b.outputs x) h

-- ---- all leaves

abbrev AreGood : ℕ → List LeafModel → List StablePart → Type 0
AreGood n [] [] = Unit {0}
AreGood n [] (part ∷ parts) = ⊥
AreGood n (leaf ∷ leaves) [] = ⊥
AreGood n (leaf ∷ leaves) (part ∷ parts) = IsGood n leaf part × AreGood n leaves parts

abbrev lines_from : List (List ℕ) → ℕ → List LeafModel → List StablePart → List (List ℕ)
lines_from names k [] parts = []
lines_from names k (leaf ∷ leaves) [] = []
lines_from names k (leaf ∷ leaves) (part ∷ parts) = leaf_lines names k (Some leaf) (Some part) ++ lines_from names (k + 1) leaves parts

next_leaf : (names : List (List ℕ)) (k : ℕ) (leaves : List LeafModel) (parts : List StablePart) → IsNext (lines_from names k leaves parts)
next_leaf names k [] parts = (tt, tt, tt, tt, tt)
next_leaf names k (leaf ∷ leaves) [] = (tt, tt, tt, tt, tt)
next_leaf names k (leaf ∷ leaves) (part ∷ parts) = (refl, refl, refl, refl, refl)

leaves_same : (names : List (List ℕ)) → AreNames variable_name names → (k : ℕ) (xs ys : List LeafModel) (ps qs : List StablePart) → AreGood (length names) xs ps → AreGood (length names) ys qs
    → lines_from names k xs ps ≡ lines_from names k ys qs → (xs ≡ ys) × (parts_seen xs ps ≡ parts_seen ys qs)
leaves_same names are k [] [] ps qs p q e = (refl, refl)
leaves_same names are k [] (y ∷ ys) ps [] p q e = absurd q
leaves_same names are k [] (y ∷ ys) ps (g ∷ qs) p q e = absurd (cc e)
leaves_same names are k (x ∷ xs) [] [] qs p q e = absurd p
leaves_same names are k (x ∷ xs) [] (f ∷ ps) qs p q e = absurd (cc e)
leaves_same names are k (x ∷ xs) (y ∷ ys) [] qs p q e = absurd p
leaves_same names are k (x ∷ xs) (y ∷ ys) (f ∷ ps) [] p q e = absurd q
leaves_same names are k (x ∷ xs) (y ∷ ys) (f ∷ ps) (g ∷ qs) p q e =
    let one = leaf_same names are k x y f g p.0 q.0 (lines_from names (k + 1) xs ps) (lines_from names (k + 1) ys qs) (next_leaf names (k + 1) xs ps) (next_leaf names (k + 1) ys qs) e in
    let more = leaves_same names are (k + 1) xs ys ps qs p.1 q.1 one.2 in
    let leaf = one.0 in
    let seen = one.1 in
    let leaves = more.0 in
    let parts = more.1 in
    (cc (leaf, leaves), cc (seen, parts))

-- by their places
placed_lines : (names : List (List ℕ)) (at : ℕ → Option LeafModel) (part_at : ℕ → Option StablePart) (n k : ℕ) (xs : List LeafModel) (ps : List StablePart) → AreGood n xs ps
    → ((i : ℕ) → at (k + i) ≡ slice_get xs i) → ((i : ℕ) → part_at (k + i) ≡ slice_get ps i)
    → flat_map (λ i. leaf_lines names i (at i) (part_at i)) (range_with_len k (length xs)) ≡ lines_from names k xs ps
placed_lines names at part_at n k [] ps good is own = refl
placed_lines names at part_at n k (x ∷ xs) [] good is own = absurd good
placed_lines names at part_at n k (x ∷ xs) (p ∷ ps) good is own =
    let here : k ≡ k + 0 = omega arith in
    let leaf : at k ≡ Some x = ap at here ∙ is 0 in
    let part : part_at k ≡ Some p = ap part_at here ∙ own 0 in
    let next : (i : ℕ) → k + 1 + i ≡ k + suc i = λ i. omega arith in
    let rest = flat_map (λ i. leaf_lines names i (at i) (part_at i)) (range_with_len (k + 1) (length xs)) in
    ap (λ r. leaf_lines names k r (part_at k) ++ rest) leaf
    ∙ ap (λ r. leaf_lines names k (Some x) r ++ rest) part
    ∙ ap (λ l. leaf_lines names k (Some x) (Some p) ++ l) (placed_lines names at part_at n (k + 1) xs ps good.1 (λ i. ap at (next i) ∙ is (suc i)) (λ i. ap part_at (next i) ∙ own (suc i)))

are_good : (n : ℕ) (xs : List LeafModel) (ps : List StablePart) → length ps ≡ length xs → All IsLeaf xs → All (λ leaf. length leaf.inputs ≡ n) xs → All (IsPartWritable n) ps
    → ((i : ℕ) (leaf : LeafModel) (part : StablePart) → slice_get xs i ≡ Some leaf → slice_get ps i ≡ Some part → IsPartOf n leaf part) → AreGood n xs ps
are_good n [] [] count formed inputs limits own = tt
are_good n [] (p ∷ ps) count formed inputs limits own = absurd (omega (arith, count))
are_good n (x ∷ xs) [] count formed inputs limits own = absurd (omega (arith, count))
are_good n (x ∷ xs) (p ∷ ps) count formed inputs limits own = (
  record {
    formed = All-head IsLeaf x xs formed;
    inputs = All-head (λ (leaf : LeafModel). length leaf.inputs ≡ n) x xs inputs;
    own = own 0 x p refl refl;
    limits = All-head (IsPartWritable n) p ps limits;
  },
  are_good n xs ps (omega (arith, count)) (All-tail IsLeaf x xs formed) (All-tail (λ (leaf : LeafModel). length leaf.inputs ≡ n) x xs inputs) (All-tail (IsPartWritable n) p ps limits)
      (λ i leaf part. own (suc i) leaf part),
)

good_of : (net : NetModel) (pred : PredModel) (proof : StableProof) → IsShowable net pred proof → AreGood (length net.variables) net.leaves proof.leaves
good_of net pred proof is = are_good (length net.variables) net.leaves proof.leaves is.own.one_each is.formed.leaves is.formed.inputs is.parts is.own.parts

by_list : (net : NetModel) (pred : PredModel) (proof : StableProof) → IsShowable net pred proof → all_leaf_lines net proof ≡ lines_from net.variables 0 net.leaves proof.leaves
by_list net pred proof is =
    let zero_more : (i : ℕ) → 0 + i ≡ i = λ i. omega arith in
    placed_lines net.variables (slice_get net.leaves) (slice_get proof.leaves) (length net.variables) 0 net.leaves proof.leaves (good_of net pred proof is)
    (λ i. ap (slice_get net.leaves) (zero_more i)) (λ i. ap (slice_get proof.leaves) (zero_more i))

variables_keep : (names : List (List ℕ)) → AreNames variable_name names → (i : ℕ) → Passes (other_than 32) (name_at names i)
variables_keep names are i =
    name_keeps 32 refl refl names (All-weaker (λ (name : List ℕ). IsTrue (variable_name name)) (Passes (other_than 32)) (variable_keeps 32 refl) names are.0) i

-- the same lines
pub same_shown : (net other : NetModel) (pred wanted : PredModel) (proof given : StableProof) → IsShowable net pred proof → IsShowable other wanted given
    → shown_of net pred proof ≡ shown_of other wanted given → AreSeenAlike net other pred wanted proof given
same_shown net other pred wanted proof given p q e =
    let first : codes "predicate " ++ tree_text net.variables pred.tree ≡ codes "predicate " ++ tree_text other.variables wanted.tree = cc e in
    let second : codes "variables" ++ each (length net.variables) (λ i. spaced (name_at net.variables i)) ≡ codes "variables" ++ each (length other.variables) (λ i. spaced (name_at other.variables i)) = cc e in
    let third : codes "combine" ++ each (length net.combine) (λ i. spaced (item_text (slice_index_or net.combine i Not))) ≡ codes "combine" ++ each (length other.combine) (λ i. spaced (item_text (slice_index_or other.combine i Not))) = cc e in
    let rest : all_leaf_lines net proof ≡ all_leaf_lines other given = cc e in
    let names = net.variables in
    let are = p.formed.variable_names in
    let vars : net.variables ≡ other.variables =
    same_names net.variables other.variables (variables_keep net.variables are) (variables_keep other.variables q.formed.variable_names) (append_cancel_left (codes "variables") _ _ second) in
    let count : length net.variables ≡ length other.variables = ap length vars in
    let tree = same_tree names pred.tree wanted.tree are p.limits (subst (λ (n : ℕ). IsPred n wanted.tree) (sym count) q.limits)
    (append_cancel_left (codes "predicate ") (tree_text names pred.tree) (tree_text names wanted.tree) (first ∙ ap (λ (ns : List (List ℕ)). codes "predicate " ++ tree_text ns wanted.tree) (sym vars))) in
    let leaves = leaves_same names are 0 net.leaves other.leaves proof.leaves given.leaves (good_of net pred proof p)
    (subst (λ (n : ℕ). AreGood n other.leaves given.leaves) (sym count) (good_of other wanted given q))
    (sym (by_list net pred proof p) ∙ rest ∙ by_list other wanted given q ∙ ap (λ (ns : List (List ℕ)). lines_from ns 0 other.leaves given.leaves) (sym vars)) in
    let items = same_combination (length net.leaves) (length other.leaves) p.formed.leaf_count (ap length leaves.0) net.combine other.combine p.formed.leaf_numbers q.formed.leaf_numbers
    (append_cancel_left (codes "combine") _ _ third) in
    record {
      same_net =
          ap (λ (x : List (List ℕ)). record { variables = x; leaves = net.leaves; combine = net.combine }) vars
          ∙ ap (λ (x : List LeafModel). record { variables = other.variables; leaves = x; combine = net.combine }) leaves.0
          ∙ ap (λ (x : List Item). record { variables = other.variables; leaves = other.leaves; combine = x }) items;
      same_pred =
          ap (λ (n : ℕ). record { variables = n; tree = pred.tree }) (p.variables ∙ count ∙ sym q.variables)
          ∙ ap (λ (t : PredTree). record { variables = wanted.variables; tree = t }) tree;
      same_parts = leaves.1;
    }
