-- No line feed stands in a line of `show`, so its text tells its lines.
use Rattle.std.proofs.Common.{◌≡◌, ℕ, ◌==◌, Bool, true, false, if◌then◌else◌, List, [], ◌∷◌, ◌++◌, length, map, codes, decimal, ℤ, pos, nat_abs, All, Option, Some, None, refl, arith}
use Rattle.std.specs.Prelude.{slice_get, slice_index_or, IsTrue}
use Rattle.std.specs.List.{concat, flat_map, list_all}
use Rattle.std.specs.Fmt.{signed_decimal}
use Rattle.std.proofs.lemmas.List.Elements.{All-head, All-tail, All-weaker}
use Rattle.pop_io.specs.Names.{variable_name}
use Rattle.pres_ast.specs.PredTree.{PredTree, LessThan, Congruent, Negation, Conjunction, Disjunction}
use Rattle.pres_ast.specs.PredModel.{PredModel}
use Rattle.pres_read.specs.Canonical.{is_negative, is_zero, term_text, sign_text, terms_text, zero_text, sum_text, tree_text}
use Rattle.pop_leaf.specs.declared.leaf.Move.{Move}
use Rattle.pop_leaf.specs.declared.item.Item.{Item}
use Rattle.pop_leaf.specs.declared.item.Item.TheVariants.{Leaf, Not, And, Or}
use Rattle.pop_leaf.specs.LeafModel.{LeafModel, IsLeaf}
use Rattle.pop_leaf.specs.NetModel.{NetModel}
use Rattle.pop_leaf.proofs.Quiet.{All-slice_get}
use Rattle.cert_base.specs.declared.layer.Layer.{Layer}
use Rattle.cert_base.specs.declared.proof.Goal.{Goal}
use Rattle.cert_base.specs.declared.stable.StablePart.{StablePart}
use Rattle.cert_base.specs.declared.stable.StablePart.TheVariants.{Silent, Stable}
use Rattle.cert_base.specs.declared.stable.StableProof.{StableProof}
use Rattle.cert_base.specs.StableProof.{pred_of_part}
use Rattle.cert_show.specs.Lines.{below, each, spaced, named, name_at, move_text}
use Rattle.cert_show.specs.LeafLines.{start_text, helper_text, helper_lines, word_if, answer_lines, head_lines, move_line, listed_line, weight_text, layer_lines, all_layer_lines, set_line, goal_lines, part_lines, leaf_lines}
use Rattle.cert_show.specs.Shown.{item_text, shown_of}
use Rattle.cert_show.specs.TextTells.{IsShowable, TextTells}
use Rattle.cert_show.proofs.Spans.{passes-append}
use Rattle.cert_show.proofs.Quoted.{other_than, name_keeps, variable_keeps, decimal_keeps, signed_keeps}
use Rattle.cert_show.proofs.LinesTell.{IsLine, AreLines, lines_told, states_keep}
use Rattle.cert_show.proofs.SameShown.{same_shown}

both : (xs ys : List ℕ) → IsLine xs → IsLine ys → IsLine (xs ++ ys)
both xs ys p q = passes-append (other_than 10) xs ys p q

pub more_lines : (xs ys : List (List ℕ)) → AreLines xs → AreLines ys → AreLines (xs ++ ys)
more_lines [] ys p q = q
more_lines (x ∷ xs) ys p q = (p.0, more_lines xs ys p.1 q)

-- ---- pieces

each_line : (text : ℕ → List ℕ) → ((i : ℕ) → IsLine (text i)) → (numbers : List ℕ) → IsLine (concat (map text numbers))
each_line text is [] = tt
each_line text is (i ∷ numbers) = both (text i) (concat (map text numbers)) (is i) (each_line text is numbers)

word_line : (word : List ℕ) → IsLine word → IsLine (spaced word)
word_line word p = (refl, p)

named_line : (name value : List ℕ) → IsLine name → IsLine value → IsLine (named name value)
named_line name value p q = both (name ++ codes ": ") value (both name (codes ": ") p (refl, (refl, tt))) q

number : (n : ℕ) → IsLine (decimal n)
number n = decimal_keeps 10 (omega arith) n

integer : (z : ℤ) → IsLine (signed_decimal z)
integer z = signed_keeps 10 (omega arith) z

flat_lines : {A : Type 0} (lines : A → List (List ℕ)) → ((x : A) → AreLines (lines x)) → (xs : List A) → AreLines (flat_map lines xs)
flat_lines lines is [] = tt
flat_lines lines is (x ∷ xs) = more_lines (lines x) (flat_map lines xs) (is x) (flat_lines lines is xs)

mapped_lines : {A : Type 0} (line : A → List ℕ) → ((x : A) → IsLine (line x)) → (xs : List A) → AreLines (map line xs)
mapped_lines line is [] = tt
mapped_lines line is (x ∷ xs) = (is x, mapped_lines line is xs)

-- ---- predicates

term_by : (one : Bool) (k : ℕ) (name : List ℕ) → IsLine name → IsLine (if one then name else decimal k ++ codes "*" ++ name)
term_by true k name p = p
term_by false k name p = both (decimal k ++ codes "*") name (both (decimal k) (codes "*") (number k) (refl, tt)) p

sign_line : (first negative : Bool) → IsLine (sign_text first negative)
sign_line true false = tt
sign_line true true = (refl, tt)
sign_line false false = (refl, (refl, (refl, tt)))
sign_line false true = (refl, (refl, (refl, tt)))

terms_by : (none : Bool) (sign term others rest : List ℕ) → IsLine sign → IsLine term → IsLine others → IsLine rest → IsLine (if none then others else sign ++ term ++ rest)
terms_by true sign term others rest s t o r = o
terms_by false sign term others rest s t o r = both (sign ++ term) rest (both sign term s t) r

terms_line : (first : Bool) (names : List (List ℕ)) (coefs : List ℤ) → All IsLine names → IsLine (terms_text first names coefs)
terms_line first [] coefs are = tt
terms_line first (name ∷ names) [] are = tt
terms_line first (name ∷ names) (a ∷ coefs) are =
    let rest = All-tail IsLine name names are in
    terms_by (is_zero a) (sign_text first (is_negative a)) (term_text (nat_abs a) name) (terms_text first names coefs) (terms_text false names coefs)
    (sign_line first (is_negative a)) (term_by (nat_abs a == 1) (nat_abs a) name (All-head IsLine name names are)) (terms_line first names coefs rest) (terms_line false names coefs rest)

zero_line : (names : List (List ℕ)) → All IsLine names → IsLine (zero_text names)
zero_line [] are = (refl, (refl, tt))
zero_line (name ∷ names) are = (refl, (refl, All-head IsLine name names are))

sum_by_zero : (none : Bool) (xs ys : List ℕ) → IsLine xs → IsLine ys → IsLine (if none then xs else ys)
sum_by_zero true xs ys p q = p
sum_by_zero false xs ys p q = q

sum_line : (names : List (List ℕ)) (coefs : List ℤ) → All IsLine names → IsLine (sum_text names coefs)
sum_line names coefs are = sum_by_zero (list_all is_zero coefs) (zero_text names) (terms_text true names coefs) (zero_line names are) (terms_line true names coefs are)

tree_line : (names : List (List ℕ)) → All IsLine names → (tree : PredTree) → IsLine (tree_text names tree)
tree_line names are (LessThan coefs bound) =
    both (sum_text names coefs ++ codes " < ") (signed_decimal bound) (both (sum_text names coefs) (codes " < ") (sum_line names coefs are) (refl, (refl, (refl, tt)))) (integer bound)
tree_line names are (Congruent coefs modulus rest) =
    let sum = sum_text names coefs in
    both (((sum ++ codes " = ") ++ decimal rest) ++ codes " mod ") (decimal modulus)
    (both ((sum ++ codes " = ") ++ decimal rest) (codes " mod ")
    (both (sum ++ codes " = ") (decimal rest) (both sum (codes " = ") (sum_line names coefs are) (refl, (refl, (refl, tt)))) (number rest))
    (refl, (refl, (refl, (refl, (refl, tt))))))
    (number modulus)
tree_line names are (Negation p) = (refl, tree_line names are p)
tree_line names are (Conjunction p q) =
    let left = tree_text names p in
    let right = tree_text names q in
    both (((codes "(" ++ left) ++ codes " && ") ++ right) (codes ")")
    (both ((codes "(" ++ left) ++ codes " && ") right
    (both (codes "(" ++ left) (codes " && ") (refl, tree_line names are p) (refl, (refl, (refl, (refl, tt))))) (tree_line names are q))
    (refl, tt)
tree_line names are (Disjunction p q) =
    let left = tree_text names p in
    let right = tree_text names q in
    both (((codes "(" ++ left) ++ codes " || ") ++ right) (codes ")")
    (both ((codes "(" ++ left) ++ codes " || ") right
    (both (codes "(" ++ left) (codes " || ") (refl, tree_line names are p) (refl, (refl, (refl, (refl, tt))))) (tree_line names are q))
    (refl, tt)

-- ---- a leaf

module _ (leaf : LeafModel) (is : IsLeaf leaf) where
  state : (q : ℕ) → IsLine (name_at leaf.states q)
  state = states_keep 10 (omega arith) refl refl leaf.states is.names

  move_is : (t : Move) → IsLine (move_text leaf.states t)
  move_is t =
      let pair = λ (p q : ℕ). both (name_at leaf.states p ++ codes " + ") (name_at leaf.states q) (both (name_at leaf.states p) (codes " + ") (state p) (refl, (refl, (refl, tt)))) (state q) in
      let front = name_at leaf.states t.p ++ codes " + " ++ name_at leaf.states t.q in
      let back = name_at leaf.states t.r ++ codes " + " ++ name_at leaf.states t.s in
      both (front ++ codes " -> ") back (both front (codes " -> ") (pair t.p t.q) (refl, (refl, (refl, (refl, tt))))) (pair t.r t.s)

  word_is : (answer : Bool) (q : ℕ) → IsLine (word_if answer leaf q)
  word_is true q = sum_by_zero (slice_index_or leaf.outputs q false) (spaced (name_at leaf.states q)) [] (word_line (name_at leaf.states q) (state q)) tt
  word_is false q = sum_by_zero (slice_index_or leaf.outputs q false) [] (spaced (name_at leaf.states q)) tt (word_line (name_at leaf.states q) (state q))

  helpers_are : (helpers : List ℕ) → AreLines (helper_lines leaf helpers)
  helpers_are [] = tt
  helpers_are (q ∷ helpers) = (
    both (codes "helpers") (each (length leaf.helpers) (λ i. spaced (helper_text leaf i))) (refl, (refl, (refl, (refl, (refl, (refl, (refl, tt)))))))
        (each_line (λ i. spaced (helper_text leaf i)) (λ i. word_line (helper_text leaf i) (state (slice_index_or leaf.helpers i 0))) (below (length leaf.helpers))),
    tt,
  )

  layer_is : (k : ℕ) (layer : Option Layer) → AreLines (layer_lines leaf k layer)
  layer_is k None = tt
  layer_is k (Some layer) = (
    both (codes "layer ") (decimal k) (refl, (refl, (refl, (refl, (refl, (refl, tt)))))) (number k),
    (
      both (codes "weights") (each (length leaf.states) (λ q. spaced (weight_text leaf layer q))) (refl, (refl, (refl, (refl, (refl, (refl, (refl, tt)))))))
          (each_line (λ q. spaced (weight_text leaf layer q))
          (λ q. let weight = slice_index_or layer.weights q (pos 0) in word_line (weight_text leaf layer q) (named_line (name_at leaf.states q) (signed_decimal weight) (state q) (integer weight)))
          (below (length leaf.states))),
      mapped_lines (listed_line leaf)
          (λ n. let t = slice_index_or leaf.moves n (record { p = 0; q = 0; r = 0; s = 0 }) in both (codes "lists ") (move_text leaf.states t) (refl, (refl, (refl, (refl, (refl, (refl, tt)))))) (move_is t))
          layer.moves,
    ),
  )

  layers_are : (layers : List Layer) → AreLines (all_layer_lines leaf layers)
  layers_are layers = flat_lines (λ i. layer_lines leaf i (slice_get layers i)) (λ i. layer_is i (slice_get layers i)) (below (length layers))

  set_is : (set : List ℕ) → IsLine (set_line leaf set)
  set_is set =
      let text = λ (i : ℕ). spaced (name_at leaf.states (slice_index_or set i 0)) in
      both (codes "set") (each (length set) text) (refl, (refl, (refl, tt)))
      (each_line text (λ i. word_line (name_at leaf.states (slice_index_or set i 0)) (state (slice_index_or set i 0))) (below (length set)))

  goal_behind : (goal : Goal) → AreLines (all_layer_lines leaf goal.layers ++ map (set_line leaf) goal.sets)
  goal_behind goal = more_lines (all_layer_lines leaf goal.layers) (map (set_line leaf) goal.sets) (layers_are goal.layers) (mapped_lines (set_line leaf) set_is goal.sets)

  goal_are : (value : Bool) (goal : Goal) → AreLines (goal_lines leaf value goal)
  goal_are true goal = ((refl, (refl, (refl, (refl, (refl, (refl, (refl, (refl, (refl, tt))))))))), goal_behind goal)
  goal_are false goal = ((refl, (refl, (refl, (refl, (refl, (refl, (refl, (refl, (refl, (refl, tt)))))))))), goal_behind goal)

  part_are : (part : StablePart) → AreLines (part_lines leaf part)
  part_are (Silent part) = layers_are part.layers
  part_are (Stable goals) = more_lines (goal_lines leaf true goals.on_true) (goal_lines leaf false goals.on_false) (goal_are true goals.on_true) (goal_are false goals.on_false)

  leaf_are : (names : List (List ℕ)) → All IsLine names → ((i : ℕ) → IsLine (name_at names i)) → (k : ℕ) (part : StablePart) → AreLines (leaf_lines names k (Some leaf) (Some part))
  leaf_are names are quoted k part =
      let tree = (pred_of_part part).tree in
      let states = λ (q : ℕ). spaced (name_at leaf.states q) in
      let starts = λ (i : ℕ). spaced (start_text names leaf i) in
      let start = λ (i : ℕ). named_line (name_at names i) (name_at leaf.states (slice_index_or leaf.inputs i 0)) (quoted i) (state (slice_index_or leaf.inputs i 0)) in
      let moves = map (move_line leaf) leaf.moves in
      let head : AreLines (head_lines names leaf) = (
        both (codes "states") (each (length leaf.states) states) (refl, (refl, (refl, (refl, (refl, (refl, tt)))))) (each_line states (λ q. word_line (name_at leaf.states q) (state q)) (below (length leaf.states))),
        (
          both (codes "inputs") (each (length leaf.inputs) starts) (refl, (refl, (refl, (refl, (refl, (refl, tt)))))) (each_line starts (λ i. word_line (start_text names leaf i) (start i)) (below (length leaf.inputs))),
          helpers_are leaf.helpers,
        ),
      ) in
      let answers : AreLines (answer_lines leaf) = (
        both (codes "yes") (each (length leaf.states) (word_if true leaf)) (refl, (refl, (refl, tt))) (each_line (word_if true leaf) (word_is true) (below (length leaf.states))),
        (
          both (codes "no") (each (length leaf.states) (word_if false leaf)) (refl, (refl, tt)) (each_line (word_if false leaf) (word_is false) (below (length leaf.states))),
          tt,
        ),
      ) in (
        both (codes "leaf ") (decimal k) (refl, (refl, (refl, (refl, (refl, tt))))) (number k),
        (
          both (codes "computes ") (tree_text names tree) (refl, (refl, (refl, (refl, (refl, (refl, (refl, (refl, (refl, tt))))))))) (tree_line names are tree),
          more_lines (head_lines names leaf) (answer_lines leaf ++ (moves ++ part_lines leaf part)) head
              (more_lines (answer_lines leaf) (moves ++ part_lines leaf part) answers
              (more_lines moves (part_lines leaf part)
              (mapped_lines (move_line leaf) (λ t. both (codes "move ") (move_text leaf.states t) (refl, (refl, (refl, (refl, (refl, tt))))) (move_is t)) leaf.moves)
              (part_are part))),
        ),
      )

some_leaf_are : (net : NetModel) → All IsLeaf net.leaves → All IsLine net.variables → ((i : ℕ) → IsLine (name_at net.variables i))
    → (i k : ℕ) (leaf : Option LeafModel) (part : Option StablePart) → slice_get net.leaves i ≡ leaf → AreLines (leaf_lines net.variables k leaf part)
some_leaf_are net leaves are quoted i k None part e = tt
some_leaf_are net leaves are quoted i k (Some leaf) None e = tt
some_leaf_are net leaves are quoted i k (Some leaf) (Some part) e = leaf_are leaf (All-slice_get IsLeaf net.leaves i leaf leaves e) net.variables are quoted k part

item_line : (x : Item) → IsLine (item_text x)
item_line (Leaf i) = number i
item_line Not = (refl, (refl, (refl, tt)))
item_line And = (refl, (refl, (refl, tt)))
item_line Or = (refl, (refl, tt))

-- the lines of a net
pub shown_lines : (net : NetModel) (pred : PredModel) (proof : StableProof) → IsShowable net pred proof → AreLines (shown_of net pred proof)
shown_lines net pred proof is =
    let names = net.variables in
    let are : All IsLine names = All-weaker (λ (name : List ℕ). IsTrue (variable_name name)) IsLine (variable_keeps 10 refl) names is.formed.variable_names.0 in
    let quoted : (i : ℕ) → IsLine (name_at names i) = name_keeps 10 refl refl names are in
    let item = λ (i : ℕ). slice_index_or net.combine i Not in (
      both (codes "predicate ") (tree_text names pred.tree) (refl, (refl, (refl, (refl, (refl, (refl, (refl, (refl, (refl, (refl, tt)))))))))) (tree_line names are pred.tree),
      (
        both (codes "variables") (each (length names) (λ i. spaced (name_at names i))) (refl, (refl, (refl, (refl, (refl, (refl, (refl, (refl, (refl, tt)))))))))
            (each_line (λ i. spaced (name_at names i)) (λ i. word_line (name_at names i) (quoted i)) (below (length names))),
        (
          both (codes "combine") (each (length net.combine) (λ i. spaced (item_text (item i)))) (refl, (refl, (refl, (refl, (refl, (refl, (refl, tt)))))))
              (each_line (λ i. spaced (item_text (item i))) (λ i. word_line (item_text (item i)) (item_line (item i))) (below (length net.combine))),
          flat_lines (λ i. leaf_lines names i (slice_get net.leaves i) (slice_get proof.leaves i))
              (λ i. some_leaf_are net is.formed.leaves are quoted i i (slice_get net.leaves i) (slice_get proof.leaves i) refl) (below (length net.leaves)),
        ),
      ),
    )

-- a text tells what it shows
pub text_tells : TextTells
text_tells net other pred wanted proof given p q e =
    same_shown net other pred wanted proof given p q
    (lines_told (shown_of net pred proof) (shown_of other wanted given) (shown_lines net pred proof p) (shown_lines other wanted given q) e)
