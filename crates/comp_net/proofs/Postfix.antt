-- The tree in postfix is the tree again, and is within the limits of combinations.
use Rattle.std.proofs.Common.{◌≡◌, ℕ, ◌+◌, ◌<◌, ◌≤◌, List, [], ◌∷◌, ◌++◌, length, get_or, refl, ap, ◌∙◌, arith}
use Rattle.std.specs.Prelude.{pos, Some, All, option_and_then}
use Rattle.std.proofs.lemmas.List.{length-append, get_or-append-add}
use Rattle.std.proofs.Math.ListN.{get_or-append}
use Rattle.std.proofs.lemmas.List.Elements.{All-nil, All-cons, All-append}
use Rattle.pop_leaf.specs.declared.item.Item.TheVariants.{Leaf, Not, And, Or}
use Rattle.pop_leaf.specs.NetModel.{Operators, after_items, only_one, combined, depth_operators, NamesBelow}
use Rattle.pres_ast.specs.PredTree.{PredTree, LessThan, Congruent, Negation, Conjunction, Disjunction}
use Rattle.pres_ast.specs.PredModel.{weight_of}
use Rattle.cert_base.specs.ValidProof.{trees}
use Rattle.comp_net.specs.Atoms.{atoms, postfix}
use Rattle.pop_net.proofs.Trees.{after_items-append}

-- the value of a tree, where leaf n + i is given
module _ {A : Type 0} (ops : Operators A) where
  abbrev pub value_at : ℕ → PredTree → A
  value_at n (LessThan coefs bound) = ops.leaf n
  value_at n (Congruent coefs m rest) = ops.leaf n
  value_at n (Negation p) = ops.negation (value_at n p)
  value_at n (Conjunction p q) = ops.conjunction (value_at n p) (value_at (n + length (atoms p)) q)
  value_at n (Disjunction p q) = ops.disjunction (value_at n p) (value_at (n + length (atoms p)) q)

  pub after-postfix : (n : ℕ) (tree : PredTree) (operands : List A) → after_items ops (postfix n tree) operands ≡ Some (value_at n tree ∷ operands)
  after-postfix n (LessThan coefs bound) operands = refl
  after-postfix n (Congruent coefs m rest) operands = refl
  after-postfix n (Negation p) operands =
      after_items-append ops (postfix n p) (Not ∷ []) operands ∙ ap (option_and_then (after_items ops (Not ∷ []))) (after-postfix n p operands)
  after-postfix n (Conjunction p q) operands =
      after_items-append ops (postfix n p ++ postfix (n + length (atoms p)) q) (And ∷ []) operands
      ∙ ap (option_and_then (after_items ops (And ∷ []))) (after_items-append ops (postfix n p) (postfix (n + length (atoms p)) q) operands ∙ ap (option_and_then (after_items ops (postfix (n + length (atoms p)) q))) (after-postfix n p operands) ∙ after-postfix (n + length (atoms p)) q (value_at n p ∷ operands))
  after-postfix n (Disjunction p q) operands =
      after_items-append ops (postfix n p ++ postfix (n + length (atoms p)) q) (Or ∷ []) operands
      ∙ ap (option_and_then (after_items ops (Or ∷ []))) (after_items-append ops (postfix n p) (postfix (n + length (atoms p)) q) operands ∙ ap (option_and_then (after_items ops (postfix (n + length (atoms p)) q))) (after-postfix n p operands) ∙ after-postfix (n + length (atoms p)) q (value_at n p ∷ operands))

  pub combined-postfix : (tree : PredTree) → combined ops (postfix 0 tree) ≡ Some (value_at 0 tree)
  combined-postfix tree = ap (option_and_then only_one) (after-postfix 0 tree [])

-- the trees of the atoms, put in, are the tree
at_right : (parts : List PredTree) (xs ys : List PredTree) (n : ℕ) → ((i : ℕ) → i < length (xs ++ ys) → get_or parts (n + i) (LessThan [] (pos 0)) ≡ get_or (xs ++ ys) i (LessThan [] (pos 0))) → (i : ℕ) → i < length ys → get_or parts (n + length xs + i) (LessThan [] (pos 0)) ≡ get_or ys i (LessThan [] (pos 0))
at_right parts xs ys n are i l =
    ap (λ k. get_or parts k (LessThan [] (pos 0))) (let e : n + length xs + i ≡ n + (length xs + i) = omega arith in e)
    ∙ are (length xs + i) (omega (arith, length-append xs ys))
    ∙ get_or-append-add xs ys i (LessThan [] (pos 0))

at_left : (parts : List PredTree) (xs ys : List PredTree) (n : ℕ) → ((i : ℕ) → i < length (xs ++ ys) → get_or parts (n + i) (LessThan [] (pos 0)) ≡ get_or (xs ++ ys) i (LessThan [] (pos 0))) → (i : ℕ) → i < length xs → get_or parts (n + i) (LessThan [] (pos 0)) ≡ get_or xs i (LessThan [] (pos 0))
at_left parts xs ys n are i l =
    are i (omega (arith, length-append xs ys)) ∙ get_or-append xs ys (LessThan [] (pos 0)) i l

pub tree-again : (parts : List PredTree) (n : ℕ) (tree : PredTree) → ((i : ℕ) → i < length (atoms tree) → get_or parts (n + i) (LessThan [] (pos 0)) ≡ get_or (atoms tree) i (LessThan [] (pos 0))) → value_at (trees parts) n tree ≡ tree
tree-again parts n (LessThan coefs bound) are =
    ap (λ k. get_or parts k (LessThan [] (pos 0))) (let e : n ≡ n + 0 = omega arith in e) ∙ are 0 (omega arith)
tree-again parts n (Congruent coefs m rest) are =
    ap (λ k. get_or parts k (LessThan [] (pos 0))) (let e : n ≡ n + 0 = omega arith in e) ∙ are 0 (omega arith)
tree-again parts n (Negation p) are = ap Negation (tree-again parts n p are)
tree-again parts n (Conjunction p q) are =
    ap (λ t. Conjunction t (value_at (trees parts) (n + length (atoms p)) q)) (tree-again parts n p (at_left parts (atoms p) (atoms q) n are))
    ∙ ap (Conjunction p) (tree-again parts (n + length (atoms p)) q (at_right parts (atoms p) (atoms q) n are))
tree-again parts n (Disjunction p q) are =
    ap (λ t. Disjunction t (value_at (trees parts) (n + length (atoms p)) q)) (tree-again parts n p (at_left parts (atoms p) (atoms q) n are))
    ∙ ap (Disjunction p) (tree-again parts (n + length (atoms p)) q (at_right parts (atoms p) (atoms q) n are))

-- the depth and the length of the combination
pub depth-most : (n : ℕ) (tree : PredTree) → value_at depth_operators n tree ≤ weight_of tree + 1
depth-most n (LessThan coefs bound) = omega arith
depth-most n (Congruent coefs m rest) = omega arith
depth-most n (Negation p) = let e = depth-most n p in omega arith
depth-most n (Conjunction p q) = let e = depth-most n p in let f = depth-most (n + length (atoms p)) q in omega arith
depth-most n (Disjunction p q) = let e = depth-most n p in let f = depth-most (n + length (atoms p)) q in omega arith

pub items-most : (n : ℕ) (tree : PredTree) → length (postfix n tree) ≤ weight_of tree + length (atoms tree)
items-most n (LessThan coefs bound) = omega arith
items-most n (Congruent coefs m rest) = omega arith
items-most n (Negation p) = let e = items-most n p in omega (arith, length-append (postfix n p) (Not ∷ []))
items-most n (Conjunction p q) = let e = items-most n p in let f = items-most (n + length (atoms p)) q in omega (arith, length-append (postfix n p ++ postfix (n + length (atoms p)) q) (And ∷ []), length-append (postfix n p) (postfix (n + length (atoms p)) q), length-append (atoms p) (atoms q))
items-most n (Disjunction p q) = let e = items-most n p in let f = items-most (n + length (atoms p)) q in omega (arith, length-append (postfix n p ++ postfix (n + length (atoms p)) q) (Or ∷ []), length-append (postfix n p) (postfix (n + length (atoms p)) q), length-append (atoms p) (atoms q))

pub some_atom : (tree : PredTree) → 1 ≤ length (atoms tree)
some_atom (LessThan coefs bound) = omega arith
some_atom (Congruent coefs m rest) = omega arith
some_atom (Negation p) = some_atom p
some_atom (Conjunction p q) = let e = some_atom p in omega (arith, length-append (atoms p) (atoms q))
some_atom (Disjunction p q) = let e = some_atom p in omega (arith, length-append (atoms p) (atoms q))

pub names-below : (n k : ℕ) (tree : PredTree) → n + length (atoms tree) ≤ k → All (NamesBelow k) (postfix n tree)
names-below n k (LessThan coefs bound) l = All-cons (NamesBelow k) (Leaf n) [] (omega arith) (All-nil (NamesBelow k))
names-below n k (Congruent coefs m rest) l = All-cons (NamesBelow k) (Leaf n) [] (omega arith) (All-nil (NamesBelow k))
names-below n k (Negation p) l = All-append (NamesBelow k) (postfix n p) (Not ∷ []) (names-below n k p l) (All-cons (NamesBelow k) Not [] tt (All-nil (NamesBelow k)))
names-below n k (Conjunction p q) l =
    let long = length-append (atoms p) (atoms q) in
    All-append (NamesBelow k) (postfix n p ++ postfix (n + length (atoms p)) q) (And ∷ [])
    (All-append (NamesBelow k) (postfix n p) (postfix (n + length (atoms p)) q) (names-below n k p (omega arith)) (names-below (n + length (atoms p)) k q (omega arith)))
    (All-cons (NamesBelow k) And [] tt (All-nil (NamesBelow k)))
names-below n k (Disjunction p q) l =
    let long = length-append (atoms p) (atoms q) in
    All-append (NamesBelow k) (postfix n p ++ postfix (n + length (atoms p)) q) (Or ∷ [])
    (All-append (NamesBelow k) (postfix n p) (postfix (n + length (atoms p)) q) (names-below n k p (omega arith)) (names-below (n + length (atoms p)) k q (omega arith)))
    (All-cons (NamesBelow k) Or [] tt (All-nil (NamesBelow k)))

-- there are few atoms
pub atoms-most : (tree : PredTree) → length (atoms tree) ≤ weight_of tree + 1
atoms-most (LessThan coefs bound) = omega arith
atoms-most (Congruent coefs m rest) = omega arith
atoms-most (Negation p) = let e = atoms-most p in omega arith
atoms-most (Conjunction p q) = let e = atoms-most p in let f = atoms-most q in omega (arith, length-append (atoms p) (atoms q))
atoms-most (Disjunction p q) = let e = atoms-most p in let f = atoms-most q in omega (arith, length-append (atoms p) (atoms q))
