-- A tree of another kind stands for another formula.
use Rattle.std.proofs.Common.{◌≡◌, Box, Global, refl}
use Rattle.std.specs.Prelude.{◌≢◌}
use Rattle.pres_ast.specs.declared.tree.Tree.{Tree}
use Rattle.pres_ast.specs.declared.tree.Tree.TheVariants.{Less, Rest, Not, And, Or, Not', And', Or'}
use Rattle.pres_ast.specs.PredTree.{PredTree, Negation, Conjunction, Disjunction}
use Rattle.pres_ast.specs.TreeOf.{tree_of}

pub no_negation : (tree : Tree) → ((x : Box Tree Global) → tree ≡ Not x → ⊥) → (p : PredTree) → tree_of tree ≢ Negation p
no_negation (Less coefs bound) other p = λ e. absurd cc
no_negation (Rest coefs modulus rest) other p = λ e. absurd cc
no_negation (Not' box q) other p = λ e. other (record { ptr = box.ptr; alloc = box.alloc; value = q }) refl
no_negation (And' box q more r) other p = λ e. absurd cc
no_negation (Or' box q more r) other p = λ e. absurd cc

pub no_conjunction : (tree : Tree) → ((x y : Box Tree Global) → tree ≡ And x y → ⊥) → (p q : PredTree) → tree_of tree ≢ Conjunction p q
no_conjunction (Less coefs bound) other p q = λ e. absurd cc
no_conjunction (Rest coefs modulus rest) other p q = λ e. absurd cc
no_conjunction (Not' box r) other p q = λ e. absurd cc
no_conjunction (And' box r more s) other p q = λ e. other (record { ptr = box.ptr; alloc = box.alloc; value = r }) (record { ptr = more.ptr; alloc = more.alloc; value = s }) refl
no_conjunction (Or' box r more s) other p q = λ e. absurd cc

pub no_disjunction : (tree : Tree) → ((x y : Box Tree Global) → tree ≡ Or x y → ⊥) → (p q : PredTree) → tree_of tree ≢ Disjunction p q
no_disjunction (Less coefs bound) other p q = λ e. absurd cc
no_disjunction (Rest coefs modulus rest) other p q = λ e. absurd cc
no_disjunction (Not' box r) other p q = λ e. absurd cc
no_disjunction (And' box r more s) other p q = λ e. absurd cc
no_disjunction (Or' box r more s) other p q = λ e. other (record { ptr = box.ptr; alloc = box.alloc; value = r }) (record { ptr = more.ptr; alloc = more.alloc; value = s }) refl
