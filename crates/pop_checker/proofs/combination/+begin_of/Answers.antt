use Rattle.std.proofs.Common.{◌-◌, refl, ap, sym, ◌∙◌, Some, None}
use Rattle.pres_ast.specs.PredTree.{Negation, Conjunction, Disjunction}
use Rattle.pres_ast.specs.TreeOf.{tree_of}
use Rattle.pop_leaf.specs.declared.item.Item.TheVariants.{Not, And, Or}
use Rattle.pop_checker.proofs.Combined.{leaf_begins, leaf_differs, other_differs, not_begins, and_none, and_begins, or_none, or_begins, named_below, at_end}
use Rattle.cert_base.proofs.TreeKinds.{no_negation, no_conjunction, no_disjunction}
use Rattle.pop_checker.proofs.combination.+begin_of.Goals as goal

pub is_part-requires : goal.is_part-requires
is_part-requires t c =
    rw c.requires.one_each (named_below _ _ (c.args.end - 1) c.in-Leaf-default.leaf c.requires.formed.leaf_numbers c.in-Leaf-default.ensures)

pub returns-then-is_part : goal.returns-then-is_part
returns-then-is_part t c =
    at_end _ _ c.args.end (tree_of c.args.tree.now) (tree_of c.args.tree.now) (Some (c.args.end - 1)) c.if-end-eq0.false refl
    (leaf_begins _ _ (c.args.end - 1) c.in-Leaf-default.leaf (tree_of c.args.tree.now) c.in-Leaf-default.ensures (c.if-is_part.ensures.0 refl))

pub returns-else-is_part : goal.returns-else-is_part
returns-else-is_part t c =
    at_end _ _ c.args.end (tree_of c.args.tree.now) (tree_of c.args.tree.now) None c.if-end-eq0.false refl
    (leaf_differs _ _ (c.args.end - 1) c.in-Leaf-default.leaf (tree_of c.args.tree.now) c.in-Leaf-default.ensures (λ e. absurd (cc (c.if-is_part.ensures.1 e))))

pub returns-in-Not-Not : goal.returns-in-Not-Not
returns-in-Not-Not t c =
    at_end _ _ c.args.end (tree_of c.args.tree.now) (Negation (tree_of c.deref.result.now)) c.begin_of.result c.if-end-eq0.false
    (ap tree_of c.in-Not-Not.is-1 ∙ ap (λ p. Negation (tree_of p)) (sym c.deref.ensures))
    (not_begins _ _ (c.args.end - 1) (tree_of c.deref.result.now) c.begin_of.result c.in-Not-Not.ensures c.begin_of.ensures)

pub returns-in_err-begin_of-in-And-And : goal.returns-in_err-begin_of-in-And-And
returns-in_err-begin_of-in-And-And t c =
    rw c.from_residual.ensures
    (at_end _ _ c.args.end (tree_of c.args.tree.now) (Conjunction (tree_of c.in-And-And.p.value) (tree_of c.deref-in-And-And.result.now)) None c.if-end-eq0.false
    (ap tree_of c.in-And-And.is-1 ∙ ap (λ q. Conjunction (tree_of c.in-And-And.p.value) (tree_of q)) (sym c.deref-in-And-And.ensures))
    (and_none _ _ (c.args.end - 1) (tree_of c.in-And-And.p.value) (tree_of c.deref-in-And-And.result.now) c.in-And-And.ensures c.in_err-begin_of-in-And-And.ensures))

pub returns-in_ok-begin_of-in-And-And : goal.returns-in_ok-begin_of-in-And-And
returns-in_ok-begin_of-in-And-And t c =
    at_end _ _ c.args.end (tree_of c.args.tree.now) (Conjunction (tree_of c.deref-in-And-And-2.result.now) (tree_of c.deref-in-And-And.result.now)) c.begin_of-in-And-And-2.result c.if-end-eq0.false
    (ap tree_of c.in-And-And.is-1 ∙ ap (λ q. Conjunction (tree_of c.in-And-And.p.value) (tree_of q)) (sym c.deref-in-And-And.ensures) ∙ ap (λ p. Conjunction (tree_of p) (tree_of c.deref-in-And-And.result.now)) (sym c.deref-in-And-And-2.ensures))
    (and_begins _ _ (c.args.end - 1) (tree_of c.deref-in-And-And-2.result.now) (tree_of c.deref-in-And-And.result.now) c.in_ok-begin_of-in-And-And.field-0 c.begin_of-in-And-And-2.result c.in-And-And.ensures c.in_ok-begin_of-in-And-And.ensures c.begin_of-in-And-And-2.ensures)

pub returns-in_err-begin_of-in-Or-Or : goal.returns-in_err-begin_of-in-Or-Or
returns-in_err-begin_of-in-Or-Or t c =
    rw c.from_residual-in_err-begin_of-in-Or-Or.ensures
    (at_end _ _ c.args.end (tree_of c.args.tree.now) (Disjunction (tree_of c.in-Or-Or.p.value) (tree_of c.deref-in-Or-Or.result.now)) None c.if-end-eq0.false
    (ap tree_of c.in-Or-Or.is-1 ∙ ap (λ q. Disjunction (tree_of c.in-Or-Or.p.value) (tree_of q)) (sym c.deref-in-Or-Or.ensures))
    (or_none _ _ (c.args.end - 1) (tree_of c.in-Or-Or.p.value) (tree_of c.deref-in-Or-Or.result.now) c.in-Or-Or.ensures c.in_err-begin_of-in-Or-Or.ensures))

pub returns-in_ok-begin_of-in-Or-Or : goal.returns-in_ok-begin_of-in-Or-Or
returns-in_ok-begin_of-in-Or-Or t c =
    at_end _ _ c.args.end (tree_of c.args.tree.now) (Disjunction (tree_of c.deref-in-Or-Or-2.result.now) (tree_of c.deref-in-Or-Or.result.now)) c.begin_of-in-Or-Or-2.result c.if-end-eq0.false
    (ap tree_of c.in-Or-Or.is-1 ∙ ap (λ q. Disjunction (tree_of c.in-Or-Or.p.value) (tree_of q)) (sym c.deref-in-Or-Or.ensures) ∙ ap (λ p. Disjunction (tree_of p) (tree_of c.deref-in-Or-Or.result.now)) (sym c.deref-in-Or-Or-2.ensures))
    (or_begins _ _ (c.args.end - 1) (tree_of c.deref-in-Or-Or-2.result.now) (tree_of c.deref-in-Or-Or.result.now) c.in_ok-begin_of-in-Or-Or.field-0 c.begin_of-in-Or-Or-2.result c.in-Or-Or.ensures c.in_ok-begin_of-in-Or-Or.ensures c.begin_of-in-Or-Or-2.ensures)

pub returns-in_default : goal.returns-in_default
returns-in_default t c =
    at_end _ _ c.args.end (tree_of c.args.tree.now) (tree_of c.args.tree.now) None c.if-end-eq0.false refl
    (other_differs _ _ (c.args.end - 1) Not (tree_of c.args.tree.now) c.in_default.ensures (no_negation c.args.tree.now c.in_default.not-Not-1))

pub returns-in_default-2 : goal.returns-in_default-2
returns-in_default-2 t c =
    at_end _ _ c.args.end (tree_of c.args.tree.now) (tree_of c.args.tree.now) None c.if-end-eq0.false refl
    (other_differs _ _ (c.args.end - 1) And (tree_of c.args.tree.now) c.in_default.ensures (no_conjunction c.args.tree.now c.in_default.not-And-1))

pub returns-in_default-3 : goal.returns-in_default-3
returns-in_default-3 t c =
    at_end _ _ c.args.end (tree_of c.args.tree.now) (tree_of c.args.tree.now) None c.if-end-eq0.false refl
    (other_differs _ _ (c.args.end - 1) Or (tree_of c.args.tree.now) c.in_default.ensures (no_disjunction c.args.tree.now c.in_default.not-Or-1))
