use Rattle.std.proofs.Common.{rules, ◌≡◌, List, ℕ, length, Ok, sym, subst}
use Rattle.pres_ast.specs.TreeOf.{tree_of}
use Rattle.pres_read.specs.Grammar.{Derives}
use Rattle.pres_read.specs.Reading.{pred_read}
use Rattle.pres_read.specs.Texts.{text_symbols}
use Rattle.pres_read.specs.Canonical.{tree_text}
use Rattle.pres_read.proofs.PrintedTrees.{printed_derives}
use Rattle.pres_read.proofs.Again.{printed_read}
use Rattle.pres_read.proofs.PrintedLength.{printed_short}
use Rattle.pres_read.proofs.print.canonical_text.Goals as goal

pub returns-clause-derived : goal.returns-clause-derived
returns-clause-derived c =
    let whole : c.from_string.result ≡ tree_text c.args.names.now (tree_of c.args.tree.now) = search rules in
    subst (λ (text : List ℕ). Derives c.args.names.now (text_symbols text) (tree_of c.args.tree.now)) (sym whole)
    (printed_derives c.args.names.now (tree_of c.args.tree.now) c.requires.names c.requires.limits.some_variable c.requires.limits.atoms)

pub returns-clause-again : goal.returns-clause-again
returns-clause-again c =
    let whole : c.from_string.result ≡ tree_text c.args.names.now (tree_of c.args.tree.now) = search rules in
    subst (λ (text : List ℕ). pred_read c.args.names.now text ≡ Ok (record { variables = length c.args.names.now; tree = tree_of c.args.tree.now })) (sym whole)
    (printed_read c.args.names.now (tree_of c.args.tree.now) c.requires.names c.requires.limits (printed_short c.args.names.now (tree_of c.args.tree.now) c.requires.names c.requires.limits))
