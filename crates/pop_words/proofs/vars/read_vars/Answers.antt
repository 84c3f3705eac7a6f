use Rattle.std.proofs.Common.{◌≡◌, ◌∷◌, List, ℕ, true, false, Option, Some, None, Result, Ok, Err, IfOk, codes, refl, ap, sym, ◌∙◌}
use Rattle.std.specs.Option.{option_copied}
use Rattle.std.specs.Str.{bytes_eq}
use Rattle.std.proofs.lemmas.Bool.{not-false, not-true}
use Rattle.base_lines.specs.Lines.{pieces}
use Rattle.pop_words.specs.Vars.{vars_of, Named, AreVariables}
use Rattle.pop_words.specs.WordsBehind.{words_behind, NamedBehind}
use Rattle.pop_io.specs.declared.failure.Failure.{Failure}
use Rattle.pop_io.specs.declared.failure.Failure.TheVariants.{Fault, NoMemory}
use Rattle.pop_words.specs.declared.vars.NoVars.{NoVars}
use Rattle.pop_words.proofs.Cuts.{words-cut}
use Rattle.pop_words.proofs.NameLists.{variables}
use Rattle.pop_words.proofs.vars.read_vars.Goals as goal

other_word : (line first : List ℕ) (rest : Option (List ℕ)) → pieces 32 line ≡ first ∷ words_behind rest → bytes_eq first (codes "vars") ≡ false → vars_of line ≡ None
unfolding vars_of
other_word line first rest words other = rw (words, other) refl

named : (line first : List ℕ) (rest : Option (List ℕ)) (result : Result (List (List ℕ)) (Failure NoVars)) → pieces 32 line ≡ first ∷ words_behind rest → bytes_eq first (codes "vars") ≡ true → NamedBehind result (words_behind rest) → Named result (vars_of line)
unfolding vars_of
named line first rest (Ok names) words is behind = rw (words, is, behind.1) (ap Some (sym behind.0))
named line first rest (Err (Fault _)) words is behind = rw (words, is, behind) refl
named line first rest (Err NoMemory) words is behind = tt

formed : (words : List (List ℕ)) (result : Result (List (List ℕ)) (Failure NoVars)) → NamedBehind result words → IfOk result AreVariables
formed words (Ok names) behind = variables names (rw behind.0 behind.1)
formed words (Err e) behind = tt

pub returns-then-ne-clause-vars : goal.returns-then-ne-clause-vars
returns-then-ne-clause-vars c =
    let words = words-cut c.args.line.now c.cut.result.0.now (option_copied c.cut.result.1) c.cut.ensures in
    other_word c.args.line.now c.cut.result.0.now (option_copied c.cut.result.1) words (not-true _ (sym (rw c.as_slice.ensures at c.ne.ensures) ∙ c.if-ne.true))

pub returns-clause-vars : goal.returns-clause-vars
returns-clause-vars c =
    let words = words-cut c.args.line.now c.cut.result.0.now (option_copied c.cut.result.1) c.cut.ensures in
    named c.args.line.now c.cut.result.0.now (option_copied c.cut.result.1) c.names_behind.result words (not-false _ (sym (rw c.as_slice.ensures at c.ne.ensures) ∙ c.if-ne.false)) c.names_behind.ensures

pub returns-clause-names : goal.returns-clause-names
returns-clause-names c = formed (words_behind (option_copied c.cut.result.1)) c.names_behind.result c.names_behind.ensures
