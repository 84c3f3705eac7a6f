-- No command of predicates and nets ends by a fault of reading.
use Rattle.std.proofs.Common.{ℕ, List, Result, sym, subst}
use Rattle.pop_words.specs.Vars.{vars_of}
use Rattle.comp_net.specs.declared.choice.LeafChoice.{LeafChoice}
use Rattle.tool_texts.specs.declared.refusal.Refusal.{Refusal}
use Rattle.tool_texts.specs.declared.output.Output.{Output}
use Rattle.tool_texts.specs.Lines.{just_three, two_and_more}
use Rattle.tool_texts.proofs.Goes.{bind_keeps, after_keeps}
use Rattle.tool_bundles.specs.Named.{named}
use Rattle.tool_bundles.proofs.OtherEndings.{IsOther, refused}
use Rattle.tool_nets.specs.Eval.{truth_in, eval_output}
use Rattle.tool_nets.specs.Play.{end_crowd, OfEnd, OfLines, PlayGives}
use Rattle.tool_nets.specs.Compile.{asked_by, fits_its_leaves, OfFitting, OfAsked, CompileGives}

pub eval_other : (lines : List (List ℕ)) → IsOther (eval_output lines)
unfolding eval_output
eval_other lines =
    bind_keeps IsOther refused (just_three lines) _
    (λ three. bind_keeps IsOther refused (named (vars_of three.0)) _
    (λ names. bind_keeps IsOther refused (truth_in names three.1 three.2) _
    (λ truth e. absurd cc)))

pub play_other : (lines : List (List ℕ)) (given : Result Output Refusal) → PlayGives lines given → IsOther given
play_other lines =
    after_keeps IsOther refused (two_and_more lines) OfLines
    (λ found given is. after_keeps IsOther refused (end_crowd is.0 found.1 found.2) OfEnd (λ end given is. subst IsOther (sym is.2) (λ e. absurd cc)) given is.2)

pub compile_other : (choice : LeafChoice) (lines : List (List ℕ)) (given : Result Output Refusal) → CompileGives choice lines given → IsOther given
compile_other choice lines =
    after_keeps IsOther refused (asked_by lines) (OfAsked choice)
    (λ found given is. after_keeps IsOther refused (fits_its_leaves choice found.1.tree) (OfFitting choice found.0 found.1) (λ fits given is. subst IsOther (sym is.2) (λ e. absurd cc)) given is)
