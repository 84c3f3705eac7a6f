-- What was compiled is certified.
use Rattle.std.proofs.Common.{◌≡◌, ℕ, nat_lt, List, [], ◌∷◌, length, codes, Result, Ok, Err, refl, sym, subst}
use Rattle.std.specs.Prelude.{MatchBool}
use Rattle.pop_io.specs.declared.whole.TheConstants.{INPUT_LIMIT}
use Rattle.base_lines.specs.Lines.{lines_of}
use Rattle.pop_words.specs.declared.command.Command.{Command}
use Rattle.pop_words.specs.declared.command.Command.TheVariants.{Check, Compile, Flocks, Succinct}
use Rattle.pop_words.specs.Words.{meaning_of}
use Rattle.cert_base.specs.declared.proof.Proof.{Proof}
use Rattle.pop_checker.proofs.SilentParts.{silent_proofs}
use Rattle.comp_net.specs.declared.choice.LeafChoice.{LeafChoice}
use Rattle.comp_net.specs.declared.choice.LeafChoice.TheVariants as leaves
use Rattle.tool_texts.specs.declared.refusal.Refusal.{Refusal}
use Rattle.tool_texts.specs.declared.refusal.Refusal.TheVariants.{TooLong}
use Rattle.tool_texts.specs.declared.output.Output.{Output}
use Rattle.tool_texts.specs.declared.status.Status.TheVariants.{Done}
use Rattle.tool_texts.specs.Statuses.{status_of}
use Rattle.tool_nets.specs.Compile.{CompileGives}
use Rattle.pop_tool.specs.Answer.{InputGives}
use Rattle.pop_tool.specs.Headline.{bundle_of_silent, CheckSays, CompileSays}
use Rattle.pop_tool.specs.CompileCertified.{compile_words, IsCompiledCertified}
use Rattle.pop_tool.proofs.Replies.{given_for}
use Rattle.pop_tool.proofs.CheckHeadline.{BothSay, check_says}
use Rattle.pop_tool.proofs.CompileHeadline.{compile_says}

compile_command : LeafChoice → Command
compile_command leaves.Plain = Compile
compile_command leaves.Flocks = Flocks
compile_command leaves.Succinct = Succinct

compile_means : (choice : LeafChoice) → meaning_of (compile_words choice) ≡ Ok (compile_command choice)
unfolding compile_command
compile_means leaves.Plain = refl
compile_means leaves.Flocks = refl
compile_means leaves.Succinct = refl

compile_given : (choice : LeafChoice) (input : List ℕ) (given : Result Output Refusal) → InputGives (compile_command choice) input given
    → MatchBool (nat_lt INPUT_LIMIT (length input)) (given ≡ Err TooLong) (CompileGives choice (lines_of input) given)
unfolding compile_command
compile_given leaves.Plain input given of = of
compile_given leaves.Flocks input given of = of
compile_given leaves.Succinct input given of = of

pub compiled_is_certified : IsCompiledCertified
compiled_is_certified choice input written answer is done short checked =
    let a = given_for (compile_words choice) (compile_command choice) input written (compile_means choice) is in
    let says : CompileSays choice input written.text =
    subst (λ (o : Output). CompileSays choice input o.text) (sym a.2)
    (compile_says choice input a.0 (compile_given choice input a.0 a.1) (subst (λ (o : Output). status_of o.ending ≡ Done) a.2 done)) in
    let b = given_for (codes "check" ∷ []) Check written.text answer refl checked in
    let bundle = says.bundle in
    let judged : BothSay (bundle_of_silent bundle) answer.text (status_of answer.ending) =
    subst (λ (o : Output). BothSay (bundle_of_silent bundle) o.text (status_of o.ending)) (sym b.2) (check_says written.text (bundle_of_silent bundle) b.0 (says.line short) b.1) in
    let told : CheckSays bundle.net bundle.pred bundle.proof answer.text (status_of answer.ending) =
    subst (λ (p : Proof). CheckSays bundle.net bundle.pred p answer.text (status_of answer.ending)) (silent_proofs.parts bundle.proof) (judged.silent (silent_proofs.silent bundle.proof)) in
    (bundle, says.printed, says.line short, told.certified.1 says.compiled.valid, (λ in_time. told.tame.1 (says.compiled.valid, λ i leaf part h k. record { tame = says.compiled.tame i leaf part h k; in_time = in_time i leaf part h k })))
