-- What a printed line of `compile` says.
use Rattle.std.proofs.Common.{◌≡◌, ℕ, Bool, true, false, nat_lt, List, length, ◌≤◌, Option, Some, None, Result, Ok, Err, refl, ap, subst, ◌∙◌}
use Rattle.std.specs.Prelude.{MatchBool}
use Rattle.pop_io.specs.declared.whole.TheConstants.{INPUT_LIMIT}
use Rattle.base_lines.specs.Lines.{lines_of}
use Rattle.pres_ast.specs.PredModel.{PredModel}
use Rattle.pres_read.specs.declared.fault.ReadPred.{ReadPred}
use Rattle.pres_read.specs.Reading.{pred_read}
use Rattle.pres_read.proofs.PredTexts.{read_meant}
use Rattle.pop_words.specs.Vars.{vars_of}
use Rattle.serde_json.specs.Written.{compact_text}
use Rattle.cert_json.specs.declared.bundle.Bundle.{Bundle}
use Rattle.cert_text.specs.Bundle.{bundle_data}
use Rattle.cert_text.proofs.ReadBack.{read_back}
use Rattle.theory_random.specs.ComputesAlmostSurely.{ComputesInCubicTime}
use Rattle.comp_net.specs.declared.choice.LeafChoice.{LeafChoice}
use Rattle.tool_texts.specs.declared.refusal.Refusal.{Refusal}
use Rattle.tool_texts.specs.declared.refusal.Refusal.TheVariants.{TooLong}
use Rattle.tool_texts.specs.declared.output.Output.{Output}
use Rattle.tool_texts.specs.declared.status.Status.TheVariants.{Done}
use Rattle.tool_texts.specs.Statuses.{status_of}
use Rattle.tool_texts.specs.Steps.{After}
use Rattle.tool_texts.specs.Refusals.{output_for}
use Rattle.tool_texts.specs.Lines.{just_two}
use Rattle.tool_texts.specs.Steps.{◌>>=◌}
use Rattle.tool_bundles.specs.Named.{named, understood}
use Rattle.tool_nets.specs.Compile.{bundle_line, IsCompiled, asked_by, fits_its_leaves, OfFitting, OfAsked, CompileGives}
use Rattle.pop_tool.specs.Headline.{bundle_of_silent, IsBundleLine, IsAsked, CompileSays}
use Rattle.pop_tool.proofs.SilentFiles.{silent_file}
use Rattle.tool_texts.proofs.Goes.{bind_ok, same_ok}
use Rattle.pop_tool.proofs.RunHeadline.{two_lines}

abbrev pub IsDone : Result Output Refusal → Type 0
IsDone given = status_of (output_for given).ending ≡ Done

pub refused : (refusal : Refusal) (given : Result Output Refusal) → given ≡ Err refusal → IsDone given → ⊥
refused refusal given is done = let e = subst IsDone is done in cc e

-- the line of a bundle that was compiled is that of the bundle
compiled_line : (choice : LeafChoice) (names : List (List ℕ)) (pred : PredModel) (bundle : Bundle) → IsCompiled choice names pred bundle → (text : List ℕ) → text ≡ bundle_line bundle
    → length text ≤ INPUT_LIMIT → IsBundleLine text (bundle_of_silent bundle)
compiled_line choice names pred bundle is text printed short =
    let back = read_back bundle is.writable in
    record {
      short = short;
      line = compact_text (bundle_data bundle);
      lines = ap lines_of printed ∙ back.line;
      value = bundle_data bundle;
      reads = (back.utf8, back.value);
      file = silent_file bundle (bundle_data bundle) back.file;
    }

names_of : (read : Option (List (List ℕ))) (names : List (List ℕ)) → named read ≡ Ok names → read ≡ Some names
names_of None names e = absurd cc
names_of (Some read) names e = cc

pred_of : (read : Result PredModel ReadPred) (pred : PredModel) → understood read ≡ Ok pred → read ≡ Ok pred
pred_of (Err fault) pred e = absurd cc
pred_of (Ok read) pred e = cc

asked : (lines names : List (List ℕ)) (pred : PredModel) → asked_by lines ≡ Ok (names, pred) → IsAsked lines names pred
unfolding asked_by
asked lines names pred e =
    let two = bind_ok (just_two lines) (λ two. named (vars_of two.0) >>= λ names. understood (pred_read names two.1) >>= λ pred. Ok (names, pred)) (names, pred) e in
    let n = bind_ok (named (vars_of two.0.0)) (λ names. understood (pred_read names two.0.1) >>= λ pred. Ok (names, pred)) (names, pred) two.2 in
    let p = bind_ok (understood (pred_read n.0 two.0.1)) (λ pred. Ok (n.0, pred)) (names, pred) n.2 in
    subst (λ (a : List (List ℕ) × PredModel). IsAsked lines a.0 a.1) (same_ok (n.0, p.0) (names, pred) p.2)
    (record {
      first = two.0.0;
      second = two.0.1;
      two = two_lines lines two.0 two.1;
      named = names_of (vars_of two.0.0) n.0 n.1;
      means = read_meant n.0 two.0.1 p.0 (pred_of (pred_read n.0 two.0.1) p.0 p.1);
    })

module _ (choice : LeafChoice) (input : List ℕ) (given : Result Output Refusal) (done : IsDone given) where
  fitting_says : (names : List (List ℕ)) (pred : PredModel) → asked_by (lines_of input) ≡ Ok (names, pred) → (fits : Result (Unit {0}) Refusal) → After fits (OfFitting choice names pred) given → CompileSays choice input (output_for given).text
  fitting_says names pred tells (Err refusal) is = absurd (refused refusal given is done)
  fitting_says names pred tells (Ok u) is =
      let printed = ap (λ (g : Result Output Refusal). (output_for g).text) is.2 in
      record {
        names = names;
        pred = pred;
        asked = asked (lines_of input) names pred tells;
        bundle = is.0;
        compiled = is.1;
        settles = subst (ComputesInCubicTime is.0.net is.0.pred.tree) is.1.bound (is.1.right.cubic is.1.tame);
        printed = printed;
        line = λ short. compiled_line choice names pred is.0 is.1 (output_for given).text printed short;
      }

  asked_says : (found : Result (List (List ℕ) × PredModel) Refusal) → asked_by (lines_of input) ≡ found → After found (OfAsked choice) given → CompileSays choice input (output_for given).text
  asked_says (Err refusal) tells is = absurd (refused refusal given is done)
  asked_says (Ok (names, pred)) tells is = fitting_says names pred tells (fits_its_leaves choice pred.tree) is

  by_length : (long : Bool) → MatchBool long (given ≡ Err TooLong) (CompileGives choice (lines_of input) given) → CompileSays choice input (output_for given).text
  by_length true is = absurd (refused TooLong given is done)
  by_length false is = asked_says (asked_by (lines_of input)) refl is

pub compile_says : (choice : LeafChoice) (input : List ℕ) (given : Result Output Refusal) → MatchBool (nat_lt INPUT_LIMIT (length input)) (given ≡ Err TooLong) (CompileGives choice (lines_of input) given) → IsDone given → CompileSays choice input (output_for given).text
compile_says choice input given is done = by_length choice input given done (nat_lt INPUT_LIMIT (length input)) is
