-- What an answer says of a protocol.
use Rattle.std.proofs.Common.{◌≡◌, ℕ, Bool, true, List, ◌++◌, Option, Some, Result, Ok, sym, ap, subst, ◌∙◌}
use Rattle.std.specs.Prelude.{◌↔◌, ◌⊎◌}
use Rattle.std.specs.Io.KnownBytes.{Appends}
use Rattle.std.proofs.lemmas.List.{append_cancel_left}
use Rattle.base_lines.specs.Lines.{ended}
use Rattle.pop_words.specs.declared.command.Command.{Command}
use Rattle.pop_words.specs.declared.command.Command.TheVariants.{Check, Settle, Compile, Flocks}
use Rattle.pop_words.specs.declared.command.Command.TheVariants.{Show, Succinct}
use Rattle.run_spec.specs.declared.kind.RunKind.{RunKind}
use Rattle.run_spec.specs.declared.kind.RunKind.TheVariants.{Whole, Watched}
use Rattle.run_spec.specs.declared.spec.RunSpec.{RunSpec}
use Rattle.pop_words.specs.Words.{meaning_of, run_command, replay_command}
use Rattle.tool_texts.specs.declared.refusal.Refusal.{Refusal}
use Rattle.tool_texts.specs.declared.output.Output.{Output}
use Rattle.tool_texts.specs.declared.output.Ending.{Ending}
use Rattle.tool_texts.specs.declared.output.Ending.TheVariants as ending
use Rattle.tool_texts.specs.declared.status.Status.{Status}
use Rattle.tool_texts.specs.declared.status.Status.TheVariants.{Done, Usage, Refused, Rejected, Undecided, Differs, ReadFault, WriteFault, NoMemory}
use Rattle.tool_texts.specs.Statuses.{status_of}
use Rattle.tool_texts.specs.Refusals.{output_for}
use Rattle.tool_proofs.specs.Certified.{certified_lines, stable_text}
use Rattle.cert_json.specs.declared.stable.StableBundle.{StableBundle}
use Rattle.tool_replays.specs.Replay.{holds_text, holds_output}
use Rattle.pop_tool.specs.Answer.{InputGives, Answer}
use Rattle.pop_tool.specs.Outcome.{HasLeft, Wrote, Outcome}
use Rattle.comp_net.specs.declared.choice.LeafChoice.TheVariants as leaves
use Rattle.pop_tool.specs.Headline.{IsBundleLine, HasValidProof, IsValidLine, IsTameLine, IsValidStableLine, SaysShown, IsShownLine, IsHeldInput, CompileSays, SettleSays, RunSays, SaysHolds, WasRun, Headline, IsHeadline}
use Rattle.pop_tool.proofs.Replies.{given_for}
use Rattle.pop_tool.proofs.CheckHeadline.{BothSay, check_says, check_only, check_tame_only, stable_only}
use Rattle.pop_tool.proofs.ShowHeadline.{show_says, show_done}
use Rattle.pop_tool.proofs.RunHeadline.{run_says}
use Rattle.pop_tool.proofs.CompileHeadline.{compile_says}
use Rattle.pop_tool.proofs.Told.{check_told, show_told, run_told, compile_told, settle_told}
use Rattle.pop_tool.specs.Told.{SaysRefused, SaysWhyNot, CheckTold, ShowTold}
use Rattle.pop_tool.specs.ShownText.{ShowTells}
use Rattle.pop_tool.proofs.ShowTells.{show_tells}
use Rattle.pop_tool.proofs.SettleHeadline.{settle_says}
use Rattle.pop_tool.proofs.ReplayHeadline.{held_given, replay_only}
use Rattle.pop_tool.proofs.HeldText.{held_read, read_held}

module _ (words : List (List ℕ)) (input : List ℕ) (output : Output) (answer : Answer words input output) where
  given : (command : Command) → meaning_of words ≡ Ok command → (given : Result Output Refusal) × InputGives command input given × (output ≡ output_for given)
  given command is = given_for words command input output is answer

  both_headline : (bundle : StableBundle) → meaning_of words ≡ Ok Check → IsBundleLine input bundle → BothSay bundle output.text (status_of output.ending)
  both_headline bundle is line =
      let a = given Check is in
      subst (λ (o : Output). BothSay bundle o.text (status_of o.ending)) (sym a.2) (check_says input bundle a.0 line a.1)

  only_headline : meaning_of words ≡ Ok Check → (k : ℕ) (tame : Bool) → output.text ≡ certified_lines k tame → IsValidLine input
  only_headline is k tame printed =
      let a = given Check is in
      check_only k tame input a.0 a.1 (subst (λ (o : Output). o.text ≡ certified_lines k tame) a.2 printed)

  tame_only_headline : meaning_of words ≡ Ok Check → (k : ℕ) → output.text ≡ certified_lines k true → IsTameLine input
  tame_only_headline is k printed =
      let a = given Check is in
      check_tame_only k input a.0 a.1 (subst (λ (o : Output). o.text ≡ certified_lines k true) a.2 printed)

  stable_only_headline : meaning_of words ≡ Ok Check → (k : ℕ) → output.text ≡ ended (stable_text k) → IsValidStableLine input
  stable_only_headline is k printed =
      let a = given Check is in
      stable_only k input a.0 a.1 (subst (λ (o : Output). o.text ≡ ended (stable_text k)) a.2 printed)

  show_headline : (bundle : StableBundle) → meaning_of words ≡ Ok Show → IsBundleLine input bundle → SaysShown bundle output.text (status_of output.ending) ↔ HasValidProof bundle
  show_headline bundle is line =
      let a = given Show is in
      subst (λ (o : Output). SaysShown bundle o.text (status_of o.ending) ↔ HasValidProof bundle) (sym a.2) (show_says input bundle a.0 line a.1)

  shown_headline : meaning_of words ≡ Ok Show → status_of output.ending ≡ Done → IsShownLine input output.text
  shown_headline is done =
      let a = given Show is in
      subst (λ (o : Output). IsShownLine input o.text) (sym a.2) (show_done input a.0 a.1 (subst (λ (o : Output). status_of o.ending ≡ Done) a.2 done))

  run_headline : (kind : RunKind) (spec : RunSpec) → meaning_of words ≡ Ok (run_command kind spec) → WasRun (status_of output.ending)
      → RunSays kind spec input output.text (status_of output.ending)
  run_headline kind spec is ran =
      let a = given (run_command kind spec) is in
      subst (λ (o : Output). RunSays kind spec input o.text (status_of o.ending)) (sym a.2) (run_says kind spec input a.0 a.1 (subst (λ (o : Output). WasRun (status_of o.ending)) a.2 ran))

  printed_held : (kind : RunKind) → meaning_of words ≡ Ok (replay_command kind) → (k : ℕ) → output.text ≡ ended (holds_text k) → IsHeldInput kind input k
  printed_held kind is k printed =
      let a = given (replay_command kind) is in
      read_held kind input k (replay_only k kind input a.0 a.1 (subst (λ (o : Output). o.text ≡ ended (holds_text k)) a.2 printed))

  held_printed : (kind : RunKind) → meaning_of words ≡ Ok (replay_command kind) → (k : ℕ) → IsHeldInput kind input k → SaysHolds k output.text (status_of output.ending)
  held_printed kind is k held =
      let a = given (replay_command kind) is in
      let out : output ≡ holds_output k = a.2 ∙ ap output_for (held_given kind input k (held_read kind input k held) a.0 a.1) in
      (ap (λ (o : Output). o.text) out, ap (λ (o : Output). status_of o.ending) out)

  replay_headline : (kind : RunKind) → meaning_of words ≡ Ok (replay_command kind) → (k : ℕ)
      → SaysHolds k output.text (status_of output.ending) ↔ IsHeldInput kind input k
  replay_headline kind is k = (λ printed. printed_held kind is k printed.0, held_printed kind is k)

  compile_headline : meaning_of words ≡ Ok Compile → status_of output.ending ≡ Done → CompileSays leaves.Plain input output.text
  compile_headline is done =
      let a = given Compile is in
      subst (λ (o : Output). CompileSays leaves.Plain input o.text) (sym a.2) (compile_says leaves.Plain input a.0 a.1 (subst (λ (o : Output). status_of o.ending ≡ Done) a.2 done))

  flocks_headline : meaning_of words ≡ Ok Flocks → status_of output.ending ≡ Done → CompileSays leaves.Flocks input output.text
  flocks_headline is done =
      let a = given Flocks is in
      subst (λ (o : Output). CompileSays leaves.Flocks input o.text) (sym a.2) (compile_says leaves.Flocks input a.0 a.1 (subst (λ (o : Output). status_of o.ending ≡ Done) a.2 done))

  succinct_headline : meaning_of words ≡ Ok Succinct → status_of output.ending ≡ Done → CompileSays leaves.Succinct input output.text
  succinct_headline is done =
      let a = given Succinct is in
      subst (λ (o : Output). CompileSays leaves.Succinct input o.text) (sym a.2) (compile_says leaves.Succinct input a.0 a.1 (subst (λ (o : Output). status_of o.ending ≡ Done) a.2 done))

  settle_headline : meaning_of words ≡ Ok Settle → status_of output.ending ≡ Done → SettleSays input output.text
  settle_headline is done =
      let a = given Settle is in
      subst (λ (o : Output). SettleSays input o.text) (sym a.2) (settle_says input a.0 a.1 (subst (λ (o : Output). status_of o.ending ≡ Done) a.2 done))

  -- which text goes with which status

  check_told_headline : meaning_of words ≡ Ok Check → CheckTold output.text (status_of output.ending)
  check_told_headline is =
      let a = given Check is in
      subst (λ (o : Output). CheckTold o.text (status_of o.ending)) (sym a.2) (check_told input a.0 a.1)

  show_told_headline : meaning_of words ≡ Ok Show → ShowTold output.text (status_of output.ending)
  show_told_headline is =
      let a = given Show is in
      subst (λ (o : Output). ShowTold o.text (status_of o.ending)) (sym a.2) (show_told input a.0 a.1)

  show_tells_headline : meaning_of words ≡ Ok Show → ShowTells output.text (status_of output.ending)
  show_tells_headline is =
      let a = given Show is in
      subst (λ (o : Output). ShowTells o.text (status_of o.ending)) (sym a.2) (show_tells input a.0 a.1)

  run_told_headline : (kind : RunKind) (spec : RunSpec) → meaning_of words ≡ Ok (run_command kind spec) → WasRun (status_of output.ending) ⊎ SaysWhyNot output.text (status_of output.ending)
  run_told_headline kind spec is =
      let a = given (run_command kind spec) is in
      subst (λ (o : Output). WasRun (status_of o.ending) ⊎ SaysWhyNot o.text (status_of o.ending)) (sym a.2) (run_told kind spec input a.0 a.1)

  settle_told_headline : meaning_of words ≡ Ok Settle → (status_of output.ending ≡ Done) ⊎ SaysWhyNot output.text (status_of output.ending)
  settle_told_headline is =
      let a = given Settle is in
      subst (λ (o : Output). (status_of o.ending ≡ Done) ⊎ SaysWhyNot o.text (status_of o.ending)) (sym a.2) (settle_told input a.0 a.1)

  compile_told_headline : meaning_of words ≡ Ok Compile → (status_of output.ending ≡ Done) ⊎ SaysRefused output.text (status_of output.ending)
  compile_told_headline is =
      let a = given Compile is in
      subst (λ (o : Output). (status_of o.ending ≡ Done) ⊎ SaysRefused o.text (status_of o.ending)) (sym a.2) (compile_told leaves.Plain input a.0 a.1)

  flocks_told_headline : meaning_of words ≡ Ok Flocks → (status_of output.ending ≡ Done) ⊎ SaysRefused output.text (status_of output.ending)
  flocks_told_headline is =
      let a = given Flocks is in
      subst (λ (o : Output). (status_of o.ending ≡ Done) ⊎ SaysRefused o.text (status_of o.ending)) (sym a.2) (compile_told leaves.Flocks input a.0 a.1)

  succinct_told_headline : meaning_of words ≡ Ok Succinct → (status_of output.ending ≡ Done) ⊎ SaysRefused output.text (status_of output.ending)
  succinct_told_headline is =
      let a = given Succinct is in
      subst (λ (o : Output). (status_of o.ending ≡ Done) ⊎ SaysRefused o.text (status_of o.ending)) (sym a.2) (compile_told leaves.Succinct input a.0 a.1)

  replay_told_headline : (kind : RunKind) → meaning_of words ≡ Ok (replay_command kind) → (k : ℕ) → output.text ≡ ended (holds_text k) → status_of output.ending ≡ Done
  replay_told_headline kind is k printed = (held_printed kind is k (printed_held kind is k printed)).1

  answer_says : Headline words input output.text (status_of output.ending)
  answer_says =
      record {
        check = λ bundle is line. (both_headline bundle is line).silent;
        stable = λ bundle is line. (both_headline bundle is line).goals;
        only = only_headline;
        tame_only = tame_only_headline;
        stable_only = stable_only_headline;
        check_told = check_told_headline;
        show = show_headline;
        shown = shown_headline;
        show_told = show_told_headline;
        show_tells = show_tells_headline;
        run = run_headline Whole;
        watch = run_headline Watched;
        run_told = run_told_headline Whole;
        watch_told = run_told_headline Watched;
        compile = compile_headline;
        flocks = flocks_headline;
        succinct = succinct_headline;
        compile_told = compile_told_headline;
        flocks_told = flocks_told_headline;
        succinct_told = succinct_told_headline;
        settle = settle_headline;
        settle_told = settle_told_headline;
        replay = replay_headline Whole;
        replay_watched = replay_headline Watched;
        replay_told = replay_told_headline Whole;
        replay_watched_told = replay_told_headline Watched;
      }

-- a text that answers what was left, and that the sink took
module _ (words : List (List ℕ)) (left old new : Option (List ℕ)) (input before text : List ℕ) (left_is : left ≡ Some input) (old_is : old ≡ Some before) (new_is : new ≡ Some (before ++ text)) where
  written_says : (end : Ending) → Wrote words left old new end → Headline words input text (status_of end)
  written_says end wrote =
      let read = wrote.answer.0 in
      let same_input = subst (λ (l : Option (List ℕ)). HasLeft l read) left_is wrote.answer.1 in
      let grew = subst (λ (n : Option (List ℕ)). Appends (Some before) n wrote.output.text) new_is (subst (λ (o : Option (List ℕ)). Appends o new wrote.output.text) old_is wrote.grew) in
      let same = append_cancel_left before text wrote.output.text grew in
      let says = answer_says words input wrote.output (subst (λ (i : List ℕ). Answer words i wrote.output) (sym same_input) wrote.answer.2) in
      subst (λ (t : List ℕ). Headline words input t (status_of end)) (sym same)
      (subst (λ (e : Ending). Headline words input wrote.output.text (status_of e)) wrote.ends says)

pub outcome_says : (words : List (List ℕ)) (left old new : Option (List ℕ)) (status : Status) → Outcome words left old new status → IsHeadline words left old new status
outcome_says words left old new Done wrote input before text l o n answered = written_says words left old new input before text l o n ending.Done wrote
outcome_says words left old new Usage wrote input before text l o n answered = written_says words left old new input before text l o n ending.Usage wrote
outcome_says words left old new Refused wrote input before text l o n answered = written_says words left old new input before text l o n ending.Refused wrote
outcome_says words left old new Rejected wrote input before text l o n answered = written_says words left old new input before text l o n ending.Rejected wrote
outcome_says words left old new Undecided wrote input before text l o n answered = written_says words left old new input before text l o n ending.Undecided wrote
outcome_says words left old new Differs wrote input before text l o n answered = written_says words left old new input before text l o n ending.Differs wrote
outcome_says words left old new ReadFault wrote input before text l o n answered = absurd answered
outcome_says words left old new WriteFault wrote input before text l o n answered = absurd answered
outcome_says words left old new NoMemory wrote input before text l o n answered = absurd answered
