use Rattle.std.proofs.Common.{◌≡◌, ◌∷◌, ◌++◌, []}
use Rattle.std.specs.Option.{option_copied}
use Rattle.pop_words.specs.WordsBehind.{words_behind}
use Rattle.pop_words.proofs.Cuts.{words-cut}
use Rattle.pop_words.proofs.NameLists.{joins, refused}
use Rattle.pop_words.proofs.vars.names_behind.Goals as goal

pub returns-in_default-further_name : goal.returns-in_default-further_name
returns-in_default-further_name c =
    let before = rw c.in-Some.is at c.words.invariant in
    let cut = words-cut c.in-Some.bytes.now c.cut.result.0.now (option_copied c.cut.result.1) c.cut.ensures in
    refused (words_behind (option_copied c.args.words)) c.words.names.items c.cut.result.0.now (words_behind (option_copied c.cut.result.1)) (rw cut at before) (rw c.as_slice.ensures.value at c.in_default-further_name.ensures)

pub words-preserved : goal.words-preserved
words-preserved c =
    let before = rw c.in-Some.is at c.words.invariant in
    let cut = words-cut c.in-Some.bytes.now c.cut.result.0.now (option_copied c.cut.result.1) c.cut.ensures in
    let further = rw c.as_slice.ensures.value at c.in-Some-further_name.ensures in
    let pushed : c.push.new.self.items ≡ c.words.names.items ++ c.cut.result.0.now ∷ [] = cc (c.in_ok-push.ensures.items, c.from_string.ensures, c.in_ok-text.ensures.ok, further.0) in
    rw pushed (joins (words_behind (option_copied c.args.words)) c.words.names.items c.cut.result.0.now (words_behind (option_copied c.cut.result.1)) (rw cut at before) further.1)
