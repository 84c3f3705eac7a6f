use Rattle.std.proofs.Common.{ap}
use Rattle.std.specs.Mem.Slots.{slots_items}
use Rattle.std.proofs.Common.{◌≡◌, ℕ, set, sym, ◌∙◌, get_or}
use Rattle.agent_field.specs.Standing.{packed, word_of}
use Rattle.agent_field.proofs.Closing.{at_value}
use Rattle.agent_field.proofs.Renewing.{serves_set}
use Rattle.agent_field.proofs.close.renew_word.Goals as goal

pub returns-clause-word : goal.returns-clause-word
returns-clause-word c =
    let table = slots_items c.args.closed.now.words in
    let is : packed c.word-word.result ≡ word_of c.args.shards table c.args.a =
    ap packed (sym (at_value table c.place_of_agent-place.result c.word-word.result c.word-word.ensures) ∙ ap (λ (i : ℕ). get_or table i 0) c.place_of_agent-place.ensures) in
    ap (set c.args.words.now c.args.a) is

pub returns-clause-serves : goal.returns-clause-serves
returns-clause-serves c =
    serves_set c.args.layout.now c.put.new.self c.args.words.now c.args.shards c.args.a c.word-word.result c.requires.agent c.requires.serves
    (c.put.ensures ∙ ap (λ (i : ℕ). set c.args.layout.now.words.items i c.word-word.result) c.place_of_agent-place.ensures)
