use Rattle.std.specs.Mem.Slots.{slots_items}
use Rattle.std.proofs.Common.{◌≡◌, ◌∙◌, ap, sym, subst, List, get_or, length, None, arith}
use Rattle.pop_net.specs.declared.net.Word.{Word}
use Rattle.pop_leaf.specs.NetModel.{NetModel}
use Rattle.pop_net.specs.Lanes.{AreValid}
use Rattle.pop_crowd.specs.declared.crowd.Meeting.{Meeting}
use Rattle.std.proofs.Math.ListN.{replicate}
use Rattle.pop_crowd.specs.Replay.{AreMeetings}
use Rattle.agent_field.specs.History.{placed, placed_logs}
use Rattle.agent_field.specs.Layouts.{renewed}
use Rattle.agent_field.proofs.Arranged.{nobody}
use Rattle.agent_field.proofs.Lent.{whole_written}
use Rattle.agent_field.proofs.Closing.{the_end, at_value, history_is, rounds, tickets_below}
use Rattle.agent_field.proofs.field.Field.close_on.Goals as goal

pub arrange-requires-clause-tickets : goal.arrange-requires-clause-tickets
arrange-requires-clause-tickets c =
    let e = the_end c.args.self c.args.seat _ _ c.close_with-closed.ensures.values.2 c.requires.whole in
    let count = sym e.count ∙ at_value _ 0 _ c.word-count.ensures in (
      tickets_below 0 c.word-count.result e.history _ (c.as_slice.ensures.value ∙ e.logs.own_log) count,
      λ w l is. tickets_below w c.word-count.result e.history l (e.logs.taken_logs w l (ap (λ (ls : List _). get_or ls w None) (sym c.as_slice-2.ensures.value) ∙ is)) count,
    )

pub renew-requires-clause-meetings : goal.renew-requires-clause-meetings
renew-requires-clause-meetings c =
    let s = c.args.seat in
    let e = the_end c.args.self s _ _ c.close_with-closed.ensures.values.2 c.requires.whole in
    let put = c.as_slice-3.ensures.value ∙ c.in-Ok.ensures ∙ (λ i. placed_logs (0, placed 0 (replicate c.word-count.result nobody) (c.as_slice.ensures.value i)) (c.as_slice-2.ensures.value i)) in
    let same = history_is c.args.self.table.shared.key _ s.log.items s.taken.items s.looks.items c.word-count.result c.as_slice-3.result.now e c.word-count.ensures put in
    let agents = sym (c.as_mut_slice.ensures.value ∙ c.into_vec-words.ensures ∙ sym c.args.self.opening_is) in
    subst (λ (t : List Word × List Meeting). AreMeetings (length t.0) t.1) (λ i. (agents i, same i)) e.right.meetings

pub returns-clause-round : goal.returns-clause-round
returns-clause-round c =
    let s = c.args.seat in
    let f = c.args.self in
    let k = f.table.shared.key in
    let all = slots_items c.close_with-closed.result.words in
    let e = the_end f s _ _ c.close_with-closed.ensures.values.2 c.requires.whole in
    let put = c.as_slice-3.ensures.value ∙ c.in-Ok.ensures ∙ (λ i. placed_logs (0, placed 0 (replicate c.word-count.result nobody) (c.as_slice.ensures.value i)) (c.as_slice-2.ensures.value i)) in
    let same = history_is k _ s.log.items s.taken.items s.looks.items c.word-count.result c.as_slice-3.result.now e c.word-count.ensures put in
    let meetings : c.as_slice-3.result.now ≡ c.from_vec-2.result = c.as_slice-3.ensures.value ∙ sym c.from_vec-2.ensures in
    let opening : c.as_mut_slice.result.now ≡ k.opening.value = c.as_mut_slice.ensures.value ∙ c.into_vec-words.ensures ∙ sym f.opening_is in
    let words : c.from_vec.result ≡ c.renew.new.words =
    c.from_vec.ensures ∙ whole_written c.into_vec-words.result.len c.renew.new.words c.into_vec-words.result.items (c.renew.auto.words ∙ ap (length {A = Word}) c.as_mut_slice.ensures.value) (omega arith) in
    let renews : c.from_vec.result ≡ renewed k.shards all c.from_vec-2.result k.opening.value = words ∙ c.renew.ensures.words ∙ (λ i. renewed (sym f.shards_are i) all (meetings i) (opening i)) in
    let opened : AreValid k.net.value k.opening.value = subst (λ (t : NetModel × List Word). AreValid t.0 t.1) (λ i. (sym f.net_is i, sym f.opening_is i)) f.valid in
    let r = rounds k all s.log.items s.taken.items s.looks.items c.from_vec.result c.from_vec-2.result e (same ∙ meetings) opened renews in record {
      words = r.replayed;
      valid = r.valid;
      history = r.right;
      own = r.own_log;
      taken = r.taken_logs;
      others = r.no_others;
      looks = r.looked;
    }
