use Rattle.std.proofs.Common.{◌<◌, ◌∷◌, [], ◌++◌, List, length, refl, sym, ap, ◌∙◌, subst, arith, length-append}
use Rattle.pop_net.specs.declared.net.Word.{Word}
use Rattle.agent_field.specs.Standing.{In, shard_of}
use Rattle.agent_field.specs.Steps.{Mine, knowing}
use Rattle.agent_field.proofs.Below.{In-below, read-more}
use Rattle.agent_field.proofs.Usable.{still_usable}
use Rattle.agent_field.proofs.field.Field.read_all.Goals as goal

pub read-requires : goal.read-requires
read-requires c =
    let f = c.args.self.now in
    let read = c.loop-a.invariant.read.read in
    let was = c.requires.locked.holds in
    let inside : shard_of f.table.shared.key c.loop-a.a < f.shards = let e = f.shards_are in let l = f.limits.0 in omega arith in record {
      usable = still_usable f _ _ _ was.usable read refl refl;
      agent = c.loop-a-test.true;
      held = subst (In (shard_of f.table.shared.key c.loop-a.a)) (sym (ap (λ (m : Mine). m.0.held) read.me ∙ was.held)) (In-below _ f.shards inside);
      due = ap (λ (m : Mine). m.0.due) read.me ∙ was.due;
    }

pub loop-a-preserved : goal.loop-a-preserved
loop-a-preserved c =
    let was = c.loop-a.invariant.read in
    let a = c.loop-a.a in
    let x = c.read.result in
    let items = c.push_reserved.ensures.items in record {
      read = record {
        known = (a, x) ∷ was.known;
        read = record {
          table = c.read.ensures.known.table ∙ was.read.table;
          me = c.read.ensures.known.me ∙ ap (λ (m : Mine). (knowing a x m.0, m.1)) was.read.me;
        };
        these = ap (λ (l : List Word). l ++ x ∷ []) was.these ∙ sym items;
        whole = ap (length {A = Word}) items ∙ length-append c.loop-a.out.items (x ∷ []) ∙ (let n = was.whole in omega arith);
        each = read-more was.known c.loop-a.out.items c.push_reserved.new.self.items a x items was.whole was.each;
      };
      room = let r = c.loop-a.invariant.room in let e = c.push_reserved.ensures.capacity in omega arith;
    }
