use Rattle.std.proofs.Common.{ℕ, suc, ◌-◌, ◌<◌, ◌≡◌, List, refl, ap, ◌∙◌, arith}
use Rattle.pop_net.specs.declared.net.Word.{Word}
use Rattle.agent_field.specs.Steps.{Mine, below, with_known, with_locks}
use Rattle.agent_field.proofs.Below.{below-In, below-one, held_again}
use Rattle.agent_field.proofs.Usable.{still_usable}
use Rattle.agent_field.proofs.field.Field.unlock_all.Goals as goal

pub loop-s-init : goal.loop-s-init
loop-s-init c = record {
  known = c.args.token.now.me.0.known;
  freed = record { table = refl; me = held_again c.args.token.now.me (below c.args.self.now.shards) c.requires.held c.requires.due };
  forgot = λ l. absurd (omega arith);
}

pub unlock-requires : goal.unlock-requires
unlock-requires c =
    let freed = c.loop-s.invariant.freed in
    let s = c.loop-s.s in
    let last = s - 1 in
    let one : s ≡ suc last = let t = c.loop-s-test.true in omega arith in record {
      usable = still_usable c.args.self.now _ _ _ c.requires.usable freed refl refl;
      shard = let all = c.loop-s.auto.s in omega arith;
      last = (below last, ap (λ (m : Mine). m.0.held) freed.me ∙ below-one s last one, λ i. let l : last < last = below-In last last i in omega arith);
      due = ap (λ (m : Mine). m.0.due) freed.me;
    }

pub returns : goal.returns
returns c =
    let freed = c.loop-s.invariant.freed in
    let end : c.loop-s.s ≡ 0 = let t = c.loop-s-test.false in omega arith in
    let none = c.loop-s.invariant.forgot (let some = c.args.self.now.limits.0 in omega arith) in record {
      table = freed.table;
      me = freed.me
          ∙ ap (λ (known : List (ℕ × Word)). (with_known known (with_locks (below c.loop-s.s) c.args.token.now.me.0), c.args.token.now.me.1)) none
          ∙ ap (λ (n : ℕ). (with_locks (below n) c.args.token.now.me.0, c.args.token.now.me.1)) end;
    }
