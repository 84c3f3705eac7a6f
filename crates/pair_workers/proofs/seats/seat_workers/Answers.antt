use Rattle.std.proofs.Common.{ℕ, ◌+◌, get_or, length, arith, sym, ap, ◌∙◌, length-append, List, [], ◌∷◌, rules}
use Rattle.std.proofs.lemmas.List.{get_or_default}
use Rattle.std.proofs.lemmas.Iterator.Adapters.{YieldsList-from_vec}
use Rattle.std.proofs.lemmas.Iterator.Consumers.{YieldsList-turn, YieldsList-end}
use Rattle.pair_workers.specs.declared.work.Worker.{Worker}
use Rattle.pair_workers.specs.Work.{IsReady}
use Rattle.run_picks.proofs.Turns.{each-push_is}
use Rattle.pair_workers.proofs.seats.seat_workers.Goals as goal

pub split-requires-clause-left : goal.split-requires-clause-left
split-requires-clause-left c =
    let all = YieldsList-from_vec {s = c.into_iter-picker-iterator.result} c.args.pickers.items (search rules) (search rules) in
    let turn = YieldsList-turn all c.pickers.yielded c.pickers.picker-iterator c.pickers.yielded_by c.next.result c.next.new.self c.in-Some.picker c.in-Some.is c.next.ensures.steps in
    omega (arith, turn.0, c.pickers.invariant.left)

pub pickers-preserved : goal.pickers-preserved
pickers-preserved c =
    let was = c.pickers.invariant in
    let s = c.in_ok-seat.ensures in
    let r = c.in_ok-reserve.ensures in
    let items = c.in_ok-push.ensures.items in
    let workers = c.pickers.workers.items in
    let pickers = c.args.pickers.items in
    let picker = c.in-Some.picker in
    let at = length c.pickers.yielded in
    let worker : Worker = record { seat = c.reserve.new.self; picker = picker } in
    let all = YieldsList-from_vec {s = c.into_iter-picker-iterator.result} pickers (search rules) (search rules) in
    let turn = YieldsList-turn all c.pickers.yielded c.pickers.picker-iterator c.pickers.yielded_by c.next.result c.next.new.self picker c.in-Some.is c.next.ensures.steps in
    let more : ℕ → ℕ = (λ n. n + 1) in
    let longer = length-append c.pickers.yielded (picker ∷ []) in
    let o = was.own in
    record {
      ours = s.ours;
      own = ((s.rest.0.0 ∙ o.0.0, s.rest.0.1 ∙ o.0.1, s.rest.0.2 ∙ o.0.2, s.rest.0.3 ∙ o.0.3, s.rest.0.4 ∙ o.0.4), s.rest.1 ∙ o.1);
      next = s.dealt.0 ∙ ap more (was.next ∙ sym longer);
      left = let l = was.left in let n = s.dealt.1 in omega (arith, longer);
      count = let n = was.count in let long = ap (length {A = Worker}) items in omega (arith, long, longer, length-append workers (worker ∷ []));
      ready = λ i d e h. each-push_is (λ (k : ℕ) (w : Worker). (p : List ℕ) → IsReady c.args.field.now c.args.turns (k + 1) (get_or pickers k p) w) workers c.push.new.self.items worker items
          (λ k w within p. was.ready k w p within)
          (λ p. record {
            may = record {
              ours = (r.field.0 ∙ s.theirs.0, r.field.1 ∙ s.theirs.1);
              room = r.room;
              log = r.own ∙ s.new.2.0;
            };
            numbered = r.rest.0 ∙ s.new.0 ∙ was.next ∙ ap more (sym was.count);
            picker_is = turn.1 ∙ get_or_default pickers at picker p turn.0 ∙ ap (λ (k : ℕ). get_or pickers k p) (sym was.count);
          })
          i d h e;
    }

pub returns : goal.returns
returns c =
    let was = c.pickers.invariant in
    let all = YieldsList-from_vec {s = c.into_iter-picker-iterator.result} c.args.pickers.items (search rules) (search rules) in
    let end = YieldsList-end all c.pickers.yielded c.pickers.picker-iterator c.pickers.yielded_by c.next.result c.next.new.self c.in-None.is c.next.ensures.steps in
    record {
      ours = was.ours;
      own = was.own.0;
      taken = was.own.1;
      dealt = was.next ∙ ap (λ (n : ℕ). n + 1) end.1;
      ready = (was.count ∙ end.1, was.ready);
    }
