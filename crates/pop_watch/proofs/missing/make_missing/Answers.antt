use Rattle.std.proofs.Common.{◌≡◌, ℕ, suc, ◌+◌, ◌*◌, ◌-◌, ◌<◌, ◌≤◌, length, get_or, refl, ap, sym, subst, ◌∙◌, arith, rules, ⊎_elim}
use Rattle.std.proofs.lemmas.Bool.{cases_eq}
use Rattle.std.proofs.Math.Nat.{mul-le-mul_right, suc-mul}
use Rattle.run_picks.specs.Run.{made_by}
use Rattle.pop_watch.proofs.MoreMeetings.{keeps_same, goes_on_more, has_mine, has_others}
use Rattle.pop_watch.proofs.missing.make_missing.Goals as goal

pub workers-init : goal.workers-init
workers-init c =
    let first = c.args.played.now in
    let r = c.in_ok-reserve.ensures in
    record {
      goes_on = keeps_same c.args.net.now first _ refl refl r.items;
      whole = λ w l. absurd (omega (arith, l));
      rest = λ w l. ap (made_by w) r.items;
      valid = c.requires.valid;
      count = let n = ap length r.items in omega (arith, n);
      room = search rules;
    }

pub workers-preserved : goal.workers-preserved
workers-preserved c =
    let was = c.workers.invariant in
    let now = c.workers.played in
    let next = c.make_turns.new.played in
    let first = c.args.played.now in
    let at = c.workers.worker in
    let turns = c.args.turns in
    let one = c.make_turns.ensures in
    let within : at < length c.args.made.now = search rules in
    let missing = turns - get_or c.args.made.now at 0 in
    let made : get_or c.args.made.now at 0 ≡ made_by at first.meetings.items = c.requires.made at 0 within in
    let fits : made_by at first.meetings.items ≤ turns = c.requires.few at within in
    let same : made_by at now.meetings.items ≡ made_by at first.meetings.items = was.rest at (omega arith) in
    let mine = has_mine at missing now next one.more in
    record {
      goes_on = goes_on_more c.args.net.now first now next was.goes_on one.goes_on;
      whole = λ w l. ⊎_elim
          (λ (e : w ≡ at). ap (λ (k : ℕ). made_by k next.meetings.items) e ∙ mine ∙ (let f : made_by at now.meetings.items + missing ≡ turns = omega (arith, made, fits, same) in f))
          (λ (n : w ≡ at → ⊥). has_others at missing w now next n one.more ∙ was.whole w (omega (arith, l, n)))
          (cases_eq w at);
      rest = λ w l.
          let apart : w ≡ at → ⊥ = (λ e. omega (arith, l, e)) in
          has_others at missing w now next apart one.more ∙ was.rest w (omega (arith, l));
      valid = one.valid;
      count = let n = was.count in let more = one.made in let sum : (at + 1) * turns ≡ at * turns + turns = ap (λ (k : ℕ). k * turns) (let e : at + 1 ≡ suc at = omega arith in e) ∙ suc-mul at turns in omega (arith, n, more, sum, made, fits);
      room = subst (λ (n : ℕ). length first.meetings.items + length c.args.made.now * turns ≤ n) (sym one.room) was.room;
    }

pub make_turns-requires-clause-room : goal.make_turns-requires-clause-room
make_turns-requires-clause-room c =
    let was = c.workers.invariant in
    let at = c.workers.worker in
    let turns = c.args.turns in
    let within : at + 1 ≤ length c.args.made.now = search rules in
    let sum : (at + 1) * turns ≡ at * turns + turns = ap (λ (k : ℕ). k * turns) (let e : at + 1 ≡ suc at = omega arith in e) ∙ suc-mul at turns in
    let all : (at + 1) * turns ≤ length c.args.made.now * turns = mul-le-mul_right turns within in
    let n = was.count in
    let r = was.room in
    omega (arith, n, r, all, sum)

pub returns-clause-goes_on : goal.returns-clause-goes_on
returns-clause-goes_on c = c.workers.invariant.goes_on
