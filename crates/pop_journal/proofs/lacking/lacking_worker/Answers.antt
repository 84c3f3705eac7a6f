use Rattle.std.proofs.Common.{ℕ, ◌+◌, nat_lt, List, length, get_or, ap, ◌∙◌, arith}
use Rattle.std.specs.Prelude.{find}
use Rattle.std.specs.List.{range_with_len}
use Rattle.run_picks.specs.Run.{meetings_of, turns_in}
use Rattle.pop_journal.proofs.Lacks.{found_alike}
use Rattle.pop_journal.proofs.lacking.lacking_worker.Goals as goal

pub returns : goal.returns
returns c =
    let spec = c.args.spec.now in
    let made : List ℕ = c.in_ok-made.made.items in
    let turns = turns_in spec c.args.round in
    let found = λ (t : List ℕ × ℕ). find (λ (w : ℕ). nat_lt (get_or t.0 w 0) t.1) (range_with_len 0 spec.workers) in
    c.first_lacking.ensures
    ∙ ap found (λ i. (c.deref.ensures.value i, c.min-turns.ensures i))
    ∙ found_alike (λ (w : ℕ). nat_lt (get_or made w 0) turns) (λ (w : ℕ). nat_lt (length (meetings_of w c.args.meetings.now)) turns) 0 spec.workers
    (λ i l. ap (λ (n : ℕ). nat_lt n turns) (c.in_ok-made.ensures.made (0 + i) 0 (omega (arith, l))))
