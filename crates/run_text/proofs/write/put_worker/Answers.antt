use Rattle.std.proofs.Common.{ℕ, List, arith, sym, subst}
use Rattle.std.proofs.lemmas.Fmt.{decimal_digit}
use Rattle.base_lines.specs.Places.{IsPlaced}
use Rattle.run_text.proofs.write.put_worker.Goals as goal

pub returns-then-worker-lt-TEN-clause-placed : goal.returns-then-worker-lt-TEN-clause-placed
returns-then-worker-lt-TEN-clause-placed c =
    subst (λ (l : List ℕ). IsPlaced c.args.page.now c.put_byte.new.buffer c.args.at l c.put_byte.result)
    (sym (decimal_digit c.args.worker (omega arith))) c.put_byte.ensures
