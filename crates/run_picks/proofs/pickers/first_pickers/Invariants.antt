use Rattle.std.proofs.Common.{◌≡◌, ℕ, ◌<◌, get_or, length, List}
use Rattle.run_picks.specs.Picks.{first_state}
use Rattle.run_picks.proofs.pickers.first_pickers.Given as goal

abbrev pub invariant-workers : goal.invariant-workers
invariant-workers l = record {
  long : length l.pickers.items ≡ l.worker;
  first : (w : ℕ) (d : List ℕ) → w < length l.pickers.items → get_or l.pickers.items w d ≡ first_state l.spec.seed w;
}
