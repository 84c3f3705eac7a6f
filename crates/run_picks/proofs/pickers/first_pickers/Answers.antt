use Rattle.std.proofs.Common.{◌≡◌, ℕ, ◌+◌, List, length, ap, sym, ◌∙◌, length-append}
use Rattle.run_picks.specs.Picks.{first_state}
use Rattle.run_picks.proofs.Turns.{each-push_is}
use Rattle.run_picks.proofs.pickers.first_pickers.Goals as goal

pub workers-preserved : goal.workers-preserved
workers-preserved c =
    let was = c.workers.invariant in
    let pickers = c.workers.pickers.items in
    let items = c.in_ok-push.ensures.items in
    record {
      long = ap length items ∙ length-append pickers _ ∙ ap (λ (n : ℕ). n + 1) was.long;
      first = each-push_is (λ (w : ℕ) (p : List ℕ). p ≡ first_state c.args.spec.now.seed w) pickers c.push.new.self.items _ items was.first (c.new.ensures.state ∙ ap (first_state c.args.spec.now.seed) (sym was.long));
    }
