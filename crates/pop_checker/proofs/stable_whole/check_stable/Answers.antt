use Rattle.std.proofs.Common.{◌≡◌, true, false, rules}
use Rattle.std.proofs.lemmas.Result.{err_from_is_err_and}
use Rattle.pop_checker.proofs.Firsts.{not_combined, combined_by}
use Rattle.pop_checker.specs.ValidStable.{predicates_alone}
use Rattle.pop_checker.proofs.StableFirsts.{alone_over, valid_from}
use Rattle.pop_checker.proofs.stable_whole.check_stable.Goals as goal

pub returns-in_err-bound : goal.returns-in_err-bound
returns-in_err-bound c =
    let p = err_from_is_err_and c.from_residual.result c.from_residual.ensures.1 in
    record {
      valid = rw p.1 tt;
      bound = rw p.1 tt;
      fault = rw (p.1, p.2) (c.in_err-bound.ensures.fault c.args.pred.now);
      accepts = λ valid. rw (p.1, p.2) (c.in_err-bound.ensures.accepts (λ i leaf part l h k. valid.leaves i leaf part h k));
    }

pub returns-then-not-same : goal.returns-then-not-same
returns-then-not-same c =
    let no : c.net_pred_is-same.result ≡ false = search rules in
    let other = not_combined c.args.net.now (predicates_alone c.args.proof.now) c.args.pred.now c.net_pred_is-same.result (rw c.in_ok-alone.ensures at c.net_pred_is-same.ensures) no c.requires.variables (alone_over c.args.net.now c.args.proof.now c.requires.within) in
    record {
      valid = tt;
      bound = tt;
      fault = (c.in_ok-bound.ensures.valid, other);
      accepts = λ valid. absurd (other valid.combination);
    }

pub returns : goal.returns
returns c =
    let yes_it_is : c.net_pred_is-same.result ≡ true = search rules in
    let combines = combined_by c.args.net.now (predicates_alone c.args.proof.now) c.args.pred.now c.net_pred_is-same.result (rw c.in_ok-alone.ensures at c.net_pred_is-same.ensures) yes_it_is in
    record {
      valid = valid_from c.args.net.now c.args.proof.now c.args.pred.now c.requires.within.one_each c.in_ok-bound.ensures.valid combines;
      bound = c.in_ok-bound.ensures.bound;
      fault = tt;
      accepts = λ valid. tt;
    }
