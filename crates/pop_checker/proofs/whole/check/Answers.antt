use Rattle.std.proofs.Common.{◌≡◌, true, false, rules}
use Rattle.std.proofs.lemmas.Result.{err_from_is_err_and}
use Rattle.pop_checker.proofs.Firsts.{right-valid, all_valid, within_over, not_combined, combined_by, valid_from}
use Rattle.pop_checker.proofs.Verdicts.{checked_by, right_by}
use Rattle.pop_checker.proofs.whole.check.Goals as goal

pub returns-in_err-bound : goal.returns-in_err-bound
returns-in_err-bound c =
    let p = err_from_is_err_and c.from_residual.result c.from_residual.ensures.1 in
    record {
      valid = rw p.1 tt;
      right = rw p.1 tt;
      fault = rw (p.1, p.2) (c.in_err-bound.ensures.fault c.args.pred);
      accepts = λ valid. rw (p.1, p.2) (c.in_err-bound.ensures.accepts (all_valid c.args.net c.args.proof.now c.args.pred valid));
      kept = rw p.1 tt;
    }

pub returns-then-not-same : goal.returns-then-not-same
returns-then-not-same c =
    let no : c.net_pred_is-same.result ≡ false = search rules in
    let other = not_combined c.args.net c.args.proof.now c.args.pred c.net_pred_is-same.result c.net_pred_is-same.ensures no c.requires.variables (within_over c.args.net c.args.proof.now c.requires.within) in
    record {
      valid = tt;
      right = tt;
      fault = (right-valid c.args.net c.args.proof.now _ c.in_ok-bound.ensures.right, other);
      accepts = λ valid. absurd (other valid.combination);
      kept = tt;
    }

pub returns : goal.returns
returns c =
    let yes_it_is : c.net_pred_is-same.result ≡ true = search rules in
    let valid = valid_from c.args.net c.args.proof.now c.args.pred c.requires.within.one_each c.in_ok-bound.ensures.right (combined_by c.args.net c.args.proof.now c.args.pred c.net_pred_is-same.result c.net_pred_is-same.ensures yes_it_is) in
    record {
      valid = valid;
      right = right_by c.args.net c.args.pred c.args.proof.now c.in_ok-bound.ensures.formed valid c.in_ok-bound.ensures.right;
      fault = tt;
      accepts = λ valid. tt;
      kept = search rules;
    }

pub new-requires : goal.new-requires
new-requires c =
    let yes_it_is : c.net_pred_is-same.result ≡ true = search rules in
    checked_by c.args.net c.args.pred c.args.proof.now c.in_ok-bound.bound c.in_ok-bound.ensures.formed c.requires.variables
    (valid_from c.args.net c.args.proof.now c.args.pred c.requires.within.one_each c.in_ok-bound.ensures.right (combined_by c.args.net c.args.proof.now c.args.pred c.net_pred_is-same.result c.net_pred_is-same.ensures yes_it_is))
    c.in_ok-bound.ensures.right c.in_ok-bound.ensures.bound
