use Rattle.std.proofs.Common.{arith}
use Rattle.comp_powers_leaf.proofs.Building.{states-few}
use Rattle.comp_powers_leaf.proofs.Formed.{states-long, powers-formed}
use Rattle.comp_powers_leaf.proofs.RangeFound.{range-suffices}
use Rattle.comp_powers_leaf.proofs.Single.{moves-single}
use Rattle.comp_powers.proofs.Closing.{powers-valid}
use Rattle.comp_powers.proofs.Within.{powers-within}
use Rattle.comp_powers.proofs.law.powers_are_right.Goals as goal

pub returns-clause-right : goal.returns-clause-right
returns-clause-right c = λ coefs bound k spare is room. record {
  formed = powers-formed coefs bound k spare is room;
  few = (let long = states-long coefs bound k in let few = states-few coefs k in omega (arith, long, few));
  single = moves-single coefs k;
  valid = powers-valid coefs bound k spare is room;
  within = powers-within coefs bound k spare is room;
}

pub returns-clause-found : goal.returns-clause-found
returns-clause-found c = λ coefs bound k sum e narrow. range-suffices coefs bound k e sum.some sum.few narrow
