use Rattle.comp_flock.proofs.TopFound.{top-found, top-every}
use Rattle.comp_flock.proofs.Valid.{prefix-right}
use Rattle.comp_flock.proofs.law.prefixes_are_right.Goals as goal

pub returns-clause-right : goal.returns-clause-right
returns-clause-right c = λ coefs bound top is. prefix-right coefs bound top is

pub returns-clause-top : goal.returns-clause-top
returns-clause-top c = λ coefs bound top sum e. top-found coefs bound top sum e

pub returns-clause-every : goal.returns-clause-every
returns-clause-every c = λ coefs bound are l. top-every coefs bound are l
